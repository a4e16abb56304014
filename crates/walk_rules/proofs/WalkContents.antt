-- What stands at a place after a stage can be spelled, and reads again from its bytes as a packet of its family.
use Rattle.std.proofs.Common.{◌≡◌, ℕ, Bool, true, false, List, Option, Some, None, slice_get, refl, sym, ◌∙◌, ap, subst, arith}
use Rattle.srv6_rules.specs.declared.family.Family.{Family}
use Rattle.srv6_rules.specs.declared.family.Family.TheVariants as families
use Rattle.srv6_rules.specs.declared.sid.SidEntry.{SidEntry}
use Rattle.srv6_rules.specs.CompressedStepsTerms.{SuitsCompression}
use Rattle.srv6_rules.specs.Packet.{Packet, Content, V6, V4, Unreadable, IsSpellable, read_as, content4_by, bytes_of}
use Rattle.srv6_rules.specs.PacketTerms.{IsContent}
use Rattle.srv6_rules.specs.Packet4.{Packet4, IsSpellable4, spelling4, destination4}
use Rattle.srv6_rules.specs.Endpoint.{Endpoint, Onward, Exposed, Delivered, Refused, at_sid, at_address}
use Rattle.srv6_rules.proofs.PublicLaws.{content_of_spelling_alone, read4_alone, lowered4_spellable, read_as_family6, read_as_family4, at_sid_spellable, at_sid_content, at_sid_exposed_back, at_sid_delivered_spellable, at_address_delivered}
use Rattle.net_model.specs.Network.{Network}
use Rattle.net_model.specs.NetworkKeeps.{Keeps}
use Rattle.net_model.proofs.PublicLaws.{sid_suits}
use Rattle.walk_rules.specs.declared.place.How.TheVariants.{Arrived}
use Rattle.walk_rules.specs.declared.place.Place.{Place}
use Rattle.walk_rules.specs.declared.place.Outcome.{Outcome}
use Rattle.walk_rules.specs.declared.place.Outcome.TheVariants as outcomes
use Rattle.walk_rules.specs.Way.{way_of}
use Rattle.walk_rules.specs.Treatment.{Gave, lowered, ttl_lowered, treated_at_address, treated_at_sid, free_step_of, allow_of}
use Rattle.walk_rules.specs.Walk.{far_end, arrival, next_place}
use Rattle.walk_rules.specs.WalkLawsTerms.{family_after}
use Rattle.walk_rules.proofs.Binding.{outer_of, onward_each}
use Rattle.walk_rules.proofs.Outers.{outer_spellable}
use Rattle.walk_rules.proofs.OutcomeFacts.{treated_each, treated4_each}

-- a content that can be spelled and, if something is so, reads again from its bytes as a packet of a family
abbrev IsBack : Type 0 → Family → Content → Type 0
IsBack If family content = IsContent content × (If → read_as family (bytes_of content) ≡ content)

-- the same where the packet stood at a place of a family
abbrev GaveBack : Place → Family → Gave → Type 0
GaveBack place family gave = IsBack (place.family ≡ family) (family_after place gave.outcome) gave.after

-- a packet reads again as one of its family
packet_back : (family : Family) (p : Packet) → IsSpellable p → IsBack (family ≡ families.V6) family (V6 p)
packet_back family p ok = (ok, λ e. rw e (content_of_spelling_alone p ok))

packet4_back : (family : Family) (p : Packet4) → IsSpellable4 p → IsBack (family ≡ families.V4) family (V4 p)
packet4_back family p ok = (ok, λ e. rw e (ap (content4_by (spelling4 p)) (read4_alone p ok)))

lowered_spellable : (lower : Bool) (p : Packet) → IsSpellable p → IsSpellable (lowered lower p)
lowered_spellable false p ok = ok
lowered_spellable true p ok =
    record {
      traffic_class = ok.traffic_class;
      flow_label = ok.flow_label;
      next_header = ok.next_header;
      hop_limit = omega (arith, ok.hop_limit);
      source = ok.source;
      destination = ok.destination;
      payload_len = ok.payload_len;
      payload = ok.payload;
    }

ttl_spellable : (lower : Bool) (p : Packet4) → IsSpellable4 p → IsSpellable4 (ttl_lowered lower p)
ttl_spellable false p ok = ok
ttl_spellable true p ok = lowered4_spellable p ok

same_back : (family : Family) (p q : Packet) → q ≡ p → IsSpellable p → IsBack (family ≡ families.V6) family (V6 q)
same_back family p q same ok = packet_back family q (subst IsSpellable (sym same) ok)

address_back : (net : Network) (place : Place) (p : Packet) (e : Endpoint) → IsSpellable p → at_address p ≡ e
    → GaveBack place families.V6 (treated_at_address net place.node p e)
address_back net place p (Onward q) ok same = packet_back place.family p ok
address_back net place p (Exposed family bytes) ok same = packet_back place.family p ok
address_back net place p (Delivered q) ok same = same_back place.family p q (at_address_delivered p q same) ok
address_back net place p (Refused reason at) ok same = packet_back place.family p ok

endpoint_back : (net : Network) (place : Place) (n : ℕ) (s : SidEntry) (allow : List ℕ) (p : Packet) (e : Endpoint)
    → Keeps net → SuitsCompression s → IsSpellable p → at_sid s allow p ≡ e
    → GaveBack place families.V6 (treated_at_sid net place.node n s.behaviour p e)
endpoint_back net place n s allow p (Onward q) keeps suits ok same =
    let fine : IsSpellable q = at_sid_spellable s allow p q suits ok same in
    onward_each net place.node n s.behaviour p q (GaveBack place families.V6)
    (λ plain. packet_back place.family q fine)
    (λ number named binds there fits. packet_back place.family (outer_of named s.behaviour q)
    (outer_spellable named s.behaviour q (keeps.policy number named there) fine fits))
    (λ reason. packet_back place.family p ok)
endpoint_back net place n s allow p (Exposed family bytes) keeps suits ok same =
    (at_sid_content s allow p family bytes ok same, λ v6. at_sid_exposed_back s allow p family bytes ok same)
endpoint_back net place n s allow p (Delivered q) keeps suits ok same =
    packet_back place.family q (at_sid_delivered_spellable s allow p q ok same)
endpoint_back net place n s allow p (Refused reason at) keeps suits ok same = packet_back place.family p ok

free_packet : (net : Network) (place : Place) (p : Packet) (choice : ℕ) → Keeps net → IsSpellable p
    → GaveBack place families.V6 (free_step_of net place (V6 p) choice)
free_packet net place p choice keeps ok =
    let allow : List ℕ = allow_of (slice_get net.nodes place.node) in
    treated_each (GaveBack place families.V6) net place.node (way_of net place p.destination) p choice
    (record {
      drop = λ reason at. packet_back place.family p ok;
      send = λ set lower over. packet_back place.family (lowered lower p) (lowered_spellable lower p ok);
      own = address_back net place p (at_address p) ok refl;
      sid = λ n s into there. endpoint_back net place n s allow p (at_sid s allow p) keeps (sid_suits net n s keeps there) ok refl;
    })

free_packet4 : (net : Network) (place : Place) (p : Packet4) (choice : ℕ) → IsSpellable4 p
    → GaveBack place families.V4 (free_step_of net place (V4 p) choice)
free_packet4 net place p choice ok =
    treated4_each (GaveBack place families.V4) net place.node (way_of net place (destination4 p)) p choice
    (record {
      drop = λ reason. packet4_back place.family p ok;
      send = λ set lower over. packet4_back place.family (ttl_lowered lower p) (ttl_spellable lower p ok);
    })

-- what stands there stays a content that bytes can spell
pub free_content : (net : Network) (place : Place) (content : Content) (choice : ℕ) → Keeps net → IsContent content
    → IsContent (free_step_of net place content choice).after
free_content net place (Unreadable bytes reason) choice keeps is = is
free_content net place (V6 p) choice keeps is = (free_packet net place p choice keeps is).0
free_content net place (V4 p) choice keeps is = (free_packet4 net place p choice is).0

-- what reads again from its bytes does so after the stage
pub free_back : (net : Network) (place : Place) (content : Content) (choice : ℕ) → Keeps net → IsContent content
    → read_as place.family (bytes_of content) ≡ content
    → let gave = free_step_of net place content choice in read_as (family_after place gave.outcome) (bytes_of gave.after) ≡ gave.after
free_back net place (Unreadable bytes reason) choice keeps is same = same
free_back net place (V6 p) choice keeps is same =
    (free_packet net place p choice keeps is).1 (read_as_family6 place.family (bytes_of (V6 p)) p same)
free_back net place (V4 p) choice keeps is same =
    (free_packet4 net place p choice is).1 (read_as_family4 place.family (bytes_of (V4 p)) p same)

-- the next place has the family of what stands there
next_family : (place next : Place) (family : Family) → place.family ≡ family → Some place ≡ Some next → next.family ≡ family
next_family place next family of e = let same : place ≡ next = cc in sym (ap (λ (q : Place). q.family) same) ∙ of

arrival_family : (place next : Place) (to : Option ℕ) → arrival to place ≡ Some next → next.family ≡ place.family
arrival_family place next None e = cc
arrival_family place next (Some node) e =
    next_family (record { node = node; how = Arrived 0; family = place.family }) next place.family refl e

pub next_place_family : (net : Network) (place next : Place) (outcome : Outcome) → next_place net place outcome ≡ Some next
    → next.family ≡ family_after place outcome
next_place_family net place next (outcomes.Again n how) e =
    next_family (record { node = place.node; how = how; family = place.family }) next place.family refl e
next_place_family net place next (outcomes.Hand n how family) e =
    next_family (record { node = place.node; how = how; family = family }) next family refl e
next_place_family net place next (outcomes.Send link) e = arrival_family place next (far_end (slice_get net.links link)) e
next_place_family net place next outcomes.Local e = cc
next_place_family net place next (outcomes.Drop reason error) e = cc
