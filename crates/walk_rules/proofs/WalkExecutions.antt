-- Where a stage executes a SID: the SID is there and stands at the node, and the hop limit falls by one before a packet
-- goes on.
use Rattle.std.proofs.Common.{◌≡◌, ℕ, ◌+◌, ◌<◌, List, Some, None, slice_get, refl, sym, ◌∙◌, subst, ap}
use Rattle.srv6_rules.specs.declared.family.Family.{Family}
use Rattle.srv6_rules.specs.declared.sid.SidEntry.{SidEntry}
use Rattle.srv6_rules.specs.Behaviours.{behaviour_policy}
use Rattle.srv6_rules.specs.Packet.{Packet, Content, V6, V4, Unreadable}
use Rattle.srv6_rules.specs.Packet4.{destination4}
use Rattle.srv6_rules.specs.Endpoint.{Endpoint, Onward, Exposed, Delivered, Refused, at_sid, at_address}
use Rattle.srv6_rules.proofs.PublicLaws.{at_sid_lowers}
use Rattle.net_model.specs.declared.parts.NamedPolicy.{NamedPolicy}
use Rattle.net_model.specs.Network.{Network}
use Rattle.walk_rules.specs.declared.place.How.{How}
use Rattle.walk_rules.specs.declared.place.Place.{Place}
use Rattle.walk_rules.specs.declared.place.Outcome.{Outcome}
use Rattle.walk_rules.specs.declared.place.Outcome.TheVariants as outcomes
use Rattle.walk_rules.specs.Way.{Into, way_of}
use Rattle.walk_rules.specs.WayTerms.{StandsAt}
use Rattle.walk_rules.specs.Treatment.{Gave, goes, onward_from, exposed_from, treated_at_address, treated_at_sid, free_step_of, allow_of}
use Rattle.walk_rules.specs.WalkLawsTerms.{IsLoweredByOne, PushesOne, Executes}
use Rattle.walk_rules.proofs.Binding.{outer_of, onward_each}
use Rattle.walk_rules.proofs.OutcomeFacts.{at_entry, treated_each, treated4_each}
use Rattle.walk_rules.proofs.Routing.{way_into}

-- what a stage gave is an execution where its outcome says so
abbrev ExecutesBy : Network → Place → Content → Gave → Outcome → Type 0
ExecutesBy net place content gave (outcomes.Again n how) = Executes onward_from net place content gave n how
ExecutesBy net place content gave (outcomes.Hand n how family) = Executes exposed_from net place content gave n how
ExecutesBy net place content gave (outcomes.Send link) = Unit {0}
ExecutesBy net place content gave outcomes.Local = Unit {0}
ExecutesBy net place content gave (outcomes.Drop reason error) = Unit {0}

abbrev IfExecutes : Network → Place → Content → Gave → Type 0
IfExecutes net place content gave = ExecutesBy net place content gave gave.outcome

address_executes : (net : Network) (place : Place) (content : Content) (p : Packet) (e : Endpoint)
    → IfExecutes net place content (treated_at_address net place.node p e)
address_executes net place content p (Onward q) = tt
address_executes net place content p (Exposed family bytes) = tt
address_executes net place content p (Delivered q) = tt
address_executes net place content p (Refused reason at) = tt

-- a packet that stays at the node, with whatever stands there after
onward_executes : (net : Network) (place : Place) (p : Packet) (n : ℕ) (s : SidEntry) (after : Content)
    → way_of net place p.destination ≡ Into n → slice_get net.sids n ≡ Some s → s.node ≡ place.node
    → goes (outcomes.Again n (onward_from n s.behaviour)) after ≡ at_entry net place.node n s p
    → IfExecutes net place (V6 p) (goes (outcomes.Again n (onward_from n s.behaviour)) after)
onward_executes net place p n s after way there stands same =
    record {
      packet = p;
      is_packet = refl;
      way = way;
      sid = s;
      is_there = there;
      stands = stands;
      goes_on = refl;
      gives = same;
    }

endpoint_executes : (net : Network) (place : Place) (p : Packet) (n : ℕ) (s : SidEntry) (e : Endpoint)
    → way_of net place p.destination ≡ Into n → slice_get net.sids n ≡ Some s → s.node ≡ place.node
    → treated_at_sid net place.node n s.behaviour p e ≡ at_entry net place.node n s p
    → IfExecutes net place (V6 p) (treated_at_sid net place.node n s.behaviour p e)
endpoint_executes net place p n s (Onward q) way there stands same =
    onward_each net place.node n s.behaviour p q
    (λ gave. gave ≡ at_entry net place.node n s p → IfExecutes net place (V6 p) gave)
    (λ plain is. onward_executes net place p n s (V6 q) way there stands is)
    (λ number named binds policy fits is. onward_executes net place p n s (V6 (outer_of named s.behaviour q)) way there stands is)
    (λ reason is. tt)
    same
endpoint_executes net place p n s (Exposed family bytes) way there stands same =
    record {
      packet = p;
      is_packet = refl;
      way = way;
      sid = s;
      is_there = there;
      stands = stands;
      goes_on = refl;
      gives = same;
    }
endpoint_executes net place p n s (Delivered q) way there stands same = tt
endpoint_executes net place p n s (Refused reason at) way there stands same = tt

-- the SID that is there is the one that stands at the node
stands_there : (net : Network) (node n : ℕ) (s : SidEntry) → slice_get net.sids n ≡ Some s → StandsAt net node n → s.node ≡ node
stands_there net node n s there at =
    let same : s ≡ at.sid = cc in ap (λ (x : SidEntry). x.node) same ∙ at.stands

free_executes : (net : Network) (place : Place) (content : Content) (choice : ℕ)
    → IfExecutes net place content (free_step_of net place content choice)
free_executes net place (Unreadable bytes reason) choice = tt
free_executes net place (V6 p) choice =
    treated_each (IfExecutes net place (V6 p)) net place.node (way_of net place p.destination) p choice
    (record {
      drop = λ reason at. tt;
      send = λ set lower e. tt;
      own = address_executes net place (V6 p) p (at_address p);
      sid = λ n s into there.
          endpoint_executes net place p n s (at_sid s (allow_of (slice_get net.nodes place.node)) p) into there
          (stands_there net place.node n s there (way_into net place p.destination n into)) refl;
    })
free_executes net place (V4 p) choice =
    treated4_each (IfExecutes net place (V4 p)) net place.node (way_of net place (destination4 p)) p choice
    (record { drop = λ reason. tt; send = λ set lower e. tt })

-- Again names the SID that was executed
pub free_again : (net : Network) (place : Place) (content : Content) (choice n : ℕ) (how : How)
    → (free_step_of net place content choice).outcome ≡ outcomes.Again n how
    → Executes onward_from net place content (free_step_of net place content choice) n how
free_again net place content choice n how e =
    subst (λ (o : Outcome). ExecutesBy net place content (free_step_of net place content choice) o) e
    (free_executes net place content choice)

-- Hand names the SID that was executed
pub free_hand : (net : Network) (place : Place) (content : Content) (choice n : ℕ) (how : How) (family : Family)
    → (free_step_of net place content choice).outcome ≡ outcomes.Hand n how family
    → Executes exposed_from net place content (free_step_of net place content choice) n how
free_hand net place content choice n how family e =
    subst (λ (o : Outcome). ExecutesBy net place content (free_step_of net place content choice) o) e
    (free_executes net place content choice)

-- a packet that goes on from a SID had a hop limit above 1, which is one less
abbrev IsOneLess : Packet → Packet → Type 0
IsOneLess p q = (1 < p.hop_limit) × (q.hop_limit + 1 ≡ p.hop_limit)

sid_less : (s : SidEntry) (allow : List ℕ) (p q : Packet) → at_sid s allow p ≡ Onward q → IsOneLess p q
sid_less s allow p q e = let less = at_sid_lowers s allow p q e in (less.0, sym less.1)

-- of an execution after which the packet stays at the node, by the policy that the SID binds
abbrev After : Network → Place → Packet → ℕ → SidEntry → Content → Type 0
After net place p n s after =
    (behaviour_policy s.behaviour ≡ None → IsLoweredByOne (V6 p) after)
    × ((number : ℕ) → behaviour_policy s.behaviour ≡ Some number → PushesOne net place (V6 p) after n)

abbrev AgainAfter : Network → Place → Packet → ℕ → SidEntry → Outcome → Content → Type 0
AgainAfter net place p n s (outcomes.Again m how) after = After net place p n s after
AgainAfter net place p n s (outcomes.Hand m how family) after = Unit {0}
AgainAfter net place p n s (outcomes.Send link) after = Unit {0}
AgainAfter net place p n s outcomes.Local after = Unit {0}
AgainAfter net place p n s (outcomes.Drop reason error) after = Unit {0}

abbrev IfAgain : Network → Place → Packet → ℕ → SidEntry → Gave → Type 0
IfAgain net place p n s gave = AgainAfter net place p n s gave.outcome gave.after

module _ (net : Network) (place : Place) (n : ℕ) (s : SidEntry) (p : Packet) (there : slice_get net.sids n ≡ Some s) where
  abbrev allow : List ℕ
  allow = allow_of (slice_get net.nodes place.node)

  pushes_one : (q : Packet) (number : ℕ) (named : NamedPolicy) → at_sid s allow p ≡ Onward q → behaviour_policy s.behaviour ≡ Some number
      → slice_get net.policies number ≡ Some named → PushesOne net place (V6 p) (V6 (outer_of named s.behaviour q)) n
  pushes_one q number named same binds policy =
      record {
        packet = p;
        is_packet = refl;
        sid = s;
        is_there = there;
        stepped = q;
        step = same;
        lowered = sid_less s allow p q same;
        number = number;
        binds = binds;
        policy = named;
        policy_there = policy;
        pushed = refl;
      }

  endpoint_after : (e : Endpoint) → at_sid s allow p ≡ e → IfAgain net place p n s (treated_at_sid net place.node n s.behaviour p e)
  endpoint_after (Onward q) same =
      onward_each net place.node n s.behaviour p q (IfAgain net place p n s)
      (λ plain. (λ unbound. sid_less s allow p q same, λ number bound. cc))
      (λ number named binds policy fits. (λ unbound. cc, λ other bound. pushes_one q number named same binds policy))
      (λ reason. tt)
  endpoint_after (Exposed family bytes) same = tt
  endpoint_after (Delivered q) same = tt
  endpoint_after (Refused reason at) same = tt

executes_after : (net : Network) (place : Place) (content : Content) (gave : Gave) (n : ℕ) (how : How) (s : SidEntry)
    → slice_get net.sids n ≡ Some s → Executes onward_from net place content gave n how → gave.outcome ≡ outcomes.Again n how
    → (packet : Packet) × (content ≡ V6 packet) × After net place packet n s gave.after
executes_after net place content gave n how s there x e =
    let allow : List ℕ = allow_of (slice_get net.nodes place.node) in
    let one : x.sid ≡ s = let both : Some x.sid ≡ Some s = sym x.is_there ∙ there in cc in
    let gives : gave ≡ treated_at_sid net place.node n s.behaviour x.packet (at_sid s allow x.packet) =
    x.gives ∙ ap (λ (t : SidEntry). treated_at_sid net place.node n t.behaviour x.packet (at_sid t allow x.packet)) one in
    let here : IfAgain net place x.packet n s gave =
    subst (IfAgain net place x.packet n s) (sym gives) (endpoint_after net place n s x.packet there (at_sid s allow x.packet) refl) in
    (x.packet, x.is_packet, subst (λ (o : Outcome). AgainAfter net place x.packet n s o gave.after) e here)

-- an execution after which the packet stays at the node lowers the hop limit by one
pub free_less : (net : Network) (place : Place) (content : Content) (choice n : ℕ) (how : How) (s : SidEntry)
    → slice_get net.sids n ≡ Some s → behaviour_policy s.behaviour ≡ None
    → (free_step_of net place content choice).outcome ≡ outcomes.Again n how
    → IsLoweredByOne content (free_step_of net place content choice).after
free_less net place content choice n how s there unbound e =
    let gave : Gave = free_step_of net place content choice in
    let x = executes_after net place content gave n how s there (free_again net place content choice n how e) e in
    subst (λ (c : Content). IsLoweredByOne c gave.after) (sym x.1) (x.2.0 unbound)

-- and that of a binding SID then pushes one header
pub free_pushes : (net : Network) (place : Place) (content : Content) (choice n : ℕ) (how : How) (s : SidEntry) (number : ℕ)
    → slice_get net.sids n ≡ Some s → behaviour_policy s.behaviour ≡ Some number
    → (free_step_of net place content choice).outcome ≡ outcomes.Again n how
    → PushesOne net place content (free_step_of net place content choice).after n
free_pushes net place content choice n how s number there binds e =
    let gave : Gave = free_step_of net place content choice in
    let x = executes_after net place content gave n how s there (free_again net place content choice n how e) e in
    subst (λ (c : Content). PushesOne net place c gave.after n) (sym x.1) (x.2.1 number binds)
