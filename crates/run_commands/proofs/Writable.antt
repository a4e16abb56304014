-- What a stage sends can be written: its link is there, and its packet is no longer than a packet can be.
use Rattle.std.proofs.Common.{◌≡◌, ℕ, zero, suc, ◌<◌, ◌≤◌, Bool, true, false, List, [], ◌∷◌, length, drop, take, ◌^◌, length-append, slice_get, Option, Some, None, sym, ap, ◌∙◌, min, arith, subst}
use Rattle.std.specs.Prelude.{Result, Ok, Err, IfOk}
use Rattle.std.proofs.lemmas.List.{take_min, take-take}
use Rattle.std.proofs.lemmas.List.Elements.{All-drop}
use Rattle.srv6_rules.specs.declared.sid.Behaviour.{Behaviour}
use Rattle.srv6_rules.specs.declared.reason.Reason.{Reason}
use Rattle.srv6_rules.specs.declared.reason.Reason.TheVariants as reasons
use Rattle.srv6_rules.specs.declared.sid.SidEntry.{SidEntry}
use Rattle.srv6_rules.specs.Behaviours.{behaviour_policy, behaviour_reduces}
use Rattle.srv6_rules.specs.declared.family.Family.{Family}
use Rattle.srv6_rules.specs.declared.family.Family.TheVariants as families
use Rattle.srv6_rules.specs.Policies.{Encapsulating, Outer, TooBig, InnerHop, pushed_by}
use Rattle.srv6_rules.specs.Packet.{Packet, Content, V6, V4, Unreadable, bytes_of, entered, most_len, read_as, spelling}
use Rattle.srv6_rules.specs.PacketTerms.{IsContent}
use Rattle.srv6_rules.specs.Packet as packets
use Rattle.srv6_rules.specs.Packet4.{Packet4, IsSpellable4, spelling4, destination4, total_len}
use Rattle.srv6_rules.specs.Endpoint.{Endpoint, Onward, Exposed, Delivered, Refused, at_sid, at_address}
use Rattle.srv6_rules.proofs.PublicLaws.{length_spelling, two_number_below}
use Rattle.net_model.specs.declared.parts.Link.{Link}
use Rattle.net_model.specs.declared.parts.NamedPolicy.{NamedPolicy}
use Rattle.net_model.specs.Network.{Network}
use Rattle.net_model.specs.NetworkKeeps.{Keeps, StartsAt}
use Rattle.walk_rules.specs.declared.place.Place.{Place}
use Rattle.walk_rules.specs.declared.place.Outcome.{Outcome}
use Rattle.walk_rules.specs.declared.place.Outcome.TheVariants as outcomes
use Rattle.walk_rules.specs.Way.{Way, NoWay, Over, Own, Into, way_of}
use Rattle.walk_rules.specs.Treatment.{Gave, step_of, treated_at_address, treated_in, treated_at_sid, pushed_at_sid, bound_at_sid, onward_at_sid, allow_of}
use Rattle.walk_rules.specs.Relation.{Treats, Treats4, IsFreeStage, IsStage, IsPlace}
use Rattle.walk_rules.specs.Walk.{far_end, left_or_stages, end_by}
use Rattle.walk_rules.proofs.PublicLaws.{stage_member, hops_start, stage_step, step_content}
use Rattle.command_output.specs.Sent.{IsEnd}
use Rattle.pcap_io.specs.declared.frame.Body.TheVariants as bodies
use Rattle.run_commands.specs.AtNode.{admission_at_node}
use Rattle.run_commands.specs.WrittenCaptureTerms.{IsWritable}
use Rattle.run_commands.specs.AdmissionTerms.{AllEnterIn}
use Rattle.net_model.specs.declared.limits.TheConstants.{MAX_LINKS}

-- what holds of what came, by what else does
pub in_ok : {T E : Type 0} → (P Q : T → Type 0) (r : Result T E) → ((t : T) → P t → Q t) → IfOk r P → IfOk r Q
in_ok P Q (Ok t) by h = by t h
in_ok P Q (Err e) by h = tt

abbrev IsPacket : Content → Type 0
IsPacket (V6 p) = Unit {0}
IsPacket (V4 p) = Unit {0}
IsPacket (Unreadable bytes reason) = ⊥

drop_sends : (reason : Reason) (told : Bool) (link : ℕ) → outcomes.Send link ≡ outcomes.Drop reason told → ⊥
drop_sends reason told link h = cc

address_sends : (net : Network) (node : ℕ) (p : Packet) (e : Endpoint) (link : ℕ)
    → outcomes.Send link ≡ (treated_at_address net node p e).outcome → ⊥
address_sends net node p (Onward q) link h = drop_sends _ _ link h
address_sends net node p (Exposed family bytes) link h = drop_sends _ _ link h
address_sends net node p (Delivered q) link h = cc
address_sends net node p (Refused reason at) link h = drop_sends _ _ link h

pushed_sends : (net : Network) (node n : ℕ) (b : Behaviour) (p : Packet) (e : Encapsulating) (link : ℕ)
    → outcomes.Send link ≡ (pushed_at_sid net node n b p e).outcome → ⊥
pushed_sends net node n b p (Outer q) link h = cc
pushed_sends net node n b p (TooBig length) link h = drop_sends _ _ link h
pushed_sends net node n b p InnerHop link h = drop_sends _ _ link h

bound_sends : (net : Network) (node n : ℕ) (b : Behaviour) (p q : Packet) (named : Option NamedPolicy) (link : ℕ)
    → outcomes.Send link ≡ (bound_at_sid net node n b p q named).outcome → ⊥
bound_sends net node n b p q None link h = drop_sends _ _ link h
bound_sends net node n b p q (Some named) link h =
    pushed_sends net node n b p (pushed_by named.policy (behaviour_reduces b) families.V6 (spelling q)) link h

onward_sends : (net : Network) (node n : ℕ) (b : Behaviour) (p q : Packet) (policy : Option ℕ) (link : ℕ)
    → outcomes.Send link ≡ (onward_at_sid net node n b p q policy).outcome → ⊥
onward_sends net node n b p q None link h = cc
onward_sends net node n b p q (Some number) link h = bound_sends net node n b p q (slice_get net.policies number) link h

endpoint_sends : (net : Network) (node n : ℕ) (b : Behaviour) (p : Packet) (e : Endpoint) (link : ℕ)
    → outcomes.Send link ≡ (treated_at_sid net node n b p e).outcome → ⊥
endpoint_sends net node n b p (Onward q) link h = onward_sends net node n b p q (behaviour_policy b) link h
endpoint_sends net node n b p (Exposed family bytes) link h = cc
endpoint_sends net node n b p (Delivered q) link h = cc
endpoint_sends net node n b p (Refused reason at) link h = drop_sends _ _ link h

sid_sends : (net : Network) (node n : ℕ) (s : Option SidEntry) (p : Packet) (link : ℕ)
    → outcomes.Send link ≡ (treated_in net node n s p).outcome → ⊥
sid_sends net node n None p link = λ h. drop_sends _ _ link h
sid_sends net node n (Some s) p link =
    endpoint_sends net node n s.behaviour p (at_sid s (allow_of (slice_get net.nodes node)) p) link

way_packet : (net : Network) (node : ℕ) (w : Way) (p : Packet) (link : ℕ) (after : Content) (error : Option Packet)
    → Treats net node w p (outcomes.Send link) after error → IsPacket after
way_packet net node (NoWay reason) p link after error h = absurd (drop_sends reason _ link h.0)
way_packet net node (Over set true) p link after error h = subst IsPacket (sym h.2) tt
way_packet net node (Over set false) p link after error h = subst IsPacket (sym h.1) tt
way_packet net node Own p link after error h = absurd (address_sends net node p (at_address p) link h.0)
way_packet net node (Into n) p link after error h = absurd (sid_sends net node n (slice_get net.sids n) p link h.0)

way4_packet : (net : Network) (node : ℕ) (w : Way) (p : Packet4) (link : ℕ) (after : Content) (error : Option Packet)
    → Treats4 net node w p (outcomes.Send link) after error → IsPacket after
way4_packet net node (NoWay reason) p link after error h = absurd (drop_sends reason _ link h.0)
way4_packet net node (Over set true) p link after error h = subst IsPacket (sym h.2) tt
way4_packet net node (Over set false) p link after error h = subst IsPacket (sym h.1) tt
way4_packet net node Own p link after error h = absurd (drop_sends reasons.NoRoute _ link h.0)
way4_packet net node (Into n) p link after error h = absurd (drop_sends reasons.NoRoute _ link h.0)

stage_packet : (net : Network) (place : Place) (content : Content) (link : ℕ) (after : Content) (error : Option Packet)
    → IsFreeStage net place content (outcomes.Send link) after error → IsPacket after
stage_packet net place (Unreadable bytes reason) link after error h = absurd (drop_sends reason _ link h.0)
stage_packet net place (V6 p) link after error h = way_packet net place.node (way_of net place p.destination) p link after error h
stage_packet net place (V4 p) link after error h =
    way4_packet net place.node (way_of net place (destination4 p)) p link after error h

-- an IPv4 packet is no longer than it states
packet4_fits : (p : Packet4) → IsSpellable4 p → length (spelling4 p) ≤ most_len
unfolding total_len packets.two_number
packet4_fits p is =
    let stated = is.total in
    let below : total_len p.header < 2 ^ 16 = two_number_below (drop 2 p.header) (All-drop (λ b. b < 2 ^ 8) 2 p.header is.header) in
    omega (arith, length-append p.header p.payload)

packet_fits : (content : Content) → IsPacket content → IsContent content → length (bytes_of content) ≤ most_len
packet_fits (V6 p) packet is = let small = is.payload_len in omega (arith, length_spelling p)
packet_fits (V4 p) packet is = packet4_fits p is
packet_fits (Unreadable bytes reason) packet is = absurd packet

within : (links : List Link) (n : ℕ) (l : Link) → slice_get links n ≡ Some l → n < length links
within [] n l h = cc
within (m ∷ ms) zero l h = omega arith
within (m ∷ ms) (suc n) l h = omega (arith, within ms n l h)

link_fits : (net : Network) (node n : ℕ) → Keeps net → StartsAt net.links node n → n < MAX_LINKS
link_fits net node n keeps there = omega (arith, within net.links n there.0 there.1, keeps.link_count)

writable : (net : Network) (place : Place) (content : Content) (outcome : Outcome) (after : Content) (error : Option Packet)
    → Keeps net → IsPlace net place → IsStage net place content outcome after error → IsContent after → IsWritable outcome (bytes_of after)
writable net place content (outcomes.Send link) after error keeps is stage fits = (
  link_fits net place.node link keeps (hops_start net place content link keeps is (stage_member net place content link after error stage)),
  packet_fits after (stage_packet net place content link after error stage.0) fits,
)
writable net place content (outcomes.Again sid how) after error keeps is stage fits = tt
writable net place content (outcomes.Hand sid how family) after error keeps is stage fits = tt
writable net place content outcomes.Local after error keeps is stage fits = tt
writable net place content (outcomes.Drop reason told) after error keeps is stage fits = tt

step_writable : (net : Network) (place : Place) (content : Content) (choice : ℕ) → Keeps net → IsPlace net place → IsContent content
    → let gave = step_of net place content choice in IsWritable gave.outcome (bytes_of gave.after)
step_writable net place content choice keeps is fits =
    let gave = step_of net place content choice in
    writable net place content gave.outcome gave.after gave.error keeps is
    (stage_step net place content choice keeps is) (step_content net place content choice keeps fits)

pub gave_writable : (net : Network) (place : Place) (content : Content) (choice : ℕ) (gave : Gave)
    → gave ≡ step_of net place content choice → Keeps net → IsPlace net place → IsContent content
    → IsWritable gave.outcome (bytes_of gave.after)
gave_writable net place content choice gave gives keeps is fits =
    subst (λ (g : Gave). IsWritable g.outcome (bytes_of g.after)) (sym gives) (step_writable net place content choice keeps is fits)

-- the end of a walk names what is there

left_within : (net : Network) (link : ℕ) (end : Option ℕ) → link < length net.links → IsEnd net (left_or_stages link end)
left_within net link None h = h
left_within net link (Some node) h = tt

pub end_within : (net : Network) (place : Place) (content : Content) (outcome : Outcome) (after : Content) (error : Option Packet)
    → Keeps net → IsPlace net place → IsStage net place content outcome after error → IsEnd net (end_by net place outcome)
end_within net place content (outcomes.Send link) after error keeps is stage =
    let there = hops_start net place content link keeps is (stage_member net place content link after error stage) in
    left_within net link (far_end (slice_get net.links link)) (within net.links link there.0 there.1)
end_within net place content (outcomes.Again sid how) after error keeps is stage = tt
end_within net place content (outcomes.Hand sid how family) after error keeps is stage = tt
end_within net place content outcomes.Local after error keeps is stage = is.0
end_within net place content (outcomes.Drop reason told) after error keeps is stage = is.0

-- where what enters at a node stands is a place of the network
pub at_node_within : (net : Network) (node : ℕ) → node < length net.nodes → AllEnterIn net (admission_at_node node)
at_node_within net node there (bodies.V6 packet) = (there, tt)
at_node_within net node there (bodies.V4 packet) = (there, tt)
at_node_within net node there bodies.ShortFrame = tt
at_node_within net node there bodies.NotIp = tt

-- of bytes that enter a node no more than a longest packet's are looked at
pub entered_cut : (family : Family) (bytes cut : List ℕ) (len : ℕ) → len ≡ min most_len (length bytes) → cut ≡ take len bytes
    → entered family cut ≡ entered family bytes
entered_cut family bytes cut len least is =
    let first : cut ≡ take most_len bytes = is ∙ (ap (λ (n : ℕ). take n bytes) least ∙ take_min most_len bytes) in
    ap (read_as family) (ap (take most_len) first ∙ take-take most_len most_len bytes (omega arith))
