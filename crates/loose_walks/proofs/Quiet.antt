-- What sends nothing stops, and where sent packets go.
use Rattle.std.proofs.Common.{◌≡◌, ℕ, ◌%◌, ◌<◌, ◌==◌, Bool, true, false, if◌then◌else◌, List, [], ◌∷◌, ◌++◌, map, length, slice_index, slice_get, Option, Some, None, refl, sym, ◌∙◌, ap, subst, arith, mod-lt, append_assoc}
use Rattle.std.proofs.lemmas.List.{get_or-map, length-map}
use Rattle.srv6_rules.specs.Packet.{Packet, spelling}
use Rattle.srv6_rules.specs.Behaviours.{behaviour_policy, behaviour_reduces}
use Rattle.srv6_rules.specs.declared.family.Family.TheVariants as families
use Rattle.srv6_rules.specs.Policies.{Encapsulating, Outer, TooBig, InnerHop, pushed_by}
use Rattle.srv6_rules.specs.Endpoint.{Endpoint, Onward, Exposed, Delivered, Refused, at_sid}
use Rattle.srv6_rules.specs.declared.sid.Behaviour.{Behaviour}
use Rattle.srv6_rules.specs.declared.sid.SidEntry.{SidEntry}
use Rattle.net_model.specs.declared.parts.Link.{Link}
use Rattle.net_model.specs.declared.parts.NamedPolicy.{NamedPolicy}
use Rattle.net_model.specs.Network.{Network}
use Rattle.net_model.specs.NetworkKeeps.{Keeps, EndsElsewhere}
use Rattle.walk_rules.specs.declared.place.Outcome.{Outcome}
use Rattle.walk_rules.specs.declared.place.Outcome.TheVariants as outcomes
use Rattle.walk_rules.specs.Treatment.{allow_of, treated_at_address, pushed_at_sid, bound_at_sid, onward_at_sid, treated_at_sid, treated_in}
use Rattle.walk_rules.specs.Walk.{Stage, far_end}
use Rattle.intent_traces.specs.declared.trace_steps.TraceStep.{TraceStep}
use Rattle.intent_traces.specs.declared.trace_steps.TraceStep.TheVariants.{Links, Function, Reach}
use Rattle.intent_traces.specs.Traces.{Ends, StepEvent, Crossed, Executed, has_link, left_by_reach, left_behind}
use Rattle.intent_traces.proofs.TraceParts.{if_some, some_same}
use Rattle.choice_graph.specs.GraphWalksTerms.{Picks, later, member_of, End, over}
use Rattle.loose_walks.specs.WalkStops.{ends_in}
use Rattle.loose_walks.specs.WalkStopsTerms.{SendsNothing, Stop, stop_by}
use Rattle.loose_walks.specs.WayGraphsTerms.{IsLeft}

pub quiet_stops : (to : Ends) (rest : List TraceStep → Option Stop) (ts : List TraceStep) (s : Stage) (o : Outcome) → SendsNothing o
    → stop_by to rest ts s o ≡ Some (record { stage = s; left = ts })
quiet_stops to rest ts s (outcomes.Send link) q = absurd q
quiet_stops to rest ts s (outcomes.Again n how) q = refl
quiet_stops to rest ts s (outcomes.Hand n how family) q = refl
quiet_stops to rest ts s outcomes.Local q = refl
quiet_stops to rest ts s (outcomes.Drop reason error) q = refl

pub address_quiet : (net : Network) (node : ℕ) (p : Packet) (e : Endpoint) → SendsNothing (treated_at_address net node p e).outcome
address_quiet net node p (Onward q) = tt
address_quiet net node p (Exposed family bytes) = tt
address_quiet net node p (Delivered q) = tt
address_quiet net node p (Refused reason at) = tt

pushed_quiet : (net : Network) (node n : ℕ) (b : Behaviour) (p : Packet) (e : Encapsulating)
    → SendsNothing (pushed_at_sid net node n b p e).outcome
pushed_quiet net node n b p (Outer outer) = tt
pushed_quiet net node n b p (TooBig long) = tt
pushed_quiet net node n b p InnerHop = tt

onward_quiet : (net : Network) (node n : ℕ) (b : Behaviour) (p q : Packet) (o : Option ℕ)
    → SendsNothing (onward_at_sid net node n b p q o).outcome
onward_quiet net node n b p q None = tt
onward_quiet net node n b p q (Some number) = by_policy (slice_get net.policies number)
  where
    by_policy : (o : Option NamedPolicy) → SendsNothing (bound_at_sid net node n b p q o).outcome
    by_policy None = tt
    by_policy (Some named) = pushed_quiet net node n b p (pushed_by named.policy (behaviour_reduces b) families.V6 (spelling q))

sid_quiet : (net : Network) (node n : ℕ) (b : Behaviour) (p : Packet) (e : Endpoint)
    → SendsNothing (treated_at_sid net node n b p e).outcome
sid_quiet net node n b p (Onward q) = onward_quiet net node n b p q (behaviour_policy b)
sid_quiet net node n b p (Exposed family bytes) = tt
sid_quiet net node n b p (Delivered q) = tt
sid_quiet net node n b p (Refused reason at) = tt

pub into_quiet : (net : Network) (node n : ℕ) (o : Option SidEntry) (p : Packet) → SendsNothing (treated_in net node n o p).outcome
into_quiet net node n None p = tt
into_quiet net node n (Some s) p = sid_quiet net node n s.behaviour p (at_sid s (allow_of (slice_get net.nodes node)) p)

-- ---- steps that are left

pub left_steps : (to : Ends) (ts us : List TraceStep) (e : StepEvent) → left_behind to ts e ≡ Some us → IsLeft ts us
left_steps to [] us e h = absurd (cc)
left_steps to (Links set ∷ ts) us (Crossed link) h =
    let i = if_some (has_link set link) (Some ts) us h in
    (Links set ∷ [], ap (λ (xs : List TraceStep). Links set ∷ xs) (some_same ts us i.1))
left_steps to (Links set ∷ ts) us (Executed n) h = absurd (cc)
left_steps to (Function m ∷ ts) us (Crossed link) h = absurd (cc)
left_steps to (Function m ∷ ts) us (Executed n) h =
    let i = if_some (m == n) (Some ts) us h in
    (Function m ∷ [], ap (λ (xs : List TraceStep). Function m ∷ xs) (some_same ts us i.1))
left_steps to (Reach node ∷ ts) us (Executed n) h = absurd (cc)
left_steps to (Reach node ∷ ts) us (Crossed link) h = by_end (to link) h
  where
    by_test : (t : Bool) → (if t then Some ts else Some (Reach node ∷ ts)) ≡ Some us → IsLeft (Reach node ∷ ts) us
    by_test true h = (Reach node ∷ [], ap (λ (xs : List TraceStep). Reach node ∷ xs) (some_same ts us h))
    by_test false h = ([], some_same (Reach node ∷ ts) us h)

    by_end : (o : Option ℕ) → left_by_reach node ts o ≡ Some us → IsLeft (Reach node ∷ ts) us
    by_end None h = absurd (cc)
    by_end (Some other) h = by_test (other == node) h

pub left_on : (steps ts us : List TraceStep) (to : Ends) (e : StepEvent) → IsLeft steps ts → left_behind to ts e ≡ Some us → IsLeft steps us
left_on steps ts us to e left h =
    let l = left_steps to ts us e h in
    (left.0 ++ l.0, left.1 ∙ ap (λ (xs : List TraceStep). left.0 ++ xs) l.1 ∙ sym (append_assoc left.0 l.0 us))

-- ---- where links end

pub end_there : (net : Network) → Keeps net → (link node : ℕ) → ends_in net link ≡ Some node → node < length net.nodes
end_there net keeps link node e = by_link (slice_get net.links link) refl e
  where
    by_end : (from : ℕ) (o : Option ℕ) → EndsElsewhere (length net.nodes) from o → o ≡ Some node → node < length net.nodes
    by_end from None ends e = absurd (cc)
    by_end from (Some other) ends e =
        let same : other ≡ node = some_same other node e in
        subst (λ (k : ℕ). k < length net.nodes) same ends.0

    by_link : (o : Option Link) → slice_get net.links link ≡ o → far_end o ≡ Some node → node < length net.nodes
    by_link None is e = absurd (cc)
    by_link (Some l) is e = by_end l.from l.to (keeps.link link l is).to e

-- a member of a set of vertices is the vertex of a member
pub over_map : (on : Picks → ℕ → Option End) (picks : Picks) (f : ℕ → ℕ) (set : List ℕ) → 0 < length set
    → over on picks (map f set) ≡ on (later picks) (f (member_of set (picks 0)))
over_map on picks f [] some = absurd (omega arith)
over_map on picks f (w ∷ ws) some =
    let long : length (map f (w ∷ ws)) ≡ length (w ∷ ws) = length-map (w ∷ ws) f in
    let inside : picks 0 % length (w ∷ ws) < length (w ∷ ws) = mod-lt (picks 0) some in
    ap (λ (n : ℕ). on (later picks) (slice_index (map f (w ∷ ws)) (picks 0 % n))) long
    ∙ ap (on (later picks)) (get_or-map f (w ∷ ws) (picks 0 % length (w ∷ ws)) 0 0 inside)
