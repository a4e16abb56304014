-- A walk that hands over where no link has an MTU does so within its stages: each stage before that lowers the hop limit, or sends what
-- was submitted.
use Rattle.std.proofs.Common.{◌≡◌, ℕ, zero, suc, ◌+◌, ◌*◌, ◌<◌, Bool, true, false, List, [], ◌∷◌, Option, None, Some, refl, sym, ap, ◌∙◌, subst, arith, inl, inr}
use Rattle.std.specs.Prelude.{slice_get, is_some, All, if◌then◌else◌}
use Rattle.std.specs.Option.{option_map}
use Rattle.std.proofs.lemmas.Bool.{cases_lt}
use Rattle.std.proofs.lemmas.List.Elements.{All-head, All-tail}
use Rattle.srv6_rules.specs.Packet.{Packet, Content, V6, V4, Unreadable, spelling}
use Rattle.srv6_rules.specs.declared.sid.Behaviour.{Behaviour}
use Rattle.srv6_rules.specs.declared.family.Family.TheVariants as families
use Rattle.srv6_rules.specs.declared.family.Family.{Family}
use Rattle.srv6_rules.specs.declared.reason.Reason.{Reason}
use Rattle.srv6_rules.specs.declared.reason.Reason.TheVariants as reasons
use Rattle.srv6_rules.specs.declared.sid.SidEntry.{SidEntry}
use Rattle.srv6_rules.specs.Endpoint.{Endpoint, Onward, Exposed, Delivered, Refused, at_sid, at_address}
use Rattle.srv6_rules.specs.Behaviours.{behaviour_policy, behaviour_reduces}
use Rattle.srv6_rules.specs.Policies.{Encapsulating, Outer, TooBig, InnerHop, pushed_by}
use Rattle.net_model.specs.Best.{lookup_of}
use Rattle.net_model.specs.declared.parts.NamedPolicy.{NamedPolicy}
use Rattle.net_model.specs.Network.{Network}
use Rattle.net_model.specs.declared.net.Hit.{Hit}
use Rattle.net_model.specs.declared.net.Hit.TheVariants as hits
use Rattle.walk_rules.specs.declared.place.How.{How}
use Rattle.walk_rules.specs.declared.place.How.TheVariants.{Arrived, Submitted, Through}
use Rattle.walk_rules.specs.declared.place.Place.{Place}
use Rattle.walk_rules.specs.declared.place.Outcome.{Outcome}
use Rattle.walk_rules.specs.declared.place.Outcome.TheVariants as outcomes
use Rattle.walk_rules.specs.Treatment.{Gave, free_step_of, treated, treated_in, treated_at_sid, treated_at_address, sent, pushed_at_sid, bound_at_sid, onward_at_sid, allow_of}
use Rattle.walk_rules.specs.Way.{Way, NoWay, Over, Own, Into, way_of, way_by, way_by_hit, is_multicast_of}
use Rattle.walk_rules.specs.Walk.{free_walk_of, far_end, arrival, next_place, decisions}
use Rattle.walk_rules.specs.WalkLawsTerms.{IsLoweredByOne}
use Rattle.walk_rules.proofs.PublicLaws.{walk_by_suc, walk_by_zero, walk_by_none, free_again, free_less, sent_low, sent_high}
use Rattle.leg_table.specs.PositionSids.{sid_binds, is_binding}
use Rattle.leg_table.specs.WalkTrace.{Handed, after_events, after_execution, Crossed, handed_first, handed_over}

-- how often a packet may still be looked up: twice for each lowering that its hop limit has left, and once more where its
-- next Send lowers nothing

abbrev waits : How → ℕ
waits (Arrived table) = 0
waits (Submitted table) = 1
waits (Through sid lower) = 1

-- a packet may be looked up less often than a number; no other content comes before a packet is handed over
abbrev pub IsUnder : How → Content → ℕ → Type 0
IsUnder how (V6 p) n = 2 * p.hop_limit + waits how < n
IsUnder how (V4 p) n = ⊥
IsUnder how (Unreadable bytes reason) n = ⊥

-- what arrived is lowered where it is sent

abbrev Suits : How → Way → Type 0
Suits how (Over set true) = Unit {0}
Suits how (Over set false) = waits how ≡ 1
Suits how (NoWay reason) = Unit {0}
Suits how Own = Unit {0}
Suits how (Into n) = Unit {0}

suits_hit : (net : Network) (how : How) (lower : Bool) (reason : Reason) (away : Bool) (hit : Hit) → Suits how (Over [] lower)
    → Suits how (if away then NoWay reason else way_by_hit net lower hit)
suits_hit net how lower reason true hit h = tt
suits_hit net how lower reason false (hits.Sid n) h = tt
suits_hit net how lower reason false hits.Address h = tt
suits_hit net how true reason false (hits.Route n) h = tt
suits_hit net how false reason false (hits.Route n) h = h
suits_hit net how lower reason false hits.Nothing h = tt

suits_by : (net : Network) (node : ℕ) (how : How) (family : Family) (d : ℕ) → Suits how (way_by net node how family d)
suits_by net node (Arrived table) family d = suits_hit net (Arrived table) true reasons.Multicast (is_multicast_of family d)
    (lookup_of net node table family d) tt
suits_by net node (Submitted table) family d = suits_hit net (Submitted table) false reasons.Multicast (is_multicast_of family d)
    (lookup_of net node table family d) refl
suits_by net node (Through sid true) family d = tt
suits_by net node (Through sid false) family d = refl

suits : (net : Network) (place : Place) (d : ℕ) → Suits place.how (way_of net place d)
unfolding way_of
suits net place d = suits_by net place.node place.how place.family d

-- a Send leaves less

abbrev SendLess : ℕ → Outcome → Content → Type 0
SendLess n (outcomes.Send link) after = IsUnder (Arrived 0) after n
SendLess n (outcomes.Again sid how) after = Unit {0}
SendLess n (outcomes.Hand sid how family) after = Unit {0}
SendLess n outcomes.Local after = Unit {0}
SendLess n (outcomes.Drop reason told) after = Unit {0}

abbrev GaveLess : ℕ → Gave → Type 0
GaveLess n gave = SendLess n gave.outcome gave.after

sent_less : (net : Network) (node : ℕ) (how : How) (set : List ℕ) (lower : Bool) (p : Packet) (choice n : ℕ) → Suits how (Over set lower)
    → IsUnder how (V6 p) (suc n) → GaveLess n (sent net node set lower p choice)
sent_less net node how set true p choice n h under = elim (cases_lt 1 p.hop_limit) [
  | inl high ↦ subst (GaveLess n) (sym (sent_high net node set p choice high)) (omega (arith, high, under))
  | inr low ↦ subst (GaveLess n) (sym (sent_low net node set p choice low)) tt
]
sent_less net node how set false p choice n h under = omega (arith, h, under)

address_less : (net : Network) (node n : ℕ) (p : Packet) (e : Endpoint) → GaveLess n (treated_at_address net node p e)
address_less net node n p (Onward q) = tt
address_less net node n p (Exposed family bytes) = tt
address_less net node n p (Delivered q) = tt
address_less net node n p (Refused reason at) = tt

pushed_less : (net : Network) (node n k : ℕ) (b : Behaviour) (p : Packet) (e : Encapsulating) → GaveLess n (pushed_at_sid net node k b p e)
pushed_less net node n k b p (Outer outer) = tt
pushed_less net node n k b p (TooBig length) = tt
pushed_less net node n k b p InnerHop = tt

bound_less : (net : Network) (node n k : ℕ) (b : Behaviour) (p q : Packet) (o : Option NamedPolicy)
    → GaveLess n (bound_at_sid net node k b p q o)
bound_less net node n k b p q None = tt
bound_less net node n k b p q (Some named) =
    pushed_less net node n k b p (pushed_by named.policy (behaviour_reduces b) families.V6 (spelling q))

onward_less : (net : Network) (node n k : ℕ) (b : Behaviour) (p q : Packet) (o : Option ℕ) → GaveLess n (onward_at_sid net node k b p q o)
onward_less net node n k b p q None = tt
onward_less net node n k b p q (Some number) = bound_less net node n k b p q (slice_get net.policies number)

sid_less : (net : Network) (node n k : ℕ) (b : Behaviour) (p : Packet) (e : Endpoint) → GaveLess n (treated_at_sid net node k b p e)
sid_less net node n k b p (Onward q) = onward_less net node n k b p q (behaviour_policy b)
sid_less net node n k b p (Exposed family bytes) = tt
sid_less net node n k b p (Delivered q) = tt
sid_less net node n k b p (Refused reason at) = tt

into_less : (net : Network) (node n k : ℕ) (p : Packet) (o : Option SidEntry) → GaveLess n (treated_in net node k o p)
into_less net node n k p None = tt
into_less net node n k p (Some s) = sid_less net node n k s.behaviour p (at_sid s (allow_of (slice_get net.nodes node)) p)

way_less : (net : Network) (node : ℕ) (how : How) (w : Way) (p : Packet) (choice n : ℕ) → Suits how w → IsUnder how (V6 p) (suc n)
    → GaveLess n (treated net node w p choice)
way_less net node how (NoWay reason) p choice n h under = tt
way_less net node how (Over set lower) p choice n h under = sent_less net node how set lower p choice n h under
way_less net node how Own p choice n h under = address_less net node n p (at_address p)
way_less net node how (Into k) p choice n h under = into_less net node n k p (slice_get net.sids k)

step_sends_less : (net : Network) (place : Place) (content : Content) (choice n : ℕ) → IsUnder place.how content (suc n)
    → GaveLess n (free_step_of net place content choice)
step_sends_less net place (Unreadable bytes reason) choice n under = absurd under
step_sends_less net place (V4 p) choice n under = absurd under
step_sends_less net place (V6 p) choice n under =
    way_less net place.node place.how (way_of net place p.destination) p choice n (suits net place p.destination) under

-- so does an execution after which the packet stays at the node

again_less : (how on : How) (content after : Content) (n : ℕ) → IsLoweredByOne content after → IsUnder how content (suc n)
    → IsUnder on after n
again_less how (Arrived table) (V6 p) (V6 q) n h under = let less = h.1 in omega (arith, less, under)
again_less how (Submitted table) (V6 p) (V6 q) n h under = let less = h.1 in omega (arith, less, under)
again_less how (Through sid lower) (V6 p) (V6 q) n h under = let less = h.1 in omega (arith, less, under)
again_less how on (V6 p) (V4 q) n h under = absurd h
again_less how on (V6 p) (Unreadable bytes reason) n h under = absurd h
again_less how on (V4 p) after n h under = absurd h
again_less how on (Unreadable bytes reason) after n h under = absurd h

-- no binding SID is among those that were executed
abbrev pub Unbound : Network → List ℕ → Type 0
Unbound net sids = All (λ n. is_binding net n ≡ false) sids

policy_none : (o : Option ℕ) → is_some o ≡ false → o ≡ None
policy_none None e = refl
policy_none (Some number) e = absurd (cc)

again_lowers : (net : Network) (place : Place) (content : Content) (choice m : ℕ) (how : How) → is_binding net m ≡ false
    → (free_step_of net place content choice).outcome ≡ outcomes.Again m how
    → IsLoweredByOne content (free_step_of net place content choice).after
again_lowers net place content choice m how free is =
    let x = free_again net place content choice m how is in
    free_less net place content choice m how x.sid x.is_there
    (policy_none (behaviour_policy x.sid.behaviour) (sym (ap sid_binds x.is_there) ∙ free)) is

-- what is handed over after a stage
behind_some : (f : Handed → Handed) (o : Option Handed) (h : Handed) → option_map f o ≡ Some h
    → (later : Handed) × (o ≡ Some later) × (option_map f (Some later) ≡ Some h)
behind_some f None h e = absurd (cc)
behind_some f (Some later) h e = (later, refl, e)

none_under : (how : How) (content : Content) → IsUnder how content 0 → ⊥
none_under how (V6 p) h = omega (arith, h)
none_under how (V4 p) h = h
none_under how (Unreadable bytes reason) h = h

module _ (net : Network) (pick : ℕ → ℕ) where
  -- fewer stages are enough for what a walk hands over, from each place and content that is less
  abbrev Enough : ℕ → ℕ → Type 0
  Enough fuel n = (place : Place) (content : Content) (taken : ℕ) (h : Handed)
      → handed_over net (free_walk_of fuel net (Some place) content pick taken) ≡ Some h → Unbound net h.sids → IsUnder place.how content n
      → handed_over net (free_walk_of n net (Some place) content pick taken) ≡ Some h

  module _ (fuel n : ℕ) (enough : Enough fuel n) (gave : Gave) (taken : ℕ) (h : Handed) where
    -- what was handed over after a stage
    behind : (f : Handed → Handed) (next : Option Place)
        → option_map f (handed_over net (free_walk_of fuel net next gave.after pick taken)) ≡ Some h
        → ((later : Handed) → f later ≡ h → Unbound net later.sids)
        → ((place : Place) → next ≡ Some place → IsUnder place.how gave.after n)
        → option_map f (handed_over net (free_walk_of n net next gave.after pick taken)) ≡ Some h
    behind f None e free less =
        let none : handed_over net (free_walk_of fuel net None gave.after pick taken) ≡ None =
        ap (handed_over net) (walk_by_none (free_step_of net) (next_place net) fuel gave.after pick taken) in
        absurd (cc (sym (ap (option_map f) none) ∙ e))
    behind f (Some place) e free less =
        let got = behind_some f (handed_over net (free_walk_of fuel net (Some place) gave.after pick taken)) h e in
        ap (option_map f) (enough place gave.after taken got.0 got.1 (free got.0 (same_handed got.2)) (less place refl)) ∙ got.2
      where
        same_handed : {x y : Handed} → Some x ≡ Some y → x ≡ y
        same_handed e = cc

  some_place : {a b : Place} → Some a ≡ Some b → a ≡ b
  some_place e = cc

  arrived_less : (content : Content) (n : ℕ) (end : Option ℕ) (from place : Place) → arrival end from ≡ Some place
      → IsUnder (Arrived 0) content n → IsUnder place.how content n
  arrived_less content n None from place e less = absurd (cc)
  arrived_less content n (Some node) from place e less = subst (λ (p : Place). IsUnder p.how content n) (some_place e) less

  -- the SIDs of what was handed over after an execution
  executed_sids : (m : ℕ) (later h : Handed) → after_execution net m later ≡ h → h.sids ≡ m ∷ later.sids
  executed_sids m later h e = sym (ap (λ (x : Handed). x.sids) e)

  module _ (fuel n : ℕ) (enough : Enough fuel n) (place : Place) (content : Content) (taken : ℕ) (h : Handed) (free : Unbound net h.sids)
      (within : IsUnder place.how content (suc n)) where
    abbrev gave : Gave
    gave = free_step_of net place content (pick taken)

    abbrev rest : ℕ → Outcome → Option Handed
    rest k o = handed_over net (free_walk_of k net (next_place net place o) gave.after pick (taken + decisions o))

    -- the SID that was executed, and those after it
    free_both : (m : ℕ) (later : Handed) → after_execution net m later ≡ h
        → (is_binding net m ≡ false) × Unbound net later.sids
    free_both m later e =
        let all : Unbound net (m ∷ later.sids) = subst (Unbound net) (executed_sids m later h e) free in (
          All-head (λ k. is_binding net k ≡ false) m later.sids all,
          All-tail (λ k. is_binding net k ≡ false) m later.sids all,
        )

    free_sent : (link : ℕ) (later : Handed) → after_events (Crossed link ∷ []) later ≡ h → Unbound net later.sids
    free_sent link later e = subst (Unbound net) (sym (ap (λ (x : Handed). x.sids) e)) free

    by_outcome : (o : Outcome) → gave.outcome ≡ o → SendLess n o gave.after
        → handed_first net gave o (rest fuel o) ≡ Some h → handed_first net gave o (rest n o) ≡ Some h
    by_outcome (outcomes.Hand m how family) is less e = e
    by_outcome outcomes.Local is less e = absurd (cc)
    by_outcome (outcomes.Drop reason told) is less e = absurd (cc)
    by_outcome (outcomes.Again m how) is less e =
        let first = behind_some (after_execution net m) (rest fuel (outcomes.Again m how)) h e in
        let bound = (free_both m first.0 (same_some first.2)).0 in
        behind fuel n enough gave (taken + 0) h (after_execution net m)
        (next_place net place (outcomes.Again m how)) e (λ later same. (free_both m later same).1)
        (λ next same. subst (λ (p : Place). IsUnder p.how gave.after n) (some_place same)
        (again_less place.how how content gave.after n (again_lowers net place content (pick taken) m how bound is) within))
      where
        same_some : {x y : Handed} → Some x ≡ Some y → x ≡ y
        same_some e = cc
    by_outcome (outcomes.Send link) is less e =
        behind fuel n enough gave (taken + 1) h (after_events (Crossed link ∷ []))
        (next_place net place (outcomes.Send link)) e (free_sent link)
        (λ next same. arrived_less gave.after n (far_end (slice_get net.links link)) place next same less)

  pub hands_within : (fuel n : ℕ) → Enough fuel n
  hands_within zero n place content taken h e free less =
      absurd (cc (sym (ap (handed_over net) (walk_by_zero (free_step_of net) (next_place net) (Some place) content pick taken)) ∙ e))
  hands_within (suc fuel) zero place content taken h e free less = absurd (none_under place.how content less)
  hands_within (suc fuel) (suc n) place content taken h e free less =
      let gave : Gave = free_step_of net place content (pick taken) in
      ap (handed_over net) (walk_by_suc (free_step_of net) (next_place net) n place content pick taken)
      ∙ by_outcome fuel n (hands_within fuel n) place content taken h free less gave.outcome refl
      (step_sends_less net place content (pick taken) n less)
      (sym (ap (handed_over net) (walk_by_suc (free_step_of net) (next_place net) fuel place content pick taken)) ∙ e)
