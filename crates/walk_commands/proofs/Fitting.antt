-- A walk in which each packet on the way goes over its link hands over what it does where no link has an MTU: no packet on the way is
-- longer than at the start, and each link that is crossed is one of its step's.
use Rattle.std.proofs.Common.{◌≡◌, ◌≢◌, ℕ, zero, suc, ◌+◌, ◌≤◌, Bool, true, false, ◌==◌, ◌||◌, List, [], ◌∷◌, ◌++◌, length, Option, None, Some, refl, sym, ap, ◌∙◌, subst, arith}
use Rattle.std.specs.Prelude.{slice_get, All, is_some, if◌then◌else◌}
use Rattle.std.specs.List.{list_any}
use Rattle.std.specs.Option.{option_map}
use Rattle.std.proofs.lemmas.Bool.{eqb-true}
use Rattle.std.proofs.lemmas.Option.{same_Some}
use Rattle.std.proofs.lemmas.List.Elements.{All-contains, All-head, All-tail, All-weaker}
use Rattle.srv6_rules.specs.Packet.{Packet, Content, V6, V4, Unreadable}
use Rattle.srv6_rules.specs.declared.sid.SidEntry.{SidEntry}
use Rattle.srv6_rules.specs.Endpoint.{Endpoint, Onward, Exposed, Delivered, Refused, at_sid, at_address}
use Rattle.srv6_rules.specs.Behaviours.{behaviour_policy}
use Rattle.srv6_rules.proofs.PublicLaws.{at_sid_shorter, length_spelling}
use Rattle.net_model.specs.Network.{Network}
use Rattle.intent_reader.specs.declared.intent.Intent.{Intent}
use Rattle.intent_reader.specs.declared.intent.Step.{Step}
use Rattle.intent_reader.specs.declared.intent.Step.TheVariants.{Links, Function, Reach}
use Rattle.walk_rules.specs.declared.place.Place.{Place}
use Rattle.walk_rules.specs.declared.place.Outcome.{Outcome}
use Rattle.walk_rules.specs.declared.place.Outcome.TheVariants as outcomes
use Rattle.walk_rules.specs.Treatment.{Gave, allow_of, free_step_of, lowered, mtu_at, own_len, step_of, treated_at_address, treated_at_sid}
use Rattle.walk_rules.specs.Way.{way_of}
use Rattle.walk_rules.specs.Walk.{free_walk_of, walk_of, next_place, decisions}
use Rattle.walk_rules.proofs.OutcomeFacts.{treated_each}
use Rattle.walk_rules.proofs.PublicLaws.{onward_each, step_fits, step_other, walk_by_suc, walk_by_zero, walk_by_none}
use Rattle.leg_table.specs.PositionSids.{sid_binds, is_binding}
use Rattle.leg_table.specs.StepMatching.{has_link}
use Rattle.leg_table.specs.WalkTrace.{TraceEvent, Handed, Crossed, Executed, after_events, after_execution, executed, handed_first, handed_over, is_titled}
use Rattle.compile_commands.specs.CompiledLists.{IsOfSteps, KeepsToSteps, MayCross}
use Rattle.compile_commands.proofs.PublicLaws.{keeps_crosses}
use Rattle.walk_commands.specs.WalkCommand.{GoesOver}
use Rattle.walk_commands.proofs.HandingOver.{Unbound}

-- ---- links that are crossed

-- a link that is crossed carries so many bytes
abbrev pub Carried : Network → ℕ → TraceEvent → Type 0
Carried net len (Crossed link) = len ≤ mtu_at net link
Carried net len (Executed n) = Unit {0}

module _ (net : Network) (len : ℕ) where
  among : (set : List ℕ) (link : ℕ) → has_link set link ≡ true → All (λ k. len ≤ mtu_at net k) set → len ≤ mtu_at net link
  among [] link h all = absurd (cc h)
  among (k ∷ ks) link h all =
      by_test (k == link) refl h (λ later. among ks link later (All-tail (λ m. len ≤ mtu_at net m) k ks all))
    where
      by_test : (b : Bool) → (k == link) ≡ b → (b || list_any (λ m. m == link) ks) ≡ true
          → (list_any (λ m. m == link) ks ≡ true → len ≤ mtu_at net link) → len ≤ mtu_at net link
      by_test true same here later =
          subst (λ m. len ≤ mtu_at net m) (eqb-true k link same) (All-head (λ m. len ≤ mtu_at net m) k ks all)
      by_test false other here later = later here

  step_carried : (t : Step) (link : ℕ) → MayCross net t link → GoesOver net len t → len ≤ mtu_at net link
  step_carried (Links set) link may over = among set link may over
  step_carried (Function sid) link may over = absurd may
  step_carried (Reach node) link may over = over link may

  event_carried : (ts : List Step) → All (GoesOver net len) ts → (e : TraceEvent) → IsOfSteps net ts e → Carried net len e
  event_carried ts over (Crossed link) is =
      step_carried is.0 link is.2 (All-contains (GoesOver net len) ts is.0 over is.1)
  event_carried ts over (Executed n) is = tt

  pub carried : (intent : Intent) (es : List TraceEvent) → KeepsToSteps net intent es → All (GoesOver net len) intent.steps
      → All (Carried net len) es
  carried intent es keeps over =
      All-weaker (IsOfSteps net intent.steps) (Carried net len) (event_carried intent.steps over) es (keeps_crosses net intent es keeps)

-- ---- no packet on the way is longer

abbrev pub IsSmall : ℕ → Content → Type 0
IsSmall len (V6 p) = 40 + length p.payload ≤ len
IsSmall len (V4 p) = ⊥
IsSmall len (Unreadable bytes reason) = ⊥

-- what goes on from a stage, where it binds no policy
abbrev pub SmallAfter : Network → ℕ → Outcome → Content → Type 0
SmallAfter net len (outcomes.Again n how) after = is_binding net n ≡ false → IsSmall len after
SmallAfter net len (outcomes.Hand n how family) after = Unit {0}
SmallAfter net len (outcomes.Send link) after = IsSmall len after
SmallAfter net len outcomes.Local after = Unit {0}
SmallAfter net len (outcomes.Drop reason told) after = Unit {0}

abbrev pub GaveSmall : Network → ℕ → Gave → Type 0
GaveSmall net len gave = SmallAfter net len gave.outcome gave.after

lowered_small : (len : ℕ) (lower : Bool) (p : Packet) → IsSmall len (V6 p) → IsSmall len (V6 (lowered lower p))
lowered_small len true p h = h
lowered_small len false p h = h

address_small : (net : Network) (len node : ℕ) (p : Packet) (e : Endpoint) → GaveSmall net len (treated_at_address net node p e)
address_small net len node p (Onward q) = tt
address_small net len node p (Exposed family bytes) = tt
address_small net len node p (Delivered q) = tt
address_small net len node p (Refused reason at) = tt

sid_small : (net : Network) (len node n : ℕ) (s : SidEntry) (allow : List ℕ) (p : Packet) (e : Endpoint) → slice_get net.sids n ≡ Some s
    → at_sid s allow p ≡ e → IsSmall len (V6 p) → GaveSmall net len (treated_at_sid net node n s.behaviour p e)
sid_small net len node n s allow p (Onward q) there same h =
    let shorter = at_sid_shorter s allow p q same in
    onward_each net node n s.behaviour p q (GaveSmall net len) (λ plain free. omega (arith, h, shorter))
    (λ number named binds is fits free. absurd (bound number binds (sym (ap sid_binds there) ∙ free))) (λ reason. tt)
  where
    bound : (number : ℕ) → behaviour_policy s.behaviour ≡ Some number → is_some (behaviour_policy s.behaviour) ≡ false → ⊥
    bound number binds free = cc (sym (ap is_some binds) ∙ free)
sid_small net len node n s allow p (Exposed family bytes) there same h = tt
sid_small net len node n s allow p (Delivered q) there same h = tt
sid_small net len node n s allow p (Refused reason at) there same h = tt

pub step_small : (net : Network) (len : ℕ) (place : Place) (content : Content) (choice : ℕ) → IsSmall len content
    → GaveSmall net len (free_step_of net place content choice)
step_small net len place (Unreadable bytes reason) choice h = absurd h
step_small net len place (V4 p) choice h = absurd h
step_small net len place (V6 p) choice h =
    treated_each (GaveSmall net len) net place.node (way_of net place p.destination) p choice
    (record {
      drop = λ reason at. tt;
      send = λ set lower e. lowered_small len lower p h;
      own = address_small net len place.node p (at_address p);
      sid = λ n s into there.
          let allow = allow_of (slice_get net.nodes place.node) in
          sid_small net len place.node n s allow p (at_sid s allow p) there refl h;
    })

pub own_small : (len : ℕ) (content : Content) → IsSmall len content → own_len content ≤ len
own_small len (V6 p) h = omega (arith, h, length_spelling p)
own_small len (V4 p) h = absurd h
own_small len (Unreadable bytes reason) h = absurd h

-- ---- the walk

-- what is handed over later, after an execution
pub carried_later : (net : Network) (len m : ℕ) (b : Bool) (es : List TraceEvent)
    → All (Carried net len) ((if b then Executed m ∷ [] else []) ++ es) → All (Carried net len) es
carried_later net len m true es all = All-tail (Carried net len) (Executed m) es all
carried_later net len m false es all = all

pub behind_some : (f : Handed → Handed) (o : Option Handed) (h : Handed) → option_map f o ≡ Some h
    → (later : Handed) × (o ≡ Some later) × (f later ≡ h)
behind_some f None h e = absurd (cc e)
behind_some f (Some later) h e = (later, refl, same_Some (f later) h e)

module _ (net : Network) (len : ℕ) (pick : ℕ → ℕ) where
  -- what is handed over crosses links that carry so many bytes, and binds no policy
  abbrev pub Passes : Handed → Type 0
  Passes h = Unbound net h.sids × All (Carried net len) h.trace

  -- a walk that hands over so without MTUs does so with them
  abbrev Joins : ℕ → Type 0
  Joins fuel = (place : Option Place) (content : Content) (taken : ℕ) (h : Handed)
      → handed_over net (free_walk_of fuel net place content pick taken) ≡ Some h → Passes h → IsSmall len content
      → handed_over net (walk_of fuel net place content pick taken) ≡ Some h

  module _ (fuel : ℕ) (joins : Joins fuel) (place : Place) (content : Content) (taken : ℕ) (h : Handed) (passes : Passes h)
      (small : IsSmall len content) where
    abbrev gave : Gave
    gave = free_step_of net place content (pick taken)

    -- what is handed over by a stage and the walk after it
    abbrev free_first : Gave → Outcome → Option Handed
    free_first g o =
        handed_first net g o (handed_over net (free_walk_of fuel net (next_place net place o) g.after pick (taken + decisions o)))

    abbrev first : Gave → Outcome → Option Handed
    first g o = handed_first net g o (handed_over net (walk_of fuel net (next_place net place o) g.after pick (taken + decisions o)))

    -- where the stage is the same, so is the first
    same_first : (o : Outcome) → gave.outcome ≡ o → step_of net place content (pick taken) ≡ gave → first gave o ≡ Some h
        → let step = step_of net place content (pick taken) in first step step.outcome ≡ Some h
    same_first o is same e = ap (λ (g : Gave). first g g.outcome) same ∙ (ap (first gave) is ∙ e)

    -- what is handed over after a stage
    behind : (f : Handed → Handed) (next : Option Place) (taken : ℕ)
        → option_map f (handed_over net (free_walk_of fuel net next gave.after pick taken)) ≡ Some h
        → ((later : Handed) → f later ≡ h → Passes later) → IsSmall len gave.after
        → option_map f (handed_over net (walk_of fuel net next gave.after pick taken)) ≡ Some h
    behind f next taken e passing less =
        let got = behind_some f (handed_over net (free_walk_of fuel net next gave.after pick taken)) h e in
        ap (option_map f) (joins next gave.after taken got.0 got.1 (passing got.0 got.2) less) ∙ ap Some got.2

    executed_passes : (m : ℕ) (later : Handed) → after_execution net m later ≡ h → Passes later
    executed_passes m later e =
        let sids : Unbound net (m ∷ later.sids) = subst (Unbound net) (sym (ap (λ (x : Handed). x.sids) e)) passes.0 in
        let trace : All (Carried net len) (executed net m ++ later.trace) =
        subst (All (Carried net len)) (sym (ap (λ (x : Handed). x.trace) e)) passes.1 in (
          All-tail (λ k. is_binding net k ≡ false) m later.sids sids,
          carried_later net len m (is_titled net m) later.trace trace,
        )

    executed_free : (m : ℕ) (later : Handed) → after_execution net m later ≡ h → is_binding net m ≡ false
    executed_free m later e =
        let sids : Unbound net (m ∷ later.sids) = subst (Unbound net) (sym (ap (λ (x : Handed). x.sids) e)) passes.0 in
        All-head (λ k. is_binding net k ≡ false) m later.sids sids

    crossed_passes : (link : ℕ) (later : Handed) → after_events (Crossed link ∷ []) later ≡ h → Passes later
    crossed_passes link later e =
        let trace : All (Carried net len) (Crossed link ∷ later.trace) =
        subst (All (Carried net len)) (sym (ap (λ (x : Handed). x.trace) e)) passes.1 in (
          subst (Unbound net) (sym (ap (λ (x : Handed). x.sids) e)) passes.0,
          All-tail (Carried net len) (Crossed link) later.trace trace,
        )

    crossed_carries : (link : ℕ) (later : Handed) → after_events (Crossed link ∷ []) later ≡ h → len ≤ mtu_at net link
    crossed_carries link later e =
        let trace : All (Carried net len) (Crossed link ∷ later.trace) =
        subst (All (Carried net len)) (sym (ap (λ (x : Handed). x.trace) e)) passes.1 in
        All-head (Carried net len) (Crossed link) later.trace trace

    unsent : (o : Outcome) → gave.outcome ≡ o → ((link : ℕ) → o ≢ outcomes.Send link)
        → step_of net place content (pick taken) ≡ gave
    unsent o is none = step_other net place content (pick taken) (λ link e. none link (sym is ∙ e))

    by_outcome : (o : Outcome) → gave.outcome ≡ o → SmallAfter net len o gave.after → free_first gave o ≡ Some h
        → let step = step_of net place content (pick taken) in first step step.outcome ≡ Some h
    by_outcome (outcomes.Hand m how family) is less e =
        same_first (outcomes.Hand m how family) is (unsent (outcomes.Hand m how family) is (λ link s. cc)) e
    by_outcome outcomes.Local is less e = absurd (cc e)
    by_outcome (outcomes.Drop reason told) is less e = absurd (cc e)
    by_outcome (outcomes.Again m how) is less e =
        let rest = handed_over net (free_walk_of fuel net (next_place net place (outcomes.Again m how)) gave.after pick (taken + 0)) in
        let got = behind_some (after_execution net m) rest h e in
        same_first (outcomes.Again m how) is (unsent (outcomes.Again m how) is (λ link s. cc))
        (behind (after_execution net m) (next_place net place (outcomes.Again m how)) (taken + 0) e (executed_passes m)
        (less (executed_free m got.0 got.2)))
    by_outcome (outcomes.Send link) is less e =
        let next = next_place net place (outcomes.Send link) in
        let f : Handed → Handed = after_events (Crossed link ∷ []) in
        let got = behind_some f (handed_over net (free_walk_of fuel net next gave.after pick (taken + 1))) h e in
        let carries = crossed_carries link got.0 got.2 in
        let own = own_small len content small in
        same_first (outcomes.Send link) is (step_fits net place content (pick taken) link is (omega (arith, own, carries)))
        (behind f next (taken + 1) e (crossed_passes link) less)

  pub walk_joins : (fuel : ℕ) → Joins fuel
  walk_joins zero place content taken h e passes small =
      absurd (cc (sym (ap (handed_over net) (walk_by_zero (free_step_of net) (next_place net) place content pick taken)) ∙ e))
  walk_joins (suc fuel) None content taken h e passes small =
      absurd (cc (sym (ap (handed_over net) (walk_by_none (free_step_of net) (next_place net) (suc fuel) content pick taken)) ∙ e))
  walk_joins (suc fuel) (Some place) content taken h e passes small =
      let gave : Gave = free_step_of net place content (pick taken) in
      ap (handed_over net) (walk_by_suc (step_of net) (next_place net) fuel place content pick taken)
      ∙ by_outcome fuel (walk_joins fuel) place content taken h passes small gave.outcome refl
      (step_small net len place content (pick taken) small)
      (sym (ap (handed_over net) (walk_by_suc (free_step_of net) (next_place net) fuel place content pick taken)) ∙ e)
