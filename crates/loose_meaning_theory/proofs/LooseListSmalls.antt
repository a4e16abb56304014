-- Where packets fit their links the walk with MTUs hands over what the walk without does.
use Rattle.std.proofs.Common.{◌≡◌, ℕ, zero, suc, ◌+◌, ◌<◌, ◌≤◌, List, [], ◌∷◌, length, Option, Some, None, refl, ◌∙◌, ap, arith}
use Rattle.std.proofs.lemmas.Bool.{le-leb}
use Rattle.std.specs.Option.{option_map}
use Rattle.srv6_rules.specs.Packet.{Content, V6}
use Rattle.net_model.specs.Network.{Network}
use Rattle.walk_rules.specs.declared.place.Place.{Place}
use Rattle.walk_rules.specs.declared.place.Outcome.{Outcome}
use Rattle.walk_rules.specs.declared.place.Outcome.TheVariants as outcomes
use Rattle.walk_rules.specs.declared.limits.TheConstants.{MAX_STAGES}
use Rattle.walk_rules.specs.Treatment.{Gave, free_step_of, judged_by, mtu_at, own_len}
use Rattle.walk_rules.specs.Walk.{Stage, choice_at, decisions, free_walk_of, next_place, walk_by, walk_of}
use Rattle.intent_reader.specs.declared.intent.Intent.{Intent}
use Rattle.list_pack.specs.declared.types.Container.{Container}
use Rattle.list_pack.specs.SidLists.{list_values}
use Rattle.intent_traces.specs.declared.trace_steps.TraceStep.{TraceStep}
use Rattle.leg_table.specs.Realizes.{IsInner, encapsulated_for, headend_place}
use Rattle.leg_table.specs.WalkTrace.{Crossed, Handed, after_events, after_execution, behind_stage, handed_first, handed_over, through_hand}
use Rattle.leg_table.proofs.StrictOptions.{map_some}
use Rattle.binding_spec.specs.BindingSmall.{SentFits}
use Rattle.loose_spec.specs.LooseRealizes.{LooseListRealizes}
use Rattle.loose_spec.specs.LooseSmall.{AllFit, LooseIsSmall}
use Rattle.loose_meaning_theory.specs.LooseSmallTerms.{LooseKeepsTo}

-- what fits its link is given as where no link has an MTU
fits_given : (net : Network) (node : ℕ) (content : Content) (gave : Gave) (o : Outcome) → SentFits net content o
    → judged_by net node content gave o ≡ gave
fits_given net node content gave (outcomes.Again n how) fits = refl
fits_given net node content gave (outcomes.Hand n how family) fits = refl
fits_given net node content gave (outcomes.Send link) fits = rw (le-leb (own_len content) (mtu_at net link) fits) refl
fits_given net node content gave outcomes.Local fits = refl
fits_given net node content gave (outcomes.Drop reason error) fits = refl

-- a stage hands over what it does, by what its later stages do
module _ (net : Network) (gave : Gave) (h : Handed) (hops_left : ℕ) (later : List Stage) (other : Option Handed)
    (ih : (x : Handed) → handed_over net later ≡ Some x → AllFit net (through_hand later) → length (through_hand later) ≤ hops_left
    → other ≡ Some x) where
  behind : (f : Handed → Handed) → Path (Option Handed) (option_map f (handed_over net later)) (Some h) → AllFit net (through_hand later)
      → length (through_hand later) ≤ hops_left → option_map f other ≡ Some h
  behind f e fit few =
      let got = map_some f (handed_over net later) h e in
      ap (option_map f) (ih got.0 got.1 fit few) ∙ ap (λ (x : Handed). Some x) got.2

  stage_hands : (o : Outcome) → handed_first net gave o (handed_over net later) ≡ Some h
      → AllFit net (behind_stage o (through_hand later)) → length (behind_stage o (through_hand later)) ≤ hops_left
      → handed_first net gave o other ≡ Some h
  stage_hands (outcomes.Hand n how family) e fit few = e
  stage_hands (outcomes.Again n how) e fit few = behind (after_execution net n) e fit few
  stage_hands (outcomes.Send link) e fit few = behind (after_events (Crossed link ∷ [])) e fit few
  stage_hands outcomes.Local e fit few = absurd (cc)
  stage_hands (outcomes.Drop reason error) e fit few = absurd (cc)

none_hands : (h : Handed) → None ≡ Some h → ⊥
none_hands h e = cc

-- a walk of as much hops_left
pub small_walk : (fuel hops_left : ℕ) (net : Network) (place : Option Place) (content : Content) (pick : ℕ → ℕ) (taken : ℕ) (h : Handed)
    → handed_over net (free_walk_of fuel net place content pick taken) ≡ Some h
    → AllFit net (through_hand (free_walk_of fuel net place content pick taken))
    → length (through_hand (free_walk_of fuel net place content pick taken)) ≤ hops_left
    → handed_over net (walk_of hops_left net place content pick taken) ≡ Some h
unfolding walk_by
small_walk zero hops_left net place content pick taken h e fit few = absurd (none_hands h e)
small_walk (suc more) hops_left net None content pick taken h e fit few = absurd (none_hands h e)
small_walk (suc more) zero net (Some place) content pick taken h e fit few = absurd (omega (arith, few))
small_walk (suc more) (suc hops_left) net (Some place) content pick taken h e fit few =
    let gave : Gave = free_step_of net place content (pick taken) in
    let later : List Stage = free_walk_of more net (next_place net place gave.outcome) gave.after pick (taken + decisions gave.outcome) in
    let left : suc (length (behind_stage gave.outcome (through_hand later))) ≤ suc hops_left = few in
    ap (λ (g : Gave). handed_first net g g.outcome
    (handed_over net (walk_of hops_left net (next_place net place g.outcome) g.after pick (taken + decisions g.outcome))))
    (fits_given net place.node content gave gave.outcome fit.0)
    ∙ stage_hands net gave h hops_left later
    (handed_over net (walk_of hops_left net (next_place net place gave.outcome) gave.after pick (taken + decisions gave.outcome)))
    (λ x is fits short.
    small_walk more hops_left net (next_place net place gave.outcome) gave.after pick (taken + decisions gave.outcome) x is fits short)
    gave.outcome e fit.1 (omega (arith, left))

-- a small packet keeps to the steps that its list realizes
pub loose_keeps_law : (net : Network) (intent : Intent) (steps : List TraceStep) (list : List Container) (inner : Content) (need hop : ℕ)
    (choices : List ℕ)
    → LooseListRealizes net intent steps list need → IsInner intent.inner inner → need < hop
    → LooseIsSmall net intent (list_values net list) inner hop → 0 < length choices
    → LooseKeepsTo net intent steps (list_values net list) inner hop choices
loose_keeps_law net intent steps list inner need hop choices realizes is above small some =
    let o = realizes.reaches.always inner is hop above choices some in
    let few = small.few choices o.fuel some in
    record {
      handed = o.handed;
      first = small_walk o.fuel MAX_STAGES net (Some (headend_place intent)) (V6 (encapsulated_for intent (list_values net list) inner hop))
          (choice_at choices) 0 o.handed o.first (small.fits choices o.fuel some) (omega (arith, few));
      keeps = o.keeps;
      content = o.content;
      unbound = o.unbound;
    }
