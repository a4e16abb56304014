-- Traces that keep to the steps of an intent.
use Rattle.std.proofs.Common.{◌≡◌, ℕ, Bool, true, false, List, [], ◌∷◌, map, Contains, refl, sym, subst}
use Rattle.std.specs.Prelude.{All, IsSome, IsTrue}
use Rattle.std.proofs.lemmas.Bool.{and_parts}
use Rattle.std.proofs.lemmas.List.Elements.{All-append, All-cons, All-contains_itself, All-head, All-nil, All-tail, All-weaker}
use Rattle.net_model.specs.Network.{Network}
use Rattle.intent_reader.specs.declared.intent.Intent.{Intent}
use Rattle.intent_reader.specs.declared.intent.Step.{Step}
use Rattle.intent_reader.specs.declared.intent.Step.TheVariants.{Links, Function, Reach}
use Rattle.intent_reader.specs.IntentRules.{has_reach, is_reach}
use Rattle.intent_traces.specs.Traces.{AllLeadElsewhere, IsPart, Matches}
use Rattle.intent_traces.specs.Traces as traces
use Rattle.loose_walks.specs.WalkStops.{ends_in}
use Rattle.leg_table.specs.StepMatching.{matches, meets}
use Rattle.leg_table.specs.WalkTrace.{Crossed, TraceEvent, Executed}
use Rattle.loose_spec.specs.LooseExecutions.{trace_event}
use Rattle.loose_legs.specs.IntentSteps.{trace_step}
use Rattle.intent_compiler.specs.LegKindsTerms.{ReachesNothing}
use Rattle.intent_compiler.specs.KeptSteps.{KeepsIf, KeepsToSteps}
use Rattle.intent_compiler.specs.KeptStepsTerms.{IsOfSteps, MayCross, OnCrossed}

-- ---- no one event meets a loose step

none_met : (t : Step) (e : TraceEvent) → meets t e ≡ true → is_reach t ≡ false
none_met (Links set) e h = refl
none_met (Function sid) e h = refl
none_met (Reach node) (Crossed link) h = absurd (cc h)
none_met (Reach node) (Executed n) h = absurd (cc h)

none_matched : (ts : List Step) (es : List TraceEvent) → matches ts es ≡ true → has_reach ts ≡ false
none_matched [] [] h = refl
none_matched [] (e ∷ es) h = absurd (cc h)
none_matched (t ∷ ts) [] h = absurd (cc h)
none_matched (t ∷ ts) (e ∷ es) h =
    let both = and_parts (meets t e) (matches ts es) h in
    rw (none_met t e both.0) (none_matched ts es both.1)

pub met_keeps : (net : Network) (intent : Intent) (trace : List TraceEvent) → IsTrue (matches intent.steps trace)
    → KeepsToSteps net intent trace
met_keeps net intent trace h =
    subst (λ (b : Bool). KeepsIf b net intent trace) (sym (none_matched intent.steps trace h)) h

pub keeps_met : (net : Network) (intent : Intent) (trace : List TraceEvent) → ReachesNothing intent → KeepsToSteps net intent trace
    → IsTrue (matches intent.steps trace)
keeps_met net intent trace none h = subst (λ (b : Bool). KeepsIf b net intent trace) none h

-- ---- links that are crossed

module _ (net : Network) (Holds : ℕ → Type 0) where
  -- of all links that a step may cross this holds
  abbrev OfStep : Step → Type 0
  OfStep t = (link : ℕ) → MayCross net t link → Holds link

  met_crossed : (t : Step) (e : TraceEvent) → meets t e ≡ true → OfStep t → OnCrossed Holds e
  met_crossed (Links set) (Crossed link) h all = all link h
  met_crossed (Links set) (Executed n) h all = tt
  met_crossed (Function sid) (Crossed link) h all = absurd (cc h)
  met_crossed (Function sid) (Executed n) h all = tt
  met_crossed (Reach node) (Crossed link) h all = absurd (cc h)
  met_crossed (Reach node) (Executed n) h all = tt

  strict_crossed : (ts : List Step) (es : List TraceEvent) → matches ts es ≡ true → All OfStep ts → All (OnCrossed Holds) es
  strict_crossed [] [] h all = All-nil (OnCrossed Holds)
  strict_crossed [] (e ∷ es) h all = absurd (cc h)
  strict_crossed (t ∷ ts) [] h all = absurd (cc h)
  strict_crossed (t ∷ ts) (e ∷ es) h all =
      let both = and_parts (meets t e) (matches ts es) h in
      All-cons (OnCrossed Holds) e es (met_crossed t e both.0 (All-head OfStep t ts all))
      (strict_crossed ts es both.1 (All-tail OfStep t ts all))

  -- as traces that keep to steps know events
  abbrev OnPart : traces.StepEvent → Type 0
  OnPart (traces.Crossed link) = Holds link
  OnPart (traces.Executed n) = Unit {0}

  elsewhere_crossed : (node : ℕ) (links : List ℕ) → AllLeadElsewhere (ends_in net) node links → OfStep (Reach node)
      → All OnPart (map traces.Crossed links)
  elsewhere_crossed node [] lead all = All-nil OnPart
  elsewhere_crossed node (link ∷ links) lead all =
      All-cons OnPart (traces.Crossed link) (map traces.Crossed links) (all link (subst IsSome (sym lead.0.1) refl))
      (elsewhere_crossed node links lead.1 all)

  part_crossed : (t : Step) (part : List traces.StepEvent) → IsPart (ends_in net) (trace_step t) part → OfStep t → All OnPart part
  part_crossed (Links set) part is all =
      subst (All OnPart) (sym is.1) (All-cons OnPart (traces.Crossed is.0) [] (all is.0 is.2) (All-nil OnPart))
  part_crossed (Function sid) part is all =
      subst (All OnPart) (sym is) (All-cons OnPart (traces.Executed sid) [] tt (All-nil OnPart))
  part_crossed (Reach node) part is all =
      subst (All OnPart) (sym is.2)
      (All-append OnPart (map traces.Crossed is.0) (traces.Crossed is.1 ∷ []) (elsewhere_crossed node is.0 is.3 all)
      (All-cons OnPart (traces.Crossed is.1) [] (all is.1 (subst IsSome (sym is.4) refl)) (All-nil OnPart)))

  matched_crossed : (ts : List Step) (es : List traces.StepEvent) → Matches (ends_in net) (map trace_step ts) es → All OfStep ts
      → All OnPart es
  matched_crossed [] es is all = subst (All OnPart) (sym is) (All-nil OnPart)
  matched_crossed (t ∷ ts) es is all =
      subst (All OnPart) (sym is.2)
      (All-append OnPart is.0 is.1 (part_crossed t is.0 is.3 (All-head OfStep t ts all))
      (matched_crossed ts is.1 is.4 (All-tail OfStep t ts all)))

  event_crossed : (e : TraceEvent) → OnPart (trace_event e) → OnCrossed Holds e
  event_crossed (Crossed link) h = h
  event_crossed (Executed n) h = tt

  trace_crossed : (es : List TraceEvent) → All OnPart (map trace_event es) → All (OnCrossed Holds) es
  trace_crossed [] all = All-nil (OnCrossed Holds)
  trace_crossed (e ∷ es) all =
      All-cons (OnCrossed Holds) e es (event_crossed e (All-head OnPart (trace_event e) (map trace_event es) all))
      (trace_crossed es (All-tail OnPart (trace_event e) (map trace_event es) all))

  crossed_if : (intent : Intent) (trace : List TraceEvent) (b : Bool) → KeepsIf b net intent trace → All OfStep intent.steps
      → All (OnCrossed Holds) trace
  crossed_if intent trace false h all = strict_crossed intent.steps trace h all
  crossed_if intent trace true h all = trace_crossed trace (matched_crossed intent.steps (map trace_event trace) h all)

pub keeps_crosses : (net : Network) (intent : Intent) (trace : List TraceEvent) → KeepsToSteps net intent trace
    → All (IsOfSteps net intent.steps) trace
keeps_crosses net intent trace h =
    let Q : ℕ → Type 0 = λ link. (step : Step) × Contains intent.steps step × MayCross net step link in
    crossed_if net Q intent trace
    (has_reach intent.steps) h
    (All-weaker (Contains intent.steps) (OfStep net Q) (λ t there link may. (t, there, may)) intent.steps
    (All-contains_itself intent.steps))
