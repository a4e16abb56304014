-- A trace meets steps event by event; and the one that comes with what is handed over is that of the stages up to the first hand_over.
use Rattle.std.proofs.Common.{refl, None, if◌then◌else◌, ◌&&◌, false, true, Bool, ◌≡◌, List, [], ◌∷◌, ◌++◌, Option, Some, sym, ◌∙◌, ap, append-nil}
use Rattle.std.specs.Option.{option_and_then}
use Rattle.intent_reader.specs.declared.intent.Step.{Step}
use Rattle.leg_table.specs.StepMatching.{meets, matches}
use Rattle.leg_table.specs.StepMatchingTerms.{advance, left_by, is_done}
use Rattle.net_model.specs.Network.{Network}
use Rattle.walk_rules.specs.declared.place.Outcome.{Outcome}
use Rattle.walk_rules.specs.declared.place.Outcome.TheVariants as outcomes
use Rattle.walk_rules.specs.Treatment.{Gave}
use Rattle.walk_rules.specs.Walk as walks
use Rattle.leg_table.specs.WalkTrace.{TraceEvent, Crossed, executed, events_of, Handed, after_events, after_execution, handed_first, handed_over, behind_stage, through_hand}
use Rattle.leg_table.specs.WalkTraceTerms.{trace_of}
use Rattle.leg_table.proofs.StrictOptions.{map_some, some_same}

pub matches_by : (ts : List Step) (es : List TraceEvent) → matches ts es ≡ is_done (left_by ts es)
matches_by [] [] = refl
matches_by [] (e ∷ es) = refl
matches_by (t ∷ ts) [] = refl
matches_by (t ∷ ts) (e ∷ es) = by_test (meets t e) (matches_by ts es)
  where
    by_test : (b : Bool) → matches ts es ≡ is_done (left_by ts es)
        → (b && matches ts es) ≡ is_done (option_and_then (λ (us : List Step). left_by us es) (if b then Some ts else None))
    by_test true rest = rest
    by_test false rest = refl

pub left_parts : (ts : List Step) (es more : List TraceEvent)
    → left_by ts (es ++ more) ≡ option_and_then (λ (us : List Step). left_by us more) (left_by ts es)
left_parts ts [] more = refl
left_parts ts (e ∷ es) more = by_steps (advance ts e) (λ us. left_parts us es more)
  where
    by_steps : (o : Option (List Step))
        → ((us : List Step) → left_by us (es ++ more) ≡ option_and_then (λ (ws : List Step). left_by ws more) (left_by us es))
        → option_and_then (λ (us : List Step). left_by us (es ++ more)) o
        ≡ option_and_then (λ (us : List Step). left_by us more) (option_and_then (λ (us : List Step). left_by us es) o)
    by_steps None rest = refl
    by_steps (Some us) rest = rest us

first_trace : (net : Network) (gave : Gave) (o : Outcome) (ss : List walks.Stage) (later : Option Handed) (h : Handed)
    → ((k : Handed) → later ≡ Some k → k.trace ≡ trace_of net (through_hand ss))
    → handed_first net gave o later ≡ Some h → h.trace ≡ events_of net o ++ trace_of net (behind_stage o (through_hand ss))
first_trace net gave (outcomes.Hand n how family) ss later h f e =
    sym (ap (λ (k : Handed). k.trace) (some_same _ h e)) ∙ sym (append-nil (executed net n))
first_trace net gave (outcomes.Again n how) ss later h f e =
    let got = map_some (after_execution net n) later h e in
    sym (ap (λ (k : Handed). k.trace) got.2) ∙ ap (λ (es : List TraceEvent). executed net n ++ es) (f got.0 got.1)
first_trace net gave (outcomes.Send link) ss later h f e =
    let got = map_some (after_events (Crossed link ∷ [])) later h e in
    sym (ap (λ (k : Handed). k.trace) got.2) ∙ ap (λ (es : List TraceEvent). (Crossed link ∷ []) ++ es) (f got.0 got.1)
first_trace net gave outcomes.Local ss later h f e = absurd (cc)
first_trace net gave (outcomes.Drop reason error) ss later h f e = absurd (cc)

pub handed_trace : (net : Network) (ss : List walks.Stage) (h : Handed) → handed_over net ss ≡ Some h
    → h.trace ≡ trace_of net (through_hand ss)
handed_trace net [] h e = absurd (cc)
handed_trace net (s ∷ ss) h e = first_trace net s.gave s.gave.outcome ss (handed_over net ss) h (λ k. handed_trace net ss k) e
