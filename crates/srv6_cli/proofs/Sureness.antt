-- What `Serves` says over a sure outside, and of what is read of the input.
use Rattle.std.proofs.Common.{◌≡◌, ◌≢◌, ◌⊎◌, inl, inr, ℕ, ◌+◌, ◌-◌, ◌^◌, ◌==◌, Bool, true, false, if◌then◌else◌, List, length, refl, sym, ap, subst, ◌∙◌, arith}
use Rattle.srx_edge.specs.Edge.{next_count}
use Rattle.srx_edge.specs.Sources.{SourceSeen}
use Rattle.srx_edge.specs.CallSteps.{Fault, Memory, Failing, Wanting}
use Rattle.command_output.specs.declared.status.Status.TheVariants as statuses
use Rattle.command_output.specs.Outside.{Outside, Reads, ReadsWhole}
use Rattle.command_output.specs.OutputPieces.{Stop, Never, AtFiles, AtInput, At, Elsewhere, ending_by}
use Rattle.srv6_cli.specs.Commands.{spec_of}
use Rattle.srv6_cli.specs.Complete.{FilesAreSure, HadFaultBeside}
use Rattle.srv6_cli.specs.ServeLaws.{InputIsWhole, NoneFailsOverSure, OfServe, StandAtZero}
use Rattle.srv6_cli.proofs.Consequences.{fault_status, memory_status}

-- a count that goes on by one isn't 0

next_not_zero : (n : ℕ) → next_count n ≡ 0 → ⊥
next_not_zero n e = by (n == 2 ^ 64 - 1) refl e
  where
    by : (last : Bool) → (n == 2 ^ 64 - 1) ≡ last → (if last then n else n + 1) ≡ 0 → ⊥
    by true is z = let zero : (0 == 2 ^ 64 - 1) ≡ true = subst (λ (m : ℕ). (m == 2 ^ 64 - 1) ≡ true) z is in cc
    by false is z = omega (arith, z)

next_some : (n m : ℕ) → m ≡ next_count n → m ≡ 0 → ⊥
next_some n m next zero = absurd (next_not_zero n (sym next ∙ zero))

none_beside : (old new : Outside) → HadFaultBeside old new → StandAtZero new → ⊥
none_beside old new (inl input) zero = next_some old.input.faults new.input.faults input zero.0
none_beside old new (inr (inl out)) zero = next_some old.sinks.out.faults new.sinks.out.faults out zero.1
none_beside old new (inr (inr err)) zero = next_some old.sinks.err.faults new.sinks.err.faults err zero.2

pub sure_outside_holds : OfServe (λ command status old new. FilesAreSure (spec_of command) old.files → StandAtZero new
    → status ≢ statuses.OutsideFault)
sure_outside_holds command status old new s sure zero is = none_beside old new (s.complete sure is) zero

pub none_fails_over_sure : NoneFailsOverSure
none_fails_over_sure command status f g s t o p e q hold serves =
    sure_outside_holds command status _ _ serves
    (inr (ap (λ (fails : List ℕ). length fails == 0) hold.0, hold.1)) (refl, refl, refl)

-- what is read of the input

input_whole : (stop : Stop) (old new : SourceSeen) → Reads stop old new → (ending_by stop ≡ Fault → ⊥) → (ending_by stop ≡ Memory → ⊥)
    → (new ≡ old) ⊎ ReadsWhole old new
input_whole Never old new reads calm rich = reads
input_whole AtFiles old new reads calm rich = absurd (calm refl)
input_whole AtInput old new reads calm rich = absurd (calm refl)
input_whole (At sink Failing) old new reads calm rich = absurd (calm refl)
input_whole (At sink Wanting) old new reads calm rich = absurd (rich refl)
input_whole Elsewhere old new reads calm rich = absurd (rich refl)

pub input_is_whole : OfServe (λ command status old new. status ≢ statuses.OutsideFault → status ≢ statuses.NoMemory → InputIsWhole old new)
input_is_whole command status old new s calm rich = input_whole s.stop old.input new.input s.takes.reads
    (λ fault. calm (fault_status status (sym s.ending ∙ fault))) (λ want. rich (memory_status status (sym s.ending ∙ want)))
