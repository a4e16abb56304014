use Rattle.list_encoder.specs.Waiting.{AreBefore}
use Rattle.list_encoder.proofs.waiting.waiting_of.Given as goal

abbrev pub invariant-loop-place : goal.invariant-loop-place
invariant-loop-place l = AreBefore l.table l.place l.waiting
