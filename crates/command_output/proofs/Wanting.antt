-- Steps that take no memory: memory is wanting in a sink alone.
use Rattle.std.proofs.Common.{◌≡◌, ℕ, List, [], ◌∷◌, Ok, Err, refl, ap, ◌∙◌, inl, inr}
use Rattle.std.specs.Prelude.{Result}
use Rattle.srx_edge.specs.Edge.{next_count}
use Rattle.srx_edge.specs.Sinks.{SinkSeen, sent}
use Rattle.command_output.specs.declared.halt.Failure.{Failure}
use Rattle.command_output.specs.declared.halt.Failure.TheVariants as failures
use Rattle.command_output.specs.CommandAnswers.{ending_of_failure, ending_of_step}
use Rattle.command_output.specs.GatheredTerms.{HasWant, Waiting, WantsInSink, WantsInSinks, waiting_pieces}
use Rattle.command_output.specs.OutputPieces.{Sinks, gone}
use Rattle.command_output.specs.OutputPiecesTerms.{sinks_of}

-- bytes that go out are no want
wants_sent : (bytes : List ℕ) (sink : SinkSeen) → (sent bytes sink).wants ≡ sink.wants
wants_sent [] sink = refl
wants_sent (byte ∷ bytes) sink = refl

want_after : (bytes : List ℕ) (old mid new : SinkSeen) → mid ≡ sent bytes old → HasWant mid new → HasWant old new
want_after bytes old mid new went h =
    (h.0 ∙ ap next_count (ap (λ (sink : SinkSeen). sink.wants) went ∙ wants_sent bytes old), h.1)

-- one of the two sinks is written to

pub wants_on_out : (failure : Failure) (old new err : SinkSeen) → WantsInSink (ending_of_failure failure) old new
    → WantsInSinks (ending_of_failure failure) (sinks_of old err) (sinks_of new err)
wants_on_out failures.Fault old new err h = tt
wants_on_out failures.NoMemory old new err h = inl h

pub wants_on_err : (failure : Failure) (out out_new old new : SinkSeen) → WantsInSink (ending_of_failure failure) old new
    → WantsInSinks (ending_of_failure failure) (sinks_of out old) (sinks_of out_new new)
wants_on_err failures.Fault out out_new old new h = tt
wants_on_err failures.NoMemory out out_new old new h = inr h

-- and before that what waits went out

pub wants_out_behind : (result : Result (Unit {0}) Failure) (waiting : Waiting) (old mid : Sinks) (new : SinkSeen)
    → mid ≡ gone (waiting_pieces waiting) old → WantsInSink (ending_of_step result) mid.out new
    → WantsInSinks (ending_of_step result) old (sinks_of new mid.err)
wants_out_behind (Ok unit) waiting old mid new went h = tt
wants_out_behind (Err failures.Fault) waiting old mid new went h = tt
wants_out_behind (Err failures.NoMemory) waiting old mid new went h =
    inl (want_after waiting.out old.out mid.out new (ap (λ (sinks : Sinks). sinks.out) went) h)

pub wants_err_behind : (result : Result (Unit {0}) Failure) (waiting : Waiting) (old mid : Sinks) (new : SinkSeen)
    → mid ≡ gone (waiting_pieces waiting) old → WantsInSink (ending_of_step result) mid.err new
    → WantsInSinks (ending_of_step result) old (sinks_of mid.out new)
wants_err_behind (Ok unit) waiting old mid new went h = tt
wants_err_behind (Err failures.Fault) waiting old mid new went h = tt
wants_err_behind (Err failures.NoMemory) waiting old mid new went h =
    inr (want_after waiting.err old.err mid.err new (ap (λ (sinks : Sinks). sinks.err) went) h)
