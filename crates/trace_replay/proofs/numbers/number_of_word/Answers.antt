use Rattle.std.proofs.Common.{◌≡◌, true, rules}
use Rattle.trace_replay.specs.TraceGrammar.{is_numeral}
use Rattle.trace_replay.proofs.ReplayNumberLemmas.{number_refused}
use Rattle.trace_replay.proofs.numbers.number_of_word.Goals as goal

pub returns-in-Err : goal.returns-in-Err
returns-in-Err c =
    let digits : is_numeral c.args.word.now ≡ true = first_of (cc, search rules) in
    number_refused _ c.args.word.now c.in-Err.field-0 digits c.in-Err.ensures.value.0
