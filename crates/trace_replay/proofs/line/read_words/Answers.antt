use Rattle.std.proofs.Common.{sym, ◌∙◌, arith}
use Rattle.trace_replay.proofs.WordLemmas.{other_words}
use Rattle.trace_replay.proofs.line.read_words.Goals as goal
use Rattle.trace_replay.proofs.line.read_words.Goals.{in_default-via-then-words-lt1, in_default-via-else-words-lt1+else-words-lt2+then-words-lt5, in_default-via-else-words-lt1+else-words-lt2+else-words-lt5+else-words-lt6}

pub returns-in_default-clause-line : goal.returns-in_default-clause-line
returns-in_default-clause-line c =
    other_words c.args.net.now c.args.words.now (sym c.is_stage.ensures ∙ c.if-is_stage.false)
    (λ e. elim c.in_default.branch [
      | in_default-via-then-words-lt1 w ↦ absurd (grind (arith, e))
      | in_default-via-else-words-lt1+else-words-lt2+then-words-lt5 w ↦ absurd (grind (arith, e))
      | in_default-via-else-words-lt1+else-words-lt2+else-words-lt5+else-words-lt6 w ↦ absurd (grind (arith, e))
    ])
    (λ e. elim c.in_default.branch [
      | in_default-via-then-words-lt1 w ↦ absurd (grind (arith, e))
      | in_default-via-else-words-lt1+else-words-lt2+then-words-lt5 w ↦ absurd (grind (arith, e))
      | in_default-via-else-words-lt1+else-words-lt2+else-words-lt5+else-words-lt6 w ↦ absurd (grind (arith, e))
    ])
