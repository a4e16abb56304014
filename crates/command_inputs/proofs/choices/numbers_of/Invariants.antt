use Rattle.std.proofs.Common.{◌≡◌, drop, map}
use Rattle.command_inputs.specs.ChoiceWords.{numbers_in}
use Rattle.command_inputs.proofs.ChoiceLemmas.{numbers_after}
use Rattle.command_inputs.proofs.choices.numbers_of.Given as goal

abbrev pub invariant-loop-part : goal.invariant-loop-part
invariant-loop-part l =
    numbers_after l.numbers.items (numbers_in (map (λ part. part.now) (drop l.part-index l.part-items)))
    ≡ numbers_in (map (λ part. part.now) l.part-items)
