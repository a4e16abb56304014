use Rattle.std.proofs.Common.{◌≡◌, ◌++◌, length}
use Rattle.std.specs.Vec.Iter.{into_iter_items, into_iter_len}
use Rattle.srv6.proofs.words_after_name.Given as goal

abbrev pub invariant-loop-word : goal.invariant-loop-word
invariant-loop-word l = record {
  words : l.words.items ++ into_iter_items l.word-iterator ≡ into_iter_items l.initial.word-iterator;
  len : into_iter_len l.word-iterator ≡ length (into_iter_items l.word-iterator);
}
