use Rattle.std.proofs.Common.{◌≡◌, ℕ, List, length, drop, sym, ap, ◌∙◌, arith}
use Rattle.std.proofs.lemmas.Bool.{eqb-true, eqb-false}
use Rattle.srv6_rules.specs.ChecksumTerms.{word_sum}
use Rattle.icmp6_errors.proofs.SumLemmas.{word_sum_more, word_sum_last, word_sum_none}
use Rattle.icmp6_errors.proofs.checksum.word_sum.Goals as goal

pub words-preserved : goal.words-preserved
words-preserved c =
    let rest : List ℕ = c.words.rest.now in
    let more : List ℕ = c.split_at.result.1.now in
    let step = word_sum_more rest (omega arith) in
    let cut : word_sum more ≡ word_sum (drop 2 rest) = ap word_sum c.split_at.ensures.back in
    (omega (arith, c.words.invariant.0), omega (arith, c.words.invariant.1))

pub returns-then-is_empty-clause-sum : goal.returns-then-is_empty-clause-sum
returns-then-is_empty-clause-sum c =
    let rest : List ℕ = c.words.rest.now in
    let none = word_sum_none rest (eqb-true (length rest) 0 (sym c.is_empty.ensures ∙ c.if-is_empty.true)) in
    omega (arith, c.words.invariant.0)

pub returns-clause-sum : goal.returns-clause-sum
returns-clause-sum c =
    let rest : List ℕ = c.words.rest.now in
    let some = eqb-false (length rest) 0 (sym c.is_empty.ensures ∙ c.if-is_empty.false) in
    let last = word_sum_last rest (omega arith) in
    omega (arith, c.words.invariant.0)
