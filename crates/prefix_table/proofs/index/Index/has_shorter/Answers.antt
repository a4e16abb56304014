use Rattle.std.proofs.Common.{◌≡◌, ℕ, List, true, false, refl, length, get_or, sym, ap, subst, arith, below_more}
use Rattle.std.proofs.lemmas.Bool.{both_ways}
use Rattle.prefix_table.specs.Index.{HasBelow}
use Rattle.prefix_table.proofs.IndexLemmas.{none_shorter}
use Rattle.prefix_table.proofs.index.Index.has_shorter.Goals as goal

pub returns-then-has_below : goal.returns-then-has_below
returns-then-has_below c =
    let index = c.args.self.now in
    let n = c.loop-other.other-index in
    (λ t. (get_or c.deref-other-items.result.now n 0, c.has_below.ensures.0 c.if-has_below.true), λ h. refl)

pub loop-other-preserved : goal.loop-other-preserved
loop-other-preserved c =
    let index = c.args.self.now in
    let n = c.loop-other.other-index in
    let same : c.deref-other-items.result.now ≡ index.lengths.items = cc in
    below_more (λ (i : ℕ). ¬ HasBelow index c.args.a.value c.args.len (get_or index.lengths.items i 0)) n c.loop-other.invariant
    (λ h. both_ways _ c.if-has_below.false (c.has_below.ensures.1
    (subst (λ (xs : List ℕ). HasBelow index c.args.a.value c.args.len (get_or xs n 0)) (sym same) h)))

pub returns : goal.returns
returns c =
    let index = c.args.self.now in
    let same : c.deref-other-items.result.now ≡ index.lengths.items = cc in (
      λ t. absurd (let f : false ≡ true = t in cc),
      λ h. absurd (none_shorter index c.args.a.value c.args.len c.loop-other.other-index c.requires
          (let long = ap length same in omega arith) c.loop-other.invariant h),
    )
