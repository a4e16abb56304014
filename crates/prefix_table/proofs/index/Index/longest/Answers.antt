use Rattle.std.proofs.Common.{◌≡◌, ℕ, List, None, length, get_or, sym, ap, ◌∙◌, arith, below_more}
use Rattle.std.specs.Option.{option_copied}
use Rattle.prefix_table.specs.Index.{key_at, place_at}
use Rattle.prefix_table.proofs.IndexLemmas.{longest_found, longest_none}
use Rattle.prefix_table.proofs.index.Index.longest.Goals as goal

pub returns-in-Some : goal.returns-in-Some
returns-in-Some c =
    let index = c.args.self.now in
    let n = c.loop-len.len-index in
    let same : c.deref-len-items.result.now ≡ index.lengths.items = cc in
    let key : c.key_at.result ≡ key_at c.args.a.value (get_or index.lengths.items n 0) =
    c.key_at.ensures ∙ ap (λ (xs : List ℕ). key_at c.args.a.value (get_or xs n 0)) same in
    longest_found index c.args.a.value n c.in-Some.place.now c.requires (let long = ap length same in omega arith) c.loop-len.invariant
    (ap (place_at index) (sym key) ∙ sym c.in-Some.ensures.value)

pub loop-len-preserved : goal.loop-len-preserved
loop-len-preserved c =
    let index = c.args.self.now in
    let n = c.loop-len.len-index in
    let same : c.deref-len-items.result.now ≡ index.lengths.items = cc in
    let key : c.key_at.result ≡ key_at c.args.a.value (get_or index.lengths.items n 0) =
    c.key_at.ensures ∙ ap (λ (xs : List ℕ). key_at c.args.a.value (get_or xs n 0)) same in
    below_more (λ (i : ℕ). place_at index (key_at c.args.a.value (get_or index.lengths.items i 0)) ≡ None) n c.loop-len.invariant
    (ap (place_at index) (sym key) ∙ (sym c.get.ensures.value ∙ ap option_copied c.in_default.is))

pub returns : goal.returns
returns c =
    let index = c.args.self.now in
    let same : c.deref-len-items.result.now ≡ index.lengths.items = cc in
    longest_none index c.args.a.value c.loop-len.len-index c.requires (let long = ap length same in omega arith) c.loop-len.invariant
