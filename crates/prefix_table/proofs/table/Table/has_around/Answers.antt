use Rattle.std.proofs.Common.{ℕ, sym, subst}
use Rattle.prefix_table.specs.Index.{HasShorter, IsIndex}
use Rattle.prefix_table.proofs.IndexLemmas.{around_tells}
use Rattle.prefix_table.proofs.table.Table.has_around.Goals as goal

pub returns : goal.returns
returns g c =
    let index = c.self.inside.index in
    let p = c.args.p in
    let around = around_tells c.args.self.now index p (subst (λ xs. IsIndex xs index) c.self.view_is c.self.invariant.places) in
    let to_p : HasShorter index c.value.result.value c.len.result → HasShorter index p.value p.len =
    λ h. subst (λ (n : ℕ). HasShorter index p.value n) c.len.ensures.len
    (subst (λ (a : ℕ). HasShorter index a c.len.result) c.value.ensures.value h) in
    let from_p : HasShorter index p.value p.len → HasShorter index c.value.result.value c.len.result =
    λ h. subst (λ (a : ℕ). HasShorter index a c.len.result) (sym c.value.ensures.value)
    (subst (λ (n : ℕ). HasShorter index p.value n) (sym c.len.ensures.len) h) in
    (λ told. around.0 (to_p (c.has_shorter.ensures.0 told)), λ h. c.has_shorter.ensures.1 (from_p (around.1 h)))
