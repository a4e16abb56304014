use Rattle.std.proofs.Common.{◌≡◌, ◌↔◌, refl, ap, ◌∙◌, subst}
use Rattle.std.specs.Prelude.{is_some, IsTrue}
use Rattle.prefix_table.specs.declared.index.Key.{Key}
use Rattle.prefix_table.specs.PrefixTable.{HasPrefix}
use Rattle.prefix_table.specs.Index.{key_of, place_at}
use Rattle.prefix_table.proofs.IndexLemmas.{has_tells}
use Rattle.prefix_table.proofs.table.Table.has.Goals as goal

pub returns : goal.returns
returns g c =
    let index = c.self.inside.index in
    let told : c.has.result ≡ is_some (place_at index (key_of c.args.p)) =
    c.has.ensures ∙ ap (λ (k : Key). is_some (place_at index k)) c.key_of.ensures.key in
    subst (λ xs. IsTrue c.has.result ↔ HasPrefix xs c.args.p) c.self.view_is
    (has_tells c.self.inside.entries.items index c.args.p (place_at index (key_of c.args.p)) c.has.result c.self.invariant.table
    c.self.invariant.places c.key_of.ensures.is_prefix refl told)
