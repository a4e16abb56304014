use Rattle.std.proofs.Common.{◌≡◌, slice_get, Some, None, ap, sym, ◌∙◌, subst}
use Rattle.std.proofs.lemmas.Option.{slice_get-get_or}
use Rattle.prefix_table.specs.PrefixTable.{value_at}
use Rattle.prefix_table.specs.Index.{key_of, place_at}
use Rattle.prefix_table.proofs.TableEditLemmas.{value_none}
use Rattle.prefix_table.proofs.TablePlaceLemmas.{place_is_within, value_there, none_there}
use Rattle.prefix_table.proofs.table.Table.get.Goals as goal

pub returns-in-None : goal.returns-in-None
returns-in-None g c =
    let index = c.self.inside.index in
    let p = c.args.p.now in
    let none = none_there c.self.inside.entries.items index p c.self.invariant
    (ap (place_at index) (sym c.key_of.ensures.key) ∙ sym c.in-None.ensures) in
    subst (λ xs. None ≡ value_at xs p) c.self.view_is (sym (value_none c.self.inside.entries.items p none))

pub returns-in-Some : goal.returns-in-Some
returns-in-Some g c =
    let index = c.self.inside.index in
    let p = c.args.p.now in
    let es = c.self.inside.entries.items in
    let at : place_at index (key_of p) ≡ Some c.in-Some.place =
    ap (place_at index) (sym c.key_of.ensures.key) ∙ sym c.in-Some.ensures in
    let within = place_is_within es index p c.in-Some.place c.self.invariant c.key_of.ensures.is_prefix at in
    let there : slice_get es c.in-Some.place ≡ Some c.index.result.now =
    slice_get-get_or es c.in-Some.place c.index.result.now within ∙ ap Some (sym c.index.ensures) in
    subst (λ xs. Some c.index.result.now.1 ≡ value_at xs p) c.self.view_is
    (sym (value_there es index p c.in-Some.place c.index.result.now c.self.invariant c.key_of.ensures.is_prefix at there))
