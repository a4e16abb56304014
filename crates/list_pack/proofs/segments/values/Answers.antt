use Rattle.std.proofs.Common.{◌≡◌, List, ◌∙◌, sym, ap, subst, Some}
use Rattle.std.specs.List.{slice_get}
use Rattle.std.proofs.lemmas.Option.{slice_get-get_or}
use Rattle.list_pack.specs.declared.types.Container.{Container}
use Rattle.list_pack.proofs.Valued.{legal_valued}
use Rattle.list_pack.proofs.segments.values.Goals as goal

pub value_of-requires : goal.value_of-requires
value_of-requires c =
    let items = c.as_slice-container-items in
    let at = slice_get-get_or items.result.now c.loop-container.container-index c.container-item.result c.loop-container-test.true
    ∙ ap (λ (x : Container). Some x) (sym c.container-item.is) in
    legal_valued c.args.net.now c.args.list.now c.loop-container.container-index c.container-item.result c.requires.legal.rules
    c.requires.flat
    (subst (λ (xs : List Container). slice_get xs c.loop-container.container-index ≡ Some c.container-item.result) items.ensures at)
