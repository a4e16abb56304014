use Rattle.std.proofs.Common.{◌≡◌, true, false, Some, refl, sym, ◌∙◌, ap}
use Rattle.std.proofs.lemmas.Option.{slice_get-get_or}
use Rattle.list_pack.specs.declared.types.Container.{Container}
use Rattle.list_pack.specs.SidLists.{KeepsNests}
use Rattle.list_pack.proofs.Neighbours.{each_more, all_from, all_at}
use Rattle.list_pack.proofs.nest_units.all_keep_nests.Goals as goal

pub returns-then-not-keeps_nests : goal.returns-then-not-keeps_nests
returns-then-not-keeps_nests c =
    let no : c.keeps_nests.result ≡ false = cc in
    let at = slice_get-get_or c.args.list.now c.loop-container.container-index c.container-item.result c.loop-container-test.true
    ∙ ap (λ (x : Container). Some x) (sym c.container-item.is) in (
      λ e. absurd (cc),
      λ all.
          absurd (let yes = c.keeps_nests.ensures.1 (all_at (KeepsNests c.args.net.now) c.args.list.now c.loop-container.container-index
          c.container-item.result at all) in cc),
    )

pub loop-container-preserved : goal.loop-container-preserved
loop-container-preserved c =
    let yes : c.keeps_nests.result ≡ true = cc in
    let at = slice_get-get_or c.args.list.now c.loop-container.container-index c.container-item.result c.loop-container-test.true
    ∙ ap (λ (x : Container). Some x) (sym c.container-item.is) in
    each_more (KeepsNests c.args.net.now) c.args.list.now c.loop-container.container-index c.container-item.result at
    (c.keeps_nests.ensures.0 yes) c.loop-container.invariant

pub returns : goal.returns
returns c =
    let all = all_from (KeepsNests c.args.net.now) c.args.list.now c.loop-container.container-index c.loop-container-test.false
    c.loop-container.invariant in
    (λ e. all, λ so. refl)
