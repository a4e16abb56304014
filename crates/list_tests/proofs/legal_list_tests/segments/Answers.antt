use Rattle.std.proofs.Common.{refl}
use Rattle.net_flatness.specs.Flat.{IsFlat}
use Rattle.list_pack.specs.SidLists.{IsLegalList}
use Rattle.list_pack.proofs.FlatSids.{flat_lists}
use Rattle.list_pack.proofs.Ruled.{legal_flat}
use Rattle.list_tests.proofs.legal_list_tests.segments.Goals as goal

pub values-requires-clause-flat : goal.values-requires-clause-flat
values-requires-clause-flat c =
    let legal : IsLegalList c.args.net.now c.args.list.now = c.is_legal.ensures.0 c.if-not-is_legal.false in
    let flat : IsFlat c.args.net.now = (c.in-Ok.ensures.flat c.requires).0 refl in
    legal_flat c.args.net.now c.args.list.now (flat_lists c.args.net.now c.keeps_rules.ensures.network flat) legal
