use Rattle.std.proofs.Common.{◌≡◌, length, None, All, true, false, subst, ◌==◌}
use Rattle.std.specs.Prelude.{◌↔◌, IsTrue}
use Rattle.std.specs.List.{list_all}
use Rattle.list_pack.specs.SidLists.{list_sid, prefixes_in, KeepsNests}
use Rattle.list_pack.specs.SidListsTerms.{is_named}
use Rattle.list_pack.specs.OpenContainers.{follow_test}
use Rattle.list_pack.proofs.Ruled.{legal_breaks, legal_unnamed, legal_kept}
use Rattle.list_pack.proofs.search_rules.is_legal.Goals as goal

pub returns-then-not-follow : goal.returns-then-not-follow
returns-then-not-follow c =
    let test : follow_test (list_sid c.args.net.now) None c.args.list.now ≡ false = cc (c.follow.ensures, c.as_slice-containers.ensures) in
    legal_breaks c.args.net.now c.args.list.now test

pub returns-then-not-all_named : goal.returns-then-not-all_named
returns-then-not-all_named c =
    let named : list_all (is_named c.args.net.now) (prefixes_in c.args.list.now) ≡ false =
    cc (c.all_named.ensures, c.as_slice-containers.ensures) in
    legal_unnamed c.args.net.now c.args.list.now named

pub returns : goal.returns
returns c =
    let net = c.args.net.now in
    let list = c.args.list.now in
    let test : follow_test (list_sid net) None list ≡ true = cc (c.follow.ensures, c.as_slice-containers.ensures) in
    let named : list_all (is_named net) (prefixes_in list) ≡ true = cc (c.all_named.ensures, c.as_slice-containers.ensures) in
    let some : (length list == 0) ≡ false = cc (c.is_empty.ensures, c.as_slice-containers.ensures) in
    legal_kept net list c.all_keep_nests.result some test named
    (subst (λ (cs : _). IsTrue c.all_keep_nests.result ↔ All (KeepsNests net) cs) c.as_slice-containers.ensures c.all_keep_nests.ensures)
