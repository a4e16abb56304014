-- The block that a prefix lies strictly inside.
use Rattle.std.proofs.Common.{◌≡◌, List, Option, Some, None, refl}
use Rattle.std.proofs.lemmas.Bool.{both_ways}
use Rattle.v6_addr.specs.Address.{PrefixValue, is_inside}
use Rattle.v6_addr.proofs.PublicLaws.{is_inside_is}
use Rattle.net_model.specs.declared.parts.Block.{Block}
use Rattle.net_model.specs.NetworkRules.{block_of}
use Rattle.net_model.specs.NetworkKeeps.{IsBlockOf}
use Rattle.net_model.proofs.FindLemmas.{find_first, find_none, get_from_contains, contains_from_get}

block_by : (blocks : List Block) (p : PrefixValue) (found : Option Block) → block_of blocks p ≡ found → IsBlockOf blocks p found
block_by blocks p None e = λ b there inside.
    let (i, at) = get_from_contains blocks b there in
    both_ways _ (find_none (λ x. is_inside p x.prefix) blocks e i b at) ((is_inside_is p b.prefix).1 inside)
block_by blocks p (Some b) e =
    let (i, at, passes, before) = find_first (λ x. is_inside p x.prefix) blocks b e in
    (contains_from_get blocks i b at, (is_inside_is p b.prefix).0 passes)

pub block_of_is : (blocks : List Block) (p : PrefixValue) → IsBlockOf blocks p (block_of blocks p)
block_of_is blocks p = block_by blocks p (block_of blocks p) refl
