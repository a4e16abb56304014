-- SIDs nested in another SID.
use Rattle.std.proofs.Common.{◌≡◌, ℕ, Some, sym, ap, ◌∙◌, arith}
use Rattle.std.specs.List.{slice_get}
use Rattle.std.proofs.lemmas.Option.{same_Some}
use Rattle.v6_addr.specs.Address.{IsInside}
use Rattle.srv6_rules.specs.declared.sid.SidEntry.{SidEntry}
use Rattle.net_model.specs.declared.parts.Block.{Block}
use Rattle.net_model.specs.Network.{Network}
use Rattle.net_model.specs.NetworkRules.{block_len_of}
use Rattle.net_model.specs.NetworkRulesTerms.{IsNetwork}
use Rattle.net_model.proofs.PublicLaws.{keeps_from_network, contains_from_get}
use Rattle.net_flatness.specs.Nests.{IsNest}
use Rattle.net_flatness.specs.Flat.{IsFlat}

-- in a flat network a SID that lies strictly inside another is nested in it
pub inside_is_nested : (net : Network) (n m : ℕ) (s t : SidEntry) → IsFlat net → slice_get net.sids n ≡ Some s
    → slice_get net.sids m ≡ Some t → IsInside t.prefix s.prefix → IsNest net s t
inside_is_nested net n m s t flat at_n at_m inside =
    flat.nested.sids s t (contains_from_get net.sids n s at_n) (contains_from_get net.sids m t at_m) inside

-- a nested SID has none nested in it: both lie in one block, after which the one has 32 bits and an outer one 16
pub nests_are_not_nested : (net : Network) (s t u : SidEntry) → IsNest net s t → ¬ IsNest net t u
nests_are_not_nested net s t u one other =
    let same : one.block ≡ other.block = same_Some one.block other.block (sym one.of_inner ∙ other.of_outer) in
    let len : one.block.prefix.len ≡ other.block.prefix.len = ap (λ (b : Block). b.prefix.len) same in
    omega (arith, one.inner_len, other.outer_len, len)

-- the outer SID tells the length of its block
pub nest_block : (net : Network) (n : ℕ) (s t : SidEntry) → IsNetwork net → slice_get net.sids n ≡ Some s → (nest : IsNest net s t)
    → s.block_len ≡ nest.block.prefix.len
nest_block net n s t rules at nest =
    ((keeps_from_network net rules).sid n s at).block_len ∙ ap block_len_of nest.of_outer
