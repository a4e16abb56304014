-- Lists as they are made of a path, step by step.
use Rattle.std.proofs.Common.{◌≡◌, ◌⊎◌, inl, inr, ℕ, suc, ◌-◌, ◌<◌, List, [], ◌∷◌, length, map, Some, sym, ◌∙◌, ap, arith}
use Rattle.std.specs.List.{slice_get}
use Rattle.v6_addr.specs.Address.{PrefixValue}
use Rattle.net_model.specs.declared.limits.TheConstants.{SHORT_CSID, LONG_CSID}
use Rattle.net_model.specs.declared.parts.Block.{Block}
use Rattle.net_model.specs.Network.{Network}
use Rattle.net_model.specs.NetworkKeeps.{Keeps}
use Rattle.sid_list_spec.specs.SegmentLists.{ListSid, last_of}

-- a block's CSIDs have some bits
some_bits : (n : ℕ) → (n ≡ SHORT_CSID) ⊎ (n ≡ LONG_CSID) → 0 < n
some_bits n (inl e) = omega (arith, e)
some_bits n (inr e) = omega (arith, e)

pub block_sized : (net : Network) (n : ℕ) (b : Block) → Keeps net → slice_get net.blocks n ≡ Some b → 0 < b.csid
block_sized net n b keeps at = some_bits b.csid (keeps.block n b at).csid

pub last_at : (sid_on : PrefixValue → ListSid) (p x : PrefixValue) (xs : List PrefixValue) → slice_get xs (length xs - 1) ≡ Some x
    → last_of (sid_on p) (map sid_on xs) ≡ sid_on x
last_at sid_on p x [] e = absurd (cc)
last_at sid_on p x (y ∷ []) e =
    let same : y ≡ x = cc in
    ap sid_on same
last_at sid_on p x (y ∷ z ∷ zs) e =
    let one : length (y ∷ z ∷ zs) - 1 ≡ suc (length (z ∷ zs) - 1) = omega arith in
    last_at sid_on y x (z ∷ zs) (ap (λ (n : ℕ). slice_get (y ∷ z ∷ zs) n) (sym one) ∙ e)
