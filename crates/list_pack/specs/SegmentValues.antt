-- Need not be believed: helps proofs and other laws.
-- What the values of containers are made from (RFC 9800 section 4).
use Rattle.std.specs.Prelude.{◌≡◌, ℕ, ◌+◌, ◌-◌, ◌<◌, ◌≤◌, List, [], ◌∷◌}
use Rattle.v6_addr.specs.Address.{PrefixValue}
use Rattle.v6_addr.specs.declared.address.Addr.{Addr}
use Rattle.sid_list_spec.specs.SegmentLists.{Container}
use Rattle.sid_list_theory.specs.ListPlaces.{entered, IsPlace}

abbrev pub addr_value : Addr → ℕ
addr_value a = a.value

-- SIDs longer than their block, whose bits after it fit one after the other from a bit on
abbrev pub FitBehind : ℕ → ℕ → List PrefixValue → Type 0
FitBehind block_len at [] = Unit {0}
FitBehind block_len at (p ∷ ps) =
    (block_len < p.len) × (at + (p.len - block_len) ≤ 128) × FitBehind block_len (at + (p.len - block_len)) ps

-- SIDs with so many bits after their block
abbrev pub HaveCsids : ℕ → ℕ → List PrefixValue → Type 0
HaveCsids block_len csid_len [] = Unit {0}
HaveCsids block_len csid_len (p ∷ ps) = (p.len ≡ block_len + csid_len) × HaveCsids block_len csid_len ps

-- a container of SIDs of a flat network, which keeps the rules by itself
abbrev pub IsValued : Container → Type 0
IsValued c = IsPlace (entered c [])
