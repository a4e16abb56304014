-- Need not be believed: helps proofs and other laws.
-- Terms beside those of `specs/Text4.antt`.
use Rattle.std.specs.Prelude.{◌≡◌, ℕ, ◌+◌, ◌*◌, ◌^◌, ◌≤◌, List, ◌∷◌, ◌++◌}
use Rattle.v6_addr.specs.Address.{PrefixValue}
use Rattle.v6_addr.specs.AddressTerms.{IsPrefix}
use Rattle.v6_addr.specs.Text.{length_text}
use Rattle.v6_addr.specs.Text4.{dotted_text}

-- a text writes an IPv4 address
pub record IsAddress4Text (text : List ℕ) (address : ℕ) : Type 0 where
  pub first : ℕ
  pub second : ℕ
  pub third : ℕ
  pub fourth : ℕ
  pub small : (first ≤ 255) × (second ≤ 255) × (third ≤ 255) × (fourth ≤ 255)
  pub written : text ≡ dotted_text first second third fourth
  pub value : address ≡ (((first * 256 + second) * 256 + third) * 256 + fourth) * 2 ^ 96

-- a text writes an IPv4 prefix: an address, a slash and a length of at most 32 without leading zeros
pub record IsPrefix4Text (text : List ℕ) (p : PrefixValue) : Type 0 where
  pub address_part : List ℕ
  pub parts : text ≡ address_part ++ (47 ∷ length_text p.len)
  pub address : IsAddress4Text address_part p.value
  pub short : p.len ≤ 32
  pub is_prefix : IsPrefix p
