-- Need not be believed: helps proofs and other laws.
-- Where a text that is refused goes wrong: after its longest beginning that some accepted text begins with
use Rattle.std.specs.Prelude.{◌≡◌, ℕ, ◌-◌, ◌%◌, ◌^◌, ◌<◌, ◌≤◌, ◌⊎◌, List, ◌∷◌, ◌++◌, length, take}
use Rattle.v6_addr.specs.Text.{length_text}

-- some text that is accepted, here as the text of a value, begins so
pub record Begins {V : Type 0} (IsText : List ℕ → V → Type 0) (beginning : List ℕ) : Type 0 where
  pub rest : List ℕ
  pub value : V
  pub accepted : IsText (beginning ++ rest) value

-- a text's first `at` bytes are a beginning of that kind, and no longer beginning of the text is one
pub record IsLongestBeginning (IsBeginning : List ℕ → Type 0) (text : List ℕ) (at : ℕ) : Type 0 where
  pub within : at ≤ length text
  pub begins : IsBeginning (take at text)
  pub longest : (k : ℕ) → at < k → k ≤ length text → IsBeginning (take k text) → ⊥

-- a text is an address, a slash and a length up to a limit, but a bit of the address after that length is set
pub record HasSetBits (IsText : List ℕ → ℕ → Type 0) (limit : ℕ) (text : List ℕ) : Type 0 where
  pub address_part : List ℕ
  pub address : ℕ
  pub len : ℕ
  pub parts : text ≡ address_part ++ (47 ∷ length_text len)
  pub accepted : IsText address_part address
  pub short : len ≤ limit
  pub set : address % 2 ^ (128 - len) ≡ 0 → ⊥

-- the place of the fault of a text that is no prefix: the whole text's length where only a set bit is wrong, and else the
-- length of the longest beginning that some prefix's text begins with
abbrev pub IsPrefixFault : {V : Type 0} → (List ℕ → ℕ → Type 0) → ℕ → (List ℕ → V → Type 0) → List ℕ → ℕ → Type 0
IsPrefixFault IsText limit IsPrefixText text at =
    (HasSetBits IsText limit text × (at ≡ length text))
    ⊎ ((HasSetBits IsText limit text → ⊥) × IsLongestBeginning (Begins IsPrefixText) text at)
