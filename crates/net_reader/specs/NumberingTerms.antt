-- Need not be believed: helps proofs and other laws.
-- Terms beside those of `specs/Numbering.antt`.
use Rattle.std.specs.Prelude.{◌≡◌, ℕ, List, position, bytes_eq}
use Rattle.std.specs.Borrow.{Bor}
use Rattle.std.specs.Ordering.{nat_cmp}
use Rattle.std.specs.Cmp.Lexicographic.{slice_cmp}
use Rattle.std.specs.BTreeMap.{BTreeMap, get_by}

-- a map has each name that is there, with its number, and no other
abbrev pub HasNumbers : BTreeMap (Bor (List ℕ)) ℕ → List (List ℕ) → Type 0
HasNumbers numbers names =
    (name : List ℕ) → get_by (λ k. slice_cmp nat_cmp name k.now) numbers ≡ position (bytes_eq name) names
