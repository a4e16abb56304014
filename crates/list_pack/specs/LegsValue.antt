-- What a search sees of legs, and what holds of it.
use Rattle.std.specs.Prelude.{ℕ, ◌-◌, ◌/◌, Bool, false, ◌==◌, List, Option, Some, None}
use Rattle.list_pack.specs.declared.types.Shape.{Shape}
use Rattle.list_pack.specs.declared.types.Leg.{Leg}

-- `node` is where a SID stands; it is seen, and asked for by no call. `stays` says whether a SID may come directly after another in its
-- container, as far as the SIDs nested in that one go; `sid_cost` is what each SID of a list costs, between containers and hops
pub record LegsValue : Type 0 where
  pub steps : ℕ
  pub sids_at : ℕ → List ℕ
  pub shape : ℕ → Shape
  pub node : ℕ → ℕ
  pub leg : ℕ → Option ℕ → ℕ → Option Leg
  pub finish : ℕ → Option ℕ → ℕ → Option ℕ
  pub stays : ℕ → ℕ → Bool
  pub sid_cost : ℕ

-- how many 16-bit units a SID's prefix has after the bits that its block shares
abbrev pub units_of : Shape → ℕ
units_of s = (s.prefix.len - s.lbl) / 16

abbrev pub same_block : Option ℕ → Option ℕ → Bool
same_block None b = false
same_block (Some a) None = false
same_block (Some a) (Some b) = a == b
