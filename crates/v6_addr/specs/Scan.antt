-- The texts of addresses byte by byte: what stands before a byte, and what may follow. 58 is the colon (RFC 4291 section 2.2).
use Rattle.std.specs.Prelude.{ℕ, ◌-◌, List, [], ◌∷◌, Option, Some, option_and_then}

-- where a text leads from a place, one byte after another; none where a byte has no place after it
unfoldable pub walked : {A : Type 0} → (A → ℕ → Option A) → A → List ℕ → Option A
walked step place [] = Some place
walked step place (c ∷ cs) = option_and_then (λ next. walked step next cs) (step place c)
