-- The order of lists of numbers: at the first difference the lower number comes first, and a list comes before each longer one that
-- begins with it.
use Rattle.std.specs.Prelude.{ℕ, Bool, true, false, ◌==◌, ◌&&◌, ◌||◌, nat_lt, List, [], ◌∷◌}

abbrev pub lex_before : List ℕ → List ℕ → Bool
lex_before [] [] = false
lex_before [] (y ∷ ys) = true
lex_before (x ∷ xs) [] = false
lex_before (x ∷ xs) (y ∷ ys) = nat_lt x y || ((x == y) && lex_before xs ys)
