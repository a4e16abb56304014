-- The words of a verb.
use Rattle.std.specs.Prelude.{ℕ, Bool, ◌&&◌, ◌==◌, not, if◌then◌else◌, List, [], ◌∷◌, length, map, Option, Some, None, String, string_bytes}
use Rattle.std.specs.Str.{bytes_eq}
use Rattle.std.specs.declared.alloc.Global.{Global}

-- the bytes of words
abbrev pub words_of : List (String Global) → List (List ℕ)
words_of words = map string_bytes words

-- a word that names a file or a node isn't empty
abbrev pub is_word : List ℕ → Bool
is_word word = not (length word == 0)

-- a verb with two such words after it
abbrev pub has_two_words : List ℕ → List ℕ → List ℕ → List ℕ → Bool
has_two_words name verb first second = bytes_eq verb name && (is_word first && is_word second)

-- the two words after a verb, and those that follow them
pub record TwoWords : Type 0 where
  pub first : List ℕ
  pub second : List ℕ
  pub more : List (List ℕ)

abbrev pub two_words : List ℕ → List (List ℕ) → Option TwoWords
two_words name [] = None
two_words name (verb ∷ []) = None
two_words name (verb ∷ first ∷ []) = None
two_words name (verb ∷ first ∷ second ∷ more) =
    if has_two_words name verb first second then Some (record { first = first; second = second; more = more }) else None
