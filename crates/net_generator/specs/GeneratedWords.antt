-- What texts in TOML are made of. A text is put together of pieces, one after the other
use Rattle.std.specs.Prelude.{ℕ, ◌+◌, ◌-◌, Bool, false, ◌&&◌, nat_le, List, [], ◌∷◌, ◌++◌, codes}
use Rattle.std.specs.List.{range_with_len}
use Rattle.std.specs.Fmt.{decimal, digits}

-- `IsSize` as a test
unfoldable pub is_size : ℕ → Bool
is_size n = nat_le 2 n && nat_le n 47

-- the numbers from the first to the last, both among them
unfoldable pub from_to : ℕ → ℕ → List ℕ
from_to first last = range_with_len first (last + 1 - first)

-- the pieces of a text
abbrev pub Pieces : Type 0
Pieces = List (List ℕ)

-- a text alone
abbrev pub word : List ℕ → Pieces
word text = text ∷ []

-- a number in hexadecimal digits, in lower case and without leading zeros
abbrev pub hex : ℕ → List ℕ
hex n = digits 16 false n

-- a name with a number after it
abbrev pub numbered : List ℕ → ℕ → Pieces
numbered name i = name ∷ decimal i ∷ []

-- a text as a value: between quotes
abbrev pub quoted : Pieces → Pieces
quoted text = word (codes "\"") ++ text ++ word (codes "\"")

-- lists of texts as values

abbrev pub list_of_one : Pieces → Pieces
list_of_one text = word (codes "[") ++ quoted text ++ word (codes "]")

abbrev pub list_of_two : Pieces → Pieces → Pieces
list_of_two first second = word (codes "[") ++ quoted first ++ word (codes ", ") ++ quoted second ++ word (codes "]")

-- a key with its value, a line
abbrev pub key : List ℕ → Pieces → Pieces
key name value = word name ++ word (codes " = ") ++ value ++ word (codes "\n")

-- a table: its header line, the lines of its keys, and an empty line
abbrev pub table : List ℕ → Pieces → Pieces
table name keys = word (codes "[[") ++ word name ++ word (codes "]]\n") ++ keys ++ word (codes "\n")

-- names of nodes, and of the first and the second link to a node

abbrev pub node_name : ℕ → Pieces
node_name i = numbered (codes "n") i

abbrev pub a_name : ℕ → Pieces
a_name i = numbered (codes "a") i

abbrev pub b_name : ℕ → Pieces
b_name i = numbered (codes "b") i
