-- The lines of an input.
use Rattle.std.specs.Prelude.{ℕ, List, [], ◌∷◌, ◌++◌, ◌==◌, if◌then◌else◌}

-- the byte behind each line
abbrev pub line_feed : ℕ
line_feed = 10

-- of an input whose first line begins with these bytes: the lines that end before a line feed
abbrev pub whole_lines_from : List ℕ → List ℕ → List (List ℕ)
whole_lines_from line [] = []
whole_lines_from line (byte ∷ bytes) =
    if byte == line_feed then line ∷ whole_lines_from [] bytes else whole_lines_from (line ++ byte ∷ []) bytes

-- and what stands behind the last line feed
abbrev pub last_line_from : List ℕ → List ℕ → List ℕ
last_line_from line [] = line
last_line_from line (byte ∷ bytes) = if byte == line_feed then last_line_from [] bytes else last_line_from (line ++ byte ∷ []) bytes

abbrev pub whole_lines : List ℕ → List (List ℕ)
whole_lines input = whole_lines_from [] input

abbrev pub last_line : List ℕ → List ℕ
last_line input = last_line_from [] input

-- one line, where it isn't empty
abbrev pub line_unless_empty : List ℕ → List (List ℕ)
line_unless_empty [] = []
line_unless_empty (byte ∷ line) = (byte ∷ line) ∷ []

-- all lines of an input: what stands behind the last line feed is a line where it isn't empty
abbrev pub lines : List ℕ → List (List ℕ)
lines input = whole_lines input ++ line_unless_empty (last_line input)
