-- Need not be believed: helps proofs and other laws.
-- An engine that counts lines.
use Rattle.std.specs.Prelude.{◌≡◌, ℕ, ◌+◌, ◌%◌, List, [], ◌∷◌}
use Rattle.srx_edge.specs.Edge.{next_count}
use Rattle.line_talk.specs.Replies.{Rules}

-- the state is the number of lines so far, and the reply to a line is the last digit of its number, counted from 1; that to
-- a line which is too big is '!', and doesn't count
abbrev pub counting : Rules ℕ
counting = record {
  Replies = λ before line reply behind. (behind ≡ next_count before) × (reply ≡ (48 + behind % 10) ∷ []);
  IsTooBig = λ reply. reply ≡ 33 ∷ [];
  Spares = λ before behind. behind ≡ before;
}
