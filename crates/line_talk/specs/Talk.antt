-- What a program and its client said so far, and when the program asked for more.
use Rattle.std.specs.Prelude.{◌≡◌, ℕ, ◌<◌, ◌≤◌, Bool, true, false, List, [], ◌∷◌, ◌++◌, length, take, ◌==◌, Option, option_map, Result, Ok, Err}
use Rattle.srx_edge.specs.declared.input.Failed.{Failed}

-- what the client had given and taken when a read came
pub record Ask : Type 0 where
  pub heard : List ℕ
  pub said : List ℕ

pub record Talk : Type 0 where
  pub heard : List ℕ  -- the bytes that the client gave
  pub said : List ℕ  -- the bytes that it took
  pub asks : List Ask  -- one for each read that didn't fail, oldest first
  pub ended : Bool  -- whether the last of these reads found the end
  pub read_failed : Bool  -- whether a read failed
  pub write_failed : Bool  -- whether a write failed

-- a talk in which nothing was said and nothing asked for
abbrev pub begun : Talk
begun = record { heard = []; said = []; asks = []; ended = false; read_failed = false; write_failed = false }

-- the talk behind a read that gave these bytes; none are the end
abbrev pub heard_more : List ℕ → Talk → Talk
heard_more bytes talk = record talk {
  heard = talk.heard ++ bytes;
  asks = talk.asks ++ record { heard = talk.heard; said = talk.said } ∷ [];
  ended = length bytes == 0;
}

-- behind a write of which the client took these bytes
abbrev pub said_more : List ℕ → Talk → Talk
said_more bytes talk = record talk { said = talk.said ++ bytes }

-- behind a read that failed
abbrev pub heard_none : Talk → Talk
heard_none talk = record talk { read_failed = true }

-- behind a write that failed
abbrev pub said_none : Talk → Talk
said_none talk = record talk { write_failed = true }

-- a read into a slice that then has these bytes at its front; a read that fails gives nothing
abbrev pub Hears : List ℕ → Result ℕ Failed → Option Talk → Option Talk → Type 0
Hears filled (Ok count) old new = (count ≤ length filled) × (new ≡ option_map (heard_more (take count filled)) old)
Hears filled (Err fault) old new = new ≡ option_map heard_none old

-- a write of the first bytes of a piece, at least one; a write that fails takes nothing
abbrev pub Says : List ℕ → Result ℕ Failed → Option Talk → Option Talk → Type 0
Says piece (Ok count) old new = (0 < count) × (count ≤ length piece) × (new ≡ option_map (said_more (take count piece)) old)
Says piece (Err fault) old new = new ≡ option_map said_none old
