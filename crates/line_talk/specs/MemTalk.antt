-- Need not be believed: helps proofs and other laws.
-- What is seen of a client in memory, and what its calls do.
use Rattle.std.specs.Prelude.{◌≡◌, ℕ, ◌-◌, ◌<◌, ◌==◌, min, Bool, true, false, List, [], ◌∷◌, ◌++◌, length, take, drop, Option, Some, Result, Ok, Err}
use Rattle.srx_edge.specs.declared.input.Failed.{Failed}
use Rattle.line_talk.specs.Talk.{Talk, heard_more, heard_none, said_more, said_none}

pub record MemTalk : Type 0 where
  pub talk : Talk
  pub left : List ℕ  -- the bytes that it will give
  pub most : ℕ  -- the most bytes of a call
  pub passes : ℕ  -- the calls that don't fail, from here on

abbrev pub told : MemTalk → Option Talk
told client = Some client.talk

-- the client behind a read that was counted and told of, which has given nothing yet
abbrev pub asked : MemTalk → MemTalk
asked client = record client {
  talk = record client.talk { asks = client.talk.asks ++ record { heard = client.talk.heard; said = client.talk.said } ∷ [] };
  passes = client.passes - 1;
}

abbrev pub BeginsRead : Bool → MemTalk → MemTalk → Type 0
BeginsRead true old new = (0 < old.passes) × (new ≡ asked old)
BeginsRead false old new = new ≡ record old { passes = old.passes - 1 }

-- once it has given so many bytes
abbrev pub given : ℕ → MemTalk → MemTalk
given count client = record client {
  talk = record client.talk { heard = client.talk.heard ++ take count client.left; ended = length (take count client.left) == 0 };
  left = drop count client.left;
}

-- a read into a slice of this length, which then is filled so: it gives as many bytes as there are, fit and may go at once;
-- where calls pass it fails for want of memory alone
abbrev pub MemHears : ℕ → List ℕ → Result ℕ Failed → MemTalk → MemTalk → Type 0
MemHears room filled (Ok count) old new =
    (0 < old.passes)
    × (count ≡ min (min room (length old.left)) old.most)
    × (take count filled ≡ take count old.left)
    × (new ≡ record old { talk = heard_more (take count old.left) old.talk; left = drop count old.left; passes = old.passes - 1 })
MemHears room filled (Err fault) old new = new ≡ record old { talk = heard_none old.talk; passes = old.passes - 1 }

-- the client behind a write that was counted, of which it took these bytes
abbrev pub said : List ℕ → MemTalk → MemTalk
said bytes client = record client { talk = said_more bytes client.talk; passes = client.passes - 1 }

abbrev pub MemSays : List ℕ → Result ℕ Failed → MemTalk → MemTalk → Type 0
MemSays piece (Ok count) old new =
    (0 < old.passes)
    × (count ≡ min (length piece) old.most)
    × (new ≡ said (take count piece) old)
MemSays piece (Err fault) old new = new ≡ record old { talk = said_none old.talk; passes = old.passes - 1 }
