-- Need not be believed: helps proofs and other laws.
-- What a client in memory keeps of its asks.
use Rattle.std.specs.Prelude.{ℕ, ◌≤◌, Bool, List, map, take, drop}
use Rattle.std.specs.List.{AllByRecursion}
use Rattle.line_talk.specs.Talk.{Ask}
use Rattle.line_talk.specs.MemTalk.{MemTalk}
use Rattle.line_talk.specs.declared.mem_client.Asked.{Asked}

-- by how many of all the bytes were given and taken
abbrev pub ask_of : List ℕ → List ℕ → Asked → Ask
ask_of bytes taken asked = record { heard = take asked.given bytes; said = take asked.taken taken }

abbrev pub asks_of : List ℕ → List ℕ → List Asked → List Ask
asks_of bytes taken asks = map (ask_of bytes taken) asks

-- what is seen of a client by its fields
abbrev pub seen_of : List ℕ → ℕ → List ℕ → List Asked → ℕ → ℕ → Bool → Bool → Bool → MemTalk
seen_of bytes given taken asks most passes ended read_failed write_failed = record {
  talk = record {
    heard = take given bytes;
    said = taken;
    asks = asks_of bytes taken asks;
    ended = ended;
    read_failed = read_failed;
    write_failed = write_failed;
  };
  left = drop given bytes;
  most = most;
  passes = passes;
}

-- none had more bytes taken than this
abbrev pub AreWithin : ℕ → List Asked → Type 0
AreWithin count asks = AllByRecursion (λ asked. asked.taken ≤ count) asks
