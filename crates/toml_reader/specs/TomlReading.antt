-- What reading gives: a value, or the first fault. What follows a value is the same for every kind of fault F.
use Rattle.std.specs.Prelude.{ℕ, List, Option, Some, None, Result, Ok, Err, if◌then◌else◌}
use Rattle.std.specs.Str.{is_utf8}
use Rattle.toml.specs.Data.{Members}
use Rattle.toml.specs.Parse.{parse_document}

-- what follows for a value; a fault stays the first
abbrev pub ◌>>=◌ : {F X Y : Type 0} → Result X F → (X → Result Y F) → Result Y F
◌>>=◌ (Ok x) next = next x
◌>>=◌ (Err fault) next = Err fault

-- a value as it is seen
abbrev pub read_map : {F X Y : Type 0} → (X → Y) → Result X F → Result Y F
read_map see (Ok x) = Ok (see x)
read_map see (Err fault) = Err fault

-- the value that is there, and else this fault
abbrev pub or_fault : {F X : Type 0} → F → Option X → Result X F
or_fault fault None = Err fault
or_fault fault (Some x) = Ok x

-- none where the bytes aren't UTF-8, or aren't TOML
abbrev pub document_of : List ℕ → Option Members
document_of text = if is_utf8 text then parse_document text else None
