-- Need not be believed: helps proofs and other laws.
-- What a packet buffer holds: the packet's bytes, and how many bytes are spare in front of them.
use Rattle.std.specs.Prelude.{ℕ, List}

pub record Buffer : Type 0 where
  pub bytes : List ℕ
  pub front : ℕ
