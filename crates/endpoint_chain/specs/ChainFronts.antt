-- Need not be believed: helps proofs and other laws.
-- What is spare in front of a packet after what came of it at a SID.
use Rattle.std.specs.Prelude.{◌≡◌, ℕ, ◌+◌, ◌≤◌, length, drop}
use Rattle.pkt_buf.specs.BufferView.{Buffer}
use Rattle.endpoint_chain.specs.declared.outcome.EndOutcome.{EndOutcome}
use Rattle.endpoint_chain.specs.declared.outcome.EndOutcome.TheVariants.{On, Hand, Local, Drop}

-- the packet's first bytes are spare now, and no others
pub record TakenOff (old new : Buffer) : Type 0 where
  pub taken : ℕ
  pub within : taken ≤ length old.bytes
  pub bytes : new.bytes ≡ drop taken old.bytes
  pub front : new.front ≡ old.front + taken

-- as many are spare as before, but where a packet inside is exposed all that stood in front of it
abbrev pub FrontAfter : Buffer → Buffer → EndOutcome → Type 0
FrontAfter old new On = new.front ≡ old.front
FrontAfter old new (Hand family) = TakenOff old new
FrontAfter old new Local = new.front ≡ old.front
FrontAfter old new (Drop reason at) = new.front ≡ old.front
