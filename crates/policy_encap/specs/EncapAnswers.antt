-- Need not be believed: helps proofs and other laws.
-- What is answered where a policy's header is put in front of a packet, by what comes of it (RFC 8986 section 5).
use Rattle.std.specs.Prelude.{◌≡◌, ℕ, Bool, if◌then◌else◌, List, length, Option, Some, None, Result, Ok, Err}
use Rattle.srv6_rules.specs.Packet.{Packet}
use Rattle.srv6_rules.specs.PacketTerms.{Spells}
use Rattle.srv6_rules.specs.Policies.{Encapsulating, Outer, TooBig, InnerHop}
use Rattle.policy_encap.specs.declared.faults.PushFault.{PushFault}
use Rattle.policy_encap.specs.declared.faults.PushFault.TheVariants as pushing
use Rattle.policy_encap.specs.declared.faults.EncapFault.{EncapFault}
use Rattle.policy_encap.specs.declared.faults.EncapFault.TheVariants as encapsulating

-- an outer packet comes of it, and the bytes are its spelling
pub record Makes (wanted : Encapsulating) (bytes : List ℕ) : Type 0 where
  pub packet : Packet
  pub outer : wanted ≡ Outer packet
  pub spelled : Spells bytes packet

-- an outer packet comes of it, but memory is wanted, and the bytes stay
pub record Wants (wanted : Encapsulating) (old new : List ℕ) : Type 0 where
  pub packet : Packet
  pub outer : wanted ≡ Outer packet
  pub same : new ≡ old

-- none comes of it, which is told, and the bytes stay
pub record Refuses (wanted told : Encapsulating) (old new : List ℕ) : Type 0 where
  pub told_so : wanted ≡ told
  pub same : new ≡ old

abbrev pub IsPushed : Encapsulating → List ℕ → List ℕ → Result (Unit {0}) PushFault → Type 0
IsPushed wanted old new (Ok none) = Makes wanted new
IsPushed wanted old new (Err (pushing.TooBig length)) = Refuses wanted (TooBig length) old new
IsPushed wanted old new (Err pushing.NoMemory) = Wants wanted old new

abbrev pub IsEncapsulated : Encapsulating → List ℕ → List ℕ → Result (Unit {0}) EncapFault → Type 0
IsEncapsulated wanted old new (Ok none) = Makes wanted new
IsEncapsulated wanted old new (Err encapsulating.InnerHop) = Refuses wanted InnerHop old new
IsEncapsulated wanted old new (Err (encapsulating.TooBig length)) = Refuses wanted (TooBig length) old new
IsEncapsulated wanted old new (Err encapsulating.NoMemory) = Wants wanted old new

-- why no outer packet comes of it, if none does; want of memory is no cause
abbrev pub IsFaultOf : Encapsulating → Option EncapFault → Type 0
IsFaultOf wanted None = (p : Packet) × (wanted ≡ Outer p)
IsFaultOf wanted (Some encapsulating.InnerHop) = wanted ≡ InnerHop
IsFaultOf wanted (Some (encapsulating.TooBig length)) = wanted ≡ TooBig length
IsFaultOf wanted (Some encapsulating.NoMemory) = ⊥

-- what comes of it by whether the outer packet's payload is too long
abbrev pub judged_by : Bool → Packet → Encapsulating
judged_by big outer = if big then TooBig (length outer.payload) else Outer outer
