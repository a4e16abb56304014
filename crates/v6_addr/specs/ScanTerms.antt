-- Need not be believed: helps proofs and other laws.
-- Terms beside those of `specs/Scan.antt`.
use Rattle.std.specs.Prelude.{ℕ, ◌+◌, ◌-◌, ◌==◌, Bool, true, false, nat_lt, if◌then◌else◌, List, Option, Some, None}
use Rattle.std.specs.Char.{is_digit}
use Rattle.v6_addr.specs.declared.scan.Scanned.{Scanned}
use Rattle.v6_addr.specs.declared.scan.Scanned.TheVariants.{Start, Colon, Group, Between, Gap}
use Rattle.v6_addr.specs.Scan.{walked}

-- what stands before the next byte, once a hexadecimal digit was read
unfoldable pub behind_digit : Scanned → Option Scanned
behind_digit Start = Some (Group 7 1 false)
behind_digit Colon = None
behind_digit (Group left digits short) = if nat_lt digits 4 then Some (Group left (digits + 1) short) else None
behind_digit (Between left short) = Some (Group left 1 short)
behind_digit (Gap left) = if nat_lt 0 left then Some (Group (left - 1) 1 true) else None

-- what stands before the next byte, once a colon was read
unfoldable pub behind_colon : Scanned → Option Scanned
behind_colon Start = Some Colon
behind_colon Colon = Some (Gap 7)
behind_colon (Group left digits short) = if nat_lt 0 left then Some (Between (left - 1) short) else None
behind_colon (Between left short) = if short then None else Some (Gap left)
behind_colon (Gap left) = None

-- what stands before the next byte; none where no address goes on with this one
unfoldable pub behind : Scanned → ℕ → Option Scanned
behind place byte = if is_digit byte 16 then behind_digit place else (if byte == 58 then behind_colon place else None)

-- what stands after a text that an address goes on with
abbrev pub reached : Scanned → List ℕ → Option Scanned
reached place text = walked behind place text

-- an address may end here
abbrev pub is_end : Scanned → Bool
is_end Start = false
is_end Colon = false
is_end (Group left digits short) = if short then true else left == 0
is_end (Between left short) = false
is_end (Gap left) = true
