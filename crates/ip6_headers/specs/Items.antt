-- Need not be believed: helps proofs and other laws.
-- The items of an area, and the fault that is found there (RFC 8200 section 4.2, RFC 8754 section 2.1).
use Rattle.std.specs.Prelude.{◌≡◌, ℕ, ◌≤◌, true, false, List, length, Option, Some, None, Result, Ok, Err}
use Rattle.srv6_rules.specs.Areas as areas
use Rattle.srv6_rules.specs.Areas.{item_bytes, passes_end}
use Rattle.ip6_headers.specs.declared.areas.Fault.{Fault}

abbrev pub fault_of : Fault → areas.Fault
fault_of fault = record { reason = fault.reason; at = fault.at }

abbrev pub fault_in : Option Fault → Option areas.Fault
fault_in None = None
fault_in (Some fault) = Some (fault_of fault)

-- the fault that an answer tells
abbrev pub first_fault : Result (Unit {0}) Fault → Option areas.Fault
first_fault (Ok none) = None
first_fault (Err fault) = Some (fault_of fault)

-- the item that these bytes begin with does not pass their end, and has a length
pub record IsItem (item : List ℕ) (len : ℕ) : Type 0 where
  pub fits : passes_end item ≡ false
  pub stated : len ≡ item_bytes item
  pub least : 1 ≤ len
  pub within : len ≤ length item

abbrev pub IsItemLen : List ℕ → Option ℕ → Type 0
IsItemLen item None = passes_end item ≡ true
IsItemLen item (Some len) = IsItem item len
