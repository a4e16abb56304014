-- Areas of items that each begin with a type: the options of a header (RFC 8200 section 4.2) and the type-length-value
-- area of a segment routing header (RFC 8754 section 2.1). Places count from the packet's first byte.
use Rattle.std.specs.Prelude.{ℕ, zero, suc, ◌+◌, ◌-◌, ◌*◌, ◌/◌, Bool, ◌==◌, ◌||◌, nat_lt, if◌then◌else◌, List, [], ◌∷◌, length, drop, slice_index, Option, Some, None}
use Rattle.srv6_rules.specs.declared.reason.Reason.{Reason}
use Rattle.srv6_rules.specs.declared.reason.Reason.TheVariants as reasons
use Rattle.srv6_rules.specs.declared.numbers.TheConstants.{PAD1, PADN, HMAC, OPTIONS_AT, SEGMENT_LIST_AT, SEGMENT_LEN}
use Rattle.srv6_rules.specs.Chain.{Header}
use Rattle.srv6_rules.specs.Srh.{Srh, tlv_bytes}

-- why a packet is dropped, and the place of the fault (0 where the reason has no place)
pub record Fault : Type 0 where
  pub reason : Reason
  pub at : ℕ

-- the length in bytes of the item that these bytes begin with: Pad1 is its type alone, any other item a type, a length and
-- so many bytes
abbrev pub item_bytes : List ℕ → ℕ
item_bytes item = if slice_index item 0 == PAD1 then 1 else 2 + slice_index item 1

-- the item lacks its length, or passes the end of its area
abbrev pub passes_end : List ℕ → Bool
passes_end item = nat_lt (length item) (if slice_index item 0 == PAD1 then 1 else 2) || nat_lt (length item) (item_bytes item)

abbrev pub first_of : Option Fault → Option Fault → Option Fault
first_of (Some fault) later = Some fault
first_of None later = later

-- the first fault of an area whose items a word judges, each with its place and the bytes from it to the area's end; the
-- next item stands after so many of these bytes
abbrev pub area_fault : (ℕ → List ℕ → Option Fault) → ℕ → ℕ → List ℕ → Option Fault
area_fault judge skip at [] = None
area_fault judge (suc skip) at (b ∷ bytes) = area_fault judge skip (at + 1) bytes
area_fault judge zero at (b ∷ bytes) =
    first_of (judge at (b ∷ bytes)) (area_fault judge (item_bytes (b ∷ bytes) - 1) (at + 1) bytes)

-- what is done with an option of an unknown type, by its two highest bits: 0 it is skipped, 1 the packet is discarded, 2
-- and 3 it is discarded and the sender is told (RFC 8200 section 4.2)
abbrev pub unknown_option : ℕ → ℕ → Option Fault
unknown_option at kind =
    if kind / 64 == 0 then None
    else if kind / 64 == 1 then Some (record { reason = reasons.OptionDiscard; at = at })
    else Some (record { reason = reasons.OptionUnknown; at = at })

-- an option: one that passes its header's end makes the chain bad, whatever its type; Pad1 and PadN are skipped
abbrev pub option_fault : ℕ → List ℕ → Option Fault
option_fault at item =
    if passes_end item then Some (record { reason = reasons.BadChain; at = at })
    else if slice_index item 0 == PAD1 then None
    else if slice_index item 0 == PADN then None
    else unknown_option at (slice_index item 0)

-- the first fault among the options of a Destination Options header, which stand after its first two bytes
abbrev pub options_fault : Header → Option Fault
options_fault h = area_fault option_fault 0 (h.place.at + OPTIONS_AT) (drop OPTIONS_AT h.bytes)

-- an item of a segment routing header's type-length-value area: an HMAC is refused, its type judged before its length; one
-- that passes the area's end is bad; any other is skipped (own rule; RFC 8754 section 2.1)
abbrev pub tlv_fault : ℕ → List ℕ → Option Fault
tlv_fault at item =
    if slice_index item 0 == HMAC then Some (record { reason = reasons.HmacTlv; at = at })
    else if passes_end item then Some (record { reason = reasons.BadTlv; at = at })
    else None

-- the first fault in the type-length-value area of a segment routing header at a place: the bytes between the entry at Last
-- Entry and the header's end
abbrev pub tlvs_fault : ℕ → Srh → Option Fault
tlvs_fault at s = area_fault tlv_fault 0 (at + SEGMENT_LIST_AT + SEGMENT_LEN * (s.last_entry + 1)) (tlv_bytes s)
