-- What becomes of packets of an update before the first event.
use Rattle.std.specs.Prelude.{ℕ, Bool, true, false, not, if◌then◌else◌, List, Option, Some, None}
use Rattle.pcap_io.specs.declared.frame.Body.{Body}
use Rattle.pcap_io.specs.declared.frame.Frame.{Frame}
use Rattle.srv6_rules.specs.declared.reason.Reason.{Reason}
use Rattle.srv6_rules.specs.declared.reason.Reason.TheVariants as reasons
use Rattle.net_model.specs.Network.{Network}
use Rattle.walk_rules.specs.declared.place.Ended.TheVariants as ends
use Rattle.run_commands.specs.declared.enters.EarlyEnd.{EarlyEnd}
use Rattle.run_commands.specs.declared.enters.EarlyEnd.TheVariants as stays
use Rattle.run_commands.specs.Admission.{Admission, line_if_early_end, early_end_of}
use Rattle.update_driver.specs.declared.seat.Seat.{Seat}
use Rattle.update_driver.specs.declared.seat.Seat.TheVariants as seats

-- with another header in front the packet is too big
abbrev pub is_too_big : Reason → Bool
is_too_big reasons.TooBig = true
is_too_big reasons.Truncated = false
is_too_big reasons.BadVersion = false
is_too_big reasons.Multicast = false
is_too_big reasons.NoRoute = false
is_too_big reasons.HopLimit = false
is_too_big reasons.BadChain = false
is_too_big reasons.LateHopByHop = false
is_too_big reasons.OptionDiscard = false
is_too_big reasons.OptionUnknown = false
is_too_big reasons.Fragment = false
is_too_big reasons.BadSegments = false
is_too_big reasons.HmacTlv = false
is_too_big reasons.BadTlv = false
is_too_big reasons.UnknownRouting = false
is_too_big reasons.UpperLayer = false
is_too_big reasons.Ttl = false
is_too_big reasons.InnerHop = false
is_too_big reasons.MtuExceeded = false

-- a packet stays before the first event for any other cause than that it is too big with what is put in front of it
abbrev pub stays_early : EarlyEnd → Bool
stays_early (stays.NotRead cause) = true
stays_early (stays.Ends (ends.Dropped node reason)) = not (is_too_big reason)
stays_early (stays.Ends (ends.Left link)) = true
stays_early (stays.Ends (ends.Delivered node)) = true
stays_early (stays.Ends ends.Stages) = true

abbrev pub early_of : Option EarlyEnd → Option EarlyEnd
early_of None = None
early_of (Some stays) = if stays_early stays then Some stays else None

-- how a frame's packet stays before the first event, if it does; what each description puts in front of it is nothing to that
abbrev pub early_at : (Body → Admission) → Body → Option EarlyEnd
early_at entry body = early_of (early_end_of (entry body))

-- its line
abbrev pub line_of_early : Network → (Body → Admission) → Frame → List ℕ
line_of_early net entry frame = line_if_early_end net frame.number (early_at entry frame.body)

-- the seat of a frame's packet before the first event: one that doesn't stay is to come

abbrev pub seat_unless : Body → Option EarlyEnd → Seat
seat_unless body None = seats.ToCome body
seat_unless body (Some stays) = seats.Gone

abbrev pub seat_of : (Body → Admission) → Frame → Seat
seat_of entry frame = seat_unless frame.body (early_at entry frame.body)
