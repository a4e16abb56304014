-- The room that is left in a container of 16 bytes after a SID: 16-bit units after a NEXT SID (RFC 9800 section 4.1), CSIDs after a
-- REPLACE SID (RFC 9800 section 4.2), 0 after any other.
use Rattle.std.specs.Prelude.{ℕ, zero, suc, ◌-◌, ◌/◌, Bool, true, false, ◌&&◌, nat_le, if◌then◌else◌, Option, Some, None}
use Rattle.srv6_rules.specs.declared.sid.Csid.{Csid}
use Rattle.srv6_rules.specs.declared.sid.Csid.TheVariants.{Plain, Next, Replace}
use Rattle.list_pack.specs.declared.types.Shape.{Shape}
use Rattle.list_pack.specs.LegsValue.{units_of, same_block}

-- how many CSIDs as long as the SID's own stand in 16 bytes
abbrev pub csids_of : Shape → ℕ
csids_of s = 128 / (s.prefix.len - s.lbl)

-- after a SID that is the first of a full container: one that begins with a whole SID
abbrev pub full_room_by : Csid → Shape → ℕ
full_room_by Plain s = 0
full_room_by Next s = (128 - s.prefix.len) / 16
full_room_by Replace s = 0

abbrev pub full_room : Shape → ℕ
full_room s = full_room_by s.csid s

-- after a SID that is the first of a REPLACE container: one that holds CSIDs alone
abbrev pub packed_room_by : Csid → Shape → ℕ
packed_room_by Plain s = 0
packed_room_by Next s = 0
packed_room_by Replace s = csids_of s - 1

abbrev pub packed_room : Shape → ℕ
packed_room s = packed_room_by s.csid s

-- what is left after a SID that may hold further ones
abbrev pub kept_room : Csid → ℕ → ℕ
kept_room Plain left = 0
kept_room Next left = left
kept_room Replace left = left

-- after the next SID in the same container, none where it can't stand there: both are of one block, and after a NEXT SID the next one's
-- units are within the room, after a REPLACE SID one more CSID is
abbrev pub stay_room_by : Csid → Shape → ℕ → Shape → Option ℕ
stay_room_by Plain s room next = None
stay_room_by Next s room next =
    if same_block s.block next.block && nat_le (units_of next) room then Some (kept_room next.csid (room - units_of next)) else None
stay_room_by Replace s room next =
    if same_block s.block next.block && nat_le 1 room then Some (kept_room next.csid (room - 1)) else None

abbrev pub stay_room : Shape → ℕ → Shape → Option ℕ
stay_room s room next = stay_room_by s.csid s room next

-- after the next SID in a REPLACE container, which is of the block of the SID before it
abbrev pub pack_room : Shape → Shape → Option ℕ
pack_room s next = if same_block s.block next.block then Some (packed_room next) else None

-- after the next SID in a new container, none where it can't open one: after a REPLACE SID without room that is a REPLACE container, and
-- else a full one
abbrev pub new_room_by : Csid → Shape → ℕ → Shape → Option ℕ
new_room_by Plain s room next = Some (full_room next)
new_room_by Next s room next = Some (full_room next)
new_room_by Replace s zero next = pack_room s next
new_room_by Replace s (suc room) next = Some (full_room next)

abbrev pub new_room : Shape → ℕ → Shape → Option ℕ
new_room s room next = new_room_by s.csid s room next

-- after the next SID, which stays in the container or opens a new one; from the start only a new one
abbrev pub room_behind : Bool → Option Shape → ℕ → Shape → Option ℕ
room_behind true None room next = None
room_behind false None room next = Some (full_room next)
room_behind true (Some s) room next = stay_room s room next
room_behind false (Some s) room next = new_room s room next

-- the most room that there is after a SID
abbrev pub top_room_by : Csid → Shape → ℕ
top_room_by Plain s = 0
top_room_by Next s = full_room_by Next s
top_room_by Replace s = packed_room_by Replace s

abbrev pub top_room : Shape → ℕ
top_room s = top_room_by s.csid s
