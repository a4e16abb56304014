-- The lines on `err`.
use Rattle.std.specs.Prelude.{ℕ, ◌+◌, List, [], ◌∷◌, ◌++◌, codes, slice_get}
use Rattle.std.specs.Fmt.{decimal}
use Rattle.v6_addr.specs.Text.{prefix_text}
use Rattle.pcap_io.specs.declared.fault.CaptureFault.{CaptureFault}
use Rattle.pcap_io.specs.declared.fault.CaptureFault.TheVariants as captures
use Rattle.srv6_rules.specs.declared.reason.Reason.{Reason}
use Rattle.srv6_rules.specs.Reasons.{reason_name}
use Rattle.text_faults.specs.TextFaults.{kind_number, fault_text}
use Rattle.text_faults.specs.Keys.{table_text}
use Rattle.net_model.specs.declared.net.EntryId.{EntryId}
use Rattle.net_model.specs.declared.net.EntryId.TheVariants as entries
use Rattle.net_model.specs.Network.{Network}
use Rattle.intent_reader.specs.IntentFaults.{intent_fault_number, intent_fault_text}
use Rattle.walk_rules.specs.declared.place.Ended.{Ended}
use Rattle.walk_rules.specs.declared.place.Ended.TheVariants as ends
use Rattle.walk_rules.specs.declared.limits.TheConstants.{MAX_STAGES}
use Rattle.command_output.specs.declared.unread.Unread.{Unread}
use Rattle.command_output.specs.declared.unread.Unread.TheVariants as unreads
use Rattle.command_output.specs.declared.refusal.Refusal.{Refusal}
use Rattle.command_output.specs.declared.refusal.Refusal.TheVariants as refusals
use Rattle.trace_replay.specs.TraceLines.{name_of_link, name_of_node}

-- a line is ended by a line feed
abbrev pub line : List ℕ → List ℕ
line text = text ++ 10 ∷ []

-- the refusal of a capture
unfoldable pub capture_text : CaptureFault → List ℕ
capture_text captures.BadMagic = codes "refused 11 BadMagic"
capture_text captures.PcapNg = codes "refused 12 PcapNg"
capture_text captures.BadVersion = codes "refused 13 BadVersion"
capture_text (captures.BadLink link) = codes "refused 14 BadLink " ++ decimal link
capture_text captures.CutHead = codes "refused 15 CutHead"
capture_text captures.FrameLimit = codes "refused 17 FrameLimit"

-- an entry by its table's name and its number from 1 there; an address by its node's

unfoldable pub entry_text : EntryId → List ℕ
entry_text (entries.Route number) = codes "route " ++ decimal (number + 1)
entry_text (entries.Sid number) = codes "sid " ++ decimal (number + 1)
entry_text (entries.Address node) = codes "node " ++ decimal (node + 1)

-- a refusal: its number, its name, and its fields
unfoldable pub refusal_text : Refusal → List ℕ
refusal_text (refusals.TooBig limit) = codes "refused 2 TooBig " ++ decimal limit
refusal_text (refusals.Net fault) = codes "refused " ++ (decimal (kind_number fault.kind) ++ 32 ∷ fault_text fault)
refusal_text (refusals.Intent fault) = codes "refused " ++ (decimal (intent_fault_number fault) ++ 32 ∷ intent_fault_text fault)
refusal_text (refusals.Capture fault) = capture_text fault
refusal_text (refusals.CutFrame frame) = codes "refused 16 CutFrame " ++ decimal frame
refusal_text refusals.BadNode = codes "refused 39 BadNode"
refusal_text (refusals.BadTrace line) = codes "refused 40 BadTrace " ++ decimal line
refusal_text (refusals.Nested outer inner) = codes "refused 41 Nested " ++ (prefix_text outer ++ 32 ∷ prefix_text inner)
refusal_text (refusals.ZeroCsid prefix) = codes "refused 42 ZeroCsid " ++ prefix_text prefix
refusal_text (refusals.MixedBlock block prefix) = codes "refused 43 MixedBlock " ++ (prefix_text block ++ 32 ∷ prefix_text prefix)
refusal_text (refusals.Clash prefix first second) =
    codes "refused 44 Clash " ++ (prefix_text prefix ++ 32 ∷ (first ++ 32 ∷ second))
refusal_text (refusals.BadCert line) = codes "refused 45 BadCert " ++ decimal line
refusal_text (refusals.Conflict before after) =
    codes "refused 47 Conflict " ++ (entry_text before.entry ++ 32 ∷ entry_text after.entry)
refusal_text (refusals.Differs table item) = codes "refused 48 Differs " ++ (table_text table ++ 32 ∷ decimal item)
refusal_text (refusals.NgBlock block) = codes "refused 49 NgBlock " ++ decimal block
refusal_text (refusals.NgMagic block) = codes "refused 50 NgMagic " ++ decimal block
refusal_text (refusals.NgVersion block) = codes "refused 51 NgVersion " ++ decimal block
refusal_text (refusals.NgInterface block) = codes "refused 52 NgInterface " ++ decimal block
refusal_text (refusals.NgCut block) = codes "refused 53 NgCut " ++ decimal block
refusal_text (refusals.NgOldBlock block) = codes "refused 54 NgOldBlock " ++ decimal block

abbrev pub refusal_line : Refusal → List ℕ
refusal_line refusal = line (refusal_text refusal)

-- the lines of a packet of a number when it ends: how it ended, with names of links and nodes

unfoldable pub left_line : ℕ → List ℕ → List ℕ
left_line number name = codes "packet " ++ (decimal number ++ (codes ": left " ++ (name ++ 10 ∷ [])))

unfoldable pub delivered_line : ℕ → List ℕ → List ℕ
delivered_line number name = codes "packet " ++ (decimal number ++ (codes ": delivered at " ++ (name ++ 10 ∷ [])))

unfoldable pub dropped_line : ℕ → Reason → List ℕ → List ℕ
dropped_line number reason name =
    codes "packet " ++ (decimal number ++ (codes ": dropped " ++ (reason_name reason ++ (codes " at " ++ (name ++ 10 ∷ [])))))

unfoldable pub stages_line : ℕ → List ℕ
stages_line number =
    codes "packet " ++ (decimal number ++ (codes ": stopped after " ++ (decimal MAX_STAGES ++ (codes " stages" ++ 10 ∷ []))))

abbrev pub packet_line : Network → ℕ → Ended → List ℕ
packet_line net number (ends.Left link) = left_line number (name_of_link (slice_get net.links link))
packet_line net number (ends.Delivered node) = delivered_line number (name_of_node (slice_get net.nodes node))
packet_line net number (ends.Dropped node reason) = dropped_line number reason (name_of_node (slice_get net.nodes node))
packet_line net number ends.Stages = stages_line number

-- the line of a packet that isn't read, with the cause

unfoldable pub unread_name : Unread → List ℕ
unread_name unreads.ShortFrame = codes "ShortFrame"
unread_name unreads.NotIp = codes "NotIp"
unread_name unreads.WrongVersion = codes "WrongVersion"

unfoldable pub unread_line : ℕ → Unread → List ℕ
unread_line number cause = codes "packet " ++ (decimal number ++ (codes ": not read, " ++ (unread_name cause ++ 10 ∷ [])))
