-- The lines of a trace, each without the line feed that ends it. Packets and errors are written in hexadecimal digits of
-- lower case, numbers in decimal.
use Rattle.std.specs.Prelude.{ℕ, List, [], ◌∷◌, ◌++◌, codes, slice_get, Option, Some, None}
use Rattle.std.specs.Fmt.{decimal}
use Rattle.hex.specs.Hex.{encode_lower}
use Rattle.v6_addr.specs.Address.{PrefixValue}
use Rattle.v6_addr.specs.Text.{prefix_text}
use Rattle.srv6_rules.specs.declared.family.Family.{Family}
use Rattle.srv6_rules.specs.declared.family.Family.TheVariants as families
use Rattle.srv6_rules.specs.declared.reason.Reason.{Reason}
use Rattle.srv6_rules.specs.declared.sid.SidEntry.{SidEntry}
use Rattle.srv6_rules.specs.Packet.{bytes_of}
use Rattle.srv6_rules.specs.Reasons.{reason_name}
use Rattle.icmp6_errors.specs.Answer.{error_bytes}
use Rattle.net_model.specs.declared.parts.Link.{Link}
use Rattle.net_model.specs.declared.parts.Node.{Node}
use Rattle.net_model.specs.Network.{Network}
use Rattle.walk_rules.specs.declared.place.How.{How}
use Rattle.walk_rules.specs.declared.place.How.TheVariants.{Arrived, Submitted, Through}
use Rattle.walk_rules.specs.declared.place.Outcome.{Outcome}
use Rattle.walk_rules.specs.declared.place.Outcome.TheVariants as outcomes
use Rattle.walk_rules.specs.Treatment.{Gave}

-- bytes, two digits each; a dash where there are none
unfoldable pub hex_text : List ℕ → List ℕ
hex_text [] = 45 ∷ []
hex_text (byte ∷ bytes) = encode_lower (byte ∷ bytes)

-- the version's number
abbrev pub family_number : Family → ℕ
family_number families.V6 = 6
family_number families.V4 = 4

-- the first line, and the last
unfoldable pub head_text : List ℕ
head_text = codes "srv6 trace 1"

unfoldable pub end_text : List ℕ
end_text = codes "end"

-- a packet's first line: its number, its family, the node where it enters, and the packet
unfoldable pub packet_text : ℕ → Family → List ℕ → List ℕ → List ℕ
packet_text number family node hex =
    codes "packet " ++ (decimal number ++ 32 ∷ (decimal (family_number family) ++ 32 ∷ (node ++ 32 ∷ hex)))

-- the line after those of a packet that used all its stages
unfoldable pub stages_text : List ℕ
stages_text = codes "stages"

-- a stage: what came of the packet, and the packet after it

unfoldable pub again_table_text : PrefixValue → ℕ → List ℕ → List ℕ
again_table_text sid table hex = codes "again " ++ (prefix_text sid ++ (codes " table " ++ (decimal table ++ 32 ∷ hex)))

unfoldable pub again_through_text : PrefixValue → List ℕ → List ℕ
again_through_text sid hex = codes "again " ++ (prefix_text sid ++ (codes " through " ++ hex))

-- after a SID was executed: the SID's prefix, and how the packet goes on
abbrev pub again_text : PrefixValue → How → List ℕ → List ℕ
again_text sid (Arrived table) hex = again_table_text sid table hex
again_text sid (Submitted table) hex = again_table_text sid table hex
again_text sid (Through n lower) hex = again_through_text sid hex

unfoldable pub hand_table_text : PrefixValue → ℕ → Family → List ℕ → List ℕ
hand_table_text sid table family hex =
    codes "hand " ++ (prefix_text sid ++ (codes " table " ++ (decimal table ++ 32 ∷ (decimal (family_number family) ++ 32 ∷ hex))))

unfoldable pub hand_through_text : PrefixValue → Family → List ℕ → List ℕ
hand_through_text sid family hex =
    codes "hand " ++ (prefix_text sid ++ (codes " through " ++ (decimal (family_number family) ++ 32 ∷ hex)))

-- so where it exposed a packet, which is of a family
abbrev pub hand_text : PrefixValue → How → Family → List ℕ → List ℕ
hand_text sid (Arrived table) family hex = hand_table_text sid table family hex
hand_text sid (Submitted table) family hex = hand_table_text sid table family hex
hand_text sid (Through n lower) family hex = hand_through_text sid family hex

unfoldable pub send_text : List ℕ → List ℕ → List ℕ
send_text link hex = codes "send " ++ (link ++ 32 ∷ hex)

unfoldable pub local_text : List ℕ
local_text = codes "local"

-- a drop has the bytes of the ICMPv6 error about it in the packet's place
unfoldable pub drop_text : Reason → List ℕ → List ℕ
drop_text reason hex = codes "drop " ++ (reason_name reason ++ 32 ∷ hex)

-- a SID's prefix, and a link's and a node's name; there is an item for each number that an outcome has

abbrev pub prefix_of_sid : Option SidEntry → PrefixValue
prefix_of_sid None = record { value = 0; len = 0 }
prefix_of_sid (Some s) = s.prefix

abbrev pub name_of_link : Option Link → List ℕ
name_of_link None = []
name_of_link (Some l) = l.name

abbrev pub name_of_node : Option Node → List ℕ
name_of_node None = []
name_of_node (Some n) = n.name

-- the line of an outcome, the packet's bytes after it and those of the error about it
abbrev pub outcome_text : Network → Outcome → List ℕ → List ℕ → List ℕ
outcome_text net (outcomes.Again sid how) packet error = again_text (prefix_of_sid (slice_get net.sids sid)) how (hex_text packet)
outcome_text net (outcomes.Hand sid how family) packet error =
    hand_text (prefix_of_sid (slice_get net.sids sid)) how family (hex_text packet)
outcome_text net (outcomes.Send link) packet error = send_text (name_of_link (slice_get net.links link)) (hex_text packet)
outcome_text net outcomes.Local packet error = local_text
outcome_text net (outcomes.Drop reason told) packet error = drop_text reason (hex_text error)

-- the line of what a stage gave
abbrev pub stage_text : Network → Gave → List ℕ
stage_text net gave = outcome_text net gave.outcome (bytes_of gave.after) (error_bytes gave.error)
