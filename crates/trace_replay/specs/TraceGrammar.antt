-- Which lines there are in a trace, each given without its line feed.
use Rattle.std.specs.Prelude.{ℕ, ◌-◌, ◌%◌, ◌^◌, Bool, false, not, ◌&&◌, ◌||◌, ◌==◌, nat_le, nat_lt, if◌then◌else◌, bytes_eq, List, [], ◌∷◌, length, slice_index, codes, Option, Some, None, is_some, Result, Ok, Err}
use Rattle.std.specs.Char.{is_ascii_digit}
use Rattle.std.specs.List.{list_all, list_any, slice_split}
use Rattle.std.specs.Str.{is_utf8}
use Rattle.std.specs.Str.Parse.{digits_value}
use Rattle.hex.specs.Hex.{decode_of}
use Rattle.hex.specs.declared.error.FromHexError.{FromHexError}
use Rattle.v6_addr.specs.Text.{prefix_of_text}
use Rattle.srv6_rules.specs.declared.family.Family.{Family}
use Rattle.srv6_rules.specs.declared.family.Family.TheVariants as families
use Rattle.srv6_rules.specs.declared.reason.Reason.{Reason}
use Rattle.srv6_rules.specs.declared.reason.Reason.TheVariants as reasons
use Rattle.srv6_rules.specs.Packet.{bytes_of, most_len, read_as}
use Rattle.srv6_rules.specs.Reasons.{reason_name}
use Rattle.net_model.specs.declared.limits.TheConstants.{LAST_TABLE}
use Rattle.net_model.specs.Named.{node_numbered}
use Rattle.net_model.specs.Network.{Network}
use Rattle.net_model.specs.NetworkRules.{is_name}
use Rattle.trace_replay.specs.declared.line.Line.{Line}
use Rattle.trace_replay.specs.declared.line.Line.TheVariants as lines
use Rattle.trace_replay.specs.TraceLines.{end_text, local_text, stages_text}

-- a line's words, parted by single spaces
abbrev pub words_of : List ℕ → List (List ℕ)
words_of line = slice_split (λ byte. byte == 32) line

-- decimal digits, of which the first is 0 only where it is the only one
abbrev pub is_numeral : List ℕ → Bool
is_numeral word =
    not (length word == 0) && (((length word == 1) || not (slice_index word 0 == 48)) && list_all is_ascii_digit word)

-- a number of 32 bits
abbrev pub number_in : List ℕ → Option ℕ
number_in word = if is_numeral word && nat_lt (digits_value 10 word) (2 ^ 32) then Some (digits_value 10 word) else None

-- a number that is at most another, which is below 2 ^ 32
abbrev pub is_number : ℕ → List ℕ → Bool
is_number most word = is_numeral word && (nat_lt (digits_value 10 word) (2 ^ 32) && nat_le (digits_value 10 word) most)

abbrev pub is_lower_digit : ℕ → Bool
is_lower_digit c = (nat_le 48 c && nat_le c 57) || (nat_le 97 c && nat_le c 102)

-- bytes: a dash for none, else two digits of lower case for each
abbrev pub is_digits : List ℕ → Bool
is_digits word = not (length word == 0) && ((length word % 2 == 0) && list_all is_lower_digit word)

abbrev pub is_hex : List ℕ → Bool
is_hex word = bytes_eq word (45 ∷ []) || is_digits word

abbrev pub bytes_decoded : Result (List ℕ) FromHexError → Option (List ℕ)
bytes_decoded (Ok bytes) = Some bytes
bytes_decoded (Err fault) = None

-- the bytes that are written
abbrev pub hex_read : List ℕ → Option (List ℕ)
hex_read word =
    if bytes_eq word (45 ∷ []) then Some [] else if is_digits word then bytes_decoded (decode_of word) else None

abbrev pub family_read : List ℕ → Option Family
family_read word =
    if bytes_eq word (codes "6") then Some families.V6 else if bytes_eq word (codes "4") then Some families.V4 else None

abbrev pub is_prefix : List ℕ → Bool
is_prefix word = is_some (prefix_of_text word)

-- the reasons for a drop: of what is found in a packet's headers, and the others
abbrev pub reasons_of_headers : List Reason
reasons_of_headers =
    reasons.BadChain ∷ reasons.LateHopByHop ∷ reasons.OptionDiscard ∷ reasons.OptionUnknown ∷ reasons.Fragment
    ∷ reasons.BadSegments ∷ reasons.HmacTlv ∷ reasons.BadTlv ∷ reasons.UnknownRouting ∷ reasons.UpperLayer ∷ []

abbrev pub other_reasons : List Reason
other_reasons =
    reasons.Truncated ∷ reasons.BadVersion ∷ reasons.Multicast ∷ reasons.NoRoute ∷ reasons.HopLimit ∷ reasons.Ttl
    ∷ reasons.TooBig ∷ reasons.InnerHop ∷ reasons.MtuExceeded ∷ []

-- a word is the name of one of some reasons
abbrev pub names_one : List Reason → List ℕ → Bool
names_one some word = list_any (λ reason. bytes_eq word (reason_name reason)) some

abbrev pub is_reason : List ℕ → Bool
is_reason word = names_one reasons_of_headers word || names_one other_reasons word

-- whether words are a stage's line, by how many they are
abbrev pub is_stage : List (List ℕ) → Bool
is_stage [] = false
is_stage (verb ∷ []) = bytes_eq verb local_text
is_stage (verb ∷ a ∷ []) = false
is_stage (verb ∷ a ∷ hex ∷ []) =
    ((bytes_eq verb (codes "send") && is_name a) || (bytes_eq verb (codes "drop") && is_reason a)) && is_hex hex
is_stage (verb ∷ sid ∷ way ∷ hex ∷ []) =
    bytes_eq verb (codes "again") && (is_prefix sid && (bytes_eq way (codes "through") && is_hex hex))
is_stage (verb ∷ sid ∷ way ∷ a ∷ hex ∷ []) =
    ((bytes_eq verb (codes "again") && (bytes_eq way (codes "table") && is_number LAST_TABLE a))
    || (bytes_eq verb (codes "hand") && (bytes_eq way (codes "through") && is_some (family_read a))))
    && (is_prefix sid && is_hex hex)
is_stage (verb ∷ sid ∷ way ∷ table ∷ family ∷ hex ∷ []) =
    bytes_eq verb (codes "hand")
    && (is_prefix sid && (bytes_eq way (codes "table") && (is_number LAST_TABLE table && (is_some (family_read family) && is_hex hex))))
is_stage (verb ∷ sid ∷ way ∷ table ∷ family ∷ hex ∷ more ∷ rest) = false

-- a packet as it enters: not longer than a packet can be and, where it reads, with nothing after its end
abbrev pub is_entering : Family → List ℕ → Bool
is_entering family packet = nat_le (length packet) most_len && (length (bytes_of (read_as family packet)) == length packet)

abbrev pub packet_by : Option Family → Option ℕ → Option (List ℕ) → Option Line
packet_by (Some family) (Some node) (Some packet) =
    if is_entering family packet then Some (lines.Packet family node packet) else None
packet_by None at packet = None
packet_by (Some family) None packet = None
packet_by (Some family) (Some node) None = None

-- whether words are a packet's first line, and what it says
abbrev pub packet_read : Network → List (List ℕ) → Option Line
packet_read net (verb ∷ number ∷ family ∷ node ∷ hex ∷ []) =
    if bytes_eq verb (codes "packet") && is_number (2 ^ 32 - 1) number
    then packet_by (family_read family) (node_numbered node net.nodes) (hex_read hex) else None
packet_read net words = None

-- whether there is one word, and it is this
abbrev pub is_only : List (List ℕ) → List ℕ → Bool
is_only (word ∷ []) text = bytes_eq word text
is_only [] text = false
is_only (word ∷ other ∷ more) text = false

-- what words are: the one word of a line that has no others, a packet's first line, or a stage's
abbrev pub words_read : Network → List (List ℕ) → Option Line
words_read net words =
    if is_stage words then Some lines.Stage
    else if is_only words stages_text then Some lines.Stages
    else if is_only words end_text then Some lines.End
    else packet_read net words

-- what a line is, if it is one; each line is text
abbrev pub line_read : Network → List ℕ → Option Line
line_read net line = if is_utf8 line then words_read net (words_of line) else None
