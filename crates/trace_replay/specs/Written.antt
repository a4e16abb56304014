-- A trace of packets as it is written: the text, and the lines that it has.
use Rattle.std.specs.Prelude.{ℕ, List, [], ◌∷◌, ◌++◌, slice_get, Some}
use Rattle.std.specs.List.{flat_map}
use Rattle.srv6_rules.specs.declared.family.Family.{Family}
use Rattle.srv6_rules.specs.Packet.{Content, bytes_of}
use Rattle.net_model.specs.Network.{Network}
use Rattle.walk_rules.specs.declared.place.How.TheVariants.{Arrived}
use Rattle.walk_rules.specs.declared.place.Place.{Place}
use Rattle.walk_rules.specs.Walk.{Stage, walk_of}
use Rattle.walk_rules.specs.declared.limits.TheConstants.{MAX_STAGES}
use Rattle.trace_replay.specs.TraceLaws.{walk_lines}
use Rattle.trace_replay.specs.TraceLines.{end_text, head_text, hex_text, name_of_node, packet_text}

-- a packet whose walk is written: its number, its family, the node where it enters, what enters, and the choice of each decision
-- of its walk
pub record Traced : Type 0 where
  pub number : ℕ
  pub family : Family
  pub node : ℕ
  pub content : Content
  pub pick : ℕ → ℕ

-- where a packet enters: it has arrived at its node, and is looked up in table 0
abbrev pub entry_place : Traced → Place
entry_place p = record { node = p.node; how = Arrived 0; family = p.family }

abbrev pub traced_walk : Network → Traced → List Stage
traced_walk net p = walk_of MAX_STAGES net (Some (entry_place p)) p.content p.pick 0

-- the lines of a packet: its first one, and those of its walk

abbrev pub packet_line : Network → Traced → List ℕ
packet_line net p = packet_text p.number p.family (name_of_node (slice_get net.nodes p.node)) (hex_text (bytes_of p.content))

abbrev pub packet_lines : Network → Traced → List (List ℕ)
packet_lines net p = packet_line net p ∷ walk_lines net (Some (entry_place p)) (traced_walk net p)

-- lines, each with its line feed
abbrev pub fed : List (List ℕ) → List ℕ
fed [] = []
fed (line ∷ more) = line ++ 10 ∷ fed more

-- the bytes of a trace's head, of a packet, of packets one after the other, and of the end

abbrev pub trace_head_bytes : List ℕ
trace_head_bytes = fed (head_text ∷ [])

abbrev pub packet_trace : Network → Traced → List ℕ
packet_trace net p = fed (packet_lines net p)

abbrev pub packets_trace : Network → List Traced → List ℕ
packets_trace net packets = flat_map (packet_trace net) packets

abbrev pub trace_end_bytes : List ℕ
trace_end_bytes = fed (end_text ∷ [])

-- a trace that is not finished, where a refusal of the input follows
abbrev pub unended_text : Network → List Traced → List ℕ
unended_text net packets = trace_head_bytes ++ packets_trace net packets

-- a trace
abbrev pub trace_text : Network → List Traced → List ℕ
trace_text net packets = unended_text net packets ++ trace_end_bytes
