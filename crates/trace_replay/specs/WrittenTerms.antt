-- Need not be believed: helps proofs and other laws.
-- Terms beside those of `specs/Written.antt`.
use Rattle.std.specs.Prelude.{◌≡◌, ℕ, ◌^◌, ◌<◌, List, [], ◌∷◌, ◌++◌, length, Option, All}
use Rattle.std.specs.List.{flat_map}
use Rattle.srv6_rules.specs.Packet.{Content, entered}
use Rattle.net_model.specs.Network.{Network}
use Rattle.walk_rules.specs.declared.place.Place.{Place}
use Rattle.walk_rules.specs.Walk.{walk_of}
use Rattle.trace_replay.specs.TraceLaws.{walk_lines}
use Rattle.trace_replay.specs.TraceLines.{end_text, head_text}
use Rattle.trace_replay.specs.declared.verdict.Replayed.{Replayed}
use Rattle.trace_replay.specs.Written.{Traced, packet_lines, fed}

-- bytes have entered, of the packet's family and at a node that is there; the number is one of 32 bits
pub record IsTraced (net : Network) (p : Traced) : Type 0 where
  pub number : p.number < 2 ^ 32
  pub node : p.node < length net.nodes
  pub bytes : List ℕ
  pub each : All (λ b. b < 2 ^ 8) bytes
  pub content : p.content ≡ entered p.family bytes

-- the lines of a packet: its first one, and those of its walk

abbrev pub packets_lines : Network → List Traced → List (List ℕ)
packets_lines net packets = flat_map (packet_lines net) packets

-- the bytes of a walk of at most so many stages from a place, if there is one
abbrev pub walk_trace : ℕ → Network → Option Place → Content → (ℕ → ℕ) → ℕ → List ℕ
walk_trace left net place content pick taken = fed (walk_lines net place (walk_of left net place content pick taken))

-- the bytes of a trace's head, of a packet, of packets one after the other, and of the end

-- the lines that it has
abbrev pub trace_lines : Network → List Traced → List (List ℕ)
trace_lines net packets = head_text ∷ (packets_lines net packets ++ end_text ∷ [])

-- what it has: its packets, and the lines of these
abbrev pub counts_written : Network → List Traced → Replayed
counts_written net packets = record { packets = length packets; lines = length (packets_lines net packets) }
