-- What a network, an intent, its list and the walks of generated packets come to, in numbers.
use Rattle.std.specs.Prelude.{ℕ, Bool, true, false, List, [], ◌∷◌, length, sum_by, count_by, Option, Some, None}
use Rattle.std.specs.List.{flat_map, range_with_len}
use Rattle.pcap_io.specs.declared.frame.Body.TheVariants as bodies
use Rattle.srv6_rules.specs.Packet.{spelling}
use Rattle.net_generator.specs.GeneratedPackets.{generated_packet}
use Rattle.net_model.specs.Network.{Network}
use Rattle.walk_rules.specs.declared.place.Outcome.{Outcome}
use Rattle.walk_rules.specs.declared.place.Outcome.TheVariants as outcomes
use Rattle.walk_rules.specs.declared.place.Ended.{Ended}
use Rattle.walk_rules.specs.declared.place.Ended.TheVariants as ends
use Rattle.walk_rules.specs.Walk.{Stage, end_of}
use Rattle.intent_reader.specs.declared.intent.Intent.{Intent}
use Rattle.path_compiler.specs.declared.compiled.Compiled.{Compiled}
use Rattle.run_commands.specs.declared.enters.Entrant.{Entrant}
use Rattle.run_commands.specs.Admission.{Admission, entrant_of, walk_of_entrant}
use Rattle.walk_commands.specs.declared.headend.Headend.{Headend}
use Rattle.generate_commands.specs.declared.summed.Summary.{Summary}
use Rattle.walk_commands.specs.WalkCommand.{admission_at_headend, headend_of}

-- the choices that each walk takes
abbrev pub summary_choices : List ℕ
summary_choices = 0 ∷ 1 ∷ []

-- generated packet k at a headend, as the command `walk` has it there
abbrev pub generated_at_headend : Headend → ℕ → Admission
generated_at_headend headend k = admission_at_headend headend (bodies.V6 (spelling (generated_packet k)))

-- the walk of what enters; what stays at the headend has none
abbrev pub walks_by : Network → Option Entrant → List (List Stage)
walks_by net None = []
walks_by net (Some comes) = walk_of_entrant net summary_choices comes ∷ []

-- the walk of generated packet k, if it has one
abbrev pub walks_of_packet : Network → Headend → ℕ → List (List Stage)
walks_of_packet net headend k = walks_by net (entrant_of (generated_at_headend headend k))

-- the walks of so many generated packets, numbered from 1
abbrev pub walks_of : Network → Headend → ℕ → List (List Stage)
walks_of net headend packets = flat_map (walks_of_packet net headend) (range_with_len 1 packets)

-- whether a stage sends the packet over a link
abbrev pub is_send : Outcome → Bool
is_send (outcomes.Again sid how) = false
is_send (outcomes.Hand sid how family) = false
is_send (outcomes.Send link) = true
is_send outcomes.Local = false
is_send (outcomes.Drop reason told) = false

abbrev pub sends : Stage → Bool
sends s = is_send s.gave.outcome

-- whether a walk that ended so left the network
abbrev pub has_left : Ended → Bool
has_left (ends.Left link) = true
has_left (ends.Delivered node) = false
has_left (ends.Dropped node reason) = false
has_left ends.Stages = false

abbrev pub leaves : Network → List Stage → Bool
leaves net steps = has_left (end_of net steps)

-- how many stages of walks send
abbrev pub frames_in : List (List Stage) → ℕ
frames_in walks = sum_by (λ steps. count_by sends steps) walks

-- how many walks leave the network
abbrev pub left_in : Network → List (List Stage) → ℕ
left_in net walks = count_by (leaves net) walks

-- the summary of a network, an intent, its list and so many packets
abbrev pub summary_of : Network → Intent → Compiled → ℕ → Summary
summary_of net intent c packets =
    let walks = walks_of net (headend_of net intent c) packets in
    record {
      nodes = length net.nodes;
      links = length net.links;
      routes = length net.routes;
      sids = length net.sids;
      containers = c.containers;
      header = c.header;
      need = c.need;
      packets = packets;
      frames = frames_in walks;
      left = left_in net walks;
    }
