-- Words of the headline: the outer packet of an inner one, when that is small enough, and what a run of `walk` writes of it.
use Rattle.std.specs.Prelude.{◌≡◌, ◌⊎◌, IsTrue, List, ◌++◌, Contains}
use Rattle.std.specs.List.{flat_map}
use Rattle.pcap_io.specs.declared.frame.Body.{Body}
use Rattle.pcap_io.specs.declared.frame.Body.TheVariants as bodies
use Rattle.pcap_io.specs.declared.frame.Frame.{Frame}
use Rattle.pcap_io.specs.Capture.{written_head_bytes}
use Rattle.srv6_rules.specs.declared.family.Family.TheVariants as families
use Rattle.srv6_rules.specs.Packet.{Content, V6, entered}
use Rattle.net_model.specs.Network.{Network}
use Rattle.intent_reader.specs.declared.intent.Intent.{Intent}
use Rattle.intent_reader.specs.IntentRules.{has_reach}
use Rattle.list_pack.specs.SidLists.{list_values}
use Rattle.leg_table.specs.Realizes.{IsInner, ListRealizes, encapsulated_for}
use Rattle.path_compiler.specs.declared.compiled.Compiled.{Compiled}
use Rattle.packet_walk.specs.Schedule.{Taken, scheduled}
use Rattle.srx_edge.specs.Sinks.{SinkSeen, sent}
use Rattle.command_output.specs.declared.status.Status.{Status}
use Rattle.command_output.specs.Outside.{Outside}
use Rattle.command_output.specs.OutputPieces.{Output, gone}
use Rattle.command_inputs.specs.declared.input_packets.Packets.{Packets}
use Rattle.command_inputs.specs.InputPackets.{reading_of}
use Rattle.run_commands.specs.WrittenCapture.{frames_of}
use Rattle.run_commands.specs.Scheduled.{frame_of_stage, frames_sent}
use Rattle.compile_commands.specs.CompiledLists.{BindsNothing, IsSmallFor}
use Rattle.walk_commands.specs.declared.headend.Headend.{Headend}
use Rattle.walk_commands.specs.WalkCommand.{IsEncapsulated, WalkWords, headend_of, walk_at_headend, comings_at_headend}

-- what the headend makes of an inner packet by H.Encaps with the compiled list
abbrev pub outer_for : Network → Intent → Compiled → Content → Content
outer_for net intent c inner = V6 (encapsulated_for intent (list_values net c.list) inner intent.hop_limit)

-- packets meet no binding SID: the list realizes the intent without one, the network has none, or a step is loose
abbrev pub MeetsNoPolicy : Network → Intent → Compiled → Type 0
MeetsNoPolicy net intent c = ListRealizes net intent c.list c.need ⊎ (BindsNothing net ⊎ IsTrue (has_reach intent.steps))

-- an inner packet is small enough: the payload of each header in front of it fits, up to where it is handed over, and each packet fits the
-- link that it is sent on, under all choices, in fewer stages than a walk may have; where packets meet no binding SID it need
-- only fit, with the list's header, an IPv6 packet and each link that the intent's steps may cross
abbrev pub IsSmallEnough : Network → Intent → Compiled → Content → Type 0
IsSmallEnough net intent c inner =
    IsSmallFor net intent (list_values net c.list) inner intent.hop_limit
    ⊎ (MeetsNoPolicy net intent c × IsEncapsulated net intent c inner)

-- `out` and `err` received all of an output and no more, and a call's status is the output's
abbrev pub Wrote : Outside → Outside → Status → Output → Type 0
Wrote old new status output = (new.sinks ≡ gone output.pieces old.sinks) × (status ≡ output.status)

-- the bytes of a frame read as a packet
abbrev pub ReadsAs : Body → Content → Type 0
ReadsAs (bodies.V6 bytes) packet = entered families.V6 bytes ≡ packet
ReadsAs (bodies.V4 bytes) packet = entered families.V4 bytes ≡ packet
ReadsAs bodies.ShortFrame packet = ⊥
ReadsAs bodies.NotIp packet = ⊥

-- the stages that the packets of an input take from a headend, in the order of the schedule
abbrev pub stages_in : Network → Headend → WalkWords → Packets → List Taken
stages_in net headend words packets =
    scheduled words.schedule (comings_at_headend net headend words.choices (reading_of packets).frames)

-- a sink received the capture of these walks: its head, and the frame of each stage that sends a packet or an ICMPv6 error; of each inner
-- packet of the input with enough hop limit and small enough it has exactly the frames of the walk, under the choices, of what the headend
-- makes of it
pub record IsCaptured (net : Network) (intent : Intent) (c : Compiled) (words : WalkWords) (packets : Packets) (old new : SinkSeen)
    : Type 0 where
  pub all : new ≡ sent (written_head_bytes ++ flat_map frame_of_stage (stages_in net (headend_of net intent c) words packets)) old
  pub each : (frame : Frame) (inner : Content) → Contains (reading_of packets).frames frame → ReadsAs frame.body inner
      → IsInner intent.inner inner → IsSmallEnough net intent c inner
      → frames_sent frame.number (stages_in net (headend_of net intent c) words packets)
      ≡ frames_of frame.number (walk_at_headend net intent words.choices (outer_for net intent c inner))
