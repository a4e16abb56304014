-- Need not be believed: helps proofs and other laws.
-- Terms beside those of `specs/RunCommand.antt`.
use Rattle.std.specs.Prelude.{ℕ, List, Option, Some, None}
use Rattle.pcap_io.specs.declared.frame.Frame.{Frame}
use Rattle.net_model.specs.Network.{Network}
use Rattle.packet_walk.specs.Schedule.{Coming}
use Rattle.run_commands.specs.AtNode.{admission_at_node}
use Rattle.run_commands.specs.Admission.{comings_of_frames}
use Rattle.run_commands.specs.declared.run_command.RunWords as code
use Rattle.run_commands.specs.RunCommand.{RunWords}

-- as the code has them
abbrev pub run_words_seen : code.RunWords → RunWords
run_words_seen words = record {
  file = words.file.now;
  node = words.node.now;
  choices = words.choices.items;
  schedule = words.schedule.items;
}

abbrev pub run_asked : Option code.RunWords → Option RunWords
run_asked None = None
run_asked (Some words) = Some (run_words_seen words)

-- the packets that are read, each by its number and its walk from the node
abbrev pub comings_from : Network → ℕ → List ℕ → List Frame → List Coming
comings_from net node choices frames = comings_of_frames net choices (admission_at_node node) frames
