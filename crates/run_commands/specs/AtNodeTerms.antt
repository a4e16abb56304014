-- Need not be believed: helps proofs and other laws.
-- Terms beside those of `specs/AtNode.antt`.
use Rattle.pcap_io.specs.declared.frame.Body.{Body}
use Rattle.run_commands.specs.declared.at_node.AtNode.{AtNode}
use Rattle.run_commands.specs.Admission.{Admission}
use Rattle.run_commands.specs.AtNode.{admission_at_node}

abbrev pub admission_at : AtNode → Body → Admission
admission_at at = admission_at_node at.node
