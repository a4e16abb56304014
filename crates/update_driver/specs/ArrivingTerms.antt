-- Need not be believed: helps proofs and other laws.
-- Terms beside those of `specs/Arriving.antt`.
use Rattle.std.specs.Prelude.{List, [], ◌∷◌}
use Rattle.pcap_io.specs.declared.frame.Body.{Body}
use Rattle.pcap_io.specs.declared.frame.Frame.{Frame}
use Rattle.net_model.specs.Network.{Network}
use Rattle.command_output.specs.OutputPieces.{Piece, ForErr}
use Rattle.run_commands.specs.Admission.{Admission}
use Rattle.update_driver.specs.Arriving.{line_of_early}

abbrev pub early_pieces : Network → (Body → Admission) → Frame → List Piece
early_pieces net entry frame = ForErr (line_of_early net entry frame) ∷ []
