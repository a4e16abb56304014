use Rattle.std.proofs.Common.{[], ◌∷◌}
use Rattle.std.proofs.lemmas.Result.{err_from_is_err_and}
use Rattle.command_output.proofs.PublicLaws.{goes_kept}
use Rattle.trace_commands.proofs.trace_command.put_packet.Goals as goal

pub returns-in_err-print_packet : goal.returns-in_err-print_packet
returns-in_err-print_packet g c =
    let p = err_from_is_err_and c.from_residual.result c.from_residual.ensures.1 in
    rw (p.1, p.2) (goes_kept (_ ∷ []) _)
