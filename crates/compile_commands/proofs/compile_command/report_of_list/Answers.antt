use Rattle.std.proofs.Common.{ap, ◌∙◌}
use Rattle.std.specs.List.{flat_map}
use Rattle.v6_addr.specs.declared.address.Addr.{Addr}
use Rattle.compile_commands.specs.CompileCommand.{container_line}
use Rattle.compile_commands.proofs.Compiling.{report_is}
use Rattle.compile_commands.proofs.compile_command.report_of_list.Goals as goal

pub returns : goal.returns
returns c =
    c.in_ok-push_str.ensures.bytes
    ∙ report_is c.args.net.now c.args.prefer c.args.compiled.now c.in_ok-values.values.items _ _ c.in_ok-values.ensures
    (c.in_ok-report.ensures ∙ ap (flat_map (λ (a : Addr). container_line a.value)) c.as_slice.ensures.value)
    (c.deref.ensures ∙ c.in_ok-numbers.ensures)
