use Rattle.std.proofs.Common.{◌≡◌, ◌++◌, drop, string_bytes}
use Rattle.std.specs.List.{flat_map}
use Rattle.v6_addr.specs.declared.address.Addr.{Addr}
use Rattle.compile_commands.specs.CompileCommand.{container_line}
use Rattle.compile_commands.proofs.compile_command.lines_of_containers.Given as goal

abbrev pub invariant-loop-value : goal.invariant-loop-value
invariant-loop-value l =
    string_bytes l.lines ++ flat_map (λ (a : Addr). container_line a.value) (drop l.value-index l.values)
    ≡ flat_map (λ (a : Addr). container_line a.value) l.values
