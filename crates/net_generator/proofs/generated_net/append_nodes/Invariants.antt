use Rattle.std.proofs.Common.{◌≡◌, ◌++◌, flat_map}
use Rattle.std.specs.Prelude.{string_bytes}
use Rattle.net_generator.specs.GeneratedWords.{from_to}
use Rattle.net_generator.specs.Networks.{node_table}
use Rattle.net_generator.proofs.generated_net.append_nodes.Given as goal

abbrev pub invariant-loop-i : goal.invariant-loop-i
invariant-loop-i l =
    string_bytes l.out ++ flat_map node_table (from_to l.i l.n) ≡ string_bytes l.initial.out ++ flat_map node_table (from_to 0 l.n)
