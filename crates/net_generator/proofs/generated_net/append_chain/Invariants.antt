use Rattle.std.proofs.Common.{◌≡◌, ◌++◌, flat_map}
use Rattle.std.specs.Prelude.{string_bytes}
use Rattle.net_generator.specs.GeneratedWords.{from_to}
use Rattle.net_generator.specs.Networks.{link_tables}
use Rattle.net_generator.proofs.generated_net.append_chain.Given as goal

abbrev pub invariant-loop-i : goal.invariant-loop-i
invariant-loop-i l =
    string_bytes l.out ++ flat_map link_tables (from_to l.i l.n) ≡ string_bytes l.initial.out ++ flat_map link_tables (from_to 1 l.n)
