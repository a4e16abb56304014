use Rattle.std.proofs.Common.{◌≡◌, ◌+◌, ◌++◌, flat_map}
use Rattle.std.specs.Prelude.{string_bytes}
use Rattle.net_generator.specs.GeneratedWords.{from_to}
use Rattle.net_generator.specs.Networks.{route_table}
use Rattle.net_generator.proofs.generated_routes.append_routes_of.Given as goal

abbrev pub invariant-loop-j : goal.invariant-loop-j
invariant-loop-j l =
    string_bytes l.out ++ flat_map (route_table l.i) (from_to l.j l.n) ≡ string_bytes l.initial.out ++ flat_map (route_table l.i)
    (from_to (l.i + 1) l.n)
