use Rattle.std.proofs.Common.{◌≡◌, ◌++◌, take, flat_map}
use Rattle.std.specs.Prelude.{string_bytes}
use Rattle.list_certificate.specs.Spelling.{potential_text}
use Rattle.list_certificate.proofs.spelling.append_potentials.Given as goal

abbrev pub invariant-loop-potential : goal.invariant-loop-potential
invariant-loop-potential l = string_bytes l.out ≡ string_bytes l.initial.out ++ flat_map (potential_text l.net l.form)
    (take l.potential-index l.potentials)
