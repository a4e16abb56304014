use Rattle.std.proofs.Common.{sym, ◌∙◌}
use Rattle.std.proofs.lemmas.Bool.{both_ways}
use Rattle.net_model.specs.NetworkTerms.{network_of}
use Rattle.net_flatness.proofs.SearchLemmas.{outermost, none_is_around}
use Rattle.net_flatness.proofs.nested.is_sid_inside.Goals as goal

pub returns-then-not-has_around : goal.returns-then-not-has_around
returns-then-not-has_around c is =
    outermost (network_of c.args.parts.now) c.args.table.now c.requires c.args.inner.now
    (λ around. both_ways c.has_around.result c.if-not-has_around.true (c.has_around.ensures.1 around))

pub returns : goal.returns
returns c is =
    none_is_around (network_of c.args.parts.now) c.args.inner.now (sym c.nests_badly.ensures ∙ is)
