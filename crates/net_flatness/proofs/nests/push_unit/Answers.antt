use Rattle.std.proofs.Common.{ap, ◌∙◌, arith}
use Rattle.std.proofs.lemmas.Bool.{both_ways}
use Rattle.net_flatness.specs.Nests.{unit_at}
use Rattle.net_flatness.proofs.UnitLemmas.{gets_none, gets_one}
use Rattle.net_flatness.proofs.nests.push_unit.Goals as goal

pub returns-then-not-inside : goal.returns-then-not-inside
returns-then-not-inside c =
    gets_none _ c.args.outer.now c.args.inner.now (λ is. both_ways c.inside.result c.if-not-inside.true (c.inside.ensures.fact.1 is))

pub unit-requires : goal.unit-requires
unit-requires c =
    let short = c.requires (c.inside.ensures.fact.0 c.if-not-inside.false) in
    omega (arith, short, c.len.ensures.len)

pub returns : goal.returns
returns c =
    gets_one _ _ c.args.outer.now c.args.inner.now c.unit.result (c.inside.ensures.fact.0 c.if-not-inside.false)
    (c.unit.ensures ∙ ap (unit_at c.args.inner.now.prefix) c.len.ensures.len) c.in_ok-push.ensures.items
