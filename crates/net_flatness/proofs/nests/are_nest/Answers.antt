use Rattle.std.proofs.Common.{◌≡◌, sym, ◌∙◌}
use Rattle.net_flatness.specs.NestTests.{is_nest}
use Rattle.net_flatness.proofs.NestLemmas.{nest_is, nest_of_parts}
use Rattle.net_flatness.proofs.nests.are_nest.Goals as goal

pub returns : goal.returns
returns c =
    let net = c.args.net.now in
    let told : c.is_nest.result ≡ is_nest net c.args.outer.now c.args.inner.now =
    c.is_nest.ensures ∙ nest_of_parts c.parts.result.now net c.args.outer.now c.args.inner.now c.parts.ensures in
    let is = nest_is net c.args.outer.now c.args.inner.now in
    (λ h. is.0 (sym told ∙ h), λ nest. told ∙ is.1 nest)
