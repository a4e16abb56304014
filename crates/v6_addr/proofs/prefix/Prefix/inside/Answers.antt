use Rattle.std.proofs.Common.{ap, ◌∙◌}
use Rattle.v6_addr.specs.Address.{PrefixValue}
use Rattle.v6_addr.proofs.PrefixFacts.{is_inside_longer, is_inside_not_longer}
use Rattle.v6_addr.proofs.prefix.Prefix.inside.Goals as goal

pub returns-then-outer-self-clause-test : goal.returns-then-outer-self-clause-test
returns-then-outer-self-clause-test c =
    c.holds.ensures.test
    ∙ is_inside_longer _ _ _ _ _ (ap (λ (p : PrefixValue). p.value) c.self.view_is) (ap (λ (p : PrefixValue). p.len) c.self.view_is)
    (ap (λ (p : PrefixValue). p.len) c.outer.view_is) c.if-outer-self.true

pub returns-else-outer-self-clause-test : goal.returns-else-outer-self-clause-test
returns-else-outer-self-clause-test c =
    is_inside_not_longer _ _ _ _ (ap (λ (p : PrefixValue). p.len) c.self.view_is) (ap (λ (p : PrefixValue). p.len) c.outer.view_is)
    c.if-outer-self.false
