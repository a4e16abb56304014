use Rattle.std.proofs.Common.{ap, sym, ◌∙◌}
use Rattle.std.specs.Prelude.{nat_lt}
use Rattle.srv6_rules.specs.Policies.{most_payload, outer_by}
use Rattle.policy_encap.specs.EncapAnswers.{judged_by}
use Rattle.policy_encap.proofs.encapsulation.is_too_big.Goals as goal

pub returns : goal.returns
returns c = λ inner bytes same.
    let outer = outer_by c.args.policy.now c.args.reduced inner bytes in
    let size = c.payload_len.ensures.value inner bytes same in
    ap (λ b. judged_by b outer) (ap (nat_lt most_payload) (sym size) ∙ sym c.passes_most.ensures)
