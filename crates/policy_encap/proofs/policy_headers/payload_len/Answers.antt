use Rattle.std.proofs.Common.{◌∙◌, ◌+◌, sym, ap}
use Rattle.policy_encap.specs.PolicyHeaders.{listed, routing_bytes}
use Rattle.policy_encap.proofs.RoundLemmas.{round_len}
use Rattle.policy_encap.proofs.policy_headers.payload_len.Goals as goal

pub returns-clause-value : goal.returns-clause-value
returns-clause-value c inner bytes is =
    ap (λ n. n + c.args.inner_len) (c.routing_len.ensures ∙ ap routing_bytes c.listed.ensures)
    ∙ ap (λ n. routing_bytes (listed c.args.policy.now c.args.reduced) + n) (sym is)
    ∙ round_len c.args.policy.now c.args.reduced inner bytes c.requires.policy.some
