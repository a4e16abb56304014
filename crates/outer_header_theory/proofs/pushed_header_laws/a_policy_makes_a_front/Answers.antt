use Rattle.outer_header_theory.proofs.PushedHeaderPolicies.{policy_front, policy_round}
use Rattle.outer_header_theory.proofs.pushed_header_laws.a_policy_makes_a_front.Goals as goal

pub returns : goal.returns
returns c = record { front = policy_front; round = policy_round }
