-- Need not be believed: helps proofs and other laws.
-- Terms beside those of `update_spec/specs/Alike.antt`.
use Rattle.std.specs.Prelude.{◌≡◌, ℕ, slice_get, Option}
use Rattle.std.specs.Option.{option_map}
use Rattle.srv6_rules.specs.declared.policy.Policy.{Policy}
use Rattle.srv6_rules.specs.declared.family.Family.{Family}
use Rattle.net_model.specs.declared.parts.NamedPolicy.{NamedPolicy}
use Rattle.net_model.specs.Network.{Network}
use Rattle.net_model.specs.Best.{lookup_of}
use Rattle.update_spec.specs.Lookups.{SameHit}

-- the policy of a number, without its name, which no packet sees
abbrev pub policy_at : Network → ℕ → Option Policy
policy_at net n = option_map (λ (p : NamedPolicy). p.policy) (slice_get net.policies n)

-- two networks look up to equal entries, and have the same nodes, links and policies
pub record LooksAs (a b : Network) : Type 0 where
  pub nodes : a.nodes ≡ b.nodes
  pub links : a.links ≡ b.links
  pub policies : (n : ℕ) → policy_at a n ≡ policy_at b n
  pub finds : (node table : ℕ) (family : Family) (d : ℕ) → SameHit a b (lookup_of a node table family d) (lookup_of b node table family d)
