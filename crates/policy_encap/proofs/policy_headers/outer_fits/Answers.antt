use Rattle.std.proofs.Common.{◌^◌, ◌<◌, ℕ, subst}
use Rattle.policy_encap.proofs.RoundLemmas.{first_segment}
use Rattle.policy_encap.proofs.policy_headers.outer_fits.Goals as goal

pub returns : goal.returns
returns c =
    let P : ℕ → Type 0 = λ n. n < 2 ^ 128 in
    let first = first_segment c.args.policy.now c.as_slice.result.now c.requires.some c.as_slice.ensures in
    record {
      traffic_class = c.byte_fits.ensures;
      hop_limit = c.byte_fits-2.ensures;
      source = c.address_fits.ensures;
      destination = subst P first c.address_fits-2.ensures;
    }
