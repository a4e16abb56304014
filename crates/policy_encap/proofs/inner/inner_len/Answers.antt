use Rattle.policy_encap.proofs.EncapLemmas.{inner_short}
use Rattle.policy_encap.proofs.inner.inner_len.Goals as goal

pub returns-clause-most : goal.returns-clause-most
returns-clause-most c = inner_short c.args.inner c.args.bytes.now c.requires
