use Rattle.policy_encap.proofs.EncapLemmas.{hop_6, hop_4}
use Rattle.policy_encap.proofs.inner.inner_hop.Goals as goal

pub returns-in-V6 : goal.returns-in-V6
returns-in-V6 c = hop_6 c.args.inner c.args.bytes.now c.in-V6.is

pub returns-in-V4 : goal.returns-in-V4
returns-in-V4 c = hop_4 c.args.inner c.args.bytes.now c.in-V4.is c.requires
