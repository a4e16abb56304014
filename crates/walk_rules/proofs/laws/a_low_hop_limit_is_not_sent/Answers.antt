use Rattle.walk_rules.proofs.Sending.{sent_low, sent_high, sent4_low, sent4_high}
use Rattle.walk_rules.proofs.laws.a_low_hop_limit_is_not_sent.Goals as goal

pub returns : goal.returns
returns c = record { low = sent_low; high = sent_high; low4 = sent4_low; high4 = sent4_high }
