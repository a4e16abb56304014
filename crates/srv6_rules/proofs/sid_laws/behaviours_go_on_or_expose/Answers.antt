use Rattle.srv6_rules.proofs.BehaviourLaws.{goes_on_is, exposes_ipv6, exposes_ipv4, exposes_kinds, goes_on_exposes, goes_on_exposes_usd}
use Rattle.srv6_rules.proofs.sid_laws.behaviours_go_on_or_expose.Goals as goal

pub returns-clause-goes_on : goal.returns-clause-goes_on
returns-clause-goes_on c = goes_on_is

pub returns-clause-ipv6 : goal.returns-clause-ipv6
returns-clause-ipv6 c = exposes_ipv6

pub returns-clause-ipv4 : goal.returns-clause-ipv4
returns-clause-ipv4 c = exposes_ipv4

pub returns-clause-kinds : goal.returns-clause-kinds
returns-clause-kinds c = exposes_kinds

pub returns-clause-one : goal.returns-clause-one
returns-clause-one c = goes_on_exposes

pub returns-clause-usd : goal.returns-clause-usd
returns-clause-usd c = goes_on_exposes_usd
