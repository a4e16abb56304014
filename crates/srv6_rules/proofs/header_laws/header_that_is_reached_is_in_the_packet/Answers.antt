use Rattle.srv6_rules.specs.ChainTerms.{chain_at}
use Rattle.srv6_rules.specs.EndpointTerms.{IsPassed, IsSkipped}
use Rattle.srv6_rules.proofs.PacketReached.{reached_contained, reached_lies, reached_stands}
use Rattle.srv6_rules.proofs.header_laws.header_that_is_reached_is_in_the_packet.Goals as goal

pub returns-clause-contained : goal.returns-clause-contained
returns-clause-contained c treat = reached_contained (IsPassed treat)

pub returns-clause-lies : goal.returns-clause-lies
returns-clause-lies c treat = reached_lies (IsPassed treat)

pub returns-clause-stands : goal.returns-clause-stands
returns-clause-stands c treat = reached_stands (IsPassed treat)

pub returns-clause-at_sid : goal.returns-clause-at_sid
returns-clause-at_sid c s p place h stands reached = (
  reached_contained (IsSkipped s p) (chain_at p place).headers h reached,
  reached_lies (IsSkipped s p) p place h stands.behind_header reached,
  reached_stands (IsSkipped s p) p place h stands reached,
)
