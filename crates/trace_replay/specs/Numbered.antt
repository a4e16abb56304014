-- Need not be believed: helps proofs and other laws.
-- Outcomes whose numbers are those of a network's items.
use Rattle.std.specs.Prelude.{◌<◌, length}
use Rattle.net_model.specs.Network.{Network}
use Rattle.walk_rules.specs.declared.place.Outcome.{Outcome}
use Rattle.walk_rules.specs.declared.place.Outcome.TheVariants as outcomes

-- the SID or the link that an outcome names is there
abbrev pub IsNumbered : Network → Outcome → Type 0
IsNumbered net (outcomes.Again sid how) = sid < length net.sids
IsNumbered net (outcomes.Hand sid how family) = sid < length net.sids
IsNumbered net (outcomes.Send link) = link < length net.links
IsNumbered net outcomes.Local = Unit {0}
IsNumbered net (outcomes.Drop reason error) = Unit {0}
