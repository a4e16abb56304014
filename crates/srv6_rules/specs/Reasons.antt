-- The names of the reasons for which a node drops a packet.
use Rattle.std.specs.Prelude.{ℕ, List, codes}
use Rattle.srv6_rules.specs.declared.reason.Reason.{Reason}
use Rattle.srv6_rules.specs.declared.reason.Reason.TheVariants as reasons

-- a reason's name, as it is shown
unfoldable pub reason_name : Reason → List ℕ
reason_name reasons.Truncated = codes "Truncated"
reason_name reasons.BadVersion = codes "BadVersion"
reason_name reasons.Multicast = codes "Multicast"
reason_name reasons.NoRoute = codes "NoRoute"
reason_name reasons.HopLimit = codes "HopLimit"
reason_name reasons.BadChain = codes "BadChain"
reason_name reasons.LateHopByHop = codes "LateHopByHop"
reason_name reasons.OptionDiscard = codes "OptionDiscard"
reason_name reasons.OptionUnknown = codes "OptionUnknown"
reason_name reasons.Fragment = codes "Fragment"
reason_name reasons.BadSegments = codes "BadSegments"
reason_name reasons.HmacTlv = codes "HmacTlv"
reason_name reasons.BadTlv = codes "BadTlv"
reason_name reasons.UnknownRouting = codes "UnknownRouting"
reason_name reasons.UpperLayer = codes "UpperLayer"
reason_name reasons.Ttl = codes "Ttl"
reason_name reasons.TooBig = codes "TooBig"
reason_name reasons.InnerHop = codes "InnerHop"
reason_name reasons.MtuExceeded = codes "MtuExceeded"
