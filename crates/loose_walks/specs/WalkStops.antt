-- Where a packet is first executed, along steps of which one may be loose.
use Rattle.std.specs.Prelude.{◌-◌, slice_get}
use Rattle.net_model.specs.Network.{Network}
use Rattle.walk_rules.specs.Walk.{far_end}
use Rattle.intent_traces.specs.Traces.{Ends}

-- where the links of a network end
abbrev pub ends_in : Network → Ends
ends_in net link = far_end (slice_get net.links link)
