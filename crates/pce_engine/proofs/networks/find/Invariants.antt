use Rattle.std.proofs.Common.{◌≡◌, drop}
use Rattle.pce_engine.specs.EngineReplies.{network_named}
use Rattle.pce_engine.proofs.networks.find.Given as goal

-- no network so far has the name
abbrev pub invariant-loop-holding : goal.invariant-loop-holding
invariant-loop-holding l = network_named l.name (drop l.holding-index l.all) ≡ network_named l.name l.all
