use Rattle.std.proofs.Common.{◌≡◌, length}
use Rattle.pcap_io.specs.Feeding.{all_fed}
use Rattle.pcap_io.proofs.pieces.Feeding.ready.Given as goal

abbrev pub invariant-pieces : goal.invariant-pieces
invariant-pieces l = all_fed l.fn.self ≡ all_fed l.self

abbrev pub decreases-pieces : goal.decreases-pieces
decreases-pieces l = length l.self.more.now
