use Rattle.shortest_paths.proofs.Forwarding.{falls, no_loop}
use Rattle.shortest_paths.proofs.laws.forwarding_has_no_loop.Goals as goal

pub returns : goal.returns
returns c = record { falls = falls; no_loop = no_loop }
