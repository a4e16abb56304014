use Rattle.std.proofs.Common.{refl}
use Rattle.packet_walk.proofs.laws.room_changes_no_walk.Goals as goal

pub returns : goal.returns
returns c = record { rest = λ net front p. refl; end = λ net front p. refl }
