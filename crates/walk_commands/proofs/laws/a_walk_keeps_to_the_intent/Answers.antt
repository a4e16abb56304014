use Rattle.walk_commands.proofs.WalkKeeping.{loose_keeps, loose_small, plain_keeps, plain_small, small_keeps, strict_keeps}
use Rattle.walk_commands.proofs.laws.a_walk_keeps_to_the_intent.Goals as goal

pub returns : goal.returns
returns c = record {
  small = small_keeps;
  strict = strict_keeps;
  plain = plain_keeps;
  loose = loose_keeps;
  fits = plain_small;
  loose_fits = loose_small;
}
