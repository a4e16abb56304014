use Rattle.std.proofs.Common.{length, ◌-◌, ◌≡◌, ◌≤◌, take, option_map}
use Rattle.line_talk.specs.Talk.{said_more}
use Rattle.line_talk.proofs.waiting.say_all.Given as goal

-- the first `said` bytes were said
abbrev pub invariant-loop-said : goal.invariant-loop-said
invariant-loop-said g l = record {
  within : l.said ≤ length l.bytes;
  told : g.C.Client.talk l.client ≡ option_map (said_more (take l.said l.bytes)) (g.C.Client.talk l.fn.client);
}

abbrev pub decreases-loop-said : goal.decreases-loop-said
decreases-loop-said g l = length l.bytes - l.said
