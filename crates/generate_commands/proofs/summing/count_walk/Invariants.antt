use Rattle.std.proofs.Common.{◌-◌, ◌≤◌, Some}
use Rattle.walk_rules.specs.Relation.{IsPlace}
use Rattle.walk_rules.specs.Walk.{walk_of, choice_at}
use Rattle.walk_rules.specs.declared.limits.TheConstants.{MAX_STAGES}
use Rattle.generate_commands.proofs.WalksCounted.{Counted}
use Rattle.generate_commands.proofs.summing.count_walk.Given as goal

abbrev pub invariant-loop-used : goal.invariant-loop-used
invariant-loop-used l = record {
  place : IsPlace l.net l.place;
  taken : l.taken ≤ l.used;
  sent : l.sent ≤ l.used;
  counted : Counted l.net (walk_of (MAX_STAGES - l.used) l.net (Some l.place) l.content (choice_at l.choices) l.taken)
      (walk_of MAX_STAGES l.net (Some l.fn.comes.place) l.fn.comes.content (choice_at l.choices) 0) l.sent;
}
