use Rattle.std.proofs.Common.{◌≡◌, ◌-◌}
use Rattle.update_flight.specs.TransitionTerms.{IsPassed, transition_value}
use Rattle.update_flight.proofs.transition.Transition.first_early.Given as goal

-- the packets passed have ended, and nothing else has changed
abbrev pub invariant-packets : goal.invariant-packets
invariant-packets l =
    record {
      is : IsPassed l.self-inside.passed (transition_value l.self-inside.added.items l.self-inside.removed.items l.self-inside.done
          l.self-inside.early l.self-inside.packets);
      same : transition_value l.self-inside.added.items l.self-inside.removed.items l.self-inside.done l.self-inside.early
          l.self-inside.packets ≡ l.fn.self;
    }

abbrev pub decreases-packets : goal.decreases-packets
decreases-packets l = l.self-inside.early - l.self-inside.passed
