use Rattle.std.proofs.Common.{◌≡◌, ◌-◌}
use Rattle.std.specs.List.{find, range_with_len}
use Rattle.trace_replay.specs.Replays.{is_given}
use Rattle.trace_replay.proofs.line_judge.given_among.Given as goal

abbrev pub invariant-loop-choice : goal.invariant-loop-choice
invariant-loop-choice l =
    find (is_given l.net l.place l.content l.line) (range_with_len l.choice (l.choices - l.choice))
    ≡ find (is_given l.net l.place l.content l.line) (range_with_len 0 l.choices)
