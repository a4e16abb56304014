use Rattle.std.proofs.Common.{◌≡◌, ◌≤◌, take, Some, None}
use Rattle.std.specs.Prelude.{IfSome}
use Rattle.v6_addr.specs.LengthsTerms.{length_step}
use Rattle.v6_addr.specs.Scan.{walked}
use Rattle.v6_addr.proofs.length.length_beginning.Given as goal

-- the number that the bytes so far have led to
abbrev pub invariant-loop-i : goal.invariant-loop-i
invariant-loop-i l = record {
  here : walked (length_step l.limit l.value) None (take l.i l.text) ≡ Some l.number;
  bound : IfSome l.number (λ n. n ≤ l.limit);
}
