use Rattle.std.proofs.Common.{◌≡◌, take, Some}
use Rattle.v6_addr.specs.Scan.{walked}
use Rattle.v6_addr.specs.Scan4.{start4, behind4}
use Rattle.v6_addr.specs.Scan4Terms.{IsPlace4}
use Rattle.v6_addr.proofs.scan4.walk4.Given as goal

-- where the bytes so far have led
abbrev pub invariant-loop-i : goal.invariant-loop-i
invariant-loop-i l = record {
  here : walked behind4 start4 (take l.i l.text) ≡ Some l.place;
  valid : IsPlace4 l.place;
}
