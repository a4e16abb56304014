use Rattle.std.proofs.Common.{◌≡◌, take, Some}
use Rattle.v6_addr.specs.declared.scan.Scanned.TheVariants.{Start}
use Rattle.v6_addr.specs.ScanTerms.{reached}
use Rattle.v6_addr.proofs.scan.address_beginning.Given as goal

-- where the bytes so far have led
abbrev pub invariant-loop-i : goal.invariant-loop-i
invariant-loop-i l = reached Start (take l.i l.text) ≡ Some l.place
