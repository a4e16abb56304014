-- Need not be believed: helps proofs and other laws.
-- Terms beside those of `specs/Scan4.antt`.
use Rattle.std.specs.Prelude.{◌^◌, ◌<◌, ◌≤◌, IfSome}
use Rattle.v6_addr.specs.declared.scan4.Place4.{Place4}

-- at most three numbers with their dots, the value that they make, and the number that has begun
pub record IsPlace4 (place : Place4) : Type 0 where
  pub few : place.done ≤ 3
  pub fits : place.value < 256 ^ place.done
  pub small : IfSome place.number (λ n. n ≤ 255)
