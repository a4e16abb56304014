-- the tests of numbers, for code that branches on them
use Rattle.std.proofs.lemmas.Bool.Decides.{nat_tests}

pub ruleset tests = (nat_tests)
