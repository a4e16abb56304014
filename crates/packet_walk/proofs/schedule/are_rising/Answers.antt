use Rattle.std.proofs.Common.{rules, of_calls, nat_lt}
use Rattle.std.proofs.lemmas.Fn.{always_returns_same}
use Rattle.packet_walk.proofs.Due.{rising_told}
use Rattle.packet_walk.proofs.schedule.are_rising.Goals as goal

pub returns : goal.returns
returns c =
    let pairs = always_returns_same _ _ _ (λ a r f k. search (rules, of_calls)) in
    rising_told c.args.numbers.now c.is_sorted_by.result (c.is_sorted_by.ensures.cases nat_lt pairs)
