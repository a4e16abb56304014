use Rattle.std.proofs.Common.{sym, refl, arith}
use Rattle.v6_addr.proofs.Places4.{ended4}
use Rattle.v6_addr.proofs.PrefixFaults4.{no_slash_refused, no_address_refused}
use Rattle.v6_addr.proofs.prefix4.parse_prefix4.Goals as goal

pub returns-then-at-text : goal.returns-then-at-text
returns-then-at-text c = no_slash_refused _ _ c.walk4-reach.ensures.longest (λ inside slash. absurd (omega arith))

pub returns-then-text-at-ne47 : goal.returns-then-text-at-ne47
returns-then-text-at-ne47 c =
    no_slash_refused _ _ c.walk4-reach.ensures.longest (λ inside slash. c.if-text-at-ne47.true slash)

pub returns-in-None : goal.returns-in-None
returns-in-None c =
    no_address_refused _ _ c.walk4-reach.result.place c.walk4-reach.ensures.longest c.walk4-reach.ensures.walked c.in-None.ensures

pub after_slash4-requires-clause-address : goal.after_slash4-requires-clause-address
after_slash4-requires-clause-address c =
    ended4 _ c.walk4-reach.result.place c.walk4-reach.result.place.number _ refl c.walk4-reach.ensures.walked (sym c.in-Some.ensures)
