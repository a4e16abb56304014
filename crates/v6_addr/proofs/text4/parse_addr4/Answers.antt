use Rattle.std.proofs.Common.{arith}
use Rattle.v6_addr.proofs.Texts4.{read_address4, refused_end4, refused_early4}
use Rattle.v6_addr.proofs.text4.parse_addr4.Goals as goal

pub returns-then-reach-text : goal.returns-then-reach-text
returns-then-reach-text c =
    (refused_early4 _ _ c.walk4-reach.ensures.longest c.if-reach-text.true, c.walk4-reach.ensures.longest)

pub returns-in-Some : goal.returns-in-Some
returns-in-Some c = read_address4 _ _ _ _ (omega arith) c.walk4-reach.ensures.walked c.in-Some.ensures

pub returns-in-None : goal.returns-in-None
returns-in-None c =
    (refused_end4 _ _ _ (omega arith) c.walk4-reach.ensures.walked c.in-None.ensures, c.walk4-reach.ensures.longest)
