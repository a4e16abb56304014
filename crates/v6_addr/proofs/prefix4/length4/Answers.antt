use Rattle.v6_addr.proofs.PrefixFaults4.{no_length4, long_length4, length4_is}
use Rattle.v6_addr.proofs.prefix4.length4.Goals as goal

pub returns-in-None : goal.returns-in-None
returns-in-None c = no_length4 _ c.in-None.ensures.value

pub returns-then-len-gt32 : goal.returns-then-len-gt32
returns-then-len-gt32 c = long_length4 _ _ c.in-Some.ensures.value c.if-len-gt32.true

pub returns-else-len-gt32 : goal.returns-else-len-gt32
returns-else-len-gt32 c = (c.if-len-gt32.false, length4_is _ _ c.in-Some.ensures.value)
