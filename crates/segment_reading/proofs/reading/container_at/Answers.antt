use Rattle.segment_reading.proofs.Found.{packed_result}
use Rattle.segment_reading.proofs.reading.container_at.Goals as goal

pub returns-in_ok-prefixes-in-Some : goal.returns-in_ok-prefixes-in-Some
returns-in_ok-prefixes-in-Some c =
    packed_result c.args.net.now c.args.asked.now c.in-Some.block c.args.address.value c.as_slice.result.now
    c.in_ok-prefixes-in-Some.prefixes.items c.packed_of.result c.in-Some.is c.as_slice.ensures.value c.in_ok-prefixes-in-Some.ensures
    c.packed_of.ensures
