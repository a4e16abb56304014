use Rattle.std.proofs.Common.{arith}
use Rattle.v6_addr.proofs.Texts4.{written4}
use Rattle.v6_addr.proofs.text4.write_addr4.Goals as goal

pub returns : goal.returns
returns c =
    written4 c.args.a.value _ _ _ _ _ _ _ _ _ _ _ _ c.field.ensures.value c.field-2.ensures.value c.field-3.ensures.value
    c.field-4.ensures.value
    c.requires.empty c.push_number.ensures.bytes (c.push.ensures.ascii (omega arith)) c.push_number-2.ensures.bytes
    (c.push-2.ensures.ascii (omega arith)) c.push_number-3.ensures.bytes (c.push-3.ensures.ascii (omega arith))
    c.push_number-4.ensures.bytes
