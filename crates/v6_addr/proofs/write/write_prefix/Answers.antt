use Rattle.std.proofs.Common.{◌∙◌, arith}
use Rattle.v6_addr.proofs.AddressWriting.{written_prefix}
use Rattle.v6_addr.proofs.write.write_prefix.Goals as goal

pub returns : goal.returns
returns c =
    written_prefix c.args.p.now _ _ _ _ _ _ _ c.value.ensures.value c.len.ensures.len (c.as_str.ensures.value
    ∙ c.write_addr.ensures) c.requires c.push_str.ensures.bytes
    (c.push.ensures.ascii (omega arith)) c.push_length.ensures
