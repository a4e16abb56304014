use Rattle.list_pack.proofs.Valued.{full_fits_behind, full_is, packed_parts, packed_is}
use Rattle.list_pack.proofs.segments.value_of.Goals as goal

pub full_value-requires : goal.full_value-requires
full_value-requires c =
    full_fits_behind c.args.net.now c.args.container.now c.in-Full.first c.in-Full.more c.as_slice.result.now c.block_bits.result
    c.block_of-block.result c.requires c.in-Full.is c.block_bits.ensures c.block_of-block.ensures.value c.as_slice.ensures

pub returns-in-Full : goal.returns-in-Full
returns-in-Full c =
    full_is c.args.net.now c.args.container.now c.in-Full.first c.in-Full.more c.as_slice.result.now c.full_value.result.value
    c.block_bits.result c.block_of-block.result c.in-Full.is c.block_bits.ensures c.block_of-block.ensures.value c.as_slice.ensures
    c.full_value.ensures

pub packed_value-requires-clause-csid : goal.packed_value-requires-clause-csid
packed_value-requires-clause-csid c =
    (packed_parts c.args.net.now c.args.container.now c.in-Packed.first c.in-Packed.more c.as_slice-in-Some.result.now c.in-Some.block
    c.requires c.in-Packed.is c.in-Some.ensures.value c.as_slice-in-Some.ensures).csid

pub packed_value-requires-clause-long : goal.packed_value-requires-clause-long
packed_value-requires-clause-long c =
    (packed_parts c.args.net.now c.args.container.now c.in-Packed.first c.in-Packed.more c.as_slice-in-Some.result.now c.in-Some.block
    c.requires c.in-Packed.is c.in-Some.ensures.value c.as_slice-in-Some.ensures).long

pub returns-in-Some : goal.returns-in-Some
returns-in-Some c =
    packed_is c.args.net.now c.args.container.now c.in-Packed.first c.in-Packed.more c.as_slice-in-Some.result.now
    c.packed_value.result.value c.in-Some.block c.in-Packed.is c.in-Some.ensures.value c.as_slice-in-Some.ensures c.packed_value.ensures
