use Rattle.std.proofs.Common.{◌≡◌, true, ◌∙◌, ap, map}
use Rattle.list_pack.specs.SegmentValues.{addr_value}
use Rattle.list_pack.proofs.PublicLaws.{flat_lists, legal_flat}
use Rattle.segment_reading.proofs.Found.{spelled_by}
use Rattle.segment_reading.proofs.reading.is_spelled.Goals as goal

pub values-requires-clause-flat : goal.values-requires-clause-flat
values-requires-clause-flat c =
    let legal : c.is_legal.result ≡ true = cc in
    legal_flat c.args.net.now c.args.list.now (flat_lists c.args.net.now c.requires.network c.requires.flat) (c.is_legal.ensures.0 legal)

pub returns : goal.returns
returns c =
    let legal : c.is_legal.result ≡ true = cc in
    spelled_by c.args.net.now c.args.segments.now c.as_slice.result.now c.args.list.now
    (ap (map addr_value) c.as_slice.ensures.value ∙ c.in_ok-values.ensures) c.are_same.result c.are_same.ensures
    (c.is_legal.ensures.0 legal)
