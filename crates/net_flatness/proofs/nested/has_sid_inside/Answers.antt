use Rattle.std.proofs.Common.{refl}
use Rattle.std.proofs.lemmas.Option.{slice_get_read}
use Rattle.net_model.specs.NetworkTerms.{network_of}
use Rattle.net_flatness.specs.Search.{NestsWell}
use Rattle.net_flatness.proofs.SearchLemmas.{first_holds_more, all_contained}
use Rattle.net_flatness.proofs.nested.has_sid_inside.Goals as goal

pub loop-s-preserved : goal.loop-s-preserved
loop-s-preserved c =
    first_holds_more (NestsWell (network_of c.args.parts.now)) c.args.sids.now c.loop-s.s-index c.s-item.result
    (slice_get_read c.args.sids.now _ c.loop-s.s-index c.s-item.result refl c.loop-s-test.true c.s-item.is)
    (c.is_sid_inside.ensures c.if-is_sid_inside.false)
    c.loop-s.invariant

pub returns : goal.returns
returns c =
    all_contained (NestsWell (network_of c.args.parts.now)) c.args.sids.now c.loop-s.s-index c.loop-s-test.false c.loop-s.invariant
