use Rattle.std.proofs.Common.{ℕ, ◌<◌, ◌≤◌, ◌+◌, length, List, sym, ◌∙◌, ap, subst, arith, length-append}
use Rattle.v6_addr.specs.Address.{PrefixValue}
use Rattle.segment_reading.proofs.PackedSteps.{PackedReads, packed_first, packed_whole, place_ends, place_lost, place_next}
use Rattle.segment_reading.proofs.packed.packed_at.Goals as goal

pub loop-place-init : goal.loop-place-init
loop-place-init c =
    record {
      reads = subst (PackedReads c.args.net.now c.args.block.now c.args.address.value) (sym c.new-prefixes.ensures.items)
          (packed_first c.args.net.now c.args.block.now c.args.address.value);
      count = ap length c.new-prefixes.ensures.items;
    }

pub returns-then-csid-eq0 : goal.returns-then-csid-eq0
returns-then-csid-eq0 c =
    place_ends c.args.net.now c.args.block.now c.args.address.value c.requires.sized c.loop-place.prefixes.items
    c.loop-place.invariant.reads c.loop-place.place c.csid_at-csid.result c.loop-place.invariant.count c.csid_at-csid.ensures
    (omega arith) c.if-csid-eq0.true

pub returns-in_default : goal.returns-in_default
returns-in_default c =
    place_lost c.args.net.now c.args.block.now c.args.address.value c.requires.sized c.loop-place.prefixes.items
    c.loop-place.invariant.reads c.loop-place.place c.csid_at-csid.result c.loop-place.invariant.count c.csid_at-csid.ensures
    (omega arith) c.in_default.ensures

pub loop-place-preserved : goal.loop-place-preserved
loop-place-preserved c =
    let items = c.in_ok-push.ensures.items in
    record {
      reads = place_next c.args.net.now c.args.block.now c.args.address.value c.requires.sized c.loop-place.prefixes.items
          c.loop-place.invariant.reads c.loop-place.place c.csid_at-csid.result c.loop-place.invariant.count c.csid_at-csid.ensures
          (omega arith) c.push.new.self.items c.in-Some.prefix c.if-csid-eq0.false c.in-Some.ensures items;
      count = ap length items ∙ length-append c.loop-place.prefixes.items _ ∙ ap (λ (n : ℕ). n + 1) c.loop-place.invariant.count;
    }
