use Rattle.std.proofs.Common.{◌+◌, ◌≡◌, List, Option, Some, None, drop, get_or, map, sym, ◌∙◌, ap, subst, arith}
use Rattle.std.specs.Option.{option_map}
use Rattle.v6_addr.specs.declared.address.Addr.{Addr}
use Rattle.list_pack.specs.declared.types.Container.{Container}
use Rattle.list_pack.specs.SegmentValues.{addr_value}
use Rattle.list_pack.specs.SidLists.{sid_block}
use Rattle.segment_reading.proofs.ListReads.{ListReads, addr_read, list_lost, list_next, list_whole}
use Rattle.segment_reading.proofs.reading.list_at.Goals as goal

pub returns-in_default : goal.returns-in_default
returns-in_default c = λ list at.
    let segments = c.args.segments.now in
    let i = c.loop-address.address-index in
    list_lost c.args.net.now (map addr_value segments) c.loop-address.list.items (option_map sid_block c.loop-address.asked) segments i
    (get_or segments i (record { value = 0 })) (addr_read segments i (omega arith)) c.loop-address.invariant.reads
    (λ d is. sym c.in_default.is ∙ c.in_ok-container.ensures d is) list None at

pub loop-address-preserved : goal.loop-address-preserved
loop-address-preserved c =
    let segments = c.args.segments.now in
    let i = c.loop-address.address-index in
    let next = option_map sid_block c.asked_behind-asked.result in
    record {
      reads = subst (λ (read : List Container). ListReads c.args.net.now (map addr_value segments) read next
          (map addr_value (drop (i + 1) segments))) (sym c.in_ok-push.ensures.items)
          (list_next c.args.net.now (map addr_value segments) c.loop-address.list.items (option_map sid_block c.loop-address.asked) segments i
          (get_or segments i (record { value = 0 })) (addr_read segments i (omega arith)) c.loop-address.invariant.reads c.in-Some.container
          next (λ d is. sym c.in-Some.is ∙ c.in_ok-container.ensures d is) c.asked_behind-asked.ensures.value);
      sized = c.asked_behind-asked.ensures.sized;
    }

pub returns : goal.returns
returns c = λ list at.
    ap (λ (l : List Container). Some l) c.new.ensures
    ∙ list_whole c.args.net.now (map addr_value c.args.segments.now) c.loop-address.list.items (option_map sid_block c.loop-address.asked)
    c.args.segments.now c.loop-address.address-index (omega arith) c.loop-address.invariant.reads list at
