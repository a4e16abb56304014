use Rattle.std.proofs.Common.{length, Some, eqb, sym, ap, ◌∙◌, rules, tests}
use Rattle.std.specs.Slice.Iter.{split_rest, split_done, split_callee}
use Rattle.std.proofs.lemmas.Iterator.Splits.{YieldsList-from_slice_split}
use Rattle.std.proofs.lemmas.Iterator.Consumers.{YieldsList-turn, YieldsList-end}
use Rattle.v6_addr.proofs.AddressReading.{groups_read, groups_refused, groups_too_many, counted, groups_more, groups_of_no_text}
use Rattle.std.proofs.lemmas.Bool.{eqb-true}
use Rattle.v6_addr.specs.Text.{groups_of_texts}
use Rattle.v6_addr.proofs.groups.parse_groups.Goals as goal

pub returns-then-is_empty : goal.returns-then-is_empty
returns-then-is_empty c =
    groups_of_no_text c.args.text.now (sym c.is_empty.ensures ∙ c.if-is_empty.true) ∙ ap Some (sym c.new-groups.ensures)

pub loop-piece-init : goal.loop-piece-init
unfolding groups_of_texts
loop-piece-init c = ap Some (sym c.new-groups.ensures)

pub returns-in_err-group : goal.returns-in_err-group
returns-in_err-group c =
    let e = c.into_iter-piece-iterator.ensures.into_iter_gives in
    let s = c.split-piece-items.ensures in
    let turn = YieldsList-turn (YieldsList-from_slice_split _ (λ b. eqb b 58) c.args.text.now (ap split_rest e ∙ s.rest) (ap split_done e
    ∙ s.done) (ap split_callee e ∙ s.closure) (λ x b q k. search (rules, tests))) c.loop-piece.yielded _ c.loop-piece.yielded_by _ _
    c.in-Some.piece c.in-Some.is c.next.ensures.steps in
    rw c.from_residual.ensures (groups_refused _ _ _ (sym c.is_empty.ensures ∙ c.if-is_empty.false) turn c.in_err-group.ensures)

pub returns-then-is_full : goal.returns-then-is_full
returns-then-is_full c =
    let e = c.into_iter-piece-iterator.ensures.into_iter_gives in
    let s = c.split-piece-items.ensures in
    let turn = YieldsList-turn (YieldsList-from_slice_split _ (λ b. eqb b 58) c.args.text.now (ap split_rest e ∙ s.rest) (ap split_done e
    ∙ s.done) (ap split_callee e ∙ s.closure) (λ x b q k. search (rules, tests))) c.loop-piece.yielded _ c.loop-piece.yielded_by _ _
    c.in-Some.piece c.in-Some.is c.next.ensures.steps in
    let eight = eqb-true _ _ (sym c.is_full.ensures.value ∙ c.if-is_full.true) in
    groups_too_many c.args.text.now (length c.loop-piece.yielded) (sym c.is_empty.ensures
    ∙ c.if-is_empty.false) (sym (counted (λ piece. piece.now) _ _ c.loop-piece.invariant) ∙ eight) turn.0

pub loop-piece-preserved : goal.loop-piece-preserved
loop-piece-preserved c = groups_more (λ piece. piece.now) _ c.in-Some.piece _ _ _ c.loop-piece.invariant c.in_ok-group.ensures
    c.push.ensures.items

pub returns : goal.returns
returns c =
    let e = c.into_iter-piece-iterator.ensures.into_iter_gives in
    let s = c.split-piece-items.ensures in
    let end = YieldsList-end (YieldsList-from_slice_split _ (λ b. eqb b 58) c.args.text.now (ap split_rest e ∙ s.rest) (ap split_done e
    ∙ s.done) (ap split_callee e ∙ s.closure) (λ x b q k. search (rules, tests))) c.loop-piece.yielded _ c.loop-piece.yielded_by _ _
    c.in-None.is c.next.ensures.steps in
    groups_read _ _ _ (sym c.is_empty.ensures ∙ c.if-is_empty.false) c.loop-piece.invariant end.0
