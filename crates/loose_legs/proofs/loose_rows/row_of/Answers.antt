use Rattle.std.proofs.Common.{ℕ, Vec, true, false, ap, ◌∙◌, sym}
use Rattle.loose_legs.proofs.LooseTablePositions.{at_stands, row_in, row_out, sids_below_zero}
use Rattle.loose_legs.proofs.loose_rows.row_of.Goals as goal
use Rattle.loose_legs.proofs.loose_rows.row_of.Goals.{else-is_sid_at, then-is_sid_at+in_ok-insert}

pub loop-n-init : goal.loop-n-init
loop-n-init c = c.new-row.ensures.items ∙ sym (sids_below_zero c.args.net.now c.args.intent.now c.args.steps.now c.args.position)

pub loop-n-preserved : goal.loop-n-preserved
loop-n-preserved c =
    let net = c.args.net.now in
    let intent = c.args.intent.now in
    let steps = c.args.steps.now in
    elim c.if-is_sid_at.branch [
      | then-is_sid_at+in_ok-insert w ↦
          row_in net intent steps c.args.position c.loop-n.n w.place_of-at.result c.loop-n.row.items c.if-is_sid_at.row.items
          c.loop-n.invariant
          (at_stands net intent steps c.args.position c.args.stands c.loop-n.n c.is_sid_at.result true c.requires.stands
          c.is_sid_at.ensures w.if-is_sid_at.true)
          (rw w.as_slice.ensures.value at w.place_of-at.ensures.value)
          (ap (λ (v : Vec ℕ _). v.items) w.row-is ∙ w.in_ok-insert.ensures.items)
      | else-is_sid_at w ↦
          row_out net intent steps c.args.position c.loop-n.n c.loop-n.row.items c.if-is_sid_at.row.items c.loop-n.invariant
          (at_stands net intent steps c.args.position c.args.stands c.loop-n.n c.is_sid_at.result false c.requires.stands
          c.is_sid_at.ensures w.if-is_sid_at.false) (ap (λ (v : Vec ℕ _). v.items) w.row-is)
    ]
