use Rattle.std.proofs.Common.{sym, ◌∙◌, ap, Vec, ℕ}
use Rattle.leg_table.proofs.Placing.{sids_below_zero, row_in, row_out}
use Rattle.leg_table.proofs.strict_rows.row_of.Goals as goal
use Rattle.leg_table.proofs.strict_rows.row_of.Goals.{then-is_sid_at+in_ok-insert, else-is_sid_at}

pub loop-n-init : goal.loop-n-init
loop-n-init c = c.new-row.ensures.items ∙ sym (sids_below_zero c.args.net.now c.args.intent.now c.args.position)

pub loop-n-preserved : goal.loop-n-preserved
loop-n-preserved c =
    elim c.if-is_sid_at.branch [
      | then-is_sid_at+in_ok-insert w ↦
          row_in c.args.net.now c.args.intent.now c.args.position c.loop-n.n w.place_of-at.result c.loop-n.row.items
          c.if-is_sid_at.row.items c.loop-n.invariant
          (sym c.is_sid_at.ensures ∙ w.if-is_sid_at.true)
          (rw w.as_slice.ensures.value at w.place_of-at.ensures.value)
          (ap (λ (v : Vec ℕ _). v.items) w.row-is ∙ w.in_ok-insert.ensures.items)
      | else-is_sid_at w ↦
          row_out c.args.net.now c.args.intent.now c.args.position c.loop-n.n c.loop-n.row.items c.if-is_sid_at.row.items c.loop-n.invariant
          (sym c.is_sid_at.ensures ∙ w.if-is_sid_at.false) (ap (λ (v : Vec ℕ _). v.items) w.row-is)
    ]
