use Rattle.std.proofs.Common.{◌+◌, ◌-◌, ◌≡◌, ℕ, refl, subst, arith}
use Rattle.list_encoder.proofs.Settling.{Tabled, tabled_none, tabled_more, first_order}
use Rattle.list_encoder.proofs.Leasting.{are_least}
use Rattle.list_encoder.proofs.SearchTables.{sound_few}
use Rattle.list_encoder.proofs.least_costs.settle_all.Goals as goal

pub loop-done-init : goal.loop-done-init
loop-done-init g c =
    tabled_none (g.L.Legs.seen c.args.legs.now) c.args.cells.now _ _ c.args.table.now c.requires.cells
    (omega (arith, c.steps-steps.ensures.value)) refl
    c.requires.empty

pub settle-requires-clause-first : goal.settle-requires-clause-first
settle-requires-clause-first g c =
    first_order c.args.cells.now (c.steps-steps.result - c.loop-done.done) (c.steps-steps.result + 1 - c.loop-done.done)
    c.first_of-first.result
    c.loop-done.later (omega arith) c.first_of-first.ensures c.loop-done.invariant.first

pub loop-done-preserved : goal.loop-done-preserved
loop-done-preserved g c =
    let same : c.steps-steps.result - c.loop-done.done ≡ c.steps-steps.result + 1 - (c.loop-done.done + 1) = omega arith in
    subst (λ (p : ℕ). Tabled (g.L.Legs.seen c.args.legs.now) c.args.cells.now p c.first_of-first.result c.settle.new.table) same
    (tabled_more (g.L.Legs.seen c.args.legs.now) c.steps-steps.ensures.laws c.args.cells.now (c.steps-steps.result + 1 - c.loop-done.done)
    (c.steps-steps.result - c.loop-done.done) c.first_of-first.result c.loop-done.later c.loop-done.table c.settle.new.table
    c.first_of-first.ensures
    c.loop-done.invariant c.in_ok-settle.ensures)

pub returns-clause-few : goal.returns-clause-few
returns-clause-few g c =
    sound_few (g.L.Legs.seen c.args.legs.now) c.steps-steps.ensures.laws c.args.cells.now c.loop-done.table c.requires.cells.few
    c.loop-done.invariant.sound

pub returns-clause-least : goal.returns-clause-least
returns-clause-least g c =
    are_least (g.L.Legs.seen c.args.legs.now) c.steps-steps.ensures.laws c.args.cells.now c.requires.cells
    (c.steps-steps.result + 1 - c.loop-done.done) c.loop-done.later c.loop-done.table (omega arith) c.loop-done.invariant
