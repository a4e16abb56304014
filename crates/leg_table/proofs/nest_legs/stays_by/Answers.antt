use Rattle.std.proofs.Common.{ℕ, ◌==◌, sym, ◌∙◌, ap}
use Rattle.std.specs.Prelude.{not}
use Rattle.std.specs.List.{list_any}
use Rattle.v6_addr.specs.Address.{field_of}
use Rattle.leg_table.proofs.Stays.{sid_there, none_tell, unit_fits, units_tell}
use Rattle.leg_table.proofs.nest_legs.stays_by.Goals as goal

pub returns-then-is_empty : goal.returns-then-is_empty
returns-then-is_empty c =
    let s = sid_there c.args.net.now.sids c.args.sid c.requires.is_there in
    let t = sid_there c.args.net.now.sids c.args.next c.requires.next_there in
    none_tell c.args.net.now c.keeps_rules.ensures.network c.args.sid s.0 s.1 c.args.units.now (c.requires.units s.0 s.1) c.args.next
    t.0 t.1 (sym c.is_empty.ensures ∙ c.if-is_empty.true)

pub field-unit-requires-clause-within : goal.field-unit-requires-clause-within
field-unit-requires-clause-within c =
    unit_fits c.args.net.now c.keeps_rules.ensures.network c.args.sid c.sid-2.result.now c.sid-2.ensures c.args.units.now
    (c.requires.units c.sid-2.result.now c.sid-2.ensures) (sym c.is_empty.ensures ∙ c.if-is_empty.false)

pub returns : goal.returns
returns c =
    let unit = c.field-unit.ensures.value ∙ ap (λ (v : ℕ). field_of v c.sid-2.result.now.block_len 16) c.value.ensures.value in
    ap not c.is_among.ensures
    ∙ ap (λ (unit : ℕ). not (list_any (λ (u : ℕ). u == unit) c.args.units.now)) unit
    ∙ units_tell c.args.net.now c.keeps_rules.ensures.network c.args.sid c.sid-2.result.now c.sid-2.ensures c.args.units.now
    (c.requires.units c.sid-2.result.now c.sid-2.ensures) c.args.next c.sid.result.now c.sid.ensures
