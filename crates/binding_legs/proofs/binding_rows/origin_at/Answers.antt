use Rattle.std.proofs.Common.{◌≡◌, ◌≤◌, length, Option, sym, ap, ◌∙◌, subst}
use Rattle.std.specs.Prelude.{IfOk}
use Rattle.leg_table.specs.PositionSids.{is_sid_at}
use Rattle.leg_table.specs.StrictTableTerms.{LegTable}
use Rattle.binding_spec.specs.declared.origin.Origin.{Origin}
use Rattle.binding_legs.proofs.OriginRows.{origin_at_law, no_origin_at}
use Rattle.binding_legs.proofs.binding_rows.origin_at.Goals as goal

pub has_sid-requires : goal.has_sid-requires
has_sid-requires c = subst (λ (t : LegTable). c.args.position ≤ length t.intent.steps) (sym c.requires.strict) c.requires.within

pub returns-then-not-has_sid : goal.returns-then-not-has_sid
returns-then-not-has_sid c =
    no_origin_at c.args.net.now c.args.intent.now c.args.position c.args.sid
    (ap (λ (t : LegTable). is_sid_at t.net t.intent c.args.position c.args.sid) (sym c.requires.strict)
    ∙ sym c.has_sid.ensures ∙ c.if-not-has_sid.true)

pub origin_behind-requires-clause-at : goal.origin_behind-requires-clause-at
origin_behind-requires-clause-at c =
    ap (λ (t : LegTable). is_sid_at t.net t.intent c.args.position c.args.sid) (sym c.requires.strict)
    ∙ sym c.has_sid.ensures ∙ c.if-not-has_sid.false

pub returns : goal.returns
returns c =
    subst (λ (o : Option Origin). IfOk c.origin_behind.result (λ origin. origin ≡ o))
    (origin_at_law c.args.net.now c.args.intent.now c.args.position c.args.sid c.requires.within
    (ap (λ (t : LegTable). is_sid_at t.net t.intent c.args.position c.args.sid) (sym c.requires.strict)
    ∙ sym c.has_sid.ensures ∙ c.if-not-has_sid.false))
    c.origin_behind.ensures
