use Rattle.std.proofs.Common.{length, Some, None, sym, ◌∙◌, ap, subst, arith}
use Rattle.walk_rules.specs.declared.place.Place.{Place}
use Rattle.walk_rules.specs.Relation.{IsPlace}
use Rattle.loose_legs.proofs.OnwardRows.{first_start, row_from}
use Rattle.loose_legs.proofs.onwards.first_onwards.Goals as goal

pub onwards_from-requires-clause-is_place : goal.onwards_from-requires-clause-is_place
onwards_from-requires-clause-is_place c =
    subst (IsPlace c.args.net.now) (sym c.headend_place-place.ensures) (c.requires.steps.headend, tt)

pub returns : goal.returns
returns c =
    row_from c.args.net.now c.args.intent.now c.args.steps.now 0 (length c.args.steps.now) None _ c.in_ok-row.row (omega arith)
    (first_start c.args.net.now c.args.intent.now c.args.steps.now ∙ ap (λ (p : Place). Some p) (sym c.headend_place-place.ensures))
    c.in_ok-row.ensures
