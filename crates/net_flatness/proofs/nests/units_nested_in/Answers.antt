use Rattle.std.proofs.Common.{List, refl, sym, ap, ◌∙◌, subst, ℕ}
use Rattle.std.proofs.lemmas.Option.{slice_get_read}
use Rattle.net_model.specs.Network.{Network}
use Rattle.net_flatness.specs.Units.{AreFirstUnits}
use Rattle.net_flatness.proofs.UnitLemmas.{first_none, first_units_more, unit_fits_in, units_are_all}
use Rattle.net_flatness.proofs.nests.units_nested_in.Goals as goal

pub loop-inner-init : goal.loop-inner-init
loop-inner-init c =
    subst (λ (us : List ℕ). AreFirstUnits c.as_slice-sids.result.now c.sid-outer.result.now 0 us) (sym c.new-units.ensures.items)
    (first_none c.as_slice-sids.result.now c.sid-outer.result.now)

pub push_unit-requires : goal.push_unit-requires
push_unit-requires c inside =
    unit_fits_in c.args.net.now c.args.sid c.loop-inner.inner-index c.sid-outer.result.now c.inner-item.result c.as_slice-sids.result.now
    c.keeps_rules.ensures.network c.requires.flat c.sid-outer.ensures
    (c.as_slice-sids.ensures.value ∙ ap (λ (n : Network). n.sids) c.parts.ensures)
    (slice_get_read c.as_slice-sids.result.now _ c.loop-inner.inner-index c.inner-item.result refl c.loop-inner-test.true c.inner-item.is)
    inside

pub loop-inner-preserved : goal.loop-inner-preserved
loop-inner-preserved c =
    first_units_more c.as_slice-sids.result.now c.sid-outer.result.now c.inner-item.result c.loop-inner.inner-index c.loop-inner.units.items
    c.push_unit.new.units.items
    (slice_get_read c.as_slice-sids.result.now _ c.loop-inner.inner-index c.inner-item.result refl c.loop-inner-test.true c.inner-item.is)
    c.loop-inner.invariant c.in_ok-push_unit.ensures

pub returns : goal.returns
returns c s at =
    units_are_all c.args.net.now c.args.sid c.sid-outer.result.now s c.as_slice-sids.result.now c.loop-inner.units.items
    c.loop-inner.inner-index c.keeps_rules.ensures.network c.requires.flat c.sid-outer.ensures
    (c.as_slice-sids.ensures.value ∙ ap (λ (n : Network). n.sids) c.parts.ensures) c.loop-inner-test.false c.loop-inner.invariant at
