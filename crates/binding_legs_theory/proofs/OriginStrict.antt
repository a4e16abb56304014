-- Without binding SIDs legs are the strict ones.
use Rattle.std.proofs.Common.{◌≡◌, ℕ, zero, Bool, true, false, ◌==◌, ◌&&◌, not, nat_le, if◌then◌else◌, List, drop, length, slice_get, Option, Some, None, refl, sym, ap, ◌∙◌, arith, eqb-true}
use Rattle.std.specs.Prelude.{is_some}
use Rattle.std.specs.Option.{option_and_then, option_map}
use Rattle.std.proofs.lemmas.Bool.{false≢true, le-leb}
use Rattle.srv6_rules.specs.declared.sid.SidEntry.{SidEntry}
use Rattle.srv6_rules.specs.Behaviours.{behaviour_policy, goes_on}
use Rattle.net_model.specs.declared.parts.Block.{Block}
use Rattle.net_model.specs.Network.{Network}
use Rattle.intent_reader.specs.declared.intent.Intent.{Intent}
use Rattle.leg_table.specs.StrictLegs.{finish_behind, leg_behind, place_behind}
use Rattle.leg_table.specs.StrictLegsTerms.{finish_of, is_origin, leg_of, transit_to}
use Rattle.leg_table.specs.Realizes.{headend_place}
use Rattle.leg_table.specs.Transits.{Transit, transit_of}
use Rattle.leg_table.specs.PositionSids.{is_binding, is_last, is_middle, is_sid_at, sid_address, sid_binds, sid_goes_on}
use Rattle.leg_table.specs.StrictTable.{shape_by, shape_of}
use Rattle.binding_spec.specs.declared.origin.Origin.{Origin}
use Rattle.binding_spec.specs.Origins.{binding_transit, leads_on, transit_from, sid_leads_on, origin_behind, origin_onward}
use Rattle.binding_spec.specs.BindingLegsValue.{binding_finish, binding_leg, binding_shape}

-- ---- which SIDs are middle

leads_by : (s : SidEntry) (o : Option ℕ) → is_some o ≡ false → goes_on s ≡ (goes_on s && not (is_some o))
leads_by s None none = by_test (goes_on s)
  where
    by_test : (b : Bool) → b ≡ (b && true)
    by_test true = refl
    by_test false = refl
leads_by s (Some n) none = absurd (false≢true (sym none))

same_leads : (o : Option SidEntry) → sid_binds o ≡ false → sid_leads_on o ≡ sid_goes_on o
same_leads None none = refl
same_leads (Some s) none = leads_by s (behaviour_policy s.behaviour) none

shape_by_law : (blocks : List Block) (o : Option SidEntry) (middle : Bool) → middle ≡ sid_goes_on o
    → record (shape_by blocks o) { middle = middle } ≡ shape_by blocks o
shape_by_law blocks None middle e = ap (λ (b : Bool). record (shape_by blocks None) { middle = b }) e
shape_by_law blocks (Some s) middle e = ap (λ (b : Bool). record (shape_by blocks (Some s)) { middle = b }) e

module _ (net : Network) (unbound : (n : ℕ) → is_binding net n ≡ false) where
  leads_middle : (n : ℕ) → leads_on net n ≡ is_middle net n
  leads_middle n = same_leads (slice_get net.sids n) (unbound n)

  pub shape_strict : (n : ℕ) → binding_shape net n ≡ shape_of net n
  shape_strict n = shape_by_law net.blocks (slice_get net.sids n) (leads_on net n) (leads_middle n)

  -- ---- transits

  module _ (intent : Intent) (next : ℕ) where
    abbrev on : Origin → Option Transit
    on = transit_from net intent next

    transit_at : (position v : ℕ) (a b : Bool) (o : Option SidEntry) → sid_binds o ≡ false
        → option_and_then on (if a && b then origin_behind net intent position v o else None)
        ≡ (if a && (b && sid_goes_on o)
        then option_and_then (transit_of net (sid_address net next) (drop position intent.steps)) (option_map (place_behind v) o) else None)
    transit_at position v a b None none = by_tests a b
      where
        by_tests : (a b : Bool)
            → option_and_then on (if a && b then None else None) ≡ (if a && (b && false) then None else None)
        by_tests true true = refl
        by_tests true false = refl
        by_tests false b = refl
    transit_at position v a b (Some s) none = by_policy (behaviour_policy s.behaviour) none
      where
        by_policy : (p : Option ℕ) → is_some p ≡ false
            → option_and_then on (if a && b then (if goes_on s then origin_onward net intent position v s p else None) else None)
            ≡ (if a && (b && (goes_on s && not (is_some p)))
            then transit_of net (sid_address net next) (drop position intent.steps) (place_behind v s) else None)
        by_policy (Some number) e = absurd (false≢true (sym e))
        by_policy None e = by_tests a b (goes_on s)
          where
            by_tests : (a b g : Bool)
                → option_and_then on (if a && b then (if g then origin_onward net intent position v s None else None) else None)
                ≡ (if a && (b && (g && true))
                then transit_of net (sid_address net next) (drop position intent.steps) (place_behind v s) else None)
            by_tests true true true = refl
            by_tests true true false = refl
            by_tests true false g = refl
            by_tests false b g = refl

    transit_strict : (position : ℕ) (via : Option ℕ)
        → binding_transit net intent position via next
        ≡ (if is_origin net intent position via then transit_to net intent position via next else None)
    transit_strict position None = by_zero (position == 0) refl
      where
        by_zero : (b : Bool) → (position == 0) ≡ b
            → option_and_then on (if b then Some (record { place = headend_place intent; done = 0 }) else None)
            ≡ (if nat_le position (length intent.steps) && b then transit_to net intent position None next else None)
        by_zero true e =
            let zero : position ≡ 0 = eqb-true position 0 e in
            let low : nat_le position (length intent.steps) ≡ true = le-leb position (length intent.steps) (omega (arith, zero)) in
            ap (λ (n : ℕ). transit_of net (sid_address net next) (drop n intent.steps) (headend_place intent)) (sym zero)
            ∙ ap (λ (c : Bool). if c && true then transit_to net intent position None next else None) (sym low)
        by_zero false e = by_low (nat_le position (length intent.steps))
          where
            by_low : (c : Bool) → None ≡ (if c && false then transit_to net intent position None next else None)
            by_low true = refl
            by_low false = refl
    transit_strict position (Some v) =
        transit_at position v (nat_le position (length intent.steps)) (is_sid_at net intent position v) (slice_get net.sids v) (unbound v)

    -- where nothing is behind no transit
    by_tests_law : {R : Type 0} (f : Option Transit → Option R) → f None ≡ None → (origins last : Bool) (r : Option Transit)
        → (if last then f (if origins then r else None) else None) ≡ (if origins && last then f r else None)
    by_tests_law f none true true r = refl
    by_tests_law f none true false r = refl
    by_tests_law f none false true r = none
    by_tests_law f none false false r = refl

    pub leg_strict : (position : ℕ) (via : Option ℕ) → binding_leg net intent position via next ≡ leg_of net intent position via next
    leg_strict position via =
        ap (λ r. if leads_on net next then leg_behind net (length intent.steps) next r else None) (transit_strict position via)
        ∙ ap (λ (b : Bool). if b
        then leg_behind net (length intent.steps) next
        (if is_origin net intent position via then transit_to net intent position via next else None) else None) (leads_middle next)
        ∙ by_tests_law (leg_behind net (length intent.steps) next) refl (is_origin net intent position via) (is_middle net next)
        (transit_to net intent position via next)

    pub finish_strict : (position : ℕ) (via : Option ℕ)
        → binding_finish net intent position via next ≡ finish_of net intent position via next
    finish_strict position via =
        ap (λ r. if is_last net intent.inner next then finish_behind net next r else None) (transit_strict position via)
        ∙ by_tests_law (finish_behind net next) refl (is_origin net intent position via) (is_last net intent.inner next)
        (transit_to net intent position via next)
