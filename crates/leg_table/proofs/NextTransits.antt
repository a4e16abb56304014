-- Transits to the next SID that is executed: a leg and a finish by look-ups, taken apart.
use Rattle.std.proofs.Common.{◌≡◌, ℕ, zero, suc, ◌≤◌, Bool, true, false, ◌==◌, ◌&&◌, if◌then◌else◌, List, [], ◌∷◌, length, drop, Option, Some, None, slice_get, refl, ◌∙◌, ap, arith, eqb-true}
use Rattle.std.specs.Option.{option_map, option_and_then}
use Rattle.std.proofs.lemmas.Bool.{false≢true, and_parts, and_from, eq-eqb}
use Rattle.srv6_rules.specs.declared.family.Family.{Family}
use Rattle.srv6_rules.specs.declared.sid.SidEntry.{SidEntry}
use Rattle.net_model.specs.Network.{Network}
use Rattle.walk_rules.specs.declared.place.Place.{Place}
use Rattle.intent_reader.specs.declared.intent.Step.{Step}
use Rattle.intent_reader.specs.declared.intent.Step.TheVariants.{Links, Function, Reach}
use Rattle.intent_reader.specs.declared.intent.Intent.{Intent}
use Rattle.list_pack.specs.declared.types.Leg.{Leg}
use Rattle.leg_table.specs.StepMatching.{left_after, left_after_function}
use Rattle.leg_table.specs.WalkTrace.{is_titled}
use Rattle.leg_table.specs.Transits.{Transit, transit_of}
use Rattle.leg_table.specs.PositionSids.{takes_step, hands_over, sid_goes_on, is_middle, sid_exposes, is_last, sid_address}
use Rattle.leg_table.specs.StrictLegs.{place_from, left_behind, leg_with, leg_behind, if_none_left, finish_behind}
use Rattle.leg_table.specs.StrictLegsTerms.{is_origin, transit_to, leg_of, finish_of}
use Rattle.leg_table.proofs.StrictOptions.{map_some, then_some, if_some, some_same}

-- a transit to the next SID that is executed, with the steps left then
pub record NextTransit (net : Network) (intent : Intent) (position : ℕ) (via : Option ℕ) (next : ℕ) : Type 0 where
  pub start : is_origin net intent position via ≡ true
  pub place : Place
  pub from : place_from net intent via ≡ Some place
  pub transit : Transit
  pub is_transit : transit_of net (sid_address net next) (drop position intent.steps) place ≡ Some transit
  pub sid : transit.sid ≡ next
  pub left : ℕ
  pub left_is : left_after net next transit.left ≡ Some left

pub middle_sid : (net : Network) (n : ℕ) → is_middle net n ≡ true
    → (s : SidEntry) × (slice_get net.sids n ≡ Some s) × (takes_step s ≡ true)
middle_sid net n h = by_sid (slice_get net.sids n) refl h
  where
    by_sid : (o : Option SidEntry) → slice_get net.sids n ≡ o → sid_goes_on o ≡ true
        → (s : SidEntry) × (slice_get net.sids n ≡ Some s) × (takes_step s ≡ true)
    by_sid None e h = absurd (false≢true h)
    by_sid (Some s) e h = (s, e, h)

pub last_sid : (net : Network) (family : Family) (n : ℕ) → is_last net family n ≡ true
    → (s : SidEntry) × (slice_get net.sids n ≡ Some s) × (hands_over family s ≡ true)
last_sid net family n h = by_sid (slice_get net.sids n) refl h
  where
    by_sid : (o : Option SidEntry) → slice_get net.sids n ≡ o → sid_exposes family o ≡ true
        → (s : SidEntry) × (slice_get net.sids n ≡ Some s) × (hands_over family s ≡ true)
    by_sid None e h = absurd (false≢true h)
    by_sid (Some s) e h = (s, e, h)

-- how many steps are left after an execution is at most how many there were
pub left_after_le : (net : Network) (n : ℕ) (ts : List Step) (left : ℕ) → left_after net n ts ≡ Some left → left ≤ length ts
left_after_le net n ts left h = by_title (is_titled net n) ts h
  where
    by_function : (ts : List Step) → left_after_function n ts ≡ Some left → left ≤ length ts
    by_function [] h = absurd (cc)
    by_function (Links set ∷ ts) h = absurd (cc)
    by_function (Reach node ∷ ts) h = absurd (cc)
    by_function (Function sid ∷ ts) h =
        let got = if_some (sid == n) (Some (length ts)) left h in
        let e : length ts ≡ left = some_same (length ts) left got.1 in
        omega arith

    by_title : (t : Bool) (ts : List Step) → (if t then left_after_function n ts else Some (length ts)) ≡ Some left → left ≤ length ts
    by_title true ts h = by_function ts h
    by_title false ts h = let e : length ts ≡ left = some_same (length ts) left h in omega arith

-- the tests, taken apart
pub behind_parts : (net : Network) (next : ℕ) (r : Transit) (left : ℕ) → left_behind net next r ≡ Some left
    → (r.sid ≡ next) × (left_after net next r.left ≡ Some left)
behind_parts net next r left h =
    let got = if_some (r.sid == next) (left_after net next r.left) left h in
    (eqb-true r.sid next got.0, got.1)

pub behind_from : (net : Network) (next : ℕ) (r : Transit) (left : ℕ) → r.sid ≡ next → left_after net next r.left ≡ Some left
    → left_behind net next r ≡ Some left
behind_from net next r left e h = rw (eq-eqb r.sid next e) h

pub leg_behind_parts : (net : Network) (count next : ℕ) (o : Option Transit) (leg : Leg) → leg_behind net count next o ≡ Some leg
    → (r : Transit) × (o ≡ Some r) × (left : ℕ) × (left_behind net next r ≡ Some left) × (leg_with count r.lowered left ≡ leg)
leg_behind_parts net count next None leg h = absurd (cc)
leg_behind_parts net count next (Some r) leg h =
    let got = map_some (leg_with count r.lowered) (left_behind net next r) leg h in
    (r, refl, got.0, got.1, got.2)

pub if_none_parts : (lowered left : ℕ) (n : ℕ) → if_none_left lowered left ≡ Some n → (left ≡ 0) × (lowered ≡ n)
if_none_parts lowered zero n h = (refl, some_same lowered n h)
if_none_parts lowered (suc more) n h = absurd (cc)

pub finish_behind_parts : (net : Network) (next : ℕ) (o : Option Transit) (n : ℕ) → finish_behind net next o ≡ Some n
    → (r : Transit) × (o ≡ Some r) × (left_behind net next r ≡ Some 0) × (r.lowered ≡ n)
finish_behind_parts net next None n h = absurd (cc)
finish_behind_parts net next (Some r) n h =
    let got = then_some (if_none_left r.lowered) (left_behind net next r) n h in
    let none = if_none_parts r.lowered got.0 n got.2 in
    (r, refl, got.1 ∙ ap Some none.0, none.1)

-- a leg by look-ups is a transit to a middle SID, and the other way round
pub leg_transit : (net : Network) (intent : Intent) (position : ℕ) (via : Option ℕ) (next : ℕ) (leg : Leg)
    → leg_of net intent position via next ≡ Some leg
    → (n : NextTransit net intent position via next) × (is_middle net next ≡ true)
    × (leg_with (length intent.steps) n.transit.lowered n.left ≡ leg)
leg_transit net intent position via next leg h =
    let tests = if_some (is_origin net intent position via && is_middle net next) _ leg h in
    let both = and_parts (is_origin net intent position via) (is_middle net next) tests.0 in
    let got = leg_behind_parts net (length intent.steps) next (transit_to net intent position via next) leg tests.1 in
    let passed = then_some (transit_of net (sid_address net next) (drop position intent.steps)) (place_from net intent via) got.0 got.1 in
    let parts = behind_parts net next got.0 got.2 got.3 in (
      record {
        start = both.0;
        place = passed.0;
        from = passed.1;
        transit = got.0;
        is_transit = passed.2;
        sid = parts.0;
        left = got.2;
        left_is = parts.1;
      },
      both.1,
      got.4,
    )

pub leg_from : (net : Network) (intent : Intent) (position : ℕ) (via : Option ℕ) (next : ℕ) (n : NextTransit net intent position via next)
    → is_middle net next ≡ true
    → leg_of net intent position via next ≡ Some (leg_with (length intent.steps) n.transit.lowered n.left)
leg_from net intent position via next n middle =
    rw (and_from (is_origin net intent position via) (is_middle net next) n.start middle)
    (ap (λ o. leg_behind net (length intent.steps) next
    (option_and_then (transit_of net (sid_address net next) (drop position intent.steps)) o)) n.from
    ∙ ap (leg_behind net (length intent.steps) next) n.is_transit
    ∙ ap (option_map (leg_with (length intent.steps) n.transit.lowered)) (behind_from net next n.transit n.left n.sid n.left_is))

-- a finish by look-ups is a transit to a last SID with no step left, and the other way round
pub finish_transit : (net : Network) (intent : Intent) (position : ℕ) (via : Option ℕ) (next lowered : ℕ)
    → finish_of net intent position via next ≡ Some lowered
    → (n : NextTransit net intent position via next) × (is_last net intent.inner next ≡ true) × (n.transit.lowered ≡ lowered) × (n.left ≡ 0)
finish_transit net intent position via next lowered h =
    let tests = if_some (is_origin net intent position via && is_last net intent.inner next) _ lowered h in
    let both = and_parts (is_origin net intent position via) (is_last net intent.inner next) tests.0 in
    let got = finish_behind_parts net next (transit_to net intent position via next) lowered tests.1 in
    let passed = then_some (transit_of net (sid_address net next) (drop position intent.steps)) (place_from net intent via) got.0 got.1 in
    let parts = behind_parts net next got.0 0 got.2 in (
      record {
        start = both.0;
        place = passed.0;
        from = passed.1;
        transit = got.0;
        is_transit = passed.2;
        sid = parts.0;
        left = 0;
        left_is = parts.1;
      },
      both.1,
      got.3,
      refl,
    )

pub finish_from : (net : Network) (intent : Intent) (position : ℕ) (via : Option ℕ) (next : ℕ) (n : NextTransit net intent position via next)
    → is_last net intent.inner next ≡ true
    → n.left ≡ 0 → finish_of net intent position via next ≡ Some n.transit.lowered
finish_from net intent position via next n last none =
    rw (and_from (is_origin net intent position via) (is_last net intent.inner next) n.start last)
    (ap (λ o. finish_behind net next (option_and_then (transit_of net (sid_address net next) (drop position intent.steps)) o)) n.from
    ∙ ap (finish_behind net next) n.is_transit
    ∙ ap (option_and_then (if_none_left n.transit.lowered)) (behind_from net next n.transit n.left n.sid n.left_is ∙ ap Some none))
