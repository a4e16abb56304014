-- Transits by the way that the code finds, legs and finishes by that way, and the end of the first link of a set.
use Rattle.std.proofs.Common.{◌≡◌, ℕ, ◌<◌, Bool, true, false, ◌&&◌, if◌then◌else◌, List, [], ◌∷◌, length, get_or, Option, Some, None, slice_get, refl, sym, ◌∙◌, ap, subst, arith}
use Rattle.std.specs.Prelude.{IfSome, drop}
use Rattle.std.specs.Option.{option_map, option_and_then}
use Rattle.net_model.specs.declared.parts.Link.{Link}
use Rattle.net_model.specs.Network.{Network}
use Rattle.net_model.specs.NetworkKeeps.{Keeps, EndsElsewhere}
use Rattle.walk_rules.specs.Walk.{far_end}
use Rattle.intent_reader.specs.IntentRules.{first_end}
use Rattle.walk_rules.specs.declared.place.Place.{Place}
use Rattle.intent_reader.specs.declared.intent.Intent.{Intent}
use Rattle.leg_table.specs.Courses.{behind_with, behind_of, leg_from_behind, finish_from_behind, way_behind}
use Rattle.leg_table.specs.StrictLegs.{place_from, left_behind, leg_behind, leg_with, if_none_left, finish_behind}
use Rattle.leg_table.specs.StrictLegsTerms.{is_origin, finish_of}
use Rattle.leg_table.specs.Transits.{Transit, transit_of}
use Rattle.leg_table.specs.PositionSids.{is_last, sid_address}
use Rattle.leg_table.proofs.StrictLinks.{far_end_is}

-- the end of the first link of a set
pub first_end_far : (net : Network) (set : List ℕ) → 0 < length set → far_end (slice_get net.links (get_or set 0 0)) ≡ first_end net set
first_end_far net [] some = absurd (omega arith)
first_end_far net (link ∷ links) some = far_end_is (slice_get net.links link)

ends_within : (count from : ℕ) (to : Option ℕ) → EndsElsewhere count from to → IfSome to (λ n. n < count)
ends_within count from None h = tt
ends_within count from (Some to) h = h.0

far_within : (net : Network) → Keeps net → (n : ℕ) (o : Option Link) → slice_get net.links n ≡ o
    → IfSome (far_end o) (λ to. to < length net.nodes)
far_within net keeps n None at = tt
far_within net keeps n (Some l) at = ends_within (length net.nodes) l.from l.to ((keeps.link n l at).to)

pub end_within : (net : Network) → Keeps net → (n : ℕ) (to : Option ℕ) → to ≡ far_end (slice_get net.links n)
    → IfSome to (λ node. node < length net.nodes)
end_within net keeps n to e =
    let P : Option ℕ → Type 0 = λ o. IfSome o (λ node. node < length net.nodes) in
    subst P (sym e) (far_within net keeps n (slice_get net.links n) refl)

-- ---- legs and finishes by the way that was found

module _ (net : Network) (next : ℕ) where
  leg_by_left : (count lowered : ℕ) (o : Option ℕ)
      → option_map (leg_from_behind count) (option_map (behind_with lowered) o) ≡ option_map (leg_with count lowered) o
  leg_by_left count lowered None = refl
  leg_by_left count lowered (Some left) = refl

  pub leg_by : (count : ℕ) (o : Option Transit) → option_map (leg_from_behind count) (behind_of net next o) ≡ leg_behind net count next o
  leg_by count None = refl
  leg_by count (Some r) = leg_by_left count r.lowered (left_behind net next r)

  finish_by_left : (lowered : ℕ) (o : Option ℕ)
      → option_and_then finish_from_behind (option_map (behind_with lowered) o) ≡ option_and_then (if_none_left lowered) o
  finish_by_left lowered None = refl
  finish_by_left lowered (Some left) = refl

  pub finish_by : (o : Option Transit) → option_and_then finish_from_behind (behind_of net next o) ≡ finish_behind net next o
  finish_by None = refl
  finish_by (Some r) = finish_by_left r.lowered (left_behind net next r)

-- the finish from a start
pub finish_way : (net : Network) (intent : Intent) (position : ℕ) (via : Option ℕ) (next : ℕ) → is_last net intent.inner next ≡ true
    → option_and_then finish_from_behind (way_behind net intent position via next) ≡ finish_of net intent position via next
finish_way net intent position via next last =
    by_start (is_origin net intent position via) (place_from net intent via)
    ∙ ap (λ (t : Bool). if is_origin net intent position via && t
    then finish_behind net next (option_and_then (transit_of net (sid_address net next) (drop position intent.steps))
    (place_from net intent via))
    else None) (sym last)
  where
    by_start : (starts : Bool) (o : Option Place)
        → option_and_then finish_from_behind
        (option_and_then (λ (place : Place). behind_of net next (transit_of net (sid_address net next) (drop position intent.steps) place))
        (if starts then o else None))
        ≡ (if starts && true
        then finish_behind net next (option_and_then (transit_of net (sid_address net next) (drop position intent.steps)) o) else None)
    by_start false o = refl
    by_start true None = refl
    by_start true (Some place) = finish_by net next (transit_of net (sid_address net next) (drop position intent.steps) place)
