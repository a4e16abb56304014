-- Need not be believed: helps proofs and other laws.
-- The code's view of transits.
use Rattle.std.specs.Prelude.{ℕ, drop, Option, Some, None}
use Rattle.std.specs.Option.{option_map, option_and_then}
use Rattle.net_model.specs.Network.{Network}
use Rattle.list_pack.specs.declared.types.Leg.{Leg}
use Rattle.leg_table.specs.declared.step_links.Behind.{Behind}
use Rattle.leg_table.specs.Transits.{Transit, transit_of}
use Rattle.leg_table.specs.StrictLegs.{left_behind, leg_with, if_none_left}
use Rattle.leg_table.specs.StrictLegsTerms.{origin_of}
use Rattle.leg_table.specs.PositionSids.{sid_address}
use Rattle.intent_reader.specs.declared.intent.Intent.{Intent}

abbrev pub behind_with : ℕ → ℕ → Behind
behind_with lowered left = record { left = left; lowered = lowered }

abbrev pub behind_of : Network → ℕ → Option Transit → Option Behind
behind_of net next None = None
behind_of net next (Some r) = option_map (behind_with r.lowered) (left_behind net next r)

-- the leg of a way that leaves some of the steps
abbrev pub leg_from_behind : ℕ → Behind → Leg
leg_from_behind count b = leg_with count b.lowered b.left

abbrev pub finish_from_behind : Behind → Option ℕ
finish_from_behind b = if_none_left b.lowered b.left

-- the way from a start to a next SID
abbrev pub way_behind : Network → Intent → ℕ → Option ℕ → ℕ → Option Behind
way_behind net intent position via next =
    option_and_then (λ place. behind_of net next (transit_of net (sid_address net next) (drop position intent.steps) place))
    (origin_of net intent position via)
