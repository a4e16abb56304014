-- The lemmas that crates above may cite: those that prove the laws of public functions, and what further kinds of legs need, which is the
-- same for all kinds: paths by the laws of one leg, where transits from a place arrive, legs and finishes by their parts, places of lists,
-- shapes, the SIDs of a position, SIDs that bind no policy, executions, hop limits and inner packets.
pub use Rattle.leg_table.proofs.StrictChoices.{choices_every}
pub use Rattle.leg_table.proofs.StrictTransits.{every_transit}
pub use Rattle.leg_table.proofs.LegLemmas.{value_alone, place_from_law, leg_meaning, finish_meaning, leg_each, finish_each}
pub use Rattle.leg_table.proofs.StrictPositions.{contains_first, contains_later, contains_cases, put_contains, put_itself, put_others, put_length, are_sids}
pub use Rattle.leg_table.proofs.StrictAlike.{way_alike, address_alike}
pub use Rattle.leg_table.proofs.StrictHanding.{Free, free_on, above_free, same_left}
pub use Rattle.leg_table.proofs.TransitFacts.{OriginFacts, origin_from, sid_at, intent_stands}
pub use Rattle.leg_table.proofs.NextTransits.{middle_sid, last_sid, behind_parts, behind_from, leg_behind_parts, if_none_parts, finish_behind_parts}
pub use Rattle.leg_table.proofs.StrictArrivals.{Arrives, AtEnd, transit_arrives, transit_few, at_end_law}
pub use Rattle.leg_table.proofs.StrictLaws.{shape_middle, shape_address, comes_by, strict_laws}
pub use Rattle.leg_table.proofs.Meanings.{realized, hands_realizes, means_as, kind_means}
pub use Rattle.leg_table.proofs.StrictMeanings.{strict_leg_laws, strict_kind_laws, legs_mean, path_realizes, list_path}
pub use Rattle.leg_table.proofs.TraceMeetings.{matches_by, left_parts, handed_trace}
pub use Rattle.leg_table.proofs.StrictPaths.{Names, PathFrom, path_hands, path_over, path_down}
pub use Rattle.leg_table.proofs.ListPlaces.{active_is, next_none, next_some, before_from, before_last_law, before_next, before_first, own_here_law, address_at, sids_list}
pub use Rattle.leg_table.proofs.OwnPlaces.{first_keeps, next_keeps, list_keeps, own_at, first_own}
pub use Rattle.leg_table.proofs.Stays.{stays_follow}
pub use Rattle.leg_table.proofs.Shapes.{sid_shape, shape_is, shapes_share}
pub use Rattle.leg_table.proofs.ListShapes.{there, suits_by}
pub use Rattle.leg_table.proofs.StrictCourses.{leg_by, finish_by}
pub use Rattle.leg_table.proofs.LegsUp.{last_unbound}
pub use Rattle.leg_table.proofs.Segments.{into_prefix, mid_onward, mid_low, last_exposes}
pub use Rattle.leg_table.proofs.StrictExecutions.{step_parts, stage_into, taken_onward}
pub use Rattle.leg_table.proofs.HopLimits.{onward_moves}
pub use Rattle.leg_table.proofs.Inners.{some_inner, some_inner_is}
