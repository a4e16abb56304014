-- The lemmas that crates above may cite: each proves a law that a public function has for its contract.
pub use Rattle.walk_rules.proofs.LookupHits.{lookup_there}
pub use Rattle.walk_rules.proofs.Routing.{way_from, way_into}
pub use Rattle.walk_rules.proofs.Sending.{sent_low, sent_high, sent4_low, sent4_high}
pub use Rattle.walk_rules.proofs.WalkStages.{free_choice}
pub use Rattle.walk_rules.proofs.WalkChoices.{free_unique, free_named, decisions_one, decisions_zero}
pub use Rattle.walk_rules.proofs.OutcomeFacts.{free_member, free_each, free_names, free_drop, free_local, free_tells, address_quiet, sid_quiet}
pub use Rattle.walk_rules.proofs.WalkExecutions.{free_again, free_hand, free_less, free_pushes}
pub use Rattle.walk_rules.proofs.Judged.{over_link_fits, over_link_long, judged_each, judged_fits, judged_long, judged_other, step_each, step_fits, step_long, step_other, step_named, step_member, step_drop, step_local, step_tells, step_again, step_hand, step_less, step_pushes, step_content, step_back, stage_choice, stage_member, stage_each, stage_unique}
pub use Rattle.walk_rules.proofs.Binding.{outer_of, onward_each}
pub use Rattle.walk_rules.proofs.Outers.{outer_spellable}
pub use Rattle.walk_rules.proofs.WalkPlaces.{hops_start, stage_step, step_place, sid_how, exposed_how}
pub use Rattle.walk_rules.proofs.WalkContents.{next_place_family}
pub use Rattle.walk_rules.proofs.WalkWalks.{walk_by_suc, walk_by_zero, walk_by_none, walk_of_zero, walk_of_none, walk_of_suc, walk_of_add_one, length_walk_of, take_walk_of, walk_of_add, walk_of_ended, walk_of_is, walk_of_one}
pub use Rattle.walk_rules.proofs.WalkEnds.{walk_of_stages, end_of_goes_on, walk_of_short_end}
pub use Rattle.walk_rules.proofs.ChoicesTaken.{decisions_few, walk_of_picks, walk_of_list}
