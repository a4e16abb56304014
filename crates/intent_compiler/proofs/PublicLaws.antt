-- The lemmas that crates above may cite: each proves a clause of a public function.
pub use Rattle.loose_legs.proofs.PublicLaws.{loose_keeps_law}
pub use Rattle.intent_compiler.proofs.IntentAnswering.{laws_for, means_for, sids_for, cost_for, found_for, none_for, certifies_for, one_answer_for, says_handing_for}
pub use Rattle.intent_compiler.proofs.LooseKinds.{legs_own, realizes_own, executes_own, hands_own, answers_own, none_less_own, says_own, handing_own, legs_loose, realizes_loose, answers_loose, none_less_loose, says_loose, handing_loose}
pub use Rattle.intent_compiler.proofs.IntentStrict.{legs_strict, realizes_strict, executes_strict, hands_strict, answers_strict, none_less_strict, says_strict, handing_strict}
pub use Rattle.intent_compiler.proofs.IntentKeeping.{met_keeps, keeps_met, keeps_crosses}
pub use Rattle.intent_compiler.proofs.AnyPreference.{realizes_alike, executes_alike, hands_alike, no_list_alike}
