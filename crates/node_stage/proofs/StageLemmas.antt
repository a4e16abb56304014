-- What a stage gives is an outcome of the relation, and leads to a place.
use Rattle.std.proofs.Common.{◌≡◌, ℕ, List, Option, Some, None, IfSome, slice_get, refl, sym, subst, ap}
use Rattle.srv6_rules.specs.Packet.{Content}
use Rattle.srv6_rules.specs.declared.reason.Reason.{Reason}
use Rattle.net_model.specs.declared.parts.Node.{Node}
use Rattle.net_model.specs.Network.{Network}
use Rattle.net_model.specs.NetworkKeeps.{Keeps}
use Rattle.walk_rules.specs.declared.place.Place.{Place}
use Rattle.walk_rules.specs.Treatment.{Gave, dropped, error_of, step_of}
use Rattle.walk_rules.specs.declared.place.Outcome.{Outcome}
use Rattle.walk_rules.specs.WalkLawsTerms.{TellsOfError}
use Rattle.walk_rules.specs.Relation.{IsPlace, IsStage}
use Rattle.walk_rules.specs.Walk.{next_place}
use Rattle.walk_rules.proofs.PublicLaws.{stage_step, step_place, step_tells}
use Rattle.node_stage.specs.declared.stage_error.StageResult.{StageResult}
use Rattle.node_stage.specs.StageAnswers.{Tells, dropped_from}

stage_of_relation : (net : Network) (place : Place) (content : Content) (choice : ℕ) (gave : Gave) → Keeps net → IsPlace net place
    → gave ≡ step_of net place content choice
    → IsStage net place content gave.outcome gave.after gave.error
stage_of_relation net place content choice gave keeps is e =
    let P : Gave → Type 0 = λ g. IsStage net place content g.outcome g.after g.error in
    subst P (sym e) (stage_step net place content choice keeps is)

by_next : (net : Network) (o : Option Place) → ((next : Place) → o ≡ Some next → IsPlace net next) → IfSome o (IsPlace net)
by_next net None leads = tt
by_next net (Some next) leads = leads next refl

next_is_place : (net : Network) (place : Place) (content : Content) (choice : ℕ) (gave : Gave) → Keeps net → IsPlace net place
    → gave ≡ step_of net place content choice
    → IfSome (next_place net place gave.outcome) (IsPlace net)
next_is_place net place content choice gave keeps is e =
    let P : Gave → Type 0 = λ g. IfSome (next_place net place g.outcome) (IsPlace net) in
    subst P (sym e) (by_next net (next_place net place (step_of net place content choice).outcome)
    (λ next h. step_place net place content choice next keeps is h))

-- what is stage_result of one that gives the same
pub tells_same : (stage_result : StageResult) (slot : List ℕ) (one two : Gave) → one ≡ two → Tells stage_result slot one → Tells stage_result slot two
tells_same stage_result slot one two same h = let P : Gave → Type 0 = λ g. Tells stage_result slot g in subst P same h

-- the node's own address is the one from which the error goes
pub drops_from : (net : Network) (node : ℕ) (n : Node) (reason : Reason) (detail : ℕ) (content : Content) → slice_get net.nodes node
    ≡ Some n
    → dropped_from n.address.value reason detail content ≡ dropped net node reason detail content
unfolding error_of
drops_from net node n reason detail content is = rw is refl

-- what is stage_result of a stage, of a content that is the one that stood there
pub told_step : (net : Network) (place : Place) (content taken : Content) (choice : ℕ) (stage_result : StageResult) (slot : List ℕ) → taken ≡ content
    → Tells stage_result slot (step_of net place taken choice) → Tells stage_result slot (step_of net place content choice)
told_step net place content taken choice stage_result slot same h =
    tells_same stage_result slot (step_of net place taken choice) (step_of net place content choice) (ap (λ c. step_of net place c choice) same) h

gave_is : (stage_result : StageResult) (slot : List ℕ) (step : Gave) → Tells stage_result slot step
    → let gave : Gave = record { outcome = stage_result.outcome; after = stage_result.after.content; error = step.error } in gave ≡ step
gave_is stage_result slot step h = rw (h.0, h.1) refl

module _ (net : Network) (place : Place) (content : Content) (choice : ℕ) (stage_result : StageResult) (slot : List ℕ) where
  abbrev step : Gave
  step = step_of net place content choice

  abbrev gave : Gave
  gave = record { outcome = stage_result.outcome; after = stage_result.after.content; error = step.error }

  pub told_tells : Tells stage_result slot step → TellsOfError stage_result.outcome step.error
  told_tells h = subst (λ (o : Outcome). TellsOfError o step.error) (sym h.0) (step_tells net place content choice)

  pub told_relation : Keeps net → IsPlace net place → Tells stage_result slot step
      → IsStage net place content stage_result.outcome stage_result.after.content step.error
  told_relation keeps is h = stage_of_relation net place content choice gave keeps is (gave_is stage_result slot step h)

  pub told_place : Keeps net → IsPlace net place → Tells stage_result slot step → IfSome (next_place net place stage_result.outcome) (IsPlace net)
  told_place keeps is h = next_is_place net place content choice gave keeps is (gave_is stage_result slot step h)
