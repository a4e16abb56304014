-- An update that starts with a plan and both lists, and what is wanted of it then.
use Rattle.std.proofs.Common.{◌≡◌, ℕ, ◌<◌, List, [], Result, Ok, length, sym, ap, ap₂, ◌∙◌, subst}
use Rattle.srv6_rules.specs.PoliciesTerms.{IsPolicy}
use Rattle.net_model.specs.declared.parts.Node.{Node}
use Rattle.net_model.specs.Network.{Network}
use Rattle.net_model.specs.NetworkRulesTerms.{IsNetwork}
use Rattle.net_flatness.specs.declared.not_flat.NotFlat.{NotFlat}
use Rattle.net_flatness.specs.Flat.{flatness_of}
use Rattle.intent_reader.specs.IntentRulesTerms.{IsIntent}
use Rattle.path_compiler.specs.declared.compiled.Compiled.{Compiled}
use Rattle.update_spec.specs.Planning.{planning}
use Rattle.update_spec.specs.declared.plan_fault.PlanFault.{PlanFault}
use Rattle.update_theory.proofs.PublicLaws.{no_fault}
use Rattle.update_plan.specs.UpdateState.{Plan, plan_of}
use Rattle.command_output.specs.OutputPieces.{Output}
use Rattle.command_inputs.specs.declared.file_judge.BothIntents.{BothIntents}
use Rattle.run_commands.specs.AdmissionTerms.{AllEnterIn, EntersIn}
use Rattle.walk_commands.specs.declared.headend.Headend.{Headend}
use Rattle.walk_commands.specs.WalkLists.{IsCompiledFor, IsLeastFor}
use Rattle.walk_commands.specs.WalkCommand.{AtHeadend, NotRead, Dropped, Enters, at_headend, admission_at_headend, admission_of}
use Rattle.walk_commands.proofs.PublicLaws.{headend_ready, headend_within}
use Rattle.update_driver.specs.declared.moving.Sides as code
use Rattle.update_driver.specs.Moving.{Sides, sides_by}
use Rattle.update_commands.specs.declared.update_opening.UpdateStart.TheVariants as starts
use Rattle.update_commands.specs.UpdateCommand.{BothWant, ListsWant, WithFlat, WithPlan, update_output}
use Rattle.update_commands.specs.UpdateCommandTerms.{UpdateStartsAs}
use Rattle.update_commands.specs.WholeUpdate.{PacketsKeep, sides_of}
use Rattle.update_commands.proofs.WholeKeeping.{packets_keep}

-- how packets enter at the headends with both lists
abbrev pub sides_at : Headend → Headend → Sides
sides_at old new = sides_by (admission_at_headend old) (admission_at_headend new)

-- packets that enter within a network do so within one with the same nodes
within_same : (net other : Network) (node : ℕ) (at : AtHeadend) → net.nodes ≡ other.nodes → EntersIn net (admission_of node at)
    → EntersIn other (admission_of node at)
within_same net other node (NotRead cause) same h = tt
within_same net other node (Dropped reason) same h = subst (λ (ns : List Node). node < length ns) same h
within_same net other node (Enters content) same h = (subst (λ (ns : List Node). node < length ns) same h.0, tt)

-- with a plan and both lists
pub record Begins (old new : Network) (both : BothIntents) (plan : Plan) (sides : Sides) : Type 0 where
  pub planned : planning old new ≡ Ok tt
  pub before : Compiled
  pub after : Compiled
  pub compiled_before : IsCompiledFor old both.before before
  pub least_before : IsLeastFor old both.before before
  pub compiled_after : IsCompiledFor new both.after after
  pub least_after : IsLeastFor new both.after after
  pub plan_is : plan ≡ plan_of old new
  pub sides_are : sides ≡ sides_of old new both before after
  pub keeps : both.before.inner ≡ both.after.inner → PacketsKeep old new both before after

-- ---- from the answer of its steps

module _ (old new : Network) (both : BothIntents) (plan : Plan) (sides : code.Sides Headend)
    (starts : UpdateStartsAs old new both (Ok (starts.Lists plan sides))) where
  pub begins : IsNetwork old → IsNetwork new → old.hidden ≡ [] → new.hidden ≡ [] → Begins old new both plan (sides_at sides.old sides.new)
  begins rules new_rules whole new_whole = record {
    planned = starts.0;
    before = starts.2.0;
    after = starts.2.1;
    compiled_before = starts.2.2;
    least_before = starts.2.3;
    compiled_after = starts.2.4;
    least_after = starts.2.5;
    plan_is = starts.1;
    sides_are = ap₂ sides_at starts.2.6 starts.2.7;
    keeps = packets_keep old new both starts.2.0 starts.2.1 rules new_rules whole new_whole starts.0 starts.2.2 starts.2.4;
  }

  -- what is put in front of packets are policies, and packets enter within the network of both descriptions

  pub old_ready : IsIntent old both.before → IsPolicy sides.old.policy
  old_ready is = headend_ready old both.before starts.2.0 sides.old is starts.2.2 starts.2.6

  pub new_ready : IsIntent new both.after → IsPolicy sides.new.policy
  new_ready is = headend_ready new both.after starts.2.1 sides.new is starts.2.4 starts.2.7

  pub old_within : IsIntent old both.before → AllEnterIn old (admission_at_headend sides.old)
  old_within is = headend_within old both.before starts.2.0 sides.old is starts.2.6

  new_within : IsIntent new both.after → AllEnterIn new (admission_at_headend sides.new)
  new_within is = headend_within new both.after starts.2.1 sides.new is starts.2.7

  pub joined_nodes : plan.joined.nodes ≡ old.nodes
  joined_nodes = ap (λ (p : Plan). p.joined.nodes) starts.1

  pub joined_links : plan.joined.links ≡ old.links
  joined_links = ap (λ (p : Plan). p.joined.links) starts.1

  pub old_joined : IsIntent old both.before → AllEnterIn plan.joined (admission_at_headend sides.old)
  old_joined is body = within_same old plan.joined sides.old.node (at_headend sides.old.policy sides.old.inner body) (sym joined_nodes)
      (old_within is body)

  pub new_joined : IsIntent new both.after → AllEnterIn plan.joined (admission_at_headend sides.new)
  new_joined is body = within_same new plan.joined sides.new.node (at_headend sides.new.policy sides.new.inner body)
      (sym (no_fault old new starts.0).nodes ∙ sym joined_nodes) (new_within is body)

-- ---- so is the output

module _ (old new : Network) (both : BothIntents) (plan : Plan) (sides : Sides) (b : Begins old new both plan sides)
    (family : both.before.inner ≡ both.after.inner) (events input : List ℕ) where
  lists_are_wanted : (output : Output) → output ≡ update_output old sides plan events input → ListsWant old new both events input output
  lists_are_wanted output is = (
    Ok b.before,
    b.compiled_before,
    b.least_before,
    (
      Ok b.after,
      b.compiled_after,
      b.least_after,
      (
        is ∙ ap₂ (λ (s : Sides) (p : Plan). update_output old s p events input) b.sides_are b.plan_is,
        b.keeps family,
      ),
    ),
  )

  pub lists_want : (output : Output) → output ≡ update_output old sides plan events input → BothWant old new both events input output
  lists_want output is =
      let Lists : Output → Type 0 = ListsWant old new both events input in
      let Planned : Output → Type 0 = WithPlan (planning old new) Lists in
      let New : Output → Type 0 = WithFlat new (flatness_of new) Planned in
      let three : Planned output =
      subst (λ (r : Result (Unit {0}) PlanFault). WithPlan r Lists output) (sym b.planned) (lists_are_wanted output is) in
      let two : New output =
      subst (λ (r : Result (Unit {0}) NotFlat). WithFlat new r Planned output) (sym b.compiled_after.flat) three in
      subst (λ (r : Result (Unit {0}) NotFlat). WithFlat old r New output) (sym b.compiled_before.flat) two
