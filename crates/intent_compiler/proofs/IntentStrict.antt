-- Where no step is loose and there is no binding SID, legs, lists, answers and verdicts are those of strict steps.
use Rattle.std.proofs.Common.{◌≡◌, ◌↔◌, length, slice_get, Result, sym, ◌∙◌, subst}
use Rattle.net_model.specs.Network.{Network}
use Rattle.intent_reader.specs.declared.intent.Intent.{Intent}
use Rattle.intent_reader.specs.Preferences.{sid_cost_of}
use Rattle.list_pack.specs.SidLists.{list_values}
use Rattle.list_pack.specs.LegsValue.{LegsValue}
use Rattle.list_certificate.specs.declared.certificate_types.Verdict.{Verdict}
use Rattle.leg_table.specs.NestLegs.{stays_of}
use Rattle.leg_table.specs.Realizes.{ListRealizes}
use Rattle.leg_table.specs.RealizesTerms.{ListExecutes, ListHands}
use Rattle.leg_table.specs.PositionSids.{sids_of}
use Rattle.leg_table.specs.StrictTable.{node_of}
use Rattle.leg_table.specs.StrictLegsValue.{legs_value}
use Rattle.tunnel_stages_theory.specs.TunnelStagesTerms.{NothingBinds}
use Rattle.binding_spec.specs.BindingRealizes.{OwnListExecutes, OwnListRealizes}
use Rattle.tunnel_stages_theory.proofs.OwnHandLaws.{binds_same, executes_either, hands_either, realizes_either}
use Rattle.binding_spec.specs.BindingHands.{OwnListHands}
use Rattle.binding_spec.specs.BindingLegsValue.{binding_legs_value}
use Rattle.binding_legs.proofs.PublicLaws.{finish_strict, leg_strict, shape_strict}
use Rattle.path_compiler.specs.declared.compiled.Compiled.{Compiled}
use Rattle.path_compiler.specs.declared.compiled.CompileFault.{CompileFault}
use Rattle.path_compiler.specs.Checked.{Says, SaysOver}
use Rattle.path_compiler.specs.CheckedTerms.{SaysOfHanding}
use Rattle.path_compiler.specs.Compiled.{AnswersOver, NoneLessOver}
use Rattle.path_compiler.specs.CompiledTerms.{CompileAnswers, NoLessHandsOver}
use Rattle.intent_compiler.specs.CompilerAnswers.{IntentAnswers, NoneLessFor}
use Rattle.intent_compiler.specs.LegKinds.{BindsNothing}
use Rattle.intent_compiler.specs.LegKindsTerms.{ReachesNothing}
use Rattle.intent_compiler.specs.IntentLegs.{ListExecutesFor, ListHandsFor, ListRealizesFor, intent_legs_value}
use Rattle.intent_compiler.specs.IntentVerdicts.{SaysFor, SaysOfHandingFor}
use Rattle.intent_compiler.proofs.LooseKinds.{answers_own, executes_own, handing_own, hands_own, legs_own, none_less_own, realizes_own, says_own}
use Rattle.intent_compiler.proofs.IntentAlike.{AreAlike, answers_alike, none_less_alike, over_alike, says_alike, turned}

-- what holds exactly where another does, which holds exactly where a third does
joined : {A B C : Type 0} → A ↔ B → B ↔ C → A ↔ C
joined one two = (λ a. two.0 (one.0 a), λ c. one.1 (two.1 c))

module _ (net : Network) (intent : Intent) (none : BindsNothing net) where
  nothing : NothingBinds net
  nothing n = sym (binds_same (slice_get net.sids n)) ∙ none n

  -- the functions of the legs have the same values
  own_legs : binding_legs_value net intent ≡ legs_value net intent
  own_legs i = record {
    steps = length intent.steps;
    sids_at = sids_of net intent;
    shape = λ n. shape_strict net none n i;
    node = node_of net;
    leg = λ position via next. leg_strict net none intent next position via i;
    finish = λ position via next. finish_strict net none intent next position via i;
    stays = stays_of net;
    sid_cost = sid_cost_of intent.prefer;
  }

  own_realizes : AreAlike (OwnListRealizes net intent) (ListRealizes net intent)
  own_realizes list need = realizes_either net intent (list_values net list) nothing need

  own_executes : AreAlike (OwnListExecutes net intent) (ListExecutes net intent)
  own_executes list count = executes_either net intent (list_values net list) nothing count

  own_hands : AreAlike (OwnListHands net intent) (ListHands net intent)
  own_hands list hop = (
    λ h. record {
      positive = h.positive;
      inner = h.inner;
      always = λ choices some. (hands_either net intent (list_values net list) nothing h.inner hop choices).0 (h.always choices some);
    },
    λ h. record {
      positive = h.positive;
      inner = h.inner;
      always = λ choices some. (hands_either net intent (list_values net list) nothing h.inner hop choices).1 (h.always choices some);
    },
  )

  own_answers : (answer : Result Compiled CompileFault)
      → AnswersOver (binding_legs_value net intent) net (OwnListRealizes net intent) (OwnListExecutes net intent) intent answer
      ↔ CompileAnswers net intent answer
  own_answers answer = (
    λ answers. subst (λ (v : LegsValue). AnswersOver v net (ListRealizes net intent) (ListExecutes net intent) intent answer) own_legs
        (answers_alike net (OwnListRealizes net intent) (OwnListExecutes net intent) (ListRealizes net intent) (ListExecutes net intent)
        own_realizes own_executes (binding_legs_value net intent) intent answer answers),
    λ answers. answers_alike net (ListRealizes net intent) (ListExecutes net intent) (OwnListRealizes net intent)
        (OwnListExecutes net intent) (turned _ _ own_realizes) (turned _ _ own_executes) (binding_legs_value net intent) intent answer
        (subst (λ (v : LegsValue). AnswersOver v net (ListRealizes net intent) (ListExecutes net intent) intent answer) (sym own_legs)
        answers),
  )

  own_none_less : (answer : Result Compiled CompileFault)
      → NoneLessOver (sid_cost_of intent.prefer) net (OwnListHands net intent) intent.reduced answer ↔ NoLessHandsOver net intent answer
  own_none_less answer = (
    none_less_alike (sid_cost_of intent.prefer) net (OwnListHands net intent) (ListHands net intent) own_hands intent.reduced answer,
    none_less_alike (sid_cost_of intent.prefer) net (ListHands net intent) (OwnListHands net intent) (turned _ _ own_hands) intent.reduced answer,
  )

  own_says : (verdict : Verdict) → Says (sid_cost_of intent.prefer) net (OwnListRealizes net intent) (OwnListExecutes net intent) verdict
      ↔ Says (sid_cost_of intent.prefer) net (ListRealizes net intent) (ListExecutes net intent) verdict
  own_says verdict = (
    says_alike net (OwnListRealizes net intent) (OwnListExecutes net intent) (ListRealizes net intent) (ListExecutes net intent)
        own_realizes own_executes (sid_cost_of intent.prefer) verdict,
    says_alike net (ListRealizes net intent) (ListExecutes net intent) (OwnListRealizes net intent) (OwnListExecutes net intent)
        (turned _ _ own_realizes) (turned _ _ own_executes) (sid_cost_of intent.prefer) verdict,
  )

  own_handing : (verdict : Verdict) → SaysOver (sid_cost_of intent.prefer) net (OwnListHands net intent) verdict ↔ SaysOfHanding net intent verdict
  own_handing verdict = (
    over_alike (sid_cost_of intent.prefer) net (OwnListHands net intent) (ListHands net intent) own_hands verdict,
    over_alike (sid_cost_of intent.prefer) net (ListHands net intent) (OwnListHands net intent) (turned _ _ own_hands) verdict,
  )

  -- ---- of the intent, none of whose steps is to reach a node

  module _ (reach : ReachesNothing intent) where
    pub legs_strict : intent_legs_value net intent ≡ legs_value net intent
    legs_strict = legs_own net intent reach ∙ own_legs

    pub realizes_strict : AreAlike (ListRealizesFor net intent) (ListRealizes net intent)
    realizes_strict list need = joined (realizes_own net intent reach list need) (own_realizes list need)

    pub executes_strict : AreAlike (ListExecutesFor net intent) (ListExecutes net intent)
    executes_strict list count = joined (executes_own net intent reach list count) (own_executes list count)

    pub hands_strict : AreAlike (ListHandsFor net intent) (ListHands net intent)
    hands_strict list hop = joined (hands_own net intent reach list hop) (own_hands list hop)

    pub answers_strict : (answer : Result Compiled CompileFault) → IntentAnswers net intent answer ↔ CompileAnswers net intent answer
    answers_strict answer = joined (answers_own net intent reach answer) (own_answers answer)

    pub none_less_strict : (answer : Result Compiled CompileFault) → NoneLessFor net intent answer ↔ NoLessHandsOver net intent answer
    none_less_strict answer = joined (none_less_own net intent reach answer) (own_none_less answer)

    pub says_strict : (verdict : Verdict)
        → SaysFor net intent verdict ↔ Says (sid_cost_of intent.prefer) net (ListRealizes net intent) (ListExecutes net intent) verdict
    says_strict verdict = joined (says_own net intent reach verdict) (own_says verdict)

    pub handing_strict : (verdict : Verdict) → SaysOfHandingFor net intent verdict ↔ SaysOfHanding net intent verdict
    handing_strict verdict = joined (handing_own net intent reach verdict) (own_handing verdict)
