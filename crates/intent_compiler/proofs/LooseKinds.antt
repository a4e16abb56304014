-- Legs, lists, answers and verdicts by whether a step of the intent is loose.
use Rattle.std.proofs.Common.{◌≡◌, ◌↔◌, ℕ, Bool, true, false, List, Result, sym, ap, subst}
use Rattle.net_model.specs.Network.{Network}
use Rattle.intent_reader.specs.declared.intent.Intent.{Intent}
use Rattle.intent_reader.specs.IntentRules.{has_reach}
use Rattle.intent_reader.specs.Preferences.{sid_cost_of}
use Rattle.list_pack.specs.declared.types.Container.{Container}
use Rattle.list_certificate.specs.declared.certificate_types.Verdict.{Verdict}
use Rattle.binding_spec.specs.BindingRealizes.{OwnListExecutes, OwnListRealizes}
use Rattle.binding_spec.specs.BindingHands.{OwnListHands}
use Rattle.binding_spec.specs.BindingLegsValue.{binding_legs_value}
use Rattle.loose_spec.specs.LooseRealizes.{LooseListExecutes, LooseListHands, LooseListRealizes}
use Rattle.loose_spec.specs.LooseLegsValue.{loose_legs_value}
use Rattle.loose_legs.specs.IntentSteps.{trace_steps}
use Rattle.path_compiler.specs.declared.compiled.Compiled.{Compiled}
use Rattle.path_compiler.specs.declared.compiled.CompileFault.{CompileFault}
use Rattle.path_compiler.specs.Checked.{Says, SaysOver}
use Rattle.path_compiler.specs.Compiled.{AnswersOver, NoneLessOver}
use Rattle.intent_compiler.specs.CompilerAnswers.{IntentAnswers, NoneLessFor}
use Rattle.intent_compiler.specs.LegKindsTerms.{ReachesNothing}
use Rattle.intent_compiler.specs.IntentLegs.{ExecutesIf, HandsIf, ListExecutesFor, ListHandsFor, ListRealizesFor, RealizesIf, intent_legs_value, legs_if}
use Rattle.intent_compiler.specs.IntentVerdicts.{SaysFor, SaysOfHandingFor}

-- what holds of one Bool holds of an equal one
either_bool : (P : Bool → Type 0) (a b : Bool) → a ≡ b → P a ↔ P b
either_bool P a b same = (subst P same, subst P (sym same))

module _ (net : Network) (intent : Intent) where
  -- what is said of answers and verdicts, if a step is loose or if none is

  abbrev AnswersIf : Result Compiled CompileFault → Bool → Type 0
  AnswersIf answer b = AnswersOver (legs_if b net intent) net (RealizesIf b net intent) (ExecutesIf b net intent) intent answer

  abbrev NoneLessIf : Result Compiled CompileFault → Bool → Type 0
  NoneLessIf answer b = NoneLessOver (legs_if b net intent).sid_cost net (HandsIf b net intent) intent.reduced answer

  abbrev SaysIf : Verdict → Bool → Type 0
  SaysIf verdict b = Says (legs_if b net intent).sid_cost net (RealizesIf b net intent) (ExecutesIf b net intent) verdict

  abbrev SaysOfHandingIf : Verdict → Bool → Type 0
  SaysOfHandingIf verdict b = SaysOver (legs_if b net intent).sid_cost net (HandsIf b net intent) verdict

  module _ (none : ReachesNothing intent) where
    pub legs_own : intent_legs_value net intent ≡ binding_legs_value net intent
    legs_own = ap (λ (b : Bool). legs_if b net intent) none

    pub realizes_own : (list : List Container) (need : ℕ) → ListRealizesFor net intent list need ↔ OwnListRealizes net intent list need
    realizes_own list need = either_bool (λ (b : Bool). RealizesIf b net intent list need) (has_reach intent.steps) false none

    pub executes_own : (list : List Container) (count : ℕ) → ListExecutesFor net intent list count ↔ OwnListExecutes net intent list count
    executes_own list count = either_bool (λ (b : Bool). ExecutesIf b net intent list count) (has_reach intent.steps) false none

    pub hands_own : (list : List Container) (hop : ℕ) → ListHandsFor net intent list hop ↔ OwnListHands net intent list hop
    hands_own list hop = either_bool (λ (b : Bool). HandsIf b net intent list hop) (has_reach intent.steps) false none

    pub answers_own : (answer : Result Compiled CompileFault) → IntentAnswers net intent answer
        ↔ AnswersOver (binding_legs_value net intent) net (OwnListRealizes net intent) (OwnListExecutes net intent) intent answer
    answers_own answer = either_bool (AnswersIf answer) (has_reach intent.steps) false none

    pub none_less_own : (answer : Result Compiled CompileFault)
        → NoneLessFor net intent answer ↔ NoneLessOver (sid_cost_of intent.prefer) net (OwnListHands net intent) intent.reduced answer
    none_less_own answer = either_bool (NoneLessIf answer) (has_reach intent.steps) false none

    pub says_own : (verdict : Verdict)
        → SaysFor net intent verdict ↔ Says (sid_cost_of intent.prefer) net (OwnListRealizes net intent) (OwnListExecutes net intent) verdict
    says_own verdict = either_bool (SaysIf verdict) (has_reach intent.steps) false none

    pub handing_own : (verdict : Verdict) → SaysOfHandingFor net intent verdict ↔ SaysOver (sid_cost_of intent.prefer) net (OwnListHands net intent) verdict
    handing_own verdict = either_bool (SaysOfHandingIf verdict) (has_reach intent.steps) false none

  module _ (some : has_reach intent.steps ≡ true) where
    pub legs_loose : intent_legs_value net intent ≡ loose_legs_value net intent (trace_steps intent)
    legs_loose = ap (λ (b : Bool). legs_if b net intent) some

    pub realizes_loose : (list : List Container) (need : ℕ)
        → ListRealizesFor net intent list need ↔ LooseListRealizes net intent (trace_steps intent) list need
    realizes_loose list need = either_bool (λ (b : Bool). RealizesIf b net intent list need) (has_reach intent.steps) true some

    pub answers_loose : (answer : Result Compiled CompileFault) → IntentAnswers net intent answer
        ↔ AnswersOver (loose_legs_value net intent (trace_steps intent)) net (LooseListRealizes net intent (trace_steps intent))
        (LooseListExecutes net intent (trace_steps intent)) intent answer
    answers_loose answer = either_bool (AnswersIf answer) (has_reach intent.steps) true some

    pub none_less_loose : (answer : Result Compiled CompileFault)
        → NoneLessFor net intent answer ↔ NoneLessOver (sid_cost_of intent.prefer) net (LooseListHands net intent (trace_steps intent)) intent.reduced answer
    none_less_loose answer = either_bool (NoneLessIf answer) (has_reach intent.steps) true some

    pub says_loose : (verdict : Verdict) → SaysFor net intent verdict
        ↔ Says (sid_cost_of intent.prefer) net (LooseListRealizes net intent (trace_steps intent)) (LooseListExecutes net intent (trace_steps intent)) verdict
    says_loose verdict = either_bool (SaysIf verdict) (has_reach intent.steps) true some

    pub handing_loose : (verdict : Verdict)
        → SaysOfHandingFor net intent verdict ↔ SaysOver (sid_cost_of intent.prefer) net (LooseListHands net intent (trace_steps intent)) verdict
    handing_loose verdict = either_bool (SaysOfHandingIf verdict) (has_reach intent.steps) true some
