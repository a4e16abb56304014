-- The legs of an intent, and what its lists realize: where a step is loose, the legs along such steps, and lists each of whose
-- SIDs is executed at one node and after one number of finished steps for all choices; else the legs through binding SIDs, and lists that
-- take packets up to their own hand_over.
use Rattle.std.specs.Prelude.{ℕ, Bool, true, false, List}
use Rattle.net_model.specs.Network.{Network}
use Rattle.intent_reader.specs.declared.intent.Intent.{Intent}
use Rattle.intent_reader.specs.IntentRules.{has_reach}
use Rattle.list_pack.specs.declared.types.Container.{Container}
use Rattle.list_pack.specs.LegsValue.{LegsValue}
use Rattle.binding_spec.specs.BindingRealizes.{OwnListExecutes, OwnListRealizes}
use Rattle.binding_spec.specs.BindingHands.{OwnListHands}
use Rattle.binding_spec.specs.BindingLegsValue.{binding_legs_value}
use Rattle.loose_spec.specs.LooseRealizes.{LooseListExecutes, LooseListHands, LooseListRealizes}
use Rattle.loose_spec.specs.LooseLegsValue.{loose_legs_value}
use Rattle.loose_legs.specs.IntentSteps.{trace_steps}

-- ---- by whether a step is loose

abbrev pub legs_if : Bool → Network → Intent → LegsValue
legs_if true net intent = loose_legs_value net intent (trace_steps intent)
legs_if false net intent = binding_legs_value net intent

abbrev pub RealizesIf : Bool → Network → Intent → List Container → ℕ → Type 0
RealizesIf true net intent = LooseListRealizes net intent (trace_steps intent)
RealizesIf false net intent = OwnListRealizes net intent

abbrev pub ExecutesIf : Bool → Network → Intent → List Container → ℕ → Type 0
ExecutesIf true net intent = LooseListExecutes net intent (trace_steps intent)
ExecutesIf false net intent = OwnListExecutes net intent

abbrev pub HandsIf : Bool → Network → Intent → List Container → ℕ → Type 0
HandsIf true net intent = LooseListHands net intent (trace_steps intent)
HandsIf false net intent = OwnListHands net intent

-- ---- of an intent

-- what a search sees of its legs
abbrev pub intent_legs_value : Network → Intent → LegsValue
intent_legs_value net intent = legs_if (has_reach intent.steps) net intent

-- a list realizes it, and needs such a hop limit
abbrev pub ListRealizesFor : Network → Intent → List Container → ℕ → Type 0
ListRealizesFor net intent = RealizesIf (has_reach intent.steps) net intent

-- as many SIDs of a list are executed wherever it hands a packet over
abbrev pub ListExecutesFor : Network → Intent → List Container → ℕ → Type 0
ListExecutesFor net intent = ExecutesIf (has_reach intent.steps) net intent

-- a list hands over even one packet at such a hop limit
abbrev pub ListHandsFor : Network → Intent → List Container → ℕ → Type 0
ListHandsFor net intent = HandsIf (has_reach intent.steps) net intent
