-- The paths of these legs are the legal lists that realize the steps.
use Rattle.std.proofs.Common.{ℕ, ◌+◌, ◌≤◌, List, length, Option}
use Rattle.std.specs.Prelude.{◌↔◌}
use Rattle.srv6_rules.specs.Packet.{Packet, Content}
use Rattle.net_model.specs.Network.{Network}
use Rattle.net_model.specs.NetworkRulesTerms.{IsNetwork}
use Rattle.net_flatness.specs.Flat.{IsFlat}
use Rattle.intent_reader.specs.declared.intent.Intent.{Intent}
use Rattle.list_pack.specs.declared.types.Container.{Container}
use Rattle.list_pack.specs.Meaning.{Means}
use Rattle.list_pack.specs.SidLists.{IsLegalList, list_values, prefixes_in}
use Rattle.intent_traces.specs.declared.trace_steps.TraceStep.{TraceStep}
use Rattle.leg_table.specs.LegMeaning.{IsExecuting, IsRealizing}
use Rattle.leg_table.specs.OneLegLaws.{KindLaws}
use Rattle.leg_table.proofs.Meanings.{means_as}
use Rattle.loose_legs_theory.specs.LooseStepsTerms.{AreSteps}
use Rattle.loose_meaning_theory.specs.LongestWays.{Longest}
use Rattle.loose_meaning_theory.specs.LooseKind.{loose_kind}
use Rattle.loose_spec.specs.LooseLegsValue.{loose_legs_value}
use Rattle.loose_meaning_theory.proofs.OneLegLaws.{loose_kind_laws, loose_leg_laws}
use Rattle.loose_spec.specs.LooseExecutions.{Execution}
use Rattle.loose_spec.specs.LooseRealizes.{ExecutesEach, LooseAlwaysHands, LooseListExecutes, LooseListHands, LooseListRealizes, LooseReaches}
use Rattle.loose_meaning_theory.proofs.LooseListRealizing.{executes_of, hands_to, one_shows, realizes_iff, realizes_of, realizes_to}

-- over any kind's longest ways
means_by : (net : Network) (intent : Intent) (steps : List TraceStep) (Longest : Option ℕ → Packet → (ℕ → ℕ) → ℕ → Type 0)
    → KindLaws (loose_kind net intent steps) Longest
    → Means (loose_legs_value net intent steps) net (LooseListRealizes net intent steps) (LooseListExecutes net intent steps)
    (LooseListHands net intent steps)
means_by net intent steps Longest laws =
    means_as (loose_kind net intent steps) Longest laws (LooseListRealizes net intent steps) (LooseListExecutes net intent steps)
    (LooseListHands net intent steps)
    (λ list need legal real executes. realizes_of net intent steps Longest laws list legal need real executes)
    (executes_of net intent steps)
    (λ list need legal real. let both = realizes_to net intent steps Longest laws list legal need real in (both.0, λ executes. both.1))
    (hands_to net intent steps)

module _ (net : Network) (intent : Intent) (steps : List TraceStep) (network : IsNetwork net) (flat : IsFlat net)
    (are : AreSteps net intent steps)
    (few : length net.sids ≤ 128) where
  laws : KindLaws (loose_kind net intent steps) (Longest net intent)
  laws = loose_kind_laws net intent steps network flat are few (loose_leg_laws net intent steps network flat are)

  pub loose_realizes : (list : List Container) (need : ℕ) → IsLegalList net list
      → LooseListRealizes net intent steps list need
      ↔ (IsRealizing (loose_kind net intent steps) list need × IsExecuting (loose_kind net intent steps) list (length (prefixes_in list)))
  loose_realizes list need legal = realizes_iff net intent steps (Longest net intent) laws list legal need

  pub loose_shows : (list : List Container) (n : ℕ) (inner : Content) (executions : List Execution) → IsLegalList net list
      → ExecutesEach net list executions → LooseAlwaysHands net intent steps (list_values net list) inner (n + 1) executions
      → LooseReaches net intent steps list n
  loose_shows list n inner executions legal each always =
      one_shows net intent steps (Longest net intent) laws list legal n inner executions each always

  pub loose_means : Means (loose_legs_value net intent steps) net (LooseListRealizes net intent steps) (LooseListExecutes net intent steps)
      (LooseListHands net intent steps)
  loose_means = means_by net intent steps (Longest net intent) laws
