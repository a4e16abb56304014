-- Lists of segments that realize an intent along steps of which some may be loose. The intent is asked for what it has
-- beside its steps.
use Rattle.std.specs.Prelude.{◌≡◌, ℕ, ◌<◌, ◌≤◌, false, List, length, map, All, Some}
use Rattle.srv6_rules.specs.Packet.{Content, V6}
use Rattle.net_model.specs.Network.{Network}
use Rattle.walk_rules.specs.Walk.{Stage, choice_at, free_walk_of}
use Rattle.intent_reader.specs.declared.intent.Intent.{Intent}
use Rattle.list_pack.specs.declared.types.Container.{Container}
use Rattle.list_pack.specs.SidLists.{list_values, prefixes_in}
use Rattle.intent_traces.specs.declared.trace_steps.TraceStep.{TraceStep}
use Rattle.intent_traces.specs.Traces.{Matches}
use Rattle.loose_walks.specs.WalkStops.{ends_in}
use Rattle.leg_table.specs.Realizes.{IsInner, content_lowered, encapsulated_for, headend_place}
use Rattle.leg_table.specs.PositionSids.{is_binding, prefix_at}
use Rattle.leg_table.specs.WalkTrace.{Handed, handed_over, through_hand}
use Rattle.loose_spec.specs.LooseExecutions.{Execution, executions_of, trace_event}

-- the stages of an inner packet, encapsulated by the headend for a list of segments and with an outer hop limit, under a list of
-- choices: at most so many, whatever its length, and where no link has an MTU
abbrev pub stages_for : Network → Intent → List ℕ → Content → ℕ → List ℕ → ℕ → List Stage
stages_for net intent segments inner hop choices fuel =
    free_walk_of fuel net (Some (headend_place intent)) (V6 (encapsulated_for intent segments inner hop)) (choice_at choices) 0

-- under a list of choices the encapsulated packet is handed over: its trace up to and with the first hand_over matches the steps, what is
-- handed over is the inner packet lowered by one, no binding SID is executed up to there, and what is executed is this
pub record LooseHandsOver (net : Network) (intent : Intent) (steps : List TraceStep) (segments : List ℕ) (inner : Content) (hop : ℕ)
    (executions : List Execution) (choices : List ℕ)
    : Type 0 where
  pub fuel : ℕ
  pub handed : Handed
  pub first : handed_over net (stages_for net intent segments inner hop choices fuel) ≡ Some handed
  pub keeps : Matches (ends_in net) steps (map trace_event handed.trace)
  pub content : handed.content ≡ content_lowered inner
  pub unbound : All (λ n. is_binding net n ≡ false) handed.sids
  pub executed : executions_of net (length steps) steps (through_hand (stages_for net intent segments inner hop choices fuel)) ≡ executions

-- for every list of choices, and what is executed is the same for all: the same SIDs, at the same nodes, after as many finished steps
abbrev pub LooseAlwaysHands : Network → Intent → List TraceStep → List ℕ → Content → ℕ → List Execution → Type 0
LooseAlwaysHands net intent steps segments inner hop executions =
    (choices : List ℕ) → 0 < length choices → LooseHandsOver net intent steps segments inner hop executions choices

-- every SID of a list is executed, once, and in the list's order
abbrev pub ExecutesEach : Network → List Container → List Execution → Type 0
ExecutesEach net list executions = map (λ (e : Execution). prefix_at net e.sid) executions ≡ prefixes_in list

-- so it is for every inner packet of the intent's family, and above an outer hop limit: with the same executions, one for each SID of the
-- list, in list order
pub record LooseReaches (net : Network) (intent : Intent) (steps : List TraceStep) (list : List Container) (n : ℕ) : Type 0 where
  pub executions : List Execution
  pub each : ExecutesEach net list executions
  pub always : (inner : Content) → IsInner intent.inner inner → (hop : ℕ) → n < hop
      → LooseAlwaysHands net intent steps (list_values net list) inner hop executions

-- the list realizes the steps, and needs such an outer hop limit: the least one above which it is so
pub record LooseListRealizes (net : Network) (intent : Intent) (steps : List TraceStep) (list : List Container) (need : ℕ) : Type 0 where
  pub reaches : LooseReaches net intent steps list need
  pub least : (n : ℕ) → LooseReaches net intent steps list n → need ≤ n

-- wherever the list hands over, as many SIDs are executed
abbrev pub LooseListExecutes : Network → Intent → List TraceStep → List Container → ℕ → Type 0
LooseListExecutes net intent steps list count =
    (inner : Content) (hop : ℕ) (executions : List Execution) (choices : List ℕ)
    → (h : LooseHandsOver net intent steps (list_values net list) inner hop executions choices) → length h.handed.sids ≡ count

-- the list hands over even one inner packet at one outer hop limit, for every list of choices, with the same executions, be they of all
-- its SIDs or not
pub record LooseListHands (net : Network) (intent : Intent) (steps : List TraceStep) (list : List Container) (hop : ℕ) : Type 0 where
  pub positive : 0 < hop
  pub inner : Content
  pub executions : List Execution
  pub always : LooseAlwaysHands net intent steps (list_values net list) inner hop executions
