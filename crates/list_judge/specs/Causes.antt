-- Need not be believed: that `judge` names these is tested, and not proved yet.
-- Why a list doesn't realize an intent: the first of its SIDs that isn't executed for all choices alike, and what happens on the way to it.
-- (own rule)
use Rattle.std.specs.Prelude.{◌≡◌, ◌≢◌, ◌⊎◌, ℕ, zero, suc, ◌+◌, ◌<◌, nat_le, Bool, ◌&&◌, if◌then◌else◌, List, [], ◌∷◌, length, Option, Some, None}
use Rattle.srv6_rules.specs.Packet.{Packet, Content, V6}
use Rattle.net_model.specs.Network.{Network}
use Rattle.walk_rules.specs.declared.place.Outcome.{Outcome}
use Rattle.walk_rules.specs.declared.place.Outcome.TheVariants as outcomes
use Rattle.walk_rules.specs.Walk.{choice_at}
use Rattle.intent_traces.specs.declared.trace_steps.TraceStep.{TraceStep}
use Rattle.loose_walks.specs.WalkStops.{ends_in}
use Rattle.intent_reader.specs.declared.intent.Intent.{Intent}
use Rattle.intent_reader.specs.IntentRules.{has_reach}
use Rattle.list_pack.specs.declared.types.Container.{Container}
use Rattle.list_pack.specs.SidLists.{list_values, prefixes_in}
use Rattle.leg_table.specs.PositionSids.{is_binding}
use Rattle.leg_table.specs.Realizes.{IsInner, encapsulated_for, headend_place}
use Rattle.binding_spec.specs.OwnHands.{behind_push, most_stages}
use Rattle.binding_spec.specs.TunnelWalks.{TunnelStage, tunnel_walk}
use Rattle.loose_spec.specs.LooseExecutions.{left_by_outcome}
use Rattle.loose_legs.specs.IntentSteps.{trace_steps}
use Rattle.list_causes.specs.declared.cause.Cause.{Cause}
use Rattle.list_causes.specs.declared.cause.Cause.TheVariants as causes

-- ---- one walk

-- what a walk comes to on the way to a SID: it is executed at a node, with so many steps left; the packet is lost; it leaves the steps; or
-- the packet inside is handed over before, with so many steps left. Or the stages don't say it yet
pub data Fate : Type 0 where
  Comes : ℕ → ℕ → Fate
  Lost : Fate
  Astray : Fate
  Hands : ℕ → Fate
  Unended : Fate

-- behind an event that is the steps' next, with the steps that are left then; else the packet leaves the steps
abbrev pub unless_astray : Option (List TraceStep) → (List TraceStep → Fate) → Fate
unless_astray None later = Astray
unless_astray (Some ts) later = later ts

-- over a link that leads out of the network it is lost
abbrev pub fate_over : Option ℕ → Fate → Fate
fate_over None within = Lost
fate_over (Some node) within = within

-- the SID is executed, or one before it, behind which so many are still to come
abbrev pub fate_executed : ℕ → ℕ → (ℕ → List TraceStep → Fate) → List TraceStep → Fate
fate_executed zero node later ts = Comes node (length ts)
fate_executed (suc more) node later ts = later more ts

abbrev pub fate_handed : ℕ → ℕ → List TraceStep → Fate
fate_handed zero node ts = Comes node (length ts)
fate_handed (suc more) node ts = Hands (length ts)

-- by the outcome of a stage at a node, with these packets below, the steps that are left behind it if it is the steps' next, and what
-- follows. A binding SID leaves the steps where one of them is to reach a node; what headers in front execute isn't one of the list's SIDs
abbrev pub fate_by : Network → Bool → ℕ → List Packet → ℕ → Option (List TraceStep) → (ℕ → List TraceStep → Fate) → Outcome → Fate
fate_by net loose more [] node left later (outcomes.Again n how) =
    if loose && is_binding net n then Astray else unless_astray left (fate_executed more node later)
fate_by net loose more [] node left later (outcomes.Hand n how family) = unless_astray left (fate_handed more node)
fate_by net loose more (p ∷ under) node left later (outcomes.Again n how) = unless_astray left (later more)
fate_by net loose more (p ∷ under) node left later (outcomes.Hand n how family) = unless_astray left (later more)
fate_by net loose more under node left later (outcomes.Send link) = fate_over (ends_in net link) (unless_astray left (later more))
fate_by net loose more under node left later outcomes.Local = Lost
fate_by net loose more under node left later (outcomes.Drop reason error) = Lost

-- the fate that stages tell on the way to the SID before which so many are executed, where so many stages were behind a binding SID, and
-- these steps are left
abbrev pub fate_of : Network → Bool → ℕ → ℕ → List TraceStep → List TunnelStage → Fate
fate_of net loose more pushed ts [] = Unended
fate_of net loose more pushed ts (s ∷ ss) =
    if nat_le (behind_push pushed s.under + 1) most_stages
    then fate_by net loose more s.under s.place.node (left_by_outcome net ts s.gave.outcome)
    (λ m us. fate_of net loose m (behind_push pushed s.under) us ss) s.gave.outcome
    else Lost

-- ---- all walks

-- of an inner packet that is encapsulated for a list, at a hop limit and under a list of choices, in so many stages
abbrev pub fate_at : Network → Intent → List Container → ℕ → Content → ℕ → List ℕ → ℕ → Fate
fate_at net intent list number inner hop choices fuel =
    fate_of net (has_reach intent.steps) number 0 (trace_steps intent)
    (tunnel_walk fuel net (Some (headend_place intent)) (V6 (encapsulated_for intent (list_values net list) inner hop)) []
    (choice_at choices) 0)

-- under a list of choices packets come to a fate at some hop limit; they are lost where they are so at each
abbrev pub ComesTo : Network → Intent → List Container → ℕ → List ℕ → Fate → Type 0
ComesTo net intent list number choices fate =
    (inner : Content) → IsInner intent.inner inner → (hop : ℕ) × (fuel : ℕ) × (fate_at net intent list number inner hop choices fuel ≡ fate)

abbrev pub AreLost : Network → Intent → List Container → ℕ → List ℕ → Type 0
AreLost net intent list number choices =
    (inner : Content) → IsInner intent.inner inner → (hop : ℕ) → 0 < hop
    → (fuel : ℕ) × (fate_at net intent list number inner hop choices fuel ≡ Lost)

-- the SID of a number, from 0, is executed at one node and after one number of finished steps, whatever is chosen
pub record IsExecutedAlike (net : Network) (intent : Intent) (list : List Container) (number : ℕ) : Type 0 where
  pub node : ℕ
  pub left : ℕ
  pub always : (choices : List ℕ) → 0 < length choices → ComesTo net intent list number choices (Comes node left)

-- the first SID that isn't, counted from 1; 0 where all are
abbrev pub IsFirstBad : Network → Intent → List Container → ℕ → Type 0
IsFirstBad net intent list zero = (n : ℕ) → n < length (prefixes_in list) → IsExecutedAlike net intent list n
IsFirstBad net intent list (suc number) =
    (number < length (prefixes_in list)) × ((n : ℕ) → n < number → IsExecutedAlike net intent list n)
    × (¬ IsExecutedAlike net intent list number)

-- ---- causes

-- a cause happens under some choice on the way to the SID of a number, from 0
abbrev pub Happens : Network → Intent → List Container → ℕ → Cause → Type 0
Happens net intent list number causes.Lost = (choices : List ℕ) × (0 < length choices) × AreLost net intent list number choices
Happens net intent list number causes.Astray = (choices : List ℕ) × (0 < length choices) × ComesTo net intent list number choices Astray
Happens net intent list number causes.Apart =
    (a : List ℕ) × (b : List ℕ) × (node : ℕ) × (left : ℕ) × (other : ℕ) × (also : ℕ) × (0 < length a) × (0 < length b)
    × ComesTo net intent list number a (Comes node left) × ComesTo net intent list number b (Comes other also)
    × ((node ≢ other) ⊎ (left ≢ also))
Happens net intent list number causes.Early =
    (choices : List ℕ) × (left : ℕ) × (0 < length choices) × (0 < left) × ComesTo net intent list number choices (Hands left)
Happens net intent list number causes.Unexecuted =
    (choices : List ℕ) × (0 < length choices) × ComesTo net intent list number choices (Hands 0)

-- the causes that come before one
abbrev pub before : Cause → List Cause
before causes.Lost = []
before causes.Astray = causes.Lost ∷ []
before causes.Apart = causes.Lost ∷ causes.Astray ∷ []
before causes.Early = causes.Lost ∷ causes.Astray ∷ causes.Apart ∷ []
before causes.Unexecuted = causes.Lost ∷ causes.Astray ∷ causes.Apart ∷ causes.Early ∷ []

abbrev pub NoneHappens : Network → Intent → List Container → ℕ → List Cause → Type 0
NoneHappens net intent list number [] = Unit {0}
NoneHappens net intent list number (c ∷ cs) = (¬ Happens net intent list number c) × NoneHappens net intent list number cs

-- the number of the SID on the way to which the cause is sought, from 0; behind the last one where all are executed
abbrev pub sought : List Container → ℕ → ℕ
sought list zero = length (prefixes_in list)
sought list (suc number) = number

-- the first bad SID of a list, and the first cause that happens on the way to it
pub record IsFailure (net : Network) (intent : Intent) (list : List Container) (sid : ℕ) (cause : Cause) : Type 0 where
  pub first : IsFirstBad net intent list sid
  pub happens : Happens net intent list (sought list sid) cause
  pub none : NoneHappens net intent list (sought list sid) (before cause)
