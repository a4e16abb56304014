-- Need not be believed: helps proofs and other laws.
-- What holds of an intent that keeps the rules in its network, fact by fact.
use Rattle.std.specs.Prelude.{◌≡◌, ◌≢◌, ℕ, ◌+◌, ◌-◌, ◌^◌, ◌<◌, ◌≤◌, List, length, slice_get, Some, take, Contains, IsTrue}
use Rattle.srv6_rules.specs.declared.sid.SidEntry.{SidEntry}
use Rattle.net_model.specs.declared.parts.Link.{Link}
use Rattle.net_model.specs.Network.{Network}
use Rattle.net_model.specs.NetworkKeeps.{IsLinkSet}
use Rattle.net_syntax.specs.declared.limits.TheConstants.{MAX_STEPS, MAX_CONTAINERS, MAX_LOOSE_SIDS}
use Rattle.intent_reader.specs.declared.intent.Step.{Step}
use Rattle.intent_reader.specs.declared.intent.Step.TheVariants.{Links, Function, Reach}
use Rattle.intent_reader.specs.declared.intent.Intent.{Intent}
use Rattle.intent_reader.specs.IntentRules.{node_after, stand_after, has_reach}

-- the link is there, and leads from the one node to the other
abbrev pub Leads : Network → ℕ → ℕ → ℕ → Type 0
Leads net from to link = (l : Link) × (slice_get net.links link ≡ Some l) × (l.from ≡ from) × (l.to ≡ Some to)

-- a step from a node to a node: links all of which lead from the one to the other, a function at the node, or that another node is
-- reached
abbrev pub Steps : Network → ℕ → Step → ℕ → Type 0
Steps net node (Links set) next = IsLinkSet net.links node set × ((link : ℕ) → Contains set link → Leads net node next link)
Steps net node (Function sid) next =
    (s : SidEntry) × (title : ℕ) × (slice_get net.sids sid ≡ Some s) × (s.node ≡ node) × (s.title ≡ Some title) × (next ≡ node)
Steps net node (Reach reached) next = (reached < length net.nodes) × (node ≢ reached) × (next ≡ reached)

-- the walk over the steps stands somewhere after them
abbrev pub Stands : Network → ℕ → List Step → Type 0
Stands net node steps = (at : ℕ) × (stand_after net node steps ≡ Some at)

-- step k of the steps is taken where the walk stands after the k steps before it
pub record IsTaken (net : Network) (node : ℕ) (steps : List Step) (k : ℕ) (s : Step) : Type 0 where
  pub at : ℕ
  pub next : ℕ
  pub before : stand_after net node (take k steps) ≡ Some at
  pub step : node_after net at s ≡ Some next
  pub meaning : Steps net at s next
  pub after : stand_after net node (take (k + 1) steps) ≡ Some next

pub record KeepsIntent (net : Network) (i : Intent) : Type 0 where
  pub headend : i.headend < length net.nodes
  pub hop_limit : 1 ≤ i.hop_limit
  pub some_containers : 1 ≤ i.max_containers
  pub most_containers : i.max_containers ≤ MAX_CONTAINERS
  pub flow_label : i.flow_label < 2 ^ 20
  pub some_steps : 1 ≤ length i.steps
  pub most_steps : length i.steps ≤ MAX_STEPS
  pub walk : Stands net i.headend i.steps
  pub front : (k : ℕ) → Stands net i.headend (take k i.steps)
  pub step : (k : ℕ) (s : Step) → slice_get i.steps k ≡ Some s → IsTaken net i.headend i.steps k s
  pub loose : IsTrue (has_reach i.steps) → length net.sids ≤ MAX_LOOSE_SIDS
  pub last : (sid : ℕ) × (slice_get i.steps (length i.steps - 1) ≡ Some (Function sid))
