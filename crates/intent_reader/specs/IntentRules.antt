-- The rules that an intent keeps in its network.
use Rattle.std.specs.Prelude.{ℕ, Bool, true, false, ◌==◌, ◌&&◌, ◌||◌, not, nat_lt, nat_le, if◌then◌else◌, List, [], ◌∷◌, length, slice_get, Option, Some, None, is_some}
use Rattle.std.specs.List.{list_all, list_any}
use Rattle.std.specs.Option.{option_and_then}
use Rattle.srv6_rules.specs.declared.sid.SidEntry.{SidEntry}
use Rattle.net_model.specs.declared.parts.Link.{Link}
use Rattle.net_model.specs.Network.{Network}
use Rattle.net_model.specs.NetworkRules.{is_link_set}
use Rattle.net_syntax.specs.declared.limits.TheConstants.{MAX_LOOSE_SIDS}
use Rattle.intent_reader.specs.declared.intent.Step.{Step}
use Rattle.intent_reader.specs.declared.intent.Step.TheVariants.{Links, Function, Reach}

-- the node where a link ends, if it is there and ends in the network
abbrev pub end_of_link : Option Link → Option ℕ
end_of_link None = None
end_of_link (Some l) = l.to

abbrev pub is_at : ℕ → Option ℕ → Bool
is_at node None = false
is_at node (Some to) = to == node

-- the link ends at the node
abbrev pub ends_at : Network → ℕ → ℕ → Bool
ends_at net node link = is_at node (end_of_link (slice_get net.links link))

-- links of one node that all end at another
abbrev pub far_node : Network → ℕ → List ℕ → Option ℕ → Option ℕ
far_node net node set None = None
far_node net node set (Some to) = if is_link_set net.links node set && list_all (ends_at net to) set then Some to else None

abbrev pub first_end : Network → List ℕ → Option ℕ
first_end net [] = None
first_end net (link ∷ links) = end_of_link (slice_get net.links link)

-- a SID with a title, of the node
abbrev pub function_node : ℕ → Option SidEntry → Option ℕ
function_node node None = None
function_node node (Some s) = if (s.node == node) && is_some s.title then Some node else None

-- a node of the network other than this one
abbrev pub reached_node : Network → ℕ → ℕ → Option ℕ
reached_node net node reached = if nat_lt reached (length net.nodes) && not (node == reached) then Some reached else None

-- where the walk stands after a step from a node: at the end of the step's links, where it stood, or at the node that it reaches
abbrev pub node_after : Network → ℕ → Step → Option ℕ
node_after net node (Links set) = far_node net node set (first_end net set)
node_after net node (Function sid) = function_node node (slice_get net.sids sid)
node_after net node (Reach reached) = reached_node net node reached

-- where the walk stands after steps from a node, if each starts where the one before it ended
abbrev pub stand_after : Network → ℕ → List Step → Option ℕ
stand_after net node [] = Some node
stand_after net node (s ∷ ss) = option_and_then (λ next. stand_after net next ss) (node_after net node s)

abbrev pub is_function : Step → Bool
is_function (Links set) = false
is_function (Function sid) = true
is_function (Reach reached) = false

abbrev pub ends_in_function : List Step → Bool
ends_in_function [] = false
ends_in_function (s ∷ []) = is_function s
ends_in_function (s ∷ t ∷ ss) = ends_in_function (t ∷ ss)

abbrev pub is_reach : Step → Bool
is_reach (Links set) = false
is_reach (Function sid) = false
is_reach (Reach reached) = true

-- some step is to reach a node
abbrev pub has_reach : List Step → Bool
has_reach steps = list_any is_reach steps

-- a step is loose only where the network has few SIDs
abbrev pub is_within_loose_limit : Network → List Step → Bool
is_within_loose_limit net steps = not (has_reach steps) || nat_le (length net.sids) MAX_LOOSE_SIDS
