-- The first fault of the parts of a network: the tables in their order, of a table its items in the order of the
-- file, and of an item the tests in the order in which they are written here.
use Rattle.std.specs.Prelude.{ℕ, ◌+◌, pos, Bool, true, false, ◌==◌, ◌&&◌, ◌||◌, not, nat_lt, nat_le, if◌then◌else◌, count_by, List, [], ◌∷◌, ◌++◌, length, slice_get, Option, Some, None, is_some, option_and_then, Result, Ok, Err}
use Rattle.std.specs.List.{list_any, list_all}
use Rattle.srv6_rules.specs.declared.sid.SidEntry.{SidEntry}
use Rattle.srv6_rules.specs.Behaviours.{behaviour_goes_on, behaviour_takes_links, behaviour_table, behaviour_policy, behaviour_takes_flavours, is_plain}
use Rattle.net_model.specs.declared.limits.TheConstants.{MAX_SIDS_OF_NODE}
use Rattle.text_faults.specs.declared.text_place.TableKind.{TableKind}
use Rattle.text_faults.specs.declared.text_place.TableKind.TheVariants as tables
use Rattle.text_faults.specs.declared.text_place.Key.TheVariants as keys
use Rattle.text_faults.specs.declared.text_place.FaultPlace.{FaultPlace}
use Rattle.text_faults.specs.declared.fault.TextFault.{TextFault}
use Rattle.text_faults.specs.declared.fault_kind.FaultKind.TheVariants as kinds
use Rattle.text_faults.specs.TextFaults.{fault_at}
use Rattle.net_model.specs.declared.parts.Block.{Block}
use Rattle.net_model.specs.declared.parts.NamedPolicy.{NamedPolicy}
use Rattle.net_model.specs.declared.parts.Node.{Node}
use Rattle.net_model.specs.declared.parts.Link.{Link}
use Rattle.net_model.specs.declared.parts.Route.{Route}
use Rattle.net_model.specs.declared.standing.Standing.{Standing}
use Rattle.net_model.specs.Network.{Network}
use Rattle.net_model.specs.NetworkRules.{are_distinct, same_bytes, is_block_len, overlap, same_node_name, same_node_address, same_link_name, starts_at, same_number, same_route, same_policy_name, suits_flavours, block_of, suits_block, same_sid, is_sid_of}

-- ---- judging

-- of tests with their faults the first that holds
abbrev pub first_of : List (Bool × TextFault) → Result (Unit {0}) TextFault
first_of [] = Ok tt
first_of (row ∷ rows) = if row.0 then Err row.1 else first_of rows

-- what follows where there is no fault
abbrev pub and_then : Result (Unit {0}) TextFault → Result (Unit {0}) TextFault → Result (Unit {0}) TextFault
and_then (Ok u) next = next
and_then (Err fault) next = Err fault

-- the items of a table one after another, each beside those before it; they are counted from 1
abbrev pub judged : {X : Type 0} → TableKind → (List X → FaultPlace → X → Result (Unit {0}) TextFault) → List X → List X
    → Result (Unit {0}) TextFault
judged kind judge before [] = Ok tt
judged kind judge before (x ∷ rest) =
    and_then (judge before (record { table = kind; item = length before + 1 }) x) (judged kind judge (before ++ x ∷ []) rest)

-- an earlier item is the same
abbrev pub stands_before : {X : Type 0} → (X → X → Bool) → List X → X → Bool
stands_before same before x = list_any (λ earlier. same earlier x) before

abbrev pub judge_block : List Block → FaultPlace → Block → Result (Unit {0}) TextFault
judge_block before p b = first_of (
    (not (is_block_len b.prefix.len), fault_at p kinds.BadStructure)
    ∷ (stands_before overlap before b, fault_at p kinds.BadStructure) ∷ [])

abbrev pub judge_node : List Node → FaultPlace → Node → Result (Unit {0}) TextFault
judge_node before p n = first_of (
    (stands_before same_node_name before n, fault_at p kinds.DoubleName)
    ∷ (stands_before same_node_address before n, fault_at p kinds.DoublePrefix) ∷ [])

-- a number out of range stands for an unknown name
abbrev pub is_unknown : ℕ → ℕ → Bool
is_unknown count n = not (nat_lt n count)

abbrev pub is_unknown_end : ℕ → Option ℕ → Bool
is_unknown_end node_count None = false
is_unknown_end node_count (Some to) = is_unknown node_count to

abbrev pub ends_at : ℕ → Option ℕ → Bool
ends_at node None = false
ends_at node (Some to) = to == node

abbrev pub judge_link : ℕ → List Link → FaultPlace → Link → Result (Unit {0}) TextFault
judge_link node_count before p l = first_of (
    (stands_before same_link_name before l, fault_at p kinds.DoubleName)
    ∷ (is_unknown node_count l.from, fault_at p kinds.UnknownName)
    ∷ (is_unknown_end node_count l.to, fault_at p kinds.UnknownName)
    ∷ (ends_at l.from l.to, fault_at p kinds.BadStructure) ∷ [])

-- some links of the node, each once
abbrev pub is_set_of : List Link → ℕ → List ℕ → Bool
is_set_of links node set = nat_le 1 (length set) && (are_distinct same_number set && list_all (starts_at links node) set)

-- a route, of which it is known whether an earlier one is the same
abbrev pub judge_route_beside : ℕ → List Link → Bool → FaultPlace → Route → Result (Unit {0}) TextFault
judge_route_beside node_count links is_double p r = first_of (
    (is_unknown node_count r.node, fault_at p kinds.UnknownName)
    ∷ (list_any (is_unknown (length links)) r.via, fault_at p kinds.UnknownName)
    ∷ (not (is_set_of links r.node r.via), fault_at p kinds.BadStructure)
    ∷ (is_double, fault_at p kinds.DoublePrefix) ∷ [])

abbrev pub judge_route : ℕ → List Link → List Route → FaultPlace → Route → Result (Unit {0}) TextFault
judge_route node_count links before p r = judge_route_beside node_count links (stands_before same_route before r) p r

abbrev pub judge_policy : List NamedPolicy → FaultPlace → NamedPolicy → Result (Unit {0}) TextFault
judge_policy before p q = first_of (
    (stands_before same_policy_name before q, fault_at p kinds.DoubleName)
    ∷ (length q.policy.segments == 0, fault_at p kinds.BadStructure) ∷ [])

-- ---- SIDs

abbrev pub same_answer : Bool → Bool → Bool
same_answer true b = b
same_answer false b = not b

-- how a SID stands that has the keys that its behaviour takes, and no flavour twice
abbrev pub fitting : SidEntry → Standing
fitting s = record {
  links = behaviour_takes_links s.behaviour;
  table = is_some (behaviour_table s.behaviour);
  policy = is_some (behaviour_policy s.behaviour);
  double_flavour = false;
}

abbrev pub standing_or : SidEntry → Option Standing → Standing
standing_or s None = fitting s
standing_or s (Some k) = k

-- a SID has the keys that its behaviour takes, and no links where it takes none
abbrev pub suits_keys : Standing → SidEntry → Bool
suits_keys k s =
    same_answer k.links (behaviour_takes_links s.behaviour) && (same_answer k.table (is_some (behaviour_table s.behaviour))
    && (same_answer k.policy (is_some (behaviour_policy s.behaviour))
    && (behaviour_takes_links s.behaviour || (length s.links == 0))))

abbrev pub is_unknown_policy : ℕ → Option ℕ → Bool
is_unknown_policy policy_count None = false
is_unknown_policy policy_count (Some policy) = is_unknown policy_count policy

-- a SID's title, as its text
abbrev pub title_text : List (List ℕ) → SidEntry → Option (List ℕ)
title_text titles s = option_and_then (slice_get titles) s.title

-- both are there, and the same
abbrev pub same_text : Option (List ℕ) → Option (List ℕ) → Bool
same_text None u = false
same_text (Some t) None = false
same_text (Some t) (Some u) = same_bytes t u

abbrev pub same_title_text : List (List ℕ) → SidEntry → SidEntry → Bool
same_title_text titles s t = same_text (title_text titles s) (title_text titles t)

-- the node has as many SIDs before as it may have
abbrev pub is_full : List SidEntry → SidEntry → Bool
is_full before s = nat_le MAX_SIDS_OF_NODE (count_by (is_sid_of s.node) before)

-- the parts that a SID names and the keys that it has
abbrev pub judge_joins : Network → Standing → FaultPlace → SidEntry → Result (Unit {0}) TextFault
judge_joins net k p s = first_of (
    (is_unknown (length net.nodes) s.node, fault_at p kinds.UnknownName)
    ∷ (not (suits_keys k s), fault_at p kinds.BadStructure)
    ∷ (list_any (is_unknown (length net.links)) s.links, fault_at p kinds.UnknownName)
    ∷ (is_unknown_policy (length net.policies) (behaviour_policy s.behaviour), fault_at p kinds.UnknownName)
    ∷ (behaviour_takes_links s.behaviour && not (is_set_of net.links s.node s.links), fault_at p kinds.BadStructure) ∷ [])

-- the compression of a SID suits the block that its prefix lies strictly inside; one in no block is not compressed
abbrev pub suits_compression : Option Block → SidEntry → Bool
suits_compression None s = is_plain s.csid
suits_compression (Some b) s = suits_block s.csid b s.prefix.len (behaviour_goes_on s.behaviour)

-- its flavours and its compression
abbrev pub judge_flavours : Network → Standing → FaultPlace → SidEntry → Result (Unit {0}) TextFault
judge_flavours net k p s = first_of (
    (k.double_flavour, fault_at p kinds.BadFlavour)
    ∷ (not (suits_flavours (behaviour_takes_flavours s.behaviour) s.psp s.usp s.usd), fault_at p kinds.BadFlavour)
    ∷ (not (suits_compression (block_of net.blocks s.prefix) s), fault_at p kinds.BadFlavour) ∷ [])

-- what it has beside earlier SIDs
abbrev pub judge_apart : List (List ℕ) → List SidEntry → FaultPlace → SidEntry → Result (Unit {0}) TextFault
judge_apart titles before p s = first_of (
    (stands_before (same_title_text titles) before s, fault_at p kinds.DoubleName)
    ∷ (stands_before same_sid before s, fault_at p kinds.DoublePrefix)
    ∷ (is_full before s, fault_at p (kinds.Limit keys.Sid (pos (MAX_SIDS_OF_NODE + 1)))) ∷ [])

abbrev pub judge_standing : Network → Standing → List SidEntry → FaultPlace → SidEntry → Result (Unit {0}) TextFault
judge_standing net k before p s = and_then (judge_joins net k p s) (and_then (judge_flavours net k p s) (judge_apart net.titles before p s))

-- the standings go with the SIDs by their numbers; where there is none the SID stands as its behaviour takes it
abbrev pub judge_sid : Network → List Standing → List SidEntry → FaultPlace → SidEntry → Result (Unit {0}) TextFault
judge_sid net standings before p s = judge_standing net (standing_or s (slice_get standings (length before))) before p s

-- ---- the whole

-- the first fault of the parts
unfoldable pub judging : Network → List Standing → Result (Unit {0}) TextFault
judging net standings =
    and_then (judged tables.Block judge_block [] net.blocks)
    (and_then (judged tables.Node judge_node [] net.nodes)
    (and_then (judged tables.Link (judge_link (length net.nodes)) [] net.links)
    (and_then (judged tables.Route (judge_route (length net.nodes) net.links) [] net.routes)
    (and_then (judged tables.Policy judge_policy [] net.policies)
    (judged tables.Sid (judge_sid net standings) [] net.sids)))))
