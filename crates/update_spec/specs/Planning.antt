-- What keeps a network from passing from an old description to a new one, the first fault: a table that is not equal
-- in both, then two entries in conflict, then a limit of the joined network.
--
-- An entry is a route, a SID or a node's address. It is kept where both descriptions have an equal one, and else it is added or
-- removed. Two entries of which one is added or removed are in conflict where an address could be looked up to either, which
-- depends on the moment, or where SIDs have one title.
use Rattle.std.specs.Prelude.{ℕ, ◌+◌, Bool, true, ◌==◌, ◌&&◌, ◌||◌, not, nat_le, if◌then◌else◌, List, [], ◌∷◌, ◌++◌, length, find, Option, Some, None, Result, Ok, Err}
use Rattle.std.specs.List.{list_all}
use Rattle.v6_addr.specs.Address.{PrefixValue, holds_address}
use Rattle.srv6_rules.specs.declared.family.Family.{Family}
use Rattle.srv6_rules.specs.declared.family.Family.TheVariants as families
use Rattle.srv6_rules.specs.declared.sid.SidEntry.{SidEntry}
use Rattle.text_faults.specs.declared.text_place.TableKind.{TableKind}
use Rattle.text_faults.specs.declared.text_place.TableKind.TheVariants as tables
use Rattle.net_model.specs.declared.limits.TheConstants.{MAX_ROUTES, MAX_SIDS}
use Rattle.net_model.specs.declared.parts.Node.{Node}
use Rattle.net_model.specs.declared.parts.Route.{Route}
use Rattle.net_model.specs.Network.{Network}
use Rattle.net_model.specs.NetworkRules.{same_family, has_room}
use Rattle.net_model.specs.NetworkJudging.{title_text, same_text}
use Rattle.net_flatness.specs.Flat.{address_prefix}
use Rattle.net_model.specs.declared.net.EntryId.{EntryId}
use Rattle.net_model.specs.declared.net.EntryId.TheVariants as ids
use Rattle.update_spec.specs.declared.plan_fault.PlanFault.{PlanFault}
use Rattle.update_spec.specs.declared.plan_fault.PlanFault.TheVariants as faults
use Rattle.update_spec.specs.Equal.{equal_block, equal_node, equal_link, equal_policy}
use Rattle.update_spec.specs.Joined.{is_old_route, is_new_route, is_old_sid, is_new_sid, joined_of}

-- ---- tables that differ

-- the first place, from a number on, at which lists differ; a list that ends differs there
abbrev pub first_difference : {X : Type 0} → (X → X → Bool) → ℕ → List X → List X → Option ℕ
first_difference equal n [] [] = None
first_difference equal n [] (y ∷ ys) = Some n
first_difference equal n (x ∷ xs) [] = Some n
first_difference equal n (x ∷ xs) (y ∷ ys) = if equal x y then first_difference equal (n + 1) xs ys else Some n

abbrev pub differs_at : TableKind → Option ℕ → Result (Unit {0}) PlanFault
differs_at kind None = Ok tt
differs_at kind (Some item) = Err (faults.Differs kind item)

-- the first item of a table that is not equal in both, counted from 1, or the first that one of them lacks
abbrev pub differing : {X : Type 0} → TableKind → (X → X → Bool) → List X → List X → Result (Unit {0}) PlanFault
differing kind equal xs ys = differs_at kind (first_difference equal 1 xs ys)

-- ---- entries in conflict

-- an entry of a description: the table that it is in, its prefix, a SID's title, and whether both descriptions have it
pub record Item : Type 0 where
  pub id : EntryId
  pub node : ℕ
  pub table : ℕ
  pub family : Family
  pub prefix : PrefixValue
  pub title : Option (List ℕ)
  pub kept : Bool

-- the entries of items, the first of which has the number n
abbrev pub items_from : {X : Type 0} → (ℕ → X → Item) → ℕ → List X → List Item
items_from item n [] = []
items_from item n (x ∷ xs) = item n x ∷ items_from item (n + 1) xs

abbrev pub route_item : (Route → Bool) → ℕ → Route → Item
route_item kept n r = record {
  id = ids.Route n;
  node = r.node;
  table = r.table;
  family = r.family;
  prefix = r.prefix;
  title = None;
  kept = kept r;
}

-- a SID stands in its node's table 0 of IPv6
abbrev pub sid_item : List (List ℕ) → (SidEntry → Bool) → ℕ → SidEntry → Item
sid_item titles kept n s = record {
  id = ids.Sid n;
  node = s.node;
  table = 0;
  family = families.V6;
  prefix = s.prefix;
  title = title_text titles s;
  kept = kept s;
}

-- and so does a node's own address; both descriptions have it, since their nodes are equal
abbrev pub address_item : ℕ → Node → Item
address_item n node = record {
  id = ids.Address n;
  node = n;
  table = 0;
  family = families.V6;
  prefix = address_prefix node;
  title = None;
  kept = true;
}

-- the entries of a description, routes before SIDs before addresses, with the tests of what the other description has
abbrev pub items_of : (Route → Bool) → (SidEntry → Bool) → Network → List Item
items_of route_kept sid_kept net =
    items_from (route_item route_kept) 0 net.routes ++ (items_from (sid_item net.titles sid_kept) 0 net.sids
    ++ items_from address_item 0 net.nodes)

abbrev pub old_items : Network → Network → List Item
old_items old new = items_of (is_new_route new) (is_new_sid old new) old

abbrev pub new_items : Network → Network → List Item
new_items old new = items_of (is_old_route old) (is_old_sid old new) new

abbrev pub in_one_table : Item → Item → Bool
in_one_table a b = (a.node == b.node) && ((a.table == b.table) && same_family a.family b.family)

-- one prefix holds the other's first address, and so the other
abbrev pub meet : PrefixValue → PrefixValue → Bool
meet p q = holds_address p q.value || holds_address q p.value

abbrev pub conflict : Item → Item → Bool
conflict a b = not (a.kept && b.kept) && ((in_one_table a b && meet a.prefix b.prefix) || same_text a.title b.title)

-- the conflict of an entry with what was found for it, or what comes next
abbrev pub conflict_or : Item → Option Item → Result (Unit {0}) PlanFault → Result (Unit {0}) PlanFault
conflict_or a None next = next
conflict_or a (Some b) next = Err (faults.Conflict a.id b.id)

-- the first old entry that is in conflict with a new one, and the first such new one
abbrev pub conflicting : List Item → List Item → Result (Unit {0}) PlanFault
conflicting news [] = Ok tt
conflicting news (a ∷ olds) = conflict_or a (find (conflict a) news) (conflicting news olds)

-- ---- limits

abbrev pub limit_unless : TableKind → Bool → Result (Unit {0}) PlanFault
limit_unless kind fits = if fits then Ok tt else Err (faults.Limit kind)

-- not too many SIDs, in all and at the node of each
abbrev pub has_few_sids : Network → Bool
has_few_sids net = nat_le (length net.sids) MAX_SIDS && list_all (has_room net.sids) net.sids

-- ---- the whole

-- what follows where there is no fault
abbrev pub and_then : Result (Unit {0}) PlanFault → Result (Unit {0}) PlanFault → Result (Unit {0}) PlanFault
and_then (Ok u) next = next
and_then (Err fault) next = Err fault

-- the limits that added entries can pass
abbrev pub limited : Network → Result (Unit {0}) PlanFault
limited net = and_then (limit_unless tables.Route (nat_le (length net.routes) MAX_ROUTES)) (limit_unless tables.Sid (has_few_sids net))

-- the first fault of passing from the old description to the new one
unfoldable pub planning : Network → Network → Result (Unit {0}) PlanFault
planning old new =
    and_then (differing tables.Block equal_block old.blocks new.blocks)
    (and_then (differing tables.Node equal_node old.nodes new.nodes)
    (and_then (differing tables.Link equal_link old.links new.links)
    (and_then (differing tables.Policy equal_policy old.policies new.policies)
    (and_then (conflicting (new_items old new) (old_items old new)) (limited (joined_of old new))))))
