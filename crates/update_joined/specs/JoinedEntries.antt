-- Need not be believed: helps proofs and other laws.
-- The entries of a description as they are compared: a title goes by its number in the description's own list.
use Rattle.std.specs.Prelude.{◌≡◌, ◌≢◌, ℕ, ◌+◌, ◌-◌, ◌<◌, ◌^◌, Bool, true, not, List, [], ◌∷◌, ◌++◌, length, slice_get, Option, None, option_and_then, Result, Ok, Err}
use Rattle.srv6_rules.specs.declared.family.Family.TheVariants as families
use Rattle.srv6_rules.specs.declared.sid.SidEntry.{SidEntry}
use Rattle.text_faults.specs.declared.text_place.TableKind.TheVariants as tables
use Rattle.net_model.specs.declared.parts.Node.{Node}
use Rattle.net_model.specs.declared.parts.Route.{Route}
use Rattle.net_model.specs.Network.{Network}
use Rattle.net_model.specs.NetworkJudging.{same_text}
use Rattle.net_flatness.specs.Flat.{address_prefix}
use Rattle.net_model.specs.declared.net.EntryId.TheVariants as ids
use Rattle.update_joined.specs.declared.entry.PlanEntry.{PlanEntry}
use Rattle.update_spec.specs.declared.plan_fault.PlanFault.{PlanFault}
use Rattle.update_spec.specs.declared.plan_fault.PlanFault.TheVariants as faults
use Rattle.update_spec.specs.Equal.{equal_block, equal_node, equal_link, equal_policy}
use Rattle.update_spec.specs.Planning.{Item, differing, and_then}

-- the text of the title with a number
abbrev pub text_of : List (List ℕ) → Option ℕ → Option (List ℕ)
text_of titles o = option_and_then (slice_get titles) o

-- what an entry is among entries of a description with these titles
abbrev pub item_of : List (List ℕ) → PlanEntry → Item
item_of titles e = record {
  id = e.id;
  node = e.node;
  table = e.table;
  family = e.family;
  prefix = e.prefix;
  title = text_of titles e.title;
  kept = e.kept;
}

abbrev pub is_added : PlanEntry → Bool
is_added e = not e.kept

-- an old entry and a new one have titles of one text
abbrev pub have_one_title : List (List ℕ) → List (List ℕ) → PlanEntry → PlanEntry → Bool
have_one_title before after a b = same_text (text_of before a.title) (text_of after b.title)

-- the entries of items, the first of which has the number n
abbrev pub entries_from : {X : Type 0} → (ℕ → X → PlanEntry) → ℕ → List X → List PlanEntry
entries_from entry n [] = []
entries_from entry n (x ∷ xs) = entry n x ∷ entries_from entry (n + 1) xs

abbrev pub route_entry : (Route → Bool) → ℕ → Route → PlanEntry
route_entry kept n r =
    record { id = ids.Route n; node = r.node; table = r.table; family = r.family; prefix = r.prefix; title = None; kept = kept r }

abbrev pub sid_entry : (SidEntry → Bool) → ℕ → SidEntry → PlanEntry
sid_entry kept n s =
    record { id = ids.Sid n; node = s.node; table = 0; family = families.V6; prefix = s.prefix; title = s.title; kept = kept s }

abbrev pub address_entry : ℕ → Node → PlanEntry
address_entry n node =
    record { id = ids.Address n; node = n; table = 0; family = families.V6; prefix = address_prefix node; title = None; kept = true }

-- the entries of a description, routes before SIDs before addresses
abbrev pub entries_of : (Route → Bool) → (SidEntry → Bool) → Network → List PlanEntry
entries_of route_kept sid_kept net =
    entries_from (route_entry route_kept) 0 net.routes ++ (entries_from (sid_entry sid_kept) 0 net.sids
    ++ entries_from address_entry 0 net.nodes)

-- the tables are shorter than numbers of 32 bits count
pub record AreFew (net : Network) : Type 0 where
  pub blocks : length net.blocks < 2 ^ 32 - 1
  pub nodes : length net.nodes < 2 ^ 32 - 1
  pub links : length net.links < 2 ^ 32 - 1
  pub routes : length net.routes < 2 ^ 32 - 1
  pub policies : length net.policies < 2 ^ 32 - 1
  pub sids : length net.sids < 2 ^ 32 - 1

-- the first item of a table that is not equal in both
abbrev pub differences : Network → Network → Result (Unit {0}) PlanFault
differences old new =
    and_then (differing tables.Block equal_block old.blocks new.blocks)
    (and_then (differing tables.Node equal_node old.nodes new.nodes)
    (and_then (differing tables.Link equal_link old.links new.links) (differing tables.Policy equal_policy old.policies new.policies)))

-- an answer is the wanted one, but for want of memory
abbrev pub Answers : {X : Type 0} → Result X PlanFault → Result (Unit {0}) PlanFault → Type 0
Answers (Ok x) wanted = wanted ≡ Ok tt
Answers (Err fault) wanted = fault ≢ faults.NoMemory → wanted ≡ Err fault
