-- Need not be believed: no program stands on it yet.
-- Words on the tree of a plan: what a value is read as, what a key of a table gives, and what an array of tables gives. Values are read
-- as those of descriptions (`toml_reader`), and their faults are told at the plan's places and keys.
use Rattle.std.specs.Prelude.{ℕ, suc, pos, Bool, true, ◌&&◌, nat_le, if◌then◌else◌, List, [], ◌∷◌, length, Option, Some, None, Result, Ok, Err, bytes_eq}
use Rattle.std.specs.List.{list_any}
use Rattle.toml.specs.Data.{Data, Members, no_members, member, get_member, as_bool}
use Rattle.text_faults.specs.declared.text_place.FaultPlace.{FaultPlace}
use Rattle.text_faults.specs.declared.text_place.TableKind.TheVariants as places
use Rattle.text_faults.specs.declared.text_place.Key.{Key}
use Rattle.text_faults.specs.declared.text_place.Key.TheVariants as words
use Rattle.text_faults.specs.declared.fault.TextFault.{TextFault}
use Rattle.toml_reader.specs.TomlReading.{◌>>=◌, read_map, or_fault}
use Rattle.toml_reader.specs.Tree as tree
use Rattle.net_syntax.specs.declared.family_prefix.FamilyPrefix.{FamilyPrefix}
use Rattle.net_syntax.specs.Prefixes as prefixes
use Rattle.plan_syntax.specs.declared.plan_places.PlanTable.{PlanTable}
use Rattle.plan_syntax.specs.declared.plan_places.PlanKey.{PlanKey}
use Rattle.plan_syntax.specs.declared.plan_places.PlanPlace.{PlanPlace}
use Rattle.plan_syntax.specs.declared.plan_faults.PlanFault.{PlanFault}
use Rattle.plan_syntax.specs.declared.plan_faults.PlanFaultKind.TheVariants as kinds
use Rattle.plan_syntax.specs.PlanWords.{plan_key_text}
use Rattle.plan_syntax.specs.PlanFaults.{plan_fault_at, kind_told}

-- ---- values

-- what is read, its fault told at a place of a plan and under its key
abbrev pub told_at : {X : Type 0} → PlanPlace → PlanKey → Result X TextFault → Result X PlanFault
told_at p k (Ok x) = Ok x
told_at p k (Err fault) = Err (plan_fault_at p (kind_told k fault.kind))

-- a place and a key of descriptions, which aren't told of a plan
abbrev pub any_place : FaultPlace
any_place = record { table = places.Net; item = 0 }

abbrev pub any_key : Key
any_key = words.Name

abbrev pub name_in : PlanPlace → PlanKey → Data → Result (List ℕ) PlanFault
name_in p k d = told_at p k (tree.name_in any_place any_key d)

abbrev pub prefix_in : PlanPlace → PlanKey → Data → Result FamilyPrefix PlanFault
prefix_in p k d = told_at p k (prefixes.family_prefix_in any_place any_key d)

abbrev pub number_in : ℕ → ℕ → PlanPlace → PlanKey → Data → Result ℕ PlanFault
number_in least most p k d = told_at p k (tree.number_in least most any_place any_key d)

abbrev pub flag_in : PlanPlace → PlanKey → Data → Result Bool PlanFault
flag_in p k d = or_fault (plan_fault_at p kinds.WrongKind) (as_bool d)

-- what may be absent, where it is there
abbrev pub given : {X : Type 0} → (PlanPlace → PlanKey → Data → Result X PlanFault) → PlanPlace → PlanKey → Data
    → Result (Option X) PlanFault
given kind p k d = read_map Some (kind p k d)

-- ---- arrays

abbrev pub array_in : PlanPlace → PlanKey → Data → Result (List Data) PlanFault
array_in p k d = told_at p k (tree.array_in any_place d)

-- a count that isn't above the most
abbrev pub count_in : PlanPlace → PlanKey → ℕ → ℕ → Result ℕ PlanFault
count_in p k most count = if nat_le count most then Ok count else Err (plan_fault_at p (kinds.Limit k (pos count)))

-- not more than so many
abbrev pub few : {X : Type 0} → PlanPlace → PlanKey → ℕ → List X → Result (List X) PlanFault
few p k most xs = do
  count ← count_in p k most (length xs)
  Ok xs

-- at least one
abbrev pub some_of : {X : Type 0} → PlanPlace → PlanKey → List X → Result (List X) PlanFault
some_of p k xs = if nat_le 1 (length xs) then Ok xs else Err (plan_fault_at p (kinds.Limit k (pos (length xs))))

-- one after another, with their numbers
abbrev pub each_from : {X Y : Type 0} → (ℕ → X → Result Y PlanFault) → ℕ → List X → Result (List Y) PlanFault
each_from read n [] = Ok []
each_from read n (x ∷ xs) = do
  y ← read n x
  ys ← each_from read (suc n) xs
  Ok (y ∷ ys)

-- a list: its length is judged before its members
abbrev pub list_in : {X : Type 0} → ℕ → (PlanPlace → PlanKey → Data → Result X PlanFault) → PlanPlace → PlanKey → Data
    → Result (List X) PlanFault
list_in most kind p k d = do
  ds ← array_in p k d
  members ← few p k most ds
  each_from (λ n. kind p k) 0 members

-- ---- what a key of a table gives

-- a key that is needed
abbrev pub needed : {X : Type 0} → (PlanPlace → PlanKey → Data → Result X PlanFault) → PlanPlace → Members → PlanKey → Result X PlanFault
needed kind p t k = do
  d ← or_fault (plan_fault_at p (kinds.MissingKey k)) (get_member (plan_key_text k) t)
  kind p k d

abbrev pub or_default : {X : Type 0} → (PlanPlace → PlanKey → Data → Result X PlanFault) → X → PlanPlace → PlanKey → Option Data
    → Result X PlanFault
or_default kind default p k None = Ok default
or_default kind default p k (Some d) = kind p k d

-- a key that may be absent, with its default
abbrev pub optional : {X : Type 0} → (PlanPlace → PlanKey → Data → Result X PlanFault) → X → PlanPlace → Members → PlanKey
    → Result X PlanFault
optional kind default p t k = or_default kind default p k (get_member (plan_key_text k) t)

-- each key of a table is one of these
abbrev pub has_only : List PlanKey → Members → Bool
has_only keys no_members = true
has_only keys (member key d ms) = list_any (λ k. bytes_eq (plan_key_text k) key) keys && has_only keys ms

-- a table without other keys
abbrev pub only : List PlanKey → PlanPlace → Members → Result Members PlanFault
only keys p t = if has_only keys t then Ok t else Err (plan_fault_at p kinds.UnknownKey)

-- ---- arrays of tables

abbrev pub table_in : PlanPlace → PlanKey → Data → Result Members PlanFault
table_in p k d = told_at p k (tree.table_in any_place d)

-- an array of tables alone
abbrev pub tables_in : PlanPlace → PlanKey → Data → Result (List Members) PlanFault
tables_in p k d = do
  ds ← array_in p k d
  each_from (λ n. table_in p k) 0 ds

-- the items of a kind of table, which may be absent: their kind, then their count, then one item after another, counted from 1
abbrev pub items_at : {X : Type 0} → PlanTable → PlanKey → ℕ → (PlanPlace → Members → Result X PlanFault) → Members
    → Result (List X) PlanFault
items_at kind k most read root = do
  all ← optional tables_in [] (record { table = kind; item = 0 }) root k
  tables ← few (record { table = kind; item = 0 }) k most all
  each_from (λ n. read (record { table = kind; item = n })) 1 tables
