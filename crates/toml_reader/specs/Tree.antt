-- Words on the tree of a TOML document: what a value is read as, what a key of a table gives, and what an array of tables gives.
-- Each gives a value or the first fault, in the order in which its parts are written.
use Rattle.std.specs.Prelude.{ℕ, suc, ℤ, pos, negsuc, Bool, true, ◌&&◌, nat_le, if◌then◌else◌, List, [], ◌∷◌, length, Option, Some, None, option_map, Result, Ok, Err, bytes_eq}
use Rattle.std.specs.List.{list_any}
use Rattle.toml.specs.Data.{Data, Items, no_items, item, Members, no_members, member, get_member, as_str, as_integer, as_array, as_table}
use Rattle.v6_addr.specs.Address.{PrefixValue}
use Rattle.v6_addr.specs.Text.{address_of_text, prefix_of_text}
use Rattle.v6_addr.specs.declared.address.Addr.{Addr}
use Rattle.text_faults.specs.declared.text_place.TableKind.{TableKind}
use Rattle.text_faults.specs.declared.text_place.Key.{Key}
use Rattle.text_faults.specs.declared.text_place.FaultPlace.{FaultPlace}
use Rattle.text_faults.specs.declared.fault.TextFault.{TextFault}
use Rattle.text_faults.specs.declared.fault_kind.FaultKind.TheVariants as kinds
use Rattle.text_faults.specs.TextFaults.{fault_at}
use Rattle.text_faults.specs.Keys.{key_text}
use Rattle.net_model.specs.NetworkRules.{is_name}
use Rattle.toml_reader.specs.TomlReading.{◌>>=◌, read_map, or_fault}

-- ---- what a value is read as, at a place and under a key

abbrev pub text_in : FaultPlace → Data → Result (List ℕ) TextFault
text_in p d = or_fault (fault_at p kinds.WrongKind) (as_str d)

abbrev pub name_in : FaultPlace → Key → Data → Result (List ℕ) TextFault
name_in p k d = do
  text ← text_in p d
  if is_name text then Ok text else Err (fault_at p kinds.BadName)

abbrev pub addr_of_value : ℕ → Addr
addr_of_value a = record { value = a }

abbrev pub addr_in : FaultPlace → Key → Data → Result Addr TextFault
addr_in p k d = do
  text ← text_in p d
  or_fault (fault_at p kinds.BadAddress) (option_map addr_of_value (address_of_text text))

abbrev pub prefix_in : FaultPlace → Key → Data → Result PrefixValue TextFault
prefix_in p k d = do
  text ← text_in p d
  or_fault (fault_at p kinds.BadAddress) (prefix_of_text text)

-- a word, by what it stands for
abbrev pub word_in : {X : Type 0} → (List ℕ → Option X) → FaultPlace → Key → Data → Result X TextFault
word_in meaning p k d = do
  text ← text_in p d
  or_fault (fault_at p kinds.BadFlavour) (meaning text)

abbrev pub integer_in : FaultPlace → Data → Result ℤ TextFault
integer_in p d = or_fault (fault_at p kinds.WrongKind) (as_integer d)

-- a number from the least to the most
abbrev pub number_within : FaultPlace → Key → ℕ → ℕ → ℤ → Result ℕ TextFault
number_within p k least most (pos n) =
    if nat_le least n && nat_le n most then Ok n else Err (fault_at p (kinds.Limit k (pos n)))
number_within p k least most (negsuc n) = Err (fault_at p (kinds.Limit k (negsuc n)))

abbrev pub number_in : ℕ → ℕ → FaultPlace → Key → Data → Result ℕ TextFault
number_in least most p k d = do
  z ← integer_in p d
  number_within p k least most z

-- what may be absent, where it is there
abbrev pub given : {X : Type 0} → (FaultPlace → Key → Data → Result X TextFault) → FaultPlace → Key → Data → Result (Option X) TextFault
given kind p k d = read_map Some (kind p k d)

-- ---- arrays

abbrev pub data_of : Items → List Data
data_of no_items = []
data_of (item d ds) = d ∷ data_of ds

abbrev pub array_in : FaultPlace → Data → Result (List Data) TextFault
array_in p d = or_fault (fault_at p kinds.WrongKind) (option_map data_of (as_array d))

-- a count that isn't above the most
abbrev pub count_in : FaultPlace → Key → ℕ → ℕ → Result ℕ TextFault
count_in p k most count = if nat_le count most then Ok count else Err (fault_at p (kinds.Limit k (pos count)))

-- not more than so many
abbrev pub few : {X : Type 0} → FaultPlace → Key → ℕ → List X → Result (List X) TextFault
few p k most xs = do
  count ← count_in p k most (length xs)
  Ok xs

-- one after another, with their numbers
abbrev pub each_from : {X Y : Type 0} → (ℕ → X → Result Y TextFault) → ℕ → List X → Result (List Y) TextFault
each_from read n [] = Ok []
each_from read n (x ∷ xs) = do
  y ← read n x
  ys ← each_from read (suc n) xs
  Ok (y ∷ ys)

-- an array of any length
abbrev pub array_of : {X : Type 0} → (FaultPlace → Key → Data → Result X TextFault) → FaultPlace → Key → Data → Result (List X) TextFault
array_of kind p k d = do
  ds ← array_in p d
  each_from (λ n. kind p k) 0 ds

-- a list: its length is judged before its members
abbrev pub list_in : {X : Type 0} → ℕ → (FaultPlace → Key → Data → Result X TextFault) → FaultPlace → Key → Data → Result (List X) TextFault
list_in most kind p k d = do
  ds ← array_in p d
  members ← few p k most ds
  each_from (λ n. kind p k) 0 members

-- ---- what a key of a table gives

-- a key that is needed
abbrev pub needed : {X : Type 0} → (FaultPlace → Key → Data → Result X TextFault) → FaultPlace → Members → Key → Result X TextFault
needed kind p t k = do
  d ← or_fault (fault_at p (kinds.MissingKey k)) (get_member (key_text k) t)
  kind p k d

abbrev pub or_default : {X : Type 0} → (FaultPlace → Key → Data → Result X TextFault) → X → FaultPlace → Key → Option Data
    → Result X TextFault
or_default kind default p k None = Ok default
or_default kind default p k (Some d) = kind p k d

-- a key that may be absent, with its default
abbrev pub optional : {X : Type 0} → (FaultPlace → Key → Data → Result X TextFault) → X → FaultPlace → Members → Key → Result X TextFault
optional kind default p t k = or_default kind default p k (get_member (key_text k) t)

-- each key of a table is one of these
abbrev pub has_only : List Key → Members → Bool
has_only keys no_members = true
has_only keys (member key d ms) = list_any (λ k. bytes_eq (key_text k) key) keys && has_only keys ms

-- a table without other keys
abbrev pub only : List Key → FaultPlace → Members → Result Members TextFault
only keys p t = if has_only keys t then Ok t else Err (fault_at p kinds.UnknownKey)

-- ---- arrays of tables

abbrev pub table_in : FaultPlace → Data → Result Members TextFault
table_in p d = or_fault (fault_at p kinds.WrongKind) (as_table d)

-- an array of tables alone
abbrev pub tables_in : FaultPlace → Key → Data → Result (List Members) TextFault
tables_in p k d = do
  ds ← array_in p d
  each_from (λ n. table_in p) 0 ds

-- the items of a kind of table, which may be absent: their kind, then their count, then one item after another, counted from 1
abbrev pub items_at : {X : Type 0} → TableKind → Key → ℕ → (FaultPlace → Members → Result X TextFault) → Members → Result (List X) TextFault
items_at kind k most read root = do
  all ← optional tables_in [] (record { table = kind; item = 0 }) root k
  tables ← few (record { table = kind; item = 0 }) k most all
  each_from (λ n. read (record { table = kind; item = n })) 1 tables
