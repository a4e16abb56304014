-- Need not be believed: helps proofs and other laws.
-- Where the entries of a table stand, by the lengths and the first bits of their prefixes.
use Rattle.std.specs.Prelude.{◌≡◌, ℕ, ◌-◌, ◌/◌, ◌^◌, ◌<◌, ◌≤◌, List, length, slice_get, slice_index, Option, Some, None, IsSome}
use Rattle.std.specs.declared.cmp.Ordering.{Ordering}
use Rattle.std.specs.Ordering.{nat_cmp, ordering_then}
use Rattle.std.specs.BTreeMap as map
use Rattle.v6_addr.specs.Address.{PrefixValue}
use Rattle.prefix_table.specs.declared.index.Key.{Key}
use Rattle.prefix_table.specs.declared.index.Index.{Index}
use Rattle.prefix_table.specs.PrefixTable.{IsTable}

-- keys are in order by length, and then by bits
abbrev pub key_cmp : Key → Key → Ordering
key_cmp a b = ordering_then (nat_cmp a.len b.len) (nat_cmp a.bits b.bits)

-- the first bits of an address, as many as a length
abbrev pub key_at : ℕ → ℕ → Key
key_at a len = record { len = len; bits = a / 2 ^ (128 - len) }

abbrev pub key_of : PrefixValue → Key
key_of p = key_at p.value p.len

-- the place that a key has
abbrev pub place_at : Index → Key → Option ℕ
place_at index k = map.get key_cmp index.places k

-- lengths from the longest down, each once and none above 128
pub record AreFalling (lengths : List ℕ) : Type 0 where
  pub fall : (i j : ℕ) → i < j → j < length lengths → slice_index lengths j < slice_index lengths i
  pub few : (i : ℕ) → i < length lengths → slice_index lengths i ≤ 128

abbrev pub HasLength : List ℕ → ℕ → Type 0
HasLength lengths len = (i : ℕ) × (i < length lengths) × (slice_index lengths i ≡ len)

abbrev pub Keeps : List ℕ → List ℕ → Type 0
Keeps before after = (len : ℕ) → HasLength before len → HasLength after len

-- the lengths of all keys, from the longest down
pub record AreLengths (index : Index) : Type 0 where
  pub falling : AreFalling index.lengths.items
  pub each : (k : Key) (i : ℕ) → place_at index k ≡ Some i → HasLength index.lengths.items k.len

-- no key of an address has a place
abbrev pub HasNoKey : Index → ℕ → Type 0
HasNoKey index a = (len : ℕ) → place_at index (key_at a len) ≡ None

-- the place of the longest key of an address
pub record IsLongest (index : Index) (a i : ℕ) : Type 0 where
  pub len : ℕ
  pub is : place_at index (key_at a len) ≡ Some i
  pub none_longer : (longer : ℕ) → len < longer → place_at index (key_at a longer) ≡ None

-- a length is below another, and the key of so many of an address's first bits has a place; some length is such
abbrev pub HasBelow : Index → ℕ → ℕ → ℕ → Type 0
HasBelow index a len other = (other < len) × IsSome (place_at index (key_at a other))

abbrev pub HasShorter : Index → ℕ → ℕ → Type 0
HasShorter index a len = (other : ℕ) × HasBelow index a len other

-- each entry has the place of its prefix's key, and each place is that of an entry with the key
pub record IsIndex {T : Type 0} (entries : List (PrefixValue × T)) (index : Index) : Type 0 where
  pub each : (i : ℕ) (e : PrefixValue × T) → slice_get entries i ≡ Some e → place_at index (key_of e.0) ≡ Some i
  pub leads : (k : Key) (i : ℕ) → place_at index k ≡ Some i → (e : PrefixValue × T) × (slice_get entries i ≡ Some e) × (key_of e.0 ≡ k)

-- the key of the entry at a place, where one stands there, has the place, and each other key has what it had
pub record IsTold {T : Type 0} (entries : List (PrefixValue × T)) (old new : Index) (place : ℕ) : Type 0 where
  pub here : (e : PrefixValue × T) → slice_get entries place ≡ Some e → place_at new (key_of e.0) ≡ Some place
  pub others : (k : Key) → ((e : PrefixValue × T) → slice_get entries place ≡ Some e → ¬ (key_of e.0 ≡ k))
      → place_at new k ≡ place_at old k

-- what is true of every table: its entries are those of a table, and each is found by its prefix
pub record IsWhole {T : Type 0} (entries : List (PrefixValue × T)) (index : Index) : Type 0 where
  pub table : IsTable entries
  pub lengths : AreLengths index
  pub places : IsIndex entries index
