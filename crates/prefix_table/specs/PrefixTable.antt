-- Need not be believed: helps proofs and other laws.
-- A table of prefixes as a plain list of pairs, each a prefix and its value.
use Rattle.std.specs.Prelude.{◌≡◌, ℕ, Bool, ◌<◌, ◌≤◌, ◌==◌, ◌&&◌, if◌then◌else◌, List, [], ◌∷◌, Option, Some, None, Contains}
use Rattle.v6_addr.specs.Address.{PrefixValue, Holds, IsInside}
use Rattle.v6_addr.specs.AddressTerms.{IsPrefix}
use Rattle.prefix_table.specs.declared.fault.TableFault.{TableFault}
use Rattle.prefix_table.specs.declared.fault.TableFault.TheVariants.{Taken, NoMemory}

-- a prefix is that of one of the entries
abbrev pub HasPrefix : {T : Type 0} → List (PrefixValue × T) → PrefixValue → Type 0
HasPrefix {T} entries p = (t : T) × Contains entries (p, t)

-- two prefixes are one
abbrev pub is_one_prefix : PrefixValue → PrefixValue → Bool
is_one_prefix p q = (p.value == q.value) && (p.len == q.len)

-- the value of a prefix
abbrev pub value_at : {T : Type 0} → List (PrefixValue × T) → PrefixValue → Option T
value_at [] p = None
value_at (e ∷ es) p = if is_one_prefix e.0 p then Some e.1 else value_at es p

-- the entries with a value in place of that of a prefix; where the prefix isn't there nothing changes
abbrev pub with_value : {T : Type 0} → List (PrefixValue × T) → PrefixValue → T → List (PrefixValue × T)
with_value [] p t = []
with_value (e ∷ es) p t = if is_one_prefix e.0 p then (e.0, t) ∷ with_value es p t else e ∷ with_value es p t

-- each prefix stands once: none stands again after its entry
abbrev pub EachOnce : {T : Type 0} → List (PrefixValue × T) → Type 0
EachOnce [] = Unit {0}
EachOnce (e ∷ es) = (¬ HasPrefix es e.0) × EachOnce es

-- what is true of every table: its prefixes are prefixes, and each stands once
pub record IsTable {T : Type 0} (entries : List (PrefixValue × T)) : Type 0 where
  pub prefixes : (e : PrefixValue × T) → Contains entries e → IsPrefix e.0
  pub once : EachOnce entries

-- no entry holds the address
abbrev pub HoldsNone : {T : Type 0} → List (PrefixValue × T) → ℕ → Type 0
HoldsNone {T} entries a = (e : PrefixValue × T) → Contains entries e → ¬ Holds e.0 a

-- a prefix lies strictly inside that of an entry
abbrev pub HasAround : {T : Type 0} → List (PrefixValue × T) → PrefixValue → Type 0
HasAround {T} entries p = (e : PrefixValue × T) × Contains entries e × IsInside p e.0

-- the longest prefix that holds the address (RFC 1812 section 5.2.4.3, rule 2): the entry holds it, and no longer one does
pub record IsBest {T : Type 0} (entries : List (PrefixValue × T)) (a : ℕ) (e : PrefixValue × T) : Type 0 where
  pub is_there : Contains entries e
  pub holds : Holds e.0 a
  pub none_longer : (other : PrefixValue × T) → Contains entries other → Holds other.0 a → other.0.len ≤ e.0.len

-- the best entry, or none exactly where no entry holds the address
abbrev pub IsBestMatch : {T : Type 0} → List (PrefixValue × T) → ℕ → Option (PrefixValue × T) → Type 0
IsBestMatch entries a None = HoldsNone entries a
IsBestMatch entries a (Some e) = IsBest entries a e

-- an entry takes the place of the best so far: it holds the address, and is longer
abbrev pub IsBetter : {T : Type 0} → Option (PrefixValue × T) → ℕ → PrefixValue × T → Type 0
IsBetter None a e = Holds e.0 a
IsBetter (Some best) a e = Holds e.0 a × (best.0.len < e.0.len)

-- why an entry isn't added: its prefix is there; want of memory may come where it isn't
abbrev pub InsertFails : {T : Type 0} → List (PrefixValue × T) → PrefixValue → TableFault → Type 0
InsertFails entries p (Taken prefix) = HasPrefix entries p × (prefix ≡ p)
InsertFails entries p NoMemory = ¬ HasPrefix entries p
