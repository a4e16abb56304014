-- Need not be believed: helps proofs and other laws.
-- Terms beside those of `specs/LegsValue.antt`.
use Rattle.std.specs.Prelude.{◌≡◌, ℕ, ◌+◌, ◌-◌, ◌*◌, ◌<◌, ◌≤◌, Bool, true, false, List, [], ◌∷◌, length, Option, Some, None, IsTrue, IsSome, ◌&&◌, is_some, ◌||◌, Contains}
use Rattle.srv6_rules.specs.declared.sid.Csid.{Csid}
use Rattle.srv6_rules.specs.declared.sid.Csid.TheVariants.{Plain, Next, Replace}
use Rattle.list_pack.specs.declared.types.Shape.{Shape}
use Rattle.list_pack.specs.declared.types.Leg.{Leg}
use Rattle.list_pack.specs.ListOrder.{lex_before}
use Rattle.list_pack.specs.LegsValue.{LegsValue, units_of, same_block}

-- a SID of some position
abbrev pub IsSid : LegsValue → ℕ → Type 0
IsSid v n = (position : ℕ) × (position ≤ v.steps) × Contains (v.sids_at position) n

-- the order of SIDs: by prefix value, prefix length and node
abbrev pub sid_key : LegsValue → ℕ → List ℕ
sid_key v n = (v.shape n).prefix.value ∷ (v.shape n).prefix.len ∷ v.node n ∷ []

abbrev pub sid_before : LegsValue → ℕ → ℕ → Bool
sid_before v n m = lex_before (sid_key v n) (sid_key v m)

-- each SID once, in the order of SIDs
abbrev pub ascends : LegsValue → List ℕ → Bool
ascends v [] = true
ascends v (n ∷ []) = true
ascends v (n ∷ m ∷ ms) = sid_before v n m && ascends v (m ∷ ms)

-- a SID whose argument or entry holds further SIDs (RFC 9800 sections 4.1 and 4.2)
abbrev pub is_compressed : Csid → Bool
is_compressed Plain = false
is_compressed Next = true
is_compressed Replace = true

-- in a block a prefix is longer than what the block shares, by whole 16-bit units
pub record IsInBlock (s : Shape) : Type 0 where
  pub length : s.prefix.len ≡ s.lbl + 16 * units_of s
  pub longer : 1 ≤ units_of s

-- what holds of a shape: a compressed SID lies in a block, and a REPLACE SID there has 16 or 32 bits
pub record IsShape (s : Shape) : Type 0 where
  pub compressed : IsTrue (is_compressed s.csid) → IsSome s.block
  pub in_block : IsSome s.block → IsInBlock s
  pub replace : s.csid ≡ Replace → units_of s ≤ 2

-- two shapes of one block have what it shares, one kind of compression, and for REPLACE one length
pub record ShareBlock (a b : Shape) : Type 0 where
  pub lbl : a.lbl ≡ b.lbl
  pub csid : IsTrue (is_compressed a.csid) → IsTrue (is_compressed b.csid) → a.csid ≡ b.csid
  pub length : a.csid ≡ Replace → b.csid ≡ Replace → a.prefix.len ≡ b.prefix.len

-- a SID may have been executed last at a position: none at the start alone, else a middle one of the position
abbrev pub IsVia : LegsValue → ℕ → Option ℕ → Type 0
IsVia v position None = position ≡ 0
IsVia v position (Some n) = Contains (v.sids_at position) n × IsTrue (v.shape n).middle

-- a next SID is come to
abbrev pub comes_to : LegsValue → ℕ → Option ℕ → ℕ → Bool
comes_to v position via next = is_some (v.leg position via next) || is_some (v.finish position via next)

-- a leg leads on to a middle SID of the position where it ends, and its hops are few
pub record IsLegOf (v : LegsValue) (position : ℕ) (via : Option ℕ) (next : ℕ) (leg : Leg) : Type 0 where
  pub start : position ≤ v.steps
  pub from_via : IsVia v position via
  pub forward : position ≤ leg.to
  pub within : leg.to ≤ v.steps
  pub is_next : Contains (v.sids_at leg.to) next
  pub middle : IsTrue (v.shape next).middle
  pub hops : leg.hops ≤ 1000

-- a finish leads to a SID of the last position, and its lowerings are few
pub record IsFinishOf (v : LegsValue) (position : ℕ) (via : Option ℕ) (next lowered : ℕ) : Type 0 where
  pub start : position ≤ v.steps
  pub from_via : IsVia v position via
  pub is_next : Contains (v.sids_at v.steps) next
  pub hops : lowered ≤ 1000

-- the laws of legs
pub record KeepsLaws (v : LegsValue) : Type 0 where
  pub steps : v.steps ≤ 48
  pub sid_cost : v.sid_cost ≤ 1
  pub sids_count : (position : ℕ) → position ≤ v.steps → length (v.sids_at position) ≤ 128
  pub sids_order : (position : ℕ) → position ≤ v.steps → IsTrue (ascends v (v.sids_at position))
  pub shapes : (n : ℕ) → IsSid v n → IsShape (v.shape n)
  pub blocks : (n m : ℕ) → IsSid v n → IsSid v m → IsTrue (same_block (v.shape n).block (v.shape m).block)
      → ShareBlock (v.shape n) (v.shape m)
  pub leg : (position : ℕ) (via : Option ℕ) (next : ℕ) (leg : Leg) → v.leg position via next ≡ Some leg
      → IsLegOf v position via next leg
  pub finish : (position : ℕ) (via : Option ℕ) (next lowered : ℕ) → v.finish position via next ≡ Some lowered
      → IsFinishOf v position via next lowered
  pub one_of_prefix : (position : ℕ) (via : Option ℕ) (next other : ℕ) → IsTrue (comes_to v position via next)
      → IsTrue (comes_to v position via other) → (v.shape next).prefix ≡ (v.shape other).prefix → next ≡ other
  pub above_finish : (position : ℕ) (via : Option ℕ) (next : ℕ) (leg : Leg) (lowered : ℕ) → v.leg position via next ≡ Some leg
      → v.finish position via next ≡ Some lowered → lowered < leg.hops
