-- Need not be believed: helps proofs and other laws.
-- The states that wait, by cost, and those that are settled.
use Rattle.std.specs.Prelude.{◌≡◌, ℕ, ◌<◌, Bool, true, false, List, length, slice_index_or, slice_set, Some, IsTrue}
use Rattle.std.specs.declared.cmp.Ordering.{Ordering}
use Rattle.std.specs.Ordering.{nat_cmp, ordering_then}
use Rattle.std.specs.BTreeSet.{BTreeSet}
use Rattle.std.specs.BTreeSet as set
use Rattle.list_pack.specs.declared.types.Cost.{Cost}
use Rattle.list_pack.specs.Costs.{AtMost, Under}
use Rattle.list_encoder.specs.declared.waiting.Waiting.{Waiting}
use Rattle.list_encoder.specs.CellTable.{Costs, at, Lowers}

-- by containers, then by SIDs, then by hops, then by place
abbrev pub waiting_cmp : Waiting → Waiting → Ordering
waiting_cmp a b =
    ordering_then (nat_cmp a.containers b.containers)
    (ordering_then (nat_cmp a.sids b.sids) (ordering_then (nat_cmp a.hops b.hops) (nat_cmp a.place b.place)))

abbrev pub waiting_at : Cost → ℕ → Waiting
waiting_at cost place = record { containers = cost.containers; sids = cost.sids; hops = cost.hops; place = place }

abbrev pub cost_of : Waiting → Cost
cost_of k = record { containers = k.containers; sids = k.sids; hops = k.hops }

abbrev pub Waits : BTreeSet Waiting → Waiting → Type 0
Waits waiting k = IsTrue (set.contains waiting_cmp waiting k)

abbrev pub is_done : List Bool → ℕ → Bool
is_done done i = slice_index_or done i false

-- a state that is not settled waits with the cost that it has
pub record IsOpen (t : Costs) (done : List Bool) (k : Waiting) : Type 0 where
  pub early : k.place < length done
  pub has : at t k.place ≡ Some (cost_of k)
  pub unsettled : is_done done k.place ≡ false

-- exactly the states that have a cost and are not settled wait, each with its cost; a cost is at most those that wait, and at least
-- those of the states that are settled
pub record IsFront (t : Costs) (waiting : BTreeSet Waiting) (done : List Bool) (top : Cost) : Type 0 where
  pub waits : (i : ℕ) (c : Cost) → i < length done → at t i ≡ Some c → is_done done i ≡ false → Waits waiting (waiting_at c i)
  pub only : (k : Waiting) → Waits waiting k → IsOpen t done k
  pub above : (k : Waiting) → Waits waiting k → AtMost top (cost_of k)
  pub settled : (i : ℕ) → is_done done i ≡ true → Under (at t i) (Some top)

-- the state with the least cost waits no more, and is settled
pub record TakesFirst (before after : BTreeSet Waiting) (was done : List Bool) (k : Waiting) : Type 0 where
  pub early : k.place < length was
  pub first : Waits before k
  pub least : set.IsLowerBound waiting_cmp before k
  pub update : set.Updates waiting_cmp before after k false
  pub marks : done ≡ slice_set was k.place true

-- so far the states before a place that have a cost wait
pub record AreBefore (t : Costs) (count : ℕ) (waiting : BTreeSet Waiting) : Type 0 where
  pub waits : (i : ℕ) (c : Cost) → i < count → at t i ≡ Some c → Waits waiting (waiting_at c i)
  pub only : (k : Waiting) → Waits waiting k → (k.place < count) × (at t k.place ≡ Some (cost_of k))

-- an entry was lowered to the cost, unless it is settled or is no higher
pub record IsLoweredAt (before after : Costs) (waiting : BTreeSet Waiting) (done : List Bool) (top : Cost) (i : ℕ) (c : Cost)
    (changed : Bool) : Type 0 where
  pub lowers : Lowers before after i c changed
  pub front : IsFront after waiting done top
  pub still : (j : ℕ) → is_done done j ≡ true → at after j ≡ at before j
