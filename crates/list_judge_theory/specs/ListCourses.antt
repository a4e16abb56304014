-- Need not be believed: helps proofs and other laws.
-- Courses: legs and a finish along the SIDs of a list.
use Rattle.std.specs.Prelude.{◌≡◌, ℕ, ◌+◌, ◌<◌, Bool, true, false, not, nat_le, ◌==◌, ◌&&◌, ◌||◌, List, [], ◌∷◌, length, slice_get, Option, Some, None, ◌⊎◌}
use Rattle.v6_addr.specs.Address.{PrefixValue}
use Rattle.srv6_rules.specs.declared.sid.SidEntry.{SidEntry}
use Rattle.srv6_rules.specs.Behaviours.{goes_on, is_plain}
use Rattle.net_model.specs.Network.{Network}
use Rattle.list_pack.specs.declared.types.Container.{Container}
use Rattle.list_pack.specs.declared.types.Leg.{Leg}
use Rattle.list_pack.specs.LegsValue.{LegsValue}
use Rattle.list_pack.specs.LegsValueTerms.{comes_to}
use Rattle.list_pack.specs.SidLists.{prefixes_of}
use Rattle.leg_table.specs.PositionSids.{prefix_at}

-- a SID that isn't compressed and from which no packet goes on takes what is inside wherever it stands in the last container
abbrev pub takes_early : SidEntry → Bool
takes_early s = not (goes_on s) && is_plain s.csid

abbrev pub sid_takes_early : Option SidEntry → Bool
sid_takes_early None = false
sid_takes_early (Some s) = takes_early s

abbrev pub is_early : Network → ℕ → Bool
is_early net n = sid_takes_early (slice_get net.sids n)

-- with a SID and those after it so many are left of a list: it may end at the last one, and at one that takes early, of the last ones of
-- the list, so many
abbrev pub may_end : Network → ℕ → ℕ → ℕ → Bool
may_end net tail n left = (left == 1) || (nat_le left tail && is_early net n)

-- a course ends at a SID on a prefix
pub record Ends (v : LegsValue) (net : Network) (tail position : ℕ) (via : Option ℕ) (q : PrefixValue) (left need : ℕ) : Type 0 where
  pub sid : ℕ
  pub prefix : prefix_at net sid ≡ q
  pub may : may_end net tail sid left ≡ true
  pub finish : v.finish position via sid ≡ Some need

-- or it goes on from there
pub record Goes (v : LegsValue) (net : Network) (position : ℕ) (via : Option ℕ) (q : PrefixValue) (need : ℕ) (Rest : ℕ → ℕ → ℕ → Type 0)
    : Type 0 where
  pub sid : ℕ
  pub leg : Leg
  pub prefix : prefix_at net sid ≡ q
  pub is_leg : v.leg position via sid ≡ Some leg
  pub rest : ℕ
  pub sum : leg.hops + rest ≡ need
  pub behind : Rest leg.to sid rest

-- legs and a finish along SIDs on prefixes, from a position and the SID that was executed last, with as many hops
abbrev pub Course : LegsValue → Network → ℕ → ℕ → Option ℕ → List PrefixValue → ℕ → Type 0
Course v net tail position via [] need = ⊥
Course v net tail position via (q ∷ qs) need =
    Ends v net tail position via q (length (q ∷ qs)) need
    ⊎ Goes v net position via q need (λ to n rest. Course v net tail to (Some n) qs rest)

-- the SID on a prefix that a packet comes to next: one at most, if any
abbrev pub NextOn : LegsValue → Network → ℕ → Option ℕ → PrefixValue → Option ℕ → Type 0
NextOn v net position via q None = (n : ℕ) → n < length net.sids → prefix_at net n ≡ q → comes_to v position via n ≡ false
NextOn v net position via q (Some n) = (n < length net.sids) × (prefix_at net n ≡ q) × (comes_to v position via n ≡ true)

-- how many SIDs the last container of a list has; none of a list is among the last ones where each has to be executed
abbrev pub in_last : List Container → ℕ
in_last [] = 0
in_last (c ∷ []) = length (prefixes_of c)
in_last (c ∷ d ∷ ds) = in_last (d ∷ ds)

abbrev pub tail_of : Bool → List Container → ℕ
tail_of true list = 0
tail_of false list = in_last list
