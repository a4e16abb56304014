-- Need not be believed: helps proofs and other laws.
-- Terms beside those of `specs/Paths.antt`.
use Rattle.std.specs.Prelude.{◌≡◌, ℕ, ◌+◌, ◌-◌, ◌*◌, ◌≤◌, Bool, true, false, if◌then◌else◌, List, [], ◌∷◌, length, map, Option, Some, None, IsTrue, IsSome, ◌↔◌}
use Rattle.std.specs.Option.{option_map}
use Rattle.v6_addr.specs.Address.{PrefixValue}
use Rattle.srv6_rules.specs.declared.sid.Csid.TheVariants.{Replace}
use Rattle.sid_list_spec.specs.SegmentLists.{ListSid, block_len, csid_len_in}
use Rattle.list_pack.specs.declared.types.Cost.{Cost}
use Rattle.list_pack.specs.declared.types.Leg.{Leg}
use Rattle.list_pack.specs.LegsValue.{LegsValue, same_block}
use Rattle.list_pack.specs.LegsValueTerms.{IsSid}
use Rattle.list_pack.specs.Costs.{Move, room_to}
use Rattle.list_pack.specs.Paths.{cost_with}

-- the SIDs of moves
abbrev pub sids_of_moves : List Move → List ℕ
sids_of_moves moves = map (λ (m : Move). m.sid) moves

abbrev pub with_hops : Option Leg → (ℕ → Option ℕ) → Option ℕ
with_hops None later = None
with_hops (Some leg) later = option_map (λ n. leg.hops + n) (later leg.to)

-- the hops of a path of legs and a finish through SIDs, if it is one, from a position and the SID that was executed last
abbrev pub hops_of : LegsValue → ℕ → Option ℕ → List ℕ → Option ℕ
hops_of v position via [] = None
hops_of v position via (n ∷ []) = v.finish position via n
hops_of v position via (n ∷ m ∷ more) = with_hops (v.leg position via n) (λ to. hops_of v to (Some n) (m ∷ more))

abbrev pub with_room : Option ℕ → (ℕ → Bool) → Bool
with_room None later = false
with_room (Some room) later = later room

-- each SID of a path can stand as its move says, by rooms and `stays` alone, after the SID that was executed last and the room that is
-- left after it
abbrev pub may_move : LegsValue → Option ℕ → ℕ → List Move → Bool
may_move v via room [] = true
may_move v via room (m ∷ ms) =
    with_room (room_to v via room m) (λ left. may_move v (Some m.sid) left ms)

-- how many moves open a container
abbrev pub opened : List Move → ℕ
opened [] = 0
opened (m ∷ ms) = (if m.stays then 0 else 1) + opened ms

-- what a path costs, by rooms and legs apart: where each SID can stand as its move says, the containers that are opened, its SIDs by what
-- one costs, and the hops
abbrev pub split_cost : LegsValue → ℕ → Option ℕ → ℕ → List Move → Option Cost
split_cost v position via room moves =
    if may_move v via room moves
    then option_map (cost_with (opened moves) (v.sid_cost * length moves)) (hops_of v position via (sids_of_moves moves))
    else None

-- the SIDs of a search are SIDs of lists, by their prefixes: they lie in the same blocks, a middle one has the flavour of its prefix, and
-- they may come directly after one another in a container where their prefixes may
pub record SuitsLists (v : LegsValue) (sid_on : PrefixValue → ListSid) (Follows : PrefixValue → PrefixValue → Type 0) : Type 0 where
  pub prefix : (p : PrefixValue) → (sid_on p).prefix ≡ p
  pub fits : (n : ℕ) → IsSid v n → (v.shape n).prefix.len ≤ 128
  pub in_block : (n : ℕ) → IsSid v n → IsSome (v.shape n).block ↔ IsSome (sid_on (v.shape n).prefix).block
  pub block_len : (n : ℕ) → IsSid v n → (v.shape n).lbl ≡ block_len (sid_on (v.shape n).prefix).block
  pub one_block : (n m : ℕ) → IsSid v n → IsSid v m → IsSome (v.shape n).block
      → IsTrue (same_block (v.shape n).block (v.shape m).block)
      ↔ ((sid_on (v.shape n).prefix).block ≡ (sid_on (v.shape m).prefix).block)
  pub middle : (n : ℕ) → IsSid v n → IsTrue (v.shape n).middle → (sid_on (v.shape n).prefix).csid ≡ (v.shape n).csid
  pub replace : (n : ℕ) → IsSid v n → (v.shape n).csid ≡ Replace
      → csid_len_in (sid_on (v.shape n).prefix).block ≡ (v.shape n).prefix.len - (v.shape n).lbl
  pub stays : (n m : ℕ) → IsSid v n → IsSid v m → IsTrue (v.stays n m) ↔ Follows (v.shape n).prefix (v.shape m).prefix
