-- The list of a path is legal.
use Rattle.std.proofs.Common.{◌≡◌, ℕ, ◌+◌, Bool, true, false, List, [], ◌∷◌, map, Option, Some, None, refl, ap, subst}
use Rattle.v6_addr.specs.Address.{PrefixValue}
use Rattle.sid_list_spec.specs.SegmentLists as lists
use Rattle.sid_list_spec.specs.SegmentLists.{ListSid, SidBlock, Follow, IsLegal}
use Rattle.list_pack.specs.declared.types.PathStep.{PathStep}
use Rattle.list_pack.specs.LegsValue.{LegsValue}
use Rattle.list_pack.specs.LegsValueTerms.{KeepsLaws}
use Rattle.list_pack.specs.Rooms.{new_room, full_room}
use Rattle.list_pack.specs.Costs.{Move, room_to}
use Rattle.list_pack.specs.Least.{step_of}
use Rattle.list_pack.specs.PathsTerms.{hops_of, sids_of_moves, may_move, SuitsLists}
use Rattle.list_pack.specs.PathLists.{container_by, container_as, staying, asked_after, list_from}
use Rattle.list_pack.specs.OpenContainers.{taken, first_taken, asked_at, Open, Opens}
use Rattle.list_pack.proofs.ListContainers.{follow_made, asked_end, asked_end_law}
use Rattle.list_pack.proofs.StepContainers.{Stands, stayed}
use Rattle.list_pack.proofs.OpeningMoves.{Entered, entered, entered_full}
use Rattle.list_pack.proofs.Barring.{room_kept}
use Rattle.list_pack.proofs.Hops.{HopsFrom, hops_here, hops_first, hops_next, pair_of, room_parts}

-- a property of moves holds if it holds of those that stay and of those that open
pub by_stays : (P : Move → Type 0) → ((n : ℕ) → P (record { stays = true; sid = n })) → ((n : ℕ) → P (record { stays = false; sid = n }))
    → (m : Move) → P m
by_stays P one other m = by m.stays m.sid
  where
    by : (b : Bool) (n : ℕ) → P (record { stays = b; sid = n })
    by true n = one n
    by false n = other n

abbrev pub steps_by : LegsValue → List Move → List PathStep
steps_by v moves = map (step_of v) moves

-- the containers that steps open after an open one
abbrev behind_open : (PrefixValue → ListSid) → Option SidBlock → ℕ → PrefixValue → List PathStep → List lists.Container
behind_open sid_on k u p steps =
    map (container_by sid_on) (list_from sid_on (asked_end k u (sid_on p) (map sid_on (staying steps))) steps)

-- moves that go on from a SID in an open container make a legal list
abbrev MakeList : LegsValue → (PrefixValue → ListSid) → List Move → Type 0
MakeList v sid_on moves = (k : Option SidBlock) (u position n room : ℕ)
    → ((v.shape n).middle ≡ true → Stands k u room (sid_on (v.shape n).prefix)) → may_move v (Some n) room moves ≡ true
    → HopsFrom v position (Some n) (sids_of_moves moves)
    → Open k u (sid_on (v.shape n).prefix) (map sid_on (staying (steps_by v moves)))
    (behind_open sid_on k u (v.shape n).prefix (steps_by v moves))

stay_list : {Follows : PrefixValue → PrefixValue → Type 0} (v : LegsValue) (sid_on : PrefixValue → ListSid) → KeepsLaws v
    → SuitsLists v sid_on Follows → (moves : List Move)
    → MakeList v sid_on moves → (m : ℕ) → MakeList v sid_on (record { stays = true; sid = m } ∷ moves)
stay_list v sid_on laws suits moves rest m k u position n room at may hops =
    let here = hops_here v laws position n m (sids_of_moves moves) hops in
    let pair = pair_of v sid_on laws suits n m here in
    let next = hops_next v position (Some n) m (sids_of_moves moves) hops in
    let s = sid_on (v.shape n).prefix in
    let t = sid_on (v.shape m).prefix in
    let move : Move = record { stays = true; sid = m } in
    let parts = room_parts (room_to v (Some n) room move) (λ left. may_move v (Some m) left moves) may in
    let is = stayed k (v.shape n) (v.shape m) s t u room parts.0 pair (at here.middle) (room_kept v (Some n) room move parts.0 parts.1) in
    (is.step, rest k (u + taken k t) next.0 m parts.0 (λ mid. is.stands (suits.middle m here.next_sid mid)) parts.2 next.1)

-- a container that is opened, in a legal list
enter_list : (sid_on : PrefixValue → ListSid) (k : Option SidBlock) (p : PrefixValue) (ps : List PrefixValue) (steps : List PathStep)
    → Opens k (sid_on p)
    → Open k (first_taken k (sid_on p)) (sid_on p) (map sid_on ps)
    (map (container_by sid_on) (list_from sid_on (asked_end k (first_taken k (sid_on p)) (sid_on p) (map sid_on ps)) steps))
    → Follow k (container_by sid_on (container_as k p ps)
    ∷ map (container_by sid_on) (list_from sid_on (asked_after k (sid_on p) (map sid_on ps)) steps))
enter_list sid_on None p ps steps first so =
    subst (λ (o : Option SidBlock). Follow None
    (lists.Full (sid_on p) (map sid_on ps) ∷ map (container_by sid_on) (list_from sid_on o steps)))
    (asked_end_law None (sid_on p) (map sid_on ps)) (follow_made None (sid_on p) (map sid_on ps) _ first so)
enter_list sid_on (Some b) p ps steps first so =
    subst (λ (o : Option SidBlock). Follow (Some b)
    (lists.Packed (sid_on p) (map sid_on ps) ∷ map (container_by sid_on) (list_from sid_on o steps)))
    (asked_end_law (Some b) (sid_on p) (map sid_on ps)) (follow_made (Some b) (sid_on p) (map sid_on ps) _ first so)

entered_list : {Follows : PrefixValue → PrefixValue → Type 0} (v : LegsValue) (sid_on : PrefixValue → ListSid)
    → SuitsLists v sid_on Follows → (moves : List Move)
    → MakeList v sid_on moves → (k : Option SidBlock) (m room to : ℕ)
    → ((v.shape m).middle ≡ true → (sid_on (v.shape m).prefix).csid ≡ (v.shape m).csid)
    → Entered k room (v.shape m) (sid_on (v.shape m).prefix)
    → may_move v (Some m) room moves ≡ true → HopsFrom v to (Some m) (sids_of_moves moves)
    → Follow k (map (container_by sid_on) (list_from sid_on k (steps_by v (record { stays = false; sid = m } ∷ moves))))
entered_list v sid_on suits moves rest k m room to flavour is may hops =
    let t = sid_on (v.shape m).prefix in
    enter_list sid_on k (v.shape m).prefix (staying (steps_by v moves)) (steps_by v moves) is.first
    (rest k (first_taken k t) to m room (λ mid. is.stands (flavour mid)) may hops)

open_list : {Follows : PrefixValue → PrefixValue → Type 0} (v : LegsValue) (sid_on : PrefixValue → ListSid) → KeepsLaws v
    → SuitsLists v sid_on Follows → (moves : List Move)
    → MakeList v sid_on moves → (m : ℕ) → MakeList v sid_on (record { stays = false; sid = m } ∷ moves)
open_list v sid_on laws suits moves rest m k u position n room at may hops =
    let here = hops_here v laws position n m (sids_of_moves moves) hops in
    let pair = pair_of v sid_on laws suits n m here in
    let next = hops_next v position (Some n) m (sids_of_moves moves) hops in
    let s = sid_on (v.shape n).prefix in
    let t = sid_on (v.shape m).prefix in
    let parts = room_parts (new_room (v.shape n) room (v.shape m)) (λ left. may_move v (Some m) left moves) may in
    let is = entered k (v.shape n) (v.shape m) s t u room parts.0 pair (at here.middle) parts.1 in
    entered_list v sid_on suits moves rest (asked_at k u s) m parts.0 next.0 (λ mid. suits.middle m here.next_sid mid) is parts.2 next.1

moves_list : {Follows : PrefixValue → PrefixValue → Type 0} (v : LegsValue) (sid_on : PrefixValue → ListSid) → KeepsLaws v
    → SuitsLists v sid_on Follows → (moves : List Move)
    → MakeList v sid_on moves
moves_list v sid_on laws suits [] = λ k u position n room at may hops. tt
moves_list v sid_on laws suits (m ∷ ms) =
    by_stays (λ (x : Move). MakeList v sid_on (x ∷ ms)) (stay_list v sid_on laws suits ms (moves_list v sid_on laws suits ms))
    (open_list v sid_on laws suits ms (moves_list v sid_on laws suits ms)) m

-- ---- from the start

-- moves from the start make a legal list
abbrev LegalFrom : LegsValue → (PrefixValue → ListSid) → List Move → Type 0
LegalFrom v sid_on moves = (h : ℕ) → may_move v None 0 moves ≡ true → hops_of v 0 None (sids_of_moves moves) ≡ Some h
    → IsLegal (map (container_by sid_on) (list_from sid_on None (steps_by v moves)))

no_stay : (v : LegsValue) (sid_on : PrefixValue → ListSid) (moves : List Move) (m : ℕ)
    → LegalFrom v sid_on (record { stays = true; sid = m } ∷ moves)
no_stay v sid_on moves m h may hops = absurd (let one : false ≡ true = may in cc)

first_open : {Follows : PrefixValue → PrefixValue → Type 0} (v : LegsValue) (sid_on : PrefixValue → ListSid) → KeepsLaws v
    → SuitsLists v sid_on Follows → (moves : List Move) (m : ℕ)
    → LegalFrom v sid_on (record { stays = false; sid = m } ∷ moves)
first_open v sid_on laws suits moves m h may hops =
    let is_sid = hops_first v laws 0 None m (sids_of_moves moves) (h, hops) in
    let next = hops_next v 0 None m (sids_of_moves moves) (h, hops) in
    let t = sid_on (v.shape m).prefix in
    let is = entered_full (v.shape m) t (full_room (v.shape m)) (ap (λ (p : PrefixValue). p.len) (suits.prefix (v.shape m).prefix))
    (suits.fits m is_sid) refl in
    entered_list v sid_on suits moves (moves_list v sid_on laws suits moves) None m (full_room (v.shape m)) next.0
    (λ mid. suits.middle m is_sid mid) is may next.1

pub path_legal : {Follows : PrefixValue → PrefixValue → Type 0} (v : LegsValue) (sid_on : PrefixValue → ListSid) → KeepsLaws v
    → SuitsLists v sid_on Follows → (moves : List Move)
    → LegalFrom v sid_on moves
path_legal v sid_on laws suits [] h may hops = absurd (cc)
path_legal v sid_on laws suits (m ∷ ms) h may hops =
    by_stays (λ (x : Move). LegalFrom v sid_on (x ∷ ms)) (no_stay v sid_on ms) (first_open v sid_on laws suits ms) m h may hops
