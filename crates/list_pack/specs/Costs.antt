-- Edges between states, and what paths cost.
use Rattle.std.specs.Prelude.{◌≡◌, ℕ, ◌+◌, ◌≤◌, Bool, false, not, ◌&&◌, if◌then◌else◌, List, [], ◌∷◌, Option, Some, None, IsTrue, Contains}
use Rattle.std.specs.Option.{option_map, option_and_then}
use Rattle.list_pack.specs.declared.types.Cost.{Cost}
use Rattle.list_pack.specs.declared.types.State.{State}
use Rattle.list_pack.specs.declared.types.Leg.{Leg}
use Rattle.list_pack.specs.LegsValue.{LegsValue}
use Rattle.list_pack.specs.Rooms.{room_behind, top_room}

-- the next SID of a path, and whether it stays in the container of the SID before it
pub record Move : Type 0 where
  pub stays : Bool
  pub sid : ℕ

-- where a move leads to, and what it costs
pub record Edge : Type 0 where
  pub to : State
  pub cost : Cost

-- a cost is at most another: containers are compared first, then SIDs, then hops
pub record AtMost (a b : Cost) : Type 0 where
  pub containers : a.containers ≤ b.containers
  pub sids : a.containers ≡ b.containers → a.sids ≤ b.sids
  pub hops : a.containers ≡ b.containers → a.sids ≡ b.sids → a.hops ≤ b.hops

abbrev pub plus : Cost → Cost → Cost
plus a b = record { containers = a.containers + b.containers; sids = a.sids + b.sids; hops = a.hops + b.hops }

-- a new container costs one, and a SID what the legs say
abbrev pub move_cost : ℕ → Bool → ℕ → Cost
move_cost sid_cost stays hops = record { containers = if stays then 0 else 1; sids = sid_cost; hops = hops }

-- a SID may not come directly after the one that was executed last, in its container
abbrev pub bars : LegsValue → Option ℕ → ℕ → Bool
bars v None n = false
bars v (Some via) n = not (v.stays via n)

-- the room after a move, none where its SID can't stand so, after the SID that was executed last and the room that is left after it
abbrev pub room_to : LegsValue → Option ℕ → ℕ → Move → Option ℕ
room_to v via room m =
    if m.stays && bars v via m.sid then None else room_behind m.stays (option_map v.shape via) room (v.shape m.sid)

abbrev pub room_of : LegsValue → State → Move → Option ℕ
room_of v s m = room_to v s.via s.room m

abbrev pub edge_by : LegsValue → Move → ℕ → Leg → Edge
edge_by v m room leg =
    record { to = record { position = leg.to; via = Some m.sid; room = room }; cost = move_cost v.sid_cost m.stays leg.hops }

-- the edge of a move that goes on, by a leg
abbrev pub edge_of : LegsValue → State → Move → Option Edge
edge_of v s m = option_and_then (λ room. option_map (edge_by v m room) (v.leg s.position s.via m.sid)) (room_of v s m)

-- the cost of a move to the end, by a finish
abbrev pub last_of : LegsValue → State → Move → Option Cost
last_of v s m = option_and_then (λ room. option_map (move_cost v.sid_cost m.stays) (v.finish s.position s.via m.sid)) (room_of v s m)

abbrev pub behind : Option Edge → (State → Option Cost) → Option Cost
behind None later = None
behind (Some e) later = option_map (plus e.cost) (later e.to)

-- what a path from a state to the end costs, none where the moves are no such path: each is an edge, the last a finish
abbrev pub cost_of : LegsValue → State → List Move → Option Cost
cost_of v s [] = None
cost_of v s (m ∷ []) = last_of v s m
cost_of v s (m ∷ n ∷ more) = behind (edge_of v s m) (λ t. cost_of v t (n ∷ more))

-- the first cost is there and at most the second, wherever the second is there
abbrev pub Under : Option Cost → Option Cost → Type 0
Under None None = Unit {0}
Under None (Some d) = ⊥
Under (Some c) None = Unit {0}
Under (Some c) (Some d) = AtMost c d

-- the start: no step is done, no SID executed, no container open
abbrev pub start : State
start = record { position = 0; via = None; room = 0 }

-- the start, or a middle SID of a position with as much room as there may be after it
abbrev pub IsStateBy : LegsValue → ℕ → Option ℕ → ℕ → Type 0
IsStateBy v position None room = (position ≡ 0) × (room ≡ 0)
IsStateBy v position (Some n) room =
    (position ≤ v.steps) × Contains (v.sids_at position) n × IsTrue (v.shape n).middle × (room ≤ top_room (v.shape n))

abbrev pub IsState : LegsValue → State → Type 0
IsState v s = IsStateBy v s.position s.via s.room
