-- Need not be believed: helps proofs and other laws.
-- What is tested of a state on the way to a verdict.
use Rattle.std.specs.Prelude.{◌≡◌, ℕ, ◌<◌, ◌≤◌, Bool, true, false, List, [], ◌∷◌, ◌++◌, map, length, slice_get, Option, Some, None, Result, Ok, Err, IsSome, Contains, All, AllPairs}
use Rattle.std.specs.Option.{option_map}
use Rattle.list_pack.specs.declared.types.Cost.{Cost}
use Rattle.list_pack.specs.declared.types.State.{State}
use Rattle.list_pack.specs.declared.types.Leg.{Leg}
use Rattle.list_pack.specs.declared.types.PathStep.{PathStep}
use Rattle.list_pack.specs.declared.types.Shape.{Shape}
use Rattle.list_pack.specs.ListOrder.{lex_before}
use Rattle.list_pack.specs.LegsValue.{LegsValue}
use Rattle.list_pack.specs.Rooms.{top_room}
use Rattle.list_pack.specs.Costs.{Move, Edge, plus, edge_of, last_of, cost_of, behind, Under, start, IsState}
use Rattle.list_pack.specs.Least.{IsGoodAt, IsBefore, step_of}
use Rattle.list_certificate.specs.declared.certificate_types.PotentialLine.{PotentialLine}
use Rattle.list_certificate.specs.declared.search.StateKey.{StateKey}
use Rattle.list_certificate.specs.declared.good.CostedState.{CostedState}
use Rattle.list_certificate.specs.declared.potential_cells.Cell.{Cell}
use Rattle.list_certificate.specs.declared.path_lines.Reached.{Reached}
use Rattle.list_certificate.specs.declared.path_lines.Spent.{Spent}
use Rattle.list_certificate.specs.declared.certificate_types.PathLine.{PathLine}
use Rattle.list_certificate.specs.Certs.{potential_at}
use Rattle.list_certificate.specs.declared.certificate_types.Cert.{Cert}
use Rattle.list_certificate.specs.declared.certificate_types.Verdict.{Verdict}
use Rattle.list_certificate.specs.Verdicts.{GoesAlong, Leads, BreaksAt, PathCosts, AllPass, IsVerdict}

-- the lines list states of the legs in order
pub record AreSorted (v : LegsValue) (lines : List PotentialLine) : Type 0 where
  pub states : All (λ (l : PotentialLine). IsState v l.potential.state) lines
  pub order : AllPairs (λ (l m : PotentialLine). IsBefore v l.potential.state m.potential.state) lines

-- what the order of states goes by, but for the node and the room
abbrev pub place_key_by : LegsValue → ℕ → Option ℕ → List ℕ
place_key_by v position None = []
place_key_by v position (Some n) = position ∷ (v.shape n).prefix.value ∷ (v.shape n).prefix.len ∷ []

abbrev pub place_key : LegsValue → State → List ℕ
place_key v s = place_key_by v s.position s.via

abbrev pub key_of : Option StateKey → List ℕ
key_of None = []
key_of (Some p) = p.position ∷ p.value ∷ p.len ∷ []

-- the line stands before a place in the order of states
abbrev pub IsBehind : LegsValue → List ℕ → PotentialLine → Bool → Type 0
IsBehind v key l b = lex_before (place_key v l.potential.state) key ≡ b

-- up to a number the lines stand before a place, and from another on they don't
pub record Splits (v : LegsValue) (lines : List PotentialLine) (key : List ℕ) (low high : ℕ) : Type 0 where
  pub before : (i : ℕ) (l : PotentialLine) → slice_get lines i ≡ Some l → i < low → IsBehind v key l true
  pub behind : (i : ℕ) (l : PotentialLine) → slice_get lines i ≡ Some l → high ≤ i → IsBehind v key l false

-- a state with its SID's shape and its potential
pub record IsCostedState (v : LegsValue) (lines : List PotentialLine) (costed_state : CostedState) : Type 0 where
  pub is_state : IsState v costed_state.state
  pub from_is : costed_state.from ≡ option_map v.shape costed_state.state.via
  pub potential_is : costed_state.potential ≡ potential_at lines costed_state.state

-- the move goes along no edge, or along one of which the potential falls by at most the cost
abbrev pub PassesMove : LegsValue → List PotentialLine → State → Move → Type 0
PassesMove v lines s m = Under (potential_at lines s) (behind (edge_of v s m) (potential_at lines))

-- the same of a move to the end
abbrev pub PassesLast : LegsValue → List PotentialLine → State → Move → Type 0
PassesLast v lines s m = Under (potential_at lines s) (last_of v s m)

abbrev pub move_of : ℕ → Bool → Move
move_of n stays = record { stays = stays; sid = n }

-- a test tells whether a fact holds
abbrev pub Tells : Type 0 → Bool → Type 0
Tells P true = P
Tells P false = ¬ P

-- all moves by legs to a position pass; or one of the state's moves does not
abbrev pub PassLegsTo : LegsValue → List PotentialLine → State → ℕ → Type 0
PassLegsTo v lines s to = (n : ℕ) (leg : Leg) (stays : Bool) → v.leg s.position s.via n ≡ Some leg → leg.to ≡ to
    → PassesMove v lines s (move_of n stays)

abbrev pub PassLegs : LegsValue → List PotentialLine → State → Type 0
PassLegs v lines s = (m : Move) → PassesMove v lines s m

abbrev pub PassEnds : LegsValue → List PotentialLine → State → Type 0
PassEnds v lines s = (m : Move) → PassesLast v lines s m

abbrev pub ShowsLegsTo : LegsValue → List PotentialLine → State → ℕ → Bool → Type 0
ShowsLegsTo v lines s to true = PassLegsTo v lines s to
ShowsLegsTo v lines s to false = ¬ PassLegs v lines s

abbrev pub ShowsLegs : LegsValue → List PotentialLine → State → Bool → Type 0
ShowsLegs v lines s true = PassLegs v lines s
ShowsLegs v lines s false = ¬ PassLegs v lines s

abbrev pub ShowsEnds : LegsValue → List PotentialLine → State → Bool → Type 0
ShowsEnds v lines s true = PassEnds v lines s
ShowsEnds v lines s false = ¬ PassEnds v lines s

-- where a test is true a fact holds
abbrev pub Assures : Type 0 → Bool → Type 0
Assures P true = P
Assures P false = Unit {0}

-- the state of a cell with so much room after its SID
abbrev pub state_in : Cell → ℕ → State
state_in cell room = record { position = cell.position; via = Some cell.sid; room = room }

-- a cell has a SID of its position, the place of its states, and how many lines stand before it
pub record IsCell (v : LegsValue) (lines : List PotentialLine) (cell : Cell) : Type 0 where
  pub within : cell.position ≤ v.steps
  pub is_sid : Contains (v.sids_at cell.position) cell.sid
  pub shape_is : cell.shape ≡ v.shape cell.sid
  pub place_is : key_of cell.place ≡ place_key_by v cell.position (Some cell.sid)
  pub splits : Splits v lines (key_of cell.place) cell.first cell.first
  pub few : cell.first ≤ length lines

-- the moves of all states of a cell pass: by a leg to a SID, by legs to a position, by legs, to the end by a SID, and to the end
abbrev pub CellPassesLeg : LegsValue → List PotentialLine → Cell → ℕ → Type 0
CellPassesLeg v lines cell n =
    (room : ℕ) (stays : Bool) → room ≤ top_room cell.shape → PassesMove v lines (state_in cell room) (move_of n stays)

abbrev pub CellPassesLegsTo : LegsValue → List PotentialLine → Cell → ℕ → Type 0
CellPassesLegsTo v lines cell to = (room : ℕ) → room ≤ top_room cell.shape → PassLegsTo v lines (state_in cell room) to

abbrev pub CellPassesLegs : LegsValue → List PotentialLine → Cell → Type 0
CellPassesLegs v lines cell = (room : ℕ) → room ≤ top_room cell.shape → PassLegs v lines (state_in cell room)

abbrev pub CellPassesFinish : LegsValue → List PotentialLine → Cell → ℕ → Type 0
CellPassesFinish v lines cell n =
    (room : ℕ) (stays : Bool) → room ≤ top_room cell.shape → PassesLast v lines (state_in cell room) (move_of n stays)

abbrev pub CellPassesEnds : LegsValue → List PotentialLine → Cell → Type 0
CellPassesEnds v lines cell = (room : ℕ) → room ≤ top_room cell.shape → PassEnds v lines (state_in cell room)

-- all of some states pass
abbrev pub PassAmong : LegsValue → List PotentialLine → (State → Type 0) → Type 0
PassAmong v lines Among = (t : State) → IsState v t → Among t → IsGoodAt v (potential_at lines) t

-- the verdict on a state that does not pass, none where all pass
abbrev pub FirstFault : LegsValue → Cert → Option Verdict → Type 0
FirstFault v c None = AllPass v c
FirstFault v c (Some verdict) = IsVerdict v c verdict

-- a state that is not listed does not pass; or it passes where it is not listed
pub record Fails (v : LegsValue) (lines : List PotentialLine) (s : State) : Type 0 where
  pub unlisted : potential_at lines s ≡ None
  pub is_bad : ¬ IsGoodAt v (potential_at lines) s

abbrev pub PassesUnlisted : LegsValue → List PotentialLine → State → Type 0
PassesUnlisted v lines s = potential_at lines s ≡ None → IsGoodAt v (potential_at lines) s

abbrev pub ShowsFailure : LegsValue → List PotentialLine → State → Bool → Type 0
ShowsFailure v lines s true = Fails v lines s
ShowsFailure v lines s false = PassesUnlisted v lines s

-- of some states the first that fails
pub record FirstFailing (v : LegsValue) (lines : List PotentialLine) (Among : State → Type 0) (s : State) : Type 0 where
  pub is_state : IsState v s
  pub among : Among s
  pub fails : Fails v lines s
  pub first : (t : State) → IsState v t → Among t → IsBefore v t s → PassesUnlisted v lines t

abbrev pub FirstFailure : LegsValue → List PotentialLine → (State → Type 0) → Option State → Type 0
FirstFailure v lines Among None = (t : State) → IsState v t → Among t → PassesUnlisted v lines t
FirstFailure v lines Among (Some s) = FirstFailing v lines Among s

-- the states of a SID at a position, those of all SIDs at a position, and all states
abbrev pub OfSid : ℕ → ℕ → State → Type 0
OfSid position n s = (s.position ≡ position) × (s.via ≡ Some n)

abbrev pub OfPosition : ℕ → State → Type 0
OfPosition position s = (s.position ≡ position) × IsSome s.via

abbrev pub OfAll : State → Type 0
OfAll s = Unit {0}

abbrev pub IsShapeOf : LegsValue → State → Option Shape → Type 0
IsShapeOf v s from = from ≡ option_map v.shape s.via

-- the first line whose state does not pass, by its number; with none each state passes
abbrev pub LinesPass : LegsValue → List PotentialLine → ℕ → Type 0
LinesPass v lines count = (i : ℕ) (l : PotentialLine) → i < count → slice_get lines i ≡ Some l
    → IsGoodAt v (potential_at lines) l.potential.state

pub record FirstBadLine (v : LegsValue) (lines : List PotentialLine) (line : ℕ) : Type 0 where
  pub place : ℕ
  pub bad : PotentialLine
  pub here : slice_get lines place ≡ Some bad
  pub is_bad : ¬ IsGoodAt v (potential_at lines) bad.potential.state
  pub first : LinesPass v lines place
  pub line_is : line ≡ bad.line

abbrev pub BadLine : LegsValue → List PotentialLine → Option ℕ → Type 0
BadLine v lines None = LinesPass v lines (length lines)
BadLine v lines (Some line) = FirstBadLine v lines line

-- what a move costs is small
pub record IsSmall (c : Cost) : Type 0 where
  pub containers : c.containers ≤ 1
  pub sids : c.sids ≤ 1
  pub hops : c.hops ≤ 1000

-- the edge of a step, none where it goes along none
abbrev pub edge_value : Reached → Edge
edge_value r = record { to = r.state; cost = r.cost }

abbrev pub IsEdgeOf : LegsValue → State → PathStep → Option Reached → Type 0
IsEdgeOf v s step None = (e : Edge) → GoesAlong v s step e → ⊥
IsEdgeOf v s step (Some r) = GoesAlong v s step (edge_value r) × IsState v r.state × IsSmall r.cost

-- the same of the edges that end at a position
abbrev pub IsEdgeTo : LegsValue → State → PathStep → ℕ → Option Reached → Type 0
IsEdgeTo v s step to None = (e : Edge) → GoesAlong v s step e → e.to.position ≡ to → ⊥
IsEdgeTo v s step to (Some r) = GoesAlong v s step (edge_value r) × IsState v r.state × IsSmall r.cost

-- a step is that of a move to the end
pub record Finishes (v : LegsValue) (s : State) (step : PathStep) (c : Cost) : Type 0 where
  pub move : Move
  pub is_step : step_of v move ≡ step
  pub last : last_of v s move ≡ Some c

abbrev pub IsLastOf : LegsValue → State → PathStep → Option Cost → Type 0
IsLastOf v s step None = (c : Cost) → Finishes v s step c → ⊥
IsLastOf v s step (Some c) = Finishes v s step c × IsSmall c

-- what lines of a path cost together, as whole numbers
abbrev pub spent_value : Spent → Cost
spent_value s = record { containers = s.containers; sids = s.sids; hops = s.hops }

abbrev pub IsWalked : LegsValue → List PathLine → Result Spent ℕ → Type 0
IsWalked v lines (Ok spent) = PathCosts v start lines (spent_value spent)
IsWalked v lines (Err line) = BreaksAt v start lines line

-- steps from a state to another, what they cost, and what a path costs that begins with them
pub record Run (v : LegsValue) (s : State) (steps : List PathStep) (spent : Cost) (t : State) : Type 0 where
  pub moves : List Move
  pub steps_are : map (step_of v) moves ≡ steps
  pub leads : Leads v s steps t
  pub goes_on : (m : Move) (more : List Move) → cost_of v s (moves ++ m ∷ more) ≡ option_map (plus spent) (cost_of v t (m ∷ more))

abbrev pub Adds : Spent → Cost → Spent → Type 0
Adds before cost after = spent_value after ≡ plus (spent_value before) cost

abbrev pub IsSidAt : LegsValue → ℕ → ℕ → Type 0
IsSidAt v position n = Contains (v.sids_at position) n

-- the edge of a step to a SID at a position
abbrev pub IsEdgeBy : LegsValue → State → PathStep → ℕ → ℕ → Option Reached → Type 0
IsEdgeBy v s step to n None = (e : Edge) (m : Move) → step_of v m ≡ step → m.sid ≡ n → edge_of v s m ≡ Some e → e.to.position ≡ to → ⊥
IsEdgeBy v s step to n (Some r) = GoesAlong v s step (edge_value r) × IsState v r.state × IsSmall r.cost

abbrev pub IsLastBy : LegsValue → State → PathStep → ℕ → Option Cost → Type 0
IsLastBy v s step n None = (c : Cost) (m : Move) → step_of v m ≡ step → m.sid ≡ n → last_of v s m ≡ Some c → ⊥
IsLastBy v s step n (Some c) = Finishes v s step c × IsSmall c
