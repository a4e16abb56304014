-- Least costs, potentials, the first least path, and what a search has to find.
use Rattle.std.specs.Prelude.{◌≡◌, ℕ, Bool, false, if◌then◌else◌, List, [], ◌∷◌, map, Option, Some, None, IsTrue, Contains, AllPairs}
use Rattle.std.specs.Option.{option_map}
use Rattle.list_pack.specs.declared.types.Cost.{Cost}
use Rattle.list_pack.specs.declared.types.State.{State}
use Rattle.list_pack.specs.declared.types.PathStep.{PathStep}
use Rattle.list_pack.specs.declared.types.Potential.{Potential}
use Rattle.list_pack.specs.declared.types.Solution.{Solution}
use Rattle.list_pack.specs.ListOrder.{lex_before}
use Rattle.list_pack.specs.LegsValue.{LegsValue}
use Rattle.list_pack.specs.Costs.{Move, Edge, plus, edge_of, last_of, cost_of, Under, start, IsState}

-- some path from the state costs so much
abbrev pub Attains : LegsValue → State → Option Cost → Type 0
Attains v s None = Unit {0}
Attains v s (Some c) = (moves : List Move) × (cost_of v s moves ≡ Some c)

-- the least cost of a path from the state to the end: one has it and none is below; none exactly where there is no path
pub record IsLeast (v : LegsValue) (s : State) (o : Option Cost) : Type 0 where
  pub attains : Attains v s o
  pub least : (moves : List Move) → Under o (cost_of v s moves)

-- a potential is good at a state: along each edge to a state that has one, and along each finish, it is there and falls by at most the cost
pub record IsGoodAt (v : LegsValue) (p : State → Option Cost) (s : State) : Type 0 where
  pub edges : (m : Move) (e : Edge) → edge_of v s m ≡ Some e → Under (p s) (option_map (plus e.cost) (p e.to))
  pub lasts : (m : Move) (c : Cost) → last_of v s m ≡ Some c → Under (p s) (Some c)

-- a move as it is written: by the prefix of its SID
abbrev pub step_of : LegsValue → Move → PathStep
step_of v m = record { stays = m.stays; prefix = (v.shape m.sid).prefix }

-- the order of paths: at the first difference the lower prefix value, then the lower length; on one prefix staying before a new container
abbrev pub path_key : List PathStep → List ℕ
path_key [] = []
path_key (p ∷ ps) = p.prefix.value ∷ p.prefix.len ∷ (if p.stays then 0 else 1) ∷ path_key ps

abbrev pub path_before : List PathStep → List PathStep → Bool
path_before ps qs = lex_before (path_key ps) (path_key qs)

-- a least path from the state, and of all paths of its cost the first in the order of paths
pub record IsFirstLeast (v : LegsValue) (s : State) (c : Cost) (path : List Move) : Type 0 where
  pub cost : cost_of v s path ≡ Some c
  pub least : (other : List Move) → Under (Some c) (cost_of v s other)
  pub first : (other : List Move) → cost_of v s other ≡ Some c
      → path_before (map (step_of v) other) (map (step_of v) path) ≡ false

-- the order of states: the start first; then by position, prefix value, prefix length, node and room
abbrev pub state_key_by : LegsValue → ℕ → Option ℕ → ℕ → List ℕ
state_key_by v position None room = []
state_key_by v position (Some n) room =
    position ∷ (v.shape n).prefix.value ∷ (v.shape n).prefix.len ∷ v.node n ∷ room ∷ []

abbrev pub state_key : LegsValue → State → List ℕ
state_key v s = state_key_by v s.position s.via s.room

abbrev pub IsBefore : LegsValue → State → State → Type 0
IsBefore v s t = IsTrue (lex_before (state_key v s) (state_key v t))

abbrev pub IsListed : List Potential → State → Type 0
IsListed ps s = (c : Cost) × Contains ps (record { state = s; cost = c })

-- exactly the states from which a path leads to the end, each once and in order, with the least cost of a path
pub record IsListing (v : LegsValue) (ps : List Potential) : Type 0 where
  pub listed : (s : State) (moves : List Move) (c : Cost) → IsState v s → cost_of v s moves ≡ Some c → IsListed ps s
  pub exact : (q : Potential) → Contains ps q → IsState v q.state × IsLeast v q.state (Some q.cost)
  pub order : AllPairs (λ (p q : Potential). IsBefore v p.state q.state) ps

-- the first least path from the start, with its cost
pub record IsPath (v : LegsValue) (path : List PathStep) : Type 0 where
  pub moves : List Move
  pub cost : Cost
  pub first : IsFirstLeast v start cost moves
  pub is_path : path ≡ map (step_of v) moves

-- no path leads from the start to the end
abbrev pub IsWithoutPath : LegsValue → Type 0
IsWithoutPath v = (moves : List Move) → cost_of v start moves ≡ None

-- a path is written exactly where there is one
abbrev pub IsPathOrNone : LegsValue → List PathStep → Type 0
IsPathOrNone v [] = IsWithoutPath v
IsPathOrNone v (p ∷ ps) = IsPath v (p ∷ ps)

-- what a search has to find
pub record IsSolution (v : LegsValue) (s : Solution) : Type 0 where
  pub potentials : IsListing v s.potentials
  pub path : IsPathOrNone v s.path
