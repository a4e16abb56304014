-- The verdict on a certificate: the first of its tests that fails, or what it shows.
use Rattle.std.specs.Prelude.{◌≡◌, ℕ, ◌<◌, List, [], ◌∷◌, ◌++◌, map, slice_get, Option, Some, None, IsSome}
use Rattle.list_pack.specs.declared.types.Cost.{Cost}
use Rattle.list_pack.specs.declared.types.State.{State}
use Rattle.list_pack.specs.declared.types.PathStep.{PathStep}
use Rattle.list_pack.specs.LegsValue.{LegsValue}
use Rattle.list_pack.specs.Costs.{Move, Edge, edge_of, last_of, cost_of, start, IsState}
use Rattle.list_pack.specs.Least.{IsGoodAt, IsBefore, step_of}
use Rattle.list_certificate.specs.declared.certificate_types.PotentialLine.{PotentialLine}
use Rattle.list_certificate.specs.declared.certificate_types.PathLine.{PathLine}
use Rattle.list_certificate.specs.declared.certificate_types.Cert.{Cert}
use Rattle.list_certificate.specs.declared.certificate_types.Verdict.{Verdict}
use Rattle.list_certificate.specs.declared.certificate_types.Verdict.TheVariants.{Least, NoList, No}
use Rattle.list_certificate.specs.declared.certificate_types.Why.TheVariants.{Edge as BadEdge, Unlisted, Path, Tight}
use Rattle.list_certificate.specs.Certs.{potential_at}

-- a state passes: along each edge to a listed state or to the end the potential falls by at most what the edge costs, and where the
-- state itself is not listed there is no such edge
abbrev pub Passes : LegsValue → Cert → State → Type 0
Passes v c s = IsGoodAt v (potential_at c.potentials) s

-- 1. the state of each line passes; else the first line whose state does not
abbrev pub ListedPass : LegsValue → Cert → Type 0
ListedPass v c = (i : ℕ) (l : PotentialLine) → slice_get c.potentials i ≡ Some l → Passes v c l.potential.state

pub record IsBadLine (v : LegsValue) (c : Cert) (line : ℕ) : Type 0 where
  pub place : ℕ
  pub bad : PotentialLine
  pub here : slice_get c.potentials place ≡ Some bad
  pub is_bad : ¬ Passes v c bad.potential.state
  pub first : (i : ℕ) (l : PotentialLine) → i < place → slice_get c.potentials i ≡ Some l → Passes v c l.potential.state
  pub line_is : line ≡ bad.line

-- 2. each state that is not listed passes; else the first that does not, at the line of the head
pub record IsBadState (v : LegsValue) (c : Cert) (line : ℕ) (s : State) : Type 0 where
  pub listed : ListedPass v c
  pub is_state : IsState v s
  pub unlisted : potential_at c.potentials s ≡ None
  pub is_bad : ¬ Passes v c s
  pub first : (t : State) → IsState v t → potential_at c.potentials t ≡ None → IsBefore v t s → Passes v c t
  pub line_is : line ≡ c.head

abbrev pub AllPass : LegsValue → Cert → Type 0
AllPass v c = (s : State) → IsState v s → Passes v c s

-- a step of a path is that of a move along an edge
pub record GoesAlong (v : LegsValue) (s : State) (step : PathStep) (e : Edge) : Type 0 where
  pub move : Move
  pub is_step : step_of v move ≡ step
  pub edge : edge_of v s move ≡ Some e

-- steps lead along edges from a state to another
abbrev pub Leads : LegsValue → State → List PathStep → State → Type 0
Leads v s [] t = s ≡ t
Leads v s (step ∷ steps) t = (e : Edge) × GoesAlong v s step e × Leads v e.to steps t

-- a step is no finish where it is the last, and goes along no edge where it is not
abbrev pub IsAstray : LegsValue → State → PathStep → List PathLine → Type 0
IsAstray v s step [] = (m : Move) (c : Cost) → step_of v m ≡ step → last_of v s m ≡ Some c → ⊥
IsAstray v s step (l ∷ ls) = (e : Edge) → GoesAlong v s step e → ⊥

abbrev pub steps_of : List PathLine → List PathStep
steps_of = map (λ (l : PathLine). l.step)

-- the first line of a path from a state that goes astray
pub record BreaksAt (v : LegsValue) (s : State) (lines : List PathLine) (line : ℕ) : Type 0 where
  pub before : List PathLine
  pub bad : PathLine
  pub behind : List PathLine
  pub parts : lines ≡ before ++ bad ∷ behind
  pub reached : State
  pub leads : Leads v s (steps_of before) reached
  pub astray : IsAstray v reached bad.step behind
  pub line_is : line ≡ bad.line

-- the lines are the steps of a path from a state that costs so much
pub record PathCosts (v : LegsValue) (s : State) (lines : List PathLine) (cost : Cost) : Type 0 where
  pub moves : List Move
  pub steps_are : map (step_of v) moves ≡ steps_of lines
  pub cost_is : cost_of v s moves ≡ Some cost

-- 3. where a line says that there is no path, the start is not listed
-- 4. else the lines are the steps of a path from the start
abbrev pub IsBadWay : LegsValue → Cert → Option ℕ → ℕ → Type 0
IsBadWay v c (Some none) line = IsSome (potential_at c.potentials start) × (line ≡ none)
IsBadWay v c None line = BreaksAt v start c.path line

-- whose cost is the start's potential
pub record IsNotTight (v : LegsValue) (c : Cert) (line : ℕ) : Type 0 where
  pub written : c.none ≡ None
  pub cost : Cost
  pub costs : PathCosts v start c.path cost
  pub differs : ¬ (potential_at c.potentials start ≡ Some cost)
  pub line_is : line ≡ c.end

pub record IsTight (v : LegsValue) (c : Cert) (cost : Cost) : Type 0 where
  pub written : c.none ≡ None
  pub costs : PathCosts v start c.path cost
  pub same : potential_at c.potentials start ≡ Some cost

-- the first test that fails in this order, or what is shown where none does
abbrev pub IsVerdict : LegsValue → Cert → Verdict → Type 0
IsVerdict v c (No line BadEdge) = IsBadLine v c line
IsVerdict v c (No line (Unlisted s)) = IsBadState v c line s
IsVerdict v c (No line Path) = AllPass v c × IsBadWay v c c.none line
IsVerdict v c (No line Tight) = AllPass v c × IsNotTight v c line
IsVerdict v c NoList = AllPass v c × IsSome c.none × (potential_at c.potentials start ≡ None)
IsVerdict v c (Least containers sids hops) =
    AllPass v c × IsTight v c (record { containers = containers; sids = sids; hops = hops })
