-- A certificate has one verdict: each line that a test names is the first, and a path of steps is one path.
use Rattle.std.proofs.Common.{◌≡◌, ℕ, inl, inr, Bool, true, List, [], ◌∷◌, ◌++◌, map, Option, Some, None, slice_get, refl, sym, ◌∙◌, ap, subst}
use Rattle.std.specs.Prelude.{IsSome, is_some}
use Rattle.std.specs.Option.{option_map}
use Rattle.std.proofs.lemmas.Bool.{false≢true, cases_order, cases_Bool, or_left, or_right}
use Rattle.std.proofs.lemmas.Option.{none-some, same_Some, slice_get_within, get_or_from_slice_get}
use Rattle.list_pack.specs.declared.types.Cost.{Cost}
use Rattle.list_pack.specs.declared.types.State.{State}
use Rattle.list_pack.specs.declared.types.PathStep.{PathStep}
use Rattle.list_pack.specs.ListOrder.{lex_before}
use Rattle.list_pack.specs.LegsValue.{LegsValue}
use Rattle.list_pack.specs.LegsValueTerms.{KeepsLaws, comes_to}
use Rattle.list_pack.specs.Costs.{Move, Edge, plus, edge_of, last_of, behind, cost_of, start, IsState}
use Rattle.list_pack.specs.Least.{step_of, state_key}
use Rattle.list_pack.proofs.PublicLaws.{edge_parts, last_parts}
use Rattle.list_certificate.specs.declared.certificate_types.PotentialLine.{PotentialLine}
use Rattle.list_certificate.specs.declared.certificate_types.PathLine.{PathLine}
use Rattle.list_certificate.specs.declared.certificate_types.Cert.{Cert}
use Rattle.list_certificate.specs.declared.certificate_types.Verdict.{Verdict}
use Rattle.list_certificate.specs.declared.certificate_types.Verdict.TheVariants.{Least, NoList, No}
use Rattle.list_certificate.specs.declared.certificate_types.Why.TheVariants.{Edge as BadEdge, Unlisted, Path, Tight}
use Rattle.list_certificate.specs.Certs.{potential_at}
use Rattle.list_certificate.specs.CertsTerms.{IsCert}
use Rattle.list_certificate.specs.Verdicts.{ListedPass, IsBadLine, IsBadState, AllPass, GoesAlong, Leads, IsAstray, steps_of, BreaksAt, PathCosts, IsBadWay, IsNotTight, IsTight, IsVerdict}
use Rattle.list_certificate.proofs.States.{states_same}

-- ---- the first bad line and the first bad state

pub bad_line_same : (v : LegsValue) (c : Cert) (a b : ℕ) → IsBadLine v c a → IsBadLine v c b → a ≡ b
bad_line_same v c a b h k =
    elim (cases_order h.place k.place) as (λ w. a ≡ b) [
      | inl same ↦
          let bads : h.bad ≡ k.bad = same_Some h.bad k.bad (sym h.here ∙ ap (slice_get c.potentials) same ∙ k.here) in
          h.line_is ∙ ap (λ (x : PotentialLine). x.line) bads ∙ sym k.line_is
      | inr o ↦
          elim o as (λ w. a ≡ b) [
            | inl less ↦ absurd (h.is_bad (k.first h.place h.bad less h.here))
            | inr more ↦ absurd (k.is_bad (h.first k.place k.bad more k.here))
          ]
    ]

pub bad_line_fails : (v : LegsValue) (c : Cert) (line : ℕ) → IsBadLine v c line → ListedPass v c → ⊥
bad_line_fails v c line h pass = h.is_bad (pass h.place h.bad h.here)

pub listed_pass : (v : LegsValue) (c : Cert) → IsCert v c → AllPass v c → ListedPass v c
listed_pass v c cert pass i l here =
    pass l.potential.state
    (subst (λ (x : PotentialLine). IsState v x.potential.state) (get_or_from_slice_get c.potentials i l l here)
    (cert.states i l (slice_get_within c.potentials i l here)))

pub bad_state_same : (v : LegsValue) → KeepsLaws v → (c : Cert) (a b : ℕ) (s t : State) → IsBadState v c a s → IsBadState v c b t → s ≡ t
bad_state_same v laws c a b s t h k =
    elim (cases_Bool (lex_before (state_key v s) (state_key v t))) as (λ w. s ≡ t) [
      | inl less ↦ absurd (h.is_bad (k.first s h.is_state h.unlisted less))
      | inr not_less ↦
          elim (cases_Bool (lex_before (state_key v t) (state_key v s))) as (λ w. s ≡ t) [
            | inl more ↦ absurd (k.is_bad (h.first t k.is_state k.unlisted more))
            | inr not_more ↦ states_same v laws s t h.is_state k.is_state not_less not_more
          ]
    ]

-- ---- moves of one step

comes_edge : (v : LegsValue) (s : State) (m : Move) (e : Edge) → edge_of v s m ≡ Some e → comes_to v s.position s.via m.sid ≡ true
comes_edge v s m e h =
    or_left (is_some (v.leg s.position s.via m.sid)) (is_some (v.finish s.position s.via m.sid)) (ap is_some (edge_parts v s m e h).leg_is)

comes_last : (v : LegsValue) (s : State) (m : Move) (c : Cost) → last_of v s m ≡ Some c → comes_to v s.position s.via m.sid ≡ true
comes_last v s m c h =
    or_right (is_some (v.leg s.position s.via m.sid)) (is_some (v.finish s.position s.via m.sid))
    (ap is_some (last_parts v s m c h).finish_is)

moves_same : (v : LegsValue) → KeepsLaws v → (s : State) (m n : Move) → step_of v m ≡ step_of v n
    → comes_to v s.position s.via m.sid ≡ true
    → comes_to v s.position s.via n.sid ≡ true → m ≡ n
moves_same v laws s m n e h k =
    let stays : m.stays ≡ n.stays = ap (λ (p : PathStep). p.stays) e in
    let sids : m.sid ≡ n.sid = laws.one_of_prefix s.position s.via m.sid n.sid h k (ap (λ (p : PathStep). p.prefix) e) in
    let one : (x : Bool) → Move = λ x. record { stays = x; sid = m.sid } in
    let two : (x : ℕ) → Move = λ x. record { stays = n.stays; sid = x } in
    ap one stays ∙ ap two sids

pub edges_same : (v : LegsValue) → KeepsLaws v → (s : State) (m n : Move) (e f : Edge) → step_of v m ≡ step_of v n → edge_of v s m ≡ Some e
    → edge_of v s n ≡ Some f
    → e ≡ f
edges_same v laws s m n e f same h k =
    let moves = moves_same v laws s m n same (comes_edge v s m e h) (comes_edge v s n f k) in
    same_Some e f (sym h ∙ ap (edge_of v s) moves ∙ k)

pub along_same : (v : LegsValue) → KeepsLaws v → (s : State) (step : PathStep) (e f : Edge) → GoesAlong v s step e → GoesAlong v s step f
    → e ≡ f
along_same v laws s step e f h k = edges_same v laws s h.move k.move e f (h.is_step ∙ sym k.is_step) h.edge k.edge

lasts_same : (v : LegsValue) → KeepsLaws v → (s : State) (m n : Move) (c d : Cost) → step_of v m ≡ step_of v n → last_of v s m ≡ Some c
    → last_of v s n ≡ Some d
    → c ≡ d
lasts_same v laws s m n c d same h k =
    let moves = moves_same v laws s m n same (comes_last v s m c h) (comes_last v s n d k) in
    same_Some c d (sym h ∙ ap (last_of v s) moves ∙ k)

-- what follows the first move of a path
pub record Onward (v : LegsValue) (s : State) (m : Move) (rest : List Move) (c : Cost) : Type 0 where
  pub to : Edge
  pub edge : edge_of v s m ≡ Some to
  pub left : Cost
  pub cost : cost_of v to.to rest ≡ Some left
  pub sum : plus to.cost left ≡ c

onward_by : (v : LegsValue) (s : State) (m : Move) (rest : List Move) (c : Cost) (o : Option Edge) → edge_of v s m ≡ o
    → behind o (λ t. cost_of v t rest) ≡ Some c
    → Onward v s m rest c
onward_by v s m rest c None e h = absurd (none-some c h)
onward_by v s m rest c (Some to) e h = by (cost_of v to.to rest) refl h
  where
    by : (o : Option Cost) → cost_of v to.to rest ≡ o → option_map (plus to.cost) o ≡ Some c → Onward v s m rest c
    by None f k = absurd (none-some c k)
    by (Some left) f k = record { to = to; edge = e; left = left; cost = f; sum = same_Some (plus to.cost left) c k }

pub onward : (v : LegsValue) (s : State) (m n : Move) (more : List Move) (c : Cost) → cost_of v s (m ∷ n ∷ more) ≡ Some c
    → Onward v s m (n ∷ more) c
onward v s m n more c h = onward_by v s m (n ∷ more) c (edge_of v s m) refl h

-- ---- the cost of a path of steps

pub costs_same : (v : LegsValue) → KeepsLaws v → (s : State) (ms ns : List Move) (c d : Cost) → map (step_of v) ms ≡ map (step_of v) ns
    → cost_of v s ms ≡ Some c
    → cost_of v s ns ≡ Some d → c ≡ d
costs_same v laws s [] ns c d e h k = absurd (none-some c h)
costs_same v laws s (m ∷ ms) [] c d e h k = absurd (none-some d k)
costs_same v laws s (m ∷ []) (n ∷ []) c d e h k =
    let same : step_of v m ≡ step_of v n = cc in
    lasts_same v laws s m n c d same h k
costs_same v laws s (m ∷ []) (n ∷ o ∷ ns) c d e h k = absurd (cc)
costs_same v laws s (m ∷ o ∷ ms) (n ∷ []) c d e h k = absurd (cc)
costs_same v laws s (m ∷ a ∷ ms) (n ∷ b ∷ ns) c d e h k =
    let same : step_of v m ≡ step_of v n = cc in
    let rest : map (step_of v) (a ∷ ms) ≡ map (step_of v) (b ∷ ns) = cc in
    let one = onward v s m a ms c h in
    let two = onward v s n b ns d k in
    let edges : one.to ≡ two.to = edges_same v laws s m n one.to two.to same one.edge two.edge in
    let lefts : one.left ≡ two.left =
    costs_same v laws one.to.to (a ∷ ms) (b ∷ ns) one.left two.left rest one.cost
    (subst (λ (x : Edge). cost_of v x.to (b ∷ ns) ≡ Some two.left) (sym edges) two.cost) in
    sym one.sum ∙ ap (λ (x : Edge). plus x.cost one.left) edges ∙ ap (plus two.to.cost) lefts ∙ two.sum

pub path_costs_same : (v : LegsValue) → KeepsLaws v → (s : State) (lines : List PathLine) (c d : Cost) → PathCosts v s lines c
    → PathCosts v s lines d
    → c ≡ d
path_costs_same v laws s lines c d h k =
    costs_same v laws s h.moves k.moves c d (h.steps_are ∙ sym k.steps_are) h.cost_is k.cost_is

-- ---- the line where a path breaks

-- a line before others does not break where it goes along an edge
astray_on : (v : LegsValue) (s : State) (step : PathStep) (ls : List PathLine) (x : PathLine) (more : List PathLine) (e : Edge)
    → IsAstray v s step (ls ++ x ∷ more)
    → GoesAlong v s step e → ⊥
astray_on v s step [] x more e h along = h e along
astray_on v s step (l ∷ ls) x more e h along = h e along

breaks_by : (v : LegsValue) → KeepsLaws v → (s : State) (before : List PathLine) (bad : PathLine) (behind : List PathLine) (t : State)
    (front : List PathLine) (worse : PathLine) (rest : List PathLine) (u : State) → before ++ bad ∷ behind ≡ front ++ worse ∷ rest
    → Leads v s (steps_of before) t
    → Leads v s (steps_of front) u → IsAstray v t bad.step behind → IsAstray v u worse.step rest → bad ≡ worse
breaks_by v laws s [] bad behind t [] worse rest u e h k f g = cc
breaks_by v laws s [] bad behind t (l ∷ ls) worse rest u e h k f g =
    let same : bad ≡ l = cc in
    let others : behind ≡ ls ++ worse ∷ rest = cc in
    let along : GoesAlong v t bad.step k.0 =
    subst (λ (x : State). GoesAlong v x bad.step k.0) h (subst (λ (x : PathLine). GoesAlong v s x.step k.0) (sym same) k.1) in
    absurd (astray_on v t bad.step ls worse rest k.0 (subst (IsAstray v t bad.step) others f) along)
breaks_by v laws s (l ∷ ls) bad behind t [] worse rest u e h k f g =
    let same : l ≡ worse = cc in
    let others : ls ++ bad ∷ behind ≡ rest = cc in
    let along : GoesAlong v u worse.step h.0 =
    subst (λ (x : State). GoesAlong v x worse.step h.0) k (subst (λ (x : PathLine). GoesAlong v s x.step h.0) same h.1) in
    absurd (astray_on v u worse.step ls bad behind h.0 (subst (IsAstray v u worse.step) (sym others) g) along)
breaks_by v laws s (a ∷ before) bad behind t (b ∷ front) worse rest u e h k f g =
    let same : a ≡ b = cc in
    let others : before ++ bad ∷ behind ≡ front ++ worse ∷ rest = cc in
    let edges : k.0 ≡ h.0 =
    along_same v laws s b.step k.0 h.0 k.1 (subst (λ (x : PathLine). GoesAlong v s x.step h.0) same h.1) in
    breaks_by v laws h.0.to before bad behind t front worse rest u others h.2
    (subst (λ (x : Edge). Leads v x.to (steps_of front) u) edges k.2) f g

pub breaks_same : (v : LegsValue) → KeepsLaws v → (s : State) (lines : List PathLine) (a b : ℕ) → BreaksAt v s lines a
    → BreaksAt v s lines b
    → a ≡ b
breaks_same v laws s lines a b h k =
    h.line_is
    ∙ ap (λ (x : PathLine). x.line)
    (breaks_by v laws s h.before h.bad h.behind h.reached k.before k.bad k.behind k.reached (sym h.parts ∙ k.parts) h.leads k.leads h.astray
    k.astray)
    ∙ sym k.line_is

-- a path that costs something breaks nowhere
some_steps : (before : List PathLine) (bad : PathLine) (behind : List PathLine) → [] ≡ steps_of (before ++ bad ∷ behind) → ⊥
some_steps [] bad behind e = cc
some_steps (l ∷ ls) bad behind e = cc

astray_last : (v : LegsValue) (s : State) (m : Move) (bad : PathLine) (behind : List PathLine) (c : Cost)
    → step_of v m ∷ [] ≡ steps_of (bad ∷ behind) → last_of v s m ≡ Some c
    → IsAstray v s bad.step behind → ⊥
astray_last v s m bad [] c e h f =
    let same : step_of v m ≡ bad.step = cc in
    f m c same h
astray_last v s m bad (l ∷ ls) c e h f = cc

astray_edge : (v : LegsValue) (s : State) (m n : Move) (more : List Move) (bad : PathLine) (behind : List PathLine) (to : Edge)
    → map (step_of v) (m ∷ n ∷ more) ≡ steps_of (bad ∷ behind) → edge_of v s m ≡ Some to → IsAstray v s bad.step behind → ⊥
astray_edge v s m n more bad [] to e h f = cc
astray_edge v s m n more bad (l ∷ ls) to e h f =
    let same : step_of v m ≡ bad.step = cc in
    f to (record { move = m; is_step = same; edge = h })

costs_break_not : (v : LegsValue) → KeepsLaws v → (s : State) (ms : List Move) (before : List PathLine) (bad : PathLine)
    (behind : List PathLine) (t : State) (c : Cost) → map (step_of v) ms ≡ steps_of (before ++ bad ∷ behind) → cost_of v s ms ≡ Some c
    → Leads v s (steps_of before) t
    → IsAstray v t bad.step behind → ⊥
costs_break_not v laws s [] before bad behind t c e h k f = none-some c h
costs_break_not v laws s (m ∷ []) [] bad behind t c e h k f =
    astray_last v t m bad behind c e (subst (λ (x : State). last_of v x m ≡ Some c) k h) f
costs_break_not v laws s (m ∷ n ∷ more) [] bad behind t c e h k f =
    let one = onward v s m n more c h in
    astray_edge v t m n more bad behind one.to e (subst (λ (x : State). edge_of v x m ≡ Some one.to) k one.edge) f
costs_break_not v laws s (m ∷ []) (l ∷ ls) bad behind t c e h k f =
    let rest : [] ≡ steps_of (ls ++ bad ∷ behind) = cc in
    some_steps ls bad behind rest
costs_break_not v laws s (m ∷ n ∷ more) (l ∷ ls) bad behind t c e h k f =
    let same : step_of v m ≡ l.step = cc in
    let rest : map (step_of v) (n ∷ more) ≡ steps_of (ls ++ bad ∷ behind) = cc in
    let one = onward v s m n more c h in
    let edges : one.to ≡ k.0 = edges_same v laws s m k.1.move one.to k.0 (same ∙ sym k.1.is_step) one.edge k.1.edge in
    costs_break_not v laws k.0.to (n ∷ more) ls bad behind t one.left rest
    (subst (λ (x : Edge). cost_of v x.to (n ∷ more) ≡ Some one.left) edges one.cost) k.2 f

pub costs_unbroken : (v : LegsValue) → KeepsLaws v → (s : State) (lines : List PathLine) (c : Cost) (line : ℕ) → PathCosts v s lines c
    → BreaksAt v s lines line
    → ⊥
costs_unbroken v laws s lines c line h k =
    costs_break_not v laws s h.moves k.before k.bad k.behind k.reached c (h.steps_are ∙ ap steps_of k.parts) h.cost_is k.leads k.astray

-- ---- the way

way_same : (v : LegsValue) → KeepsLaws v → (c : Cert) (o : Option ℕ) (a b : ℕ) → IsBadWay v c o a → IsBadWay v c o b → a ≡ b
way_same v laws c None a b h k = breaks_same v laws start c.path a b h k
way_same v laws c (Some none) a b h k = h.1 ∙ sym k.1

way_costs_not : (v : LegsValue) → KeepsLaws v → (c : Cert) (line : ℕ) (cost : Cost) → IsBadWay v c c.none line → c.none ≡ None
    → PathCosts v start c.path cost
    → ⊥
way_costs_not v laws c line cost h e k =
    costs_unbroken v laws start c.path cost line k (subst (λ (o : Option ℕ). IsBadWay v c o line) e h)

way_is_some : (v : LegsValue) (c : Cert) (o : Option ℕ) (line : ℕ) → IsBadWay v c o line → IsSome o → potential_at c.potentials start ≡ None
    → ⊥
way_is_some v c None line h some none = false≢true some
way_is_some v c (Some n) line h some none = false≢true (sym (ap is_some none) ∙ h.0)

some_not_none : (o : Option ℕ) → IsSome o → o ≡ None → ⊥
some_not_none o some e = false≢true (sym (ap is_some e) ∙ some)

-- ---- the verdict

module _ (v : LegsValue) (c : Cert) (laws : KeepsLaws v) (cert : IsCert v c) where
  bad_line_all : {X : Type 0} (line : ℕ) → IsBadLine v c line → AllPass v c → X
  bad_line_all line h pass = absurd (bad_line_fails v c line h (listed_pass v c cert pass))

  bad_state_all : {X : Type 0} (line : ℕ) (s : State) → IsBadState v c line s → AllPass v c → X
  bad_state_all line s h pass = absurd (h.is_bad (pass s h.is_state))

  of_edge : (line : ℕ) (b : Verdict) → IsBadLine v c line → IsVerdict v c b → No line BadEdge ≡ b
  of_edge line (No m BadEdge) h k = ap (λ (x : ℕ). No x BadEdge) (bad_line_same v c line m h k)
  of_edge line (No m (Unlisted s)) h k = absurd (bad_line_fails v c line h k.listed)
  of_edge line (No m Path) h k = bad_line_all line h k.0
  of_edge line (No m Tight) h k = bad_line_all line h k.0
  of_edge line NoList h k = bad_line_all line h k.0
  of_edge line (Least containers sids hops) h k = bad_line_all line h k.0

  of_state : (line : ℕ) (s : State) (b : Verdict) → IsBadState v c line s → IsVerdict v c b → No line (Unlisted s) ≡ b
  of_state line s (No m BadEdge) h k = absurd (bad_line_fails v c m k h.listed)
  of_state line s (No m (Unlisted t)) h k =
      ap (λ (x : ℕ). No x (Unlisted s)) (h.line_is ∙ sym k.line_is)
      ∙ ap (λ (x : State). No m (Unlisted x)) (bad_state_same v laws c line m s t h k)
  of_state line s (No m Path) h k = bad_state_all line s h k.0
  of_state line s (No m Tight) h k = bad_state_all line s h k.0
  of_state line s NoList h k = bad_state_all line s h k.0
  of_state line s (Least containers sids hops) h k = bad_state_all line s h k.0

  of_path : (line : ℕ) (b : Verdict) → AllPass v c → IsBadWay v c c.none line → IsVerdict v c b → No line Path ≡ b
  of_path line (No m BadEdge) pass h k = bad_line_all m k pass
  of_path line (No m (Unlisted t)) pass h k = bad_state_all m t k pass
  of_path line (No m Path) pass h k = ap (λ (x : ℕ). No x Path) (way_same v laws c c.none line m h k.1)
  of_path line (No m Tight) pass h k = absurd (way_costs_not v laws c line k.1.cost h k.1.written k.1.costs)
  of_path line NoList pass h k = absurd (way_is_some v c c.none line h k.1 k.2)
  of_path line (Least containers sids hops) pass h k =
      absurd (way_costs_not v laws c line (record { containers = containers; sids = sids; hops = hops }) h k.1.written k.1.costs)

  of_tight : (line : ℕ) (b : Verdict) → AllPass v c → IsNotTight v c line → IsVerdict v c b → No line Tight ≡ b
  of_tight line (No m BadEdge) pass h k = bad_line_all m k pass
  of_tight line (No m (Unlisted t)) pass h k = bad_state_all m t k pass
  of_tight line (No m Path) pass h k = absurd (way_costs_not v laws c m h.cost k.1 h.written h.costs)
  of_tight line (No m Tight) pass h k = ap (λ (x : ℕ). No x Tight) (h.line_is ∙ sym k.1.line_is)
  of_tight line NoList pass h k = absurd (some_not_none c.none k.1 h.written)
  of_tight line (Least containers sids hops) pass h k =
      let cost : Cost = record { containers = containers; sids = sids; hops = hops } in
      let same : cost ≡ h.cost = path_costs_same v laws start c.path cost h.cost k.1.costs h.costs in
      absurd (h.differs (k.1.same ∙ ap (λ (x : Cost). Some x) same))

  of_none : (b : Verdict) → AllPass v c → IsSome c.none → potential_at c.potentials start ≡ None → IsVerdict v c b → NoList ≡ b
  of_none (No m BadEdge) pass h e k = bad_line_all m k pass
  of_none (No m (Unlisted t)) pass h e k = bad_state_all m t k pass
  of_none (No m Path) pass h e k = absurd (way_is_some v c c.none m k.1 h e)
  of_none (No m Tight) pass h e k = absurd (some_not_none c.none h k.1.written)
  of_none NoList pass h e k = refl
  of_none (Least containers sids hops) pass h e k = absurd (some_not_none c.none h k.1.written)

  of_least : (containers sids hops : ℕ) (b : Verdict) → AllPass v c → IsTight v c (record { containers = containers; sids = sids; hops = hops })
      → IsVerdict v c b
      → Least containers sids hops ≡ b
  of_least containers sids hops (No m BadEdge) pass h k = bad_line_all m k pass
  of_least containers sids hops (No m (Unlisted t)) pass h k = bad_state_all m t k pass
  of_least containers sids hops (No m Path) pass h k =
      absurd (way_costs_not v laws c m (record { containers = containers; sids = sids; hops = hops }) k.1 h.written h.costs)
  of_least containers sids hops (No m Tight) pass h k = sym (of_tight m (Least containers sids hops) pass k.1 (pass, h))
  of_least containers sids hops NoList pass h k = absurd (some_not_none c.none k.1 h.written)
  of_least containers sids hops (Least more_containers more_sids more_hops) pass h k =
      let cost : Cost = record { containers = containers; sids = sids; hops = hops } in
      let other : Cost = record { containers = more_containers; sids = more_sids; hops = more_hops } in
      let same : cost ≡ other = path_costs_same v laws start c.path cost other h.costs k.1.costs in
      ap (λ (x : Cost). Least x.containers x.sids x.hops) same

  verdicts_same : (a b : Verdict) → IsVerdict v c a → IsVerdict v c b → a ≡ b
  verdicts_same (No line BadEdge) b h k = of_edge line b h k
  verdicts_same (No line (Unlisted s)) b h k = of_state line s b h k
  verdicts_same (No line Path) b h k = of_path line b h.0 h.1 k
  verdicts_same (No line Tight) b h k = of_tight line b h.0 h.1 k
  verdicts_same NoList b h k = of_none b h.0 h.1 h.2 k
  verdicts_same (Least containers sids hops) b h k = of_least containers sids hops b h.0 h.1 k

pub one_verdict : (v : LegsValue) (c : Cert) (a b : Verdict) → KeepsLaws v → IsCert v c → IsVerdict v c a → IsVerdict v c b → a ≡ b
one_verdict v c a b laws cert h k = verdicts_same v c laws cert a b h k
