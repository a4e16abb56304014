-- Good potentials bound all paths, and least costs are good.
use Rattle.std.proofs.Common.{◌≡◌, List, [], ◌∷◌, Option, Some, None, refl, ◌∙◌, ap, subst}
use Rattle.std.specs.Option.{option_map}
use Rattle.std.proofs.lemmas.Option.{none-some}
use Rattle.list_pack.specs.declared.types.Cost.{Cost}
use Rattle.list_pack.specs.declared.types.State.{State}
use Rattle.list_pack.specs.LegsValue.{LegsValue}
use Rattle.list_pack.specs.LegsValueTerms.{KeepsLaws}
use Rattle.list_pack.specs.Costs.{Move, Edge, plus, edge_of, last_of, behind, cost_of, Under, IsState}
use Rattle.list_pack.specs.Least.{Attains, IsLeast, IsGoodAt}
use Rattle.list_pack.proofs.Costing.{under_none, under_trans, under_plus, edge_state}

-- what is under each edge's cost with what is after it is under the cost of a path that begins with it
pub under_behind : (v : LegsValue) (o : Option Cost) (edge : Option Edge) (later : State → Option Cost)
    → ((e : Edge) → edge ≡ Some e → Under o (option_map (plus e.cost) (later e.to))) → Under o (behind edge later)
under_behind v o None later h = under_none o
under_behind v o (Some e) later h = h e refl

pub under_last : (o last : Option Cost) → ((c : Cost) → last ≡ Some c → Under o (Some c)) → Under o last
under_last o None h = under_none o
under_last o (Some c) h = h c refl

pub bounds : (v : LegsValue) (p : State → Option Cost) → KeepsLaws v → ((t : State) → IsState v t → IsGoodAt v p t)
    → (moves : List Move) (s : State)
    → IsState v s → Under (p s) (cost_of v s moves)
bounds v p laws good [] s is_s = under_none (p s)
bounds v p laws good (m ∷ []) s is_s = under_last (p s) (last_of v s m) ((good s is_s).lasts m)
bounds v p laws good (m ∷ n ∷ more) s is_s =
    under_behind v (p s) (edge_of v s m) (λ (t : State). cost_of v t (n ∷ more)) (λ e h.
    under_trans (p s) (option_map (plus e.cost) (p e.to)) _ ((good s is_s).edges m e h)
    (under_plus e.cost (p e.to) (cost_of v e.to (n ∷ more)) (bounds v p laws good (n ∷ more) e.to (edge_state v laws s m e is_s h))))

-- a path of the cost of a potential is least
pub tight_least : (v : LegsValue) (p : State → Option Cost) (s : State) (moves : List Move) (c : Cost) → KeepsLaws v
    → ((t : State) → IsState v t → IsGoodAt v p t) → IsState v s → p s ≡ Some c → cost_of v s moves ≡ Some c → IsLeast v s (Some c)
tight_least v p s moves c laws good is_s e h =
    record {
      attains = (moves, h);
      least = λ other. subst (λ (o : Option Cost). Under o (cost_of v s other)) e (bounds v p laws good other s is_s);
    }

none_only : (o : Option Cost) → Under None o → o ≡ None
none_only None h = refl
none_only (Some c) h = absurd h

pub unlisted_none : (v : LegsValue) (p : State → Option Cost) (s : State) (moves : List Move) → KeepsLaws v
    → ((t : State) → IsState v t → IsGoodAt v p t) → IsState v s → p s ≡ None → cost_of v s moves ≡ None
unlisted_none v p s moves laws good is_s e =
    none_only (cost_of v s moves) (subst (λ (o : Option Cost). Under o (cost_of v s moves)) e (bounds v p laws good moves s is_s))

-- after an edge, what a path attains is attained with the edge in front
pub attained : (v : LegsValue) (s : State) (m : Move) (e : Edge) (moves : List Move) (d : Cost) → edge_of v s m ≡ Some e
    → cost_of v e.to moves ≡ Some d
    → cost_of v s (m ∷ moves) ≡ Some (plus e.cost d)
attained v s m e [] d h k = absurd (none-some d k)
attained v s m e (n ∷ more) d h k =
    ap (λ (o : Option Edge). behind o (λ (t : State). cost_of v t (n ∷ more))) h ∙ ap (λ (o : Option Cost). option_map (plus e.cost) o) k

pub edge_under : (v : LegsValue) (s : State) (o q : Option Cost) (m : Move) (e : Edge) → IsLeast v s o → edge_of v s m ≡ Some e
    → Attains v e.to q
    → Under o (option_map (plus e.cost) q)
edge_under v s o None m e least h is = under_none o
edge_under v s o (Some d) m e least h is =
    subst (λ (x : Option Cost). Under o x) (attained v s m e is.0 d h is.1) (least.least (m ∷ is.0))

pub least_good : (v : LegsValue) (p : State → Option Cost) (s : State) → KeepsLaws v → ((t : State) → IsState v t → IsLeast v t (p t))
    → IsState v s
    → IsGoodAt v p s
least_good v p s laws least is_s =
    record {
      edges = λ m e h. edge_under v s (p s) (p e.to) m e (least s is_s) h (least e.to (edge_state v laws s m e is_s h)).attains;
      lasts = λ m c h. subst (λ (x : Option Cost). Under (p s) x) h ((least s is_s).least (m ∷ []));
    }
