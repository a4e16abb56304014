-- Traces that keep to steps, taken apart: links, and the execution behind them.
use Rattle.std.proofs.Common.{◌≡◌, ℕ, ◌-◌, Bool, true, false, if◌then◌else◌, List, [], ◌∷◌, ◌++◌, map, length, Option, Some, None, refl, sym, ◌∙◌, ap}
use Rattle.std.specs.Option.{option_map, option_and_then}
use Rattle.net_model.specs.Network.{Network}
use Rattle.intent_traces.specs.declared.trace_steps.TraceStep.{TraceStep}
use Rattle.intent_traces.specs.Traces as traces
use Rattle.intent_traces.specs.Traces.{count_left, left_behind, left_by}
use Rattle.choice_graph.proofs.GraphOptions.{map_some, some_same, then_some}
use Rattle.loose_walks.specs.WayGraphsTerms.{IsLeft}
use Rattle.loose_walks.specs.WalkStops.{ends_in}
use Rattle.loose_walks.proofs.Quiet.{left_steps}
use Rattle.leg_table.specs.WalkTrace.{Crossed, TraceEvent, Executed, is_titled}
use Rattle.loose_spec.specs.LooseLegs.{left_after}
use Rattle.loose_meaning_theory.specs.LooseKind.{kept_from, left_on, none_left}

pub map_same : (o : Option (List ℕ)) → option_map (λ (marks : List ℕ). [] ++ marks) o ≡ o
map_same None = refl
map_same (Some marks) = refl

-- no step is left
pub none_parts : (ts : List TraceStep) (marks : List ℕ) → none_left ts ≡ Some marks → (ts ≡ []) × (marks ≡ [])
none_parts [] marks h = (refl, sym (some_same [] marks h))
none_parts (t ∷ ts) marks h = absurd (cc)

pub no_steps : (ts : List TraceStep) → length ts ≡ 0 → ts ≡ []
no_steps [] h = refl
no_steps (t ∷ ts) h = absurd (cc)

module _ (net : Network) where
  -- ---- the steps left behind an execution, and their number

  pub after_on : (n : ℕ) (us : List TraceStep) (left : ℕ) → left_after net n us ≡ Some left
      → (rest : List TraceStep) × (left_on net us (Executed n) ≡ Some rest) × (length rest ≡ left)
  after_on n us left h = by_title (is_titled net n) h
    where
      by_title : (b : Bool) → (if b then count_left (left_behind (ends_in net) us (traces.Executed n)) else Some (length us)) ≡ Some left
          → (rest : List TraceStep) × ((if b then left_behind (ends_in net) us (traces.Executed n) else Some us) ≡ Some rest)
          × (length rest ≡ left)
      by_title true h = map_some (λ (vs : List TraceStep). length vs) (left_behind (ends_in net) us (traces.Executed n)) left h
      by_title false h = (us, refl, some_same (length us) left h)

  pub on_after : (n : ℕ) (us rest : List TraceStep) → left_on net us (Executed n) ≡ Some rest → left_after net n us ≡ Some (length rest)
  on_after n us rest h = by_title (is_titled net n) h
    where
      by_title : (b : Bool) → (if b then left_behind (ends_in net) us (traces.Executed n) else Some us) ≡ Some rest
          → (if b then count_left (left_behind (ends_in net) us (traces.Executed n)) else Some (length us)) ≡ Some (length rest)
      by_title true h = ap count_left h
      by_title false h = ap (λ (vs : List TraceStep). Some (length vs)) (some_same us rest h)

  pub on_left : (n : ℕ) (us rest : List TraceStep) → left_on net us (Executed n) ≡ Some rest → IsLeft us rest
  on_left n us rest h = by_title (is_titled net n) h
    where
      by_title : (b : Bool) → (if b then left_behind (ends_in net) us (traces.Executed n) else Some us) ≡ Some rest → IsLeft us rest
      by_title true h = left_steps (ends_in net) us rest (traces.Executed n) h
      by_title false h = ([], some_same us rest h)

  module _ (count : ℕ) where
    -- ---- a trace that begins with links, or with an execution

    pub links_kept : (links : List ℕ) (ts us : List TraceStep) (more : List TraceEvent)
        → left_by (ends_in net) ts (map traces.Crossed links) ≡ Some us
        → kept_from net count ts (map Crossed links ++ more) ≡ kept_from net count us more
    links_kept [] ts us more left = ap (λ (vs : List TraceStep). kept_from net count vs more) (some_same ts us left)
    links_kept (link ∷ links) ts us more left =
        let t =
        then_some (λ vs. left_by (ends_in net) vs (map traces.Crossed links)) (left_behind (ends_in net) ts (traces.Crossed link)) us
        left in
        ap (option_and_then (λ vs. option_map (λ (marks : List ℕ). [] ++ marks) (kept_from net count vs (map Crossed links ++ more)))) t.1
        ∙ map_same (kept_from net count t.0 (map Crossed links ++ more))
        ∙ links_kept links t.0 us more t.2

    pub execution_kept : (n : ℕ) (us rest : List TraceStep) (more : List TraceEvent) → left_on net us (Executed n) ≡ Some rest
        → kept_from net count us (Executed n ∷ more)
        ≡ option_map (λ (marks : List ℕ). (n ∷ (count - length rest) ∷ []) ++ marks) (kept_from net count rest more)
    execution_kept n us rest more on =
        ap (option_and_then (λ vs. option_map (λ (marks : List ℕ). (n ∷ (count - length vs) ∷ []) ++ marks) (kept_from net count vs more)))
        on

    -- ---- and back

    pub keeps_link : (link : ℕ) (ts : List TraceStep) (more : List TraceEvent) (marks : List ℕ)
        → kept_from net count ts (Crossed link ∷ more) ≡ Some marks
        → (us : List TraceStep) × (left_behind (ends_in net) ts (traces.Crossed link) ≡ Some us) × (kept_from net count us more ≡ Some marks)
    keeps_link link ts more marks h =
        let t =
        then_some (λ vs. option_map (λ (marks : List ℕ). [] ++ marks) (kept_from net count vs more))
        (left_behind (ends_in net) ts (traces.Crossed link)) marks h in
        (t.0, t.1, sym (map_same (kept_from net count t.0 more)) ∙ t.2)

    -- an execution leaves steps, and its mark stands in front of those of the rest
    pub record KeepsOn (n : ℕ) (us : List TraceStep) (more : List TraceEvent) (marks : List ℕ) : Type 0 where
      pub rest : List TraceStep
      pub on : left_on net us (Executed n) ≡ Some rest
      pub later : List ℕ
      pub marks_is : marks ≡ n ∷ (count - length rest) ∷ later
      pub kept : kept_from net count rest more ≡ Some later

    pub keeps_on : (n : ℕ) (us : List TraceStep) (more : List TraceEvent) (marks : List ℕ) → kept_from net count us (Executed n ∷ more) ≡ Some marks
        → KeepsOn n us more marks
    keeps_on n us more marks h =
        let t =
        then_some (λ vs. option_map (λ (marks : List ℕ). (n ∷ (count - length vs) ∷ []) ++ marks) (kept_from net count vs more))
        (left_on net us (Executed n)) marks h in
        let m = map_some (λ (marks : List ℕ). (n ∷ (count - length t.0) ∷ []) ++ marks) (kept_from net count t.0 more) marks t.2 in
        record { rest = t.0; on = t.1; later = m.0; marks_is = sym m.2; kept = m.1 }
