-- What the kind of these legs hands over is what stages hand over first, but that its trace has each execution, also that of a SID
-- without a title.
use Rattle.std.proofs.Common.{◌≡◌, ℕ, Bool, true, false, if◌then◌else◌, List, [], ◌∷◌, ◌++◌, map, All, Option, Some, None, refl, sym, ◌∙◌, ap, subst, append-nil}
use Rattle.std.proofs.lemmas.List.Elements.{All-head, All-tail}
use Rattle.std.specs.Option.{option_map, option_and_then}
use Rattle.net_model.specs.Network.{Network}
use Rattle.walk_rules.specs.declared.place.Outcome.{Outcome}
use Rattle.walk_rules.specs.declared.place.Outcome.TheVariants as outcomes
use Rattle.walk_rules.specs.Walk.{Stage}
use Rattle.intent_traces.specs.declared.trace_steps.TraceStep.{TraceStep}
use Rattle.intent_traces.specs.Traces.{left_behind, left_by}
use Rattle.intent_traces.specs.Traces as traces
use Rattle.loose_walks.specs.WalkStops.{ends_in}
use Rattle.leg_table.specs.PositionSids.{is_binding}
use Rattle.leg_table.specs.WalkTrace.{Crossed, TraceEvent, Executed, Handed, after_events, after_execution, executed, handed_first, handed_over, is_titled}
use Rattle.leg_table.proofs.StrictOptions.{map_some, some_same, then_some}
use Rattle.loose_meaning_theory.specs.LooseKind.{behind_event, behind_execution, hand_first, hand_of, kept_from, left_on, marked, none_left}
use Rattle.loose_spec.specs.LooseExecutions.{trace_event}

some_last : {X : Type 0} (o : Option X) → option_and_then (λ x. Some x) o ≡ o
some_last None = refl
some_last (Some x) = refl

module _ (net : Network) where
  -- an event, as traces show it: not the execution of a SID without a title
  abbrev pub shown_event : TraceEvent → List TraceEvent
  shown_event (Crossed link) = Crossed link ∷ []
  shown_event (Executed n) = executed net n

  abbrev pub shown : List TraceEvent → List TraceEvent
  shown [] = []
  shown (e ∷ es) = shown_event e ++ shown es

  abbrev pub as_shown : Handed → Handed
  as_shown h = record { trace = shown h.trace; sids = h.sids; content = h.content }

  abbrev pub NoneBinds : List ℕ → Type 0
  NoneBinds ns = All (λ n. is_binding net n ≡ false) ns

  -- ---- what is handed over

  alone : (n : ℕ) (s : Stage)
      → Path Handed (record { trace = executed net n; sids = n ∷ []; content = s.gave.after })
      (as_shown (record { trace = Executed n ∷ []; sids = n ∷ []; content = s.gave.after }))
  alone n s =
      ap (λ (es : List TraceEvent). record { trace = es; sids = n ∷ []; content = s.gave.after }) (sym (append-nil (executed net n)))

  pub hand_shown : (ss : List Stage) (h : Handed) → hand_of net ss ≡ Some h → handed_over net ss ≡ Some (as_shown h)
  hand_shown [] h e = absurd (cc)
  hand_shown (s ∷ ss) h e = by_outcome s.gave.outcome e (λ x is. hand_shown ss x is)
    where
      by_binding : (n : ℕ) (b : Bool) → (if b then None else option_map (behind_execution n) (hand_of net ss)) ≡ Some h
          → ((x : Handed) → hand_of net ss ≡ Some x → handed_over net ss ≡ Some (as_shown x))
          → option_map (after_execution net n) (handed_over net ss) ≡ Some (as_shown h)
      by_binding n true e ih = absurd (cc)
      by_binding n false e ih =
          let got = map_some (behind_execution n) (hand_of net ss) h e in
          ap (option_map (after_execution net n)) (ih got.0 got.1) ∙ ap (λ (x : Handed). Some (as_shown x)) got.2

      by_outcome : (o : Outcome) → hand_first net s.gave o (hand_of net ss) ≡ Some h
          → ((x : Handed) → hand_of net ss ≡ Some x → handed_over net ss ≡ Some (as_shown x))
          → handed_first net s.gave o (handed_over net ss) ≡ Some (as_shown h)
      by_outcome (outcomes.Hand n how family) e ih =
          let own : Handed = record { trace = Executed n ∷ []; sids = n ∷ []; content = s.gave.after } in
          ap (λ (x : Handed). Some x) (alone n s) ∙ ap (λ (x : Handed). Some (as_shown x)) (some_same own h e)
      by_outcome (outcomes.Again n how) e ih = by_binding n (is_binding net n) e ih
      by_outcome (outcomes.Send link) e ih =
          let got = map_some (behind_event (Crossed link)) (hand_of net ss) h e in
          ap (option_map (after_events (Crossed link ∷ []))) (ih got.0 got.1) ∙ ap (λ (x : Handed). Some (as_shown x)) got.2
      by_outcome outcomes.Local e ih = absurd (cc)
      by_outcome (outcomes.Drop reason error) e ih = absurd (cc)

  -- the same of the kind, shown so
  abbrev pub HandsAs : List Stage → Handed → Type 0
  HandsAs ss h = (x : Handed) × (hand_of net ss ≡ Some x) × (as_shown x ≡ h)

  pub shown_hand : (ss : List Stage) (h : Handed) → handed_over net ss ≡ Some h → NoneBinds h.sids → HandsAs ss h
  shown_hand [] h e unbound = absurd (cc)
  shown_hand (s ∷ ss) h e unbound = by_outcome s.gave.outcome e (λ x is none. shown_hand ss x is none)
    where
      by_outcome : (o : Outcome) → handed_first net s.gave o (handed_over net ss) ≡ Some h
          → ((x : Handed) → handed_over net ss ≡ Some x → NoneBinds x.sids → HandsAs ss x)
          → (x : Handed) × (hand_first net s.gave o (hand_of net ss) ≡ Some x) × (as_shown x ≡ h)
      by_outcome (outcomes.Hand n how family) e ih =
          let first : Handed = record { trace = executed net n; sids = n ∷ []; content = s.gave.after } in (
            record { trace = Executed n ∷ []; sids = n ∷ []; content = s.gave.after },
            refl,
            sym (alone n s) ∙ some_same first h e,
          )
      by_outcome (outcomes.Again n how) e ih =
          let got = map_some (after_execution net n) (handed_over net ss) h e in
          let none = subst NoneBinds (sym (ap (λ (x : Handed). x.sids) got.2)) unbound in
          let rest = ih got.0 got.1 (All-tail (λ n. is_binding net n ≡ false) n got.0.sids none) in (
            behind_execution n rest.0,
            ap (λ (b : Bool). if b then None else option_map (behind_execution n) (hand_of net ss))
                (All-head (λ n. is_binding net n ≡ false) n got.0.sids none)
                ∙ ap (option_map (behind_execution n)) rest.1,
            ap (after_execution net n) rest.2 ∙ got.2,
          )
      by_outcome (outcomes.Send link) e ih =
          let got = map_some (after_events (Crossed link ∷ [])) (handed_over net ss) h e in
          let rest = ih got.0 got.1 (subst NoneBinds (sym (ap (λ (x : Handed). x.sids) got.2)) unbound) in (
            behind_event (Crossed link) rest.0,
            ap (option_map (behind_event (Crossed link))) rest.1,
            ap (after_events (Crossed link ∷ [])) rest.2 ∙ got.2,
          )
      by_outcome outcomes.Local e ih = absurd (cc)
      by_outcome (outcomes.Drop reason error) e ih = absurd (cc)

  -- ---- keeping to steps

  -- the steps that are left behind what is shown of an event
  pub left_event : (ts : List TraceStep) (e : TraceEvent) → left_by (ends_in net) ts (map trace_event (shown_event e)) ≡ left_on net ts e
  left_event ts (Crossed link) = some_last (left_behind (ends_in net) ts (traces.Crossed link))
  left_event ts (Executed n) = by_title (is_titled net n)
    where
      by_title : (b : Bool) → left_by (ends_in net) ts (map trace_event (if b then Executed n ∷ [] else []))
          ≡ (if b then left_behind (ends_in net) ts (traces.Executed n) else Some ts)
      by_title true = some_last (left_behind (ends_in net) ts (traces.Executed n))
      by_title false = refl

  abbrev pub left_shown : List TraceStep → List TraceEvent → Option (List TraceStep)
  left_shown ts es = left_by (ends_in net) ts (map trace_event (shown es))

  left_first : (ts : List TraceStep) (e : TraceEvent) (es : List TraceEvent)
      → left_shown ts (e ∷ es) ≡ option_and_then (λ us. left_shown us es) (left_on net ts e)
  left_first ts (Crossed link) es = refl
  left_first ts (Executed n) es = by_title (is_titled net n)
    where
      by_title : (b : Bool) → left_by (ends_in net) ts (map trace_event ((if b then Executed n ∷ [] else []) ++ shown es))
          ≡ option_and_then (λ us. left_shown us es) (if b then left_behind (ends_in net) ts (traces.Executed n) else Some ts)
      by_title true = refl
      by_title false = refl

  -- the marks of a trace, as far as it keeps to steps
  abbrev pub marks_then : ℕ → TraceEvent → (List TraceStep → List ℕ) → Option (List TraceStep) → List ℕ
  marks_then count e later None = []
  marks_then count e later (Some us) = marked count us e ++ later us

  abbrev pub marks_from : ℕ → List TraceStep → List TraceEvent → List ℕ
  marks_from count ts [] = []
  marks_from count ts (e ∷ es) = marks_then count e (λ us. marks_from count us es) (left_on net ts e)

  -- what is behind an event, with its marks in front
  abbrev marks_behind : ℕ → TraceEvent → List TraceEvent → List TraceStep → Option (List ℕ)
  marks_behind count e es us = option_map (λ (marks : List ℕ). marked count us e ++ marks) (kept_from net count us es)

  pub kept_left : (es : List TraceEvent) (count : ℕ) (ts : List TraceStep) (marks : List ℕ) → kept_from net count ts es ≡ Some marks
      → (left_shown ts es ≡ Some []) × (marks_from count ts es ≡ marks)
  kept_left [] count [] marks h = (refl, some_same [] marks h)
  kept_left [] count (t ∷ ts) marks h = absurd (cc)
  kept_left (e ∷ es) count ts marks h =
      let t = then_some (marks_behind count e es) (left_on net ts e) marks h in
      let m = map_some (λ (more : List ℕ). marked count t.0 e ++ more) (kept_from net count t.0 es) marks t.2 in
      let rest = kept_left es count t.0 m.0 m.1 in (
        left_first ts e es ∙ ap (option_and_then (λ us. left_shown us es)) t.1 ∙ rest.0,
        ap (marks_then count e (λ us. marks_from count us es)) t.1
            ∙ ap (λ (more : List ℕ). marked count t.0 e ++ more) rest.1 ∙ m.2,
      )

  pub left_kept : (es : List TraceEvent) (count : ℕ) (ts : List TraceStep) → left_shown ts es ≡ Some []
      → kept_from net count ts es ≡ Some (marks_from count ts es)
  left_kept [] count ts h = ap none_left (some_same ts [] h)
  left_kept (e ∷ es) count ts h =
      let t = then_some (λ us. left_shown us es) (left_on net ts e) [] (sym (left_first ts e es) ∙ h) in
      ap (option_and_then (marks_behind count e es)) t.1
      ∙ ap (option_map (λ (more : List ℕ). marked count t.0 e ++ more)) (left_kept es count t.0 t.2)
      ∙ ap (λ (o : Option (List TraceStep)). Some (marks_then count e (λ us. marks_from count us es) o)) (sym t.1)
