-- What is executed in stages is what their marks say: a SID stands at the node where it is executed.
use Rattle.std.proofs.Common.{◌≡◌, ℕ, zero, suc, ◌+◌, ◌-◌, Bool, true, false, if◌then◌else◌, List, [], ◌∷◌, ◌++◌, length, map, Option, Some, None, refl, sym, ◌∙◌, ap, subst}
use Rattle.std.specs.Option.{option_map}
use Rattle.v6_addr.specs.Address.{PrefixValue}
use Rattle.srv6_rules.specs.declared.family.Family.{Family}
use Rattle.srv6_rules.specs.Packet.{Content}
use Rattle.net_model.specs.Network.{Network}
use Rattle.walk_rules.specs.declared.place.How.{How}
use Rattle.walk_rules.specs.declared.place.Place.{Place}
use Rattle.walk_rules.specs.declared.place.Outcome.{Outcome}
use Rattle.walk_rules.specs.declared.place.Outcome.TheVariants as outcomes
use Rattle.walk_rules.specs.Treatment.{Gave, free_step_of}
use Rattle.walk_rules.specs.Walk.{Stage, walk_by, free_walk_of, next_place, decisions}
use Rattle.walk_rules.proofs.PublicLaws.{free_again, free_hand}
use Rattle.intent_traces.specs.declared.trace_steps.TraceStep.{TraceStep}
use Rattle.leg_table.specs.PositionSids.{is_binding, prefix_at}
use Rattle.leg_table.specs.StrictTable.{node_by, node_of}
use Rattle.leg_table.specs.WalkTrace.{Crossed, TraceEvent, Executed, Handed, behind_stage, through_hand}
use Rattle.leg_table.proofs.StrictOptions.{map_some, some_same, then_some}
use Rattle.loose_meaning_theory.specs.LooseKind.{behind_event, behind_execution, hand_first, hand_of, kept_from, left_on, marked}
use Rattle.loose_spec.specs.LooseExecutions.{Execution, execution_by, executions_from, executions_of, left_by_outcome}
use Rattle.loose_meaning_theory.proofs.LooseListShown.{left_event, marks_from, marks_then}

-- executions as marks, and marks as executions: the node of an execution is that of its SID
abbrev pub flat : List Execution → List ℕ
flat [] = []
flat (e ∷ es) = e.sid ∷ e.finished ∷ flat es

abbrev pub executed_at : ℕ → ℕ → ℕ → Execution
executed_at n finished node = record { sid = n; node = node; finished = finished }

unless_some : {X : Type 0} (b : Bool) (o : Option X) (x : X) → (if b then None else o) ≡ Some x → o ≡ Some x
unless_some true o x h = absurd (cc)
unless_some false o x h = h

module _ (net : Network) where
  abbrev pub unflat : List ℕ → List Execution
  unflat [] = []
  unflat (n ∷ []) = []
  unflat (n ∷ finished ∷ marks) = executed_at n finished (node_of net n) ∷ unflat marks

  -- ---- nodes

  abbrev AtNode : ℕ → Outcome → Type 0
  AtNode node (outcomes.Again n how) = node_of net n ≡ node
  AtNode node (outcomes.Hand n how family) = node_of net n ≡ node
  AtNode node (outcomes.Send link) = Unit {0}
  AtNode node outcomes.Local = Unit {0}
  AtNode node (outcomes.Drop reason error) = Unit {0}

  -- the SIDs that stages execute stand where they are executed
  abbrev pub AtNodes : List Stage → Type 0
  AtNodes [] = Unit {0}
  AtNodes (s ∷ ss) = AtNode s.place.node s.gave.outcome × AtNodes ss

  at_node : (place : Place) (content : Content) (choice : ℕ) (o : Outcome) → (free_step_of net place content choice).outcome ≡ o
      → AtNode place.node o
  at_node place content choice (outcomes.Again n how) e =
      let x = free_again net place content choice n how e in ap node_by x.is_there ∙ x.stands
  at_node place content choice (outcomes.Hand n how family) e =
      let x = free_hand net place content choice n how family e in ap node_by x.is_there ∙ x.stands
  at_node place content choice (outcomes.Send link) e = tt
  at_node place content choice outcomes.Local e = tt
  at_node place content choice (outcomes.Drop reason error) e = tt

  pub at_nodes : (fuel : ℕ) (place : Option Place) (content : Content) (pick : ℕ → ℕ) (taken : ℕ)
      → AtNodes (free_walk_of fuel net place content pick taken)
  unfolding walk_by
  at_nodes zero place content pick taken = tt
  at_nodes (suc more) None content pick taken = tt
  at_nodes (suc more) (Some place) content pick taken =
      let gave : Gave = free_step_of net place content (pick taken) in (
        at_node place content (pick taken) gave.outcome refl,
        at_nodes more (next_place net place gave.outcome) gave.after pick (taken + decisions gave.outcome),
      )

  -- ---- executions

  -- executions are as the marks of a trace say
  abbrev pub AreAs : List Execution → List ℕ → Type 0
  AreAs executions marks = (executions ≡ unflat marks) × (flat executions ≡ marks)

  module _ (count : ℕ) (rest : List Stage) (es : List TraceEvent)
      (ih : (us : List TraceStep) → AreAs (executions_of net count us rest) (marks_from net count us es)) where
    abbrev later : List TraceStep → List Execution
    later us = executions_of net count us rest

    abbrev marks_later : List TraceStep → List ℕ
    marks_later us = marks_from net count us es

    -- of an outcome that executes, and of one that sends
    executed_left : (n node : ℕ) (o : Outcome) → ((finished : ℕ) → execution_by o node finished ≡ executed_at n finished node ∷ [])
        → node_of net n ≡ node → (left : Option (List TraceStep))
        → AreAs (executions_from count later o node left) (marks_then net count (Executed n) marks_later left)
    executed_left n node o is at None = (refl, refl)
    executed_left n node o is at (Some us) =
        let finished : ℕ = count - length us in (
          ap (λ (xs : List Execution). xs ++ later us) (is finished)
              ∙ ap (λ (m : ℕ). executed_at n finished m ∷ later us) (sym at)
              ∙ ap (λ (xs : List Execution). executed_at n finished (node_of net n) ∷ xs) (ih us).0,
          ap (λ (xs : List Execution). flat (xs ++ later us)) (is finished) ∙ ap (λ (xs : List ℕ). n ∷ finished ∷ xs) (ih us).1,
        )

    sent_left : (link node : ℕ) (left : Option (List TraceStep))
        → AreAs (executions_from count later (outcomes.Send link) node left) (marks_then net count (Crossed link) marks_later left)
    sent_left link node None = (refl, refl)
    sent_left link node (Some us) = ih us

    -- by the event of an outcome
    turned : (ts : List TraceStep) (o : Outcome) (node : ℕ) (e : TraceEvent) → left_by_outcome net ts o ≡ left_on net ts e
        → AreAs (executions_from count later o node (left_on net ts e)) (marks_from net count ts (e ∷ es))
        → AreAs (executions_from count later o node (left_by_outcome net ts o)) (marks_from net count ts (e ∷ es))
    turned ts o node e same are =
        subst (λ (left : Option (List TraceStep)). AreAs (executions_from count later o node left) (marks_from net count ts (e ∷ es))) (sym same)
        are

    again_first : (ts : List TraceStep) (node n : ℕ) (how : How) → node_of net n ≡ node
        → AreAs (executions_from count later (outcomes.Again n how) node (left_by_outcome net ts (outcomes.Again n how)))
        (marks_from net count ts (Executed n ∷ es))
    again_first ts node n how at =
        turned ts (outcomes.Again n how) node (Executed n) (left_event net ts (Executed n))
        (executed_left n node (outcomes.Again n how) (λ finished. refl) at (left_on net ts (Executed n)))

    hand_first_law : (ts : List TraceStep) (node n : ℕ) (how : How) (family : Family) → node_of net n ≡ node
        → AreAs (executions_from count later (outcomes.Hand n how family) node (left_by_outcome net ts (outcomes.Hand n how family)))
        (marks_from net count ts (Executed n ∷ es))
    hand_first_law ts node n how family at =
        turned ts (outcomes.Hand n how family) node (Executed n) (left_event net ts (Executed n))
        (executed_left n node (outcomes.Hand n how family) (λ finished. refl) at (left_on net ts (Executed n)))

    sent_first : (ts : List TraceStep) (node link : ℕ)
        → AreAs (executions_from count later (outcomes.Send link) node (left_by_outcome net ts (outcomes.Send link)))
        (marks_from net count ts (Crossed link ∷ es))
    sent_first ts node link =
        turned ts (outcomes.Send link) node (Crossed link) (left_event net ts (Crossed link))
        (sent_left link node (left_on net ts (Crossed link)))

  -- what a stage and those up to the first hand_over behind it execute, by the stage's outcome
  abbrev AreBy : ℕ → List TraceStep → Stage → List Stage → Outcome → List TraceEvent → Type 0
  AreBy count ts s ss o es =
      AreAs (executions_from count (λ us. executions_of net count us (behind_stage o (through_hand ss))) o s.place.node
      (left_by_outcome net ts o)) (marks_from net count ts es)

  -- up to the first hand_over
  pub executions_are : (ss : List Stage) (count : ℕ) (ts : List TraceStep) (h : Handed) → AtNodes ss → hand_of net ss ≡ Some h
      → AreAs (executions_of net count ts (through_hand ss)) (marks_from net count ts h.trace)
  executions_are [] count ts h at e = absurd (cc)
  executions_are (s ∷ ss) count ts h at e = by_outcome s.gave.outcome at.0 e (λ us x is. executions_are ss count us x at.1 is)
    where
      by_outcome : (o : Outcome) → AtNode s.place.node o → hand_first net s.gave o (hand_of net ss) ≡ Some h
          → ((us : List TraceStep) (x : Handed) → hand_of net ss ≡ Some x
          → AreAs (executions_of net count us (through_hand ss)) (marks_from net count us x.trace)) → AreBy count ts s ss o h.trace
      by_outcome (outcomes.Hand n how family) here e ih =
          let own : Handed = record { trace = Executed n ∷ []; sids = n ∷ []; content = s.gave.after } in
          subst (λ (x : Handed). AreBy count ts s ss (outcomes.Hand n how family) x.trace) (some_same own h e)
          (hand_first_law count [] [] (λ us. (refl, refl)) ts s.place.node n how family here)
      by_outcome (outcomes.Again n how) here e ih =
          let got = map_some (behind_execution n) (hand_of net ss) h
          (unless_some (is_binding net n) (option_map (behind_execution n) (hand_of net ss)) h e) in
          subst (λ (x : Handed). AreBy count ts s ss (outcomes.Again n how) x.trace) got.2
          (again_first count (through_hand ss) got.0.trace (λ us. ih us got.0 got.1) ts s.place.node n how here)
      by_outcome (outcomes.Send link) here e ih =
          let got = map_some (behind_event (Crossed link)) (hand_of net ss) h e in
          subst (λ (x : Handed). AreBy count ts s ss (outcomes.Send link) x.trace) got.2
          (sent_first count (through_hand ss) got.0.trace (λ us. ih us got.0 got.1) ts s.place.node link)
      by_outcome outcomes.Local here e ih = absurd (cc)
      by_outcome (outcomes.Drop reason error) here e ih = absurd (cc)

  -- ---- the SIDs that are executed

  abbrev sids_in : List TraceEvent → List ℕ
  sids_in [] = []
  sids_in (Crossed link ∷ es) = sids_in es
  sids_in (Executed n ∷ es) = n ∷ sids_in es

  trace_sids : (ss : List Stage) (h : Handed) → hand_of net ss ≡ Some h → sids_in h.trace ≡ h.sids
  trace_sids [] h e = absurd (cc)
  trace_sids (s ∷ ss) h e = by_outcome s.gave.outcome e (λ x is. trace_sids ss x is)
    where
      by_outcome : (o : Outcome) → hand_first net s.gave o (hand_of net ss) ≡ Some h
          → ((x : Handed) → hand_of net ss ≡ Some x → sids_in x.trace ≡ x.sids) → sids_in h.trace ≡ h.sids
      by_outcome (outcomes.Hand n how family) e ih =
          let own : Handed = record { trace = Executed n ∷ []; sids = n ∷ []; content = s.gave.after } in
          subst (λ (x : Handed). sids_in x.trace ≡ x.sids) (some_same own h e) refl
      by_outcome (outcomes.Again n how) e ih =
          let got = map_some (behind_execution n) (hand_of net ss) h
          (unless_some (is_binding net n) (option_map (behind_execution n) (hand_of net ss)) h e) in
          subst (λ (x : Handed). sids_in x.trace ≡ x.sids) got.2 (ap (λ (ns : List ℕ). n ∷ ns) (ih got.0 got.1))
      by_outcome (outcomes.Send link) e ih =
          let got = map_some (behind_event (Crossed link)) (hand_of net ss) h e in
          subst (λ (x : Handed). sids_in x.trace ≡ x.sids) got.2 (ih got.0 got.1)
      by_outcome outcomes.Local e ih = absurd (cc)
      by_outcome (outcomes.Drop reason error) e ih = absurd (cc)

  abbrev pub prefixes_executed : List Execution → List PrefixValue
  prefixes_executed executions = map (λ (e : Execution). prefix_at net e.sid) executions

  marks_prefixes : (es : List TraceEvent) (count : ℕ) (ts : List TraceStep) (marks : List ℕ) → kept_from net count ts es ≡ Some marks
      → prefixes_executed (unflat marks) ≡ map (prefix_at net) (sids_in es)
  marks_prefixes [] count [] marks h = ap (λ (ms : List ℕ). prefixes_executed (unflat ms)) (sym (some_same [] marks h))
  marks_prefixes [] count (t ∷ ts) marks h = absurd (cc)
  marks_prefixes (e ∷ es) count ts marks h =
      let t =
      then_some (λ us. option_map (λ (more : List ℕ). marked count us e ++ more) (kept_from net count us es)) (left_on net ts e) marks h in
      let m = map_some (λ (more : List ℕ). marked count t.0 e ++ more) (kept_from net count t.0 es) marks t.2 in
      subst (λ (ms : List ℕ). prefixes_executed (unflat ms) ≡ map (prefix_at net) (sids_in (e ∷ es))) m.2
      (by_event e t.0 m.0 (marks_prefixes es count t.0 m.0 m.1))
    where
      by_event : (e : TraceEvent) (us : List TraceStep) (more : List ℕ) → prefixes_executed (unflat more) ≡ map (prefix_at net) (sids_in es)
          → prefixes_executed (unflat (marked count us e ++ more)) ≡ map (prefix_at net) (sids_in (e ∷ es))
      by_event (Crossed link) us more same = same
      by_event (Executed n) us more same = ap (λ (ps : List PrefixValue). prefix_at net n ∷ ps) same

  -- the marks of a trace that keeps to steps name the SIDs that were executed
  pub named : (ss : List Stage) (h : Handed) (count : ℕ) (ts : List TraceStep) (marks : List ℕ) → hand_of net ss ≡ Some h
      → kept_from net count ts h.trace ≡ Some marks → prefixes_executed (unflat marks) ≡ map (prefix_at net) h.sids
  named ss h count ts marks e kept =
      marks_prefixes h.trace count ts marks kept ∙ ap (map (prefix_at net)) (trace_sids ss h e)

  -- executions turned into marks and back are of the same SIDs
  pub turned_prefixes : (executions : List Execution) → prefixes_executed (unflat (flat executions)) ≡ prefixes_executed executions
  turned_prefixes [] = refl
  turned_prefixes (e ∷ es) = ap (λ (ps : List PrefixValue). prefix_at net e.sid ∷ ps) (turned_prefixes es)
