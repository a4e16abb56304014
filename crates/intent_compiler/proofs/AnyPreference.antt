-- Which lists realize an intent, and whether there is one, whatever the intent prefers.
use Rattle.std.proofs.Common.{◌≡◌, ◌≢◌, ◌↔◌, ℕ, Bool, true, false, List, Result, Ok, Err, refl, sym, subst}
use Rattle.srv6_rules.specs.Packet.{Content}
use Rattle.net_model.specs.Network.{Network}
use Rattle.net_flatness.specs.Flat.{flatness_of}
use Rattle.net_flatness.specs.declared.not_flat.NotFlat.{NotFlat}
use Rattle.intent_reader.specs.IntentRules.{has_reach}
use Rattle.intent_reader.specs.declared.intent.Intent.{Intent}
use Rattle.intent_traces.specs.declared.trace_steps.TraceStep.{TraceStep}
use Rattle.list_pack.specs.declared.types.Container.{Container}
use Rattle.list_pack.specs.declared.types.Solution.{Solution}
use Rattle.list_pack.specs.SidLists.{list_values}
use Rattle.binding_spec.specs.BindingRealizes.{HandsAbove, OwnHandsOver, OwnListExecutes, OwnListRealizes}
use Rattle.binding_spec.specs.BindingHands.{OwnListHands}
use Rattle.loose_spec.specs.LooseExecutions.{Execution}
use Rattle.loose_spec.specs.LooseRealizes.{LooseHandsOver, LooseListExecutes, LooseListHands, LooseListRealizes, LooseReaches}
use Rattle.loose_legs.specs.IntentSteps.{trace_steps}
use Rattle.path_compiler.specs.declared.compiled.Compiled.{Compiled}
use Rattle.path_compiler.specs.declared.compiled.CompileFault.{CompileFault}
use Rattle.path_compiler.specs.declared.compiled.CompileFault.TheVariants as faults
use Rattle.path_compiler.specs.Compiled.{IsNoList}
use Rattle.intent_compiler.specs.CompilerAnswers.{IntentAnswers}
use Rattle.intent_compiler.specs.IntentLegs.{ExecutesIf, HandsIf, ListExecutesFor, ListHandsFor, ListRealizesFor, RealizesIf, intent_legs_value}
use Rattle.intent_compiler.specs.OtherPreferences.{DifferInPreference, TellsNoList, preferring_as}

module _ (net : Network) (intent : Intent) where
  abbrev as_of : Intent → Intent
  as_of j = preferring_as intent j

  -- ---- through binding SIDs

  abbrev own_hands : (j k : Intent) (segments : List ℕ) (inner : Content) (hop : ℕ) (choices : List ℕ)
      → OwnHandsOver net (as_of j) segments inner hop choices → OwnHandsOver net (as_of k) segments inner hop choices
  own_hands j k segments inner hop choices h =
      record { fuel = h.fuel; handed = h.handed; own = h.own; steps = h.steps; content = h.content }

  own_above : (j k : Intent) (segments : List ℕ) (n : ℕ) → HandsAbove (OwnHandsOver net (as_of j) segments) intent.inner n
      → HandsAbove (OwnHandsOver net (as_of k) segments) intent.inner n
  own_above j k segments n above inner is hop more choices some =
      own_hands j k segments inner hop choices (above inner is hop more choices some)

  own_realizes : (j k : Intent) (list : List Container) (need : ℕ) → OwnListRealizes net (as_of j) list need
      → OwnListRealizes net (as_of k) list need
  own_realizes j k list need r =
      record {
        reaches = own_above j k (list_values net list) need r.reaches;
        least = λ n above. r.least n (own_above k j (list_values net list) n above);
      }

  own_executes : (j k : Intent) (list : List Container) (count : ℕ) → OwnListExecutes net (as_of j) list count
      → OwnListExecutes net (as_of k) list count
  own_executes j k list count e inner hop choices h =
      e inner hop choices (own_hands k j (list_values net list) inner hop choices h)

  own_some : (j k : Intent) (list : List Container) (hop : ℕ) → OwnListHands net (as_of j) list hop
      → OwnListHands net (as_of k) list hop
  own_some j k list hop h =
      record {
        positive = h.positive;
        inner = h.inner;
        always = λ choices some. own_hands j k (list_values net list) h.inner hop choices (h.always choices some);
      }

  -- ---- along loose steps

  abbrev loose_hands : (j k : Intent) (steps : List TraceStep) (segments : List ℕ) (inner : Content) (hop : ℕ)
      (executions : List Execution) (choices : List ℕ)
      → LooseHandsOver net (as_of j) steps segments inner hop executions choices
      → LooseHandsOver net (as_of k) steps segments inner hop executions choices
  loose_hands j k steps segments inner hop executions choices h =
      record {
        fuel = h.fuel;
        handed = h.handed;
        first = h.first;
        keeps = h.keeps;
        content = h.content;
        unbound = h.unbound;
        executed = h.executed;
      }

  loose_reaches : (j k : Intent) (steps : List TraceStep) (list : List Container) (n : ℕ)
      → LooseReaches net (as_of j) steps list n → LooseReaches net (as_of k) steps list n
  loose_reaches j k steps list n r =
      record {
        executions = r.executions;
        each = r.each;
        always = λ inner is hop more choices some.
            loose_hands j k steps (list_values net list) inner hop r.executions choices
            (r.always inner is hop more choices some);
      }

  loose_realizes : (j k : Intent) (steps : List TraceStep) (list : List Container) (need : ℕ)
      → LooseListRealizes net (as_of j) steps list need → LooseListRealizes net (as_of k) steps list need
  loose_realizes j k steps list need r =
      record {
        reaches = loose_reaches j k steps list need r.reaches;
        least = λ n reaches. r.least n (loose_reaches k j steps list n reaches);
      }

  loose_executes : (j k : Intent) (steps : List TraceStep) (list : List Container) (count : ℕ)
      → LooseListExecutes net (as_of j) steps list count → LooseListExecutes net (as_of k) steps list count
  loose_executes j k steps list count e inner hop executions choices h =
      e inner hop executions choices (loose_hands k j steps (list_values net list) inner hop executions choices h)

  loose_some : (j k : Intent) (steps : List TraceStep) (list : List Container) (hop : ℕ)
      → LooseListHands net (as_of j) steps list hop → LooseListHands net (as_of k) steps list hop
  loose_some j k steps list hop h =
      record {
        positive = h.positive;
        inner = h.inner;
        executions = h.executions;
        always = λ choices some.
            loose_hands j k steps (list_values net list) h.inner hop h.executions choices (h.always choices some);
      }

  -- ---- of an intent

  realizes_if : (b : Bool) (j k : Intent) (list : List Container) (need : ℕ) → RealizesIf b net (as_of j) list need
      → RealizesIf b net (as_of k) list need
  realizes_if true j k list need = loose_realizes j k (trace_steps intent) list need
  realizes_if false j k list need = own_realizes j k list need

  realizes_as : (j k : Intent) (list : List Container) (need : ℕ) → ListRealizesFor net (as_of j) list need
      → ListRealizesFor net (as_of k) list need
  realizes_as j k list need = realizes_if (has_reach intent.steps) j k list need

  executes_if : (b : Bool) (j k : Intent) (list : List Container) (count : ℕ) → ExecutesIf b net (as_of j) list count
      → ExecutesIf b net (as_of k) list count
  executes_if true j k list count = loose_executes j k (trace_steps intent) list count
  executes_if false j k list count = own_executes j k list count

  executes_as : (j k : Intent) (list : List Container) (count : ℕ) → ListExecutesFor net (as_of j) list count
      → ListExecutesFor net (as_of k) list count
  executes_as j k list count = executes_if (has_reach intent.steps) j k list count

  hands_if : (b : Bool) (j k : Intent) (list : List Container) (hop : ℕ) → HandsIf b net (as_of j) list hop
      → HandsIf b net (as_of k) list hop
  hands_if true j k list hop = loose_some j k (trace_steps intent) list hop
  hands_if false j k list hop = own_some j k list hop

  hands_as : (j k : Intent) (list : List Container) (hop : ℕ) → ListHandsFor net (as_of j) list hop
      → ListHandsFor net (as_of k) list hop
  hands_as j k list hop = hands_if (has_reach intent.steps) j k list hop

  -- ---- no list

  abbrev NoneAs : Intent → Solution → Type 0
  NoneAs j s = IsNoList (intent_legs_value net (as_of j)) net (ListRealizesFor net (as_of j)) s

  not_flat_law : (why : NotFlat) → flatness_of net ≡ Err why → flatness_of net ≡ Ok tt → ⊥
  not_flat_law why is flat = absurd (cc)

  none_as : (j k : Intent) (s : Solution) → NoneAs j s → (answer : Result Compiled CompileFault)
      → IntentAnswers net (as_of k) answer → answer ≢ Err faults.NoMemory → TellsNoList answer
  none_as j k s none (Ok c) is some =
      absurd (none.none c.list c.need is.found.chosen.whole.legal
      (realizes_as k j c.list c.need is.found.chosen.whole.realizes))
  none_as j k s none (Err (faults.NotFlat why)) is some = absurd (not_flat_law why is none.flat)
  none_as j k s none (Err (faults.NoList t)) is some = (t, refl)
  none_as j k s none (Err (faults.TooLong c)) is some =
      absurd (none.none c.list c.need is.found.chosen.whole.legal
      (realizes_as k j c.list c.need is.found.chosen.whole.realizes))
  none_as j k s none (Err (faults.HopLimit c)) is some =
      absurd (none.none c.list c.need is.found.chosen.whole.legal
      (realizes_as k j c.list c.need is.found.chosen.whole.realizes))
  none_as j k s none (Err faults.NoMemory) is some = absurd (some refl)

  none_answered : (j k : Intent) (a b : Result Compiled CompileFault) → IntentAnswers net (as_of j) a
      → IntentAnswers net (as_of k) b → b ≢ Err faults.NoMemory → TellsNoList a → TellsNoList b
  none_answered j k a b one two some none =
      none_as j k none.0 (subst (IntentAnswers net (as_of j)) none.1 one) b two some

  module _ (other : Intent) (same : DifferInPreference intent other) where
    pub realizes_alike : (list : List Container) (need : ℕ)
        → ListRealizesFor net intent list need ↔ ListRealizesFor net other list need
    realizes_alike list need = (
      λ r. subst (λ (i : Intent). ListRealizesFor net i list need) (sym same) (realizes_as intent other list need r),
      λ r. realizes_as other intent list need (subst (λ (i : Intent). ListRealizesFor net i list need) same r),
    )

    pub executes_alike : (list : List Container) (count : ℕ)
        → ListExecutesFor net intent list count ↔ ListExecutesFor net other list count
    executes_alike list count = (
      λ e. subst (λ (i : Intent). ListExecutesFor net i list count) (sym same) (executes_as intent other list count e),
      λ e. executes_as other intent list count (subst (λ (i : Intent). ListExecutesFor net i list count) same e),
    )

    pub hands_alike : (list : List Container) (hop : ℕ)
        → ListHandsFor net intent list hop ↔ ListHandsFor net other list hop
    hands_alike list hop = (
      λ h. subst (λ (i : Intent). ListHandsFor net i list hop) (sym same) (hands_as intent other list hop h),
      λ h. hands_as other intent list hop (subst (λ (i : Intent). ListHandsFor net i list hop) same h),
    )

    pub no_list_alike : (a b : Result Compiled CompileFault) → IntentAnswers net intent a → IntentAnswers net other b
        → a ≢ Err faults.NoMemory → b ≢ Err faults.NoMemory → TellsNoList a ↔ TellsNoList b
    no_list_alike a b one two some also =
        let its = subst (λ (i : Intent). IntentAnswers net i b) same two in
        (none_answered intent other a b one its also, none_answered other intent b a its one some)
