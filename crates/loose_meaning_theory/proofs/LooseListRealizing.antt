-- A legal list realizes steps exactly where the kind of these legs says so and all its SIDs are executed, with the same need.
use Rattle.std.proofs.Common.{◌≡◌, ℕ, ◌+◌, ◌<◌, arith, List, [], ◌∷◌, length, map, Option, Some, None, sym, ◌∙◌, ap, subst}
use Rattle.std.specs.Prelude.{◌↔◌}
use Rattle.std.proofs.lemmas.List.{length-map, take_all}
use Rattle.srv6_rules.specs.Packet.{Packet, Content}
use Rattle.net_model.specs.Network.{Network}
use Rattle.walk_rules.specs.Walk.{choice_at}
use Rattle.intent_reader.specs.declared.intent.Intent.{Intent}
use Rattle.list_pack.specs.declared.types.Container.{Container}
use Rattle.list_pack.specs.PathsTerms.{hops_of}
use Rattle.list_pack.specs.SidLists.{IsLegalList, list_values, prefixes_in}
use Rattle.intent_traces.specs.declared.trace_steps.TraceStep.{TraceStep}
use Rattle.leg_table.specs.LegMeaning.{AlwaysInner, IsExecuting, IsHanding, IsRealizing, ReachesInner}
use Rattle.leg_table.specs.OneLegLaws.{KindLaws, LegKind, prefix_in}
use Rattle.leg_table.specs.PositionSids.{prefix_at}
use Rattle.leg_table.proofs.Inners.{some_inner, some_inner_is}
use Rattle.leg_table.proofs.PathNames.{shapes_prefixes}
use Rattle.leg_table.proofs.StrictRealizing as any
use Rattle.loose_meaning_theory.specs.LooseKind.{loose_kind}
use Rattle.loose_spec.specs.LooseExecutions.{Execution}
use Rattle.loose_spec.specs.LooseRealizes.{ExecutesEach, LooseAlwaysHands, LooseListExecutes, LooseListHands, LooseListRealizes, LooseReaches}
use Rattle.loose_meaning_theory.proofs.LooseListExecuted.{flat, turned_prefixes, unflat}
use Rattle.loose_meaning_theory.proofs.LooseListHanding.{inner_named, of_kind, to_kind}

-- ---- packets and choices of a list

module _ (net : Network) (intent : Intent) (steps : List TraceStep) where
  abbrev pub kind : LegKind
  kind = loose_kind net intent steps

  module _ (list : List Container) where
    abbrev segments : List ℕ
    segments = list_values net list

    pub to_always : (inner : Content) (hop : ℕ) (executions : List Execution)
        → LooseAlwaysHands net intent steps segments inner hop executions → AlwaysInner kind segments inner hop (flat executions)
    to_always inner hop executions always choices some =
        (to_kind net intent steps segments inner hop choices executions (always choices some)).0

    pub of_always : (inner : Content) (hop : ℕ) (marks : List ℕ) → AlwaysInner kind segments inner hop marks
        → LooseAlwaysHands net intent steps segments inner hop (unflat net marks)
    of_always inner hop marks always choices some =
        (of_kind net intent steps segments inner hop choices marks (always choices some)).0

    pub to_reaches : (n : ℕ) → LooseReaches net intent steps list n → ReachesInner kind segments n
    to_reaches n r = (flat r.executions, λ inner ok hop above. to_always inner hop r.executions (r.always inner ok hop above))

    pub of_reaches : (n : ℕ) → (r : ReachesInner kind segments n) → ExecutesEach net list (unflat net r.0)
        → LooseReaches net intent steps list n
    of_reaches n r each =
        record {
          executions = unflat net r.0;
          each = each;
          always = λ inner ok hop above. of_always inner hop r.0 (r.1 inner ok hop above);
        }

    -- ---- executing

    pub executes_of : (count : ℕ) → IsExecuting kind list count → LooseListExecutes net intent steps list count
    executes_of count e inner hop executions choices h =
        let got = to_kind net intent steps segments inner hop choices executions h in
        ap length (sym got.1) ∙ e inner hop (flat executions) choices got.0

    pub executes_to : (count : ℕ) → LooseListExecutes net intent steps list count → IsExecuting kind list count
    executes_to count e inner hop marks choices h =
        let got = of_kind net intent steps segments inner hop choices marks h in
        ap length (sym got.1) ∙ e inner hop (unflat net marks) choices got.0

    -- ---- handing over

    pub hands_to : (hop : ℕ) → LooseListHands net intent steps list hop → IsHanding kind list hop
    hands_to hop h =
        record {
          positive = h.positive;
          inner = h.inner;
          marks = flat h.executions;
          always = to_always h.inner hop h.executions h.always;
        }

    pub hands_of : (hop : ℕ) → IsHanding kind list hop → LooseListHands net intent steps list hop
    hands_of hop h =
        record {
          positive = h.positive;
          inner = h.inner;
          executions = unflat net h.marks;
          always = of_always h.inner hop h.marks h.always;
        }

  -- ---- realizing

  module _ (Longest : Option ℕ → Packet → (ℕ → ℕ) → ℕ → Type 0) (laws : KindLaws kind Longest) (list : List Container)
      (legal : IsLegalList net list) where
    -- a path through all the SIDs of the list, with a need below a hop limit
    record Whole (hop : ℕ) : Type 0 where
      first : ℕ
      more : List ℕ
      need : ℕ
      names : map (prefix_in kind) (first ∷ more) ≡ prefixes_in list
      is_path : hops_of kind.legs 0 None (first ∷ more) ≡ Some need
      below : need < hop

    -- where as many SIDs are executed as the list has there is such a path
    whole_path : (inner : Content) (hop : ℕ) (marks : List ℕ) → 0 < hop
        → (always : AlwaysInner kind (list_values net list) inner hop marks)
        → ((choices : List ℕ) (some : 0 < length choices) → length (always choices some).handed.sids ≡ length (prefixes_in list))
        → Whole hop
    whole_path inner hop marks positive always all =
        let p = any.list_path kind Longest laws list legal inner hop marks positive always in
        let longest = (any.one kind Longest laws list legal inner).some_longest None (any.packet kind Longest laws list legal inner hop) in
        let hand = any.by_list kind Longest laws list legal inner hop marks always longest.0 in
        let sids = p.executes longest.0 0 (always hand.0 hand.1).handed longest.1 hand.2 in
        let long : length (p.first ∷ p.more) ≡ length (prefixes_in list) = sym (ap length sids) ∙ all hand.0 hand.1 in
        record {
          first = p.first;
          more = p.more;
          need = p.need;
          names = p.names ∙ take_all (length (p.first ∷ p.more)) (prefixes_in list) (omega (arith, long));
          is_path = p.is_path;
          below = p.below;
        }

    -- what the marks name is the list, where a path goes through all its SIDs
    each_of : (inner : Content) (hop : ℕ) (marks : List ℕ) → (always : AlwaysInner kind (list_values net list) inner hop marks)
        → Whole hop → ExecutesEach net list (unflat net marks)
    each_of inner hop marks always w =
        let choices : List ℕ = 0 ∷ [] in
        let h = always choices (omega arith) in
        let over = any.path_executes kind Longest laws list legal w.first w.more w.need w.names w.is_path inner hop (choice_at choices)
        h.handed h.over in
        inner_named net intent steps (list_values net list) inner hop choices marks h
        ∙ ap (map (prefix_at net)) over.0 ∙ sym (shapes_prefixes net (w.first ∷ w.more)) ∙ w.names

    pub realizes_of : (need : ℕ) → IsRealizing kind list need → IsExecuting kind list (length (prefixes_in list))
        → LooseListRealizes net intent steps list need
    realizes_of need r executes =
        let inner = some_inner intent.inner in
        let hop : ℕ = need + 1 in
        let marks = r.reaches.0 in
        let always = r.reaches.1 inner (some_inner_is intent.inner) hop (omega arith) in
        let w = whole_path inner hop marks (omega arith) always (λ choices some. executes inner hop marks choices (always choices some)) in
        record {
          reaches = of_reaches list need r.reaches (each_of inner hop marks always w);
          least = λ n reaches. r.least n (to_reaches list n reaches);
        }

    -- where each SID of the list is executed, as many are
    count_of : (inner : Content) (hop : ℕ) (executions : List Execution) → ExecutesEach net list executions
        → (always : AlwaysInner kind (list_values net list) inner hop (flat executions)) (choices : List ℕ) (some : 0 < length choices)
        → length (always choices some).handed.sids ≡ length (prefixes_in list)
    count_of inner hop executions each always choices some =
        let h = always choices some in
        sym (length-map h.handed.sids (prefix_at net))
        ∙ ap length (sym (inner_named net intent steps (list_values net list) inner hop choices (flat executions) h)
        ∙ turned_prefixes net executions ∙ each)

    pub realizes_to : (need : ℕ) → LooseListRealizes net intent steps list need
        → IsRealizing kind list need × IsExecuting kind list (length (prefixes_in list))
    realizes_to need r =
        let inner = some_inner intent.inner in
        let hop : ℕ = need + 1 in
        let executions = r.reaches.executions in
        let always = to_always list inner hop executions (r.reaches.always inner (some_inner_is intent.inner) hop (omega arith)) in
        let w = whole_path inner hop (flat executions) (omega arith) always (count_of inner hop executions r.reaches.each always) in
        let real : IsRealizing kind list w.need
        = any.path_realizes kind Longest laws list legal w.first w.more w.need w.names w.is_path in
        let counts = any.path_counts kind Longest laws list legal w.first w.more w.need w.names w.is_path in
        let within = w.below in
        let least = r.least w.need (realizes_of w.need real counts).reaches in
        let same : w.need ≡ need = omega (arith, within, least) in (subst (IsRealizing kind list) same real, counts)

    pub realizes_iff : (need : ℕ)
        → LooseListRealizes net intent steps list need ↔ (IsRealizing kind list need × IsExecuting kind list (length (prefixes_in list)))
    realizes_iff need = (realizes_to need, λ both. realizes_of need both.0 both.1)

    -- one packet at a hop limit shows what becomes of all at that limit and above
    pub one_shows : (n : ℕ) (inner : Content) (executions : List Execution) → ExecutesEach net list executions
        → LooseAlwaysHands net intent steps (list_values net list) inner (n + 1) executions → LooseReaches net intent steps list n
    one_shows n inner executions each always =
        let hop : ℕ = n + 1 in
        let hands = to_always list inner hop executions always in
        let w = whole_path inner hop (flat executions) (omega arith) hands (count_of inner hop executions each hands) in
        let real : IsRealizing kind list w.need
        = any.path_realizes kind Longest laws list legal w.first w.more w.need w.names w.is_path in
        let counts = any.path_counts kind Longest laws list legal w.first w.more w.need w.names w.is_path in
        let r = (realizes_of w.need real counts).reaches in
        let below = w.below in
        record {
          executions = r.executions;
          each = r.each;
          always = λ other ok limit above. r.always other ok limit (omega (arith, below, above));
        }
