-- Where no binding SID is executed, a packet that fits the links of the intent's steps is small: on no way is it longer than
-- at the headend, it is sent on links of the steps alone, and each stage before its hand_over lowers its hop limit, or sends what was
-- submitted.
use Rattle.std.proofs.Common.{◌≡◌, ℕ, zero, suc, ◌+◌, ◌≤◌, false, List, [], ◌∷◌, length, map, Option, Some, None, refl, sym, ap, ◌∙◌, subst, arith}
use Rattle.std.specs.Prelude.{All}
use Rattle.std.proofs.lemmas.List.{length-map}
use Rattle.std.proofs.lemmas.List.Elements.{All-head, All-tail}
use Rattle.srv6_rules.specs.Packet.{Content, V6, V4, Unreadable}
use Rattle.net_model.specs.Network.{Network}
use Rattle.walk_rules.specs.declared.place.Place.{Place}
use Rattle.walk_rules.specs.declared.place.Outcome.{Outcome}
use Rattle.walk_rules.specs.declared.place.Outcome.TheVariants as outcomes
use Rattle.walk_rules.specs.Treatment.{Gave, free_step_of, mtu_at, own_len}
use Rattle.walk_rules.specs.Walk.{Stage, decisions, free_walk_of, next_place, walk_by}
use Rattle.leg_table.specs.PositionSids.{is_binding}
use Rattle.leg_table.specs.WalkTrace.{Crossed, Handed, after_events, after_execution, behind_stage, handed_first, handed_over, is_titled, through_hand}
use Rattle.binding_spec.specs.TunnelLayers.{PushFits, spelled_content}
use Rattle.binding_spec.specs.TunnelStages.{over}
use Rattle.binding_spec.specs.TunnelWalks.{TunnelStage, behind_own, tunnel_walk, through_own}
use Rattle.tunnel_stages_theory.specs.TunnelWalksTerms.{alone}
use Rattle.tunnel_stages_theory.proofs.TunnelStageLaws.{alone_walk}
use Rattle.binding_spec.specs.BindingSmall.{FitAll, SentFits}
use Rattle.compile_commands.specs.CompiledLists.{AllFit, BindsNothing}
use Rattle.walk_commands.proofs.Fitting.{Carried, IsSmall, Passes, SmallAfter, behind_some, carried_later, own_small, step_small}
use Rattle.walk_commands.proofs.FirstHands.{binds_nothing}
use Rattle.walk_commands.proofs.HandingOver.{Unbound}

-- ---- stages without headers in front

behind_alone : (o : Outcome) (ss : List Stage) → behind_own o [] (map alone ss) ≡ map alone (behind_stage o ss)
behind_alone (outcomes.Again n how) ss = refl
behind_alone (outcomes.Hand n how family) ss = refl
behind_alone (outcomes.Send link) ss = refl
behind_alone outcomes.Local ss = refl
behind_alone (outcomes.Drop reason error) ss = refl

through_alone : (ss : List Stage) → through_own (map alone ss) ≡ map alone (through_hand ss)
through_alone [] = refl
through_alone (s ∷ ss) =
    ap (λ (later : List TunnelStage). alone s ∷ behind_own s.gave.outcome [] later) (through_alone ss)
    ∙ ap (λ (later : List TunnelStage). alone s ∷ later) (behind_alone s.gave.outcome (through_hand ss))

same_own : (content : Content) → own_len (spelled_content content []) ≡ own_len content
same_own (V6 p) = refl
same_own (V4 p) = refl
same_own (Unreadable bytes reason) = refl

no_push : (gave : Gave) → PushFits [] (over [] gave)
no_push gave less = absurd (omega (arith, less))

module _ (net : Network) (len : ℕ) (pick : ℕ → ℕ) where
  abbrev walk : ℕ → Option Place → Content → ℕ → List Stage
  walk fuel place content taken = free_walk_of fuel net place content pick taken

  -- the stages after one
  abbrev after : ℕ → Place → Gave → ℕ → Outcome → List Stage
  after fuel place gave taken o = walk fuel (next_place net place o) gave.after (taken + decisions o)

  -- ---- each packet fits its link

  abbrev Fitting : List Stage → Type 0
  Fitting ss = FitAll net (map alone ss)

  -- of a walk that hands over along links that carry so many bytes, as many stages as there may be
  abbrev FitsAfter : ℕ → ℕ → Type 0
  FitsAfter fuel n = (place : Option Place) (content : Content) (taken : ℕ) (h : Handed)
      → handed_over net (walk fuel place content taken) ≡ Some h → Passes net len pick h → IsSmall len content
      → Fitting (through_hand (walk n place content taken))

  module _ (fuel n : ℕ) (fits : FitsAfter fuel n) (place : Place) (content : Content) (gave : Gave) (taken : ℕ) (h : Handed)
      (passes : Passes net len pick h) (small : IsSmall len content) where
    abbrev Fit : Outcome → Type 0
    Fit o = SentFits net (spelled_content content []) o × Fitting (behind_stage o (through_hand (after n place gave taken o)))

    -- a stage that goes on
    stage_fits : (o : Outcome) → SmallAfter net len o gave.after
        → handed_first net gave o (handed_over net (after fuel place gave taken o)) ≡ Some h → Fit o
    stage_fits (outcomes.Hand m how family) less e = (tt, tt)
    stage_fits outcomes.Local less e = absurd (cc e)
    stage_fits (outcomes.Drop reason told) less e = absurd (cc e)
    stage_fits (outcomes.Again m how) less e =
        let got = behind_some (after_execution net m) (handed_over net (after fuel place gave taken (outcomes.Again m how))) h e in
        let trace = subst (All (Carried net len)) (sym (ap (λ (x : Handed). x.trace) got.2)) passes.1 in
        let sids : Unbound net (m ∷ got.0.sids) = subst (Unbound net) (sym (ap (λ (x : Handed). x.sids) got.2)) passes.0 in (
          tt,
          fits (next_place net place (outcomes.Again m how)) gave.after (taken + 0) got.0 got.1
              (All-tail (λ k. is_binding net k ≡ false) m got.0.sids sids, carried_later net len m (is_titled net m) got.0.trace trace)
              (less (All-head (λ k. is_binding net k ≡ false) m got.0.sids sids)),
        )
    stage_fits (outcomes.Send link) less e =
        let f : Handed → Handed = after_events (Crossed link ∷ []) in
        let got = behind_some f (handed_over net (after fuel place gave taken (outcomes.Send link))) h e in
        let trace : All (Carried net len) (Crossed link ∷ got.0.trace) =
        subst (All (Carried net len)) (sym (ap (λ (x : Handed). x.trace) got.2)) passes.1 in
        let carried = All-head (Carried net len) (Crossed link) got.0.trace trace in
        let own = own_small len content small in
        let same = same_own content in (
          omega (arith, carried, own, same),
          fits (next_place net place (outcomes.Send link)) gave.after (taken + 1) got.0 got.1 (
            subst (Unbound net) (sym (ap (λ (x : Handed). x.sids) got.2)) passes.0,
            All-tail (Carried net len) (Crossed link) got.0.trace trace,
          ) less,
        )

  fits_from : (fuel n : ℕ) → FitsAfter fuel n
  unfolding walk_by
  fits_from fuel zero place content taken h e passes small = tt
  fits_from zero (suc n) place content taken h e passes small = absurd (cc e)
  fits_from (suc fuel) (suc n) None content taken h e passes small = tt
  fits_from (suc fuel) (suc n) (Some place) content taken h e passes small =
      let gave : Gave = free_step_of net place content (pick taken) in
      let rest = stage_fits fuel n (fits_from fuel n) place content gave taken h passes small gave.outcome
      (step_small net len place content (pick taken) small) e in
      (no_push gave, rest.0, rest.1)

  -- ---- there are as few stages as hand over

  abbrev FewAfter : ℕ → ℕ → Type 0
  FewAfter n fuel = (place : Option Place) (content : Content) (taken : ℕ) (h : Handed)
      → handed_over net (walk n place content taken) ≡ Some h → length (through_hand (walk fuel place content taken)) ≤ n

  module _ (n fuel : ℕ) (few : FewAfter n fuel) (place : Place) (gave : Gave) (taken : ℕ) (h : Handed) where
    stage_few : (o : Outcome) → handed_first net gave o (handed_over net (after n place gave taken o)) ≡ Some h
        → length (behind_stage o (through_hand (after fuel place gave taken o))) ≤ n
    stage_few (outcomes.Hand m how family) e = omega arith
    stage_few outcomes.Local e = absurd (cc e)
    stage_few (outcomes.Drop reason told) e = absurd (cc e)
    stage_few (outcomes.Again m how) e =
        let got = behind_some (after_execution net m) (handed_over net (after n place gave taken (outcomes.Again m how))) h e in
        few (next_place net place (outcomes.Again m how)) gave.after (taken + 0) got.0 got.1
    stage_few (outcomes.Send link) e =
        let got = behind_some (after_events (Crossed link ∷ [])) (handed_over net (after n place gave taken (outcomes.Send link))) h e in
        few (next_place net place (outcomes.Send link)) gave.after (taken + 1) got.0 got.1

  few_from_law : (n fuel : ℕ) → FewAfter n fuel
  unfolding walk_by
  few_from_law n zero place content taken h e = omega arith
  few_from_law zero (suc fuel) place content taken h e = absurd (cc e)
  few_from_law (suc n) (suc fuel) None content taken h e = omega arith
  few_from_law (suc n) (suc fuel) (Some place) content taken h e =
      let gave : Gave = free_step_of net place content (pick taken) in
      let rest = stage_few n fuel (few_from_law n fuel) place gave taken h gave.outcome e in
      omega (arith, rest)

  -- ---- the packet's walk alone

  sent_same : (content : Content) (o : Outcome) → SentFits net (spelled_content content []) o → SentFits net content o
  sent_same content (outcomes.Send link) h = subst (λ (n : ℕ). n ≤ mtu_at net link) (same_own content) h
  sent_same content (outcomes.Again n how) h = tt
  sent_same content (outcomes.Hand n how family) h = tt
  sent_same content outcomes.Local h = tt
  sent_same content (outcomes.Drop reason error) h = tt

  all_fit : (ss : List Stage) → Fitting ss → AllFit net ss
  all_fit [] h = tt
  all_fit (s ∷ ss) h = (sent_same s.before s.gave.outcome h.1, all_fit ss h.2)

  module _ (place : Option Place) (content : Content) (taken hand : ℕ) (h : Handed)
      (first : handed_over net (walk hand place content taken) ≡ Some h) where
    pub loose_fits : Passes net len pick h → IsSmall len content → (fuel : ℕ) → AllFit net (through_hand (walk fuel place content taken))
    loose_fits passes small fuel =
        all_fit (through_hand (walk fuel place content taken)) (fits_from hand fuel place content taken h first passes small)

    pub loose_few : (fuel : ℕ) → length (through_hand (walk fuel place content taken)) ≤ hand
    loose_few fuel = few_from_law hand fuel place content taken h first

    -- ---- stages over values

    module _ (none : BindsNothing net) where
      stages_alone : (fuel : ℕ)
          → through_own (tunnel_walk fuel net place content [] pick taken) ≡ map alone (through_hand (walk fuel place content taken))
      stages_alone fuel =
          ap through_own (alone_walk fuel net place content pick taken (binds_nothing net none))
          ∙ through_alone (walk fuel place content taken)

      pub plain_fits : Passes net len pick h → IsSmall len content → (fuel : ℕ)
          → FitAll net (through_own (tunnel_walk fuel net place content [] pick taken))
      plain_fits passes small fuel =
          subst (FitAll net) (sym (stages_alone fuel)) (fits_from hand fuel place content taken h first passes small)

      pub plain_few : (fuel : ℕ) → length (through_own (tunnel_walk fuel net place content [] pick taken)) ≤ hand
      plain_few fuel =
          let few = loose_few fuel in
          let same : length (through_own (tunnel_walk fuel net place content [] pick taken))
          ≡ length (through_hand (walk fuel place content taken))
          = ap length (stages_alone fuel) ∙ length-map (through_hand (walk fuel place content taken)) alone in
          omega (arith, same, few)
