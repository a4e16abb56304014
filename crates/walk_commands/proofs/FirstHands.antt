-- A packet that executes no binding SID is handed over first where it is first handed over at depth 0.
use Rattle.std.proofs.Common.{◌≡◌, ℕ, false, List, [], ◌∷◌, Option, Some, None, slice_get, refl, sym, ap, ◌∙◌, subst}
use Rattle.std.specs.Prelude.{is_some}
use Rattle.std.specs.Option.{option_map}
use Rattle.std.proofs.lemmas.List.Elements.{All-head, All-tail}
use Rattle.srv6_rules.specs.declared.sid.SidEntry.{SidEntry}
use Rattle.net_model.specs.Network.{Network}
use Rattle.walk_rules.specs.declared.place.How.{How}
use Rattle.walk_rules.specs.declared.place.Outcome.{Outcome}
use Rattle.walk_rules.specs.declared.place.Outcome.TheVariants as outcomes
use Rattle.walk_rules.specs.Treatment.{Gave}
use Rattle.walk_rules.specs.Walk.{Stage}
use Rattle.leg_table.specs.PositionSids.{is_binding, sid_binds}
use Rattle.leg_table.specs.WalkTrace.{Crossed, Handed, after_events, after_execution, handed_first, handed_over}
use Rattle.binding_spec.specs.TunnelStages.{policy_at}
use Rattle.tunnel_stages_theory.specs.TunnelStagesTerms.{NothingBinds}
use Rattle.binding_spec.specs.TunnelWalks.{depth_after}
use Rattle.binding_spec.specs.OwnHandCounting.{counted_by, handed_at_depth}
use Rattle.compile_commands.specs.CompiledLists.{BindsNothing}
use Rattle.walk_commands.proofs.Fitting.{behind_some}
use Rattle.walk_commands.proofs.HandingOver.{Unbound}

-- a SID binds a policy where a packet gets another header at it
binds_same : (o : Option SidEntry) → is_some (policy_at o) ≡ sid_binds o
binds_same None = refl
binds_same (Some s) = refl

pub binds_nothing : (net : Network) → BindsNothing net → NothingBinds net
binds_nothing net none n = binds_same (slice_get net.sids n) ∙ none n

module _ (net : Network) where
  -- such an execution leaves the depth as it is
  stays_at_0 : (n : ℕ) (how : How) → is_binding net n ≡ false → depth_after net 0 (outcomes.Again n how) ≡ 0
  stays_at_0 n how free = rw (binds_same (slice_get net.sids n) ∙ free) refl

  -- a stage and what its later stages hand over
  module _ (gave : Gave) (ss : List Stage) (h : Handed) (free : Unbound net h.sids)
      (rest : (g : Handed) → handed_over net ss ≡ Some g → Unbound net g.sids → handed_at_depth net 0 ss ≡ Some g) where
    later_own : (f : Handed → Handed) (g : Handed) (d : ℕ) → d ≡ 0 → handed_over net ss ≡ Some g → f g ≡ h → Unbound net g.sids
        → option_map f (handed_at_depth net d ss) ≡ Some h
    later_own f g d none some same unbound =
        ap (λ (d : ℕ). option_map f (handed_at_depth net d ss)) none ∙ ap (option_map f) (rest g some unbound) ∙ ap Some same

    stage_own : (o : Outcome) → handed_first net gave o (handed_over net ss) ≡ Some h
        → counted_by net gave.after 0 o (handed_at_depth net (depth_after net 0 o) ss) ≡ Some h
    stage_own (outcomes.Hand n how family) e = e
    stage_own outcomes.Local e = absurd (cc e)
    stage_own (outcomes.Drop reason error) e = absurd (cc e)
    stage_own (outcomes.Again n how) e =
        let got = behind_some (after_execution net n) (handed_over net ss) h e in
        let all : Unbound net (n ∷ got.0.sids) = subst (Unbound net) (sym (ap (λ (x : Handed). x.sids) got.2)) free in
        later_own (after_execution net n) got.0 (depth_after net 0 (outcomes.Again n how))
        (stays_at_0 n how (All-head (λ k. is_binding net k ≡ false) n got.0.sids all)) got.1 got.2
        (All-tail (λ k. is_binding net k ≡ false) n got.0.sids all)
    stage_own (outcomes.Send link) e =
        let f : Handed → Handed = after_events (Crossed link ∷ []) in
        let got = behind_some f (handed_over net ss) h e in
        later_own f got.0 0 refl got.1 got.2 (subst (Unbound net) (sym (ap (λ (x : Handed). x.sids) got.2)) free)

  pub own_first : (stages : List Stage) (h : Handed) → handed_over net stages ≡ Some h → Unbound net h.sids
      → handed_at_depth net 0 stages ≡ Some h
  own_first [] h e free = absurd (cc e)
  own_first (s ∷ ss) h e free = stage_own s.gave ss h free (own_first ss) s.gave.outcome e
