-- The stages of a walk up to and with its own hand_over begin it, and none of them drops the packet.
use Rattle.std.proofs.Common.{◌≡◌, ◌≢◌, ℕ, zero, suc, Bool, List, [], ◌∷◌, ◌++◌, All, Option, Some, None, refl, sym, ap, ◌∙◌}
use Rattle.std.specs.Option.{option_map}
use Rattle.std.proofs.lemmas.List.Elements.{All-cons, All-nil}
use Rattle.srv6_rules.specs.declared.reason.Reason.TheVariants as reasons
use Rattle.net_model.specs.Network.{Network}
use Rattle.walk_rules.specs.declared.place.Outcome.{Outcome}
use Rattle.walk_rules.specs.declared.place.Outcome.TheVariants as outcomes
use Rattle.walk_rules.specs.Walk.{Stage}
use Rattle.leg_table.specs.WalkTrace.{Handed}
use Rattle.binding_spec.specs.TunnelWalks.{depth_after}
use Rattle.binding_spec.specs.OwnHandCounting.{counted_by, handed_at_depth}
use Rattle.update_flight.specs.MomentTables.{HasRoute}
use Rattle.update_commands.specs.WholeUpdate.{behind_hand, stages_to_hand}

-- what follows a stage up to the hand_over is a front of what follows it

pub record Front (whole first : List Stage) : Type 0 where
  pub more : List Stage
  pub is : whole ≡ first ++ more

behind_front : (depth : ℕ) (o : Outcome) (whole later : List Stage) → Front whole later → Front whole (behind_hand depth o later)
behind_front zero (outcomes.Hand n how family) whole later f = record { more = whole; is = refl }
behind_front (suc depth) (outcomes.Hand n how family) whole later f = f
behind_front zero (outcomes.Again n how) whole later f = f
behind_front (suc depth) (outcomes.Again n how) whole later f = f
behind_front zero (outcomes.Send link) whole later f = f
behind_front (suc depth) (outcomes.Send link) whole later f = f
behind_front zero outcomes.Local whole later f = f
behind_front (suc depth) outcomes.Local whole later f = f
behind_front zero (outcomes.Drop reason told) whole later f = f
behind_front (suc depth) (outcomes.Drop reason told) whole later f = f

module _ (net : Network) where
  pub hand_front : (depth : ℕ) (ss : List Stage) → Front ss (stages_to_hand net depth ss)
  hand_front depth [] = record { more = []; is = refl }
  hand_front depth (s ∷ ss) =
      let later = behind_front depth s.gave.outcome ss _ (hand_front (depth_after net depth s.gave.outcome) ss) in
      record { more = later.more; is = ap (λ (xs : List Stage). s ∷ xs) later.is }

  -- what is handed over is so behind each stage before

  some_behind : (f : Handed → Handed) (o : Option Handed) (h : Handed) → option_map f o ≡ Some h → (later : Handed) × (o ≡ Some later)
  some_behind f None h e = absurd (cc)
  some_behind f (Some later) h e = (later, refl)

  abbrev HaveRoutes : ℕ → List Stage → Type 0
  HaveRoutes depth ss = (h : Handed) → handed_at_depth net depth ss ≡ Some h → All HasRoute (stages_to_hand net depth ss)

  one_stage : (depth : ℕ) (s : Stage) (o : Outcome) (ss : List Stage) (later : List Stage) → s.gave.outcome ≡ o
      → ((told : Bool) → o ≢ outcomes.Drop reasons.NoRoute told) → All HasRoute (behind_hand depth o later)
      → All HasRoute (s ∷ behind_hand depth o later)
  one_stage depth s o ss later is route all =
      All-cons HasRoute s (behind_hand depth o later) (λ told e. route told (sym is ∙ e)) all

  by_outcome : (depth : ℕ) (s : Stage) (o : Outcome) (ss : List Stage) → s.gave.outcome ≡ o → HaveRoutes (depth_after net depth o) ss
      → (h : Handed) → counted_by net s.gave.after depth o (handed_at_depth net (depth_after net depth o) ss) ≡ Some h
      → All HasRoute (s ∷ behind_hand depth o (stages_to_hand net (depth_after net depth o) ss))
  by_outcome zero s (outcomes.Hand n how family) ss is later h e =
      one_stage 0 s (outcomes.Hand n how family) ss [] is (λ told x. cc) (All-nil HasRoute)
  by_outcome (suc depth) s (outcomes.Hand n how family) ss is later h e =
      let got = some_behind _ _ h e in one_stage (suc depth) s (outcomes.Hand n how family) ss _ is (λ told x. cc) (later got.0 got.1)
  by_outcome zero s (outcomes.Again n how) ss is later h e =
      let got = some_behind _ _ h e in one_stage 0 s (outcomes.Again n how) ss _ is (λ told x. cc) (later got.0 got.1)
  by_outcome (suc depth) s (outcomes.Again n how) ss is later h e =
      let got = some_behind _ _ h e in one_stage (suc depth) s (outcomes.Again n how) ss _ is (λ told x. cc) (later got.0 got.1)
  by_outcome zero s (outcomes.Send link) ss is later h e =
      let got = some_behind _ _ h e in one_stage 0 s (outcomes.Send link) ss _ is (λ told x. cc) (later got.0 got.1)
  by_outcome (suc depth) s (outcomes.Send link) ss is later h e =
      let got = some_behind _ _ h e in one_stage (suc depth) s (outcomes.Send link) ss _ is (λ told x. cc) (later got.0 got.1)
  by_outcome zero s outcomes.Local ss is later h e = absurd (cc)
  by_outcome (suc depth) s outcomes.Local ss is later h e = absurd (cc)
  by_outcome zero s (outcomes.Drop reason told) ss is later h e = absurd (cc)
  by_outcome (suc depth) s (outcomes.Drop reason told) ss is later h e = absurd (cc)

  pub hand_routes : (ss : List Stage) (depth : ℕ) → HaveRoutes depth ss
  hand_routes [] depth h e = absurd (cc)
  hand_routes (s ∷ ss) depth h e = by_outcome depth s s.gave.outcome ss refl (hand_routes ss (depth_after net depth s.gave.outcome)) h e
