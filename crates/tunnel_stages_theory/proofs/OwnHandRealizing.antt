-- Where there is no binding SID, lists realize what they do by the first hand_over.
use Rattle.std.proofs.Common.{◌≡◌, ◌↔◌, ℕ, false, List, [], ◌∷◌, All, Option, Some, None, slice_get, refl, sym, ◌∙◌}
use Rattle.std.specs.Prelude.{is_some}
use Rattle.std.proofs.lemmas.List.Elements.{All-nil, All-cons}
use Rattle.srv6_rules.specs.declared.sid.SidEntry.{SidEntry}
use Rattle.srv6_rules.specs.Packet.{Content, V6}
use Rattle.net_model.specs.Network.{Network}
use Rattle.walk_rules.specs.Walk.{choice_at}
use Rattle.intent_reader.specs.declared.intent.Intent.{Intent}
use Rattle.leg_table.specs.PositionSids.{sid_binds, is_binding}
use Rattle.leg_table.specs.Realizes.{headend_place, encapsulated_for, HandsOver, Realizes, ReachesAbove}
use Rattle.leg_table.specs.RealizesTerms.{Executes}
use Rattle.binding_spec.specs.TunnelStages.{policy_at}
use Rattle.tunnel_stages_theory.specs.TunnelStagesTerms.{NothingBinds}
use Rattle.binding_spec.specs.BindingRealizes.{HandsAbove, RealizesBy, OwnHandsOver, OwnRealizes, OwnExecutes}
use Rattle.tunnel_stages_theory.proofs.OwnHandFirsts.{first_walk}

-- by either definition a SID binds a policy
pub binds_same : (o : Option SidEntry) → sid_binds o ≡ is_some (policy_at o)
binds_same None = refl
binds_same (Some s) = refl

all_of : (P : ℕ → Type 0) → ((n : ℕ) → P n) → (xs : List ℕ) → All P xs
all_of P each [] = All-nil P
all_of P each (x ∷ xs) = All-cons P x xs (each x) (all_of P each xs)

module _ (net : Network) (intent : Intent) (segments : List ℕ) (none : NothingBinds net) where
  module _ (inner : Content) (hop : ℕ) (choices : List ℕ) where
    abbrev hands_first : OwnHandsOver net intent segments inner hop choices → HandsOver net intent segments inner hop choices
    hands_first h =
        record {
          fuel = h.fuel;
          handed = h.handed;
          first = sym (first_walk h.fuel net (Some (headend_place intent)) (V6 (encapsulated_for intent segments inner hop))
              (choice_at choices) 0 none) ∙ h.own;
          steps = h.steps;
          content = h.content;
          unbound = all_of (λ n. is_binding net n ≡ false) (λ n. binds_same (slice_get net.sids n) ∙ none n) h.handed.sids;
        }

    abbrev hands_own : HandsOver net intent segments inner hop choices → OwnHandsOver net intent segments inner hop choices
    hands_own h =
        record {
          fuel = h.fuel;
          handed = h.handed;
          own = first_walk h.fuel net (Some (headend_place intent)) (V6 (encapsulated_for intent segments inner hop))
              (choice_at choices) 0 none ∙ h.first;
          steps = h.steps;
          content = h.content;
        }

  pub hands_either : (inner : Content) (hop : ℕ) (choices : List ℕ)
      → OwnHandsOver net intent segments inner hop choices ↔ HandsOver net intent segments inner hop choices
  hands_either inner hop choices = (hands_first inner hop choices, hands_own inner hop choices)

  reaches_first : (n : ℕ) → HandsAbove (OwnHandsOver net intent segments) intent.inner n → ReachesAbove net intent segments n
  reaches_first n above inner is hop more choices some = hands_first inner hop choices (above inner is hop more choices some)

  reaches_own : (n : ℕ) → ReachesAbove net intent segments n → HandsAbove (OwnHandsOver net intent segments) intent.inner n
  reaches_own n above inner is hop more choices some = hands_own inner hop choices (above inner is hop more choices some)

  pub realizes_either : (need : ℕ) → OwnRealizes net intent segments need ↔ Realizes net intent segments need
  realizes_either need = (
    λ r. record { reaches = reaches_first need r.reaches; least = λ n above. r.least n (reaches_own n above) },
    λ r. record { reaches = reaches_own need r.reaches; least = λ n above. r.least n (reaches_first n above) },
  )

  -- the same own hand_over both ways
  pub executes_either : (count : ℕ) → OwnExecutes net intent segments count ↔ Executes net intent segments count
  executes_either count = (
    λ each inner hop choices h. each inner hop choices (hands_own inner hop choices h),
    λ each inner hop choices h. each inner hop choices (hands_first inner hop choices h),
  )

pub realizes_once : (net : Network) (intent : Intent) (segments : List ℕ) (need : ℕ)
    → RealizesBy (HandsOver net intent segments) intent.inner need ↔ Realizes net intent segments need
realizes_once net intent segments need = (
  λ r. record { reaches = r.reaches; least = r.least },
  λ r. record { reaches = r.reaches; least = r.least },
)
