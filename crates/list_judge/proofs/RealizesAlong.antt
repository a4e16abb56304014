-- A list realizes an intent by the course along its prefixes.
use Rattle.std.proofs.Common.{◌≡◌, ◌↔◌, ℕ, List, Option, Some, None, sym, subst}
use Rattle.v6_addr.specs.Address.{PrefixValue}
use Rattle.net_model.specs.Network.{Network}
use Rattle.net_model.specs.NetworkRulesTerms.{IsNetwork}
use Rattle.net_flatness.specs.Flat.{IsFlat}
use Rattle.intent_reader.specs.IntentRules.{has_reach}
use Rattle.intent_reader.specs.IntentRulesTerms.{IsIntent}
use Rattle.intent_reader.specs.declared.intent.Intent.{Intent}
use Rattle.list_pack.specs.declared.types.Container.{Container}
use Rattle.list_pack.specs.SidLists.{IsLegalList, prefixes_in}
use Rattle.leg_table.specs.StrictTableTerms.{LegTable}
use Rattle.intent_compiler.specs.IntentLegs.{ListRealizesFor, intent_legs_value}
use Rattle.list_judge_theory.specs.ListCourses.{Course, tail_of}
use Rattle.list_judge_theory.proofs.PublicLaws.{need_law}
use Rattle.list_judge.specs.CourseTurns.{CourseNeeds}

module _ (net : Network) (intent : Intent) (network : IsNetwork net) (flat : IsFlat net) (is_intent : IsIntent net intent)
    (list : List Container) (legal : IsLegalList net list) (tail : ℕ) (prefixes : List PrefixValue)
    (is_tail : tail ≡ tail_of (has_reach intent.steps) list) (are_prefixes : prefixes ≡ prefixes_in list) where
  along : (need : ℕ) → ListRealizesFor net intent list need ↔ Course (intent_legs_value net intent) net tail 0 None prefixes need
  along need =
      subst (λ (t : ℕ). ListRealizesFor net intent list need ↔ Course (intent_legs_value net intent) net t 0 None prefixes need) (sym is_tail)
      (subst (λ (ps : List PrefixValue). ListRealizesFor net intent list need
      ↔ Course (intent_legs_value net intent) net (tail_of (has_reach intent.steps) list) 0 None ps need) (sym are_prefixes)
      (need_law net intent network flat is_intent list legal need))

  pub realizes_along : (need : ℕ) → CourseNeeds (intent_legs_value net intent) net tail prefixes (Some need) → ListRealizesFor net intent list need
  realizes_along need course = (along need).1 course

  pub fails_along : CourseNeeds (intent_legs_value net intent) net tail prefixes None → (need : ℕ) → ¬ ListRealizesFor net intent list need
  fails_along none need real = none need ((along need).0 real)

-- over legs that are those of the intent, by what comes of the course
module _ (t : LegTable) (net : Network) (intent : Intent) (same : t ≡ record { net = net; intent = intent }) (network : IsNetwork net)
    (flat : IsFlat net) (is_intent : IsIntent net intent) (list : List Container) (legal : IsLegalList net list) (tail : ℕ)
    (prefixes : List PrefixValue) (is_tail : tail ≡ tail_of (has_reach intent.steps) list) (are_prefixes : prefixes ≡ prefixes_in list)
    (o : Option ℕ) (needs : CourseNeeds (intent_legs_value t.net t.intent) net tail prefixes o) where
  own : CourseNeeds (intent_legs_value net intent) net tail prefixes o
  own = subst (λ (u : LegTable). CourseNeeds (intent_legs_value u.net u.intent) net tail prefixes o) same needs

  pub realizes_by : (need : ℕ) → o ≡ Some need → ListRealizesFor net intent list need
  realizes_by need is =
      realizes_along net intent network flat is_intent list legal tail prefixes is_tail are_prefixes need
      (subst (CourseNeeds (intent_legs_value net intent) net tail prefixes) is own)

  pub fails_by : o ≡ None → (need : ℕ) → ¬ ListRealizesFor net intent list need
  fails_by is =
      fails_along net intent network flat is_intent list legal tail prefixes is_tail are_prefixes
      (subst (CourseNeeds (intent_legs_value net intent) net tail prefixes) is own)
