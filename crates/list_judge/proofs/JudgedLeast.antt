-- What is compiled is judged as a least list that realizes.
use Rattle.std.proofs.Common.{◌≡◌, ◌↔◌, ℕ, ◌<◌, ◌≤◌, Bool, true, false, refl, sym, ◌∙◌, subst, arith}
use Rattle.std.specs.Prelude.{IsTrue}
use Rattle.net_model.specs.Network.{Network}
use Rattle.intent_reader.specs.declared.intent.Intent.{Intent}
use Rattle.path_compiler.specs.declared.compiled.Compiled.{Compiled}
use Rattle.path_compiler.specs.Compiled.{IsChosen, IsFound, IsKept, IsOverHopLimit, IsTooLong}
use Rattle.intent_compiler.specs.IntentLegs.{ListExecutesFor, ListRealizesFor, intent_legs_value}
use Rattle.intent_compiler.proofs.PublicLaws.{cost_for}
use Rattle.list_judge_theory.proofs.PublicLaws.{one_need}
use Rattle.list_judge.specs.declared.judgement.Judgement.{Judgement}
use Rattle.list_judge.specs.declared.judgement.Judgement.TheVariants.{Realizes, Fails}
use Rattle.list_judge.specs.Judgements.{IsAsChosen, IsWithin, Judges, RealizesAs}

-- two tests of one thing
same_test : (X Y : Type 0) (a b : Bool) → IsTrue a ↔ X → IsTrue b ↔ Y → (X → Y) → (Y → X) → a ≡ b
same_test X Y true true f g to from = refl
same_test X Y false false f g to from = refl
same_test X Y true false f g to from = sym (g.1 (to (f.0 refl)))
same_test X Y false true f g to from = f.1 (from (g.0 refl))

module _ (net : Network) (intent : Intent) (c : Compiled) where
  abbrev Found : Type 0
  Found = IsFound (intent_legs_value net intent) net (ListRealizesFor net intent) (ListExecutesFor net intent) intent.reduced c

  abbrev Bounds : Type 0
  Bounds = (c.containers ≤ intent.max_containers) × (c.need < intent.hop_limit)

  as_chosen : Found → IsAsChosen net intent c.list c.need
  as_chosen found =
      record {
        chosen = c.list;
        is_chosen = subst (λ (n : ℕ). IsChosen n net (ListRealizesFor net intent) (ListExecutesFor net intent) c.list c.need)
            (cost_for net intent) found.chosen;
        containers = refl;
        sids = refl;
      }

  -- by the numbers of the judgement
  realizes_so : Found → (within : Bool) → IsTrue within ↔ Bounds → (need containers sids : ℕ) (least bounded : Bool)
      → RealizesAs net intent c.list need containers sids least bounded
      → Realizes need containers sids least bounded ≡ Realizes c.need c.containers c.sids true within
  realizes_so found within bounds need containers sids least bounded is =
      let same_need : need ≡ c.need = one_need net intent c.list need c.need is.realizes found.chosen.whole.realizes in
      let same_containers : containers ≡ c.containers = is.are_containers ∙ sym found.containers in
      let same_sids : sids ≡ c.sids = is.are_sids ∙ sym found.sids in
      let is_least : least ≡ true = is.is_least.1 (subst (IsAsChosen net intent c.list) (sym same_need) (as_chosen found)) in
      let long = found.containers in
      let same_within : bounded ≡ within = same_test (IsWithin intent c.list need) Bounds bounded within is.is_within bounds
      (λ own. (omega (arith, long, own.0), subst (λ (n : ℕ). n < intent.hop_limit) same_need own.1))
      (λ own. (omega (arith, long, own.0), subst (λ (n : ℕ). n < intent.hop_limit) (sym same_need) own.1)) in
      cc

  judged : Found → (within : Bool) → IsTrue within ↔ Bounds → (judgement : Judgement) → Judges net intent c.list judgement
      → judgement ≡ Realizes c.need c.containers c.sids true within
  judged found within bounds (Realizes need containers sids least bounded) is =
      realizes_so found within bounds need containers sids least bounded is
  judged found within bounds (Fails sid cause) is = absurd (is.fails c.need found.chosen.whole.realizes)

  pub judged_kept : (judgement : Judgement)
      → IsKept (intent_legs_value net intent) net (ListRealizesFor net intent) (ListExecutesFor net intent) intent c
      → Judges net intent c.list judgement → judgement ≡ Realizes c.need c.containers c.sids true true
  judged_kept judgement kept is = judged kept.found true (λ _. (kept.short, kept.within), λ _. refl) judgement is

  pub judged_long : (judgement : Judgement)
      → IsTooLong (intent_legs_value net intent) net (ListRealizesFor net intent) (ListExecutesFor net intent) intent c
      → Judges net intent c.list judgement → judgement ≡ Realizes c.need c.containers c.sids true false
  judged_long judgement too is =
      let long = too.long in
      judged too.found false (λ yes. absurd (cc), λ both. absurd (omega (arith, long, both.0))) judgement is

  pub judged_over : (judgement : Judgement)
      → IsOverHopLimit (intent_legs_value net intent) net (ListRealizesFor net intent) (ListExecutesFor net intent) intent c
      → Judges net intent c.list judgement → judgement ≡ Realizes c.need c.containers c.sids true false
  judged_over judgement too is =
      let over = too.over in
      judged too.found false (λ yes. absurd (cc), λ both. absurd (omega (arith, over, both.1))) judgement is
