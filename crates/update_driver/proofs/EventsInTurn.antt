-- Events one after the other, step by step.
use Rattle.std.proofs.Common.{◌≡◌, ℕ, zero, suc, ◌+◌, ◌-◌, ◌<◌, ◌≤◌, List, [], ◌∷◌, ◌++◌, length, refl, sym, ap, ◌∙◌, subst, append-nil, arith}
use Rattle.std.specs.Prelude.{replicate}
use Rattle.walk_rules.specs.declared.limits.TheConstants.{MAX_STAGES}
use Rattle.srx_edge.specs.CallSteps.{Whole}
use Rattle.command_output.specs.declared.halt.Failure.{Failure}
use Rattle.command_output.specs.CommandAnswers.{ending_of_failure}
use Rattle.command_output.specs.GatheredTerms.{Goes, Pooled}
use Rattle.command_output.proofs.PublicLaws.{goes_nowhere}
use Rattle.update_driver.specs.declared.moving.Moving as code
use Rattle.update_driver.specs.Events.{pieces_of}
use Rattle.update_driver.specs.Going.{GoesOn, moving_of, written}
use Rattle.update_driver.specs.Moving.{Happening, Sides, doing, happening, nothing}
use Rattle.update_driver.proofs.EventEnds.{ends_step, ends_from, idle_all, idle_none}
use Rattle.update_driver.proofs.EventSteps.{Along, along_cut, along_on}

pub rep_step : (n x : ℕ) → 0 < n → replicate n x ≡ (x ∷ []) ++ replicate (n - 1) x
rep_step zero x some = absurd (omega (arith, some))
rep_step (suc n) x some = let e : suc n - 1 ≡ n = omega arith in ap (λ (k : ℕ). x ∷ replicate k x) (sym e)

pub rep_none : (n x : ℕ) → n ≤ 0 → replicate n x ≡ []
rep_none zero x none = refl
rep_none (suc n) x none = absurd (omega (arith, none))

pub ends_next : {X : Type 0} → (n : ℕ) (xs : List X) → n < length xs → ends_from n xs ≡ replicate MAX_STAGES (n + 1) ++ ends_from (n + 1) xs
ends_next n xs within =
    let e : n + 1 ≡ suc n = omega arith in
    subst (λ (k : ℕ). ends_from n xs ≡ replicate MAX_STAGES k ++ ends_from k xs) (sym e) (ends_step n xs within)

module _ (sides : Sides) (es left : List ℕ) (old now : code.Moving) (first mid : Pooled) (along : Along sides es left old now first mid)
    (xs rest : List ℕ) (split : left ≡ xs ++ rest) where
  split_along : Along sides es (xs ++ rest) old now first mid
  split_along = subst (λ (l : List ℕ). Along sides es l old now first mid) split along

  pub step_on : (new : code.Moving) (pool : Pooled) → GoesOn sides xs now new → Goes Whole (written sides now xs) mid pool
      → Along sides es rest old new first pool
  step_on new pool on went = along_on sides es xs rest old now first mid split_along new pool on went

  pub step_cut : (failure : Failure) (pool : Pooled) → Goes (ending_of_failure failure) (written sides now xs) mid pool
      → Goes (ending_of_failure failure) (written sides old es) first pool
  step_cut failure pool went = along_cut sides es xs rest old now first mid split_along failure pool went

-- none is left
pub no_left : (sides : Sides) (es left : List ℕ) (old now : code.Moving) (first mid : Pooled) → Along sides es left old now first mid
    → left ≡ [] → Along sides es [] old now first mid
no_left sides es left old now first mid along none = subst (λ (l : List ℕ). Along sides es l old now first mid) none along

-- those that are left do nothing
pub along_idle : (sides : Sides) (es : List ℕ) (n event : ℕ) (old now : code.Moving) (first mid : Pooled)
    → Along sides es (replicate n event) old now first mid → doing sides event (moving_of now) ≡ nothing (moving_of now)
    → Along sides es [] old now first mid
along_idle sides es n event old now first mid along none =
    step_on sides es (replicate n event) old now first mid along (replicate n event) [] (sym (append-nil (replicate n event))) now mid
    (record {
      stands = record { net = refl; choices = refl; seats = refl };
      going = along.on.going;
      leads = λ more. idle_all sides event (moving_of now) none n more
          ∙ ap (λ (all : List Happening). all ++ happening sides (moving_of now) more) (sym (idle_none sides event (moving_of now) none n));
    })
    (subst (λ (all : List Happening). Goes Whole (pieces_of now.net.now all) mid mid) (sym (idle_none sides event (moving_of now) none n))
    (goes_nowhere mid))
