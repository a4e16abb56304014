-- What happens by events, one list of them after another.
use Rattle.std.proofs.Common.{◌≡◌, ℕ, zero, suc, ◌-◌, ◌≤◌, slice_get, arith, List, [], ◌∷◌, ◌++◌, refl, sym, ap, ◌∙◌, append_assoc, append-nil, subst}
use Rattle.std.proofs.lemmas.Grind.{flat_map-append}
use Rattle.srx_edge.specs.CallSteps.{Ending, Whole}
use Rattle.command_output.specs.declared.halt.Failure.{Failure}
use Rattle.command_output.specs.CommandAnswers.{ending_of_failure}
use Rattle.command_output.specs.GatheredTerms.{Goes, Pooled}
use Rattle.command_output.specs.OutputPieces.{Piece}
use Rattle.command_output.proofs.PublicLaws.{goes_behind, goes_both, goes_longer, goes_nowhere}
use Rattle.net_model.specs.Network.{Network}
use Rattle.update_driver.specs.declared.moving.Moving as code
use Rattle.update_driver.specs.Events.{pieces_of, pieces_of_happening}
use Rattle.update_driver.specs.Going.{GoesOn, IsGoing, StandsOn, moving_of, written}
use Rattle.update_driver.specs.Moving.{Happening, Moving, Sides, doing, happening, stepping}
use Rattle.update_driver.specs.MovingTerms.{GoAlike, LeadsTo}

leads_both : (sides : Sides) (one two : List ℕ) (a b c : Moving) → LeadsTo sides one a b → LeadsTo sides two b c
    → LeadsTo sides (one ++ two) a c
leads_both sides one two a b c first second more =
    ap (happening sides a) (append_assoc one two more)
    ∙ (first (two ++ more)
    ∙ (ap (λ (rest : List Happening). happening sides a one ++ rest) (second more)
    ∙ (sym (append_assoc (happening sides a one) (happening sides b two) (happening sides c more))
    ∙ ap (λ (front : List Happening). front ++ happening sides c more) (sym (first two)))))

-- one event
pub leads_one : (sides : Sides) (event : ℕ) (a b : Moving) → ((more : List ℕ) → happening sides (doing sides event a).after more
    ≡ happening sides b more) → LeadsTo sides (event ∷ []) a b
leads_one sides event a b same more =
    let first : List Happening = (doing sides event a).happens in
    ap (λ (rest : List Happening). first ++ rest) (same more)
    ∙ ap (λ (front : List Happening). front ++ happening sides b more) (sym (append-nil first))

-- what happens by the first events comes first
happening_front : (sides : Sides) (m : Moving) (first more : List ℕ)
    → (rest : List Happening) × (happening sides m (first ++ more) ≡ happening sides m first ++ rest)
happening_front sides m [] more = (happening sides m more, refl)
happening_front sides m (event ∷ first) more =
    let behind = happening_front sides (doing sides event m).after first more in (
      behind.0,
      ap (λ (rest : List Happening). (doing sides event m).happens ++ rest) behind.1
          ∙ sym (append_assoc (doing sides event m).happens (happening sides (doing sides event m).after first) behind.0),
    )

module _ (sides : Sides) (a b c : code.Moving) (one two : List ℕ) (first : GoesOn sides one a b) where
  goes_on_both : GoesOn sides two b c → GoesOn sides (one ++ two) a c
  goes_on_both second = record {
    stands = record {
      net = second.stands.net ∙ first.stands.net;
      choices = second.stands.choices ∙ first.stands.choices;
      seats = second.stands.seats ∙ first.stands.seats;
    };
    going = second.going;
    leads = leads_both sides one two (moving_of a) (moving_of b) (moving_of c) first.leads second.leads;
  }

  -- what is written by both
  pub written_both : written sides a (one ++ two) ≡ written sides a one ++ written sides b two
  written_both =
      ap (pieces_of a.net.now) (first.leads two)
      ∙ (flat_map-append (pieces_of_happening a.net.now) (happening sides (moving_of a) one) (happening sides (moving_of b) two)
      ∙ ap (λ (net : Network). written sides a one ++ pieces_of net (happening sides (moving_of b) two))
      (sym first.stands.net))

pub written_longer : (sides : Sides) (m : code.Moving) (first more : List ℕ) (failure : Failure) (old new : Pooled)
    → Goes (ending_of_failure failure) (written sides m first) old new
    → Goes (ending_of_failure failure) (written sides m (first ++ more)) old new
written_longer sides m first more failure old new went =
    let front = happening_front sides (moving_of m) first more in
    let all : written sides m (first ++ more) ≡ written sides m first ++ pieces_of m.net.now front.0 =
    ap (pieces_of m.net.now) front.1
    ∙ flat_map-append (pieces_of_happening m.net.now) (happening sides (moving_of m) first) front.0 in
    subst (λ (pieces : List Piece). Goes (ending_of_failure failure) pieces old new) (sym all)
    (goes_longer failure (written sides m first) (pieces_of m.net.now front.0) old new went)

-- of events some are done, and what happened by them was written
pub record Along (sides : Sides) (events left : List ℕ) (old now : code.Moving) (first pool : Pooled) : Type 0 where
  pub done : List ℕ
  pub split : events ≡ done ++ left
  pub on : GoesOn sides done old now
  pub went : Goes Whole (written sides old done) first pool

pub along_starts : (sides : Sides) (events : List ℕ) (m : code.Moving) (pool : Pooled) → IsGoing sides m
    → Along sides events events m m pool pool
along_starts sides events m pool going = record {
  done = [];
  split = refl;
  on = record { stands = record { net = refl; choices = refl; seats = refl }; going = going; leads = λ more. refl };
  went = goes_nowhere pool;
}

module _ (sides : Sides) (events xs left : List ℕ) (old now : code.Moving) (first mid : Pooled)
    (along : Along sides events (xs ++ left) old now first mid) where
  pub along_on : (new : code.Moving) (pool : Pooled) → GoesOn sides xs now new → Goes Whole (written sides now xs) mid pool
      → Along sides events left old new first pool
  along_on new pool on went = record {
    done = along.done ++ xs;
    split = along.split ∙ sym (append_assoc along.done xs left);
    on = goes_on_both sides old now new along.done xs along.on on;
    went = subst (λ (pieces : List Piece). Goes Whole pieces first pool)
        (sym (written_both sides old now new along.done xs along.on))
        (goes_both (written sides old along.done) (written sides now xs) first mid pool along.went went);
  }

  pub along_cut : (failure : Failure) (pool : Pooled) → Goes (ending_of_failure failure) (written sides now xs) mid pool
      → Goes (ending_of_failure failure) (written sides old events) first pool
  along_cut failure pool went =
      subst (λ (es : List ℕ). Goes (ending_of_failure failure) (written sides old es) first pool) (sym along.split)
      (subst (λ (pieces : List Piece). Goes (ending_of_failure failure) pieces first pool)
      (sym (written_both sides old now now along.done (xs ++ left) along.on))
      (goes_behind failure (written sides old along.done) (written sides now (xs ++ left)) first mid pool along.went
      (written_longer sides now xs left failure mid pool went)))

module _ (sides : Sides) (events : List ℕ) (old now : code.Moving) (first pool : Pooled)
    (along : Along sides events [] old now first pool) where
  all_done : events ≡ along.done
  all_done = along.split ∙ append-nil along.done

  pub along_done : GoesOn sides events old now
  along_done = subst (λ (es : List ℕ). GoesOn sides es old now) (sym all_done) along.on

  pub along_went : Goes Whole (written sides old events) first pool
  along_went = subst (λ (es : List ℕ). Goes Whole (written sides old es) first pool) (sym all_done) along.went

-- one event, after which the code holds what it leaves

module _ (sides : Sides) (event : ℕ) (old new : code.Moving) where
  pub one_on : StandsOn old new → IsGoing sides new → moving_of new ≡ (doing sides event (moving_of old)).after
      → GoesOn sides (event ∷ []) old new
  one_on stands going is = record {
    stands = stands;
    going = going;
    leads = leads_one sides event (moving_of old) (moving_of new) (λ more. ap (λ (m : Moving). happening sides m more) (sym is));
  }

  pub alike_one : StandsOn old new → IsGoing sides new → GoAlike sides (doing sides event (moving_of old)).after (moving_of new)
      → GoesOn sides (event ∷ []) old new
  alike_one stands going alike =
      record { stands = stands; going = going; leads = leads_one sides event (moving_of old) (moving_of new) alike }

pub one_went : (sides : Sides) (event : ℕ) (m : code.Moving) (ending : Ending) (old new : Pooled)
    → Goes ending (pieces_of m.net.now (doing sides event (moving_of m)).happens) old new
    → Goes ending (written sides m (event ∷ [])) old new
one_went sides event m ending old new went =
    subst (λ (all : List Happening). Goes ending (pieces_of m.net.now all) old new)
    (sym (append-nil (doing sides event (moving_of m)).happens)) went

-- an event that is a number from 1 on
pub doing_number : (sides : Sides) (n : ℕ) (m : Moving) → 1 ≤ n → doing sides n m ≡ stepping sides (n - 1) m (slice_get m.seats (n - 1))
doing_number sides zero m first = absurd (omega (arith, first))
doing_number sides (suc at) m first =
    let e : suc at - 1 ≡ at = omega arith in ap (λ (k : ℕ). stepping sides k m (slice_get m.seats k)) (sym e)
