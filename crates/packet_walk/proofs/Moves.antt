-- What moves give a packet, whatever lies between its turns.
use Rattle.std.proofs.Common.{◌≡◌, ℕ, zero, suc, ◌<◌, Bool, true, false, if◌then◌else◌, nat_eq, List, [], ◌∷◌, ◌++◌, take, Option, Some, None, refl, sym, ap, ◌∙◌, subst}
use Rattle.std.proofs.lemmas.Bool.{eqb-true, eqb-false}
use Rattle.net_model.specs.Network.{Network}
use Rattle.walk_rules.specs.declared.place.Ended.{Ended}
use Rattle.walk_rules.specs.Walk.{Stage}
use Rattle.walk_rules.specs.declared.limits.TheConstants.{MAX_STAGES}
use Rattle.packet_walk.specs.Flight.{InFlight, Flight, stage_in, staged, packet_of, turned}
use Rattle.packet_walk.specs.FlightTerms.{IsCounted, entered}
use Rattle.packet_walk.specs.Rest.{rest_of, Move, Enter, Turn, given_where, given_by, given_to, turns_of, turned_times}
use Rattle.packet_walk.proofs.FlightNumbers.{packet_behind, turned_net, turned_other, turned_ended, turned_staged}
use Rattle.packet_walk.proofs.FlightRests.{rest_going, rest_ended, staged_counted}

-- what moves are to give a packet
abbrev GivesFlight : ℕ → List Move → Flight → InFlight → Type 0
GivesFlight number moves f p = given_to number f moves ≡ take (turns_of number moves) (rest_of f.net p)

module _ (number : ℕ) (more : List Move) (f : Flight) (p : InFlight) (there : packet_of f number ≡ Some p) where
  abbrev n : ℕ
  n = turns_of number more

  -- its turn, in flight
  turn_going : p.ended ≡ None → p.stages < MAX_STAGES → GivesFlight number more (turned number f) (staged f.net p)
      → given_by f.net (packet_of f number) ++ given_to number (turned number f) more ≡ take (suc n) (rest_of f.net p)
  turn_going going left later =
      ap (λ (o : Option InFlight). given_by f.net o ++ given_to number (turned number f) more) there
      ∙ (ap (λ (e : Option Ended). given_where f.net p e ++ given_to number (turned number f) more) going
      ∙ (ap (λ (rest : List Stage). stage_in f.net p ∷ rest)
      (later ∙ ap (λ (net : Network). take n (rest_of net (staged f.net p))) (turned_net number f))
      ∙ ap (take (suc n)) (sym (rest_going f.net p going left))))

  -- its turn, where it has ended
  none_left : (m : ℕ) (end : Ended) → p.ended ≡ Some end → take m (rest_of f.net p) ≡ []
  none_left zero end is = refl
  none_left (suc m) end is = ap (take (suc m)) (rest_ended f.net p end is)

  turn_ended : (end : Ended) → p.ended ≡ Some end → GivesFlight number more (turned number f) p
      → given_by f.net (packet_of f number) ++ given_to number (turned number f) more ≡ take (suc n) (rest_of f.net p)
  turn_ended end is later =
      ap (λ (o : Option InFlight). given_by f.net o ++ given_to number (turned number f) more) there
      ∙ (ap (λ (e : Option Ended). given_where f.net p e ++ given_to number (turned number f) more) is
      ∙ (later
      ∙ (ap (λ (net : Network). take n (rest_of net p)) (turned_net number f)
      ∙ (none_left n end is ∙ sym (none_left (suc n) end is)))))

  -- a turn of the packet of a number
  turn_test : (other : ℕ) (b : Bool) → nat_eq other number ≡ b
      → (nat_eq other number ≡ true → given_by f.net (packet_of f number) ++ given_to number (turned other f) more
      ≡ take (suc n) (rest_of f.net p))
      → (nat_eq other number ≡ false → given_to number (turned other f) more ≡ take n (rest_of f.net p))
      → (if b then given_by f.net (packet_of f number) else []) ++ given_to number (turned other f) more
      ≡ take (if b then suc n else n) (rest_of f.net p)
  turn_test other true is same apart = same is
  turn_test other false is same apart = apart is

-- moves give a packet the beginning of the rest of its walk, so many stages as they have turns of it

-- its turn, by what moves give it from any flight on
given_mine : (number : ℕ) (more : List Move) (f : Flight) (p : InFlight) (e : Option Ended) → p.ended ≡ e → packet_of f number ≡ Some p
    → IsCounted p
    → ((g : Flight) (q : InFlight) → packet_of g number ≡ Some q → IsCounted q → GivesFlight number more g q)
    → given_by f.net (packet_of f number) ++ given_to number (turned number f) more ≡ take (suc (turns_of number more)) (rest_of f.net p)
given_mine number more f p None is there counted later =
    turn_going number more f p there is (counted.left is)
    (later (turned number f) (staged f.net p) (turned_staged number f p there is) (staged_counted f.net p is counted))
given_mine number more f p (Some end) is there counted later =
    turn_ended number more f p there end is
    (later (turned number f) p (ap (λ (g : Flight). packet_of g number) (turned_ended number f p end there is) ∙ there) counted)

pub given_to_law : (number : ℕ) (moves : List Move) (f : Flight) (p : InFlight) → packet_of f number ≡ Some p → IsCounted p
    → GivesFlight number moves f p
given_to_law number [] f p there counted = refl
given_to_law number (Enter q ∷ more) f p there counted =
    given_to_law number more (entered f q) p (packet_behind f.packets (q ∷ []) number p there) counted
given_to_law number (Turn other ∷ more) f p there counted =
    turn_test number more f p there other (nat_eq other number) refl
    (λ is. let same : other ≡ number = eqb-true other number is in
    subst (λ (m : ℕ). given_by f.net (packet_of f number) ++ given_to number (turned m f) more
    ≡ take (suc (turns_of number more)) (rest_of f.net p)) (sym same)
    (given_mine number more f p p.ended refl there counted (λ g q. given_to_law number more g q)))
    (λ is. given_to_law number more (turned other f) p (turned_other other number f (eqb-false other number is) ∙ there) counted
    ∙ ap (λ (net : Network). take (turns_of number more) (rest_of net p)) (turned_net other f))

-- one turn more, at the end
pub turned_times_suc : (number n : ℕ) (f : Flight) → turned_times number (suc n) f ≡ turned number (turned_times number n f)
turned_times_suc number zero f = refl
turned_times_suc number (suc n) f = turned_times_suc number n (turned number f)
