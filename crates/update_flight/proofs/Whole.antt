-- Each packet takes the walk of its own description, whatever edits there are between its turns.
use Rattle.std.proofs.Common.{◌≡◌, ◌≢◌, inl, inr, ℕ, zero, suc, ◌+◌, ◌<◌, ◌≤◌, nat_eq, nat_le, Bool, true, false, if◌then◌else◌, List, [], ◌∷◌, ◌++◌, length, take, All, Option, Some, None, refl, sym, ap, ◌∙◌, arith, subst}
use Rattle.std.proofs.lemmas.Bool.{eqb-true, eqb-false, leb-true, leb-false, le-leb, lt-leb, cases_lt}
use Rattle.std.proofs.lemmas.List.Elements.{All-head, All-tail, All-same}
use Rattle.std.proofs.lemmas.Option.{slice_get_within}
use Rattle.net_model.specs.Network.{Network}
use Rattle.walk_rules.specs.declared.place.Ended.{Ended}
use Rattle.walk_rules.specs.declared.limits.TheConstants.{MAX_STAGES}
use Rattle.walk_rules.specs.Walk.{Stage}
use Rattle.packet_walk.specs.Flight.{InFlight, Flight, packet_in, stage_in, staged, within}
use Rattle.packet_walk.specs.FlightTerms.{IsCounted}
use Rattle.packet_walk.specs.Rest.{rest_of, given_by, given_where}
use Rattle.packet_walk.proofs.PublicLaws.{packet_behind, rest_ended, rest_going, staged_counted, turned_ended, turned_other, turned_staged}
use Rattle.update_flight.specs.MomentTables.{HasRoute}
use Rattle.update_flight.specs.MomentTablesTerms.{KeepsOwn}
use Rattle.update_flight.specs.Transition.{Transition, edit_count, edited, entered, is_before_switch, turned_in}
use Rattle.update_flight.specs.TransitionTerms.{IsTransition}
use Rattle.update_flight.specs.Interleaving.{Move, Enter, Turn, Edit, PassOver, given_to, own_of, turns_of}
use Rattle.update_flight.proofs.OwnStages.{own_stage, own_staged}
use Rattle.update_flight.proofs.PassingFirsts.{going_or_ended}
use Rattle.update_flight.proofs.PassingKept.{kept_edit, kept_enter, kept_turn}

within_by : (packets : List InFlight) (p : InFlight) (number : ℕ) → packet_in packets number ≡ Some p → number ≤ length packets
within_by packets p zero there = cc
within_by packets p (suc before) there = slice_get_within packets before p there

-- the tables of the moment keep the matches of each packet in flight

module _ (tables : ℕ → Network) (t : Transition) (pass : PassOver tables t.added t.removed) (is : IsTransition t) (number : ℕ)
    (p : InFlight)
    (there : packet_in t.packets.packets number ≡ Some p) (going : p.ended ≡ None) where
  number_within : number ≤ length t.packets.packets
  number_within = within_by t.packets.packets p number there

  kept_by : (early : Bool) → nat_le number t.early ≡ early
      → KeepsOwn (if early then tables 0 else tables (edit_count t)) (tables t.done)
  kept_by true few =
      pass.old t.done (elim (cases_lt (suc (length t.added)) t.done) [
        | inl more ↦ absurd (going_or_ended p.ended going (is.after more number p (leb-true number t.early few) there))
        | inr most ↦ most
      ])
  kept_by false late =
      let behind : t.early < number = leb-false number t.early late in
      let within = number_within in
      pass.new t.done (elim (cases_lt (length t.added) t.done) [
        | inl more ↦ omega (arith, more)
        | inr most ↦ (let each : t.early ≡ length t.packets.packets = is.before most in absurd (omega (arith, each, behind, within)))
      ]) is.edits

  pub own_kept : KeepsOwn (own_of tables t number) (tables t.done)
  own_kept = kept_by (nat_le number t.early) refl

-- its own description stays its own

own_entered : (tables : ℕ → Network) (t : Transition) (old new : InFlight) (number : ℕ) → IsTransition t → number ≤ length t.packets.packets
    → own_of tables (entered t old new) number ≡ own_of tables t number
own_entered tables t old new number is within = own_by (is_before_switch t) refl where
  own_by : (early : Bool) → is_before_switch t ≡ early
      → (if nat_le number (if early then suc t.early else t.early) then tables 0 else tables (edit_count t)) ≡ own_of tables t number
  own_by true before =
      let each : t.early ≡ length t.packets.packets = is.before (leb-true t.done (length t.added) before) in
      let now : nat_le number (suc t.early) ≡ true = le-leb number (suc t.early) (omega (arith, each, within)) in
      let was : nat_le number t.early ≡ true = le-leb number t.early (omega (arith, each, within)) in
      ap (λ (b : Bool). if b then tables 0 else tables (edit_count t)) (now ∙ sym was)
  own_by false before = refl

-- a packet that enters is one of the description of its side of the switch
pub own_entry : (tables : ℕ → Network) (t : Transition) (old new : InFlight) → IsTransition t
    → own_of tables (entered t old new) (suc (length t.packets.packets))
    ≡ (if is_before_switch t then tables 0 else tables (edit_count t))
own_entry tables t old new is = own_by (is_before_switch t) refl where
  number : ℕ
  number = suc (length t.packets.packets)

  own_by : (early : Bool) → is_before_switch t ≡ early
      → (if nat_le number (if early then suc t.early else t.early) then tables 0 else tables (edit_count t))
      ≡ (if early then tables 0 else tables (edit_count t))
  own_by true before =
      let each : t.early ≡ length t.packets.packets = is.before (leb-true t.done (length t.added) before) in
      let now : nat_le number (suc t.early) ≡ true = le-leb number (suc t.early) (omega (arith, each)) in
      ap (λ (b : Bool). if b then tables 0 else tables (edit_count t)) now
  own_by false before =
      let few = is.early in
      let now : nat_le number t.early ≡ false = lt-leb number t.early (omega (arith, few)) in
      ap (λ (b : Bool). if b then tables 0 else tables (edit_count t)) now

-- what moves are to give a packet of its own description
abbrev GivesOwn : (ℕ → Network) → ℕ → List Move → Transition → Network → InFlight → Type 0
GivesOwn tables number moves t own p = given_to tables number t moves ≡ take (turns_of number moves) (rest_of own p)

module _ (tables : ℕ → Network) (number : ℕ) (more : List Move) (t : Transition) (own : Network) (p : InFlight)
    (there : packet_in t.packets.packets number ≡ Some p) where
  abbrev now : Network
  now = tables t.done

  abbrev next : Transition
  next = turned_in now number t

  abbrev n : ℕ
  n = turns_of number more

  -- its turn, in flight
  turn_going : p.ended ≡ None → p.stages < MAX_STAGES → stage_in now p ≡ stage_in own p
      → GivesOwn tables number more next own (staged own p)
      → given_by now (packet_in t.packets.packets number) ++ given_to tables number next more ≡ take (suc n) (rest_of own p)
  turn_going going left same later =
      ap (λ (o : Option InFlight). given_by now o ++ given_to tables number next more) there
      ∙ (ap (λ (e : Option Ended). given_where now p e ++ given_to tables number next more) going
      ∙ (ap (λ (s : Stage). s ∷ given_to tables number next more) same
      ∙ (ap (λ (rest : List Stage). stage_in own p ∷ rest) later
      ∙ ap (take (suc n)) (sym (rest_going own p going left)))))

  -- its turn, where it has ended
  none_left : (m : ℕ) (end : Ended) → p.ended ≡ Some end → take m (rest_of own p) ≡ []
  none_left zero end is = refl
  none_left (suc m) end is = ap (take (suc m)) (rest_ended own p end is)

  turn_ended : (end : Ended) → p.ended ≡ Some end → GivesOwn tables number more next own p
      → given_by now (packet_in t.packets.packets number) ++ given_to tables number next more ≡ take (suc n) (rest_of own p)
  turn_ended end is later =
      ap (λ (o : Option InFlight). given_by now o ++ given_to tables number next more) there
      ∙ (ap (λ (e : Option Ended). given_where now p e ++ given_to tables number next more) is
      ∙ (later ∙ (none_left n end is ∙ sym (none_left (suc n) end is))))

  -- a turn of the packet of a number
  turn_test : (other : ℕ) (b : Bool) → nat_eq other number ≡ b
      → (nat_eq other number ≡ true → given_by now (packet_in t.packets.packets number)
      ++ given_to tables number (turned_in now other t) more ≡ take (suc n) (rest_of own p))
      → (nat_eq other number ≡ false → given_to tables number (turned_in now other t) more ≡ take n (rest_of own p))
      → (if b then given_by now (packet_in t.packets.packets number) else []) ++ given_to tables number (turned_in now other t) more
      ≡ take (if b then suc n else n) (rest_of own p)
  turn_test other true is same apart = same is
  turn_test other false is same apart = apart is

-- what is so of a packet in a transition, whose own description has a route at each stage to come
pub record IsOn (tables : ℕ → Network) (number : ℕ) (t : Transition) (own : Network) (p : InFlight) : Type 0 where
  pub pass : PassOver tables t.added t.removed
  pub is : IsTransition t
  pub own_is : own_of tables t number ≡ own
  pub there : packet_in t.packets.packets number ≡ Some p
  pub counted : IsCounted p
  pub routes : All HasRoute (rest_of own p)

module _ (tables : ℕ → Network) (number : ℕ) (t : Transition) (own : Network) (p : InFlight) (on : IsOn tables number t own p) where
  abbrev by : Network
  by = tables t.done

  -- after its turn

  module _ (going : p.ended ≡ None) where
    rest : rest_of own p ≡ stage_in own p ∷ rest_of own (staged own p)
    rest = rest_going own p going (on.counted.left going)

    all_routes : All HasRoute (stage_in own p ∷ rest_of own (staged own p))
    all_routes = All-same HasRoute (stage_in own p ∷ rest_of own (staged own p)) (rest_of own p) (sym rest) on.routes

    keeps : KeepsOwn own by
    keeps = subst (λ (net : Network). KeepsOwn net by) on.own_is
        (own_kept tables t on.pass on.is number p on.there going)

    has : HasRoute (stage_in own p)
    has = All-head HasRoute (stage_in own p) (rest_of own (staged own p)) all_routes

    pub same_stage : stage_in by p ≡ stage_in own p
    same_stage = own_stage own by keeps p has

    pub on_next : IsOn tables number (turned_in by number t) own (staged own p)
    on_next = record {
      pass = on.pass;
      is = kept_turn by number t on.is;
      own_is = on.own_is;
      there = turned_staged number (within by t.packets) p on.there going
          ∙ ap (λ (q : InFlight). Some q) (own_staged own by keeps p has);
      counted = staged_counted own p going on.counted;
      routes = All-tail HasRoute (stage_in own p) (rest_of own (staged own p)) all_routes;
    }

  pub on_ended : (end : Ended) → p.ended ≡ Some end → IsOn tables number (turned_in by number t) own p
  on_ended end over = record {
    pass = on.pass;
    is = kept_turn by number t on.is;
    own_is = on.own_is;
    there = ap (λ (f : Flight). packet_in f.packets number) (turned_ended number (within by t.packets) p end on.there over) ∙ on.there;
    counted = on.counted;
    routes = on.routes;
  }

  -- after another's turn, an edit, and where a packet enters

  pub on_other : (other : ℕ) → other ≢ number → IsOn tables number (turned_in by other t) own p
  on_other other apart = record {
    pass = on.pass;
    is = kept_turn by other t on.is;
    own_is = on.own_is;
    there = turned_other other number (within by t.packets) apart ∙ on.there;
    counted = on.counted;
    routes = on.routes;
  }

  pub on_edit : IsOn tables number (edited t) own p
  on_edit = record {
    pass = on.pass;
    is = kept_edit t on.is;
    own_is = on.own_is;
    there = on.there;
    counted = on.counted;
    routes = on.routes;
  }

  pub on_enter : (old new : InFlight) → IsOn tables number (entered t old new) own p
  on_enter old new = record {
    pass = on.pass;
    is = kept_enter t old new on.is;
    own_is = own_entered tables t old new number on.is (within_by t.packets.packets p number on.there) ∙ on.own_is;
    there = packet_behind t.packets.packets ((if is_before_switch t then old else new) ∷ []) number p on.there;
    counted = on.counted;
    routes = on.routes;
  }

-- its turn, by what moves give it from any transition on
given_mine : (tables : ℕ → Network) (number : ℕ) (more : List Move) (t : Transition) (own : Network) (p : InFlight)
    → IsOn tables number t own p → (e : Option Ended) → p.ended ≡ e
    → ((u : Transition) (q : InFlight) → IsOn tables number u own q → GivesOwn tables number more u own q)
    → given_by (tables t.done) (packet_in t.packets.packets number) ++ given_to tables number (turned_in (tables t.done) number t) more
    ≡ take (suc (turns_of number more)) (rest_of own p)
given_mine tables number more t own p on None is later =
    turn_going tables number more t own p on.there is (on.counted.left is) (same_stage tables number t own p on is)
    (later (turned_in (tables t.done) number t) (staged own p) (on_next tables number t own p on is))
given_mine tables number more t own p on (Some end) is later =
    turn_ended tables number more t own p on.there end is
    (later (turned_in (tables t.done) number t) p (on_ended tables number t own p on end is))

given_own : (tables : ℕ → Network) (number : ℕ) (moves : List Move) (t : Transition) (own : Network) (p : InFlight)
    → IsOn tables number t own p → GivesOwn tables number moves t own p
given_own tables number [] t own p on = refl
given_own tables number (Enter old new ∷ more) t own p on =
    given_own tables number more (entered t old new) own p (on_enter tables number t own p on old new)
given_own tables number (Edit ∷ more) t own p on =
    given_own tables number more (edited t) own p (on_edit tables number t own p on)
given_own tables number (Turn other ∷ more) t own p on =
    turn_test tables number more t own p on.there other (nat_eq other number) refl
    (λ is. let same : other ≡ number = eqb-true other number is in
    subst (λ (m : ℕ). given_by (tables t.done) (packet_in t.packets.packets number)
    ++ given_to tables number (turned_in (tables t.done) m t) more
    ≡ take (suc (turns_of number more)) (rest_of own p)) (sym same)
    (given_mine tables number more t own p on p.ended refl (λ u q. given_own tables number more u own q)))
    (λ is. given_own tables number more (turned_in (tables t.done) other t) own p
    (on_other tables number t own p on other (eqb-false other number is)))

-- the whole walk
pub whole : (tables : ℕ → Network) (number : ℕ) (moves : List Move) (t : Transition) (p : InFlight) → PassOver tables t.added t.removed
    → IsTransition t → packet_in t.packets.packets number ≡ Some p → IsCounted p → All HasRoute (rest_of (own_of tables t number) p)
    → given_to tables number t moves ≡ take (turns_of number moves) (rest_of (own_of tables t number) p)
whole tables number moves t p pass is there counted routes =
    given_own tables number moves t (own_of tables t number) p
    (record { pass = pass; is = is; own_is = refl; there = there; counted = counted; routes = routes })
