-- Each packet of an update takes the walk of one description.
use Rattle.std.proofs.Common.{◌≡◌, ℕ, suc, ◌+◌, Bool, true, false, if◌then◌else◌, List, [], ◌∷◌, ◌++◌, length, take, All, Some, slice_get, Ok, refl, sym, ap, ap₂, ◌∙◌, subst}
use Rattle.net_model.specs.declared.net.EntryId.{EntryId}
use Rattle.net_model.specs.Network.{Network}
use Rattle.net_model.specs.NetworkRulesTerms.{IsNetwork}
use Rattle.packet_walk.specs.Flight.{InFlight}
use Rattle.packet_walk.specs.FlightTerms.{IsCounted}
use Rattle.packet_walk.specs.Rest.{rest_of}
use Rattle.update_spec.specs.Changes.{added_entries, removed_entries}
use Rattle.update_spec.specs.Planning.{planning}
use Rattle.update_flight.specs.Interleaving.{Move, Enter, Turn, Edit, PassOver, given_to, moved_all, own_of, turns_of}
use Rattle.update_flight.specs.MomentTables.{HasRoute}
use Rattle.update_flight.specs.Transition.{Transition, edited, edits, entered, is_before_switch, turned_in}
use Rattle.update_flight.specs.TransitionTerms.{IsTransition}
use Rattle.update_flight.proofs.PublicLaws.{kept_enter, kept_move, kept_start, own_entry, whole}
use Rattle.update_plan.specs.UpdateState.{plan_of, starting_by}
use Rattle.update_plan.specs.UpdateStateTerms.{tables_between}
use Rattle.update_plan.proofs.UpdateBetween.{between_pass}

-- moves keep what is so of a transition, and its edits

all_kept : (tables : ℕ → Network) (moves : List Move) (t : Transition) → IsTransition t → IsTransition (moved_all tables t moves)
all_kept tables [] t is = is
all_kept tables (Enter old new ∷ more) t is = all_kept tables more (entered t old new) (kept_move tables t (Enter old new) is)
all_kept tables (Turn number ∷ more) t is = all_kept tables more (turned_in (tables t.done) number t) (kept_move tables t (Turn number) is)
all_kept tables (Edit ∷ more) t is = all_kept tables more (edited t) (kept_move tables t Edit is)

added_kept : (tables : ℕ → Network) (moves : List Move) (t : Transition) → (moved_all tables t moves).added ≡ t.added
added_kept tables [] t = refl
added_kept tables (Enter old new ∷ more) t = added_kept tables more (entered t old new)
added_kept tables (Turn number ∷ more) t = added_kept tables more (turned_in (tables t.done) number t)
added_kept tables (Edit ∷ more) t = added_kept tables more (edited t)

removed_kept : (tables : ℕ → Network) (moves : List Move) (t : Transition) → (moved_all tables t moves).removed ≡ t.removed
removed_kept tables [] t = refl
removed_kept tables (Enter old new ∷ more) t = removed_kept tables more (entered t old new)
removed_kept tables (Turn number ∷ more) t = removed_kept tables more (turned_in (tables t.done) number t)
removed_kept tables (Edit ∷ more) t = removed_kept tables more (edited t)

behind_all : {X : Type 0} (xs : List X) (y : X) → slice_get (xs ++ y ∷ []) (length xs) ≡ Some y
behind_all [] y = refl
behind_all (x ∷ xs) y = behind_all xs y

chosen : (P : InFlight → Type 0) (b : Bool) (before after : InFlight) → P before → P after → P (if b then before else after)
chosen P true before after one other = one
chosen P false before after one other = other

module _ (old new : Network) (moves more : List Move) (before after : InFlight) where
  abbrev tables : ℕ → Network
  tables = tables_between old new

  abbrev moved : Transition
  moved = moved_all tables (starting_by (plan_of old new)).transition moves

  abbrev packet : InFlight
  packet = if is_before_switch moved then before else after

  abbrev number : ℕ
  number = suc (length moved.packets.packets)

  abbrev own : Network
  own = if is_before_switch moved then tables 0 else tables (length (edits (added_entries old new) (removed_entries old new)))

  own_is : IsTransition moved → own_of tables (entered moved before after) number ≡ own
  own_is is =
      own_entry tables moved before after is
      ∙ ap₂ (λ (l m : List EntryId). if is_before_switch moved then tables 0 else tables (length (edits l m)))
      (added_kept tables moves (starting_by (plan_of old new)).transition)
      (removed_kept tables moves (starting_by (plan_of old new)).transition)

  pub one_walk : IsNetwork old → planning old new ≡ Ok tt → IsCounted before → IsCounted after → All HasRoute (rest_of own packet)
      → given_to tables number (entered moved before after) more ≡ take (turns_of number more) (rest_of own packet)
  one_walk rules accepted one other routes =
      let start = kept_start (added_entries old new) (removed_entries old new) in
      let is : IsTransition moved = all_kept tables moves (starting_by (plan_of old new)).transition start in
      let same = own_is is in
      let pass : PassOver tables moved.added moved.removed =
      subst (λ (l : List EntryId). PassOver tables l moved.removed)
      (sym (added_kept tables moves (starting_by (plan_of old new)).transition))
      (subst (λ (l : List EntryId). PassOver tables (added_entries old new) l)
      (sym (removed_kept tables moves (starting_by (plan_of old new)).transition)) (between_pass old new rules accepted)) in
      whole tables number more (entered moved before after) packet pass (kept_enter moved before after is)
      (behind_all moved.packets.packets packet) (chosen IsCounted (is_before_switch moved) before after one other)
      (subst (λ (n : Network). All HasRoute (rest_of n packet)) (sym same) routes)
      ∙ ap (λ (n : Network). take (turns_of number more) (rest_of n packet)) same
