-- What is spare in front of packets is nothing to what happens.
use Rattle.std.proofs.Common.{◌≡◌, ℕ, zero, suc, ◌+◌, Bool, true, false, if◌then◌else◌, is_some, List, [], ◌∷◌, ◌++◌, length, map, take, slice_get, slice_set, Option, Some, None, Result, refl, sym, ap, ap₂, ◌∙◌, subst}
use Rattle.std.specs.Option.{option_map}
use Rattle.std.proofs.lemmas.List.{length-map, map-append, map-set, take-map}
use Rattle.std.proofs.lemmas.Option.{slice_get-map}
use Rattle.icmp6_errors.specs.Answer.{error_bytes}
use Rattle.net_model.specs.Network.{Network}
use Rattle.walk_rules.specs.declared.place.Ended.{Ended}
use Rattle.packet_walk.specs.Flight.{Flight, InFlight, Packets, packet_in, stage_in, staged, turned, turned_by, turned_where, with_front, with_packet, within}
use Rattle.update_flight.specs.declared.table_edit.Busy.{Busy}
use Rattle.update_flight.specs.declared.table_edit.Edit.{Edit}
use Rattle.update_flight.specs.Transition.{Transition, answer_of, answer_to, done_after, first_going, is_before_switch, next_edit, packets_of}
use Rattle.update_plan.specs.UpdateState.{Update, tables_now}
use Rattle.run_commands.specs.declared.enters.Entrant.{Entrant}
use Rattle.run_commands.specs.Admission.{Admission, EndsEarly, Admitted}
use Rattle.update_driver.specs.declared.seat.Seat.{Seat}
use Rattle.update_driver.specs.declared.seat.Seat.TheVariants as seats
use Rattle.update_driver.specs.Moving.{Doing, Happening, Moving, Sides, after_entering, as_in_flight, coming_by, doing, editing, entered_count, happening, side_of, stepping, happenings_of_edit, happenings_of_turn, happenings_where, turning}
use Rattle.update_driver.specs.MovingTerms.{GoAlike}

-- packets with nothing spare in front

abbrev bare_one : InFlight → InFlight
bare_one p = with_front 0 p

abbrev bare_all : Packets → Packets
bare_all all = record { error = all.error; packets = map bare_one all.packets }

abbrev bare_in : Transition → Transition
bare_in t = record t { packets = bare_all t.packets }

abbrev bare_of : Update → Update
bare_of u = record u { transition = bare_in u.transition }

abbrev pub bare : Moving → Moving
bare m = record m { update = bare_of m.update }

twice : (ps : List InFlight) → map bare_one (map bare_one ps) ≡ map bare_one ps
twice [] = refl
twice (p ∷ ps) = ap (λ (qs : List InFlight). bare_one p ∷ qs) (twice ps)

-- ---- edits

going_bare : (n : ℕ) (ps : List InFlight) → first_going n (map bare_one ps) ≡ first_going n ps
going_bare n [] = refl
going_bare n (p ∷ ps) = ap (λ (rest : Option ℕ). if is_some p.ended then rest else Some n) (going_bare (n + 1) ps)

answer_bare : (t : Transition) → answer_of (bare_in t) ≡ answer_of t
answer_bare t = ap (λ (going : Option ℕ). answer_to going (next_edit t))
    (ap (first_going 1) (take-map bare_one t.early t.packets.packets) ∙ going_bare 1 (take t.early t.packets.packets))

abbrev with_answer : Moving → Result Edit Busy → List InFlight → Moving
with_answer m answer ps = record m {
  update = record m.update {
    transition = record m.update.transition {
      done = done_after m.update.transition.done answer;
      packets = record { error = m.update.transition.packets.error; packets = ps };
    };
  };
}

editing_told : (m : Moving) → (editing (bare m)).happens ≡ (editing m).happens
editing_told m = ap (happenings_of_edit m.numbers) (answer_bare m.update.transition)

editing_after : (m : Moving) → bare (editing (bare m)).after ≡ bare (editing m).after
editing_after m =
    ap (λ (answer : Result Edit Busy). with_answer m answer (map bare_one (map bare_one m.update.transition.packets.packets)))
    (answer_bare m.update.transition)
    ∙ ap (with_answer m (answer_of m.update.transition)) (twice m.update.transition.packets.packets)

-- ---- turns

packet_in_bare : (ps : List InFlight) (k : ℕ) → packet_in (map bare_one ps) k ≡ option_map bare_one (packet_in ps k)
packet_in_bare ps zero = refl
packet_in_bare ps (suc before) = slice_get-map bare_one ps before

module _ (number : ℕ) (u : Update) where
  told_where : (p : InFlight) (e : Option Ended) → happenings_where number (bare_of u) (bare_one p) e ≡ happenings_where number u p e
  told_where p None = refl
  told_where p (Some end) = refl

  told_option : (o : Option InFlight) → happenings_of_turn number (bare_of u) (option_map bare_one o) ≡ happenings_of_turn number u o
  told_option None = refl
  told_option (Some p) = told_where p p.ended

  told_bare : (k : ℕ) → happenings_of_turn number (bare_of u) (packet_in (map bare_one u.transition.packets.packets) k)
      ≡ happenings_of_turn number u (packet_in u.transition.packets.packets k)
  told_bare k = ap (happenings_of_turn number (bare_of u)) (packet_in_bare u.transition.packets.packets k)
      ∙ told_option (packet_in u.transition.packets.packets k)

set_bare : (k : ℕ) (ps : List InFlight) (x y : InFlight) → bare_one x ≡ bare_one y
    → map bare_one (with_packet (map bare_one ps) k x) ≡ map bare_one (with_packet ps k y)
set_bare zero ps x y same = twice ps
set_bare (suc before) ps x y same =
    map-set bare_one (map bare_one ps) before x
    ∙ (ap₂ (λ (qs : List InFlight) (q : InFlight). slice_set qs before q) (twice ps) same
    ∙ sym (map-set bare_one ps before y))

module _ (net : Network) (k : ℕ) (all : Packets) where
  abbrev bared : Flight → Packets
  bared f = bare_all (packets_of f)

  turned_where_law : (p : InFlight) (e : Option Ended)
      → bared (turned_where k (within net (bare_all all)) (bare_one p) e) ≡ bared (turned_where k (within net all) p e)
  turned_where_law p None = ap (λ (ps : List InFlight). record { error = error_bytes (stage_in net p).gave.error; packets = ps })
      (set_bare k all.packets (staged net (bare_one p)) (staged net p) refl)
  turned_where_law p (Some end) = ap (λ (ps : List InFlight). record { error = all.error; packets = ps }) (twice all.packets)

  turned_option : (o : Option InFlight)
      → bared (turned_by k (within net (bare_all all)) (option_map bare_one o)) ≡ bared (turned_by k (within net all) o)
  turned_option None = ap (λ (ps : List InFlight). record { error = all.error; packets = ps }) (twice all.packets)
  turned_option (Some p) = turned_where_law p p.ended

  turned_bare : bared (turned k (within net (bare_all all))) ≡ bared (turned k (within net all))
  turned_bare = ap (λ (o : Option InFlight). bared (turned_by k (within net (bare_all all)) o)) (packet_in_bare all.packets k)
      ∙ turned_option (packet_in all.packets k)

abbrev with_packets : Moving → Packets → Moving
with_packets m all = record m { update = record m.update { transition = record m.update.transition { packets = all } } }

turning_told : (number k : ℕ) (m : Moving) → (turning number k (bare m)).happens ≡ (turning number k m).happens
turning_told number k m = told_bare number m.update k

turning_after : (number k : ℕ) (m : Moving) → bare (turning number k (bare m)).after ≡ bare (turning number k m).after
turning_after number k m = ap (with_packets m) (turned_bare (tables_now m.update) k m.update.transition.packets)

-- ---- moments that are alike but for what is spare

-- what a doing tells, and what it leaves but for what is spare
pub record DoAlike (one other : Doing) : Type 0 where
  pub told : one.happens ≡ other.happens
  pub left : bare one.after ≡ bare other.after

turning_alike : (number k : ℕ) (a b : Moving) → bare a ≡ bare b → DoAlike (turning number k a) (turning number k b)
turning_alike number k a b same = record {
  told = sym (turning_told number k a) ∙ (ap (λ (m : Moving). (turning number k m).happens) same ∙ turning_told number k b);
  left = sym (turning_after number k a) ∙ (ap (λ (m : Moving). bare (turning number k m).after) same ∙ turning_after number k b);
}

-- one that enters is behind the others
behind_bare : (ps qs : List InFlight) (x y : InFlight) → map bare_one ps ≡ map bare_one qs → bare_one x ≡ bare_one y
    → map bare_one (ps ++ x ∷ []) ≡ map bare_one (qs ++ y ∷ [])
behind_bare ps qs x y same one = map-append bare_one ps (x ∷ [])
    ∙ (ap₂ (λ (front : List InFlight) (p : InFlight). front ++ p ∷ []) same one ∙ sym (map-append bare_one qs (y ∷ [])))

either_bare : (c : Bool) (x y : InFlight) → bare_one x ≡ bare_one y → bare_one (if c then x else x) ≡ bare_one (if c then y else y)
either_bare true x y same = same
either_bare false x y same = same

abbrev with_entered : Moving → ℕ → ℕ → List InFlight → Moving
with_entered m at count ps = record {
  update = record m.update {
    transition = record m.update.transition {
      early = if is_before_switch m.update.transition then suc m.update.transition.early else m.update.transition.early;
      packets = record { error = m.update.transition.packets.error; packets = ps };
    };
  };
  seats = slice_set m.seats at (seats.Entered (count + 1));
  numbers = m.numbers ++ suc at ∷ [];
}

module _ (m : Moving) (at : ℕ) where
  abbrev those : List InFlight
  those = m.update.transition.packets.packets

  abbrev before : Bool
  before = is_before_switch m.update.transition

  pub entering_spare : (x y : InFlight) → bare_one x ≡ bare_one y → bare (after_entering at x m) ≡ bare (after_entering at y m)
  entering_spare x y same = ap (with_entered m at (length those))
      (behind_bare those those (if before then x else x) (if before then y else y) refl (either_bare before x y same))

  entering_bare : (x : InFlight) → bare (after_entering at x (bare m)) ≡ bare (after_entering at x m)
  entering_bare x =
      ap₂ (with_entered m at) (length-map those bare_one)
      (behind_bare (map bare_one those) those (if before then x else x) (if before then x else x) (twice those) refl)

bare_bare : (m : Moving) → bare (bare m) ≡ bare m
bare_bare m = ap (λ (ps : List InFlight). with_packets m (record { error = m.update.transition.packets.error; packets = ps }))
    (twice m.update.transition.packets.packets)

module _ (sides : Sides) where
  coming_bare : (at : ℕ) (m : Moving) (e : Admission) → DoAlike (coming_by at (bare m) e) (coming_by at m e)
  coming_bare at m (EndsEarly stays) = record {
    told = refl;
    left = bare_bare (record m { seats = slice_set m.seats at seats.Gone });
  }
  coming_bare at m (Admitted comes) =
      let count : entered_count (bare m) ≡ entered_count m = length-map m.update.transition.packets.packets bare_one in
      subst (λ (k : ℕ). DoAlike (turning (suc at) (k + 1) (after_entering at (as_in_flight comes) (bare m)))
      (turning (suc at) (entered_count m + 1) (after_entering at (as_in_flight comes) m))) (sym count)
      (turning_alike (suc at) (entered_count m + 1) (after_entering at (as_in_flight comes) (bare m))
      (after_entering at (as_in_flight comes) m)
      (entering_bare m at (as_in_flight comes)))

  stepping_bare : (at : ℕ) (m : Moving) (o : Option Seat) → DoAlike (stepping sides at (bare m) o) (stepping sides at m o)
  stepping_bare at m None = record { told = refl; left = bare_bare m }
  stepping_bare at m (Some (seats.ToCome body)) = coming_bare at m (side_of sides m.update body)
  stepping_bare at m (Some (seats.Entered packet)) =
      record { told = turning_told (suc at) packet m; left = turning_after (suc at) packet m }
  stepping_bare at m (Some seats.Gone) = record { told = refl; left = bare_bare m }

  doing_bare : (event : ℕ) (m : Moving) → DoAlike (doing sides event (bare m)) (doing sides event m)
  doing_bare zero m = record { told = editing_told m; left = editing_after m }
  doing_bare (suc at) m = stepping_bare at m (slice_get m.seats at)

  pub happening_bare : (events : List ℕ) (m : Moving) → happening sides (bare m) events ≡ happening sides m events
  happening_bare [] m = refl
  happening_bare (event ∷ events) m =
      let one = doing_bare event m in
      let a : Moving = (doing sides event (bare m)).after in
      let b : Moving = (doing sides event m).after in
      ap₂ (λ (first rest : List Happening). first ++ rest) one.told
      (sym (happening_bare events a) ∙ (ap (λ (k : Moving). happening sides k events) one.left ∙ happening_bare events b))

  -- moments that are alike go on alike
  pub alike_on : (a b : Moving) → bare a ≡ bare b → GoAlike sides a b
  alike_on a b same events =
      sym (happening_bare events a) ∙ (ap (λ (k : Moving). happening sides k events) same ∙ happening_bare events b)

  -- a packet enters, whatever is spare in front of it, and takes its first stage
  pub entered_on : (at front : ℕ) (comes : Entrant) (m new : Moving) → new ≡ after_entering at (with_front front (as_in_flight comes)) m
      → DoAlike (turning (suc at) (entered_count m + 1) new) (coming_by at m (Admitted comes))
  entered_on at front comes m new is =
      turning_alike (suc at) (entered_count m + 1) new (after_entering at (as_in_flight comes) m)
      (ap bare is ∙ entering_spare m at (with_front front (as_in_flight comes)) (as_in_flight comes) refl)
