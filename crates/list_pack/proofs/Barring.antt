-- The room after a move is what the container leaves, where its SID isn't barred from it.
use Rattle.std.proofs.Common.{◌≡◌, ℕ, Bool, true, false, ◌&&◌, not, if◌then◌else◌, Option, Some, None, refl, ap}
use Rattle.std.specs.Option.{option_map}
use Rattle.std.proofs.lemmas.Option.{none-some}
use Rattle.list_pack.specs.LegsValue.{LegsValue}
use Rattle.list_pack.specs.Rooms.{room_behind}
use Rattle.list_pack.specs.Costs.{Move, bars, room_to}

unbarred : (b : Bool) (o : Option ℕ) (q : ℕ) → (if b then None else o) ≡ Some q → (b ≡ false) × (o ≡ Some q)
unbarred true o q e = absurd (none-some q e)
unbarred false o q e = (refl, e)

-- where there is a room after a move, it is the one that the container leaves
pub room_kept : (v : LegsValue) (via : Option ℕ) (room : ℕ) (m : Move) (q : ℕ) → room_to v via room m ≡ Some q
    → room_behind m.stays (option_map v.shape via) room (v.shape m.sid) ≡ Some q
room_kept v via room m q e =
    (unbarred (m.stays && bars v via m.sid) (room_behind m.stays (option_map v.shape via) room (v.shape m.sid)) q e).1

-- nor one that may stay
pub room_stays : (v : LegsValue) (via n room : ℕ) → v.stays via n ≡ true
    → room_to v (Some via) room (record { stays = true; sid = n }) ≡ room_behind true (Some (v.shape via)) room (v.shape n)
room_stays v via n room e =
    ap (λ (b : Bool). if not b then None else room_behind true (Some (v.shape via)) room (v.shape n)) e

not_barred : (b : Bool) → not b ≡ false → b ≡ true
not_barred true e = refl
not_barred false e = absurd (cc)

-- a SID that stays may stay
pub room_free : (v : LegsValue) (via n room q : ℕ) → room_to v (Some via) room (record { stays = true; sid = n }) ≡ Some q
    → v.stays via n ≡ true
room_free v via n room q e =
    not_barred (v.stays via n) (unbarred (not (v.stays via n)) (room_behind true (Some (v.shape via)) room (v.shape n)) q e).0
