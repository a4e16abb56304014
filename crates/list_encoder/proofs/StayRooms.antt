-- Where a SID can't stay in a container with the most room that there may be, it can't with less.
use Rattle.std.proofs.Common.{◌≡◌, ℕ, ◌-◌, ◌<◌, Bool, true, false, ◌&&◌, if◌then◌else◌, Option, Some, None, refl, sym, ◌∙◌, ap, arith}
use Rattle.std.specs.Prelude.{is_some, not, nat_le}
use Rattle.std.specs.Option.{option_map}
use Rattle.std.proofs.lemmas.Bool.{true≢false, false≢true, leb-true, le-leb}
use Rattle.std.proofs.lemmas.Option.{none-some}
use Rattle.srv6_rules.specs.declared.sid.Csid.{Csid}
use Rattle.srv6_rules.specs.declared.sid.Csid.TheVariants.{Plain, Next, Replace}
use Rattle.list_pack.specs.declared.types.Shape.{Shape}
use Rattle.list_pack.specs.LegsValue.{LegsValue, units_of, same_block}
use Rattle.list_pack.specs.Rooms.{room_behind, stay_room_by, kept_room}
use Rattle.list_pack.specs.Costs.{room_to, bars}

fits_by : (most less : Bool) (x y left : ℕ) → (less ≡ true → most ≡ true) → (if most then Some x else None) ≡ None
    → (if less then Some y else None) ≡ Some left → ⊥
fits_by true less x y left more none some = none-some x (sym none)
fits_by false true x y left more none some = false≢true (more refl)
fits_by false false x y left more none some = none-some left some

fits_less : (same : Bool) (taken room x y left : ℕ) → room < 8 → (if same && nat_le taken 7 then Some x else None) ≡ None
    → (if same && nat_le taken room then Some y else None) ≡ Some left → ⊥
fits_less false taken room x y left few none some = none-some left some
fits_less true taken room x y left few none some =
    fits_by (nat_le taken 7) (nat_le taken room) x y left
    (λ fits. le-leb taken 7 (let h = leb-true taken room fits in omega (arith, h, few))) none some

stays_by : (c : Csid) (s : Shape) (room left : ℕ) (next : Shape) → room < 8 → stay_room_by c s 7 next ≡ None
    → stay_room_by c s room next ≡ Some left → ⊥
stays_by Plain s room left next few none some = none-some left some
stays_by Next s room left next few none some =
    fits_less (same_block s.block next.block) (units_of next) room (kept_room next.csid (7 - units_of next))
    (kept_room next.csid (room - units_of next)) left few none some
stays_by Replace s room left next few none some =
    fits_less (same_block s.block next.block) 1 room (kept_room next.csid (7 - 1)) (kept_room next.csid (room - 1)) left few none some

pub stays_less : (from : Option Shape) (room left : ℕ) (next : Shape) → room < 8 → room_behind true from 7 next ≡ None
    → room_behind true from room next ≡ Some left → ⊥
stays_less None room left next few none some = none-some left some
stays_less (Some s) room left next few none some = stays_by s.csid s room left next few none some

pub no_room : (o : Option ℕ) (told : Bool) → is_some o ≡ not told → told ≡ true → o ≡ None
no_room None told e is = refl
no_room (Some x) told e is = absurd (true≢false (e ∙ ap not is))

open_by : (barred : Bool) (o : Option ℕ) (left : ℕ) → (if barred then None else o) ≡ Some left → o ≡ Some left
open_by true o left e = absurd (none-some left e)
open_by false o left e = e

-- the room after a move is that after its SID, which isn't barred then
pub room_left : (v : LegsValue) (stays : Bool) (via : Option ℕ) (sid room left : ℕ) (from : Option Shape) (next : Shape)
    → from ≡ option_map v.shape via → next ≡ v.shape sid → room_to v via room (record { stays = stays; sid = sid }) ≡ Some left
    → room_behind stays from room next ≡ Some left
room_left v stays via sid room left from next is_from is_next e =
    ap (λ (s : Option Shape). room_behind stays s room next) is_from
    ∙ ap (λ (s : Shape). room_behind stays (option_map v.shape via) room s) is_next
    ∙ open_by (stays && bars v via sid) (room_behind stays (option_map v.shape via) room (v.shape sid)) left e
