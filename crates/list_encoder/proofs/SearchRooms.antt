-- After an edge there is less room than in front of it, or a container was opened; and never more than seven.
use Rattle.std.proofs.Common.{◌≡◌, ℕ, zero, suc, ◌+◌, ◌-◌, ◌*◌, ◌/◌, ◌<◌, ◌≤◌, Bool, true, false, ◌&&◌, Option, Some, None, refl, ◌∙◌, ap, subst, arith, nat_le}
use Rattle.std.specs.Option.{option_map}
use Rattle.std.proofs.lemmas.Bool.{and_parts, leb-true}
use Rattle.std.proofs.lemmas.Option.{cond_some, none-some}
use Rattle.std.proofs.lemmas.Grind.{common_steps}
use Rattle.srv6_rules.specs.declared.sid.Csid.{Csid}
use Rattle.srv6_rules.specs.declared.sid.Csid.TheVariants.{Plain, Next, Replace}
use Rattle.list_pack.specs.declared.types.Shape.{Shape}
use Rattle.list_pack.specs.LegsValue.{LegsValue, units_of, same_block}
use Rattle.list_pack.specs.LegsValueTerms.{is_compressed, IsShape, IsInBlock}
use Rattle.list_pack.specs.Rooms.{full_room_by, packed_room_by, kept_room, stay_room_by, new_room_by, room_behind, packed_room, full_room, top_room_by}
use Rattle.list_pack.specs.Costs.{Move, room_to}
use Rattle.list_pack.proofs.PublicLaws.{both_blocks, room_kept}

next_few : (lbl len units : ℕ) → len ≡ lbl + 16 * units → 1 ≤ units → (128 - len) / 16 ≤ 7
next_few lbl len units e h = omega arith

csids_few : (lbl len units : ℕ) → len ≡ lbl + 16 * units → 1 ≤ units → 128 / (len - lbl) - 1 ≤ 7
csids_few lbl len units e h = grind (arith, common_steps)

in_block_law : (c : Csid) (s : Shape) → IsShape s → s.csid ≡ c → is_compressed c ≡ true → IsInBlock s
in_block_law c s is e h = is.in_block (is.compressed (ap is_compressed e ∙ h))

full_few : (c : Csid) (s : Shape) → IsShape s → s.csid ≡ c → full_room_by c s ≤ 7
full_few Plain s is e = omega arith
full_few Next s is e =
    let block = in_block_law Next s is e refl in
    next_few s.lbl s.prefix.len (units_of s) block.length block.longer
full_few Replace s is e = omega arith

packed_few : (c : Csid) (s : Shape) → IsShape s → s.csid ≡ c → packed_room_by c s ≤ 7
packed_few Plain s is e = omega arith
packed_few Next s is e = omega arith
packed_few Replace s is e =
    let block = in_block_law Replace s is e refl in
    csids_few s.lbl s.prefix.len (units_of s) block.length block.longer

kept_less : (c : Csid) (left room : ℕ) → left < room → kept_room c left < room
kept_less Plain left room h = omega arith
kept_less Next left room h = h
kept_less Replace left room h = h

stays_less : (s next : Shape) (room q : ℕ) → IsShape next → (c : Csid) → stay_room_by c s room next ≡ Some q → q < room
stays_less s next room q is_n Plain r = absurd (none-some q r)
stays_less s next room q is_n Next r =
    let both = cond_some (same_block s.block next.block && nat_le (units_of next) room) (kept_room next.csid (room - units_of next)) q r in
    let parts = and_parts (same_block s.block next.block) (nat_le (units_of next) room) both.0 in
    let units : units_of next ≤ room = leb-true (units_of next) room parts.1 in
    let longer : 1 ≤ units_of next = (is_n.in_block (both_blocks s.block next.block parts.0).1).longer in
    let less : room - units_of next < room = omega (arith, units, longer) in
    subst (λ (x : ℕ). x < room) both.1 (kept_less next.csid (room - units_of next) room less)
stays_less s next room q is_n Replace r =
    let both = cond_some (same_block s.block next.block && nat_le 1 room) (kept_room next.csid (room - 1)) q r in
    let parts = and_parts (same_block s.block next.block) (nat_le 1 room) both.0 in
    let one : 1 ≤ room = leb-true 1 room parts.1 in
    let less : room - 1 < room = omega (arith, one) in
    subst (λ (x : ℕ). x < room) both.1 (kept_less next.csid (room - 1) room less)

some_few : (next : Shape) (q : ℕ) → IsShape next → Some (full_room next) ≡ Some q → q ≤ 7
some_few next q is_n r =
    let e : full_room next ≡ q = cc in
    subst (λ (x : ℕ). x ≤ 7) e (full_few next.csid next is_n refl)

opens_few : (s next : Shape) (room q : ℕ) → IsShape next → (c : Csid) → new_room_by c s room next ≡ Some q → q ≤ 7
opens_few s next room q is_n Plain r = some_few next q is_n r
opens_few s next room q is_n Next r = some_few next q is_n r
opens_few s next zero q is_n Replace r =
    let both = cond_some (same_block s.block next.block) (packed_room next) q r in
    subst (λ (x : ℕ). x ≤ 7) both.1 (packed_few next.csid next is_n refl)
opens_few s next (suc room) q is_n Replace r = some_few next q is_n r

stayed_less : (from : Option Shape) (next : Shape) (room q : ℕ) → IsShape next → room_behind true from room next ≡ Some q → q < room
stayed_less None next room q is_n r = absurd (none-some q r)
stayed_less (Some s) next room q is_n r = stays_less s next room q is_n s.csid r

opened_few : (from : Option Shape) (next : Shape) (room q : ℕ) → IsShape next → room_behind false from room next ≡ Some q → q ≤ 7
opened_few None next room q is_n r = some_few next q is_n r
opened_few (Some s) next room q is_n r = opens_few s next room q is_n s.csid r

left_few : (stays : Bool) (from : Option Shape) (next : Shape) (room q : ℕ) → IsShape next → room < 8
    → room_behind stays from room next ≡ Some q
    → q < 8
left_few true from next room q is_n h r = let less = stayed_less from next room q is_n r in omega arith
left_few false from next room q is_n h r = let few = opened_few from next room q is_n r in omega arith

-- the same of moves
pub stay_less : (v : LegsValue) (via : Option ℕ) (room sid q : ℕ) → IsShape (v.shape sid)
    → room_to v via room (record { stays = true; sid = sid }) ≡ Some q → q < room
stay_less v via room sid q is_n r =
    stayed_less (option_map v.shape via) (v.shape sid) room q is_n (room_kept v via room (record { stays = true; sid = sid }) q r)

pub open_few : (v : LegsValue) (via : Option ℕ) (room sid q : ℕ) → IsShape (v.shape sid)
    → room_to v via room (record { stays = false; sid = sid }) ≡ Some q → q ≤ 7
open_few v via room sid q is_n r = opened_few (option_map v.shape via) (v.shape sid) room q is_n r

pub behind_few : (v : LegsValue) (via : Option ℕ) (room : ℕ) (m : Move) (q : ℕ) → IsShape (v.shape m.sid) → room < 8
    → room_to v via room m ≡ Some q
    → q < 8
behind_few v via room m q is_n h r =
    left_few m.stays (option_map v.shape via) (v.shape m.sid) room q is_n h (room_kept v via room m q r)

-- no SID leaves more than seven
pub top_seven : (s : Shape) → IsShape s → (c : Csid) → s.csid ≡ c → top_room_by c s ≤ 7
top_seven s is Plain e = omega arith
top_seven s is Next e = full_few Next s is e
top_seven s is Replace e = packed_few Replace s is e
