-- The room after a SID is at most the most that there may be after it.
use Rattle.std.proofs.Common.{◌≡◌, ℕ, zero, suc, ◌+◌, ◌-◌, ◌*◌, ◌/◌, ◌≤◌, Bool, true, false, ◌&&◌, Option, Some, None, refl, sym, ◌∙◌, ap, subst, arith, nat_le}
use Rattle.std.specs.Prelude.{is_some}
use Rattle.std.proofs.lemmas.Bool.{false≢true, and_parts, leb-true}
use Rattle.std.proofs.lemmas.Option.{cond_some, none-some}
use Rattle.srv6_rules.specs.declared.sid.Csid.{Csid}
use Rattle.srv6_rules.specs.declared.sid.Csid.TheVariants.{Plain, Next, Replace}
use Rattle.list_pack.specs.declared.types.Shape.{Shape}
use Rattle.list_pack.specs.LegsValue.{units_of, same_block}
use Rattle.list_pack.specs.LegsValueTerms.{is_compressed, IsShape, ShareBlock}
use Rattle.list_pack.specs.Rooms.{csids_of, full_room_by, packed_room_by, kept_room, stay_room_by, new_room_by, room_behind, top_room, top_room_by, packed_room, full_room}

-- in one block both lie in it
pub both_blocks : (a b : Option ℕ) → same_block a b ≡ true → (is_some a ≡ true) × (is_some b ≡ true)
both_blocks None b h = absurd (false≢true h)
both_blocks (Some a) None h = absurd (false≢true h)
both_blocks (Some a) (Some b) h = (refl, refl)

-- the first of a container has the most room, or none
pub full_top : (c : Csid) (s : Shape) → full_room_by c s ≤ top_room_by c s
full_top Plain s = omega arith
full_top Next s = omega arith
full_top Replace s = omega arith

pub packed_top : (c : Csid) (s : Shape) → packed_room_by c s ≤ top_room_by c s
packed_top Plain s = omega arith
packed_top Next s = omega arith
packed_top Replace s = omega arith

-- 16-bit units after a NEXT SID
next_fits : (lbl a b la lb room : ℕ) → la ≡ lbl + 16 * a → lb ≡ lbl + 16 * b → 1 ≤ a → room ≤ (128 - la) / 16 → b ≤ room
    → room - b ≤ (128 - lb) / 16
next_fits lbl a b la lb room e f one h k = omega arith

stay_next : (s next : Shape) (room : ℕ) → IsShape s → IsShape next → (same_block s.block next.block ≡ true → ShareBlock s next)
    → s.csid ≡ Next
    → room ≤ top_room_by Next s → same_block s.block next.block ≡ true → units_of next ≤ room → (c : Csid) → next.csid ≡ c
    → kept_room c (room - units_of next) ≤ top_room_by c next
stay_next s next room is_s is_n share e h b u Plain k = omega arith
stay_next s next room is_s is_n share e h b u Next k =
    let blocks = both_blocks s.block next.block b in
    let in_s = is_s.in_block blocks.0 in
    let in_n = is_n.in_block blocks.1 in
    next_fits s.lbl (units_of s) (units_of next) s.prefix.len next.prefix.len room in_s.length
    (in_n.length ∙ ap (λ (l : ℕ). l + 16 * units_of next) (sym (share b).lbl)) in_s.longer h u
stay_next s next room is_s is_n share e h b u Replace k =
    let one : is_compressed s.csid ≡ true = ap is_compressed e in
    let two : is_compressed next.csid ≡ true = ap is_compressed k in
    let same = (share b).csid one two in
    absurd (cc)

stay_replace : (s next : Shape) (room : ℕ) → (same_block s.block next.block ≡ true → ShareBlock s next) → s.csid ≡ Replace
    → room ≤ top_room_by Replace s → same_block s.block next.block ≡ true → 1 ≤ room → (c : Csid) → next.csid ≡ c
    → kept_room c (room - 1) ≤ top_room_by c next
stay_replace s next room share e h b u Plain k = omega arith
stay_replace s next room share e h b u Next k =
    let one : is_compressed s.csid ≡ true = ap is_compressed e in
    let two : is_compressed next.csid ≡ true = ap is_compressed k in
    let same = (share b).csid one two in
    absurd (cc)
stay_replace s next room share e h b u Replace k =
    let len : s.prefix.len ≡ next.prefix.len = (share b).length e k in
    let lbl : s.lbl ≡ next.lbl = (share b).lbl in
    let same : csids_of s ≡ csids_of next = ap (λ (l : ℕ). 128 / (l - s.lbl)) len ∙ ap (λ (l : ℕ). 128 / (next.prefix.len - l)) lbl in
    omega arith

stays_top : (s next : Shape) (room q : ℕ) → IsShape s → IsShape next → (same_block s.block next.block ≡ true → ShareBlock s next)
    → (c : Csid) → s.csid ≡ c → room ≤ top_room_by c s → stay_room_by c s room next ≡ Some q → q ≤ top_room next
stays_top s next room q is_s is_n share Plain e h r = absurd (none-some q r)
stays_top s next room q is_s is_n share Next e h r =
    let both = cond_some (same_block s.block next.block && nat_le (units_of next) room) (kept_room next.csid (room - units_of next)) q r in
    let parts = and_parts (same_block s.block next.block) (nat_le (units_of next) room) both.0 in
    subst (λ (x : ℕ). x ≤ top_room next) both.1
    (stay_next s next room is_s is_n share e h parts.0 (leb-true (units_of next) room parts.1) next.csid refl)
stays_top s next room q is_s is_n share Replace e h r =
    let both = cond_some (same_block s.block next.block && nat_le 1 room) (kept_room next.csid (room - 1)) q r in
    let parts = and_parts (same_block s.block next.block) (nat_le 1 room) both.0 in
    subst (λ (x : ℕ). x ≤ top_room next) both.1
    (stay_replace s next room share e h parts.0 (leb-true 1 room parts.1) next.csid refl)

some_full : (next : Shape) (q : ℕ) → Some (full_room next) ≡ Some q → q ≤ top_room next
some_full next q r =
    let e : full_room next ≡ q = cc in
    subst (λ (x : ℕ). x ≤ top_room next) e (full_top next.csid next)

opens_top : (s next : Shape) (room q : ℕ) → (c : Csid) → new_room_by c s room next ≡ Some q → q ≤ top_room next
opens_top s next room q Plain r = some_full next q r
opens_top s next room q Next r = some_full next q r
opens_top s next zero q Replace r =
    let both = cond_some (same_block s.block next.block) (packed_room next) q r in
    subst (λ (x : ℕ). x ≤ top_room next) both.1 (packed_top next.csid next)
opens_top s next (suc room) q Replace r = some_full next q r

-- after a next SID there is at most the most room that there may be after it
pub behind_top : (stays : Bool) (s next : Shape) (room q : ℕ) → IsShape s → IsShape next
    → (same_block s.block next.block ≡ true → ShareBlock s next)
    → room ≤ top_room s → room_behind stays (Some s) room next ≡ Some q → q ≤ top_room next
behind_top true s next room q is_s is_n share h r = stays_top s next room q is_s is_n share s.csid refl h r
behind_top false s next room q is_s is_n share h r = opens_top s next room q s.csid r

pub begin_top : (stays : Bool) (next : Shape) (room q : ℕ) → room_behind stays None room next ≡ Some q → q ≤ top_room next
begin_top true next room q r = absurd (none-some q r)
begin_top false next room q r = some_full next q r
