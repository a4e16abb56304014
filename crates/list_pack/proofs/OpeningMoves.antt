-- A SID that opens a container, in a path and in a legal list; and which step a legal list allows a path to make.
use Rattle.std.proofs.Common.{◌≡◌, ℕ, zero, suc, ◌+◌, ◌-◌, ◌*◌, ◌/◌, ◌≤◌, Bool, true, false, ◌&&◌, ◌==◌, if◌then◌else◌, Option, Some, None, refl, sym, ◌∙◌, ap, subst, arith, nat_le}
use Rattle.std.specs.Prelude.{is_some}
use Rattle.std.proofs.lemmas.Bool.{and_from, le-leb, eq-eqb, ne_eqb}
use Rattle.std.proofs.lemmas.Option.{cond_some}
use Rattle.srv6_rules.specs.declared.sid.Csid.{Csid}
use Rattle.srv6_rules.specs.declared.sid.Csid.TheVariants.{Plain, Next, Replace}
use Rattle.srv6_rules.specs.CompressedSteps.{is_replace}
use Rattle.sid_list_spec.specs.SegmentLists.{SidBlock, ListSid, csid_len, csid_len_in, asked_behind}
use Rattle.list_pack.specs.declared.types.Shape.{Shape}
use Rattle.list_pack.specs.LegsValue.{units_of, same_block}
use Rattle.list_pack.specs.LegsValueTerms.{is_compressed}
use Rattle.list_pack.specs.Rooms.{full_room, full_room_by, packed_room, packed_room_by, kept_room, stay_room, stay_room_by, pack_room, new_room, new_room_by}
use Rattle.list_pack.proofs.Rooming.{both_blocks}
use Rattle.list_pack.specs.OpenContainers.{first_taken, limit, asked_at, StaysIn, Opens}
use Rattle.list_pack.proofs.StepContainers.{room_in, Stands, Pair, bits_of, fit_units, in_some, not_next, room_as}

-- ---- what is asked for

asked_by : (s : ListSid) (c : Csid) → s.csid ≡ c → asked_behind s ≡ (if is_replace c then s.block else None)
asked_by s c e = ap (λ (x : Csid). if is_replace x then s.block else None) e

none_either : (b : Bool) (o : Option SidBlock) → o ≡ None → (if b then o else None) ≡ None
none_either true o e = e
none_either false o e = refl

asked_none : (k : Option SidBlock) (u : ℕ) (s : ListSid) → asked_behind s ≡ None → asked_at k u s ≡ None
asked_none None u s e = e
asked_none (Some b) u s e =
    none_either (u == limit (Some b)) (asked_behind s) e

pub asked_plain : (k : Option SidBlock) (u : ℕ) (s : ListSid) → s.csid ≡ Plain → asked_at k u s ≡ None
asked_plain k u s e = asked_none k u s (asked_by s Plain e)

pub asked_next : (k : Option SidBlock) (u : ℕ) (s : ListSid) → s.csid ≡ Next → asked_at k u s ≡ None
asked_next k u s e = asked_none k u s (asked_by s Next e)

-- after a REPLACE SID: its block where no room is left, else nothing
pub asked_end_law : (k : Option SidBlock) (u room : ℕ) (s : ListSid) → s.csid ≡ Replace → Stands k u room s → room ≡ 0
    → asked_at k u s ≡ s.block
asked_end_law None u room s e at z = asked_by s Replace e
asked_end_law (Some b) u room s e at z =
    let left : room ≡ limit (Some b) - u = room_as (Some b) s u room Replace at e in
    let within : u ≤ limit (Some b) = at.within in
    let full : u ≡ limit (Some b) = omega (arith, left, within, z) in
    ap (λ (t : Bool). if t then asked_behind s else None) (eq-eqb u (limit (Some b)) full) ∙ asked_by s Replace e

pub asked_left : (k : Option SidBlock) (u room : ℕ) (s : ListSid) → s.csid ≡ Replace → Stands k u (suc room) s → asked_at k u s ≡ None
asked_left None u room s e at =
    let left : suc room ≡ 0 = room_as None s u (suc room) Replace at e in
    absurd (omega (arith, left))
asked_left (Some b) u room s e at =
    let left : suc room ≡ limit (Some b) - u = room_as (Some b) s u (suc room) Replace at e in
    let other : u ≡ limit (Some b) → ⊥ = λ same. omega (arith, left, same) in
    ap (λ (t : Bool). if t then asked_behind s else None) (ne_eqb u (limit (Some b)) other)

-- ---- opening

-- what opening is: a first SID, and where it stands if it is a middle one
pub record Entered (k : Option SidBlock) (room : ℕ) (n : Shape) (t : ListSid) : Type 0 where
  pub first : Opens k t
  pub stands : t.csid ≡ n.csid → Stands k (first_taken k t) room t

first_full : (n : Shape) (c : Csid) (len : ℕ) → len ≡ n.prefix.len → full_room_by c n ≡ room_in None c len
first_full n Plain len e = refl
first_full n Next len e = ap (λ (l : ℕ). (128 - l) / 16) (sym e)
first_full n Replace len e = refl

pub entered_full : (n : Shape) (t : ListSid) (q : ℕ) → t.prefix.len ≡ n.prefix.len → n.prefix.len ≤ 128 → Some (full_room n) ≡ Some q
    → Entered None q n t
entered_full n t q len fits r =
    let value : full_room n ≡ q = cc in
    let within : t.prefix.len ≤ 128 = omega (arith, len, fits) in
    record {
      first = within;
      stands = λ same.
          record {
            left = sym value ∙ first_full n n.csid t.prefix.len len
                ∙ ap (λ (c : Csid). room_in None c t.prefix.len) (sym same);
            within = within;
            kind = tt;
          };
    }

-- a REPLACE container holds one CSID at least
count_some : (c units : ℕ) → c ≡ 16 * units → 1 ≤ units → units ≤ 2 → 1 ≤ 128 / c
count_some c zero e h k = absurd (omega (arith, h))
count_some c (suc zero) e h k =
    let same : 16 ≡ c = omega (arith, e) in
    subst (λ (x : ℕ). 1 ≤ 128 / x) same (omega arith)
count_some c (suc (suc zero)) e h k =
    let same : 32 ≡ c = omega (arith, e) in
    subst (λ (x : ℕ). 1 ≤ 128 / x) same (omega arith)
count_some c (suc (suc (suc more))) e h k = absurd (omega (arith, k))

limit_some : (a n : Shape) (s t : ListSid) (b : SidBlock) → Pair a n s t → a.csid ≡ Replace → s.block ≡ Some b → 1 ≤ limit (Some b)
limit_some a n s t b p e own =
    let one : is_compressed a.csid ≡ true = ap is_compressed e in
    let is = p.here.in_block (in_some a n s t p one) in
    let bits : csid_len_in (Some b) ≡ a.prefix.len - a.lbl = ap csid_len_in (sym own) ∙ p.csids e in
    let long : a.prefix.len ≡ a.lbl + 16 * units_of a = is.length in
    let units : csid_len_in (Some b) ≡ 16 * units_of a = omega (arith, bits, long) in
    count_some (csid_len_in (Some b)) (units_of a) units is.longer (p.here.replace e)

first_packed : (a n : Shape) (s t : ListSid) (b : SidBlock) → Pair a n s t → a.csid ≡ Replace → same_block a.block n.block ≡ true
    → t.block ≡ Some b → (c : Csid) → n.csid ≡ c → packed_room_by c n ≡ room_in (Some b) c 1
first_packed a n s t b p e both own Plain k = refl
first_packed a n s t b p e both own Next k = absurd (not_next a n s t p e both k)
first_packed a n s t b p e both own Replace k =
    let bits : n.prefix.len - n.lbl ≡ csid_len_in (Some b) = sym (p.next_csids k) ∙ ap csid_len_in own in
    ap (λ (l : ℕ). 128 / l - 1) bits

entered_packed : (a n : Shape) (s t : ListSid) (b : SidBlock) (q : ℕ) → Pair a n s t → a.csid ≡ Replace → s.block ≡ Some b
    → pack_room a n ≡ Some q → Entered (Some b) q n t
entered_packed a n s t b q p e own r =
    let both = cond_some (same_block a.block n.block) (packed_room n) q r in
    let same_one : same_block a.block n.block ≡ true = both.0 in
    let some = both_blocks a.block n.block same_one in
    let block : t.block ≡ Some b = sym (p.same some.0 same_one) ∙ own in
    let few = limit_some a n s t b p e own in
    let value : packed_room n ≡ q = both.1 in
    record {
      first = (block, few);
      stands = λ same.
          record {
            left = sym value ∙ first_packed a n s t b p e same_one block n.csid refl
                ∙ ap (λ (c : Csid). room_in (Some b) c 1) (sym same);
            within = few;
            kind = (block, λ h. not_next a n s t p e same_one (sym same ∙ h));
          };
    }

-- a REPLACE SID has its block
own_block : (a n : Shape) (s t : ListSid) (o : Option SidBlock) → Pair a n s t → a.csid ≡ Replace → s.block ≡ o
    → (b : SidBlock) × (s.block ≡ Some b)
own_block a n s t None p e own =
    let one : is_compressed a.csid ≡ true = ap is_compressed e in
    let there : is_some s.block ≡ true = p.in_block (in_some a n s t p one) in
    let not_there : is_some s.block ≡ false = ap is_some own in
    absurd (cc)
own_block a n s t (Some b) p e own = (b, own)

at_none : (k : Option SidBlock) (u q : ℕ) (n : Shape) (s t : ListSid) → asked_at k u s ≡ None → Entered None q n t
    → Entered (asked_at k u s) q n t
at_none k u q n s t e is = subst (λ (o : Option SidBlock). Entered o q n t) (sym e) is

entered_by : (k : Option SidBlock) (a n : Shape) (s t : ListSid) (u room q : ℕ) → Pair a n s t → Stands k u room s → (c : Csid)
    → a.csid ≡ c → new_room_by c a room n ≡ Some q → Entered (asked_at k u s) q n t
entered_by k a n s t u room q p at Plain e r =
    at_none k u q n s t (asked_plain k u s (p.flavour ∙ e)) (entered_full n t q p.len p.fits r)
entered_by k a n s t u room q p at Next e r =
    at_none k u q n s t (asked_next k u s (p.flavour ∙ e)) (entered_full n t q p.len p.fits r)
entered_by k a n s t u zero q p at Replace e r =
    let own = own_block a n s t s.block p e refl in
    let asked : asked_at k u s ≡ Some own.0 = asked_end_law k u zero s (p.flavour ∙ e) at refl ∙ own.1 in
    subst (λ (o : Option SidBlock). Entered o q n t) (sym asked) (entered_packed a n s t own.0 q p e own.1 r)
entered_by k a n s t u (suc room) q p at Replace e r =
    at_none k u q n s t (asked_left k u room s (p.flavour ∙ e) at) (entered_full n t q p.len p.fits r)

pub entered : (k : Option SidBlock) (a n : Shape) (s t : ListSid) (u room q : ℕ) → Pair a n s t → Stands k u room s
    → new_room a room n ≡ Some q → Entered (asked_at k u s) q n t
entered k a n s t u room q p at r = entered_by k a n s t u room q p at a.csid refl r

-- ---- a step that a legal list allows has a room after it

some_stay : (b : Bool) (x : ℕ) → b ≡ true → (if b then Some x else None) ≡ Some x
some_stay b x e = ap (λ (t : Bool). if t then Some x else None) e

stays_by : (k : Option SidBlock) (a n : Shape) (s t : ListSid) (u room : ℕ) → Pair a n s t → Stands k u room s → StaysIn k u s t
    → (c : Csid) → a.csid ≡ c → (q : ℕ) × (stay_room_by c a room n ≡ Some q)
stays_by None a n s t u room p at step Plain e = absurd (let other : Plain ≡ Next = sym e ∙ sym p.flavour ∙ step.kind in cc)
stays_by (Some b) a n s t u room p at step Plain e = absurd (let other : Plain ≡ Replace = sym e ∙ sym p.flavour ∙ step.kind in cc)
stays_by (Some b) a n s t u room p at step Next e = absurd (let other : Next ≡ Replace = sym e ∙ sym p.flavour ∙ step.kind in cc)
stays_by None a n s t u room p at step Replace e = absurd (let other : Replace ≡ Next = sym e ∙ sym p.flavour ∙ step.kind in cc)
stays_by None a n s t u room p at step Next e =
    let one : is_compressed a.csid ≡ true = ap is_compressed e in
    let some = in_some a n s t p one in
    let both : same_block a.block n.block ≡ true = p.back some (sym step.block) in
    let bits = bits_of a n s t p (both_blocks a.block n.block both).1 in
    let here : room ≡ (128 - u) / 16 = room_as None s u room Next at step.kind in
    let fits : u + csid_len t ≤ 128 = step.fits in
    let fit : units_of n ≤ room = fit_units u (csid_len t) (units_of n) room fits bits here in
    let b = same_block a.block n.block && nat_le (units_of n) room in (
      kept_room n.csid (room - units_of n),
      some_stay (same_block a.block n.block && nat_le (units_of n) room) (kept_room n.csid (room - units_of n))
          (and_from (same_block a.block n.block) (nat_le (units_of n) room) both (le-leb (units_of n) room fit)),
    )
stays_by (Some b) a n s t u room p at step Replace e =
    let one : is_compressed a.csid ≡ true = ap is_compressed e in
    let some = in_some a n s t p one in
    let both : same_block a.block n.block ≡ true = p.back some (sym step.block) in
    let here : room ≡ limit (Some b) - u = room_as (Some b) s u room Replace at step.kind in
    let fits : u + 1 ≤ limit (Some b) = step.fits in
    let fit : 1 ≤ room = omega (arith, here, fits) in (
      kept_room n.csid (room - 1),
      some_stay (same_block a.block n.block && nat_le 1 room) (kept_room n.csid (room - 1))
          (and_from (same_block a.block n.block) (nat_le 1 room) both (le-leb 1 room fit)),
    )

pub may_stay : (k : Option SidBlock) (a n : Shape) (s t : ListSid) (u room : ℕ) → Pair a n s t → Stands k u room s → StaysIn k u s t
    → (q : ℕ) × (stay_room a room n ≡ Some q)
may_stay k a n s t u room p at step = stays_by k a n s t u room p at step a.csid refl

opens_by : (k : Option SidBlock) (a n : Shape) (s t : ListSid) (u room : ℕ) → Pair a n s t → Stands k u room s → Opens (asked_at k u s) t
    → (c : Csid) → a.csid ≡ c → (q : ℕ) × (new_room_by c a room n ≡ Some q)
opens_by k a n s t u room p at first Plain e = (full_room n, refl)
opens_by k a n s t u room p at first Next e = (full_room n, refl)
opens_by k a n s t u (suc room) p at first Replace e = (full_room n, refl)
opens_by k a n s t u zero p at first Replace e =
    let own = own_block a n s t s.block p e refl in
    let asked : asked_at k u s ≡ Some own.0 = asked_end_law k u zero s (p.flavour ∙ e) at refl ∙ own.1 in
    let is : Opens (Some own.0) t = subst (λ (o : Option SidBlock). Opens o t) asked first in
    let one : is_compressed a.csid ≡ true = ap is_compressed e in
    let both : same_block a.block n.block ≡ true = p.back (in_some a n s t p one) (own.1 ∙ sym is.0) in
    (packed_room n, some_stay (same_block a.block n.block) (packed_room n) both)

pub may_open : (k : Option SidBlock) (a n : Shape) (s t : ListSid) (u room : ℕ) → Pair a n s t → Stands k u room s
    → Opens (asked_at k u s) t → (q : ℕ) × (new_room a room n ≡ Some q)
may_open k a n s t u room p at first = opens_by k a n s t u room p at first a.csid refl
