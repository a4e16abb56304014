-- A SID's room and the container that it stands in: one step of a path is one step of a legal list.
use Rattle.std.proofs.Common.{◌≡◌, ℕ, ◌+◌, ◌-◌, ◌*◌, ◌/◌, ◌≤◌, true, ◌&&◌, Option, Some, None, refl, sym, ◌∙◌, ap, subst, arith, nat_le}
use Rattle.std.specs.Prelude.{is_some}
use Rattle.std.proofs.lemmas.Bool.{and_parts, leb-true}
use Rattle.std.proofs.lemmas.Option.{cond_some, none-some}
use Rattle.srv6_rules.specs.declared.sid.Csid.{Csid}
use Rattle.srv6_rules.specs.declared.sid.Csid.TheVariants.{Plain, Next, Replace}
use Rattle.sid_list_spec.specs.SegmentLists.{SidBlock, ListSid, csid_len, csid_len_in, block_len}
use Rattle.list_pack.specs.declared.types.Shape.{Shape}
use Rattle.list_pack.specs.LegsValue.{units_of, same_block}
use Rattle.list_pack.specs.LegsValueTerms.{is_compressed, IsShape, ShareBlock}
use Rattle.list_pack.specs.Rooms.{kept_room, stay_room, stay_room_by}
use Rattle.list_pack.proofs.Rooming.{both_blocks}
use Rattle.list_pack.specs.OpenContainers.{taken, limit, StaysIn}

-- the room that is left after the last SID of an open container where so much is taken
abbrev pub room_in : Option SidBlock → Csid → ℕ → ℕ
room_in None Plain u = 0
room_in None Next u = (128 - u) / 16
room_in None Replace u = 0
room_in (Some b) Plain u = 0
room_in (Some b) Next u = 0
room_in (Some b) Replace u = limit (Some b) - u

-- a REPLACE container has SIDs of its block, and none of NEXT-CSID
abbrev pub IsOfKind : Option SidBlock → ListSid → Type 0
IsOfKind None s = Unit {0}
IsOfKind (Some b) s = (s.block ≡ Some b) × (s.csid ≡ Next → ⊥)

-- a SID stands as the last so far in an open container
pub record Stands (k : Option SidBlock) (u room : ℕ) (s : ListSid) : Type 0 where
  pub left : room ≡ room_in k s.csid u
  pub within : u ≤ limit k
  pub kind : IsOfKind k s

-- a middle SID and a next one, as a search and as lists know them
pub record Pair (a n : Shape) (s t : ListSid) : Type 0 where
  pub here : IsShape a
  pub next : IsShape n
  pub share : same_block a.block n.block ≡ true → ShareBlock a n
  pub flavour : s.csid ≡ a.csid
  pub in_block : is_some a.block ≡ true → is_some s.block ≡ true
  pub same : is_some a.block ≡ true → same_block a.block n.block ≡ true → s.block ≡ t.block
  pub back : is_some a.block ≡ true → s.block ≡ t.block → same_block a.block n.block ≡ true
  pub len : t.prefix.len ≡ n.prefix.len
  pub fits : n.prefix.len ≤ 128
  pub lbl : n.lbl ≡ block_len t.block
  pub csids : a.csid ≡ Replace → csid_len_in s.block ≡ a.prefix.len - a.lbl
  pub next_csids : n.csid ≡ Replace → csid_len_in t.block ≡ n.prefix.len - n.lbl

-- ---- staying

-- a next SID's CSID in bits
pub bits_of : (a n : Shape) (s t : ListSid) → Pair a n s t → is_some n.block ≡ true → csid_len t ≡ 16 * units_of n
bits_of a n s t p some =
    let is = p.next.in_block some in
    let long : n.prefix.len ≡ n.lbl + 16 * units_of n = is.length in
    omega (arith, long, p.len, p.lbl)

units_fit : (u c units room : ℕ) → u ≤ 128 → c ≡ 16 * units → room ≡ (128 - u) / 16 → units ≤ room → u + c ≤ 128
units_fit u c units room h e f k = omega arith

units_left : (u c units room : ℕ) → u ≤ 128 → c ≡ 16 * units → room ≡ (128 - u) / 16 → units ≤ room
    → room - units ≡ (128 - (u + c)) / 16
units_left u c units room h e f k = omega arith

pub fit_units : (u c units room : ℕ) → u + c ≤ 128 → c ≡ 16 * units → room ≡ (128 - u) / 16 → units ≤ room
fit_units u c units room h e f = omega arith

-- a compressed SID lies in a block
pub in_some : (a n : Shape) (s t : ListSid) → Pair a n s t → is_compressed a.csid ≡ true → is_some a.block ≡ true
in_some a n s t p e = p.here.compressed e

-- what staying is: the step of the list, and where the next SID stands if it is a middle one
pub record Stayed (k : Option SidBlock) (u room : ℕ) (n : Shape) (s t : ListSid) : Type 0 where
  pub step : StaysIn k u s t
  pub stands : t.csid ≡ n.csid → Stands k (u + taken k t) room t

left_next : (a n : Shape) (s t : ListSid) (u left : ℕ) → Pair a n s t → a.csid ≡ Next → same_block a.block n.block ≡ true
    → left ≡ (128 - (u + csid_len t)) / 16 → t.csid ≡ n.csid → (c : Csid) → n.csid ≡ c
    → kept_room c left ≡ room_in None c (u + csid_len t)
left_next a n s t u left p e b l same Plain k = refl
left_next a n s t u left p e b l same Next k = l
left_next a n s t u left p e b l same Replace k =
    let one : is_compressed a.csid ≡ true = ap is_compressed e in
    let two : is_compressed n.csid ≡ true = ap is_compressed k in
    let both = (p.share b).csid one two in
    absurd (cc)

left_replace : (a n : Shape) (s t : ListSid) (b : SidBlock) (u room : ℕ) → Pair a n s t → a.csid ≡ Replace
    → same_block a.block n.block ≡ true → room ≡ limit (Some b) - u → (c : Csid) → n.csid ≡ c
    → kept_room c (room - 1) ≡ room_in (Some b) c (u + 1)
left_replace a n s t b u room p e both l Plain k = refl
left_replace a n s t b u room p e both l Next k =
    let one : is_compressed a.csid ≡ true = ap is_compressed e in
    let two : is_compressed n.csid ≡ true = ap is_compressed k in
    let same = (p.share both).csid one two in
    absurd (cc)
left_replace a n s t b u room p e both l Replace k = omega (arith, l)

-- after a REPLACE SID in its block no NEXT SID comes
pub not_next : (a n : Shape) (s t : ListSid) → Pair a n s t → a.csid ≡ Replace → same_block a.block n.block ≡ true → n.csid ≡ Next → ⊥
not_next a n s t p e both k =
    let one : is_compressed a.csid ≡ true = ap is_compressed e in
    let two : is_compressed n.csid ≡ true = ap is_compressed k in
    let same = (p.share both).csid one two in
    cc

pub room_as : (k : Option SidBlock) (s : ListSid) (u room : ℕ) (c : Csid) → Stands k u room s → s.csid ≡ c → room ≡ room_in k c u
room_as k s u room c at e = subst (λ (x : Csid). room ≡ room_in k x u) e at.left

-- in a full container after a NEXT SID
stayed_next : (a n : Shape) (s t : ListSid) (u room q : ℕ) → Pair a n s t → a.csid ≡ Next → Stands None u room s
    → stay_room_by Next a room n ≡ Some q → Stayed None u q n s t
stayed_next a n s t u room q p e at r =
    let both = cond_some (same_block a.block n.block && nat_le (units_of n) room) (kept_room n.csid (room - units_of n)) q r in
    let parts = and_parts (same_block a.block n.block) (nat_le (units_of n) room) both.0 in
    let some = both_blocks a.block n.block parts.0 in
    let fit : units_of n ≤ room = leb-true (units_of n) room parts.1 in
    let bits = bits_of a n s t p some.1 in
    let kind : s.csid ≡ Next = p.flavour ∙ e in
    let here : room ≡ (128 - u) / 16 = room_as None s u room Next at kind in
    let within : u ≤ 128 = at.within in
    let left = units_left u (csid_len t) (units_of n) room within bits here fit in
    let fits : u + csid_len t ≤ 128 = units_fit u (csid_len t) (units_of n) room within bits here fit in
    let value : kept_room n.csid (room - units_of n) ≡ q = both.1 in
    record {
      step = record { kind = kind; block = sym (p.same some.0 parts.0); fits = fits };
      stands = λ same.
          let is = left_next a n s t u (room - units_of n) p e parts.0 left same n.csid refl in
          let moved : room_in None n.csid (u + csid_len t) ≡ room_in None t.csid (u + csid_len t) =
          ap (λ (c : Csid). room_in None c (u + csid_len t)) (sym same) in
          record { left = sym value ∙ is ∙ moved; within = fits; kind = tt };
    }

-- in a REPLACE container
stayed_replace : (a n : Shape) (s t : ListSid) (b : SidBlock) (u room q : ℕ) → Pair a n s t → a.csid ≡ Replace
    → Stands (Some b) u room s → stay_room_by Replace a room n ≡ Some q → Stayed (Some b) u q n s t
stayed_replace a n s t b u room q p e at r =
    let both = cond_some (same_block a.block n.block && nat_le 1 room) (kept_room n.csid (room - 1)) q r in
    let parts = and_parts (same_block a.block n.block) (nat_le 1 room) both.0 in
    let some = both_blocks a.block n.block parts.0 in
    let fit : 1 ≤ room = leb-true 1 room parts.1 in
    let kind : s.csid ≡ Replace = p.flavour ∙ e in
    let here : room ≡ limit (Some b) - u = room_as (Some b) s u room Replace at kind in
    let fits : u + 1 ≤ limit (Some b) = omega (arith, here, fit) in
    let value : kept_room n.csid (room - 1) ≡ q = both.1 in
    let block : t.block ≡ s.block = sym (p.same some.0 parts.0) in
    let own : (s.block ≡ Some b) × (s.csid ≡ Next → ⊥) = at.kind in
    record {
      step = record { kind = kind; block = block; fits = fits };
      stands = λ same.
          let is = left_replace a n s t b u room p e parts.0 here n.csid refl in
          let moved : room_in (Some b) n.csid (u + 1) ≡ room_in (Some b) t.csid (u + 1) =
          ap (λ (c : Csid). room_in (Some b) c (u + 1)) (sym same) in
          record {
            left = sym value ∙ is ∙ moved;
            within = fits;
            kind = (block ∙ own.0, λ h. not_next a n s t p e parts.0 (sym same ∙ h));
          };
    }

-- no room is left in a full container after a REPLACE SID
stays_no : (a n : Shape) (room q : ℕ) → room ≡ 0 → stay_room_by Replace a room n ≡ Some q → ⊥
stays_no a n room q z r =
    let both = cond_some (same_block a.block n.block && nat_le 1 room) (kept_room n.csid (room - 1)) q r in
    let parts = and_parts (same_block a.block n.block) (nat_le 1 room) both.0 in
    let fit : 1 ≤ room = leb-true 1 room parts.1 in
    omega (arith, z, fit)

stayed_by : (k : Option SidBlock) (a n : Shape) (s t : ListSid) (u room q : ℕ) → Pair a n s t → Stands k u room s → (c : Csid)
    → a.csid ≡ c → stay_room_by c a room n ≡ Some q → Stayed k u q n s t
stayed_by k a n s t u room q p at Plain e r = absurd (none-some q r)
stayed_by None a n s t u room q p at Next e r = stayed_next a n s t u room q p e at r
stayed_by (Some b) a n s t u room q p at Next e r = absurd (at.kind.1 (p.flavour ∙ e))
stayed_by None a n s t u room q p at Replace e r =
    absurd (stays_no a n room q (room_as None s u room Replace at (p.flavour ∙ e)) r)
stayed_by (Some b) a n s t u room q p at Replace e r = stayed_replace a n s t b u room q p e at r

pub stayed : (k : Option SidBlock) (a n : Shape) (s t : ListSid) (u room q : ℕ) → Pair a n s t → Stands k u room s
    → stay_room a room n ≡ Some q → Stayed k u q n s t
stayed k a n s t u room q p at r = stayed_by k a n s t u room q p at a.csid refl r
