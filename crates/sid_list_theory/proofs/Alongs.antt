-- Packets along the places of a list: sends, executions, and rows of them.
use Rattle.std.proofs.Common.{◌≡◌, inl, inr, ℕ, ◌+◌, ◌-◌, ◌<◌, ◌≤◌, Bool, true, false, true≢false, not, ◌&&◌, if◌then◌else◌, List, [], ◌∷◌, ◌++◌, length, Option, Some, None, refl, sym, ◌∙◌, ap, subst, arith}
use Rattle.std.specs.Option.{option_and_then}
use Rattle.std.proofs.lemmas.Bool.{cases_Bool, cases_lt}
use Rattle.srv6_rules.specs.declared.sid.Csid.{Csid}
use Rattle.srv6_rules.specs.declared.sid.Csid.TheVariants.{Plain, Next, Replace}
use Rattle.srv6_rules.specs.declared.family.Family.{Family}
use Rattle.srv6_rules.specs.declared.reason.Reason.{Reason}
use Rattle.srv6_rules.specs.declared.reason.Reason.TheVariants as reasons
use Rattle.srv6_rules.specs.declared.sid.SidEntry.{SidEntry}
use Rattle.srv6_rules.specs.Behaviours.{goes_on, exposes}
use Rattle.srv6_rules.specs.Packet.{Packet, header_len}
use Rattle.srv6_rules.specs.Srh.{segments_left_at}
use Rattle.srv6_rules.specs.Endpoint.{Onward, Exposed, Delivered, Refused, is_allowed, at_sid}
use Rattle.srv6_rules.specs.Policies.{inner_kind}
use Rattle.sid_list_spec.specs.SegmentLists.{SidBlock, ListSid, Container, Full, Packed}
use Rattle.sid_list_theory.specs.SegmentListsTerms.{sids_in}
use Rattle.sid_list_theory.specs.ListPlaces.{ListPlace, InFull, InPacked, Tunnel, form, active, behind_of, sids_from, first_of, next_of, inner_at, may_lack, stays_routed, at_the_end, StandsOn, IsPlace, Along}
use Rattle.sid_list_theory.specs.ExecutionRows.{Execution, IsSent, Executes, StandInOrder, after_next}
use Rattle.sid_list_theory.proofs.Sids.{full_block}
use Rattle.sid_list_theory.proofs.SidListStarts.{destination_holds}
use Rattle.v6_addr.specs.Address.{Holds}
use Rattle.sid_list_theory.proofs.Nexts.{Leads, leads_next}
use Rattle.sid_list_theory.proofs.Follows.{to_place, next_place_law, next_listed, next_lacking}
use Rattle.sid_list_theory.proofs.Lasts.{as_active, ends_last, ends_plain, refuses_before, refuses_in, exposed_in_last}

-- ---- one packet

pub along_hop : (t : Tunnel) (x : ListPlace) (hop : ℕ) (p : Packet) → Along t x hop p → p.hop_limit ≡ hop
along_hop t x hop p a = ap (λ (q : Packet). q.hop_limit) a.packet

-- sends lower the hop limit alone, and the place stays
pub along_sent : (t : Tunnel) (x : ListPlace) (hop n : ℕ) (p : Packet) → Along t x hop p → Along t x n (record p { hop_limit = n })
along_sent t x hop n p a = record {
  routed = a.routed;
  packet = ap (λ (q : Packet). record q { hop_limit = n }) a.packet;
  place = a.place;
  listed = a.listed;
  lacking = a.lacking;
}

-- the packet that is made for the next place stands there
pub along_next : (t : Tunnel) (x y : ListPlace) (hop n : ℕ) (p : Packet) (psp : Bool) → (a : Along t x hop p) → next_of x ≡ Some y
    → Along t y n (form t y (stays_routed psp x y a.routed) n)
along_next t x y hop n p psp a to = record {
  routed = stays_routed psp x y a.routed;
  packet = refl;
  place = next_place_law x y a.place to;
  listed = next_listed x y _ a.place a.listed to;
  lacking = next_lacking psp x y a.routed to a.lacking;
}

leads_along : (e : SidEntry) (allow : List ℕ) (t : Tunnel) (x y : ListPlace) (hop : ℕ) (p : Packet) → (a : Along t x hop p)
    → StandsOn e (active x) → goes_on e ≡ true → next_of x ≡ Some y → Leads e allow t x y a.routed
leads_along e allow t x y hop p a on goes to =
    leads_next e allow t x y a.routed goes (as_active e (active x) on goes) a.place a.listed a.lacking to

-- the destination lies in the active SID's prefix
pub along_holds : (t : Tunnel) (x : ListPlace) (hop : ℕ) (p : Packet) → Along t x hop p → Holds (active x).prefix p.destination
along_holds t x hop p a =
    let P : ℕ → Type 0 = λ d. Holds (active x).prefix d in
    subst P (sym (ap (λ (q : Packet). q.destination) a.packet)) (destination_holds x a.place)

-- a SID that goes on makes the packet at the next place
pub along_onward : (e : SidEntry) (allow : List ℕ) (t : Tunnel) (x y : ListPlace) (hop : ℕ) (p : Packet) → (a : Along t x hop p)
    → StandsOn e (active x) → goes_on e ≡ true → next_of x ≡ Some y → 1 < hop
    → at_sid e allow p ≡ Onward (form t y (stays_routed e.psp x y a.routed) (hop - 1))
along_onward e allow t x y hop p a on goes to high =
    ap (at_sid e allow) a.packet ∙ (leads_along e allow t x y hop p a on goes to).onward hop high

pub along_tired : (e : SidEntry) (allow : List ℕ) (t : Tunnel) (x y : ListPlace) (hop : ℕ) (p : Packet) → Along t x hop p
    → StandsOn e (active x) → goes_on e ≡ true → next_of x ≡ Some y → hop ≤ 1 → at_sid e allow p ≡ Refused reasons.HopLimit 0
along_tired e allow t x y hop p a on goes to low =
    ap (at_sid e allow) a.packet ∙ (leads_along e allow t x y hop p a on goes to).tired hop low

-- where no segment is left
pub along_last : (e : SidEntry) (allow : List ℕ) (t : Tunnel) (x : ListPlace) (hop : ℕ) (p : Packet) → (a : Along t x hop p)
    → StandsOn e (active x) → next_of x ≡ None → at_sid e allow p ≡ at_the_end e allow t x a.routed hop
along_last e allow t x hop p a on last =
    ap (at_sid e allow) a.packet ∙ ends_last e allow t x a.routed hop on a.place a.listed last

pub along_plain : (e : SidEntry) (allow : List ℕ) (t : Tunnel) (x : ListPlace) (hop : ℕ) (p : Packet) → (a : Along t x hop p)
    → e.csid ≡ Plain → behind_of x ≡ [] → at_sid e allow p ≡ at_the_end e allow t x a.routed hop
along_plain e allow t x hop p a plain last =
    ap (at_sid e allow) a.packet ∙ ends_plain e allow t x a.routed hop plain last

-- the packet inside is exposed there
pub along_exposed : (e : SidEntry) (allow : List ℕ) (t : Tunnel) (x : ListPlace) (hop : ℕ) (p : Packet) → Along t x hop p
    → StandsOn e (active x) → next_of x ≡ None → exposes e (inner_kind t.inner) ≡ true → at_sid e allow p ≡ Exposed t.inner t.bytes
along_exposed e allow t x hop p a on last shows = along_last e allow t x hop p a on last ∙ rw shows refl

pub along_exposed_plain : (e : SidEntry) (allow : List ℕ) (t : Tunnel) (x : ListPlace) (hop : ℕ) (p : Packet) → Along t x hop p
    → e.csid ≡ Plain → behind_of x ≡ [] → exposes e (inner_kind t.inner) ≡ true → at_sid e allow p ≡ Exposed t.inner t.bytes
along_exposed_plain e allow t x hop p a plain last shows = along_plain e allow t x hop p a plain last ∙ rw shows refl

-- a SID that does not go on refuses it before
pub along_before : (e : SidEntry) (allow : List ℕ) (t : Tunnel) (x : ListPlace) (hop : ℕ) (p : Packet) (c : Container) (cs : List Container)
    → Along t x hop p → StandsOn e (active x) → goes_on e ≡ false → behind_of x ≡ c ∷ cs
    → at_sid e allow p ≡ Refused reasons.BadSegments (header_len + segments_left_at)
along_before e allow t x hop p c cs a on stays more =
    ap (at_sid e allow) a.packet ∙ refuses_before e allow t x a.routed hop c cs stays on a.lacking more

pub along_packed : (e : SidEntry) (allow : List ℕ) (t : Tunnel) (x : ListPlace) (hop : ℕ) (p : Packet) → Along t x hop p
    → StandsOn e (active x) → goes_on e ≡ false → e.csid ≡ Replace → may_lack x ≡ false
    → at_sid e allow p ≡ Refused reasons.BadSegments (header_len + segments_left_at)
along_packed e allow t x hop p a on stays replace needs =
    ap (at_sid e allow) a.packet ∙ refuses_in e allow t x a.routed hop stays replace on a.place a.listed a.lacking needs

pub along_only_last : (e : SidEntry) (allow : List ℕ) (t : Tunnel) (x : ListPlace) (hop : ℕ) (p : Packet) (family : Family) (bytes : List ℕ)
    → Along t x hop p → StandsOn e (active x) → at_sid e allow p ≡ Exposed family bytes → behind_of x ≡ []
along_only_last e allow t x hop p family bytes a on shows =
    exposed_in_last e allow t x a.routed hop family bytes on a.place a.listed a.lacking (sym (ap (at_sid e allow) a.packet) ∙ shows)

-- ---- a packet that goes on

refused_not : (reason : Reason) (at : ℕ) (q : Packet) → Refused reason at ≡ Onward q → ⊥
refused_not reason at q e = cc

-- nothing goes on where no segment is left
end_not : (e : SidEntry) (allow : List ℕ) (t : Tunnel) (x : ListPlace) (routed : Bool) (hop : ℕ) (q : Packet)
    → at_the_end e allow t x routed hop ≡ Onward q → ⊥
end_not e allow t x routed hop q is = by (exposes e (inner_kind t.inner)) (is_allowed allow (inner_kind t.inner)) is
  where
    by : (shows takes : Bool)
        → (if shows then Exposed t.inner t.bytes
        else if takes then Delivered (form t x (routed && not e.usp) hop)
        else Refused reasons.UpperLayer (inner_at t routed)) ≡ Onward q → ⊥
    by true takes is = cc
    by false true is = cc
    by false false is = cc

-- a SID of REPLACE-CSID stands where the header may lack at the last SID alone
pub last_replace : (e : SidEntry) (x : ListPlace) → IsPlace x → StandsOn e (active x) → e.csid ≡ Replace → may_lack x ≡ true → next_of x ≡ None
last_replace e (InFull s [] []) is on replace lacks = refl
last_replace e (InFull s (u ∷ us) []) is on replace lacks =
    let (b, own, kind) = full_block s u us is.container is.flat in
    absurd (elim on.kind [
      | inl plain ↦ clash (sym plain ∙ replace)
      | inr (d, same, kind_is) ↦
          let equal : Some b ≡ Some d = sym own ∙ same in
          let of : b ≡ d = cc in
          clash_next (sym kind ∙ ap (λ (k : SidBlock). k.kind) of ∙ sym kind_is ∙ replace)
    ])
  where
    clash : Plain ≡ Replace → ⊥
    clash e = cc

    clash_next : Next ≡ Replace → ⊥
    clash_next e = cc
last_replace e (InFull s ss (c ∷ cs)) is on replace lacks = cc
last_replace e (InPacked bs s [] []) is on replace lacks = refl
last_replace e (InPacked bs s [] (c ∷ cs)) is on replace lacks = cc
last_replace e (InPacked bs s (u ∷ us) cs) is on replace lacks = cc

-- one that does not go on lets nothing go on
stays_not : (e : SidEntry) (allow : List ℕ) (t : Tunnel) (x : ListPlace) (hop : ℕ) (p q : Packet) → Along t x hop p → StandsOn e (active x)
    → goes_on e ≡ false → at_sid e allow p ≡ Onward q → ⊥
stays_not e allow t x hop p q a on stays is = by (behind_of x) refl
  where
    in_last : behind_of x ≡ [] → (k : Csid) → e.csid ≡ k → ⊥
    in_last last Plain kind = end_not e allow t x a.routed hop q (sym (along_plain e allow t x hop p a kind last) ∙ is)
    in_last last Next kind = true≢false (sym (on.next kind) ∙ stays)
    in_last last Replace kind = elim (cases_Bool (may_lack x)) [
      | inl lacks ↦ end_not e allow t x a.routed hop q
          (sym (along_last e allow t x hop p a on (last_replace e x a.place on kind lacks)) ∙ is)
      | inr needs ↦ refused_not reasons.BadSegments (header_len + segments_left_at) q
          (sym (along_packed e allow t x hop p a on stays kind needs) ∙ is)
    ]

    by : (cs : List Container) → behind_of x ≡ cs → ⊥
    by [] last = in_last last e.csid refl
    by (c ∷ cs) more = refused_not reasons.BadSegments (header_len + segments_left_at) q
        (sym (along_before e allow t x hop p c cs a on stays more) ∙ is)

-- so a packet that goes on stands at the next place
pub along_only : (e : SidEntry) (allow : List ℕ) (t : Tunnel) (x : ListPlace) (hop : ℕ) (p q : Packet) → Along t x hop p
    → StandsOn e (active x)
    → at_sid e allow p ≡ Onward q → (1 < hop) × (y : ListPlace) × (next_of x ≡ Some y) × Along t y (hop - 1) q
along_only e allow t x hop p q a on is = elim (cases_Bool (goes_on e)) [
  | inl goes ↦ by goes (next_of x) refl
  | inr stays ↦ absurd (stays_not e allow t x hop p q a on stays is)
]
  where
    same_packet : (m : Packet) → Onward m ≡ Onward q → m ≡ q
    same_packet m e = cc

    by : goes_on e ≡ true → (o : Option ListPlace) → next_of x ≡ o
        → (1 < hop) × (y : ListPlace) × (next_of x ≡ Some y) × Along t y (hop - 1) q
    by goes None last = absurd (end_not e allow t x a.routed hop q (sym (along_last e allow t x hop p a on last) ∙ is))
    by goes (Some y) to = elim (cases_lt 1 hop) [
      | inl high ↦
          let made = same_packet _ (sym (along_onward e allow t x y hop p a on goes to high) ∙ is) in
          (high, y, to, subst (λ (m : Packet). Along t y (hop - 1) m) made (along_next t x y hop (hop - 1) p e.psp a to))
      | inr low ↦ absurd (refused_not reasons.HopLimit 0 q (sym (along_tired e allow t x y hop p a on goes to low) ∙ is))
    ]

-- ---- a packet that is exposed

-- in the last container it came of the packet inside
exposed_end : (e : SidEntry) (allow : List ℕ) (t : Tunnel) (x : ListPlace) (hop : ℕ) (p : Packet) (family : Family) (bytes : List ℕ)
    → (a : Along t x hop p) → StandsOn e (active x) → at_sid e allow p ≡ Exposed family bytes
    → at_sid e allow p ≡ at_the_end e allow t x a.routed hop
exposed_end e allow t x hop p family bytes a on shows = by e.csid refl
  where
    refused : (reason : Reason) (at : ℕ) → Refused reason at ≡ Exposed family bytes → ⊥
    refused reason at e = cc

    onward : (q : Packet) → Onward q ≡ Exposed family bytes → ⊥
    onward q e = cc

    goes : goes_on e ≡ true → (o : Option ListPlace) → next_of x ≡ o → at_sid e allow p ≡ at_the_end e allow t x a.routed hop
    goes is None last = along_last e allow t x hop p a on last
    goes is (Some y) to = absurd (elim (cases_lt 1 hop) [
      | inl high ↦ onward _ (sym (along_onward e allow t x y hop p a on is to high) ∙ shows)
      | inr low ↦ refused reasons.HopLimit 0 (sym (along_tired e allow t x y hop p a on is to low) ∙ shows)
    ])

    by : (k : Csid) → e.csid ≡ k → at_sid e allow p ≡ at_the_end e allow t x a.routed hop
    by Plain kind = along_plain e allow t x hop p a kind (along_only_last e allow t x hop p family bytes a on shows)
    by Next kind = goes (on.next kind) (next_of x) refl
    by Replace kind = elim (cases_Bool (goes_on e)) [
      | inl is ↦ goes is (next_of x) refl
      | inr stays ↦ elim (cases_Bool (may_lack x)) [
        | inl lacks ↦ along_last e allow t x hop p a on (last_replace e x a.place on kind lacks)
        | inr needs ↦ absurd (refused reasons.BadSegments (header_len + segments_left_at)
            (sym (along_packed e allow t x hop p a on stays kind needs) ∙ shows))
      ]
    ]

-- what is exposed is the packet inside, in the last container
pub along_exposes : (e : SidEntry) (allow : List ℕ) (t : Tunnel) (x : ListPlace) (hop : ℕ) (p : Packet) (family : Family) (bytes : List ℕ)
    → Along t x hop p → StandsOn e (active x) → at_sid e allow p ≡ Exposed family bytes
    → (behind_of x ≡ []) × (exposes e (inner_kind t.inner) ≡ true) × (family ≡ t.inner) × (bytes ≡ t.bytes)
along_exposes e allow t x hop p family bytes a on shows =
    let last = along_only_last e allow t x hop p family bytes a on shows in
    let (opens, same, whole) = by (exposes e (inner_kind t.inner)) (is_allowed allow (inner_kind t.inner))
    (sym (exposed_end e allow t x hop p family bytes a on shows) ∙ shows) in
    (last, opens, same, whole)
  where
    by : (b takes : Bool)
        → (if b then Exposed t.inner t.bytes
        else if takes then Delivered (form t x (a.routed && not e.usp) hop)
        else Refused reasons.UpperLayer (inner_at t a.routed)) ≡ Exposed family bytes
        → (b ≡ true) × (family ≡ t.inner) × (bytes ≡ t.bytes)
    by true takes is = (refl, cc, cc)
    by false true is = cc
    by false false is = cc

-- ---- the SIDs of the list, one after the other

pub sids_first : (cs : List Container) (x : ListPlace) → first_of cs ≡ Some x → sids_from x ≡ sids_in cs
sids_first [] x e = cc
sids_first (Full f fs ∷ cs) x e = to_place (λ y. sids_from y ≡ sids_in (Full f fs ∷ cs)) (InFull f fs cs) x e refl
sids_first (Packed f fs ∷ cs) x e = to_place (λ y. sids_from y ≡ sids_in (Packed f fs ∷ cs)) (InPacked [] f fs cs) x e refl

pub sids_next : (x y : ListPlace) → next_of x ≡ Some y → sids_from x ≡ active x ∷ sids_from y
sids_next (InFull s [] cs) y e = ap (λ xs. s ∷ xs) (sym (sids_first cs y e))
sids_next (InFull s (u ∷ us) cs) y e =
    to_place (λ z. sids_from (InFull s (u ∷ us) cs) ≡ s ∷ sids_from z) (InFull u us cs) y e refl
sids_next (InPacked bs s [] cs) y e = ap (λ xs. s ∷ xs) (sym (sids_first cs y e))
sids_next (InPacked bs s (u ∷ us) cs) y e =
    to_place (λ z. sids_from (InPacked bs s (u ∷ us) cs) ≡ s ∷ sids_from z) (InPacked (bs ++ s ∷ []) u us cs) y e refl

pub sids_last : (x : ListPlace) → next_of x ≡ None → sids_from x ≡ active x ∷ []
sids_last (InFull s [] []) e = refl
sids_last (InFull s [] (c ∷ cs)) e = cc
sids_last (InFull s (u ∷ us) cs) e = cc
sids_last (InPacked bs s [] []) e = refl
sids_last (InPacked bs s [] (c ∷ cs)) e = cc
sids_last (InPacked bs s (u ∷ us) cs) e = cc

active_first : (x : ListPlace) → (ss : List ListSid) × (sids_from x ≡ active x ∷ ss)
active_first (InFull s ss cs) = (ss ++ sids_in cs, refl)
active_first (InPacked bs s ss cs) = (ss ++ sids_in cs, refl)

-- ---- rows of executions

sent_along : (t : Tunnel) (x : ListPlace) (p q : Packet) → Along t x p.hop_limit p → IsSent p q → Along t x q.hop_limit q
sent_along t x p q a sent =
    subst (λ (m : Packet). Along t x q.hop_limit m) (sym sent.others) (along_sent t x p.hop_limit q.hop_limit p a)

pub row_along : (t : Tunnel) (x : ListPlace) (p q : Packet) (es : List Execution) → Along t x p.hop_limit p → StandInOrder es (sids_from x)
    → Executes p es q
    → (z : ListPlace) × (after_next (length es) x ≡ Some z) × Along t z q.hop_limit q × (q.hop_limit + length es ≤ p.hop_limit)
row_along t x p q [] a stand run =
    let less = run.hop_limit in
    (x, refl, sent_along t x p q a run, omega arith)
row_along t x p q (e ∷ es) a stand (before, after, sent, step, run) =
    let (ss, first) = active_first x in
    let head : StandsOn e.sid (active x) × StandInOrder es ss = subst (StandInOrder (e ∷ es)) first stand in
    let here = sent_along t x p before a sent in
    let (high, y, to, there) = along_only e.sid e.allow t x before.hop_limit before after here head.0 step in
    let hop : after.hop_limit ≡ before.hop_limit - 1 = along_hop t y (before.hop_limit - 1) after there in
    let own : Along t y after.hop_limit after = subst (λ n. Along t y n after) (sym hop) there in
    let rest : StandsOn e.sid (active x) × StandInOrder es (sids_from y) =
    subst (StandInOrder (e ∷ es)) (sids_next x y to) stand in
    let (z, end, along, few) = row_along t y after q es own rest.1 run in
    let less = sent.hop_limit in
    (z, ap (option_and_then (after_next (length es))) to ∙ end, along, omega arith)
