-- SIDs of nodes at places: where no segment is left, and those that do not go on.
use Rattle.std.proofs.Common.{◌≡◌, inl, inr, ℕ, suc, ◌+◌, ◌-◌, Bool, true, false, not, ◌&&◌, if◌then◌else◌, List, [], ◌∷◌, ◌++◌, length, Some, None, refl, sym, ◌∙◌, ap, arith}
use Rattle.std.proofs.lemmas.Bool.{cases_Bool, cases_lt, ne_eqb}
use Rattle.std.proofs.lemmas.List.Elements.{All-head}
use Rattle.srv6_rules.specs.declared.sid.Csid.{Csid}
use Rattle.srv6_rules.specs.declared.sid.Csid.TheVariants.{Plain, Next, Replace}
use Rattle.srv6_rules.specs.declared.family.Family.{Family}
use Rattle.srv6_rules.specs.declared.reason.Reason.TheVariants as reasons
use Rattle.srv6_rules.specs.declared.sid.SidEntry.{SidEntry}
use Rattle.srv6_rules.specs.Behaviours.{goes_on, exposes}
use Rattle.srv6_rules.specs.Packet.{Packet, header_len}
use Rattle.srv6_rules.specs.Srh.{segments_left_at}
use Rattle.srv6_rules.specs.CompressedSteps.{compression_of, is_replace, shifts, is_ended}
use Rattle.srv6_rules.specs.Endpoint.{Onward, Exposed, Delivered, Refused, is_allowed, at_sid}
use Rattle.srv6_rules.specs.Policies.{inner_kind}
use Rattle.sid_list_spec.specs.SegmentLists.{ListSid, Container, full_value, packed_value}
use Rattle.sid_list_theory.specs.SegmentListsTerms.{compression, IsFlatSid}
use Rattle.sid_list_theory.specs.ListPlaces.{ListPlace, InFull, InPacked, Tunnel, header_with, on_way, form, active, behind_of, next_of, entered, destination_of, may_lack, inner_at, at_the_end, StandsOn, IsPlace, IsInPacked, IsListed}
use Rattle.sid_list_theory.proofs.Advances.{there}
use Rattle.sid_list_theory.proofs.SegmentEntries.{long_enough}
use Rattle.sid_list_theory.proofs.Goings.{list_of, still_one, still_plain}
use Rattle.sid_list_theory.proofs.Packs.{ended_packed}
use Rattle.sid_list_theory.proofs.Nexts.{Leads, leads_next}
use Rattle.sid_list_theory.proofs.SidListEnds.{ends_unrouted, ends_whole, ends_packed, refuses_whole, refuses_packed, never_next, still_last, still_stays, same_end, index_own}

is_replace_true : (k : Csid) → is_replace k ≡ true → k ≡ Replace
is_replace_true Plain is = cc
is_replace_true Next is = cc
is_replace_true Replace is = refl

-- ---- at the last SID of a list

ends_full : (e : SidEntry) (allow : List ℕ) (t : Tunnel) (s : ListSid) (routed : Bool) (hop : ℕ) → StandsOn e s → IsFlatSid s
    → at_sid e allow (form t (InFull s [] []) routed hop) ≡ at_the_end e allow t (InFull s [] []) routed hop
ends_full e allow t s routed hop on flat = by routed
  where
    d : ℕ
    d = full_value s []

    still : shifts (compression_of e) (full_value s []) ≡ false
    still = still_last e s (full_value s []) (λ next. still_one s flat) on

    by : (b : Bool) → at_sid e allow (form t (InFull s [] []) b hop) ≡ at_the_end e allow t (InFull s [] []) b hop
    by false = ends_unrouted e allow t hop (full_value s []) still
    by true = elim (cases_Bool (is_replace e.csid)) [
      | inl packed ↦
          let zero_index = index_own e s on (is_replace_true e.csid packed) flat in
          ends_packed e allow t hop (full_value s []) still packed (rw zero_index refl) (rw zero_index refl)
      | inr whole ↦ ends_whole e allow t hop (full_value s []) still whole
    ]

ends_in_packed : (e : SidEntry) (allow : List ℕ) (t : Tunnel) (bs : List ListSid) (s : ListSid) (routed : Bool) (hop : ℕ)
    → StandsOn e s → IsInPacked bs s [] [] → IsListed (InPacked bs s [] []) (list_of t)
    → at_sid e allow (form t (InPacked bs s [] []) routed hop) ≡ at_the_end e allow t (InPacked bs s [] []) routed hop
ends_in_packed e allow t bs s routed hop on is listed = by routed
  where
    still : shifts (compression_of e) (destination_of (InPacked bs s [] [])) ≡ false
    still = still_last e s (destination_of (InPacked bs s [] [])) (λ next. absurd (never_next bs s [] [] is next)) on

    by : (b : Bool) → at_sid e allow (form t (InPacked bs s [] []) b hop) ≡ at_the_end e allow t (InPacked bs s [] []) b hop
    by false = ends_unrouted e allow t hop (destination_of (InPacked bs s [] [])) still
    by true = elim (cases_Bool (is_replace e.csid)) [
      | inl packed ↦
          let d : ℕ = destination_of (InPacked bs s [] []) in
          let long = long_enough (list_of t) listed.front (packed_value s.block (bs ++ s ∷ [])) [] listed.split in
          ends_packed e allow t hop d still packed (there t 0 (omega arith) (compression_of e) d)
          (same_end e s (header_with t 0) 0 d on ∙ ended_packed t bs s [] [] listed.front is listed.split listed.addresses)
      | inr whole ↦ ends_whole e allow t hop (destination_of (InPacked bs s [] [])) still whole
    ]

pub ends_last : (e : SidEntry) (allow : List ℕ) (t : Tunnel) (x : ListPlace) (routed : Bool) (hop : ℕ) → StandsOn e (active x) → IsPlace x
    → IsListed x (list_of t) → next_of x ≡ None → at_sid e allow (form t x routed hop) ≡ at_the_end e allow t x routed hop
ends_last e allow t (InFull s [] []) routed hop on is listed last =
    ends_full e allow t s routed hop on (All-head IsFlatSid s [] is.flat)
ends_last e allow t (InFull s [] (c ∷ cs)) routed hop on is listed last = cc
ends_last e allow t (InFull s (u ∷ us) cs) routed hop on is listed last = cc
ends_last e allow t (InPacked bs s [] []) routed hop on is listed last = ends_in_packed e allow t bs s routed hop on is listed
ends_last e allow t (InPacked bs s [] (c ∷ cs)) routed hop on is listed last = cc
ends_last e allow t (InPacked bs s (u ∷ us) cs) routed hop on is listed last = cc

-- ---- a SID that is not compressed, anywhere in the last container

pub ends_plain : (e : SidEntry) (allow : List ℕ) (t : Tunnel) (x : ListPlace) (routed : Bool) (hop : ℕ) → e.csid ≡ Plain → behind_of x ≡ []
    → at_sid e allow (form t x routed hop) ≡ at_the_end e allow t x routed hop
ends_plain e allow t x routed hop plain last =
    let n : length (behind_of x) ≡ 0 = ap length last in
    let d : ℕ = destination_of x in
    let still = still_plain (compression_of e) d plain in
    ap (λ k. at_sid e allow (on_way t routed k hop d)) n
    ∙ by d still routed
    ∙ ap (λ k. if exposes e (inner_kind t.inner) then Exposed t.inner t.bytes
    else if is_allowed allow (inner_kind t.inner) then Delivered (on_way t (routed && not e.usp) k hop d)
    else Refused reasons.UpperLayer (inner_at t routed)) (sym n)
  where
    by : (d : ℕ) → shifts (compression_of e) d ≡ false → (b : Bool) → at_sid e allow (on_way t b 0 hop d)
        ≡ (if exposes e (inner_kind t.inner) then Exposed t.inner t.bytes
        else if is_allowed allow (inner_kind t.inner) then Delivered (on_way t (b && not e.usp) 0 hop d)
        else Refused reasons.UpperLayer (inner_at t b))
    by d still false = ends_unrouted e allow t hop d still
    by d still true = ends_whole e allow t hop d still (ap is_replace plain)

-- ---- a SID that does not go on

-- the header is there before the last container
needs_before : (x : ListPlace) (c : Container) (cs : List Container) → behind_of x ≡ c ∷ cs → may_lack x ≡ false
needs_before (InFull s ss []) c cs e = cc
needs_before (InFull s ss (d ∷ ds)) c cs e = refl
needs_before (InPacked bs s [] []) c cs e = cc
needs_before (InPacked bs s [] (d ∷ ds)) c cs e = refl
needs_before (InPacked bs s (u ∷ us) ds) c cs e = refl

pub is_there : (routed needs : Bool) → (routed ≡ false → needs ≡ true) → needs ≡ false → routed ≡ true
is_there true needs lacking never = refl
is_there false needs lacking never = sym never ∙ lacking refl

pub refuses_before : (e : SidEntry) (allow : List ℕ) (t : Tunnel) (x : ListPlace) (routed : Bool) (hop : ℕ) (c : Container)
    (cs : List Container) → goes_on e ≡ false → StandsOn e (active x) → (routed ≡ false → may_lack x ≡ true) → behind_of x ≡ c ∷ cs
    → at_sid e allow (form t x routed hop) ≡ Refused reasons.BadSegments (header_len + segments_left_at)
refuses_before e allow t x routed hop c cs stays on lacking more =
    let n : length (behind_of x) ≡ suc (length cs) = ap length more in
    let d : ℕ = destination_of x in
    let still = still_stays e (active x) d on stays in
    let routed_is = is_there routed (may_lack x) lacking (needs_before x c cs more) in
    let going : is_ended (compression_of e) (header_with t (suc (length cs))) (suc (length cs)) d ≡ false =
    rw (ne_eqb (suc (length cs)) 0 (omega arith)) refl in
    ap (λ b. at_sid e allow (form t x b hop)) routed_is
    ∙ ap (λ k. at_sid e allow (on_way t true k hop d)) n
    ∙ elim (cases_Bool (is_replace e.csid)) [
      | inl packed ↦ refuses_packed e allow t (suc (length cs)) hop d still stays packed going
      | inr whole ↦ refuses_whole e allow t (suc (length cs)) hop d still stays whole (omega arith)
    ]

-- one of REPLACE-CSID at a CSID that is not the last
pub refuses_in : (e : SidEntry) (allow : List ℕ) (t : Tunnel) (x : ListPlace) (routed : Bool) (hop : ℕ) → goes_on e ≡ false → e.csid
    ≡ Replace
    → StandsOn e (active x) → IsPlace x → IsListed x (list_of t) → (routed ≡ false → may_lack x ≡ true) → may_lack x ≡ false
    → at_sid e allow (form t x routed hop) ≡ Refused reasons.BadSegments (header_len + segments_left_at)
refuses_in e allow t (InFull s ss []) routed hop stays replace on is listed lacking needs = cc
refuses_in e allow t (InFull s ss (c ∷ cs)) routed hop stays replace on is listed lacking needs =
    refuses_before e allow t (InFull s ss (c ∷ cs)) routed hop c cs stays on lacking refl
refuses_in e allow t (InPacked bs s ss cs) routed hop stays replace on is listed lacking needs =
    let x : ListPlace = InPacked bs s ss cs in
    let d : ℕ = destination_of x in
    let routed_is = is_there routed (may_lack x) lacking needs in
    ap (λ b. at_sid e allow (form t x b hop)) routed_is
    ∙ refuses_packed e allow t (length cs) hop d (still_stays e s d on stays) stays (ap is_replace replace)
    (same_end e s (header_with t (length cs)) (length cs) d on
    ∙ ended_packed t bs s ss cs listed.front is listed.split listed.addresses ∙ needs)

-- ---- what is exposed

pub as_active : (e : SidEntry) (s : ListSid) → StandsOn e s → goes_on e ≡ true → compression_of e ≡ compression s
as_active e s on goes =
    let len : e.prefix.len ≡ s.prefix.len = ap (λ p. p.len) on.prefix in
    ap (λ (k : Csid). record { kind = k; prefix_len = e.prefix.len; block_len = e.block_len }) (on.flavour goes)
    ∙ ap (λ n. record { kind = s.csid; prefix_len = n; block_len = e.block_len }) len
    ∙ ap (λ n. record { kind = s.csid; prefix_len = s.prefix.len; block_len = n }) on.block_len

some_next : (x : ListPlace) (c : Container) (cs : List Container) → behind_of x ≡ c ∷ cs → (y : ListPlace) × (next_of x ≡ Some y)
some_next (InFull s [] []) c cs e = cc
some_next (InFull s [] (d ∷ ds)) c cs e = (entered d ds, refl)
some_next (InFull s (u ∷ us) ds) c cs e = (InFull u us ds, refl)
some_next (InPacked bs s [] []) c cs e = cc
some_next (InPacked bs s [] (d ∷ ds)) c cs e = (entered d ds, refl)
some_next (InPacked bs s (u ∷ us) ds) c cs e = (InPacked (bs ++ s ∷ []) u us ds, refl)

leads_never_exposed : (e : SidEntry) (allow : List ℕ) (t : Tunnel) (x y : ListPlace) (routed : Bool) (hop : ℕ) (family : Family)
    (bytes : List ℕ) → Leads e allow t x y routed → at_sid e allow (form t x routed hop) ≡ Exposed family bytes → ⊥
leads_never_exposed e allow t x y routed hop family bytes leads shows = elim (cases_lt 1 hop) [
  | inl high ↦ onward_not (form t y _ (hop - 1)) (sym (leads.onward hop high) ∙ shows)
  | inr low ↦ refused_not (sym (leads.tired hop low) ∙ shows)
]
  where
    onward_not : (q : Packet) → Onward q ≡ Exposed family bytes → ⊥
    onward_not q e = cc

    refused_not : Refused reasons.HopLimit 0 ≡ Exposed family bytes → ⊥
    refused_not e = cc

-- a packet is exposed in the last container only
pub exposed_in_last : (e : SidEntry) (allow : List ℕ) (t : Tunnel) (x : ListPlace) (routed : Bool) (hop : ℕ) (family : Family)
    (bytes : List ℕ)
    → StandsOn e (active x) → IsPlace x → IsListed x (list_of t) → (routed ≡ false → may_lack x ≡ true)
    → at_sid e allow (form t x routed hop) ≡ Exposed family bytes → behind_of x ≡ []
exposed_in_last e allow t x routed hop family bytes on is listed lacking shows = by (behind_of x) refl
  where
    refused_not : Refused reasons.BadSegments (header_len + segments_left_at) ≡ Exposed family bytes → ⊥
    refused_not e = cc

    by : (cs : List Container) → behind_of x ≡ cs → behind_of x ≡ []
    by [] same = same
    by (c ∷ cs) same = absurd (elim (cases_Bool (goes_on e)) [
      | inl goes ↦
          let (y, to) = some_next x c cs same in
          leads_never_exposed e allow t x y routed hop family bytes
          (leads_next e allow t x y routed goes (as_active e (active x) on goes) is listed lacking to) shows
      | inr stays ↦ refused_not (sym (refuses_before e allow t x routed hop c cs stays on lacking same) ∙ shows)
    ])
