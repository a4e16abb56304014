-- A SID where no segment is left, and one that does not go on.
use Rattle.std.proofs.Common.{◌≡◌, inl, inr, ℕ, ◌+◌, ◌<◌, Bool, true, false, not, ◌&&◌, true≢false, if◌then◌else◌, List, [], refl, sym, ◌∙◌, ap, arith}
use Rattle.std.proofs.lemmas.Bool.{cases_Bool, ne_eqb}
use Rattle.srv6_rules.specs.declared.sid.Csid.{Csid}
use Rattle.srv6_rules.specs.declared.sid.Csid.TheVariants.{Plain, Next, Replace}
use Rattle.srv6_rules.specs.declared.family.Family.{Family}
use Rattle.srv6_rules.specs.declared.reason.Reason.TheVariants as reasons
use Rattle.srv6_rules.specs.declared.sid.SidEntry.{SidEntry}
use Rattle.srv6_rules.specs.declared.compression.Compression.{Compression}
use Rattle.srv6_rules.specs.Behaviours.{goes_on, exposes}
use Rattle.srv6_rules.specs.Packet.{Packet, header_len}
use Rattle.srv6_rules.specs.Srh.{Srh, segments_left_at}
use Rattle.srv6_rules.specs.Chain.{from_place}
use Rattle.srv6_rules.specs.Compressed.{index_of}
use Rattle.srv6_rules.specs.CompressedTerms.{IsReplaceSid}
use Rattle.srv6_rules.specs.CompressedSteps.{AtEnd, compression_of, csid_len_of, is_replace, shifts, lacks_entry, is_ended, index_in, replace_step, is_at_end}
use Rattle.srv6_rules.specs.Endpoint.{Endpoint, Exposed, Delivered, Refused, outcome_without, after_last, is_allowed, at_sid, at_last_upper, by_replace_step}
use Rattle.srv6_rules.specs.Policies.{inner_kind}
use Rattle.srv6_rules.proofs.PublicLaws.{index_back_law, whole_last, whole_refuses, packed_steps, packed_last, packed_refuses}
use Rattle.sid_list_spec.specs.SegmentLists.{ListSid, Container, csid_len, full_value}
use Rattle.sid_list_theory.specs.SegmentListsTerms.{compression, IsFlatSid}
use Rattle.sid_list_theory.specs.ListPlaces.{Tunnel, header_with, on_way, inner_at, StandsOn, IsInPacked}
use Rattle.sid_list_theory.proofs.Sids.{in_block, replace_sid, width_in, full_one, count_positive}
use Rattle.sid_list_theory.proofs.SidListSteps.{header_in, upper_at, own_family, inner_bytes, read_back, header_out_delivered, at_whole, at_packed, at_unrouted, upper}
use Rattle.sid_list_theory.proofs.Goings.{still_plain, still_replace}
use Rattle.sid_list_theory.proofs.Packs.{flat_own}

-- ---- what the upper layer is

pub upper_is : (e : SidEntry) (allow : List ℕ) (t : Tunnel) (routed : Bool) (left hop d : ℕ)
    → at_last_upper e allow (on_way t routed left hop d) (upper_at t routed)
    ≡ (if exposes e (inner_kind t.inner) then Exposed t.inner t.bytes
    else if is_allowed allow (inner_kind t.inner) then Delivered (on_way t routed left hop d)
    else Refused reasons.UpperLayer (inner_at t routed))
upper_is e allow t routed left hop d =
    let to : Family → List ℕ → Endpoint = λ family bytes.
    if exposes e (inner_kind t.inner) then Exposed family bytes
    else if is_allowed allow (inner_kind t.inner) then Delivered (on_way t routed left hop d)
    else Refused reasons.UpperLayer (inner_at t routed) in
    ap (λ family. to family (from_place (on_way t routed left hop d) (inner_at t routed))) (own_family t.inner)
    ∙ ap (to t.inner) (inner_bytes t routed left hop d)

-- after the routing header, which USP takes out
last_is : (e : SidEntry) (allow : List ℕ) (t : Tunnel) (left hop d : ℕ) (shows takes usp : Bool)
    → (if usp then outcome_without (header_in t left) (if shows then Exposed t.inner t.bytes
    else if takes then Delivered (on_way t true left hop d)
    else Refused reasons.UpperLayer (inner_at t true))
    else (if shows then Exposed t.inner t.bytes
    else if takes then Delivered (on_way t true left hop d)
    else Refused reasons.UpperLayer (inner_at t true)))
    ≡ (if shows then Exposed t.inner t.bytes
    else if takes then Delivered (on_way t (true && not usp) left hop d)
    else Refused reasons.UpperLayer (inner_at t true))
last_is e allow t left hop d true takes true = refl
last_is e allow t left hop d true takes false = refl
last_is e allow t left hop d false true true = header_out_delivered t left left hop d
last_is e allow t left hop d false true false = refl
last_is e allow t left hop d false false true = refl
last_is e allow t left hop d false false false = refl

module _ (e : SidEntry) (allow : List ℕ) (t : Tunnel) (hop d : ℕ) (still : shifts (compression_of e) d ≡ false) where
  abbrev the_end : Bool → Endpoint
  the_end routed = if exposes e (inner_kind t.inner) then Exposed t.inner t.bytes
      else if is_allowed allow (inner_kind t.inner) then Delivered (on_way t (routed && not e.usp) 0 hop d)
      else Refused reasons.UpperLayer (inner_at t routed)

  after_last_law : after_last e (header_in t 0) (upper e allow t 0 hop d still true) ≡ the_end true
  after_last_law =
      ap (after_last e (header_in t 0)) (upper_is e allow t true 0 hop d)
      ∙ last_is e allow t 0 hop d (exposes e (inner_kind t.inner)) (is_allowed allow (inner_kind t.inner)) e.usp

  pub ends_unrouted : at_sid e allow (on_way t false 0 hop d) ≡ the_end false
  ends_unrouted = at_unrouted e allow t 0 hop d still ∙ upper_is e allow t false 0 hop d

  pub ends_whole : is_replace e.csid ≡ false → at_sid e allow (on_way t true 0 hop d) ≡ the_end true
  ends_whole whole =
      at_whole e allow t 0 hop d still whole
      ∙ whole_last e (on_way t true 0 hop d) (header_in t 0) (upper e allow t 0 hop d still true) refl
      ∙ after_last_law

  -- at its end a header of packed segments is passed over, whether the SID goes on or not
  pub ends_packed : is_replace e.csid ≡ true → lacks_entry (compression_of e) (header_with t 0) d ≡ false
      → is_ended (compression_of e) (header_with t 0) 0 d ≡ true → at_sid e allow (on_way t true 0 hop d) ≡ the_end true
  ends_packed packed is_there ended =
      let p : Packet = on_way t true 0 hop d in
      let c : Compression = compression_of e in
      let end : Endpoint = upper e allow t 0 hop d still true in
      let step : replace_step c p header_len (header_with t 0) ≡ AtEnd = rw (is_there, ended) refl in
      let at_end : is_at_end c (header_with t 0) d ≡ true = rw (is_there, ended) refl in
      at_packed e allow t 0 hop d still packed
      ∙ elim (cases_Bool (goes_on e)) [
        | inl goes ↦ packed_steps e p (header_in t 0) end goes
            ∙ ap (λ h. by_replace_step e (header_in t 0) end (replace_step c p header_len h)) (read_back t 0)
            ∙ ap (by_replace_step e (header_in t 0) end) step
        | inr stays ↦ packed_last e p (header_in t 0) end stays (ap (λ h. is_at_end c h d) (read_back t 0) ∙ at_end)
      ]
      ∙ after_last_law

-- ---- a SID that does not go on

module _ (e : SidEntry) (allow : List ℕ) (t : Tunnel) (left hop d : ℕ) (still : shifts (compression_of e) d ≡ false)
    (stays : goes_on e ≡ false) where
  pub refuses_whole : is_replace e.csid ≡ false → 0 < left
      → at_sid e allow (on_way t true left hop d) ≡ Refused reasons.BadSegments (header_len + segments_left_at)
  refuses_whole whole some =
      at_whole e allow t left hop d still whole
      ∙ whole_refuses e (on_way t true left hop d) (header_in t left) (upper e allow t left hop d still true)
      (ne_eqb left 0 (omega arith)) stays

  pub refuses_packed : is_replace e.csid ≡ true → is_ended (compression_of e) (header_with t left) left d ≡ false
      → at_sid e allow (on_way t true left hop d) ≡ Refused reasons.BadSegments (header_len + segments_left_at)
  refuses_packed packed going =
      let c : Compression = compression_of e in
      let not_end : is_at_end c (header_with t left) d ≡ false = rw going (and_false (not (lacks_entry c (header_with t left) d))) in
      at_packed e allow t left hop d still packed
      ∙ packed_refuses e (on_way t true left hop d) (header_in t left) (upper e allow t left hop d still true) stays
      (ap (λ h. is_at_end c h d) (read_back t left) ∙ not_end)
    where
      and_false : (b : Bool) → (b && false) ≡ false
      and_false true = refl
      and_false false = refl

-- ---- a SID of a node at a place

-- SIDs in a REPLACE container have no NEXT-CSID
pub never_next : (bs : List ListSid) (s : ListSid) (ss : List ListSid) (cs : List Container) → IsInPacked bs s ss cs → s.csid ≡ Next → ⊥
never_next bs s ss cs is next = elim (in_block s is.block (flat_own bs s ss cs is) is.own_block).kind [
  | inl plain ↦ clash (sym plain ∙ next)
  | inr same ↦ clash_replace (sym (same ∙ is.kind) ∙ next)
]
  where
    clash : Plain ≡ Next → ⊥
    clash e = cc

    clash_replace : Replace ≡ Next → ⊥
    clash_replace e = cc

-- it doesn't shift at the last SID of a container
pub still_last : (e : SidEntry) (s : ListSid) (d : ℕ) → (s.csid ≡ Next → shifts (compression s) d ≡ false) → StandsOn e s
    → shifts (compression_of e) d ≡ false
still_last e s d last on = by e.csid refl
  where
    by : (k : Csid) → e.csid ≡ k → shifts (compression_of e) d ≡ false
    by Plain is = still_plain (compression_of e) d is
    by Replace is = still_replace (compression_of e) d is
    by Next is =
        let same : e.csid ≡ s.csid = on.flavour (on.next is) in
        let len : e.prefix.len ≡ s.prefix.len = ap (λ p. p.len) on.prefix in
        ap (λ (k : Csid). shifts (record { kind = k; prefix_len = e.prefix.len; block_len = e.block_len }) d) same
        ∙ ap (λ n. shifts (record { kind = s.csid; prefix_len = n; block_len = e.block_len }) d) len
        ∙ ap (λ n. shifts (record { kind = s.csid; prefix_len = s.prefix.len; block_len = n }) d) on.block_len
        ∙ last (sym same ∙ is)

-- nor does one that stays
pub still_stays : (e : SidEntry) (s : ListSid) (d : ℕ) → StandsOn e s → goes_on e ≡ false → shifts (compression_of e) d ≡ false
still_stays e s d on stays = by e.csid refl
  where
    by : (k : Csid) → e.csid ≡ k → shifts (compression_of e) d ≡ false
    by Plain is = still_plain (compression_of e) d is
    by Replace is = still_replace (compression_of e) d is
    by Next is = absurd (true≢false (sym (on.next is) ∙ stays))

-- the widths of both are the same
pub same_width : (e : SidEntry) (s : ListSid) → StandsOn e s → csid_len_of (compression_of e) ≡ csid_len s
same_width e s on =
    let len : e.prefix.len ≡ s.prefix.len = ap (λ p. p.len) on.prefix in
    let block = on.block_len in
    omega arith

pub same_end : (e : SidEntry) (s : ListSid) (h : Srh) (left d : ℕ) → StandsOn e s
    → is_ended (compression_of e) h left d ≡ is_ended (compression s) h left d
same_end e s h left d on =
    let len : e.prefix.len ≡ s.prefix.len = ap (λ p. p.len) on.prefix in
    ap (λ n. is_ended (record { kind = e.csid; prefix_len = n; block_len = e.block_len }) h left d) len
    ∙ ap (λ n. is_ended (record { kind = e.csid; prefix_len = s.prefix.len; block_len = n }) h left d) on.block_len

-- a SID of REPLACE-CSID on a SID's own value has index 0
pub index_own : (e : SidEntry) (s : ListSid) → StandsOn e s → e.csid ≡ Replace → IsFlatSid s
    → index_in (compression_of e) (full_value s []) ≡ 0
index_own e s on replace flat = elim on.kind [
  | inl plain ↦ absurd (clash (sym plain ∙ replace))
  | inr (b, own, same) ↦
      let kind : b.kind ≡ Replace = sym same ∙ replace in
      let sid : IsReplaceSid b.prefix b.csid_len s.prefix = replace_sid s b flat own kind in
      let sum : s.prefix.value ≡ s.prefix.value + 0 = omega arith in
      ap (λ n. index_of n (full_value s [])) (same_width e s on ∙ width_in s b flat own kind)
      ∙ ap (index_of b.csid_len) (full_one s ∙ sum)
      ∙ index_back_law b.prefix s.prefix b.csid_len 0 sid (count_positive b.csid_len sid.csid)
]
  where
    clash : Plain ≡ Replace → ⊥
    clash e = cc
