-- Steps over the segment routing header of a packet that is on its way in a tunnel.
use Rattle.std.proofs.Common.{◌≡◌, ℕ, ◌+◌, ◌-◌, ◌*◌, ◌/◌, ◌^◌, ◌<◌, ◌≤◌, Bool, true, false, not, ◌==◌, ◌&&◌, nat_lt, nat_le, if◌then◌else◌, List, [], ◌∷◌, ◌++◌, length, drop, flat_map, slice_index, All, None, refl, sym, ◌∙◌, ap, arith, inl, inr, length-append}
use Rattle.std.proofs.lemmas.Bool.{cases_Bool, or_from, le-ltb, le-leb, lt-leb, ne_eqb, eqb-true, eqb-false}
use Rattle.std.proofs.lemmas.List.{append-nil, drop_all, get_or-append-add}
use Rattle.srv6_rules.specs.declared.reason.Reason.TheVariants as reasons
use Rattle.srv6_rules.specs.declared.sid.SidEntry.{SidEntry}
use Rattle.srv6_rules.specs.declared.compression.Compression.{Compression}
use Rattle.srv6_rules.specs.Behaviours.{goes_on}
use Rattle.srv6_rules.specs.Packet.{Packet, header_len, address_bytes, address_number}
use Rattle.srv6_rules.specs.Srh.{entry_of, tlv_bytes}
use Rattle.srv6_rules.specs.Areas.{area_fault, tlv_fault, tlvs_fault}
use Rattle.srv6_rules.specs.CompressedSteps.{Move, Moved, Dropped, compression_of, is_replace, shifts, lacks_entry, is_ended, has_bad_list, index_in, move_of, moved, replace_step}
use Rattle.srv6_rules.specs.Endpoint.{Endpoint, Onward, Refused, outcome_without, after_step, has_bad_segments, next_segment, at_sid, by_replace_step}
use Rattle.srv6_rules.specs.Encapsulation.{segment_list}
use Rattle.srv6_rules.proofs.PublicLaws.{length_entries, entry_at, whole_steps, packed_steps}
use Rattle.sid_list_theory.specs.ListPlaces.{Tunnel, header_with, on_way}
use Rattle.sid_list_theory.proofs.SidListSteps.{header_in, read_back, header_out, at_whole, at_packed, upper}

-- ---- the header

-- the entry between those in front of it and those after it
pub entry_is : (t : Tunnel) (left i v : ℕ) (front rest : List ℕ) → segment_list t.encapsulation ≡ front ++ v ∷ rest → length front ≡ i
    → All (λ a. a < 2 ^ 128) (segment_list t.encapsulation) → entry_of (header_with t left) i ≡ v
entry_is t left i v front rest split place all =
    let list : List ℕ = segment_list t.encapsulation in
    let long : length list ≡ length front + length (v ∷ rest) = ap length split ∙ length-append front (v ∷ rest) in
    let at : i ≡ length front + 0 = omega arith in
    ap (λ xs. address_number (drop (16 * i) xs)) (sym (append-nil (flat_map address_bytes list)))
    ∙ entry_at list [] i (omega arith) all
    ∙ ap (λ xs. slice_index xs i) split
    ∙ ap (slice_index (front ++ v ∷ rest)) at
    ∙ get_or-append-add front (v ∷ rest) 0 0

module _ (t : Tunnel) (left : ℕ) (some : 0 < length (segment_list t.encapsulation)) where
  no_fault : (at : ℕ) → tlvs_fault at (header_with t left) ≡ None
  no_fault at =
      let list : List ℕ = segment_list t.encapsulation in
      let all : length (flat_map address_bytes list) ≡ 16 * length list = length_entries list in
      let none : tlv_bytes (header_with t left) ≡ [] =
      drop_all (16 * (length list - 1 + 1)) (flat_map address_bytes list) (omega arith) in
      ap (area_fault tlv_fault 0 (at + 8 + 16 * (length list - 1 + 1))) none

  good_segments : left ≤ length (segment_list t.encapsulation) → has_bad_segments (header_with t left) ≡ false
  good_segments within =
      let n : ℕ = length (segment_list t.encapsulation) in
      or_from (nat_lt (2 * n / 2) (n - 1 + 1)) (nat_lt (n - 1 + 1) left) (le-ltb (2 * n / 2) (n - 1 + 1) (omega arith))
      (le-ltb (n - 1 + 1) left (omega arith))

  -- Segments Left is in use in the step of REPLACE-CSID
  good_list : (c : Compression) (d : ℕ) → left ≤ length (segment_list t.encapsulation)
      → (left ≡ length (segment_list t.encapsulation) → index_in c d ≡ 0) → has_bad_list c (header_with t left) d ≡ false
  good_list c d within most =
      let n : ℕ = length (segment_list t.encapsulation) in
      or_from (nat_lt (2 * n / 2) (n - 1 + 1)) (nat_lt (if index_in c d == 0 then n - 1 + 1 else n - 1) left)
      (le-ltb (2 * n / 2) (n - 1 + 1) (omega arith))
      (elim (cases_Bool (index_in c d == 0)) [
        | inl zero_index ↦ rw zero_index (le-ltb (n - 1 + 1) left (omega arith))
        | inr other ↦ rw other (le-ltb (n - 1) left (below other))
      ])
    where
      below : (index_in c d == 0) ≡ false → left ≤ length (segment_list t.encapsulation) - 1
      below other = elim (cases_Bool (left == length (segment_list t.encapsulation))) [
        | inl same ↦ absurd
            (eqb-false (index_in c d) 0 other (most (eqb-true left (length (segment_list t.encapsulation)) same)))
        | inr less ↦ let apart = eqb-false left (length (segment_list t.encapsulation)) less in omega arith
      ]

  pub there : (c : Compression) (d : ℕ) → lacks_entry c (header_with t left) d ≡ false
  there c d =
      let n : ℕ = length (segment_list t.encapsulation) in
      let entries : (2 * n / 2 == 0) ≡ false = ne_eqb (2 * n / 2) 0 (omega arith) in
      lacks (left == 0) (index_in c d == 0) (2 * n / 2 == 0) entries
    where
      lacks : (x y z : Bool) → z ≡ false → (x && (not y && z)) ≡ false
      lacks true true z none = refl
      lacks true false z none = none
      lacks false y z none = refl

-- ---- whole segments

pub step_out : (t : Tunnel) (was left hop destination : ℕ) (out : Bool)
    → (if out then outcome_without (header_in t was) (Onward (on_way t true left hop destination))
    else Onward (on_way t true left hop destination))
    ≡ Onward (on_way t (not out) left hop destination)
step_out t was left hop destination true = header_out t was left hop destination
step_out t was left hop destination false = refl

module _ (s : SidEntry) (allow : List ℕ) (t : Tunnel) (left hop destination : ℕ) (still : shifts (compression_of s) destination ≡ false)
    (whole : is_replace s.csid ≡ false) (goes : goes_on s ≡ true) where
  steps_whole : 0 < left → at_sid s allow (on_way t true left hop destination)
      ≡ after_step s (header_in t left) (next_segment (on_way t true left hop destination) header_len (header_with t left))
  steps_whole some =
      let p : Packet = on_way t true left hop destination in
      at_whole s allow t left hop destination still whole
      ∙ whole_steps s p (header_in t left) (upper s allow t left hop destination still true) (ne_eqb left 0 (omega arith)) goes
      ∙ ap (λ h. after_step s (header_in t left) (next_segment p header_len h)) (read_back t left)

  -- the next entry becomes the destination, and with PSP the header is taken out where no segment is left
  pub onward_whole : 0 < left → left ≤ length (segment_list t.encapsulation) → 1 < hop
      → at_sid s allow (on_way t true left hop destination)
      ≡ Onward (on_way t (not (s.psp && (left == 1))) (left - 1) (hop - 1) (entry_of (header_with t left) (left - 1)))
  onward_whole some within high =
      let p : Packet = on_way t true left hop destination in
      let q : Packet = on_way t true (left - 1) (hop - 1) (entry_of (header_with t left) (left - 1)) in
      let not_low : nat_le hop 1 ≡ false = lt-leb hop 1 high in
      let good = good_segments t left (omega arith) within in
      let faultless = no_fault t left (omega arith) header_len in
      let step : next_segment p header_len (header_with t left) ≡ Onward q = rw (not_low, good, faultless) refl in
      steps_whole some
      ∙ ap (after_step s (header_in t left)) step
      ∙ step_out t left (left - 1) (hop - 1) (entry_of (header_with t left) (left - 1)) (s.psp && (left == 1))

  pub tired_whole : 0 < left → hop ≤ 1 → at_sid s allow (on_way t true left hop destination) ≡ Refused reasons.HopLimit 0
  tired_whole some low =
      let p : Packet = on_way t true left hop destination in
      let is_low : nat_le hop 1 ≡ true = le-leb hop 1 low in
      let step : next_segment p header_len (header_with t left) ≡ Refused reasons.HopLimit 0 = rw is_low refl in
      steps_whole some ∙ ap (after_step s (header_in t left)) step ∙ refused (s.psp && (left == 1))
    where
      refused : (b : Bool) → (if b then outcome_without (header_in t left) (Refused reasons.HopLimit 0) else Refused reasons.HopLimit 0)
          ≡ Refused reasons.HopLimit 0
      refused true = refl
      refused false = refl

-- ---- packed segments

module _ (s : SidEntry) (allow : List ℕ) (t : Tunnel) (left hop destination : ℕ) (still : shifts (compression_of s) destination ≡ false)
    (packed : is_replace s.csid ≡ true) (goes : goes_on s ≡ true) where
  steps_packed : at_sid s allow (on_way t true left hop destination)
      ≡ by_replace_step s (header_in t left) (upper s allow t left hop destination still true)
      (replace_step (compression_of s) (on_way t true left hop destination) header_len (header_with t left))
  steps_packed =
      let p : Packet = on_way t true left hop destination in
      let end : Endpoint = upper s allow t left hop destination still true in
      at_packed s allow t left hop destination still packed
      ∙ packed_steps s p (header_in t left) end goes
      ∙ ap (λ h. by_replace_step s (header_in t left) end (replace_step (compression_of s) p header_len h)) (read_back t left)

  -- the move's segments and destination, and with PSP the header is taken out where no segment is left then
  pub onward_packed : (m : Move) → move_of (compression_of s) (header_with t left) destination ≡ m
      → is_ended (compression_of s) (header_with t left) left destination ≡ false → 0 < length (segment_list t.encapsulation)
      → left ≤ length (segment_list t.encapsulation)
      → (left ≡ length (segment_list t.encapsulation) → index_in (compression_of s) destination ≡ 0) → 1 < hop
      → at_sid s allow (on_way t true left hop destination)
      ≡ Onward (on_way t (not (s.psp && m.ended)) m.segments_left (hop - 1) m.destination)
  onward_packed m is going some within most high =
      let c : Compression = compression_of s in
      let p : Packet = on_way t true left hop destination in
      let h = header_with t left in
      let is_there = there t left some c destination in
      let not_low : nat_le hop 1 ≡ false = lt-leb hop 1 high in
      let good = good_list t left some c destination within most in
      let faultless = no_fault t left some header_len in
      let step : replace_step c p header_len h ≡ Moved (moved p header_len (move_of c h destination)) (move_of c h destination).ended =
      rw (is_there, going, not_low, good, faultless) refl in
      steps_packed
      ∙ ap (by_replace_step s (header_in t left) (upper s allow t left hop destination still true)) step
      ∙ ap (λ (n : Move). by_replace_step s (header_in t left) (upper s allow t left hop destination still true)
      (Moved (moved p header_len n) n.ended)) is
      ∙ step_out t left m.segments_left (hop - 1) m.destination (s.psp && m.ended)

  pub tired_packed : is_ended (compression_of s) (header_with t left) left destination ≡ false
      → 0 < length (segment_list t.encapsulation) → hop ≤ 1
      → at_sid s allow (on_way t true left hop destination) ≡ Refused reasons.HopLimit 0
  tired_packed going some low =
      let c : Compression = compression_of s in
      let p : Packet = on_way t true left hop destination in
      let h = header_with t left in
      let is_there = there t left some c destination in
      let is_low : nat_le hop 1 ≡ true = le-leb hop 1 low in
      let step : replace_step c p header_len h ≡ Dropped (record { reason = reasons.HopLimit; at = 0 }) =
      rw (is_there, going, is_low) refl in
      steps_packed ∙ ap (by_replace_step s (header_in t left) (upper s allow t left hop destination still true)) step
