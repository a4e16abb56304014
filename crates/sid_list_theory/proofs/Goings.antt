-- A SID that goes on at a place that has a next one.
use Rattle.std.proofs.Common.{◌≡◌, ℕ, suc, ◌+◌, ◌-◌, ◌%◌, ◌^◌, ◌<◌, ◌≤◌, Bool, true, false, not, ◌==◌, ◌&&◌, nat_le, List, [], ◌∷◌, ◌++◌, length, map, reverse, All, Some, refl, sym, ◌∙◌, ap, subst, arith}
use Rattle.std.proofs.lemmas.Bool.{ne_eqb, lt-leb, le-leb}
use Rattle.std.proofs.lemmas.List.Elements.{All-head}
use Rattle.v6_addr.specs.Address.{PrefixValue}
use Rattle.srv6_rules.specs.declared.sid.Csid.TheVariants.{Plain, Replace}
use Rattle.srv6_rules.specs.declared.reason.Reason.TheVariants as reasons
use Rattle.srv6_rules.specs.declared.sid.SidEntry.{SidEntry}
use Rattle.srv6_rules.specs.declared.compression.Compression.{Compression}
use Rattle.srv6_rules.specs.Behaviours.{goes_on}
use Rattle.srv6_rules.specs.Packet.{Packet}
use Rattle.srv6_rules.specs.Srh.{Srh, entry_of}
use Rattle.srv6_rules.specs.Compressed.{argument_of, shift_of, csid_count, index_of}
use Rattle.srv6_rules.specs.CompressedTerms.{IsReplaceSid}
use Rattle.srv6_rules.specs.CompressedSteps.{Move, compression_of, csid_len_of, is_next, is_replace, shifts, shifted, is_ended, index_in, move_of}
use Rattle.srv6_rules.specs.CompressedStepsTerms.{IsEntryOf, index_behind}
use Rattle.srv6_rules.specs.Endpoint.{Onward, Refused, next_csid, at_sid}
use Rattle.srv6_rules.specs.Encapsulation.{segment_list}
use Rattle.srv6_rules.proofs.PublicLaws.{argument_zero, container_shift, entry_first, index_back_law}
use Rattle.sid_list_spec.specs.SegmentLists.{SidBlock, ListSid, Container, Full, Packed, block_len, csid_len, prefix_of, full_value, packed_value, values_of, IsFull, IsPacked}
use Rattle.sid_list_theory.specs.SegmentListsTerms.{compression, IsFlatSid}
use Rattle.sid_list_theory.specs.ListPlaces.{InFull, InPacked, Tunnel, header_with, on_way, form, may_lack}
use Rattle.sid_list_theory.proofs.Sids.{full_container, full_first, full_block, full_value_law, full_one, len_in, width_in, replace_sid, packed_entry_law, count_positive}
use Rattle.sid_list_theory.proofs.SidListSteps.{at_shifts}
use Rattle.sid_list_theory.proofs.Advances.{entry_is, onward_whole, onward_packed, tired_packed}
use Rattle.sid_list_theory.proofs.SegmentEntries.{listed_behind, length_behind, long_enough, left_one, left_packed}

abbrev pub list_of : Tunnel → List ℕ
list_of t = segment_list t.encapsulation

abbrev pub AreAddresses : List ℕ → Type 0
AreAddresses xs = All (λ a. a < 2 ^ 128) xs

-- ---- which SIDs shift

-- a SID with nothing after it in its container has no argument
pub still_one : (s : ListSid) → IsFlatSid s → shifts (compression s) (full_value s []) ≡ false
unfolding argument_of
still_one s flat =
    let clean : s.prefix.value % 2 ^ (128 - s.prefix.len) ≡ 0 = flat.prefix.2 in
    let none : full_value s [] % 2 ^ (128 - s.prefix.len) ≡ 0 = ap (λ n. n % 2 ^ (128 - s.prefix.len)) (full_one s) ∙ clean in
    rw none (and_false (is_next s.csid))
  where
    and_false : (b : Bool) → (b && false) ≡ false
    and_false true = refl
    and_false false = refl

pub still_plain : (c : Compression) (d : ℕ) → c.kind ≡ Plain → shifts c d ≡ false
still_plain c d plain = rw plain refl

pub still_replace : (c : Compression) (d : ℕ) → c.kind ≡ Replace → shifts c d ≡ false
still_replace c d replace = rw replace refl

pub shifts_more : (s u : ListSid) (us : List ListSid) → IsFull s (u ∷ us) → All IsFlatSid (s ∷ u ∷ us)
    → shifts (compression s) (full_value s (u ∷ us)) ≡ true
shifts_more s u us is flat =
    let (b, e, kind) = full_block s u us is flat in
    let next = full_first s u us is in
    let some : argument_of (full_value s (u ∷ us)) s.prefix.len ≡ 0 → ⊥ =
    λ none. some_of (prefix_of u) (map prefix_of us)
    ((argument_zero b.prefix s.prefix (map prefix_of (u ∷ us)) (full_container b s (u ∷ us) e is flat)).0
    (ap (λ n. argument_of n s.prefix.len) (sym (full_value_law b s (u ∷ us) e)) ∙ none)) in
    rw (next, ne_eqb (argument_of (full_value s (u ∷ us)) s.prefix.len) 0 some) refl
  where
    some_of : (x : PrefixValue) (xs : List PrefixValue) → (x ∷ xs) ≡ [] → ⊥
    some_of x xs e = cc

-- ---- the shift in a full container

pub shift_full : (s u : ListSid) (us : List ListSid) → IsFull s (u ∷ us) → All IsFlatSid (s ∷ u ∷ us)
    → shift_of (full_value s (u ∷ us)) (block_len s.block) s.prefix.len ≡ full_value u us
shift_full s u us is flat =
    let (b, e, kind) = full_block s u us is flat in
    let same : u.block ≡ Some b = All-head (λ (v : ListSid). v.block ≡ s.block) u us is.one_block ∙ e in
    ap (λ n. shift_of (full_value s (u ∷ us)) n s.prefix.len) (len_in s b e)
    ∙ ap (λ n. shift_of n b.prefix.len s.prefix.len) (full_value_law b s (u ∷ us) e)
    ∙ container_shift b.prefix s.prefix u.prefix (map prefix_of us) (full_container b s (u ∷ us) e is flat)
    ∙ sym (full_value_law b u us same)

module _ (e : SidEntry) (allow : List ℕ) (t : Tunnel) (routed : Bool) (left hop : ℕ) (s u : ListSid) (us : List ListSid)
    (c : compression_of e ≡ compression s) (is : IsFull s (u ∷ us)) (flat : All IsFlatSid (s ∷ u ∷ us)) where
  at_full : at_sid e allow (on_way t routed left hop (full_value s (u ∷ us)))
      ≡ next_csid e (on_way t routed left hop (full_value s (u ∷ us)))
  at_full =
      at_shifts e allow t routed left hop (full_value s (u ∷ us))
      (ap (λ x. shifts x (full_value s (u ∷ us))) c ∙ shifts_more s u us is flat)

  pub onward_shift : 1 < hop
      → at_sid e allow (on_way t routed left hop (full_value s (u ∷ us))) ≡ Onward (on_way t routed left (hop - 1) (full_value u us))
  onward_shift high =
      let d : ℕ = full_value s (u ∷ us) in
      let p : Packet = on_way t routed left hop d in
      let not_low : nat_le hop 1 ≡ false = lt-leb hop 1 high in
      let step : next_csid e p ≡ Onward (shifted (compression_of e) p) = rw not_low refl in
      at_full ∙ step
      ∙ ap (λ x. Onward (shifted x p)) c
      ∙ ap (λ n. Onward (on_way t routed left (hop - 1) n)) (shift_full s u us is flat)

  pub tired_shift : hop ≤ 1
      → at_sid e allow (on_way t routed left hop (full_value s (u ∷ us))) ≡ Refused reasons.HopLimit 0
  tired_shift low =
      let is_low : nat_le hop 1 ≡ true = le-leb hop 1 low in
      at_full ∙ rw is_low refl

-- ---- to a full container

-- by a whole entry
pub whole_to_full : (e : SidEntry) (allow : List ℕ) (t : Tunnel) (hop d : ℕ) (f : ListSid) (fs : List ListSid) (cs : List Container)
    (rest : List ℕ) → shifts (compression_of e) d ≡ false → is_replace e.csid ≡ false → goes_on e ≡ true
    → list_of t ≡ reverse (values_of (Full f fs ∷ cs)) ++ rest → AreAddresses (list_of t) → 1 < hop
    → at_sid e allow (on_way t true (suc (length cs)) hop d)
    ≡ Onward (form t (InFull f fs cs) (not (e.psp && may_lack (InFull f fs cs))) (hop - 1))
whole_to_full e allow t hop d f fs cs rest still whole goes list all high =
    let left : ℕ = suc (length cs) in
    let split = listed_behind (list_of t) rest (Full f fs) cs list in
    let long = long_enough (list_of t) rest (full_value f fs) cs split in
    let less : left - 1 ≡ length cs = omega arith in
    let entry : entry_of (header_with t left) (left - 1) ≡ full_value f fs =
    entry_is t left (left - 1) (full_value f fs) (reverse (values_of cs)) rest split (length_behind cs ∙ sym less) all in
    onward_whole e allow t left hop d still whole goes (omega arith) (omega arith) high
    ∙ ap (λ v. Onward (on_way t (not (e.psp && (left == 1))) (left - 1) (hop - 1) v)) entry
    ∙ ap (λ b. Onward (on_way t (not (e.psp && b)) (left - 1) (hop - 1) (full_value f fs))) (left_one f fs cs)
    ∙ ap (λ n. Onward (on_way t (not (e.psp && may_lack (InFull f fs cs))) n (hop - 1) (full_value f fs))) less

-- ---- to a REPLACE container

-- from a SID whose index is 0
module _ (e : SidEntry) (allow : List ℕ) (t : Tunnel) (hop : ℕ) (b : SidBlock) (s f : ListSid) (fs : List ListSid) (cs : List Container)
    (rest : List ℕ) (c : compression_of e ≡ compression s) (goes : goes_on e ≡ true) (own : s.block ≡ Some b) (kind : b.kind ≡ Replace)
    (replace : s.csid ≡ Replace) (flat_s : IsFlatSid s) (is : IsPacked (Some b) (f ∷ fs)) (flat : All IsFlatSid (f ∷ fs))
    (list : list_of t ≡ reverse (values_of (Packed f fs ∷ cs)) ++ rest) (all : AreAddresses (list_of t)) where
  of_block : f.block ≡ Some b
  of_block = All-head (λ (v : ListSid). v.block ≡ Some b) f fs is.one_block

  packed_list : list_of t ≡ reverse (values_of cs) ++ (packed_value (Some b) (f ∷ fs) ∷ rest)
  packed_list =
      listed_behind (list_of t) rest (Packed f fs) cs list
      ∙ ap (λ o. reverse (values_of cs) ++ (packed_value o (f ∷ fs) ∷ rest)) of_block

  is_packed : is_replace e.csid ≡ true
  is_packed = ap (λ (x : Compression). is_replace x.kind) c ∙ ap is_replace replace

  still_packed : (d : ℕ) → shifts (compression_of e) d ≡ false
  still_packed d = still_replace (compression_of e) d (ap (λ (x : Compression). x.kind) c ∙ replace)

  pub not_ended : (d : ℕ) → is_ended (compression_of e) (header_with t (suc (length cs))) (suc (length cs)) d ≡ false
  not_ended d = rw (ne_eqb (suc (length cs)) 0 (omega arith)) refl

  first_move : move_of (compression_of e) (header_with t (suc (length cs))) s.prefix.value
      ≡ record {
        segments_left = length cs;
        destination = f.prefix.value + index_behind (compression f) 0;
        ended = may_lack (InPacked [] f fs cs);
      }
  first_move =
      let left : ℕ = suc (length cs) in
      let h : Srh = header_with t left in
      let less : left - 1 ≡ length cs = omega arith in
      let value : ℕ = packed_value (Some b) (f ∷ fs) in
      let entry : entry_of h (left - 1) ≡ value =
      entry_is t left (left - 1) value (reverse (values_of cs)) rest packed_list (length_behind cs ∙ sym less) all in
      let P : ℕ → Type 0 = λ n. IsEntryOf (compression s) b.prefix (map prefix_of (f ∷ fs)) n in
      let Q : ℕ → Type 0 = λ n. IsReplaceSid b.prefix n s.prefix in
      let width_s = width_in s b flat_s own kind in
      let width_f = width_in f b (All-head IsFlatSid f fs flat) of_block kind in
      let to : ℕ → ℕ → Bool → Move = λ n w x. record {
        segments_left = n;
        destination = f.prefix.value + (csid_count w - 1 - 0);
        ended = x;
      } in
      let left_none : Bool = length (map prefix_of fs) == 0 in
      ap (λ x. move_of x h s.prefix.value) c
      ∙ entry_first (compression s) b.prefix s.prefix f.prefix h (map prefix_of fs)
      (subst Q (sym width_s) (replace_sid s b flat_s own kind))
      (subst P (sym entry) (packed_entry_law b s (f ∷ fs) flat_s own kind is flat))
      ∙ ap (λ n. to n (csid_len s) ((n == 0) && left_none)) less
      ∙ ap (λ w. to (length cs) w ((length cs == 0) && left_none)) (width_s ∙ sym width_f)
      ∙ ap (to (length cs) (csid_len f)) (left_packed [] f fs cs)

  zero_index : index_in (compression_of e) s.prefix.value ≡ 0
  zero_index =
      let w : ℕ = csid_len_of (compression_of e) in
      let width : csid_len s ≡ b.csid_len = width_in s b flat_s own kind in
      let sid = replace_sid s b flat_s own kind in
      let sum : s.prefix.value ≡ s.prefix.value + 0 = omega arith in
      ap (λ (x : Compression). index_of (csid_len_of x) s.prefix.value) c
      ∙ ap (λ n. index_of n s.prefix.value) width
      ∙ ap (index_of b.csid_len) sum
      ∙ index_back_law b.prefix s.prefix b.csid_len 0 sid (count_positive b.csid_len sid.csid)

  pub onward_to_packed : (d : ℕ) → d ≡ s.prefix.value → 1 < hop
      → at_sid e allow (on_way t true (suc (length cs)) hop d)
      ≡ Onward (form t (InPacked [] f fs cs) (not (e.psp && may_lack (InPacked [] f fs cs))) (hop - 1))
  onward_to_packed d at high =
      let left : ℕ = suc (length cs) in
      let long = long_enough (list_of t) rest (packed_value (Some b) (f ∷ fs)) cs packed_list in
      ap (λ n. at_sid e allow (on_way t true left hop n)) at
      ∙ onward_packed e allow t left hop s.prefix.value (still_packed s.prefix.value) is_packed goes _ first_move
      (not_ended s.prefix.value) (omega arith) (omega arith) (λ most. zero_index) high

  pub tired_to_packed : (d : ℕ) → hop ≤ 1
      → at_sid e allow (on_way t true (suc (length cs)) hop d) ≡ Refused reasons.HopLimit 0
  tired_to_packed d low =
      let long = long_enough (list_of t) rest (packed_value (Some b) (f ∷ fs)) cs packed_list in
      tired_packed e allow t (suc (length cs)) hop d (still_packed d) is_packed goes (not_ended d) (omega arith) low
