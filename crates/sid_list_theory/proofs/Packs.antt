-- A packet at a SID of a REPLACE container.
use Rattle.std.proofs.Common.{◌≡◌, ℕ, suc, ◌+◌, ◌-◌, ◌<◌, ◌≤◌, Bool, true, false, not, ◌==◌, ◌&&◌, List, [], ◌∷◌, ◌++◌, length, map, reverse, All, Some, refl, sym, ◌∙◌, ap, subst, arith, length-append}
use Rattle.std.proofs.lemmas.Bool.{ne_eqb}
use Rattle.std.proofs.lemmas.List.{length-map, map-append}
use Rattle.std.proofs.lemmas.List.Elements.{All-head, All-tail}
use Rattle.v6_addr.specs.Address.{PrefixValue, Holds}
use Rattle.srv6_rules.specs.declared.sid.Csid.TheVariants.{Replace}
use Rattle.srv6_rules.specs.declared.reason.Reason.TheVariants as reasons
use Rattle.srv6_rules.specs.declared.sid.SidEntry.{SidEntry}
use Rattle.srv6_rules.specs.declared.compression.Compression.{Compression}
use Rattle.srv6_rules.specs.Behaviours.{goes_on}
use Rattle.srv6_rules.specs.Srh.{Srh, entry_of}
use Rattle.srv6_rules.specs.Compressed.{csid_count}
use Rattle.srv6_rules.specs.CompressedTerms.{IsReplaceSid}
use Rattle.srv6_rules.specs.CompressedSteps.{Move, compression_of, is_replace, shifts, is_ended, move_of}
use Rattle.srv6_rules.specs.CompressedStepsTerms.{IsEntryOf, index_behind}
use Rattle.srv6_rules.specs.Endpoint.{Onward, Refused, at_sid}
use Rattle.srv6_rules.proofs.PublicLaws.{entry_next, entry_last, entry_ended, index_holds}
use Rattle.sid_list_spec.specs.SegmentLists.{ListSid, Container, Full, csid_len, prefix_of, full_value, packed_value, values_of}
use Rattle.sid_list_theory.specs.SegmentListsTerms.{compression, IsFlatSid}
use Rattle.sid_list_theory.specs.ListPlaces.{InFull, InPacked, Tunnel, header_with, on_way, form, destination_of, may_lack, IsInPacked}
use Rattle.sid_list_theory.proofs.Sids.{all_right, width_in, replace_sid, packed_entry_law}
use Rattle.sid_list_theory.proofs.Advances.{entry_is, onward_packed, tired_packed}
use Rattle.sid_list_theory.proofs.SegmentEntries.{listed_behind, length_behind, long_enough, left_none, left_packed}
use Rattle.sid_list_theory.proofs.Goings.{list_of, AreAddresses, still_replace}

-- ---- its SIDs

module _ (bs : List ListSid) (s : ListSid) (ss : List ListSid) (cs : List Container) (is : IsInPacked bs s ss cs) where
  pub flat_from : All IsFlatSid (s ∷ ss)
  flat_from = all_right IsFlatSid bs (s ∷ ss) is.flat

  pub flat_own : IsFlatSid s
  flat_own = All-head IsFlatSid s ss flat_from

  pub of_block_from : All (λ (v : ListSid). v.block ≡ Some is.block) (s ∷ ss)
  of_block_from = all_right (λ (v : ListSid). v.block ≡ Some is.block) bs (s ∷ ss) is.container.one_block

  pub own_width : csid_len s ≡ is.block.csid_len
  own_width = width_in s is.block flat_own is.own_block is.kind

  -- it has room for the active SID
  pub room : length bs + 1 + length ss ≤ csid_count (csid_len s)
  room =
      let few : length (bs ++ s ∷ ss) ≤ csid_count is.block.csid_len = is.container.few in
      let long = length-append bs (s ∷ ss) in
      let P : ℕ → Type 0 = λ n. length (bs ++ s ∷ ss) ≤ csid_count n in
      let own = subst P (sym own_width) few in
      omega arith

  -- the destination lies in the active SID's prefix
  pub packed_holds : Holds s.prefix (destination_of (InPacked bs s ss cs))
  packed_holds =
      let P : ℕ → Type 0 = λ n. IsReplaceSid is.block.prefix n s.prefix in
      let fits = room in
      index_holds is.block.prefix s.prefix (csid_len s) (index_behind (compression s) (length bs))
      (subst P (sym own_width) (replace_sid s is.block flat_own is.own_block is.kind)) (omega arith)

-- ---- its entry

module _ (t : Tunnel) (bs : List ListSid) (s : ListSid) (ss : List ListSid) (cs : List Container) (rest : List ℕ)
    (is : IsInPacked bs s ss cs) (list : list_of t ≡ reverse (values_of cs) ++ (packed_value s.block (bs ++ s ∷ ss) ∷ rest))
    (all : AreAddresses (list_of t)) where
  pub own_entry : (left : ℕ)
      → IsEntryOf (compression s) is.block.prefix (map prefix_of bs ++ s.prefix ∷ map prefix_of ss)
      (entry_of (header_with t left) (length cs))
  own_entry left =
      let value : ℕ = packed_value s.block (bs ++ s ∷ ss) in
      let entry : entry_of (header_with t left) (length cs) ≡ value =
      entry_is t left (length cs) value (reverse (values_of cs)) rest list (length_behind cs) all in
      let same : value ≡ packed_value (Some is.block) (bs ++ s ∷ ss) = ap (λ o. packed_value o (bs ++ s ∷ ss)) is.own_block in
      let P : ℕ → Type 0 = λ n. IsEntryOf (compression s) is.block.prefix (map prefix_of bs ++ s.prefix ∷ map prefix_of ss) n in
      let Q : List PrefixValue → Type 0 =
      λ xs. IsEntryOf (compression s) is.block.prefix xs (packed_value (Some is.block) (bs ++ s ∷ ss)) in
      subst P (sym (entry ∙ same))
      (subst Q (map-append prefix_of bs (s ∷ ss))
      (packed_entry_law is.block s (bs ++ s ∷ ss) (flat_own bs s ss cs is) is.own_block is.kind is.container is.flat))

  pub before_long : length (map prefix_of bs) ≡ length bs
  before_long = length-map bs prefix_of

-- no segment is left exactly where the header may lack
pub ended_packed : (t : Tunnel) (bs : List ListSid) (s : ListSid) (ss : List ListSid) (cs : List Container) (rest : List ℕ)
    → IsInPacked bs s ss cs → list_of t ≡ reverse (values_of cs) ++ (packed_value s.block (bs ++ s ∷ ss) ∷ rest) → AreAddresses (list_of t)
    → is_ended (compression s) (header_with t (length cs)) (length cs) (destination_of (InPacked bs s ss cs))
    ≡ may_lack (InPacked bs s ss cs)
ended_packed t bs s ss [] rest is list all =
    let before : List PrefixValue = map prefix_of bs in
    let c : Compression = compression s in
    ap (λ n. is_ended c (header_with t 0) 0 (s.prefix.value + index_behind c n)) (sym (before_long t bs s ss [] rest is list all))
    ∙ entry_ended c is.block.prefix s.prefix (header_with t 0) 0 before (map prefix_of ss) (own_entry t bs s ss [] rest is list all 0)
    ∙ left_packed bs s ss []
ended_packed t bs s ss (d ∷ cs) rest is list all = rw (ne_eqb (suc (length cs)) 0 (omega arith)) (more ss)
  where
    more : (xs : List ListSid) → false ≡ may_lack (InPacked bs s xs (d ∷ cs))
    more [] = refl
    more (x ∷ xs) = refl

-- ---- to the next SID in it

module _ (t : Tunnel) (bs : List ListSid) (s u : ListSid) (us : List ListSid) (cs : List Container) (rest : List ℕ)
    (is : IsInPacked bs s (u ∷ us) cs) (list : list_of t ≡ reverse (values_of cs) ++ (packed_value s.block (bs ++ s ∷ u ∷ us) ∷ rest))
    (all : AreAddresses (list_of t)) where
  next_move : move_of (compression s) (header_with t (length cs)) (destination_of (InPacked bs s (u ∷ us) cs))
      ≡ record {
        segments_left = length cs;
        destination = destination_of (InPacked (bs ++ s ∷ []) u us cs);
        ended = may_lack (InPacked (bs ++ s ∷ []) u us cs);
      }
  next_move =
      let before : List PrefixValue = map prefix_of bs in
      let h : Srh = header_with t (length cs) in
      let c : Compression = compression s in
      let long = before_long t bs s (u ∷ us) cs rest is list all in
      let width_u = width_in u is.block (All-head IsFlatSid u us (All-tail IsFlatSid s (u ∷ us) (flat_from bs s (u ∷ us) cs is)))
      (All-head (λ (v : ListSid). v.block ≡ Some is.block) u us
      (All-tail (λ (v : ListSid). v.block ≡ Some is.block) s (u ∷ us) (of_block_from bs s (u ∷ us) cs is))) is.kind in
      let more : length before + 1 ≡ length (bs ++ s ∷ []) = (let sum = length-append bs (s ∷ []) in omega arith) in
      let to : ℕ → ℕ → Bool → Move = λ n w x. record {
        segments_left = length cs;
        destination = u.prefix.value + (csid_count w - 1 - n);
        ended = x;
      } in
      let last : Bool = (length cs == 0) && (length (map prefix_of us) == 0) in
      ap (λ n. move_of c h (s.prefix.value + index_behind c n)) (sym long)
      ∙ entry_next c is.block.prefix s.prefix u.prefix h before (map prefix_of us)
      (own_entry t bs s (u ∷ us) cs rest is list all (length cs))
      ∙ ap (λ n. to n (csid_len s) last) more
      ∙ ap (λ w. to (length (bs ++ s ∷ [])) w last) (own_width bs s (u ∷ us) cs is ∙ sym width_u)
      ∙ ap (to (length (bs ++ s ∷ [])) (csid_len u)) (left_packed (bs ++ s ∷ []) u us cs)

-- ---- to a full container after it

module _ (t : Tunnel) (bs : List ListSid) (s f : ListSid) (fs : List ListSid) (cs : List Container) (rest : List ℕ)
    (is : IsInPacked bs s [] (Full f fs ∷ cs))
    (list : list_of t ≡ reverse (values_of (Full f fs ∷ cs)) ++ (packed_value s.block (bs ++ s ∷ []) ∷ rest))
    (all : AreAddresses (list_of t)) (more : length bs + 1 < csid_count (csid_len s)) where
  entry_move : move_of (compression s) (header_with t (suc (length cs))) (destination_of (InPacked bs s [] (Full f fs ∷ cs)))
      ≡ record { segments_left = length cs; destination = full_value f fs; ended = may_lack (InFull f fs cs) }
  entry_move =
      let before : List PrefixValue = map prefix_of bs in
      let left : ℕ = suc (length cs) in
      let h : Srh = header_with t left in
      let c : Compression = compression s in
      let long = before_long t bs s [] (Full f fs ∷ cs) rest is list all in
      let less : left - 1 ≡ length cs = omega arith in
      let entry : entry_of h (left - 1) ≡ full_value f fs =
      entry_is t left (left - 1) (full_value f fs) (reverse (values_of cs)) (packed_value s.block (bs ++ s ∷ []) ∷ rest)
      (listed_behind (list_of t) (packed_value s.block (bs ++ s ∷ []) ∷ rest) (Full f fs) cs list) (length_behind cs ∙ sym less) all in
      let to : ℕ → ℕ → Bool → Move = λ n d x. record { segments_left = n; destination = d; ended = x } in
      ap (λ n. move_of c h (s.prefix.value + index_behind c n)) (sym long)
      ∙ entry_last c is.block.prefix s.prefix h before (own_entry t bs s [] (Full f fs ∷ cs) rest is list all left) (omega arith)
      ∙ ap (λ d. to (left - 1) d (left - 1 == 0)) entry
      ∙ ap (λ n. to n (full_value f fs) (n == 0)) less
      ∙ ap (to (length cs) (full_value f fs)) (left_none f fs cs)

-- ---- at a SID

module _ (e : SidEntry) (allow : List ℕ) (t : Tunnel) (hop : ℕ) (bs : List ListSid) (s : ListSid) (ss : List ListSid) (cs : List Container)
    (rest : List ℕ) (c : compression_of e ≡ compression s) (goes : goes_on e ≡ true) (replace : s.csid ≡ Replace)
    (is : IsInPacked bs s ss cs) (list : list_of t ≡ reverse (values_of cs) ++ (packed_value s.block (bs ++ s ∷ ss) ∷ rest))
    (all : AreAddresses (list_of t)) (needs : may_lack (InPacked bs s ss cs) ≡ false) where
  pub is_packed : is_replace e.csid ≡ true
  is_packed = ap (λ (x : Compression). is_replace x.kind) c ∙ ap is_replace replace

  pub still_packed : (d : ℕ) → shifts (compression_of e) d ≡ false
  still_packed d = still_replace (compression_of e) d (ap (λ (x : Compression). x.kind) c ∙ replace)

  goes_further : is_ended (compression_of e) (header_with t (length cs)) (length cs) (destination_of (InPacked bs s ss cs)) ≡ false
  goes_further =
      ap (λ x. is_ended x (header_with t (length cs)) (length cs) (destination_of (InPacked bs s ss cs))) c
      ∙ ended_packed t bs s ss cs rest is list all ∙ needs

  -- a move is made
  pub onward_by : (m : Move) → move_of (compression s) (header_with t (length cs)) (destination_of (InPacked bs s ss cs)) ≡ m → 1 < hop
      → at_sid e allow (on_way t true (length cs) hop (destination_of (InPacked bs s ss cs)))
      ≡ Onward (on_way t (not (e.psp && m.ended)) m.segments_left (hop - 1) m.destination)
  onward_by m move high =
      let d : ℕ = destination_of (InPacked bs s ss cs) in
      let long = long_enough (list_of t) rest (packed_value s.block (bs ++ s ∷ ss)) cs list in
      onward_packed e allow t (length cs) hop d (still_packed d) is_packed goes m
      (ap (λ x. move_of x (header_with t (length cs)) d) c ∙ move) goes_further (omega arith) (omega arith)
      (λ most. absurd (omega arith)) high

  pub tired_by : hop ≤ 1
      → at_sid e allow (on_way t true (length cs) hop (destination_of (InPacked bs s ss cs))) ≡ Refused reasons.HopLimit 0
  tired_by low =
      let d : ℕ = destination_of (InPacked bs s ss cs) in
      let long = long_enough (list_of t) rest (packed_value s.block (bs ++ s ∷ ss)) cs list in
      tired_packed e allow t (length cs) hop d (still_packed d) is_packed goes goes_further (omega arith) low

pub onward_in_packed : (e : SidEntry) (allow : List ℕ) (t : Tunnel) (hop : ℕ) (bs : List ListSid) (s u : ListSid) (us : List ListSid)
    (cs : List Container) (rest : List ℕ) → compression_of e ≡ compression s → goes_on e ≡ true → s.csid ≡ Replace
    → IsInPacked bs s (u ∷ us) cs → list_of t ≡ reverse (values_of cs) ++ (packed_value s.block (bs ++ s ∷ u ∷ us) ∷ rest)
    → AreAddresses (list_of t) → 1 < hop
    → at_sid e allow (form t (InPacked bs s (u ∷ us) cs) true hop)
    ≡ Onward (form t (InPacked (bs ++ s ∷ []) u us cs) (not (e.psp && may_lack (InPacked (bs ++ s ∷ []) u us cs))) (hop - 1))
onward_in_packed e allow t hop bs s u us cs rest c goes replace is list all high =
    onward_by e allow t hop bs s (u ∷ us) cs rest c goes replace is list all refl _ (next_move t bs s u us cs rest is list all) high

pub onward_to_full : (e : SidEntry) (allow : List ℕ) (t : Tunnel) (hop : ℕ) (bs : List ListSid) (s f : ListSid) (fs : List ListSid)
    (cs : List Container) (rest : List ℕ) → compression_of e ≡ compression s → goes_on e ≡ true → s.csid ≡ Replace
    → IsInPacked bs s [] (Full f fs ∷ cs)
    → list_of t ≡ reverse (values_of (Full f fs ∷ cs)) ++ (packed_value s.block (bs ++ s ∷ []) ∷ rest)
    → AreAddresses (list_of t) → length bs + 1 < csid_count (csid_len s) → 1 < hop
    → at_sid e allow (form t (InPacked bs s [] (Full f fs ∷ cs)) true hop)
    ≡ Onward (form t (InFull f fs cs) (not (e.psp && may_lack (InFull f fs cs))) (hop - 1))
onward_to_full e allow t hop bs s f fs cs rest c goes replace is list all more high =
    onward_by e allow t hop bs s [] (Full f fs ∷ cs) rest c goes replace is list all refl _
    (entry_move t bs s f fs cs rest is list all more) high
