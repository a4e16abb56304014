-- A SID that goes on leads from a place to the next one, in either form of the packet.
use Rattle.std.proofs.Common.{◌≡◌, inl, inr, ℕ, suc, ◌+◌, ◌-◌, ◌<◌, ◌≤◌, Bool, true, false, not, ◌==◌, ◌&&◌, List, [], ◌∷◌, ◌++◌, length, reverse, Option, Some, refl, sym, ◌∙◌, ap, subst, arith, length-append}
use Rattle.std.proofs.lemmas.Bool.{cases_Bool, eqb-true, eqb-false}
use Rattle.std.proofs.lemmas.List.Elements.{All-head}
use Rattle.srv6_rules.specs.declared.sid.Csid.TheVariants.{Replace}
use Rattle.srv6_rules.specs.declared.reason.Reason.TheVariants as reasons
use Rattle.srv6_rules.specs.declared.sid.SidEntry.{SidEntry}
use Rattle.srv6_rules.specs.declared.compression.Compression.{Compression}
use Rattle.srv6_rules.specs.Behaviours.{goes_on}
use Rattle.srv6_rules.specs.Compressed.{csid_count}
use Rattle.srv6_rules.specs.CompressedSteps.{compression_of, is_replace, shifts}
use Rattle.srv6_rules.specs.Endpoint.{Onward, Refused, at_sid}
use Rattle.sid_list_spec.specs.SegmentLists.{SidBlock, ListSid, Container, Full, Packed, csid_len, full_value, packed_value, values_of, asked_behind, asked_behind_packed, HaveButLast}
use Rattle.sid_list_theory.specs.SegmentListsTerms.{compression, IsFlatSid, IsFlatContainer}
use Rattle.sid_list_theory.specs.ListPlaces.{ListPlace, InFull, InPacked, Tunnel, on_way, form, active, next_of, entered, destination_of, may_lack, stays_routed, IsPlace, IsInFull, IsInPacked, IsListed}
use Rattle.sid_list_theory.proofs.Sids.{in_block, full_one}
use Rattle.sid_list_theory.proofs.Advances.{tired_whole}
use Rattle.sid_list_theory.proofs.Goings.{list_of, AreAddresses, still_one, still_plain, onward_shift, tired_shift, whole_to_full, onward_to_packed, tired_to_packed}
use Rattle.sid_list_theory.proofs.Packs.{flat_own, own_width, room, onward_in_packed, onward_to_full, tired_by}
use Rattle.sid_list_theory.proofs.Follows.{asked_some, asked_none, asked_packed, asked_not_full, asked_kind, enter_full, enter_packed, to_place}

-- what a SID does with the packet at a place that has a next one: with a hop limit above 1 it makes the packet at that one, and refuses a
-- lower one
pub record Leads (e : SidEntry) (allow : List ℕ) (t : Tunnel) (x y : ListPlace) (routed : Bool) : Type 0 where
  pub onward : (hop : ℕ) → 1 < hop
      → at_sid e allow (form t x routed hop) ≡ Onward (form t y (stays_routed e.psp x y routed) (hop - 1))
  pub tired : (hop : ℕ) → hop ≤ 1 → at_sid e allow (form t x routed hop) ≡ Refused reasons.HopLimit 0

module _ (e : SidEntry) (allow : List ℕ) (t : Tunnel) (goes : goes_on e ≡ true) (all : AreAddresses (list_of t)) where
  leads_shift : (s u : ListSid) (us : List ListSid) (cs : List Container) (routed : Bool) → compression_of e ≡ compression s
      → IsInFull s (u ∷ us) cs → Leads e allow t (InFull s (u ∷ us) cs) (InFull u us cs) routed
  leads_shift s u us cs routed c is = record {
    onward = λ hop high. onward_shift e allow t routed (length cs) hop s u us c is.container is.flat high;
    tired = λ hop low. tired_shift e allow t routed (length cs) hop s u us c is.container is.flat low;
  }

  -- by a whole entry, from any place
  leads_whole : (x : ListPlace) (f : ListSid) (fs : List ListSid) (cs : List Container) (rest : List ℕ)
      → ((hop : ℕ) → form t x true hop ≡ on_way t true (suc (length cs)) hop (destination_of x))
      → ((psp : Bool) → stays_routed psp x (InFull f fs cs) true ≡ not (psp && may_lack (InFull f fs cs)))
      → shifts (compression_of e) (destination_of x) ≡ false → is_replace e.csid ≡ false
      → list_of t ≡ reverse (values_of (Full f fs ∷ cs)) ++ rest → Leads e allow t x (InFull f fs cs) true
  leads_whole x f fs cs rest at stays still whole list = record {
    onward = λ hop high. ap (at_sid e allow) (at hop)
        ∙ whole_to_full e allow t hop (destination_of x) f fs cs rest still whole goes list all high
        ∙ ap (λ b. Onward (form t (InFull f fs cs) b (hop - 1))) (sym (stays e.psp));
    tired = λ hop low. ap (at_sid e allow) (at hop)
        ∙ tired_whole e allow t (suc (length cs)) hop (destination_of x) still whole goes (omega arith) low;
  }

  is_whole : (s : ListSid) → compression_of e ≡ compression s → is_replace s.csid ≡ false → is_replace e.csid ≡ false
  is_whole s c whole = ap (λ (x : Compression). is_replace x.kind) c ∙ whole

  still_as : (s : ListSid) (d : ℕ) → compression_of e ≡ compression s → shifts (compression s) d ≡ false
      → shifts (compression_of e) d ≡ false
  still_as s d c still = ap (λ x. shifts x d) c ∙ still

  -- from the last SID of a full container
  leads_full : (s : ListSid) (d : Container) (cs : List Container) → compression_of e ≡ compression s → IsInFull s [] (d ∷ cs)
      → IsListed (InFull s [] (d ∷ cs)) (list_of t) → Leads e allow t (InFull s [] (d ∷ cs)) (entered d cs) true
  leads_full s (Full f fs) cs c is listed =
      let (none, full, behind) = enter_full (asked_behind s) f fs cs is.behind in
      let flat = All-head IsFlatSid s [] is.flat in
      leads_whole (InFull s [] (Full f fs ∷ cs)) f fs cs listed.front (λ hop. refl) (λ psp. refl)
      (still_as s (full_value s []) c (still_one s flat)) (is_whole s c (asked_none s flat none)) listed.split
  leads_full s (Packed f fs) cs c is listed =
      let (b, some, packed, behind) = enter_packed (asked_behind s) f fs cs is.behind in
      let flat = All-head IsFlatSid s [] is.flat in
      let (replace, own) = asked_some s b some in
      let kind = asked_kind s b flat some in
      let flat_f = All-head IsFlatContainer (Packed f fs) cs is.flat_behind in
      record {
        onward = λ hop high. onward_to_packed e allow t hop b s f fs cs listed.front c goes own kind replace flat packed flat_f
            listed.split all (full_value s []) (full_one s) high;
        tired = λ hop low. tired_to_packed e allow t hop b s f fs cs listed.front c goes own kind replace flat packed flat_f
            listed.split all (full_value s []) low;
      }

  -- inside a REPLACE container
  leads_in : (bs : List ListSid) (s u : ListSid) (us : List ListSid) (cs : List Container) → compression_of e ≡ compression s
      → (is : IsInPacked bs s (u ∷ us) cs) → s.csid ≡ Replace → IsListed (InPacked bs s (u ∷ us) cs) (list_of t)
      → Leads e allow t (InPacked bs s (u ∷ us) cs) (InPacked (bs ++ s ∷ []) u us cs) true
  leads_in bs s u us cs c is replace listed = record {
    onward = λ hop high. onward_in_packed e allow t hop bs s u us cs listed.front c goes replace is listed.split all high;
    tired = λ hop low. tired_by e allow t hop bs s (u ∷ us) cs listed.front c goes replace is listed.split all refl low;
  }

  -- from the last SID of a REPLACE container
  leads_out : (bs : List ListSid) (s : ListSid) (d : Container) (cs : List Container) → compression_of e ≡ compression s
      → (is : IsInPacked bs s [] (d ∷ cs)) → IsListed (InPacked bs s [] (d ∷ cs)) (list_of t)
      → Leads e allow t (InPacked bs s [] (d ∷ cs)) (entered d cs) true
  leads_out bs s (Full f fs) cs c is listed =
      let o : Option SidBlock = Some is.block in
      let n : ℕ = length (bs ++ s ∷ []) in
      let (none, full, behind) = enter_full (asked_behind_packed o n s) f fs cs is.behind in
      let flat = flat_own bs s [] (Full f fs ∷ cs) is in
      let rest : List ℕ = packed_value s.block (bs ++ s ∷ []) ∷ listed.front in
      elim (in_block s is.block flat is.own_block).kind [
        | inl plain ↦ leads_whole (InPacked bs s [] (Full f fs ∷ cs)) f fs cs rest (λ hop. refl) (λ psp. refl)
            (still_as s (destination_of (InPacked bs s [] (Full f fs ∷ cs))) c (still_plain (compression s) _ plain))
            (is_whole s c (ap is_replace plain)) listed.split
        | inr same ↦
            let replace : s.csid ≡ Replace = same ∙ is.kind in
            let long = length-append bs (s ∷ []) in
            let fits = room bs s [] (Full f fs ∷ cs) is in
            let width = own_width bs s [] (Full f fs ∷ cs) is in
            let counts : csid_count (csid_len s) ≡ csid_count is.block.csid_len = ap csid_count width in
            let apart : n ≡ csid_count is.block.csid_len → ⊥ = asked_not_full o n s flat none replace in
            let more : length bs + 1 < csid_count (csid_len s) = less (length bs + 1) (csid_count (csid_len s)) (omega arith)
            (λ same. apart (omega arith)) in
            record {
              onward = λ hop high. onward_to_full e allow t hop bs s f fs cs listed.front c goes replace is listed.split all more high;
              tired = λ hop low. tired_by e allow t hop bs s [] (Full f fs ∷ cs) listed.front c goes replace is listed.split all refl low;
            }
      ]
    where
      less : (m n : ℕ) → m ≤ n → (m ≡ n → ⊥) → m < n
      less m n at_most apart = elim (cases_Bool (m == n)) [
        | inl same ↦ absurd (apart (eqb-true m n same))
        | inr other ↦ let no = eqb-false m n other in omega arith
      ]
  leads_out bs s (Packed f fs) cs c is listed =
      let o : Option SidBlock = Some is.block in
      let n : ℕ = length (bs ++ s ∷ []) in
      let (b, some, packed, behind) = enter_packed (asked_behind_packed o n s) f fs cs is.behind in
      let flat = flat_own bs s [] (Packed f fs ∷ cs) is in
      let (full, asked) = asked_packed o n s b some in
      let (replace, own) = asked_some s b asked in
      let kind = asked_kind s b flat asked in
      let flat_f = All-head IsFlatContainer (Packed f fs) cs is.flat_behind in
      let rest : List ℕ = packed_value s.block (bs ++ s ∷ []) ∷ listed.front in
      let long = length-append bs (s ∷ []) in
      let counts : csid_count (csid_len s) ≡ csid_count is.block.csid_len = ap csid_count (own_width bs s [] (Packed f fs ∷ cs) is) in
      let index : s.prefix.value + (csid_count (csid_len s) - 1 - length bs) ≡ s.prefix.value = omega arith in
      record {
        onward = λ hop high. onward_to_packed e allow t hop b s f fs cs rest c goes own kind replace flat packed flat_f listed.split all
            (destination_of (InPacked bs s [] (Packed f fs ∷ cs))) index high;
        tired = λ hop low. tired_to_packed e allow t hop b s f fs cs rest c goes own kind replace flat packed flat_f listed.split all
            (destination_of (InPacked bs s [] (Packed f fs ∷ cs))) low;
      }

-- the header is there where it may not lack
is_there : (routed needs : Bool) → (routed ≡ false → needs ≡ true) → needs ≡ false → routed ≡ true
is_there true needs lacking never = refl
is_there false needs lacking never = contra needs (lacking refl) never
  where
    contra : (b : Bool) → b ≡ true → b ≡ false → false ≡ true
    contra b yes_it_is is_not = sym is_not ∙ yes_it_is

leads_to : (e : SidEntry) (allow : List ℕ) (t : Tunnel) (x z y : ListPlace) (routed : Bool) → Some z ≡ Some y → routed ≡ true
    → Leads e allow t x z true → Leads e allow t x y routed
leads_to e allow t x z y routed to there leads =
    let P : Bool → Type 0 = λ b. Leads e allow t x y b in
    let Q : ListPlace → Type 0 = λ p. Leads e allow t x p true in
    subst P (sym there) (to_place Q z y to leads)

-- all but the last CSIDs of a REPLACE container go on by REPLACE-CSID
pub replace_first : (bs : List ListSid) (s u : ListSid) (us : List ListSid) (cs : List Container) → IsInPacked bs s (u ∷ us) cs
    → s.csid ≡ Replace
replace_first bs s u us cs is = by bs is.container.replace
  where
    by : (xs : List ListSid) → HaveButLast Replace (xs ++ s ∷ u ∷ us) → s.csid ≡ Replace
    by [] have = have.0
    by (x ∷ []) have = have.1.0
    by (x ∷ y ∷ ys) have = by (y ∷ ys) have.1

pub leads_next : (e : SidEntry) (allow : List ℕ) (t : Tunnel) (x y : ListPlace) (routed : Bool) → goes_on e ≡ true
    → compression_of e ≡ compression (active x) → IsPlace x → IsListed x (list_of t) → (routed ≡ false → may_lack x ≡ true)
    → next_of x ≡ Some y → Leads e allow t x y routed
leads_next e allow t (InFull s [] []) y routed goes c is listed lacking to = cc
leads_next e allow t (InFull s [] (d ∷ cs)) y routed goes c is listed lacking to =
    leads_to e allow t (InFull s [] (d ∷ cs)) (entered d cs) y routed to (is_there routed false lacking refl)
    (leads_full e allow t goes listed.addresses s d cs c is listed)
leads_next e allow t (InFull s (u ∷ us) cs) y routed goes c is listed lacking to =
    to_place (λ z. Leads e allow t (InFull s (u ∷ us) cs) z routed) (InFull u us cs) y to
    (leads_shift e allow t goes listed.addresses s u us cs routed c is)
leads_next e allow t (InPacked bs s [] []) y routed goes c is listed lacking to = cc
leads_next e allow t (InPacked bs s [] (d ∷ cs)) y routed goes c is listed lacking to =
    leads_to e allow t (InPacked bs s [] (d ∷ cs)) (entered d cs) y routed to (is_there routed false lacking refl)
    (leads_out e allow t goes listed.addresses bs s d cs c is listed)
leads_next e allow t (InPacked bs s (u ∷ us) cs) y routed goes c is listed lacking to =
    leads_to e allow t (InPacked bs s (u ∷ us) cs) (InPacked (bs ++ s ∷ []) u us cs) y routed to (is_there routed false lacking refl)
    (leads_in e allow t goes listed.addresses bs s u us cs c is (replace_first bs s u us cs is) listed)
