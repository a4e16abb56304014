-- From a place in a legal list to the next one.
use Rattle.std.proofs.Common.{◌≡◌, ℕ, ◌^◌, ◌<◌, Bool, true, false, not, ◌==◌, ◌&&◌, if◌then◌else◌, List, [], ◌∷◌, ◌++◌, length, reverse, All, Option, Some, None, refl, sym, ◌∙◌, ap, subst}
use Rattle.std.proofs.lemmas.Bool.{eqb-true, eq-eqb}
use Rattle.std.proofs.lemmas.List.{append_assoc}
use Rattle.std.proofs.lemmas.List.Elements.{All-head, All-tail}
use Rattle.srv6_rules.specs.declared.sid.Csid.{Csid}
use Rattle.srv6_rules.specs.declared.sid.Csid.TheVariants.{Plain, Next, Replace}
use Rattle.srv6_rules.specs.Compressed.{csid_count}
use Rattle.srv6_rules.specs.CompressedSteps.{is_replace}
use Rattle.sid_list_spec.specs.SegmentLists.{SidBlock, ListSid, Container, Full, Packed, csid_len_in, last_of, values_of, value_of, packed_value, IsFull, IsPacked, asked_behind, asked_behind_packed, Follow}
use Rattle.sid_list_theory.specs.SegmentListsTerms.{IsFlatSid, IsFlatContainer, IsFlatList}
use Rattle.sid_list_theory.specs.ListPlaces.{ListPlace, InFull, InPacked, entered, next_of, may_lack, stays_routed, IsPlace, IsListed}
use Rattle.sid_list_theory.proofs.Sids.{all_right, block_of, full_rest}
use Rattle.sid_list_theory.proofs.SegmentEntries.{listed_behind}
use Rattle.sid_list_theory.proofs.Packs.{flat_own}

-- ---- what has to follow

-- after a SID that asks for a REPLACE container
pub asked_some : (l : ListSid) (b : SidBlock) → asked_behind l ≡ Some b → (l.csid ≡ Replace) × (l.block ≡ Some b)
asked_some l b e = by l.csid refl e
  where
    by : (k : Csid) → l.csid ≡ k → (if is_replace k then l.block else None) ≡ Some b → (l.csid ≡ Replace) × (l.block ≡ Some b)
    by Plain same asked = cc
    by Next same asked = cc
    by Replace same asked = (same, asked)

-- after one that doesn't
pub asked_none : (l : ListSid) → IsFlatSid l → asked_behind l ≡ None → is_replace l.csid ≡ false
asked_none l flat e = by l.csid refl e
  where
    by : (k : Csid) → l.csid ≡ k → (if is_replace k then l.block else None) ≡ None → is_replace k ≡ false
    by Plain same none = refl
    by Next same none = refl
    by Replace same none =
        let (b, own, kind) = block_of l Replace (λ e. cc) flat same in
        cc

pub asked_packed : (o : Option SidBlock) (n : ℕ) (l : ListSid) (b : SidBlock) → asked_behind_packed o n l ≡ Some b
    → (n ≡ csid_count (csid_len_in o)) × (asked_behind l ≡ Some b)
asked_packed o n l b e = by (n == csid_count (csid_len_in o)) refl e
  where
    by : (full : Bool) → (n == csid_count (csid_len_in o)) ≡ full → (if full then asked_behind l else None) ≡ Some b
        → (n ≡ csid_count (csid_len_in o)) × (asked_behind l ≡ Some b)
    by true same asked = (eqb-true n (csid_count (csid_len_in o)) same, asked)
    by false same asked = cc

pub asked_not_full : (o : Option SidBlock) (n : ℕ) (l : ListSid) → IsFlatSid l → asked_behind_packed o n l ≡ None → l.csid ≡ Replace
    → n ≡ csid_count (csid_len_in o) → ⊥
asked_not_full o n l flat e replace full =
    let same : asked_behind_packed o n l ≡ asked_behind l = rw (eq-eqb n (csid_count (csid_len_in o)) full) refl in
    let stays = asked_none l flat (sym same ∙ e) in
    let is : is_replace l.csid ≡ true = ap is_replace replace in
    cc

pub asked_kind : (l : ListSid) (b : SidBlock) → IsFlatSid l → asked_behind l ≡ Some b → b.kind ≡ Replace
asked_kind l b flat e =
    let (replace, own) = asked_some l b e in
    let (a, same, kind) = block_of l Replace (λ e. cc) flat replace in
    let equal : Some a ≡ Some b = sym same ∙ own in
    let of : a ≡ b = cc in
    ap (λ (x : SidBlock). x.kind) (sym of) ∙ kind

pub enter_full : (o : Option SidBlock) (f : ListSid) (fs : List ListSid) (cs : List Container) → Follow o (Full f fs ∷ cs)
    → (o ≡ None) × IsFull f fs × Follow (asked_behind (last_of f fs)) cs
enter_full None f fs cs follow = (refl, follow.0, follow.1)
enter_full (Some b) f fs cs follow = absurd follow

pub enter_packed : (o : Option SidBlock) (f : ListSid) (fs : List ListSid) (cs : List Container) → Follow o (Packed f fs ∷ cs)
    → (b : SidBlock) × (o ≡ Some b) × IsPacked (Some b) (f ∷ fs)
    × Follow (asked_behind_packed (Some b) (length (f ∷ fs)) (last_of f fs)) cs
enter_packed None f fs cs follow = absurd follow
enter_packed (Some b) f fs cs follow = (b, refl, follow.0, follow.1)

-- the first SID of the container that follows
pub entered_place : (o : Option SidBlock) (c : Container) (cs : List Container) → Follow o (c ∷ cs) → IsFlatList (c ∷ cs)
    → ((b : SidBlock) → o ≡ Some b → b.kind ≡ Replace) → IsPlace (entered c cs)
entered_place o (Full f fs) cs follow flat kinds =
    let (none, full, behind) = enter_full o f fs cs follow in
    record {
      container = full;
      behind = behind;
      flat = All-head IsFlatContainer (Full f fs) cs flat;
      flat_behind = All-tail IsFlatContainer (Full f fs) cs flat;
    }
entered_place o (Packed f fs) cs follow flat kinds =
    let (b, some, packed, behind) = enter_packed o f fs cs follow in
    record {
      block = b;
      own_block = All-head (λ (t : ListSid). t.block ≡ Some b) f fs packed.one_block;
      kind = kinds b some;
      container = packed;
      behind = behind;
      flat = All-head IsFlatContainer (Packed f fs) cs flat;
      flat_behind = All-tail IsFlatContainer (Packed f fs) cs flat;
    }

-- ---- the next place

some_same : {X : Type 0} (x y : X) → Some x ≡ Some y → x ≡ y
some_same x y e = cc

pub to_place : (P : ListPlace → Type 0) (x y : ListPlace) → Some x ≡ Some y → P x → P y
to_place P x y e p = subst P (some_same x y e) p

pub next_place_law : (x y : ListPlace) → IsPlace x → next_of x ≡ Some y → IsPlace y
next_place_law (InFull s [] []) y is e = cc
next_place_law (InFull s [] (c ∷ cs)) y is e =
    to_place IsPlace (entered c cs) y e
    (entered_place (asked_behind s) c cs is.behind is.flat_behind
    (λ b asked. asked_kind s b (All-head IsFlatSid s [] is.flat) asked))
next_place_law (InFull s (t ∷ ts) cs) y is e =
    to_place IsPlace (InFull t ts cs) y e (record {
      container = full_rest s t ts is.container is.flat;
      behind = is.behind;
      flat = All-tail IsFlatSid s (t ∷ ts) is.flat;
      flat_behind = is.flat_behind;
    })
next_place_law (InPacked bs s [] []) y is e = cc
next_place_law (InPacked bs s [] (c ∷ cs)) y is e =
    to_place IsPlace (entered c cs) y e
    (entered_place (asked_behind_packed (Some is.block) (length (bs ++ s ∷ [])) s) c cs is.behind is.flat_behind
    (λ b asked. asked_kind s b (flat_own bs s [] (c ∷ cs) is)
    (asked_packed (Some is.block) (length (bs ++ s ∷ [])) s b asked).1))
next_place_law (InPacked bs s (t ∷ ts) cs) y is e =
    let moved : (bs ++ s ∷ []) ++ (t ∷ ts) ≡ bs ++ s ∷ t ∷ ts = append_assoc bs (s ∷ []) (t ∷ ts) in
    let P : List ListSid → Type 0 = λ xs. IsPacked (Some is.block) xs in
    let Q : List ListSid → Type 0 = λ xs. All IsFlatSid xs in
    let R : List ListSid → Type 0 = λ xs. Follow (asked_behind_packed (Some is.block) (length xs) (last_of t ts)) cs in
    let one = all_right (λ (v : ListSid). v.block ≡ Some is.block) bs (s ∷ t ∷ ts) is.container.one_block in
    to_place IsPlace (InPacked (bs ++ s ∷ []) t ts cs) y e (record {
      block = is.block;
      own_block = All-head (λ (v : ListSid). v.block ≡ Some is.block) t ts
          (All-tail (λ (v : ListSid). v.block ≡ Some is.block) s (t ∷ ts) one);
      kind = is.kind;
      container = subst P (sym moved) is.container;
      behind = subst R (sym moved) is.behind;
      flat = subst Q (sym moved) is.flat;
      flat_behind = is.flat_behind;
    })

-- ---- the entries there

-- at a container's first SID
pub entered_listed : (c : Container) (cs : List Container) (entries front : List ℕ) → entries ≡ reverse (values_of (c ∷ cs)) ++ front
    → All (λ a. a < 2 ^ 128) entries → IsListed (entered c cs) entries
entered_listed (Full f fs) cs entries front split all =
    record { front = value_of (Full f fs) ∷ front; split = listed_behind entries front (Full f fs) cs split; addresses = all }
entered_listed (Packed f fs) cs entries front split all =
    record { front = front; split = listed_behind entries front (Packed f fs) cs split; addresses = all }

pub next_listed : (x y : ListPlace) (entries : List ℕ) → IsPlace x → IsListed x entries → next_of x ≡ Some y → IsListed y entries
next_listed (InFull s [] []) y entries is listed e = cc
next_listed (InFull s [] (c ∷ cs)) y entries is listed e =
    to_place (λ z. IsListed z entries) (entered c cs) y e (entered_listed c cs entries listed.front listed.split listed.addresses)
next_listed (InFull s (t ∷ ts) cs) y entries is listed e =
    to_place (λ z. IsListed z entries) (InFull t ts cs) y e
    (record { front = listed.front; split = listed.split; addresses = listed.addresses })
next_listed (InPacked bs s [] []) y entries is listed e = cc
next_listed (InPacked bs s [] (c ∷ cs)) y entries is listed e =
    to_place (λ z. IsListed z entries) (entered c cs) y e
    (entered_listed c cs entries (packed_value s.block (bs ++ s ∷ []) ∷ listed.front) listed.split listed.addresses)
next_listed (InPacked bs s (t ∷ ts) cs) y entries is listed e =
    let moved : (bs ++ s ∷ []) ++ (t ∷ ts) ≡ bs ++ s ∷ t ∷ ts = append_assoc bs (s ∷ []) (t ∷ ts) in
    let one = all_right (λ (v : ListSid). v.block ≡ Some is.block) bs (s ∷ t ∷ ts) is.container.one_block in
    let of_t : t.block ≡ Some is.block = All-head (λ (v : ListSid). v.block ≡ Some is.block) t ts
    (All-tail (λ (v : ListSid). v.block ≡ Some is.block) s (t ∷ ts) one) in
    let own : packed_value s.block (bs ++ s ∷ t ∷ ts) ≡ packed_value t.block ((bs ++ s ∷ []) ++ (t ∷ ts)) =
    ap (λ o. packed_value o (bs ++ s ∷ t ∷ ts)) (is.own_block ∙ sym of_t) ∙ ap (packed_value t.block) (sym moved) in
    to_place (λ z. IsListed z entries) (InPacked (bs ++ s ∷ []) t ts cs) y e (record {
      front = listed.front;
      split = listed.split ∙ ap (λ v. reverse (values_of cs) ++ (v ∷ listed.front)) own;
      addresses = listed.addresses;
    })

-- the header lacks only where it may
pub next_lacking : (psp : Bool) (x y : ListPlace) (routed : Bool) → next_of x ≡ Some y → (routed ≡ false → may_lack x ≡ true)
    → stays_routed psp x y routed ≡ false → may_lack y ≡ true
next_lacking psp (InFull s (t ∷ ts) cs) y routed e lacking out =
    to_place (λ z. may_lack z ≡ true) (InFull t ts cs) y e (same cs (lacking out))
  where
    same : (ds : List Container) → may_lack (InFull s (t ∷ ts) ds) ≡ true → may_lack (InFull t ts ds) ≡ true
    same [] h = refl
    same (d ∷ ds) h = h
next_lacking psp (InFull s [] cs) y routed e lacking out = taken psp (may_lack y) out
  where
    taken : (a b : Bool) → not (a && b) ≡ false → b ≡ true
    taken true true h = refl
    taken true false h = cc
    taken false b h = cc
next_lacking psp (InPacked bs s ss cs) y routed e lacking out = taken psp (may_lack y) out
  where
    taken : (a b : Bool) → not (a && b) ≡ false → b ≡ true
    taken true true h = refl
    taken true false h = cc
    taken false b h = cc
