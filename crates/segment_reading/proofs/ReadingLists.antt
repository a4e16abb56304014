-- Lists read back from their values, container by container.
use Rattle.std.proofs.Common.{◌≡◌, ℕ, List, [], ◌∷◌, ◌++◌, length, map, All, Option, Some, None, refl, sym, ◌∙◌, ap, subst}
use Rattle.std.proofs.lemmas.List.Elements.{All-nil, All-cons, All-head, All-tail}
use Rattle.v6_addr.specs.Address.{PrefixValue}
use Rattle.net_model.specs.Network.{Network}
use Rattle.net_model.specs.NetworkRulesTerms.{IsNetwork}
use Rattle.net_flatness.specs.Flat.{IsFlat}
use Rattle.sid_list_spec.specs.SegmentLists.{ListSid, SidBlock, last_of, packed_value, value_of}
use Rattle.sid_list_theory.specs.SegmentListsTerms.{IsFlatSid, IsFlatContainer}
use Rattle.sid_list_theory.proofs.Follows.{asked_kind, asked_packed}
use Rattle.list_pack.specs.declared.types.Container.{Container}
use Rattle.list_pack.specs.declared.types.Container.TheVariants.{Full, Packed}
use Rattle.list_pack.specs.SidLists.{IsLegalList, IsSidPrefix, KeepsNests, container_in, list_in, list_sid, list_values, prefixes_in}
use Rattle.list_pack.proofs.PublicLaws.{flat_lists, legal_flat}
use Rattle.segment_reading.specs.Readings.{AreAt, IsAt, asked_behind}
use Rattle.segment_reading.proofs.ReadingFull.{first_same, more_same}
use Rattle.segment_reading.proofs.ReadingPacked.{packed_same, packed_width}

heads : {X : Type 0} (a b : X) (xs ys : List X) → Path (List X) (a ∷ xs) (b ∷ ys) → (a ≡ b) × (xs ≡ ys)
heads a b xs ys e = (cc, cc)

all_left : {X : Type 0} (P : X → Type 0) (xs ys : List X) → All P (xs ++ ys) → All P xs
all_left P [] ys all = All-nil P
all_left P (x ∷ xs) ys all = All-cons P x xs (All-head P x (xs ++ ys) all) (all_left P xs ys (All-tail P x (xs ++ ys) all))

all_right : {X : Type 0} (P : X → Type 0) (xs ys : List X) → All P (xs ++ ys) → All P ys
all_right P [] ys all = all
all_right P (x ∷ xs) ys all = all_right P xs ys (All-tail P x (xs ++ ys) all)

-- what holds of SIDs holds of the last of them
all_last : (P : ListSid → Type 0) (s : ListSid) (ss : List ListSid) → All P (s ∷ ss) → P (last_of s ss)
all_last P s [] all = All-head P s [] all
all_last P s (t ∷ ts) all = all_last P t ts (All-tail P s (t ∷ ts) all)

module _ (net : Network) where
  -- a legal list is at its values
  pub legal_at : IsNetwork net → IsFlat net → (list : List Container) → IsLegalList net list → AreAt net None list (list_values net list)
  legal_at network flat [] legal = absurd legal.rules
  legal_at network flat (c ∷ cs) legal =
      record {
        follow = legal.rules;
        replace = λ b none. absurd (cc);
        flat = legal_flat net (c ∷ cs) (flat_lists net network flat) legal;
        named = legal.named;
        nests = legal.nests;
        values = refl;
      }

  -- the first container, and those behind it
  pub record Split (asked : Option SidBlock) (c : Container) (cs : List Container) (value : ℕ) (values : List ℕ) : Type 0 where
    pub first : IsAt net asked c value
    pub behind : AreAt net (asked_behind net asked c) cs values

  pub split_at : (asked : Option SidBlock) (c : Container) (cs : List Container) (value : ℕ) (values : List ℕ)
      → AreAt net asked (c ∷ cs) (value ∷ values) → Split asked c cs value values
  split_at None (Packed p more) cs value values is = absurd is.follow
  split_at (Some b) (Full p more) cs value values is = absurd is.follow
  split_at None (Full p more) cs value values is =
      let c : Container = Full p more in
      let s = list_sid net p in
      let ts : List ListSid = map (list_sid net) more in
      let parts = heads (value_of (container_in net c)) value (list_values net cs) values is.values in
      let flats = All-head IsFlatContainer (container_in net c) (list_in net cs) is.flat in
      record {
        first = record {
          legal = record {
            rules = (is.follow.0, tt);
            named = subst (All (IsSidPrefix net)) (sym (append_nil (p ∷ more))) (all_left (IsSidPrefix net) (p ∷ more) (prefixes_in cs) is.named);
            nests = All-cons (KeepsNests net) c [] (All-head (KeepsNests net) c cs is.nests) (All-nil (KeepsNests net));
          };
          value = parts.0;
        };
        behind = record {
          follow = is.follow.1;
          replace = λ b e. asked_kind (last_of s ts) b (all_last IsFlatSid s ts flats) e;
          flat = All-tail IsFlatContainer (container_in net c) (list_in net cs) is.flat;
          named = all_right (IsSidPrefix net) (p ∷ more) (prefixes_in cs) is.named;
          nests = All-tail (KeepsNests net) c cs is.nests;
          values = parts.1;
        };
      }
    where
      append_nil : (xs : List PrefixValue) → xs ++ [] ≡ xs
      append_nil [] = refl
      append_nil (x ∷ xs) = ap (λ (ys : List PrefixValue). x ∷ ys) (append_nil xs)
  split_at (Some b) (Packed p more) cs value values is =
      let c : Container = Packed p more in
      let s = list_sid net p in
      let ts : List ListSid = map (list_sid net) more in
      let parts = heads (value_of (container_in net c)) value (list_values net cs) values is.values in
      let flats = All-head IsFlatContainer (container_in net c) (list_in net cs) is.flat in
      let own = All-head (λ (t : ListSid). t.block ≡ Some b) s ts is.follow.0.one_block in
      record {
        first = record {
          kind = is.replace b refl;
          packed = is.follow.0;
          flat = flats;
          named = all_left (IsSidPrefix net) (p ∷ more) (prefixes_in cs) is.named;
          value = ap (λ (o : Option SidBlock). packed_value o (s ∷ ts)) (sym own) ∙ parts.0;
        };
        behind = record {
          follow = is.follow.1;
          replace = λ d e. asked_kind (last_of s ts) d (all_last IsFlatSid s ts flats)
              (asked_packed (Some b) (length (s ∷ ts)) (last_of s ts) d e).1;
          flat = All-tail IsFlatContainer (container_in net c) (list_in net cs) is.flat;
          named = all_right (IsSidPrefix net) (p ∷ more) (prefixes_in cs) is.named;
          nests = All-tail (KeepsNests net) c cs is.nests;
          values = parts.1;
        };
      }

  -- no values are those of no containers alone
  pub none_at : (asked : Option SidBlock) (list : List Container) → AreAt net asked list [] → list ≡ []
  none_at asked [] is = refl
  none_at asked (c ∷ cs) is = let no = is.values in absurd (cc)

  pub some_at : (asked : Option SidBlock) (list : List Container) (value : ℕ) (values : List ℕ) → AreAt net asked list (value ∷ values)
      → (c : Container) × (cs : List Container) × (list ≡ c ∷ cs)
  some_at asked [] value values is = let no = is.values in absurd (cc)
  some_at asked (c ∷ cs) value values is = (c, cs, refl)

  -- ---- one list of values

  one_at : IsNetwork net → IsFlat net → (asked : Option SidBlock) (c d : Container) (value : ℕ) → IsAt net asked c value
      → IsAt net asked d value → c ≡ d
  one_at network flat None (Packed p more) d value is also = absurd is
  one_at network flat None (Full p more) (Packed q others) value is also = absurd also
  one_at network flat None (Full p more) (Full q others) value is also =
      let same = first_same net network flat p q more others value is also in
      let rest = more_same net network flat more others p value is
      (subst (λ (x : PrefixValue). IsAt net None (Full x others) value) (sym same) also) in
      ap (λ (x : PrefixValue). Full x more) same ∙ ap (λ (xs : List PrefixValue). Full q xs) rest
  one_at network flat (Some b) (Full p more) d value is also = absurd is
  one_at network flat (Some b) (Packed p more) (Full q others) value is also = absurd also
  one_at network flat (Some b) (Packed p more) (Packed q others) value is also =
      let all = packed_same net b (p ∷ more) (q ∷ others) value (packed_width net b p more value is) is also in
      let parts = heads p q more others all in
      ap (λ (x : PrefixValue). Packed x more) parts.0 ∙ ap (λ (xs : List PrefixValue). Packed q xs) parts.1

  lists_same : IsNetwork net → IsFlat net → (values : List ℕ) (asked : Option SidBlock) (a b : List Container) → AreAt net asked a values
      → AreAt net asked b values → a ≡ b
  lists_same network flat [] asked a b is also = none_at asked a is ∙ sym (none_at asked b also)
  lists_same network flat (value ∷ values) asked [] b is also = let no = is.values in absurd (cc)
  lists_same network flat (value ∷ values) asked (c ∷ cs) [] is also = let no = also.values in absurd (cc)
  lists_same network flat (value ∷ values) asked (c ∷ cs) (d ∷ ds) is also =
      let x = split_at asked c cs value values is in
      let y = split_at asked d ds value values also in
      let same = one_at network flat asked c d value x.first y.first in
      let rest = lists_same network flat values (asked_behind net asked c) cs ds x.behind
      (subst (λ (e : Container). AreAt net (asked_behind net asked e) ds values) (sym same) y.behind) in
      ap (λ (e : Container). e ∷ cs) same ∙ ap (λ (es : List Container). d ∷ es) rest

  -- so no two legal lists have the same values
  pub values_same : IsNetwork net → IsFlat net → (a b : List Container) → IsLegalList net a → IsLegalList net b
      → list_values net a ≡ list_values net b → a ≡ b
  values_same network flat a b legal also same =
      lists_same network flat (list_values net b) None a b
      (subst (AreAt net None a) same (legal_at network flat a legal)) (legal_at network flat b also)
