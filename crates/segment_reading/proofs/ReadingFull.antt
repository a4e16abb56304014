-- Full containers read back from their values: at each address the longest prefix that has it is that of the active SID.
use Rattle.std.proofs.Common.{◌≡◌, ℕ, ◌+◌, ◌-◌, ◌%◌, ◌^◌, ◌<◌, ◌≤◌, inl, inr, Bool, true, false, ◌&&◌, ◌==◌, not, List, [], ◌∷◌, ◌++◌, length, map, All, Option, Some, None, slice_get, refl, sym, ◌∙◌, ap, subst, arith}
use Rattle.std.proofs.lemmas.Bool.{cases_lt, eq-eqb}
use Rattle.std.proofs.lemmas.Option.{slice_get_within}
use Rattle.std.proofs.lemmas.List.{length-map}
use Rattle.std.proofs.lemmas.List.Elements.{All-nil, All-cons, All-head, All-tail}
use Rattle.v6_addr.specs.Address.{PrefixValue, Holds}
use Rattle.v6_addr.proofs.PublicLaws.{Holds_nested, same_value}
use Rattle.srv6_rules.specs.Compressed.{argument_of, shift_of}
use Rattle.srv6_rules.specs.CompressedSteps.{is_next, shifts}
use Rattle.srv6_rules.specs.declared.sid.Csid.TheVariants.{Next}
use Rattle.srv6_rules.specs.declared.sid.SidEntry.{SidEntry}
use Rattle.net_model.specs.Network.{Network}
use Rattle.net_model.specs.NetworkKeeps.{Keeps}
use Rattle.net_model.specs.NetworkRulesTerms.{IsNetwork}
use Rattle.net_model.proofs.PublicLaws.{keeps_from_network, contains_from_get}
use Rattle.net_flatness.specs.Flat.{IsFlat}
use Rattle.net_flatness.specs.NestsTerms.{IsOwn}
use Rattle.net_flatness.proofs.PublicLaws.{inside_is_nested}
use Rattle.sid_list_spec.specs.SegmentLists.{ListSid, SidBlock, block_len, csid_bits, IsFull}
use Rattle.sid_list_theory.specs.SegmentListsTerms.{IsFlatSid, IsFlatContainer, IsFlatList, compression}
use Rattle.sid_list_theory.specs.ListPlaces.{ListPlace, InFull, IsPlace}
use Rattle.sid_list_theory.proofs.Goings.{shift_full, shifts_more}
use Rattle.sid_list_theory.proofs.Sids.{full_block, full_one, full_rest, in_block, len_in}
use Rattle.list_pack.specs.declared.types.Container.TheVariants.{Full}
use Rattle.list_pack.specs.SidLists.{IsSidPrefix, KeepsNests, container_in, list_in, list_sid}
use Rattle.list_pack.proofs.PublicLaws.{legal_flat}
use Rattle.leg_table.specs.NestLegsTerms.{PlaceKeeps}
use Rattle.leg_table.proofs.FlatNets.{FlatFacts, flat_facts}
use Rattle.leg_table.proofs.OwnPlaces.{first_keeps, list_keeps, own_at}
use Rattle.segment_reading.specs.Readings.{IsFullAt, LongestOf}

pub prefix_same : (p q : PrefixValue) → p.value ≡ q.value → p.len ≡ q.len → p ≡ q
prefix_same p q e f = ap (λ (v : ℕ). record p { value = v }) e ∙ ap (λ (l : ℕ). record p { value = q.value; len = l }) f

module _ (net : Network) (network : IsNetwork net) (flat : IsFlat net) where
  keeps : Keeps net
  keeps = keeps_from_network net network

  facts : FlatFacts net
  facts = flat_facts net network flat

  -- ---- own addresses

  -- no longer prefix of a SID has an own address of a SID in it
  own_most : (n m a : ℕ) (s t : SidEntry) → slice_get net.sids n ≡ Some s → slice_get net.sids m ≡ Some t → IsOwn net s a
      → Holds t.prefix a → t.prefix.len ≤ s.prefix.len
  own_most n m a s t at_n at_m own held = elim (cases_lt s.prefix.len t.prefix.len) [
    | inl longer ↦ absurd (own.clear t (contains_from_get net.sids m t at_m)
        (inside_is_nested net n m s t flat at_n at_m (longer, Holds_nested s.prefix t.prefix a (omega arith) own.held held)) held)
    | inr low ↦ low
  ]

  -- so the longest one is the SID's
  longest_own : (n a : ℕ) (s : SidEntry) → slice_get net.sids n ≡ Some s → IsOwn net s a → (o : Option PrefixValue)
      → LongestOf net.sids (length net.sids) a o → o ≡ Some s.prefix
  longest_own n a s at own None none = absurd (none n s (slice_get_within net.sids n s at) at own.held)
  longest_own n a s at own (Some p) is =
      let t = is.sid in
      let long : s.prefix.len ≤ p.len = is.most n s (slice_get_within net.sids n s at) at own.held in
      let held : Holds t.prefix a = subst (λ (q : PrefixValue). Holds q a) (sym is.prefix) is.held in
      let short = own_most n is.number a s t at is.there own held in
      let same : t.prefix.len ≡ p.len = ap (λ (q : PrefixValue). q.len) is.prefix in
      let len : t.prefix.len ≡ s.prefix.len = omega (arith, long, short, same) in
      let value = same_value t.prefix s.prefix a (keeps.sid is.number t is.there).prefix (keeps.sid n s at).prefix len held own.held in
      ap Some (sym is.prefix ∙ prefix_same t.prefix s.prefix value len)

  -- and two SIDs have one prefix where an address is both their own
  own_same : (n m a : ℕ) (s t : SidEntry) → slice_get net.sids n ≡ Some s → slice_get net.sids m ≡ Some t → IsOwn net s a → IsOwn net t a
      → s.prefix ≡ t.prefix
  own_same n m a s t at_n at_m own also =
      let up = own_most n m a s t at_n at_m own also.held in
      let down = own_most m n a t s at_m at_n also own.held in
      let len : s.prefix.len ≡ t.prefix.len = omega (arith, up, down) in
      prefix_same s.prefix t.prefix
      (same_value s.prefix t.prefix a (keeps.sid n s at_n).prefix (keeps.sid m t at_m).prefix len own.held also.held) len

  -- ---- full containers

  module _ (p : PrefixValue) (more : List PrefixValue) (d : ℕ) (is : IsFullAt net p more d) where
    abbrev first : ListSid
    first = list_sid net p

    abbrev others : List ListSid
    others = map (list_sid net) more

    abbrev place : ListPlace
    place = InFull first others []

    pub flat_list : IsFlatList (list_in net (Full p more ∷ []))
    flat_list = legal_flat net (Full p more ∷ []) facts.suits is.legal

    pub flat_sids : All IsFlatSid (first ∷ others)
    flat_sids = All-head IsFlatContainer (container_in net (Full p more)) [] flat_list

    pub is_full : IsFull first others
    is_full = is.legal.rules.0

    is_place : IsPlace place
    is_place = record { container = is_full; behind = tt; flat = flat_sids; flat_behind = All-nil IsFlatContainer }

    place_keeps : PlaceKeeps net place
    place_keeps = first_keeps net (list_in net (Full p more ∷ [])) place (list_keeps net (Full p more ∷ []) is.legal) refl

    -- the SID whose prefix the first one is: the value is its own address
    pub record Owner : Type 0 where
      pub number : ℕ
      pub sid : SidEntry
      pub there : slice_get net.sids number ≡ Some sid
      pub prefix : sid.prefix ≡ p
      pub own : IsOwn net sid d

    pub owner : Owner
    owner =
        let named : IsSidPrefix net p = All-head (IsSidPrefix net) p (more ++ []) is.legal.named in
        let own = own_at net keeps facts.units place is_place place_keeps named.1 (contains_from_get net.sids named.0 named.1 named.2)
        (ap (list_sid net) (sym named.3)) in
        record {
          number = named.0;
          sid = named.1;
          there = named.2;
          prefix = named.3;
          own = subst (IsOwn net named.1) is.value own;
        }

  pub full_longest : (p : PrefixValue) (more : List PrefixValue) (d : ℕ) → IsFullAt net p more d → (o : Option PrefixValue)
      → LongestOf net.sids (length net.sids) d o → o ≡ Some p
  full_longest p more d is o longest =
      let own = owner p more d is in
      longest_own own.number d own.sid own.there own.own o longest ∙ ap Some own.prefix

  pub first_same : (p q : PrefixValue) (more others : List PrefixValue) (d : ℕ) → IsFullAt net p more d → IsFullAt net q others d → p ≡ q
  first_same p q more others d is also =
      let own = owner p more d is in
      let other = owner q others d also in
      sym own.prefix ∙ own_same own.number other.number d own.sid other.sid own.there other.there own.own other.own ∙ other.prefix

  -- ---- the SIDs after the first

  -- none is left where the argument is 0
  pub full_still : (p : PrefixValue) (d : ℕ) → IsFullAt net p [] d → argument_of d p.len ≡ 0
  unfolding argument_of
  full_still p d is =
      let clean : p.value % 2 ^ (128 - p.len) ≡ 0 = (All-head IsFlatSid (list_sid net p) [] (flat_sids p [] d is)).prefix.2 in
      ap (λ (n : ℕ). n % 2 ^ (128 - p.len)) (sym is.value ∙ full_one (list_sid net p)) ∙ clean

  module _ (p q : PrefixValue) (more : List PrefixValue) (d : ℕ) (is : IsFullAt net p (q ∷ more) d) where
    abbrev s : ListSid
    s = list_sid net p

    pub full_shifts : argument_of d p.len ≡ 0 → ⊥
    full_shifts none =
        let shift : shifts (compression s) d ≡ true
        = ap (shifts (compression s)) (sym is.value)
        ∙ shifts_more s (list_sid net q) (map (list_sid net) more) (is_full p (q ∷ more) d is) (flat_sids p (q ∷ more) d is) in
        by (is_next s.csid) (argument_of d p.len) none shift
      where
        by : (b : Bool) (n : ℕ) → n ≡ 0 → (b && not (n == 0)) ≡ true → ⊥
        by true n none shift = let e : (n == 0) ≡ true = eq-eqb n 0 none in cc
        by false n none shift = cc

    own_block : (b : SidBlock) × (s.block ≡ Some b) × (b.kind ≡ Next)
    own_block = full_block s (list_sid net q) (map (list_sid net) more) (is_full p (q ∷ more) d is) (flat_sids p (q ∷ more) d is)

    pub block_shorter : block_len s.block < p.len
    block_shorter =
        let b = own_block in
        let inside = in_block s b.0 (All-head IsFlatSid s (map (list_sid net) (q ∷ more)) (flat_sids p (q ∷ more) d is)) b.1 in
        let longer : b.0.prefix.len < p.len = inside.sid_of.inside.0 in
        let len = len_in s b.0 b.1 in
        omega (arith, longer, len)

    pub full_behind : IsFullAt net q more (shift_of d (block_len s.block) p.len)
    full_behind =
        let full = is_full p (q ∷ more) d is in
        let flats = flat_sids p (q ∷ more) d is in
        let rest = full_rest s (list_sid net q) (map (list_sid net) more) full flats in
        let nests = All-head (KeepsNests net) (Full p (q ∷ more)) [] is.legal.nests in
        record {
          legal = record {
            rules = (rest, tt);
            named = All-tail (IsSidPrefix net) p (q ∷ more ++ []) is.legal.named;
            nests = All-cons (KeepsNests net) (Full q more) [] nests.1 (All-nil (KeepsNests net));
          };
          value =
              sym (shift_full s (list_sid net q) (map (list_sid net) more) full flats)
              ∙ ap (λ (n : ℕ). shift_of n (block_len s.block) p.len) is.value;
        }

  -- ---- there are few of them

  bits_long : (b : SidBlock) (ts : List ListSid) → All (λ (t : ListSid). t.block ≡ Some b) ts → All IsFlatSid ts → length ts ≤ csid_bits ts
  bits_long b [] one flats = omega arith
  bits_long b (t ∷ ts) one flats =
      let own = All-head (λ (t : ListSid). t.block ≡ Some b) t ts one in
      let inside = in_block t b (All-head IsFlatSid t ts flats) own in
      let longer : b.prefix.len < t.prefix.len = inside.sid_of.inside.0 in
      let len = len_in t b own in
      let rest = bits_long b ts (All-tail (λ (t : ListSid). t.block ≡ Some b) t ts one) (All-tail IsFlatSid t ts flats) in
      omega (arith, longer, len, rest)

  pub full_few : (p : PrefixValue) (more : List PrefixValue) (d : ℕ) → IsFullAt net p more d → length more ≤ 128
  full_few p [] d is = omega arith
  full_few p (q ∷ more) d is =
      let s = list_sid net p in
      let ts : List ListSid = map (list_sid net) (q ∷ more) in
      let b = own_block p q more d is in
      let full = is_full p (q ∷ more) d is in
      let one : All (λ (t : ListSid). t.block ≡ Some b.0) ts =
      subst (λ (o : Option SidBlock). All (λ (t : ListSid). t.block ≡ o) ts) b.1 full.one_block in
      let long = bits_long b.0 ts one (All-tail IsFlatSid s ts (flat_sids p (q ∷ more) d is)) in
      let fits : p.len + csid_bits ts ≤ 128 = full.fits in
      let count = length-map (q ∷ more) (list_sid net) in
      omega (arith, long, fits, count)

  -- ---- one container of a value

  pub more_same : (more others : List PrefixValue) (p : PrefixValue) (d : ℕ) → IsFullAt net p more d → IsFullAt net p others d
      → more ≡ others
  more_same [] [] p d is also = refl
  more_same [] (q ∷ others) p d is also = absurd (full_shifts p q others d also (full_still p d is))
  more_same (q ∷ more) [] p d is also = absurd (full_shifts p q more d is (full_still p d also))
  more_same (q ∷ more) (r ∷ others) p d is also =
      let behind = full_behind p q more d is in
      let other = full_behind p r others d also in
      let e = shift_of d (block_len (list_sid net p).block) p.len in
      let same = first_same q r more others e behind other in
      let rest = more_same more others q e behind (subst (λ (x : PrefixValue). IsFullAt net x others e) (sym same) other) in
      ap (λ (x : PrefixValue). x ∷ more) same ∙ ap (λ (xs : List PrefixValue). r ∷ xs) rest
