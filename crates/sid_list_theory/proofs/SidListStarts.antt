-- The packet as it is made, at the first SID of its list.
use Rattle.std.proofs.Common.{◌≡◌, ℕ, suc, ◌+◌, ◌-◌, ◌/◌, ◌^◌, ◌<◌, ◌≤◌, Bool, true, false, not, ◌||◌, if◌then◌else◌, nat_lt, List, [], ◌∷◌, ◌++◌, length, map, drop, reverse, slice_index, All, Option, Some, None, refl, sym, ◌∙◌, ap, subst, arith}
use Rattle.std.proofs.lemmas.Bool.{lt-ltb}
use Rattle.std.proofs.lemmas.Nat.{mod_below, pow_pos}
use Rattle.std.proofs.lemmas.List.{append-nil, reverse-append, length-map}
use Rattle.std.proofs.lemmas.List.Elements.{All-nil, All-cons, All-head, All-tail, All-append, All-map}
use Rattle.v6_addr.specs.Address.{PrefixValue, field_of, Holds}
use Rattle.srv6_rules.specs.declared.sid.Csid.TheVariants.{Replace}
use Rattle.srv6_rules.specs.declared.family.Family.{Family}
use Rattle.srv6_rules.specs.Packet.{Packet}
use Rattle.srv6_rules.specs.Compressed.{csid_of, csid_count}
use Rattle.srv6_rules.specs.Encapsulation.{Encapsulation, segment_list, has_segment_routing}
use Rattle.srv6_rules.specs.Policies.{pushed_round}
use Rattle.srv6_rules.proofs.PublicLaws.{entry_address}
use Rattle.sid_list_spec.specs.SegmentLists.{SidBlock, ListSid, Container, Full, Packed, last_of, prefix_of, full_value, packed_value, value_of, values_of, IsPacked, asked_behind, asked_behind_packed, Follow, IsLegal}
use Rattle.sid_list_theory.specs.SegmentListsTerms.{IsFlatSid, IsFlatContainer, IsFlatList}
use Rattle.sid_list_theory.specs.ListPlaces.{ListPlace, InFull, InPacked, Tunnel, on_way, form, entered, first_of, active, destination_of, may_lack, IsPlace, IsListed, Along}
use Rattle.sid_list_theory.proofs.Sids.{replace_sid, full_address, full_holds}
use Rattle.sid_list_theory.proofs.Follows.{asked_packed, asked_kind, enter_full, enter_packed, entered_place}
use Rattle.sid_list_theory.proofs.Packs.{packed_holds}
use Rattle.sid_list_theory.proofs.Goings.{AreAddresses}

-- ---- values are addresses

abbrev IsAddress : ℕ → Type 0
IsAddress a = a < 2 ^ 128

csid_fits : (block w : ℕ) (s : PrefixValue) → s.len - block ≡ w → csid_of block s < 2 ^ w
unfolding field_of
csid_fits block w s width =
    let k : ℕ = s.len - block in
    let P : ℕ → Type 0 = λ n. csid_of block s < 2 ^ n in
    subst P width (mod_below (s.value / 2 ^ (128 - block - k)) (2 ^ k) (pow_pos k))

packed_address : (b : SidBlock) (f : ListSid) (fs : List ListSid) → IsPacked (Some b) (f ∷ fs) → All IsFlatSid (f ∷ fs) → b.kind ≡ Replace
    → packed_value (Some b) (f ∷ fs) < 2 ^ 128
packed_address b f fs is flat kind =
    let w : ℕ = b.csid_len in
    let sids : List ListSid = f ∷ fs in
    let csids : List ℕ = map (csid_of b.prefix.len) (map prefix_of sids) in
    let len = (replace_sid f b (All-head IsFlatSid f fs flat)
    (All-head (λ (v : ListSid). v.block ≡ Some b) f fs is.one_block) kind).csid in
    let each : All (λ (v : ListSid). csid_of b.prefix.len v.prefix < 2 ^ w) sids =
    λ k d below. fits _ (flat k d below) (is.one_block k d below) in
    let few : length sids ≤ csid_count w = is.few in
    let long : length csids ≡ length sids = length-map (map prefix_of sids) (csid_of b.prefix.len) ∙ length-map sids prefix_of in
    entry_address w csids len
    (All-map (λ c. c < 2 ^ w) (csid_of b.prefix.len) (map prefix_of sids)
    (All-map (λ p. csid_of b.prefix.len p < 2 ^ w) prefix_of sids each))
    (subst (λ (n : ℕ). n ≤ csid_count w) (sym long) few)
  where
    fits : (v : ListSid) → IsFlatSid v → v.block ≡ Some b → csid_of b.prefix.len v.prefix < 2 ^ b.csid_len
    fits v flat_v own =
        let sid = replace_sid v b flat_v own kind in
        let len : v.prefix.len ≡ b.prefix.len + b.csid_len = sid.len in
        csid_fits b.prefix.len b.csid_len v.prefix (omega arith)

last_flat : (s : ListSid) (ss : List ListSid) → All IsFlatSid (s ∷ ss) → IsFlatSid (last_of s ss)
last_flat s [] flat = All-head IsFlatSid s [] flat
last_flat s (t ∷ ts) flat = last_flat t ts (All-tail IsFlatSid s (t ∷ ts) flat)

follow_addresses : (o : Option SidBlock) (cs : List Container) → Follow o cs → IsFlatList cs
    → ((b : SidBlock) → o ≡ Some b → b.kind ≡ Replace) → AreAddresses (values_of cs)
follow_addresses o [] follow flat kinds = All-nil IsAddress
follow_addresses o (Full f fs ∷ cs) follow flat kinds =
    let (none, full, behind) = enter_full o f fs cs follow in
    let own = All-head IsFlatContainer (Full f fs) cs flat in
    All-cons IsAddress (full_value f fs) (values_of cs) (full_address f fs full own)
    (follow_addresses (asked_behind (last_of f fs)) cs behind (All-tail IsFlatContainer (Full f fs) cs flat)
    (λ b asked. asked_kind (last_of f fs) b (last_flat f fs own) asked))
follow_addresses o (Packed f fs ∷ cs) follow flat kinds =
    let (b, some, packed, behind) = enter_packed o f fs cs follow in
    let own = All-head IsFlatContainer (Packed f fs) cs flat in
    let of_block : f.block ≡ Some b = All-head (λ (v : ListSid). v.block ≡ Some b) f fs packed.one_block in
    let P : Option SidBlock → Type 0 = λ x. packed_value x (f ∷ fs) < 2 ^ 128 in
    All-cons IsAddress (packed_value f.block (f ∷ fs)) (values_of cs)
    (subst P (sym of_block) (packed_address b f fs packed own (kinds b some)))
    (follow_addresses (asked_behind_packed (Some b) (length (f ∷ fs)) (last_of f fs)) cs behind
    (All-tail IsFlatContainer (Packed f fs) cs flat)
    (λ a asked. asked_kind (last_of f fs) a (last_flat f fs own)
    (asked_packed (Some b) (length (f ∷ fs)) (last_of f fs) a asked).1))

none_asked : (b : SidBlock) → None ≡ Some b → b.kind ≡ Replace
none_asked b e = cc

pub legal_addresses : (cs : List Container) → IsLegal cs → IsFlatList cs → AreAddresses (values_of cs)
legal_addresses [] legal flat = absurd legal
legal_addresses (c ∷ cs) legal flat = follow_addresses None (c ∷ cs) legal flat none_asked

-- ---- the first place

pub first_place : (cs : List Container) (x : ListPlace) → IsLegal cs → IsFlatList cs → first_of cs ≡ Some x → IsPlace x
first_place [] x legal flat e = absurd legal
first_place (c ∷ cs) x legal flat e =
    let same : entered c cs ≡ x = cc in
    subst IsPlace same (entered_place None c cs legal flat none_asked)

pub first_some : (cs : List Container) → IsLegal cs → (x : ListPlace) × (first_of cs ≡ Some x)
first_some [] legal = absurd legal
first_some (c ∷ cs) legal = (entered c cs, refl)

-- ---- the segment list

reverse_cons : (v : ℕ) (vs : List ℕ) → reverse (v ∷ vs) ≡ reverse vs ++ (v ∷ [])
reverse_cons v vs = reverse-append (v ∷ []) vs

all_reverse : (xs : List ℕ) → AreAddresses xs → AreAddresses (reverse xs)
all_reverse [] all = All-nil IsAddress
all_reverse (x ∷ xs) all =
    subst AreAddresses (sym (reverse_cons x xs))
    (All-append IsAddress (reverse xs) (x ∷ []) (all_reverse xs (All-tail IsAddress x xs all))
    (All-cons IsAddress x [] (All-head IsAddress x xs all) (All-nil IsAddress)))

entries_by : Bool → List ℕ → List ℕ
entries_by reduced segments = reverse (if reduced then drop 1 segments else segments)

first_entries : (reduced : Bool) (v : ℕ) (vs : List ℕ) → (front : List ℕ) × (entries_by reduced (v ∷ vs) ≡ reverse vs ++ front)
unfolding entries_by
first_entries true v vs = ([], sym (append-nil (reverse vs)))
first_entries false v vs = (v ∷ [], reverse_cons v vs)

all_entries : (reduced : Bool) (v : ℕ) (vs : List ℕ) → AreAddresses (v ∷ vs) → AreAddresses (entries_by reduced (v ∷ vs))
unfolding entries_by
all_entries true v vs all = all_reverse vs (All-tail IsAddress v vs all)
all_entries false v vs all = all_reverse (v ∷ vs) all

first_listed : (e : Encapsulation) (f : ListSid) (fs : List ListSid) (cs : List Container) → e.segments ≡ values_of (Full f fs ∷ cs)
    → AreAddresses (values_of (Full f fs ∷ cs)) → IsListed (InFull f fs cs) (segment_list e)
unfolding entries_by
first_listed e f fs cs made all =
    let (front, split) = first_entries e.reduced (full_value f fs) (values_of cs) in
    let same : segment_list e ≡ entries_by e.reduced (full_value f fs ∷ values_of cs) = ap (entries_by e.reduced) made in
    record {
      front = front;
      split = same ∙ split;
      addresses = subst AreAddresses (sym same) (all_entries e.reduced (full_value f fs) (values_of cs) all);
    }

-- ---- the packet

-- the reduced form lacks the header with one container
lacking_one : (reduced : Bool) (f : ListSid) (fs : List ListSid) (cs : List Container)
    → (not reduced || nat_lt 1 (suc (length cs))) ≡ false → may_lack (InFull f fs cs) ≡ true
lacking_one true f fs [] has = refl
lacking_one true f fs (c ∷ cs) has = sym has ∙ lt-ltb 1 (suc (suc (length cs))) (omega arith)
lacking_one false f fs cs has = cc

first_packet : (e : Encapsulation) (inner : Family) (bytes : List ℕ) (hop : ℕ) (f : ListSid) (fs : List ListSid) (cs : List Container)
    → e.segments ≡ values_of (Full f fs ∷ cs)
    → pushed_round e inner bytes hop
    ≡ form (record { encapsulation = e; inner = inner; bytes = bytes }) (InFull f fs cs) (has_segment_routing e) hop
first_packet e inner bytes hop f fs cs made =
    let t : Tunnel = record { encapsulation = e; inner = inner; bytes = bytes } in
    let many : length e.segments ≡ suc (length cs) = ap length made ∙ length-map (Full f fs ∷ cs) value_of in
    let left : length e.segments - 1 ≡ length cs = omega arith in
    let to : ℕ → ℕ → Packet = λ n d. on_way t (has_segment_routing e) n hop d in
    ap (to (length e.segments - 1)) (ap (λ xs. slice_index xs 0) made) ∙ ap (λ n. to n (full_value f fs)) left

pub starts_first : (e : Encapsulation) (inner : Family) (bytes : List ℕ) (hop : ℕ) (cs : List Container) (x : ListPlace) → IsLegal cs
    → IsFlatList cs → e.segments ≡ values_of cs → first_of cs ≡ Some x
    → Along (record { encapsulation = e; inner = inner; bytes = bytes }) x hop (pushed_round e inner bytes hop)
starts_first e inner bytes hop [] x legal flat made first = absurd legal
starts_first e inner bytes hop (Packed f fs ∷ cs) x legal flat made first = absurd legal
starts_first e inner bytes hop (Full f fs ∷ cs) x legal flat made first =
    let same : InFull f fs cs ≡ x = cc in
    let t : Tunnel = record { encapsulation = e; inner = inner; bytes = bytes } in
    let many : length e.segments ≡ suc (length cs) = ap length made ∙ length-map (Full f fs ∷ cs) value_of in
    let P : ListPlace → Type 0 = λ y. Along t y hop (pushed_round e inner bytes hop) in
    subst P same (record {
      routed = has_segment_routing e;
      packet = first_packet e inner bytes hop f fs cs made;
      place = first_place (Full f fs ∷ cs) (InFull f fs cs) legal flat refl;
      listed = first_listed e f fs cs made (legal_addresses (Full f fs ∷ cs) legal flat);
      lacking = λ has. lacking_one e.reduced f fs cs (ap (λ n. not e.reduced || nat_lt 1 n) (sym many) ∙ has);
    })

-- ---- the destination

pub destination_holds : (x : ListPlace) → IsPlace x → Holds (active x).prefix (destination_of x)
destination_holds (InFull s ss cs) is = full_holds s ss is.container is.flat
destination_holds (InPacked bs s ss cs) is = packed_holds bs s ss cs is
