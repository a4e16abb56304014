-- Containers of a legal list over SIDs of a flat network, one by one.
use Rattle.std.proofs.Common.{◌≡◌, inl, inr, ℕ, zero, suc, ◌+◌, ◌-◌, ◌≤◌, ◌==◌, Bool, true, false, if◌then◌else◌, List, [], ◌∷◌, length, map, All, Option, Some, None, refl, sym, ◌∙◌, ap, subst, arith}
use Rattle.std.specs.List.{slice_get}
use Rattle.std.specs.Option.{option_map}
use Rattle.std.proofs.lemmas.List.{length-map}
use Rattle.std.proofs.lemmas.List.Elements.{All-nil, All-head, All-tail}
use Rattle.v6_addr.specs.Address.{PrefixValue}
use Rattle.srv6_rules.specs.declared.sid.Csid.{Csid}
use Rattle.srv6_rules.specs.declared.sid.Csid.TheVariants.{Plain, Next, Replace}
use Rattle.srv6_rules.specs.Compressed.{csid_of, csid_count, container_of, packed_entry}
use Rattle.srv6_rules.specs.CompressedTerms.{IsCsidLen}
use Rattle.srv6_rules.specs.CompressedSteps.{is_replace}
use Rattle.net_model.specs.declared.parts.Block.{Block}
use Rattle.net_model.specs.Network.{Network}
use Rattle.net_model.specs.NetworkRules as rules
use Rattle.sid_list_spec.specs.SegmentLists.{SidBlock, ListSid, block_len, csid_len_in, csid_bits, csid_len, last_of, prefix_of, value_of, IsFull, IsPacked, IsLegal, Follow, asked_behind, asked_behind_packed}
use Rattle.sid_list_theory.specs.SegmentListsTerms.{IsInBlock, SuitsBlock, IsFlatSid, IsFlatContainer, IsFlatList}
use Rattle.sid_list_theory.specs.ListPlaces.{IsInFull, IsInPacked}
use Rattle.list_pack.specs.declared.types.Container.{Container}
use Rattle.list_pack.specs.declared.types.Container.TheVariants.{Full, Packed}
use Rattle.list_pack.specs.SidLists.{list_sid, sid_block, container_in, list_in}
use Rattle.list_pack.specs.SegmentValues.{FitBehind, HaveCsids, IsValued}

abbrev InBlock : Option SidBlock → ListSid → Type 0
InBlock o t = t.block ≡ o

in_block_law : (s : ListSid) (b : SidBlock) → IsFlatSid s → s.block ≡ Some b → IsInBlock b s
in_block_law s b flat e = subst (λ (o : Option SidBlock). SuitsBlock o s) e flat.block

-- the prefixes of the SIDs of prefixes
pub own_prefixes : (net : Network) (ps : List PrefixValue) → map prefix_of (map (list_sid net) ps) ≡ ps
own_prefixes net [] = refl
own_prefixes net (p ∷ ps) = ap (λ (qs : List PrefixValue). p ∷ qs) (own_prefixes net ps)

-- ---- full containers

fit_some : (net : Network) (b : SidBlock) (at : ℕ) (ps : List PrefixValue) → All (InBlock (Some b)) (map (list_sid net) ps)
    → All IsFlatSid (map (list_sid net) ps) → at + csid_bits (map (list_sid net) ps) ≤ 128 → FitBehind b.prefix.len at ps
fit_some net b at [] one flat fits = tt
fit_some net b at (p ∷ ps) one flat fits =
    let t = list_sid net p in
    let ts = map (list_sid net) ps in
    let own : t.block ≡ Some b = All-head (InBlock (Some b)) t ts one in
    let inside = in_block_law t b (All-head IsFlatSid t ts flat) own in
    let len : csid_len t ≡ p.len - b.prefix.len = ap (λ (o : Option SidBlock). p.len - block_len o) own in
    let bits : at + (csid_len t + csid_bits ts) ≤ 128 = fits in (
      inside.sid_of.inside.0,
      omega (arith, len, bits),
      fit_some net b (at + (p.len - b.prefix.len)) ps (All-tail (InBlock (Some b)) t ts one) (All-tail IsFlatSid t ts flat)
          (omega (arith, len, bits)),
    )

fit_by : (net : Network) (o : Option SidBlock) (first : PrefixValue) (more : List PrefixValue) → (list_sid net first).block ≡ o
    → IsFull (list_sid net first) (map (list_sid net) more) → All IsFlatSid (list_sid net first ∷ map (list_sid net) more)
    → FitBehind (block_len o) first.len more
fit_by net None first [] own is flat = tt
fit_by net None first (p ∷ ps) own is flat =
    let s = list_sid net first in
    let plain : s.csid ≡ Plain =
    subst (λ (o : Option SidBlock). SuitsBlock o s) own (All-head IsFlatSid s (map (list_sid net) (p ∷ ps)) flat).block in
    let next : s.csid ≡ Next = is.next.0 in
    absurd (let both : Plain ≡ Next = sym plain ∙ next in cc)
fit_by net (Some b) first more own is flat =
    let s = list_sid net first in
    let ss = map (list_sid net) more in
    let one : All (InBlock s.block) ss = is.one_block in
    fit_some net b first.len more (subst (λ (o : Option SidBlock). All (InBlock o) ss) own one) (All-tail IsFlatSid s ss flat) is.fits

pub full_fits_behind : (net : Network) (c : Container) (first : PrefixValue) (more slice : List PrefixValue) (bits : ℕ)
    (block : Option Block)
    → IsValued (container_in net c) → c ≡ Full first more → bits ≡ block_len (option_map sid_block block)
    → block ≡ rules.block_of net.blocks first → slice ≡ more → FitBehind bits first.len slice
full_fits_behind net c first more slice bits block valued e is_bits is_block is_slice =
    let is : IsInFull (list_sid net first) (map (list_sid net) more) [] =
    subst (λ (x : Container). IsValued (container_in net x)) e valued in
    let all : FitBehind (block_len (list_sid net first).block) first.len more =
    fit_by net (list_sid net first).block first more refl is.container is.flat in
    let same : block_len (list_sid net first).block ≡ bits =
    ap (λ (o : Option Block). block_len (option_map sid_block o)) (sym is_block) ∙ sym is_bits in
    subst (λ (ps : List PrefixValue). FitBehind bits first.len ps) (sym is_slice)
    (subst (λ (n : ℕ). FitBehind n first.len more) same all)

pub full_is : (net : Network) (c : Container) (first : PrefixValue) (more slice : List PrefixValue) (value bits : ℕ) (block : Option Block)
    → c ≡ Full first more → bits ≡ block_len (option_map sid_block block) → block ≡ rules.block_of net.blocks first → slice ≡ more
    → value ≡ container_of bits (first ∷ slice) → value ≡ value_of (container_in net c)
full_is net c first more slice value bits block e is_bits is_block is_slice is =
    let same : bits ≡ block_len (list_sid net first).block =
    is_bits ∙ ap (λ (o : Option Block). block_len (option_map sid_block o)) is_block in
    is ∙ ap (λ (n : ℕ). container_of n (first ∷ slice)) same
    ∙ ap (λ (ps : List PrefixValue). container_of (block_len (list_sid net first).block) (first ∷ ps))
    (is_slice ∙ sym (own_prefixes net more))
    ∙ ap (λ (x : Container). value_of (container_in net x)) (sym e)

-- ---- REPLACE containers

have_csids : (net : Network) (b : SidBlock) (ps : List PrefixValue) → b.kind ≡ Replace → All (InBlock (Some b)) (map (list_sid net) ps)
    → All IsFlatSid (map (list_sid net) ps) → HaveCsids b.prefix.len b.csid_len ps
have_csids net b [] kind one flat = tt
have_csids net b (p ∷ ps) kind one flat =
    let t = list_sid net p in
    let ts = map (list_sid net) ps in
    let inside = in_block_law t b (All-head IsFlatSid t ts flat) (All-head (InBlock (Some b)) t ts one) in
    ((inside.packed kind).len, have_csids net b ps kind (All-tail (InBlock (Some b)) t ts one) (All-tail IsFlatSid t ts flat))

pub record PackedParts (block : Block) (first : PrefixValue) (more : List PrefixValue) : Type 0 where
  pub csid : IsCsidLen block.csid
  pub long : HaveCsids block.prefix.len block.csid (first ∷ more)
  pub few : length (first ∷ more) ≤ csid_count block.csid

packed_by : (net : Network) (first : PrefixValue) (more : List PrefixValue) (block : Block)
    → IsInPacked [] (list_sid net first) (map (list_sid net) more) [] → rules.block_of net.blocks first ≡ Some block
    → PackedParts block first more
packed_by net first more block is own =
    let s = list_sid net first in
    let block_is : s.block ≡ Some (sid_block block) = ap (λ (o : Option Block). option_map sid_block o) own in
    let both : Some is.block ≡ Some (sid_block block) = sym is.own_block ∙ block_is in
    let same : is.block ≡ sid_block block = cc in
    let kind : (sid_block block).kind ≡ Replace = ap (λ (b : SidBlock). b.kind) (sym same) ∙ is.kind in
    let all : IsPacked (Some is.block) (map (list_sid net) (first ∷ more)) = is.container in
    let packed : IsPacked (Some (sid_block block)) (map (list_sid net) (first ∷ more)) =
    subst (λ (b : SidBlock). IsPacked (Some b) (map (list_sid net) (first ∷ more))) same all in
    let flat : All IsFlatSid (map (list_sid net) (first ∷ more)) = is.flat in
    let inside = in_block_law s (sid_block block) (All-head IsFlatSid s (map (list_sid net) more) flat) block_is in
    let few : length (map (list_sid net) (first ∷ more)) ≤ csid_count block.csid = packed.few in
    record {
      csid = (inside.packed kind).csid;
      long = have_csids net (sid_block block) (first ∷ more) kind packed.one_block flat;
      few = subst (λ (n : ℕ). n ≤ csid_count block.csid) (length-map (first ∷ more) (list_sid net)) few;
    }

pub packed_parts : (net : Network) (c : Container) (first : PrefixValue) (more slice : List PrefixValue) (block : Block)
    → IsValued (container_in net c) → c ≡ Packed first more → Some block ≡ rules.block_of net.blocks first → slice ≡ more
    → PackedParts block first slice
packed_parts net c first more slice block valued e own is_slice =
    let is : IsInPacked [] (list_sid net first) (map (list_sid net) more) [] =
    subst (λ (x : Container). IsValued (container_in net x)) e valued in
    subst (λ (ps : List PrefixValue). PackedParts block first ps) (sym is_slice) (packed_by net first more block is (sym own))

pub packed_is : (net : Network) (c : Container) (first : PrefixValue) (more slice : List PrefixValue) (value : ℕ) (block : Block)
    → c ≡ Packed first more → Some block ≡ rules.block_of net.blocks first → slice ≡ more
    → value ≡ packed_entry block.csid (map (csid_of block.prefix.len) (first ∷ slice)) → value ≡ value_of (container_in net c)
packed_is net c first more slice value block e own is_slice is =
    let at_block : Option Block → ℕ = λ o. packed_entry (csid_len_in (option_map sid_block o))
    (map (csid_of (block_len (option_map sid_block o))) (first ∷ map prefix_of (map (list_sid net) more))) in
    is ∙ ap (λ (ps : List PrefixValue). packed_entry block.csid (map (csid_of block.prefix.len) (first ∷ ps)))
    (is_slice ∙ sym (own_prefixes net more))
    ∙ ap at_block own ∙ ap (λ (x : Container). value_of (container_in net x)) (sym e)

-- ---- the containers of a list

last_flat : (s : ListSid) (ss : List ListSid) → All IsFlatSid (s ∷ ss) → IsFlatSid (last_of s ss)
last_flat s [] flat = All-head IsFlatSid s [] flat
last_flat s (t ∷ ts) flat = last_flat t ts (All-tail IsFlatSid s (t ∷ ts) flat)

abbrev AsksReplace : Option SidBlock → Type 0
AsksReplace o = (b : SidBlock) → o ≡ Some b → b.kind ≡ Replace

asks_behind : (s : ListSid) → IsFlatSid s → AsksReplace (asked_behind s)
asks_behind s flat b e = by s.csid refl e
  where
    of_block : s.csid ≡ Replace → IsInBlock b s → b.kind ≡ Replace
    of_block same inside = elim inside.kind [
      | inl plain ↦ absurd (let both : Replace ≡ Plain = sym same ∙ plain in cc)
      | inr is ↦ sym is ∙ same
    ]

    by : (k : Csid) → s.csid ≡ k → (if is_replace k then s.block else None) ≡ Some b → b.kind ≡ Replace
    by Plain same asked = absurd (cc)
    by Next same asked = absurd (cc)
    by Replace same asked = of_block same (in_block_law s b flat asked)

asks_packed : (o : Option SidBlock) (n : ℕ) (s : ListSid) → IsFlatSid s → AsksReplace (asked_behind_packed o n s)
asks_packed o n s flat b e = by (n == csid_count (csid_len_in o)) e
  where
    by : (t : Bool) → (if t then asked_behind s else None) ≡ Some b → b.kind ≡ Replace
    by true asked = asks_behind s flat b asked
    by false asked = absurd (cc)

valued_first : (net : Network) (o : Option SidBlock) (c : Container) (cs : List Container)
    → Follow o (list_in net (c ∷ cs)) → IsFlatContainer (container_in net c) → AsksReplace o → IsValued (container_in net c)
valued_first net None (Full p ps) cs follow flat asks =
    record { container = follow.0; behind = tt; flat = flat; flat_behind = All-nil IsFlatContainer }
valued_first net (Some b) (Full p ps) cs follow flat asks = absurd follow
valued_first net None (Packed p ps) cs follow flat asks = absurd follow
valued_first net (Some b) (Packed p ps) cs follow flat asks =
    record {
      block = b;
      own_block = All-head (InBlock (Some b)) (list_sid net p) (map (list_sid net) ps) follow.0.one_block;
      kind = asks b refl;
      container = follow.0;
      behind = tt;
      flat = flat;
      flat_behind = All-nil IsFlatContainer;
    }

-- what is asked for after the first container
record Behind (net : Network) (cs : List Container) : Type 0 where
  asked : Option SidBlock
  follow : Follow asked (list_in net cs)
  asks : AsksReplace asked

valued_next : (net : Network) (o : Option SidBlock) (c : Container) (cs : List Container)
    → Follow o (list_in net (c ∷ cs)) → IsFlatContainer (container_in net c) → Behind net cs
valued_next net None (Full p ps) cs follow flat =
    let s = list_sid net p in
    let ss = map (list_sid net) ps in
    record {
      asked = asked_behind (last_of s ss);
      follow = follow.1;
      asks = asks_behind (last_of s ss) (last_flat s ss flat);
    }
valued_next net (Some b) (Full p ps) cs follow flat = absurd follow
valued_next net None (Packed p ps) cs follow flat = absurd follow
valued_next net (Some b) (Packed p ps) cs follow flat =
    let s = list_sid net p in
    let ss = map (list_sid net) ps in
    record {
      asked = asked_behind_packed (Some b) (length (s ∷ ss)) (last_of s ss);
      follow = follow.1;
      asks = asks_packed (Some b) (length (s ∷ ss)) (last_of s ss) (last_flat s ss flat);
    }

valued_at : (net : Network) (o : Option SidBlock) (list : List Container) (i : ℕ) (c : Container) → Follow o (list_in net list)
    → IsFlatList (list_in net list) → AsksReplace o → slice_get list i ≡ Some c → IsValued (container_in net c)
valued_at net o [] i c follow flat asks e = absurd (cc)
valued_at net o (x ∷ xs) zero c follow flat asks e =
    let same : x ≡ c = cc in
    subst (λ (y : Container). IsValued (container_in net y)) same
    (valued_first net o x xs follow (All-head IsFlatContainer (container_in net x) (list_in net xs) flat) asks)
valued_at net o (x ∷ xs) (suc i) c follow flat asks e =
    let next = valued_next net o x xs follow (All-head IsFlatContainer (container_in net x) (list_in net xs) flat) in
    valued_at net next.asked xs i c next.follow (All-tail IsFlatContainer (container_in net x) (list_in net xs) flat) next.asks e

no_asks : AsksReplace None
no_asks b e = absurd (cc)

pub legal_valued : (net : Network) (list : List Container) (i : ℕ) (c : Container) → IsLegal (list_in net list)
    → IsFlatList (list_in net list) → slice_get list i ≡ Some c → IsValued (container_in net c)
legal_valued net [] i c legal flat e = absurd legal
legal_valued net (x ∷ xs) i c legal flat e = valued_at net None (x ∷ xs) i c legal flat no_asks e
