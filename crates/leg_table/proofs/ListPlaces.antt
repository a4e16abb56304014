-- Places in lists of a network's SIDs: what is active there, what follows, and the destination there.
use Rattle.std.proofs.Common.{◌≡◌, ◌⊎◌, inl, inr, ℕ, suc, ◌+◌, ◌-◌, ◌≤◌, ◌==◌, List, [], ◌∷◌, ◌++◌, length, map, Option, Some, None, slice_get, Contains, refl, sym, ◌∙◌, ap, subst, arith}
use Rattle.std.specs.Option.{option_map}
use Rattle.std.proofs.lemmas.Option.{slice_get_read}
use Rattle.std.proofs.lemmas.List.{length-map, map-append}
use Rattle.v6_addr.specs.Address.{PrefixValue, Holds}
use Rattle.v6_addr.specs.AddressKinds.{is_multicast}
use Rattle.v6_addr.proofs.PublicLaws.{same_above}
use Rattle.srv6_rules.specs.declared.sid.Csid.TheVariants as csids
use Rattle.srv6_rules.specs.declared.sid.SidEntry.{SidEntry}
use Rattle.srv6_rules.specs.Packet.{Packet}
use Rattle.srv6_rules.proofs.PublicLaws.{container_one}
use Rattle.net_model.specs.declared.parts.Block.{Block}
use Rattle.net_model.specs.Network.{Network}
use Rattle.net_model.specs.NetworkRules.{block_of}
use Rattle.net_model.specs.NetworkKeeps.{Keeps, IsBlockOf}
use Rattle.net_model.proofs.PublicLaws.{block_of_is, contains_from_get}
use Rattle.net_flatness.specs.NestsTerms.{IsOwn}
use Rattle.sid_list_spec.specs.SegmentLists as lists
use Rattle.sid_list_theory.specs.SegmentListsTerms as lists_terms
use Rattle.sid_list_spec.specs.SegmentLists.{ListSid, SidBlock, block_len}
use Rattle.sid_list_theory.specs.SegmentListsTerms.{IsFlatSid, SuitsBlock, sids_in}
use Rattle.sid_list_theory.specs.ListPlaces.{ListPlace, InFull, InPacked, Tunnel, active, behind_of, destination_of, sids_from, entered, next_of, first_of, IsPlace, Along}
use Rattle.sid_list_theory.proofs.PublicLaws.{destination_holds, sids_next, sids_last}
use Rattle.list_pack.specs.declared.types.Container.{Container}
use Rattle.list_pack.specs.declared.types.Container.TheVariants as containers
use Rattle.list_pack.specs.SidLists.{sid_block, list_sid, container_in, list_in, prefixes_of, prefixes_in}
use Rattle.leg_table.proofs.FlatNets.{FlatFacts}
use Rattle.list_pack.specs.PathLists.{before_last}
use Rattle.leg_table.proofs.StrictOptions.{some_same}
use Rattle.leg_table.specs.StrictLegsTerms.{IsAddressOf}
use Rattle.leg_table.specs.NestLegsTerms.{PlaceKeeps}
use Rattle.leg_table.specs.PositionSids.{first_address}
use Rattle.leg_table.proofs.OwnPlaces.{own_at}

heads : {X : Type 0} (a b : X) (xs ys : List X) → Path (List X) (a ∷ xs) (b ∷ ys) → (a ≡ b) × (xs ≡ ys)
heads a b xs ys e = (cc, cc)

-- ---- what is active, and what follows

pub active_first : (x : ListPlace) → (ss : List ListSid) × (sids_from x ≡ active x ∷ ss)
active_first (InFull s ss cs) = (ss ++ sids_in cs, refl)
active_first (InPacked bs s ss cs) = (ss ++ sids_in cs, refl)

pub active_is : (x : ListPlace) (s : ListSid) (ss : List ListSid) → sids_from x ≡ s ∷ ss → active x ≡ s
active_is x s ss e = let first = active_first x in (heads (active x) s first.0 ss (sym first.1 ∙ e)).0

pub next_none : (x : ListPlace) (s : ListSid) → sids_from x ≡ s ∷ [] → next_of x ≡ None
next_none x s e = by_next (next_of x) refl
  where
    by_next : (o : Option ListPlace) → next_of x ≡ o → next_of x ≡ None
    by_next None f = f
    by_next (Some y) f =
        let first = active_first y in
        let rest = (heads (active x) s (sids_from y) [] (sym (sids_next x y f) ∙ e)).1 in
        absurd (cc (first.1, rest))

pub next_some : (x : ListPlace) (s t : ListSid) (ts : List ListSid) → sids_from x ≡ s ∷ t ∷ ts
    → (y : ListPlace) × (next_of x ≡ Some y) × (sids_from y ≡ t ∷ ts)
next_some x s t ts e = by_next (next_of x) refl
  where
    by_next : (o : Option ListPlace) → next_of x ≡ o → (y : ListPlace) × (next_of x ≡ Some y) × (sids_from y ≡ t ∷ ts)
    by_next None f = let rest = (heads (active x) s [] (t ∷ ts) (sym (sids_last x f) ∙ e)).1 in absurd (cc)
    by_next (Some y) f = (y, f, (heads (active x) s (sids_from y) (t ∷ ts) (sym (sids_next x y f) ∙ e)).1)

-- ---- how many SIDs stand before the last container

to_place : (P : ListPlace → Type 0) (x y : ListPlace) → Some x ≡ Some y → P x → P y
to_place P x y e h = subst P (some_same x y e) h

abbrev pub before_in : List lists.Container → ℕ
before_in [] = 0
before_in (c ∷ []) = 0
before_in (c ∷ d ∷ more) = length (lists_terms.sids_of c) + before_in (d ∷ more)

abbrev pub before_by : ℕ → List lists.Container → ℕ
before_by n [] = 0
before_by n (c ∷ cs) = n + before_in (c ∷ cs)

abbrev pub before_from : ListPlace → ℕ
before_from (InFull s ss cs) = before_by (length (s ∷ ss)) cs
before_from (InPacked bs s ss cs) = before_by (length (s ∷ ss)) cs

pub before_last_law : (x : ListPlace) → behind_of x ≡ [] → before_from x ≡ 0
before_last_law (InFull s ss []) e = refl
before_last_law (InFull s ss (c ∷ cs)) e = absurd (cc)
before_last_law (InPacked bs s ss []) e = refl
before_last_law (InPacked bs s ss (c ∷ cs)) e = absurd (cc)

before_entered : (c : lists.Container) (cs : List lists.Container) → before_from (entered c cs) ≡ before_in (c ∷ cs)
before_entered (lists.Full s ss) [] = refl
before_entered (lists.Full s ss) (d ∷ cs) = refl
before_entered (lists.Packed s ss) [] = refl
before_entered (lists.Packed s ss) (d ∷ cs) = refl

step_less : (n : ℕ) (cs : List lists.Container) → before_by (suc (suc n)) cs ≤ suc (before_by (suc n) cs)
step_less n [] = omega arith
step_less n (c ∷ cs) = omega arith

-- a step lowers it by at most one
pub before_next : (x y : ListPlace) → next_of x ≡ Some y → before_from x ≤ suc (before_from y)
before_next (InFull s [] []) y e = absurd (cc)
before_next (InFull s [] (c ∷ cs)) y e =
    to_place (λ z. before_by 1 (c ∷ cs) ≤ suc (before_from z)) (entered c cs) y e (let f = before_entered c cs in omega arith)
before_next (InFull s (t ∷ ts) cs) y e =
    to_place (λ z. before_by (suc (suc (length ts))) cs ≤ suc (before_from z)) (InFull t ts cs) y e (step_less (length ts) cs)
before_next (InPacked bs s [] []) y e = absurd (cc)
before_next (InPacked bs s [] (c ∷ cs)) y e =
    to_place (λ z. before_by 1 (c ∷ cs) ≤ suc (before_from z)) (entered c cs) y e (let f = before_entered c cs in omega arith)
before_next (InPacked bs s (t ∷ ts) cs) y e =
    to_place (λ z. before_by (suc (suc (length ts))) cs ≤ suc (before_from z)) (InPacked (bs ++ s ∷ []) t ts cs) y e
    (step_less (length ts) cs)

-- ---- the destination

-- an address of a prefix of at least 8 bits is multicast exactly where the prefix's first one is
multicast_same : (q : PrefixValue) (a : ℕ) → 8 ≤ q.len → Holds q a → is_multicast a ≡ is_multicast q.value
unfolding is_multicast Holds
multicast_same q a long held = ap (λ (n : ℕ). n == 255) (same_above a q.value (128 - q.len) 120 (omega arith) held)

block_long : (net : Network) → Keeps net → (b : Block) → Contains net.blocks b → 16 ≤ b.prefix.len
block_long net keeps b there = (keeps.block there.0 b (slice_get_read net.blocks (length net.blocks) there.0 b refl there.1
    (sym there.2))).at_least

-- a compressed SID of a list is longer than a block of the network, which has at least 16 bits
compressed_long : (net : Network) → Keeps net → (p : PrefixValue) → IsFlatSid (list_sid net p) → (list_sid net p).csid ≡ csids.Next
    → 16 ≤ p.len
compressed_long net keeps p flat next = by_block (block_of net.blocks p) (block_of_is net.blocks p) flat.block
  where
    by_block : (o : Option Block) → IsBlockOf net.blocks p o → SuitsBlock (option_map sid_block o) (list_sid net p) → 16 ≤ p.len
    by_block None none plain = let plain_csid : (list_sid net p).csid ≡ csids.Plain = plain in absurd (cc (plain_csid, next))
    by_block (Some b) is suits =
        let long = block_long net keeps b is.0 in
        let inside = is.1.0 in
        omega (arith, long, inside)

packed_long : (s : ListSid) (b : SidBlock) → IsFlatSid s → s.block ≡ Some b → b.kind ≡ csids.Replace → 16 ≤ s.prefix.len
packed_long s b flat own kind =
    let suits : SuitsBlock (Some b) s = subst (λ (o : Option SidBlock). SuitsBlock o s) own flat.block in
    let packed = suits.packed kind in
    by packed.len packed.csid
  where
    by : s.prefix.len ≡ b.prefix.len + b.csid_len → (b.csid_len ≡ 16) ⊎ (b.csid_len ≡ 32) → 16 ≤ s.prefix.len
    by len (inl short) = omega (arith, len, short)
    by len (inr long) = omega (arith, len, long)

kind_at : (net : Network) → Keeps net → (x : ListPlace) (p : PrefixValue) → IsPlace x → active x ≡ list_sid net p
    → IsFlatSid (list_sid net p) → is_multicast (destination_of x) ≡ is_multicast p.value
kind_at net keeps (InFull s [] cs) p is same flat =
    ap is_multicast (container_one (block_len s.block) s.prefix ∙ ap (λ (t : ListSid). t.prefix.value) same)
kind_at net keeps (InFull s (t ∷ ts) cs) p is same flat =
    let next = sym (ap (λ (t : ListSid). t.csid) same) ∙ is.container.next.0 in
    let long = compressed_long net keeps p flat next in
    let held = subst (λ (q : PrefixValue). Holds q (destination_of (InFull s (t ∷ ts) cs))) (ap (λ (t : ListSid). t.prefix) same)
    (destination_holds (InFull s (t ∷ ts) cs) is) in
    multicast_same p (destination_of (InFull s (t ∷ ts) cs)) (omega (arith, long)) held
kind_at net keeps (InPacked bs s ss cs) p is same flat =
    let long = packed_long (list_sid net p) is.block flat (sym (ap (λ (t : ListSid). t.block) same) ∙ is.own_block) is.kind in
    let held = subst (λ (q : PrefixValue). Holds q (destination_of (InPacked bs s ss cs))) (ap (λ (t : ListSid). t.prefix) same)
    (destination_holds (InPacked bs s ss cs) is) in
    multicast_same p (destination_of (InPacked bs s ss cs)) (omega (arith, long)) held

-- a packet at a place of a SID's prefix has an own address of the SID as its destination
pub own_here_law : (net : Network) → Keeps net → FlatFacts net → (t : Tunnel) (x : ListPlace) (hop : ℕ) (q : Packet) (n : ℕ) (s : SidEntry)
    → Along t x hop q → PlaceKeeps net x → slice_get net.sids n ≡ Some s → active x ≡ list_sid net s.prefix → IsOwn net s q.destination
own_here_law net keeps facts t x hop q n s along nests there same =
    subst (IsOwn net s) (sym (ap (λ (r : Packet). r.destination) along.packet))
    (own_at net keeps facts.units x along.place nests s (contains_from_get net.sids n s there) same)

pub address_at : (net : Network) → Keeps net → FlatFacts net → (t : Tunnel) (x : ListPlace) (hop : ℕ) (q : Packet) (n : ℕ) (s : SidEntry)
    → Along t x hop q → PlaceKeeps net x → slice_get net.sids n ≡ Some s → active x ≡ list_sid net s.prefix
    → IsAddressOf net n q.destination
address_at net keeps facts t x hop q n s along nests there same =
    let to = ap (λ (r : Packet). r.destination) along.packet in
    let kind = kind_at net keeps x s.prefix along.place same (facts.suits.flat n s there) in
    record {
      own = λ u at.
          own_here_law net keeps facts t x hop q n u along nests at
          (same ∙ ap (λ (v : SidEntry). list_sid net v.prefix) (some_same s u (sym there ∙ at)));
      kind = ap is_multicast to ∙ kind ∙ ap is_multicast (ap first_address (sym there));
    }

-- ---- lists

-- the SIDs of a list are its prefixes as lists know them
pub sids_list : (net : Network) (list : List Container) → sids_in (list_in net list) ≡ map (list_sid net) (prefixes_in list)
sids_list net [] = refl
sids_list net (containers.Full first more ∷ list) =
    ap (λ xs. list_sid net first ∷ map (list_sid net) more ++ xs) (sids_list net list)
    ∙ sym (map-append (list_sid net) (first ∷ more) (prefixes_in list))
sids_list net (containers.Packed first more ∷ list) =
    ap (λ xs. list_sid net first ∷ map (list_sid net) more ++ xs) (sids_list net list)
    ∙ sym (map-append (list_sid net) (first ∷ more) (prefixes_in list))

container_length : (net : Network) (c : Container) → length (lists_terms.sids_of (container_in net c)) ≡ length (prefixes_of c)
container_length net (containers.Full first more) = ap suc (length-map more (list_sid net))
container_length net (containers.Packed first more) = ap suc (length-map more (list_sid net))

list_before : (net : Network) (list : List Container) → before_in (list_in net list) ≡ before_last list
list_before net [] = refl
list_before net (c ∷ []) = refl
list_before net (c ∷ d ∷ more) =
    let a = container_length net c in
    let b = list_before net (d ∷ more) in
    omega arith

-- as many stand before a list's last container at its first place
pub before_first : (net : Network) (list : List Container) (x : ListPlace) → first_of (list_in net list) ≡ Some x
    → before_from x ≡ before_last list
before_first net [] x e = absurd (cc)
before_first net (c ∷ list) x e =
    to_place (λ z. before_from z ≡ before_last (c ∷ list)) (entered (container_in net c) (list_in net list)) x e
    (before_entered (container_in net c) (list_in net list) ∙ list_before net (c ∷ list))
