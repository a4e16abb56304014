-- Along a list that keeps the rule on nested SIDs each destination is the active SID's own.
use Rattle.std.proofs.Common.{◌≡◌, ℕ, ◌+◌, ◌-◌, ◌*◌, ◌%◌, ◌^◌, ◌≤◌, List, [], ◌∷◌, ◌++◌, map, All, Option, Some, None, slice_get, Contains, refl, sym, ◌∙◌, ap, subst, arith}
use Rattle.std.specs.Option.{option_map}
use Rattle.std.proofs.lemmas.List.Elements.{All-nil, All-cons, All-head, All-tail, All-map, All-weaker}
use Rattle.v6_addr.specs.Address.{PrefixValue, Holds, field_of}
use Rattle.v6_addr.specs.AddressTerms.{IsPrefix}
use Rattle.v6_addr.proofs.PublicLaws.{Holds_own_value}
use Rattle.srv6_rules.specs.declared.sid.Csid.TheVariants.{Next, Replace}
use Rattle.srv6_rules.specs.declared.sid.SidEntry.{SidEntry}
use Rattle.srv6_rules.proofs.PublicLaws.{container_one}
use Rattle.net_model.specs.declared.parts.Block.{Block}
use Rattle.net_model.specs.Network.{Network}
use Rattle.net_model.specs.NetworkRules.{block_of}
use Rattle.net_model.specs.NetworkKeeps.{Keeps}
use Rattle.net_model.proofs.PublicLaws.{get_from_contains}
use Rattle.net_flatness.specs.Nests.{IsNest, MayFollow, unit_at}
use Rattle.net_flatness.specs.NestsTerms.{IsOwn}
use Rattle.sid_list_spec.specs.SegmentLists.{ListSid, SidBlock, Container, Full, Packed, block_len, full_value, prefix_of}
use Rattle.sid_list_theory.specs.SegmentListsTerms.{IsFlatSid}
use Rattle.sid_list_theory.specs.ListPlaces.{ListPlace, InFull, InPacked, active, destination_of, entered, first_of, next_of, IsPlace}
use Rattle.sid_list_theory.proofs.Sids.{full_container, full_value_law}
use Rattle.sid_list_theory.proofs.PublicLaws.{destination_holds}
use Rattle.list_pack.specs.declared.types.Container as containers
use Rattle.list_pack.specs.declared.types.Container.TheVariants as kinds
use Rattle.list_pack.specs.SidLists.{IsSidPrefix, IsLegalList, FollowOn, KeepsNests, container_in, kind_csid, list_in, list_sid, prefixes_in, prefixes_of, sid_block}
use Rattle.leg_table.specs.NestLegsTerms.{IsListSid, ContainerKeeps, ListKeeps, PlaceKeeps}
use Rattle.leg_table.proofs.StrictOptions.{some_same}
use Rattle.leg_table.proofs.NextUnits.{held_unit, unit_after, unit_last}

-- ---- along the places of a list

entered_keeps : (net : Network) (c : Container) (cs : List Container) → ListKeeps net (c ∷ cs) → PlaceKeeps net (entered c cs)
entered_keeps net (Full s ss) cs keeps =
    (All-head (ContainerKeeps net) (Full s ss) cs keeps, All-tail (ContainerKeeps net) (Full s ss) cs keeps)
entered_keeps net (Packed s ss) cs keeps = All-tail (ContainerKeeps net) (Packed s ss) cs keeps

pub first_keeps : (net : Network) (cs : List Container) (x : ListPlace) → ListKeeps net cs → first_of cs ≡ Some x → PlaceKeeps net x
first_keeps net [] x keeps e = cc
first_keeps net (c ∷ cs) x keeps e = subst (PlaceKeeps net) (some_same (entered c cs) x e) (entered_keeps net c cs keeps)

pub next_keeps : (net : Network) (x y : ListPlace) → PlaceKeeps net x → next_of x ≡ Some y → PlaceKeeps net y
next_keeps net (InFull s [] cs) y keeps e = first_keeps net cs y keeps.1 e
next_keeps net (InFull s (t ∷ ts) cs) y keeps e =
    subst (PlaceKeeps net) (some_same (InFull t ts cs) y e) (
      record { sids = All-tail (IsListSid net) t ts keeps.0.sids; may = keeps.0.may.1 },
      keeps.1,
    )
next_keeps net (InPacked bs s [] cs) y keeps e = first_keeps net cs y keeps e
next_keeps net (InPacked bs s (t ∷ ts) cs) y keeps e = subst (PlaceKeeps net) (some_same (InPacked (bs ++ s ∷ []) t ts cs) y e) keeps

-- ---- the destination

-- a SID in a block is longer than it by whole units
abbrev pub HasUnits : Network → Type 0
HasUnits net =
    (n : ℕ) (s : SidEntry) (b : Block) → slice_get net.sids n ≡ Some s → block_of net.blocks s.prefix ≡ Some b
    → (k : ℕ) × (1 ≤ k) × (s.prefix.len ≡ b.prefix.len + 16 * k)

pub sid_prefix : (net : Network) → Keeps net → (t : SidEntry) → Contains net.sids t → IsPrefix t.prefix
sid_prefix net keeps t there = let at = get_from_contains net.sids t there in (keeps.sid at.0 t at.1).prefix

module _ (net : Network) (s inner : SidEntry) (nest : IsNest net s inner) (fits : inner.prefix.len ≤ 128) where
  abbrev lbl : ℕ
  lbl = nest.block.prefix.len

  -- what an inner SID holds has the inner SID's unit
  inner_unit : (a : ℕ) → Holds inner.prefix a → field_of a (lbl + 16) 16 ≡ unit_at inner.prefix (lbl + 16)
  inner_unit a held =
      let long = nest.inner_len in
      held_unit inner.prefix a (lbl + 16) held (omega arith) fits

  room : lbl + 32 ≤ 128
  room = let long = nest.inner_len in omega arith

  -- the outer SID as lists know it lies in the block
  outer_block : (x : ListSid) → x ≡ list_sid net s.prefix → x.block ≡ Some (sid_block nest.block)
  outer_block x same = ap (λ (t : ListSid). t.block) same ∙ ap (option_map sid_block) nest.of_outer

  module _ (units : HasUnits net) where
    -- a further SID of the block has at least one unit
    further_long : (t : ListSid) → IsListSid net t → t.block ≡ Some (sid_block nest.block) → lbl + 16 ≤ t.prefix.len
    further_long t is own = by (block_of net.blocks t.prefix) refl
      where
        by : (o : Option Block) → block_of net.blocks t.prefix ≡ o → lbl + 16 ≤ t.prefix.len
        by None e =
            let none : t.block ≡ None = ap (λ (u : ListSid). u.block) is.1 ∙ ap (option_map sid_block) e in
            cc
        by (Some b) e =
            let some : t.block ≡ Some (sid_block b) = ap (λ (u : ListSid). u.block) is.1 ∙ ap (option_map sid_block) e in
            let same : sid_block b ≡ sid_block nest.block = some_same (sid_block b) (sid_block nest.block) (sym some ∙ own) in
            let len : b.prefix.len ≡ lbl = ap (λ (c : SidBlock). c.prefix.len) same in
            let at = is.0 in
            let got = units at.0 at.1 b at.2 (ap (block_of net.blocks) at.3 ∙ e) in
            let is_long : at.1.prefix.len ≡ t.prefix.len = ap (λ (p : PrefixValue). p.len) at.3 in
            omega (arith, got.1, got.2, len, is_long)

    -- no destination at a place of the outer SID is held by the inner one
    not_inner : (x : ListPlace) → IsPlace x → PlaceKeeps net x → Contains net.sids s → Contains net.sids inner
        → active x ≡ list_sid net s.prefix → ¬ Holds inner.prefix (destination_of x)
    not_inner (InFull a [] cs) is place outer_there inner_there same held =
        let value : destination_of (InFull a [] cs) ≡ s.prefix.value
        = container_one (block_len a.block) a.prefix ∙ ap (λ (t : ListSid). t.prefix.value) same in
        let flat = All-head IsFlatSid a [] is.flat in
        let clean : s.prefix.value % 2 ^ (128 - s.prefix.len) ≡ 0
        = subst (λ (t : ListSid). t.prefix.value % 2 ^ (128 - t.prefix.len) ≡ 0) same flat.prefix.2 in
        nest.some (sym (inner_unit (destination_of (InFull a [] cs)) held)
        ∙ ap (λ (d : ℕ). field_of d (lbl + 16) 16) value
        ∙ unit_last nest.block.prefix s.prefix nest.outer_len room clean)
    not_inner (InFull a (t ∷ ts) cs) is place outer_there inner_there same held =
        let b : SidBlock = sid_block nest.block in
        let own = outer_block a same in
        let of_t = All-head (λ (u : ListSid). u.block ≡ a.block) t ts is.container.one_block ∙ own in
        let long = further_long t (All-head (IsListSid net) t ts place.0.sids) of_t in
        let prefix : s.prefix ≡ a.prefix = sym (ap (λ (u : ListSid). u.prefix) same) in
        let len : a.prefix.len ≡ lbl + 16 = ap (λ (p : PrefixValue). p.len) (sym prefix) ∙ nest.outer_len in
        place.0.may.0 s inner outer_there inner_there prefix nest (
        sym (unit_after nest.block.prefix a.prefix len room t.prefix (map prefix_of ts)
        (full_container b a (t ∷ ts) own is.container is.flat) long)
        ∙ ap (λ (d : ℕ). field_of d (lbl + 16) 16) (sym (full_value_law b a (t ∷ ts) own))
        ∙ inner_unit (full_value a (t ∷ ts)) held
        )
    not_inner (InPacked bs a ss cs) is place outer_there inner_there same held =
        let block : is.block ≡ sid_block nest.block = some_same is.block (sid_block nest.block) (sym is.own_block ∙ outer_block a same) in
        let kind : Replace ≡ Next = sym is.kind ∙ ap (λ (b : SidBlock). b.kind) block ∙ ap kind_csid nest.kind in
        cc

-- at a place of the SID that keeps the rule the destination is the SID's own
pub own_at : (net : Network) → Keeps net → HasUnits net → (x : ListPlace) → IsPlace x → PlaceKeeps net x → (s : SidEntry)
    → Contains net.sids s → active x ≡ list_sid net s.prefix → IsOwn net s (destination_of x)
own_at net keeps units x is place s there same =
    record {
      held = subst (λ (p : PrefixValue). Holds p (destination_of x)) (ap (λ (t : ListSid). t.prefix) same) (destination_holds x is);
      clear = λ inner at nest. not_inner net s inner nest (sid_prefix net keeps inner at).0 units x is place there at same;
    }

-- the first address of a SID's prefix is the SID's own
pub first_own : (net : Network) → Keeps net → (s : SidEntry) → Contains net.sids s → IsOwn net s s.prefix.value
first_own net keeps s there =
    record {
      held = Holds_own_value s.prefix;
      clear = λ inner at nest held.
          let fits = (sid_prefix net keeps inner at).0 in
          nest.some (sym (inner_unit net s inner nest fits s.prefix.value held)
          ∙ unit_last nest.block.prefix s.prefix nest.outer_len (room net s inner nest fits) (sid_prefix net keeps s there).2);
    }

-- ---- the places of a legal list

module _ (net : Network) where
  named_left : (ps qs : List PrefixValue) → All (IsSidPrefix net) (ps ++ qs) → All (IsSidPrefix net) ps
  named_left [] qs all = All-nil (IsSidPrefix net)
  named_left (p ∷ ps) qs all =
      All-cons (IsSidPrefix net) p ps (All-head (IsSidPrefix net) p (ps ++ qs) all)
      (named_left ps qs (All-tail (IsSidPrefix net) p (ps ++ qs) all))

  named_right : (ps qs : List PrefixValue) → All (IsSidPrefix net) (ps ++ qs) → All (IsSidPrefix net) qs
  named_right [] qs all = all
  named_right (p ∷ ps) qs all = named_right ps qs (All-tail (IsSidPrefix net) p (ps ++ qs) all)

  prefixes_back : (ps : List PrefixValue) → map prefix_of (map (list_sid net) ps) ≡ ps
  prefixes_back [] = refl
  prefixes_back (p ∷ ps) = ap (λ (qs : List PrefixValue). p ∷ qs) (prefixes_back ps)

  container_keeps : (c : containers.Container) → KeepsNests net c → All (IsSidPrefix net) (prefixes_of c)
      → ContainerKeeps net (container_in net c)
  container_keeps (kinds.Full first more) keeps named =
      record {
        sids =
            All-map (IsListSid net) (list_sid net) more
            (All-weaker (IsSidPrefix net) (λ (p : PrefixValue). IsListSid net (list_sid net p)) (λ p is. (is, refl)) more
            (All-tail (IsSidPrefix net) first more named));
        may = subst (FollowOn (MayFollow net) first) (sym (prefixes_back more)) keeps;
      }
  container_keeps (kinds.Packed first more) keeps named = tt

  lists_keep : (list : List containers.Container) → All (KeepsNests net) list → All (IsSidPrefix net) (prefixes_in list)
      → ListKeeps net (list_in net list)
  lists_keep [] keeps named = All-nil (ContainerKeeps net)
  lists_keep (c ∷ list) keeps named =
      All-cons (ContainerKeeps net) (container_in net c) (list_in net list)
      (container_keeps c (All-head (KeepsNests net) c list keeps) (named_left (prefixes_of c) (prefixes_in list) named))
      (lists_keep list (All-tail (KeepsNests net) c list keeps) (named_right (prefixes_of c) (prefixes_in list) named))

  pub list_keeps : (list : List containers.Container) → IsLegalList net list → ListKeeps net (list_in net list)
  list_keeps list legal = lists_keep list legal.nests legal.named
