-- The shapes of SIDs keep the laws of legs: their blocks by number are the blocks that they lie in.
use Rattle.std.proofs.Common.{◌≡◌, ◌⊎◌, inl, inr, ℕ, ◌+◌, ◌-◌, ◌/◌, ◌≤◌, true, length, Option, Some, None, slice_get, refl, sym, ◌∙◌, ap, subst, arith, eqb-true}
use Rattle.std.specs.Prelude.{IsSome, is_some}
use Rattle.std.proofs.lemmas.Bool.{false≢true}
use Rattle.v6_addr.specs.Address.{PrefixValue, IsInside, is_inside}
use Rattle.v6_addr.proofs.PublicLaws.{is_inside_is}
use Rattle.srv6_rules.specs.declared.sid.Csid.{Csid}
use Rattle.srv6_rules.specs.declared.sid.Csid.TheVariants as csids
use Rattle.srv6_rules.specs.declared.sid.SidEntry.{SidEntry}
use Rattle.net_model.specs.declared.parts.Block.{Block}
use Rattle.net_model.specs.declared.parts.BlockKind.TheVariants as kinds
use Rattle.net_model.specs.Network.{Network}
use Rattle.net_model.specs.NetworkRules.{block_of, block_len_of}
use Rattle.net_model.specs.NetworkKeeps.{Keeps, IsBlockOf, SuitsBlock}
use Rattle.net_model.proofs.PublicLaws.{block_of_is, contains_from_get, get_from_contains, position_item, position_None}
use Rattle.list_pack.specs.declared.types.Shape.{Shape}
use Rattle.list_pack.specs.Meaning.{IsShapeOf}
use Rattle.list_pack.specs.SidLists.{block_at}
use Rattle.list_pack.specs.LegsValue.{same_block}
use Rattle.list_pack.specs.LegsValueTerms.{is_compressed, IsInBlock, IsShape, ShareBlock}
use Rattle.leg_table.proofs.FlatNets.{FlatFacts}
use Rattle.leg_table.specs.StrictTable.{node_by, node_of, shape_by, shape_of}
use Rattle.leg_table.proofs.StrictOptions.{some_same}

-- what the search sees of a SID is what it is in the network
pub sid_shape : (net : Network) (n : ℕ) (s : SidEntry) → slice_get net.sids n ≡ Some s
    → IsShapeOf net s (shape_of net n) × (s.node ≡ node_of net n)
sid_shape net n s at = (
  record {
    prefix = ap (λ (o : Option SidEntry). (shape_by net.blocks o).prefix) at;
    block = ap (λ (o : Option SidEntry). (shape_by net.blocks o).block) at;
    lbl = ap (λ (o : Option SidEntry). (shape_by net.blocks o).lbl) at;
    csid = ap (λ (o : Option SidEntry). (shape_by net.blocks o).csid) at;
  },
  sym (ap node_by at),
)

module _ (net : Network) (keeps : Keeps net) (p : PrefixValue) where
  -- the number is that of the block
  pub numbered : (i : ℕ) → block_at net.blocks p ≡ Some i
      → (b : Block) × (slice_get net.blocks i ≡ Some b) × (block_of net.blocks p ≡ Some b)
  numbered i e =
      let found = position_item (λ (b : Block). is_inside p b.prefix) net.blocks i e in
      let inside = (is_inside_is p found.0.prefix).0 found.2 in
      by_block found.0 found.1 inside (block_of net.blocks p) refl (block_of_is net.blocks p)
    where
      by_block : (b : Block) → slice_get net.blocks i ≡ Some b → IsInside p b.prefix → (o : Option Block) → block_of net.blocks p ≡ o
          → IsBlockOf net.blocks p o → (b : Block) × (slice_get net.blocks i ≡ Some b) × (block_of net.blocks p ≡ Some b)
      by_block b at inside None f none = absurd (none b (contains_from_get net.blocks i b at) inside)
      by_block b at inside (Some c) f is =
          let other = get_from_contains net.blocks c is.0 in
          let same = keeps.apart i other.0 p.value b c at other.1 inside.1 is.1.1 in
          let found : slice_get net.blocks i ≡ Some c = ap (slice_get net.blocks) same ∙ other.1 in
          (b, at, f ∙ sym found ∙ at)

  -- a block has a number
  pub has_number : (b : Block) → block_of net.blocks p ≡ Some b → (i : ℕ) × (block_at net.blocks p ≡ Some i)
  has_number b e =
      let is = subst (IsBlockOf net.blocks p) e (block_of_is net.blocks p) in
      let at = get_from_contains net.blocks b is.0 in
      by_number at.0 at.1 ((is_inside_is p b.prefix).1 is.1) (block_at net.blocks p) refl
    where
      by_number : (k : ℕ) → slice_get net.blocks k ≡ Some b → is_inside p b.prefix ≡ true → (o : Option ℕ) → block_at net.blocks p ≡ o
          → (i : ℕ) × (block_at net.blocks p ≡ Some i)
      by_number k at inside (Some i) f = (i, f)
      by_number k at inside None f =
          absurd (false≢true (sym (position_None (λ (b : Block). is_inside p b.prefix) net.blocks f k b at) ∙ inside))

some_is : (o : Option ℕ) → IsSome o → (i : ℕ) × (o ≡ Some i)
some_is None h = absurd (false≢true h)
some_is (Some i) h = (i, refl)

is_some_law : (o : Option ℕ) (i : ℕ) → o ≡ Some i → IsSome o
is_some_law o i e = ap (λ (o : Option ℕ). is_some o) e

module _ (net : Network) (keeps : Keeps net) (facts : FlatFacts net) (n : ℕ) (s : SidEntry) (there : slice_get net.sids n ≡ Some s) where
  lbl_is : (b : Block) → block_of net.blocks s.prefix ≡ Some b → s.block_len ≡ b.prefix.len
  lbl_is b e = (keeps.sid n s there).block_len ∙ ap block_len_of e

  abbrev shape : Shape
  shape = shape_by net.blocks (Some s)

  -- a compressed SID lies in a block of its kind, one of REPLACE-CSID with the length of the block's SIDs
  in_kind : (k : Csid) → s.csid ≡ k → is_compressed k ≡ true → (b : Block) × (block_of net.blocks s.prefix ≡ Some b)
  in_kind csids.Plain e h = absurd (false≢true h)
  in_kind csids.Next e h =
      let suits = subst (λ (k : Csid). SuitsBlock k s (block_of net.blocks s.prefix)) e (keeps.sid n s there).csid in
      (suits.0, suits.1)
  in_kind csids.Replace e h =
      let suits = subst (λ (k : Csid). SuitsBlock k s (block_of net.blocks s.prefix)) e (keeps.sid n s there).csid in
      (suits.0, suits.1)

  in_block_law : (i : ℕ) → block_at net.blocks s.prefix ≡ Some i → IsInBlock shape
  in_block_law i e =
      let b = numbered net keeps s.prefix i e in
      let lbl = lbl_is b.0 b.2 in
      let units = facts.units n s b.0 there b.2 in
      let count : (s.prefix.len - s.block_len) / 16 ≡ units.0 = omega (arith, lbl, units.2) in
      record { length = omega (arith, lbl, units.2, count); longer = omega (arith, count, units.1) }

  replace_few : s.csid ≡ csids.Replace → (s.prefix.len - s.block_len) / 16 ≤ 2
  replace_few e =
      let suits = subst (λ (k : Csid). SuitsBlock k s (block_of net.blocks s.prefix)) e (keeps.sid n s there).csid in
      let lbl = lbl_is suits.0 suits.1 in
      let b = get_from_contains net.blocks suits.0 (subst (IsBlockOf net.blocks s.prefix) suits.1 (block_of_is net.blocks s.prefix)).0 in
      by_csid suits.0 (keeps.block b.0 suits.0 b.1).csid lbl suits.3
    where
      by_csid : (b : Block) → (b.csid ≡ 16) ⊎ (b.csid ≡ 32) → s.block_len ≡ b.prefix.len → s.prefix.len ≡ b.prefix.len + b.csid
          → (s.prefix.len - s.block_len) / 16 ≤ 2
      by_csid b (inl short) lbl len = omega (arith, short, lbl, len)
      by_csid b (inr long) lbl len = omega (arith, long, lbl, len)

  is_shape : IsShape shape
  is_shape =
      record {
        compressed = λ h.
            let b = in_kind s.csid refl h in
            let i = has_number net keeps s.prefix b.0 b.1 in
            is_some_law (block_at net.blocks s.prefix) i.0 i.1;
        in_block = λ h. let i = some_is (block_at net.blocks s.prefix) h in in_block_law i.0 i.1;
        replace = replace_few;
      }

pub shape_is : (net : Network) → Keeps net → FlatFacts net → (n : ℕ) → IsShape (shape_of net n)
shape_is net keeps facts n = by_sid (slice_get net.sids n) refl
  where
    by_sid : (o : Option SidEntry) → slice_get net.sids n ≡ o → IsShape (shape_by net.blocks o)
    by_sid None e = record { compressed = λ h. absurd (false≢true h); in_block = λ h. absurd (false≢true h); replace = λ h. absurd (cc) }
    by_sid (Some s) e = is_shape net keeps facts n s e

-- ---- two SIDs of one block

module _ (net : Network) (keeps : Keeps net) (n m : ℕ) (s t : SidEntry) (is_s : slice_get net.sids n ≡ Some s)
    (is_t : slice_get net.sids m ≡ Some t) (b : Block) (in_s : block_of net.blocks s.prefix ≡ Some b)
    (in_t : block_of net.blocks t.prefix ≡ Some b) where
  suits_of : (i : ℕ) (u : SidEntry) → slice_get net.sids i ≡ Some u → (k : Csid) → u.csid ≡ k
      → SuitsBlock k u (block_of net.blocks u.prefix)
  suits_of i u at k e = subst (λ (k : Csid). SuitsBlock k u (block_of net.blocks u.prefix)) e (keeps.sid i u at).csid

  mixed : (i j : ℕ) (u v : SidEntry) → slice_get net.sids i ≡ Some u → slice_get net.sids j ≡ Some v
      → block_of net.blocks u.prefix ≡ Some b → block_of net.blocks v.prefix ≡ Some b → u.csid ≡ csids.Next → v.csid ≡ csids.Replace → ⊥
  mixed i j u v at_u at_v in_u in_v next replace =
      let a = suits_of i u at_u csids.Next next in
      let c = suits_of j v at_v csids.Replace replace in
      let kind_a : b.kind ≡ kinds.Next = ap (λ (x : Block). x.kind) (some_same b a.0 (sym in_u ∙ a.1)) ∙ a.2 in
      let kind_c : b.kind ≡ kinds.Replace = ap (λ (x : Block). x.kind) (some_same b c.0 (sym in_v ∙ c.1)) ∙ c.2 in
      let no : kinds.Next ≡ kinds.Replace = sym kind_a ∙ kind_c in
      absurd (cc)

  one_kind : (k l : Csid) → s.csid ≡ k → t.csid ≡ l → is_compressed k ≡ true → is_compressed l ≡ true → k ≡ l
  one_kind csids.Plain l e f h g = absurd (false≢true h)
  one_kind csids.Next csids.Plain e f h g = absurd (false≢true g)
  one_kind csids.Next csids.Next e f h g = refl
  one_kind csids.Next csids.Replace e f h g = absurd (mixed n m s t is_s is_t in_s in_t e f)
  one_kind csids.Replace csids.Plain e f h g = absurd (false≢true g)
  one_kind csids.Replace csids.Next e f h g = absurd (mixed m n t s is_t is_s in_t in_s f e)
  one_kind csids.Replace csids.Replace e f h g = refl

  packed_len : (i : ℕ) (u : SidEntry) → slice_get net.sids i ≡ Some u → block_of net.blocks u.prefix ≡ Some b → u.csid ≡ csids.Replace
      → u.prefix.len ≡ b.prefix.len + b.csid
  packed_len i u at is e =
      let c = suits_of i u at csids.Replace e in
      let same : c.0 ≡ b = some_same c.0 b (sym c.1 ∙ is) in
      subst (λ (x : Block). u.prefix.len ≡ x.prefix.len + x.csid) same c.3

  share : ShareBlock (shape_by net.blocks (Some s)) (shape_by net.blocks (Some t))
  share =
      record {
        lbl = (keeps.sid n s is_s).block_len ∙ ap block_len_of (in_s ∙ sym in_t) ∙ sym (keeps.sid m t is_t).block_len;
        csid = one_kind s.csid t.csid refl refl;
        length = λ e f. packed_len n s is_s in_s e ∙ sym (packed_len m t is_t in_t f);
      }

pub shapes_share : (net : Network) → Keeps net → (n m : ℕ) → same_block (shape_of net n).block (shape_of net m).block ≡ true
    → ShareBlock (shape_of net n) (shape_of net m)
shapes_share net keeps n m h = by_sids (slice_get net.sids n) (slice_get net.sids m) refl refl h
  where
    by_numbers : (s t : SidEntry) → slice_get net.sids n ≡ Some s → slice_get net.sids m ≡ Some t → (o q : Option ℕ)
        → block_at net.blocks s.prefix ≡ o → block_at net.blocks t.prefix ≡ q → same_block o q ≡ true
        → ShareBlock (shape_by net.blocks (Some s)) (shape_by net.blocks (Some t))
    by_numbers s t is_s is_t None q e f h = absurd (false≢true h)
    by_numbers s t is_s is_t (Some i) None e f h = absurd (false≢true h)
    by_numbers s t is_s is_t (Some i) (Some j) e f h =
        let a = numbered net keeps s.prefix i e in
        let c = numbered net keeps t.prefix j f in
        let same : a.0 ≡ c.0 = some_same a.0 c.0 (sym a.1 ∙ ap (slice_get net.blocks) (eqb-true i j h) ∙ c.1) in
        share net keeps n m s t is_s is_t a.0 a.2 (c.2 ∙ ap Some (sym same))

    by_sids : (o q : Option SidEntry) → slice_get net.sids n ≡ o → slice_get net.sids m ≡ q
        → same_block (shape_by net.blocks o).block (shape_by net.blocks q).block ≡ true
        → ShareBlock (shape_by net.blocks o) (shape_by net.blocks q)
    by_sids None q e f h = absurd (false≢true h)
    by_sids (Some s) None e f h = by_none (block_at net.blocks s.prefix) h
      where
        by_none : (o : Option ℕ) → same_block o None ≡ true → ShareBlock (shape_by net.blocks (Some s)) (shape_by net.blocks None)
        by_none None h = absurd (false≢true h)
        by_none (Some i) h = absurd (false≢true h)
    by_sids (Some s) (Some t) e f h = by_numbers s t e f (block_at net.blocks s.prefix) (block_at net.blocks t.prefix) refl refl h
