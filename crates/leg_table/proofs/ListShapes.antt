-- The SIDs of legs of any kind are SIDs of lists.
use Rattle.std.proofs.Common.{true, Bool, ◌≡◌, ℕ, ◌-◌, ◌≤◌, Option, Some, None, slice_get, refl, sym, ◌∙◌, ap, subst, arith, eqb-true}
use Rattle.std.specs.Prelude.{◌↔◌, IsTrue, IsSome}
use Rattle.std.specs.Option.{option_map}
use Rattle.std.proofs.lemmas.Bool.{false≢true, eq-eqb}
use Rattle.std.proofs.lemmas.Option.{none-some}
use Rattle.v6_addr.specs.Address.{PrefixValue, Holds}
use Rattle.v6_addr.proofs.PublicLaws.{Holds_own_value}
use Rattle.srv6_rules.specs.declared.sid.Csid.{Csid}
use Rattle.srv6_rules.specs.declared.sid.Csid.TheVariants.{Replace}
use Rattle.srv6_rules.specs.declared.sid.SidEntry.{SidEntry}
use Rattle.srv6_rules.specs.Behaviours.{goes_on}
use Rattle.net_model.specs.declared.parts.Block.{Block}
use Rattle.net_model.specs.Network.{Network}
use Rattle.net_model.specs.NetworkRules.{block_of, block_len_of}
use Rattle.net_model.specs.NetworkKeeps.{Keeps, SuitsBlock}
use Rattle.net_flatness.specs.Nests.{MayFollow}
use Rattle.intent_reader.specs.declared.intent.Intent.{Intent}
use Rattle.sid_list_spec.specs.SegmentLists.{SidBlock, block_len, csid_len_in}
use Rattle.list_pack.specs.declared.types.Shape.{Shape}
use Rattle.list_pack.specs.Meaning.{IsShapeOf, AreSidsOf}
use Rattle.list_pack.specs.LegsValue.{LegsValue, same_block}
use Rattle.list_pack.specs.LegsValueTerms.{IsSid}
use Rattle.list_pack.specs.PathsTerms.{SuitsLists}
use Rattle.list_pack.specs.SidLists.{block_at, list_sid, sid_block}
use Rattle.list_pack.specs.SidListsTerms.{AreListSids}
use Rattle.leg_table.specs.StrictLegsValue.{legs_value}
use Rattle.leg_table.proofs.StrictOptions.{some_same}
use Rattle.leg_table.proofs.StrictPositions.{are_sids}
use Rattle.leg_table.proofs.TransitFacts.{sid_at}
use Rattle.leg_table.proofs.Shapes.{numbered, has_number}

module _ (net : Network) (keeps : Keeps net) where
  no_number : (p : PrefixValue) → block_at net.blocks p ≡ None → block_of net.blocks p ≡ None
  no_number p e = by (block_of net.blocks p) refl
    where
      by : (o : Option Block) → block_of net.blocks p ≡ o → block_of net.blocks p ≡ None
      by None f = f
      by (Some c) f = let i = has_number net keeps p c f in absurd (none-some i.0 (sym e ∙ i.1))

  -- ---- the shape of a SID, and the SID of lists on its prefix

  abbrev shape : SidEntry → Bool → Shape
  shape s middle =
      record { prefix = s.prefix; block = block_at net.blocks s.prefix; lbl = s.block_len; csid = s.csid; middle = middle }

  some_block : (b : Block) (p : PrefixValue) → block_of net.blocks p ≡ Some b → (list_sid net p).block ≡ Some (sid_block b)
  some_block b p e = ap (option_map sid_block) e

  -- a prefix has a block's number exactly where the SID of lists has a block
  blocked : (p : PrefixValue) → IsSome (block_at net.blocks p) ↔ IsSome (list_sid net p).block
  blocked p = by (block_at net.blocks p) refl
    where
      by : (o : Option ℕ) → block_at net.blocks p ≡ o → IsSome o ↔ IsSome (list_sid net p).block
      by None e = (
        λ h. absurd (false≢true h),
        λ h. absurd (false≢true (subst (λ (q : Option SidBlock). IsSome q) (ap (option_map sid_block) (no_number p e)) h)),
      )
      by (Some i) e =
          let is = numbered net keeps p i e in (
            λ h. subst (λ (q : Option SidBlock). IsSome q) (sym (some_block is.0 p is.2)) refl,
            λ h. refl,
          )

  len_of : (o : Option Block) → block_len (option_map sid_block o) ≡ block_len_of o
  len_of None = refl
  len_of (Some b) = refl

  -- two prefixes have one number exactly where the SIDs of lists on them have one block
  one_number : (p q : PrefixValue) → IsSome (block_at net.blocks p)
      → IsTrue (same_block (block_at net.blocks p) (block_at net.blocks q)) ↔ ((list_sid net p).block ≡ (list_sid net q).block)
  one_number p q some = by (block_at net.blocks p) (block_at net.blocks q) refl refl some
    where
      by : (o r : Option ℕ) → block_at net.blocks p ≡ o → block_at net.blocks q ≡ r → IsSome o
          → IsTrue (same_block o r) ↔ ((list_sid net p).block ≡ (list_sid net q).block)
      by None r e f some = absurd (false≢true some)
      by (Some i) None e f some =
          let is = numbered net keeps p i e in (
            λ h. absurd (false≢true h),
            λ h. absurd (none-some (sid_block is.0) (sym (ap (option_map sid_block) (no_number q f)) ∙ sym h ∙ some_block is.0 p is.2)),
          )
      by (Some i) (Some j) e f some =
          let one = numbered net keeps p i e in
          let two = numbered net keeps q j f in (
            λ h.
                let same : i ≡ j = eqb-true i j h in
                let block : one.0 ≡ two.0 = some_same one.0 two.0 (sym one.1 ∙ ap (slice_get net.blocks) same ∙ two.1) in
                some_block one.0 p one.2 ∙ ap (λ (b : Block). Some (sid_block b)) block ∙ sym (some_block two.0 q two.2),
            λ h.
                let block : sid_block one.0 ≡ sid_block two.0
                = some_same (sid_block one.0) (sid_block two.0) (sym (some_block one.0 p one.2) ∙ h ∙ some_block two.0 q two.2) in
                let prefix : one.0.prefix ≡ two.0.prefix = ap (λ (b : SidBlock). b.prefix) block in
                let own = Holds_own_value one.0.prefix in
                eq-eqb i j (keeps.apart i j one.0.prefix.value one.0 two.0 one.1 two.1 own
                (subst (λ (x : PrefixValue). Holds x one.0.prefix.value) prefix own)),
          )

  csid_len : (s : SidEntry) (o : Option Block) → block_of net.blocks s.prefix ≡ o → SuitsBlock s.csid s o → s.block_len ≡ block_len_of o
      → s.csid ≡ Replace → csid_len_in (list_sid net s.prefix).block ≡ s.prefix.len - s.block_len
  csid_len s o e suits len is =
      let got = subst (λ (k : Csid). SuitsBlock k s o) is suits in
      let lbl : s.block_len ≡ got.0.prefix.len = len ∙ ap block_len_of got.1 in
      let long = got.3 in
      ap csid_len_in (some_block got.0 s.prefix (e ∙ got.1)) ∙ omega (arith, lbl, long)

  pub there : (intent : Intent) (n : ℕ) → IsSid (legs_value net intent) n → (s : SidEntry) × (slice_get net.sids n ≡ Some s)
  there intent n is =
      let s = sid_at net intent is.0 n (((are_sids net keeps intent is.0).each n).0 is.2) in (s.0, s.1)

  module _ (are : AreListSids net) (v : LegsValue) (sids : AreSidsOf v net)
      (goes : (n : ℕ) (s : SidEntry) → slice_get net.sids n ≡ Some s → (v.shape n).middle ≡ true → goes_on s ≡ true)
      (follows : (n m : ℕ) → IsSid v n → IsSid v m → IsTrue (v.stays n m) ↔ MayFollow net (v.shape n).prefix (v.shape m).prefix) where
    shape_is : (s : SidEntry) (x : Shape) → IsShapeOf net s x → x ≡ shape s x.middle
    shape_is s x is =
        ap (λ (p : PrefixValue). record x { prefix = p }) is.prefix
        ∙ ap (λ (b : Option ℕ). record (shape s x.middle) { block = b; lbl = x.lbl; csid = x.csid }) is.block
        ∙ ap (λ (l : ℕ). record (shape s x.middle) { lbl = l; csid = x.csid }) is.lbl
        ∙ ap (λ (k : Csid). record (shape s x.middle) { csid = k }) is.csid

    -- SIDs of a flat network, of which the middle ones go on, and which stay after one another where they may follow, suit lists
    pub suits_by : SuitsLists v (list_sid net) (MayFollow net)
    suits_by =
        record {
          prefix = λ p. refl;
          fits = λ n is.
              let s = sids n is in
              subst (λ (x : Shape). x.prefix.len ≤ 128) (sym (shape_is s.0 (v.shape n) s.2)) (keeps.sid n s.0 s.1).prefix.0;
          in_block = λ n is.
              let s = sids n is in
              subst (λ (x : Shape). IsSome x.block ↔ IsSome (list_sid net x.prefix).block) (sym (shape_is s.0 (v.shape n) s.2))
              (blocked s.0.prefix);
          block_len = λ n is.
              let s = sids n is in
              subst (λ (x : Shape). x.lbl ≡ block_len (list_sid net x.prefix).block) (sym (shape_is s.0 (v.shape n) s.2))
              ((keeps.sid n s.0 s.1).block_len ∙ sym (len_of (block_of net.blocks s.0.prefix)));
          one_block = λ n m is other.
              let s = sids n is in
              let t = sids m other in
              subst (λ (x : Shape). IsSome x.block → IsTrue (same_block x.block (v.shape m).block)
              ↔ ((list_sid net x.prefix).block ≡ (list_sid net (v.shape m).prefix).block)) (sym (shape_is s.0 (v.shape n) s.2))
              (subst (λ (y : Shape). IsSome (block_at net.blocks s.0.prefix) → IsTrue (same_block (block_at net.blocks s.0.prefix) y.block)
              ↔ ((list_sid net s.0.prefix).block ≡ (list_sid net y.prefix).block)) (sym (shape_is t.0 (v.shape m) t.2))
              (one_number s.0.prefix t.0.prefix));
          middle = λ n is middle.
              let s = sids n is in
              let flavour = (are.stands n s.0 s.1).flavour (goes n s.0 s.1 middle) in
              subst (λ (x : Shape). (list_sid net x.prefix).csid ≡ x.csid) (sym (shape_is s.0 (v.shape n) s.2)) (sym flavour);
          replace = λ n is.
              let s = sids n is in
              subst (λ (x : Shape). x.csid ≡ Replace → csid_len_in (list_sid net x.prefix).block ≡ x.prefix.len - x.lbl)
              (sym (shape_is s.0 (v.shape n) s.2))
              (csid_len s.0 (block_of net.blocks s.0.prefix) refl (keeps.sid n s.0 s.1).csid (keeps.sid n s.0 s.1).block_len);
          stays = follows;
        }
