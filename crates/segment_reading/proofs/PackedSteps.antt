-- The SIDs of a REPLACE container, place by place.
use Rattle.std.proofs.Common.{◌≡◌, ◌⊎◌, inl, inr, ℕ, ◌+◌, ◌-◌, ◌*◌, ◌<◌, ◌≤◌, List, [], ◌∷◌, ◌++◌, length, map, get_or, take, drop, All, Option, Some, None, slice_get, refl, sym, ◌∙◌, ap, subst, arith, length-append, append_assoc}
use Rattle.std.specs.Prelude.{◌≢◌}
use Rattle.std.proofs.lemmas.List.Elements.{All-head, All-tail}
use Rattle.std.proofs.lemmas.Option.{slice_get_within}
use Rattle.v6_addr.specs.Address.{PrefixValue, field_of}
use Rattle.v6_addr.specs.AddressTerms.{IsPrefix}
use Rattle.srv6_rules.specs.Compressed.{csid_count, csid_of}
use Rattle.srv6_rules.specs.CompressedTerms.{IsReplaceSid}
use Rattle.srv6_rules.specs.declared.sid.SidEntry.{SidEntry}
use Rattle.net_model.specs.declared.parts.Block.{Block}
use Rattle.net_model.specs.Network.{Network}
use Rattle.list_pack.specs.SidLists.{IsSidPrefix, list_sid, sid_block}
use Rattle.segment_reading.specs.Readings.{HasCsid, IsPackedAt, IsSized, PrefixWith}
use Rattle.segment_reading.proofs.MoreSteps.{append_none}
use Rattle.segment_reading.proofs.ReadingPacked.{csid_past, csid_same, csid_there, has_own, packed_csid, packed_few, packed_sids}

-- the CSID at a place of a REPLACE container of a block
abbrev pub csid_in : Block → ℕ → ℕ → ℕ
csid_in b entry place = field_of entry ((csid_count b.csid - 1 - place) * b.csid) b.csid

-- of the SIDs of a container these were read
abbrev pub PackedReads : Network → Block → ℕ → List PrefixValue → Type 0
PackedReads net b entry read =
    (sids : List PrefixValue) → IsPackedAt net (sid_block b) sids entry → (left : List PrefixValue) × (sids ≡ read ++ left)

pub packed_first : (net : Network) (b : Block) (entry : ℕ) → PackedReads net b entry []
packed_first net b entry = λ sids is. (sids, refl)

-- the SID behind those that were read, and what holds of it
get_behind : (read : List PrefixValue) (p : PrefixValue) (left : List PrefixValue) → slice_get (read ++ (p ∷ left)) (length read) ≡ Some p
get_behind [] p left = refl
get_behind (q ∷ read) p left = get_behind read p left

all_behind : (P : PrefixValue → Type 0) (read : List PrefixValue) (p : PrefixValue) (left : List PrefixValue) → All P (read ++ (p ∷ left)) → P p
all_behind P [] p left all = All-head P p left all
all_behind P (q ∷ read) p left all = all_behind P read p left (All-tail P q (read ++ (p ∷ left)) all)

-- what the SID at a place is
record Behind (net : Network) (b : Block) (csid : ℕ) (p : PrefixValue) : Type 0 where
  prefix : IsPrefix p
  has : HasCsid b.prefix b.csid csid p
  some : csid ≢ 0
  named : IsSidPrefix net p

module _ (net : Network) (b : Block) (entry : ℕ) (sized : IsSized b) (read : List PrefixValue) (reads : PackedReads net b entry read)
    (sids : List PrefixValue) (is : IsPackedAt net (sid_block b) sids entry) where
  pub packed_whole : csid_count b.csid ≤ length read → read ≡ sids
  packed_whole many =
      let r = reads sids is in
      let few : length sids ≤ csid_count b.csid = packed_few net (sid_block b) sids entry is in
      let count : length sids ≡ length read + length r.0 = ap length r.1 ∙ length-append read r.0 in
      let left : length r.0 ≡ 0 = omega (arith, many, few, count) in
      by r.0 left ∙ sym r.1
    where
      by : (left : List PrefixValue) → length left ≡ 0 → read ≡ read ++ left
      by [] none = sym (append_none read)
      by (q ∷ more) none = absurd (omega (arith, none))

  module _ (below : length read < csid_count b.csid) where
    at_place : csid_in b entry (length read) ≡ get_or (map (csid_of b.prefix.len) sids) (length read) 0
    at_place = packed_csid net (sid_block b) sids entry is (length read) sized.csid below

    past : sids ≡ read ++ [] → csid_in b entry (length read) ≡ 0
    past all =
        let e : sids ≡ read = all ∙ append_none read in
        let count : length sids ≡ length read = ap length e in
        at_place ∙ csid_past (csid_of b.prefix.len) sids (length read) (omega (arith, count))

    there : (p : PrefixValue) (left : List PrefixValue) → sids ≡ read ++ (p ∷ left) → Behind net b (csid_in b entry (length read)) p
    there p left all =
        let get : slice_get sids (length read) ≡ Some p
        = ap (λ (ps : List PrefixValue). slice_get ps (length read)) all ∙ get_behind read p left in
        let csid : csid_in b entry (length read) ≡ csid_of b.prefix.len p
        = at_place ∙ csid_there (csid_of b.prefix.len) sids (length read) p get in
        let P : PrefixValue → Type 0 = λ (q : PrefixValue). IsReplaceSid b.prefix b.csid q in
        let sid : IsReplaceSid b.prefix b.csid p
        = all_behind P read p left (subst (All P) all (packed_sids net (sid_block b) sids entry is)) in
        record {
          prefix = sid.sid_of.prefix;
          has = subst (λ (n : ℕ). HasCsid b.prefix b.csid n p) (sym csid) (has_own b.prefix b.csid p sid);
          some = λ none. sid.sid_of.some (sym csid ∙ none);
          named = all_behind (IsSidPrefix net) read p left (subst (All (IsSidPrefix net)) all is.named);
        }

    pub packed_ends : csid_in b entry (length read) ≡ 0 → read ≡ sids
    packed_ends none = let r = reads sids is in by r.0 r.1
      where
        by : (left : List PrefixValue) → sids ≡ read ++ left → read ≡ sids
        by [] all = sym (append_none read) ∙ sym all
        by (p ∷ left) all = absurd ((there p left all).some none)

    pub packed_lost : PrefixWith net.sids (length net.sids) b (csid_in b entry (length read)) None → read ≡ sids
    packed_lost lost = let r = reads sids is in by r.0 r.1
      where
        by : (left : List PrefixValue) → sids ≡ read ++ left → read ≡ sids
        by [] all = sym (append_none read) ∙ sym all
        by (p ∷ left) all =
            let t = there p left all in
            let n = t.named in
            absurd (lost n.0 n.1 (slice_get_within net.sids n.0 n.1 n.2) n.2
            (subst (HasCsid b.prefix b.csid (csid_in b entry (length read))) (sym n.3) t.has))

    pub packed_one : (p : PrefixValue) → csid_in b entry (length read) ≢ 0
        → PrefixWith net.sids (length net.sids) b (csid_in b entry (length read)) (Some p)
        → (left : List PrefixValue) × (sids ≡ (read ++ (p ∷ [])) ++ left)
    packed_one p some with_csid = let r = reads sids is in by r.0 r.1
      where
        by : (left : List PrefixValue) → sids ≡ read ++ left → (left : List PrefixValue) × (sids ≡ (read ++ (p ∷ [])) ++ left)
        by [] all = absurd (some (past all))
        by (q ∷ left) all =
            let t = there q left all in
            let same = csid_same b.prefix b.csid (csid_in b entry (length read)) q p t.prefix with_csid.0 t.has with_csid.1 in
            (left, all ∙ ap (λ (x : PrefixValue). read ++ (x ∷ left)) same ∙ sym (append_assoc read (p ∷ []) left))

pub packed_next : (net : Network) (b : Block) (entry : ℕ) (read : List PrefixValue) (p : PrefixValue) → IsSized b
    → PackedReads net b entry read → length read < csid_count b.csid → csid_in b entry (length read) ≢ 0
    → PrefixWith net.sids (length net.sids) b (csid_in b entry (length read)) (Some p) → PackedReads net b entry (read ++ (p ∷ []))
packed_next net b entry read p sized reads below some with_csid =
    λ sids is. packed_one net b entry sized read reads sids is below p some with_csid

-- ---- the CSID that stands at a place

module _ (net : Network) (b : Block) (entry : ℕ) (sized : IsSized b) (read : List PrefixValue) (reads : PackedReads net b entry read)
    (place csid : ℕ) (count : length read ≡ place) (told : csid ≡ csid_in b entry place) (below : place < csid_count b.csid) where
  here : csid_in b entry (length read) ≡ csid
  here = ap (csid_in b entry) count ∙ sym told

  within : length read < csid_count b.csid
  within = omega (arith, count, below)

  pub place_ends : csid ≡ 0 → (sids : List PrefixValue) → IsPackedAt net (sid_block b) sids entry → read ≡ sids
  place_ends none = λ sids is. packed_ends net b entry sized read reads sids is within (here ∙ none)

  pub place_lost : PrefixWith net.sids (length net.sids) b csid None → (sids : List PrefixValue) → IsPackedAt net (sid_block b) sids entry
      → read ≡ sids
  place_lost lost = λ sids is.
      packed_lost net b entry sized read reads sids is within
      (subst (λ (n : ℕ). PrefixWith net.sids (length net.sids) b n None) (sym here) lost)

  pub place_next : (after : List PrefixValue) (p : PrefixValue) → csid ≢ 0 → PrefixWith net.sids (length net.sids) b csid (Some p)
      → after ≡ read ++ (p ∷ []) → PackedReads net b entry after
  place_next after p some with_csid is_after =
      subst (PackedReads net b entry) (sym is_after)
      (packed_next net b entry read p sized reads within (λ none. some (sym here ∙ none))
      (subst (λ (n : ℕ). PrefixWith net.sids (length net.sids) b n (Some p)) (sym here) with_csid))
