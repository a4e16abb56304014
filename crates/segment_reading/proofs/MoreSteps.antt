-- The SIDs after the first in a full container, one by one.
use Rattle.std.proofs.Common.{◌≡◌, ◌⊎◌, inl, inr, ℕ, ◌+◌, ◌-◌, ◌<◌, ◌≤◌, List, [], ◌∷◌, ◌++◌, length, Option, Some, None, refl, sym, ◌∙◌, ap, subst, arith, length-append, append_assoc}
use Rattle.v6_addr.specs.Address.{PrefixValue}
use Rattle.v6_addr.specs.declared.address.Addr.{Addr}
use Rattle.srv6_rules.specs.Compressed.{argument_of, shift_of}
use Rattle.net_model.specs.Network.{Network}
use Rattle.net_model.specs.NetworkRulesTerms.{IsNetwork}
use Rattle.net_flatness.specs.Flat.{IsFlat}
use Rattle.sid_list_spec.specs.SegmentLists.{block_len}
use Rattle.list_pack.specs.SidLists.{list_sid}
use Rattle.segment_reading.specs.Readings.{IsFullAt, LongestOf, NextAt}
use Rattle.segment_reading.proofs.ReadingFull.{block_shorter, full_behind, full_few, full_longest, full_shifts, full_still}

-- of the SIDs after the first these were read, and others are left, with which the container goes on from the last one read
pub record MoreRead (net : Network) (address : ℕ) (read : List PrefixValue) (last : PrefixValue) (at : ℕ) (others : List PrefixValue)
    : Type 0 where
  pub left : List PrefixValue
  pub all : others ≡ read ++ left
  pub on : IsFullAt net last left at

abbrev pub MoreReads : Network → PrefixValue → ℕ → List PrefixValue → PrefixValue → ℕ → Type 0
MoreReads net first address read last at =
    (others : List PrefixValue) → IsFullAt net first others address → MoreRead net address read last at others

pub append_none : {X : Type 0} (xs : List X) → xs ++ [] ≡ xs
append_none [] = refl
append_none {X = X} (x ∷ xs) = ap (λ (ys : List X). x ∷ ys) (append_none xs)

pub more_first : (net : Network) (first : PrefixValue) (address : ℕ) → MoreReads net first address [] first address
more_first net first address = λ others is. record { left = others; all = refl; on = is }

module _ (net : Network) (network : IsNetwork net) (flat : IsFlat net) (first : PrefixValue) (address : ℕ) (read : List PrefixValue)
    (last : PrefixValue) (at : ℕ) (reads : MoreReads net first address read last at) where
  -- no SID comes after the last one
  pub more_ends : NextAt net last at None → (others : List PrefixValue) → IsFullAt net first others address → read ≡ others
  more_ends none others is =
      let r = reads others is in
      by r.left r.on none ∙ sym r.all
    where
      by : (left : List PrefixValue) → IsFullAt net last left at → NextAt net last at None → read ≡ read ++ left
      by [] on none = sym (append_none read)
      by (q ∷ more) on (inl still) = absurd (full_shifts net network flat last q more at on still)
      by (q ∷ more) on (inr short) =
          let longer = block_shorter net network flat last q more at on in absurd (omega (arith, short, longer))

  -- the next one, where the longest prefix at its address is this
  pub more_on : (next : Addr) (o : Option PrefixValue) → NextAt net last at (Some next)
      → LongestOf net.sids (length net.sids) next.value o → (others : List PrefixValue) → IsFullAt net first others address
      → (q : PrefixValue) × (o ≡ Some q) × MoreRead net address (read ++ (q ∷ [])) q next.value others
  more_on next o goes longest others is =
      let r = reads others is in by r.left r.all r.on
    where
      by : (left : List PrefixValue) → others ≡ read ++ left → IsFullAt net last left at
          → (q : PrefixValue) × (o ≡ Some q) × MoreRead net address (read ++ (q ∷ [])) q next.value others
      by [] all on = absurd (goes.0 (full_still net network flat last at on))
      by (q ∷ more) all on =
          let behind = subst (IsFullAt net q more) (sym goes.1) (full_behind net network flat last q more at on) in (
            q,
            full_longest net network flat q more next.value behind o longest,
            record { left = more; all = all ∙ sym (append_assoc read (q ∷ []) more); on = behind },
          )

  pub more_lost : (next : Addr) → NextAt net last at (Some next) → LongestOf net.sids (length net.sids) next.value None
      → (others : List PrefixValue) → IsFullAt net first others address → read ≡ others
  more_lost next goes none others is = let on = more_on next None goes none others is in let e = on.1 in absurd (cc)

  pub more_next : (next : Addr) (p : PrefixValue) → NextAt net last at (Some next)
      → LongestOf net.sids (length net.sids) next.value (Some p) → MoreReads net first address (read ++ (p ∷ [])) p next.value
  more_next next p goes longest = λ others is.
      let on = more_on next (Some p) goes longest others is in
      let same : on.0 ≡ p = let e = on.1 in cc in
      subst (λ (q : PrefixValue). MoreRead net address (read ++ (q ∷ [])) q next.value others) same on.2

  -- there are no more than the bits of an address
  pub more_whole : 128 ≤ length read → (others : List PrefixValue) → IsFullAt net first others address → read ≡ others
  more_whole many others is =
      let r = reads others is in
      let few = full_few net network flat first others address is in
      let count : length others ≡ length read + length r.left = ap length r.all ∙ length-append read r.left in
      let left : length r.left ≡ 0 = omega (arith, many, few, count) in
      by r.left left ∙ sym r.all
    where
      by : (left : List PrefixValue) → length left ≡ 0 → read ≡ read ++ left
      by [] none = sym (append_none read)
      by (q ∷ more) none = absurd (omega (arith, none))
