-- The longest prefix of SIDs that has an address in it, SID by SID.
use Rattle.std.proofs.Common.{◌≡◌, ◌⊎◌, inl, inr, ℕ, ◌+◌, ◌<◌, ◌≤◌, List, length, Option, Some, None, slice_get, refl, sym, subst, arith}
use Rattle.std.proofs.lemmas.Bool.{cases_lt}
use Rattle.v6_addr.specs.Address.{PrefixValue, Holds}
use Rattle.srv6_rules.specs.declared.sid.SidEntry.{SidEntry}
use Rattle.segment_reading.specs.Readings.{IsLongestOf, LongestOf}

pub longest_of_none : (sids : List SidEntry) (a : ℕ) → LongestOf sids 0 a None
longest_of_none sids a = λ n s below at held. absurd (omega (arith, below))

module _ (sids : List SidEntry) (count a : ℕ) (s : SidEntry) (p : PrefixValue) (at : slice_get sids count ≡ Some s)
    (same : s.prefix ≡ p) where
  -- an earlier SID, or this one
  earlier_or : (n : ℕ) (t : SidEntry) → n < count + 1 → slice_get sids n ≡ Some t → (n < count) ⊎ (t.prefix ≡ p)
  earlier_or n t below at_n = elim (cases_lt n count) [
    | inl less ↦ inl less
    | inr most ↦
        let is : n ≡ count = omega (arith, below, most) in
        let one : t ≡ s = cc in
        inr (cc)
  ]

  -- this one is longer than those before
  pub longest_taken : (o : Option PrefixValue) → Holds p a → ((q : PrefixValue) → o ≡ Some q → q.len ≤ p.len) → LongestOf sids count a o
      → LongestOf sids (count + 1) a (Some p)
  longest_taken o held longer longest =
      record {
        number = count;
        sid = s;
        there = at;
        prefix = same;
        held = held;
        most = λ n t below at_n held_n. most_by n t held_n o longer longest at_n (earlier_or n t below at_n);
      }
    where
      most_by : (n : ℕ) (t : SidEntry) → Holds t.prefix a → (o : Option PrefixValue)
          → ((q : PrefixValue) → o ≡ Some q → q.len ≤ p.len) → LongestOf sids count a o → slice_get sids n ≡ Some t
          → (n < count) ⊎ (t.prefix ≡ p) → t.prefix.len ≤ p.len
      most_by n t held_n None longer none at_n (inl less) = absurd (none n t less at_n held_n)
      most_by n t held_n (Some q) longer is at_n (inl less) =
          let below = is.most n t less at_n held_n in let up = longer q refl in omega (arith, below, up)
      most_by n t held_n o longer longest at_n (inr one) = subst (λ (q : PrefixValue). q.len ≤ p.len) (sym one) (omega arith)

  -- this one doesn't have it, or isn't longer
  pub longest_left : (o : Option PrefixValue) → (Holds p a → (q : PrefixValue) × (o ≡ Some q) × (p.len ≤ q.len)) → LongestOf sids count a o
      → LongestOf sids (count + 1) a o
  longest_left None short none =
      λ n t below at_n held_n. elim (earlier_or n t below at_n) [
        | inl less ↦ none n t less at_n held_n
        | inr one ↦ let no = short (subst (λ (q : PrefixValue). Holds q a) one held_n) in let e = no.1 in absurd (cc)
      ]
  longest_left (Some q) short is =
      record {
        number = is.number;
        sid = is.sid;
        there = is.there;
        prefix = is.prefix;
        held = is.held;
        most = λ n t below at_n held_n. elim (earlier_or n t below at_n) [
          | inl less ↦ is.most n t less at_n held_n
          | inr one ↦
              let longer = short (subst (λ (r : PrefixValue). Holds r a) one held_n) in
              let e : longer.0 ≡ q = let f = longer.1 in cc in
              let len : p.len ≤ q.len = subst (λ (r : PrefixValue). p.len ≤ r.len) e longer.2 in
              subst (λ (r : PrefixValue). r.len ≤ q.len) (sym one) len
        ];
      }
