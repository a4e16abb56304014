-- The tests of the rule on nested SIDs and what they mean.
use Rattle.std.proofs.Common.{◌≡◌, ℕ, ◌+◌, ◌-◌, ◌<◌, ◌≤◌, inl, inr, Bool, true, false, ◌==◌, List, [], ◌∷◌, length, drop, All, Some, get_or, slice_get, Contains, sym, ◌∙◌, ap, subst, arith}
use Rattle.std.specs.Prelude.{◌↔◌, IsTrue}
use Rattle.std.proofs.lemmas.Bool.{cases_lt, eqb-true, eq-eqb}
use Rattle.std.proofs.lemmas.Option.{same_Some, slice_get-get_or, slice_get_within}
use Rattle.v6_addr.specs.Address.{PrefixValue}
use Rattle.srv6_rules.specs.declared.sid.SidEntry.{SidEntry}
use Rattle.net_model.specs.Network.{Network}
use Rattle.net_model.specs.NetworkRules.{same_prefix}
use Rattle.net_model.proofs.PublicLaws.{get_from_contains, contains_from_get}
use Rattle.net_flatness.specs.Nests.{unit_at, IsNest, MayFollow}
use Rattle.list_pack.specs.SidLists.{FollowOn}
use Rattle.list_pack.specs.Barred.{Bars, SomeBars, BarsAfter}
use Rattle.list_pack.proofs.FlatSids.{same_self, same_is}
use Rattle.list_pack.proofs.SidLoops.{drop_past}

-- ---- the first items of a list

abbrev pub EachOf : {X : Type 0} → (X → Type 0) → List X → ℕ → Type 0
EachOf {X} P xs count = (k : ℕ) (x : X) → k < count → slice_get xs k ≡ Some x → P x

pub each_more : {X : Type 0} (P : X → Type 0) (xs : List X) (count : ℕ) (x : X) → slice_get xs count ≡ Some x → P x
    → EachOf P xs count → EachOf P xs (count + 1)
each_more P xs count x at here so k y h f =
    elim (cases_lt k count) as (λ w. P y) [
      | inl less ↦ so k y less f
      | inr more ↦
          let same : k ≡ count = omega (arith, h, more) in
          let is : x ≡ y = same_Some x y (sym at ∙ ap (slice_get xs) (sym same) ∙ f) in
          subst P is here
    ]

each_all : {X : Type 0} (P : X → Type 0) (xs : List X) (count : ℕ) → length xs ≤ count → EachOf P xs count → (x : X) → Contains xs x
    → P x
each_all P xs count h so x among =
    let (k, at) = get_from_contains xs x among in
    so k x (omega (arith, slice_get_within xs k x at, h)) at

abbrev pub NoneOf : {X : Type 0} → (X → Type 0) → List X → ℕ → Type 0
NoneOf P xs count = EachOf (λ x. ¬ P x) xs count

-- ---- one nested SID

-- the bits that are compared, counted back from the inner SID's end
pub bars_is : (net : Network) (next : PrefixValue) (outer inner : SidEntry) (at : ℕ) (b : Bool) → IsNest net outer inner
    → at ≡ inner.prefix.len - 16 → b ≡ (unit_at next (at - 16) == unit_at inner.prefix at) → IsTrue b ↔ Bars net next outer inner
bars_is net next outer inner at b nest at_is b_is = (
  λ e.
      let lbl : at ≡ nest.block.prefix.len + 16 = omega (arith, at_is, nest.inner_len) in
      let less : at - 16 ≡ nest.block.prefix.len = omega (arith, lbl) in
      let same : unit_at next (at - 16) ≡ unit_at inner.prefix at = eqb-true _ _ (sym b_is ∙ e) in
      record {
        nest = nest;
        same = ap (λ (n : ℕ). unit_at next n) (sym less) ∙ same ∙ ap (λ (n : ℕ). unit_at inner.prefix n) lbl;
      },
  λ bars.
      let lbl : at ≡ bars.nest.block.prefix.len + 16 = omega (arith, at_is, bars.nest.inner_len) in
      let less : at - 16 ≡ bars.nest.block.prefix.len = omega (arith, lbl) in
      b_is ∙ eq-eqb _ _
      (ap (λ (n : ℕ). unit_at next n) less ∙ bars.same ∙ ap (λ (n : ℕ). unit_at inner.prefix n) (sym lbl)),
)

-- ---- the SIDs on a prefix

pub some_barred : (net : Network) (next : PrefixValue) (outer : SidEntry) (n : ℕ) (inner : SidEntry) → slice_get net.sids n ≡ Some inner
    → Bars net next outer inner → SomeBars net next outer
some_barred net next outer n inner at bars = (inner, contains_from_get net.sids n inner at, bars)

pub none_barred : (net : Network) (next : PrefixValue) (outer : SidEntry) (count : ℕ) → length net.sids ≤ count
    → NoneOf (Bars net next outer) net.sids count → ¬ SomeBars net next outer
none_barred net next outer count h so (inner, among, bars) =
    each_all (λ x. ¬ Bars net next outer x) net.sids count h so inner among bars

pub not_after : (net : Network) (p next : PrefixValue) (outer : SidEntry) → same_prefix outer.prefix p ≡ false
    → ¬ BarsAfter net p next outer
not_after net p next outer e bars =
    let own : same_prefix outer.prefix p ≡ true = ap (λ (q : PrefixValue). same_prefix q p) bars.0 ∙ same_self p in
    absurd (cc)

pub after_is : (net : Network) (p next : PrefixValue) (outer : SidEntry) (b : Bool) → same_prefix outer.prefix p ≡ true
    → IsTrue b ↔ SomeBars net next outer → IsTrue b ↔ BarsAfter net p next outer
after_is net p next outer b e is = (λ h. (same_is outer.prefix p e, is.0 h), λ bars. is.1 bars.1)

pub barred_after : (net : Network) (p next : PrefixValue) (n : ℕ) (outer : SidEntry) → slice_get net.sids n ≡ Some outer
    → BarsAfter net p next outer → ¬ MayFollow net p next
barred_after net p next n outer at (on, (inner, among, bars)) follows =
    follows outer inner (contains_from_get net.sids n outer at) among on bars.nest bars.same

pub none_after : (net : Network) (p next : PrefixValue) (count : ℕ) → length net.sids ≤ count
    → NoneOf (BarsAfter net p next) net.sids count → MayFollow net p next
none_after net p next count h so outer inner at among on nest same =
    each_all (λ x. ¬ BarsAfter net p next x) net.sids count h so outer at
    (on, (inner, among, record { nest = nest; same = same }))

-- ---- lists

-- the facts of prefixes that are left say what is told
module _ (Follows : PrefixValue → PrefixValue → Type 0) (told : Type 0) (last next : PrefixValue) (i : ℕ) (more : List PrefixValue)
    (left : told ↔ FollowOn Follows last (drop i more)) where
  here : drop i more ≡ next ∷ drop (i + 1) more → told ↔ FollowOn Follows last (next ∷ drop (i + 1) more)
  here e = subst (λ (qs : List PrefixValue). told ↔ FollowOn Follows last qs) e left

  pub follow_step : drop i more ≡ next ∷ drop (i + 1) more → Follows last next → told ↔ FollowOn Follows next (drop (i + 1) more)
  follow_step e follows = (λ t. ((here e).0 t).1, λ rest. (here e).1 (follows, rest))

  pub follow_stop : drop i more ≡ next ∷ drop (i + 1) more → ¬ Follows last next → ¬ told
  follow_stop e bars t = bars ((here e).0 t).0

pub follow_end : (Follows : PrefixValue → PrefixValue → Type 0) (told : Type 0) (last : PrefixValue) (i : ℕ) (more : List PrefixValue)
    → told ↔ FollowOn Follows last (drop i more) → length more ≤ i → told
follow_end Follows told last i more left h =
    (subst (λ (qs : List PrefixValue). told ↔ FollowOn Follows last qs) (drop_past more i h) left).1 tt

pub all_from : {X : Type 0} (P : X → Type 0) (xs : List X) (count : ℕ) → length xs ≤ count → EachOf P xs count → All P xs
all_from P xs count h so k d within = so k (get_or xs k d) (omega (arith, within, h)) (slice_get-get_or xs k d within)

pub all_at : {X : Type 0} (P : X → Type 0) (xs : List X) (k : ℕ) (x : X) → slice_get xs k ≡ Some x → All P xs → P x
all_at P xs k x at all =
    let within = slice_get_within xs k x at in
    subst P (same_Some (get_or xs k x) x (sym (slice_get-get_or xs k x within) ∙ at)) (all k x within)
