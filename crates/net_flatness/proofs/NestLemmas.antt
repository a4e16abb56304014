-- What the tests of nested SIDs mean.
use Rattle.std.proofs.Common.{◌≡◌, ◌≢◌, ℕ, zero, suc, ◌+◌, ◌≤◌, Bool, true, false, cond, not, List, [], ◌∷◌, Option, Some, None, ◌↔◌, refl, sym, ap, ◌∙◌, subst, arith, inl, inr}
use Rattle.std.specs.List.{slice_get, count_by}
use Rattle.std.proofs.lemmas.Bool.{cases_Bool, and_parts, and_from, not-true, not_from_false, eqb-true, eqb-false, eq-eqb, leb-true, le-leb, both_ways, false_from_ne_true}
use Rattle.std.proofs.lemmas.List.Sums.{sum_by-cons}
use Rattle.std.proofs.lemmas.Option.{same_Some, none-some}
use Rattle.v6_addr.specs.Address.{PrefixValue, IsInside}
use Rattle.v6_addr.proofs.PublicLaws.{is_inside_is}
use Rattle.srv6_rules.specs.declared.sid.Csid.{Csid}
use Rattle.srv6_rules.specs.declared.sid.Csid.TheVariants as csids
use Rattle.srv6_rules.specs.declared.sid.SidEntry.{SidEntry}
use Rattle.srv6_rules.specs.CompressedSteps.{is_next}
use Rattle.net_model.specs.declared.parts.Block.{Block}
use Rattle.net_model.specs.declared.parts.BlockKind.{BlockKind}
use Rattle.net_model.specs.declared.parts.BlockKind.TheVariants as kinds
use Rattle.net_model.specs.declared.net.Hit.{Hit}
use Rattle.net_model.specs.declared.parts.NetParts.{NetParts}
use Rattle.net_model.specs.Network.{Network}
use Rattle.net_model.specs.NetworkTerms.{network_of}
use Rattle.net_model.specs.NetworkRules.{block_of}
use Rattle.net_model.proofs.PublicLaws.{same_prefix_value}
use Rattle.net_flatness.specs.Nests.{unit_at, IsAlone, IsNest}
use Rattle.net_flatness.specs.NestTests.{same_kind, same_block, is_on, is_alone, are_units, is_nest_in, is_nest}

-- ---- SIDs and blocks

-- a test that fails where a fact does not hold
pub fails : (t : Bool) (P : Type 0) → (t ≡ true → P) → ¬ P → not t ≡ true
fails t P means none = not_from_false t (false_from_ne_true t (λ h. none (means h)))

pub refutes : (t : Bool) (P : Type 0) → (P → t ≡ true) → not t ≡ true → ¬ P
refutes t P means off p = both_ways t (not-true t off) (means p)

pub next_is : (c : Csid) → (is_next c ≡ true) ↔ (c ≡ csids.Next)
next_is csids.Plain = (λ h. cc, λ e. cc)
next_is csids.Next = (λ h. refl, λ e. refl)
next_is csids.Replace = (λ h. cc, λ e. cc)

kind_from : (k l : BlockKind) → same_kind k l ≡ true → k ≡ l
kind_from kinds.Next kinds.Next h = refl
kind_from kinds.Next kinds.Replace h = cc
kind_from kinds.Replace kinds.Next h = cc
kind_from kinds.Replace kinds.Replace h = refl

kind_self : (k : BlockKind) → same_kind k k ≡ true
kind_self kinds.Next = refl
kind_self kinds.Replace = refl

kind_to : (k l : BlockKind) → k ≡ l → same_kind k l ≡ true
kind_to k l e = subst (λ (m : BlockKind). same_kind k m ≡ true) e (kind_self k)

block_from : (b c : Block) → same_block b c ≡ true → b ≡ c
block_from b c h =
    let parts = and_parts _ _ h in
    let prefix = and_parts _ _ parts.0 in
    let rest = and_parts _ _ parts.1 in
    let same : b.prefix ≡ c.prefix = same_prefix_value b.prefix c.prefix (eqb-true _ _ prefix.0) (eqb-true _ _ prefix.1) in
    let kind : b.kind ≡ c.kind = kind_from b.kind c.kind rest.0 in
    let csid : b.csid ≡ c.csid = eqb-true _ _ rest.1 in
    λ i. record { prefix = same i; kind = kind i; csid = csid i }

block_self : (b : Block) → same_block b b ≡ true
block_self b =
    and_from _ _ (and_from _ _ (eq-eqb b.prefix.value b.prefix.value refl) (eq-eqb b.prefix.len b.prefix.len refl))
    (and_from _ _ (kind_self b.kind) (eq-eqb b.csid b.csid refl))

-- ---- one SID alone stands on a prefix where no more than one is counted

module _ {X : Type 0} (q : X → Bool) where
  counted : (y : X) (ys : List X) → count_by q (y ∷ ys) ≡ cond (q y) 1 0 + count_by q ys
  counted y ys = sum_by-cons (λ (x : X). cond (q x) 1 0) y ys

  counted_here : (y : X) (ys : List X) → q y ≡ true → count_by q (y ∷ ys) ≡ 1 + count_by q ys
  counted_here y ys h = counted y ys ∙ ap (λ (t : Bool). cond t 1 0 + count_by q ys) h

  counted_not : (y : X) (ys : List X) → q y ≡ false → count_by q (y ∷ ys) ≡ 0 + count_by q ys
  counted_not y ys h = counted y ys ∙ ap (λ (t : Bool). cond t 1 0 + count_by q ys) h

  none_counted : (xs : List X) → count_by q xs ≡ 0 → (n : ℕ) (x : X) → slice_get xs n ≡ Some x → q x ≡ false
  none_counted [] e n x at = absurd (none-some x at)
  none_counted (y ∷ ys) e zero x at =
      elim (cases_Bool (q y)) [
        | inl mine ↦ absurd (omega (arith, counted_here y ys mine, e))
        | inr off ↦ subst (λ (z : X). q z ≡ false) (same_Some y x at) off
      ]
  none_counted (y ∷ ys) e (suc n) x at = none_counted ys (omega (arith, counted y ys, e)) n x at

  pub one_counted : (xs : List X) → count_by q xs ≤ 1 → (n m : ℕ) (x y : X) → slice_get xs n ≡ Some x → slice_get xs m ≡ Some y
      → q x ≡ true → q y ≡ true → n ≡ m
  one_counted [] few n m x y at_n at_m q_x q_y = absurd (none-some x at_n)
  one_counted (z ∷ zs) few zero zero x y at_n at_m q_x q_y = refl
  one_counted (z ∷ zs) few zero (suc m) x y at_n at_m q_x q_y =
      let here = counted_here z zs (subst (λ (w : X). q w ≡ true) (sym (same_Some z x at_n)) q_x) in
      absurd (both_ways _ (none_counted zs (omega (arith, here, few)) m y at_m) q_y)
  one_counted (z ∷ zs) few (suc n) zero x y at_n at_m q_x q_y =
      let here = counted_here z zs (subst (λ (w : X). q w ≡ true) (sym (same_Some z y at_m)) q_y) in
      absurd (both_ways _ (none_counted zs (omega (arith, here, few)) n x at_n) q_x)
  one_counted (z ∷ zs) few (suc n) (suc m) x y at_n at_m q_x q_y =
      ap (λ (k : ℕ). suc k) (one_counted zs (omega (arith, counted z zs, few)) n m x y at_n at_m q_x q_y)

  count_none : (xs : List X) → ((n : ℕ) (x : X) → slice_get xs n ≡ Some x → q x ≡ false) → count_by q xs ≡ 0
  count_none [] none = refl
  count_none (y ∷ ys) none =
      let more = count_none ys (λ n x at. none (suc n) x at) in omega (arith, counted_not y ys (none 0 y refl), more)

  pub count_one : (xs : List X)
      → ((n m : ℕ) (x y : X) → slice_get xs n ≡ Some x → slice_get xs m ≡ Some y → q x ≡ true → q y ≡ true → n ≡ m)
      → count_by q xs ≤ 1
  count_one [] one = omega arith
  count_one (z ∷ zs) one =
      elim (cases_Bool (q z)) [
        | inl mine ↦
            let none = count_none zs (λ n x at. false_from_ne_true (q x) (λ passes.
            let same : 0 ≡ suc n = one 0 (suc n) z x refl at mine passes in absurd (omega (arith, same)))) in
            omega (arith, counted_here z zs mine, none)
        | inr off ↦
            let few = count_one zs (λ n m x y at_n at_m q_x q_y.
            let same : suc n ≡ suc m = one (suc n) (suc m) x y at_n at_m q_x q_y in omega (arith, same)) in
            omega (arith, counted_not z zs off, few)
      ]

on_from : (p : PrefixValue) (s : SidEntry) → is_on p s ≡ true → s.prefix ≡ p
on_from p s h =
    let parts = and_parts _ _ h in
    same_prefix_value s.prefix p (eqb-true _ _ parts.0) (eqb-true _ _ parts.1)

on_to : (p : PrefixValue) (s : SidEntry) → s.prefix ≡ p → is_on p s ≡ true
on_to p s e = and_from _ _ (eq-eqb _ _ (ap (λ (x : PrefixValue). x.value) e)) (eq-eqb _ _ (ap (λ (x : PrefixValue). x.len) e))

pub alone_is : (net : Network) (p : PrefixValue) → (is_alone net.sids p ≡ true) ↔ IsAlone net p
alone_is net p = (
  λ h n m s t at_n at_m on_s on_t. one_counted (is_on p) net.sids (leb-true _ _ h) n m s t at_n at_m (on_to p s on_s) (on_to p t on_t),
  λ alone. le-leb _ _
      (count_one (is_on p) net.sids (λ n m s t at_n at_m on_s on_t. alone n m s t at_n at_m (on_from p s on_s) (on_from p t on_t))),
)

-- ---- nests

-- the parts of a nest that speak of its block and its SIDs alone
record AreUnits (b : Block) (outer inner : SidEntry) : Type 0 where
  kind : b.kind ≡ kinds.Next
  csid : outer.csid ≡ csids.Next
  outer_len : outer.prefix.len ≡ b.prefix.len + 16
  inner_len : inner.prefix.len ≡ b.prefix.len + 32
  inside : IsInside inner.prefix outer.prefix
  some : unit_at inner.prefix (b.prefix.len + 16) ≢ 0
  node : outer.node ≡ inner.node

units_from : (b : Block) (outer inner : SidEntry) → are_units b outer inner ≡ true → AreUnits b outer inner
units_from b outer inner h =
    let kind = and_parts _ _ h in
    let csid = and_parts _ _ kind.1 in
    let outer_len = and_parts _ _ csid.1 in
    let inner_len = and_parts _ _ outer_len.1 in
    let inside = and_parts _ _ inner_len.1 in
    let some = and_parts _ _ inside.1 in
    record {
      kind = kind_from b.kind kinds.Next kind.0;
      csid = (next_is outer.csid).0 csid.0;
      outer_len = eqb-true _ _ outer_len.0;
      inner_len = eqb-true _ _ inner_len.0;
      inside = (is_inside_is inner.prefix outer.prefix).0 inside.0;
      some = eqb-false _ _ (not-true _ some.0);
      node = eqb-true _ _ some.1;
    }

units_to : (b : Block) (outer inner : SidEntry) → AreUnits b outer inner → are_units b outer inner ≡ true
units_to b outer inner is =
    and_from _ _ (kind_to b.kind kinds.Next is.kind)
    (and_from _ _ ((next_is outer.csid).1 is.csid)
    (and_from _ _ (eq-eqb _ _ is.outer_len)
    (and_from _ _ (eq-eqb _ _ is.inner_len)
    (and_from _ _ ((is_inside_is inner.prefix outer.prefix).1 is.inside)
    (and_from _ _ (fails _ _ (eqb-true _ _) is.some) (eq-eqb _ _ is.node))))))

nest_in : (net : Network) (outer inner : SidEntry) (b c : Option Block) → block_of net.blocks outer.prefix ≡ b
    → block_of net.blocks inner.prefix ≡ c → is_nest_in net.sids b c outer inner ≡ true → IsNest net outer inner
nest_in net outer inner None c of_b of_c h = absurd (let e : false ≡ true = h in cc)
nest_in net outer inner (Some b) None of_b of_c h = absurd (let e : false ≡ true = h in cc)
nest_in net outer inner (Some b) (Some c) of_b of_c h =
    let same = and_parts _ _ h in
    let units = and_parts _ _ same.1 in
    let alone = and_parts _ _ units.1 in
    let is = units_from b outer inner units.0 in
    record {
      block = b;
      of_outer = of_b;
      of_inner = of_c ∙ ap (λ (x : Block). Some x) (sym (block_from b c same.0));
      kind = is.kind;
      csid = is.csid;
      outer_len = is.outer_len;
      inner_len = is.inner_len;
      inside = is.inside;
      some = is.some;
      node = is.node;
      outer_alone = (alone_is net outer.prefix).0 alone.0;
      inner_alone = (alone_is net inner.prefix).0 alone.1;
    }

nest_to : (net : Network) (outer inner : SidEntry) → IsNest net outer inner
    → is_nest_in net.sids (block_of net.blocks outer.prefix) (block_of net.blocks inner.prefix) outer inner ≡ true
nest_to net outer inner is =
    let units = units_to is.block outer inner (record {
      kind = is.kind;
      csid = is.csid;
      outer_len = is.outer_len;
      inner_len = is.inner_len;
      inside = is.inside;
      some = is.some;
      node = is.node;
    }) in
    let test = and_from _ _ (block_self is.block) (and_from _ _ units
    (and_from _ _ ((alone_is net outer.prefix).1 is.outer_alone) ((alone_is net inner.prefix).1 is.inner_alone))) in
    ap (λ (o : Option Block). is_nest_in net.sids o (block_of net.blocks inner.prefix) outer inner) is.of_outer
    ∙ (ap (λ (o : Option Block). is_nest_in net.sids (Some is.block) o outer inner) is.of_inner ∙ test)

pub nest_is : (net : Network) (outer inner : SidEntry) → (is_nest net outer inner ≡ true) ↔ IsNest net outer inner
unfolding is_nest
nest_is net outer inner = (nest_in net outer inner _ _ refl refl, nest_to net outer inner)

-- ---- what is hidden makes no difference

nest_hidden : (net : Network) (hidden : List Hit) (outer inner : SidEntry)
    → is_nest (record net { hidden = hidden }) outer inner ≡ is_nest net outer inner
unfolding is_nest
nest_hidden net hidden outer inner = refl

pub nest_of_parts : (p : NetParts) (net : Network) (outer inner : SidEntry) → record (network_of p) { hidden = net.hidden } ≡ net
    → is_nest (network_of p) outer inner ≡ is_nest net outer inner
nest_of_parts p net outer inner same =
    sym (nest_hidden (network_of p) net.hidden outer inner) ∙ ap (λ (n : Network). is_nest n outer inner) same
