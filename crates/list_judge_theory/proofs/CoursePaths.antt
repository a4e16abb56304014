-- Courses are paths of legs and a finish through SIDs, which end where a list may.
use Rattle.std.proofs.Common.{◌≡◌, ℕ, ◌+◌, ◌≤◌, ◌⊎◌, inl, inr, Bool, true, false, ◌==◌, ◌||◌, ◌&&◌, List, [], ◌∷◌, length, take, map, Option, Some, refl, sym, ◌∙◌, ap, arith, eqb-true}
use Rattle.std.specs.Prelude.{nat_le}
use Rattle.std.specs.Option.{option_map}
use Rattle.std.proofs.lemmas.Bool.{eq-eqb, leb-true, le-leb}
use Rattle.v6_addr.specs.Address.{PrefixValue}
use Rattle.srv6_rules.specs.Packet.{Packet}
use Rattle.list_pack.specs.declared.types.Leg.{Leg}
use Rattle.list_pack.specs.LegsValueTerms.{IsSid}
use Rattle.list_pack.specs.PathsTerms.{hops_of, with_hops}
use Rattle.leg_table.specs.OneLegLaws.{KindLaws, LegKind, prefix_in}
use Rattle.leg_table.specs.PositionSids.{prefix_at, prefix_by}
use Rattle.leg_table.proofs.StrictPaths.{with_hops_some}
use Rattle.list_judge_theory.specs.ListCourses.{Course, is_early, may_end}
use Rattle.net_model.specs.Network.{Network}

-- where a list may end
pub may_parts : (net : Network) (tail n left : ℕ) → may_end net tail n left ≡ true
    → (left ≡ 1) ⊎ ((left ≤ tail) × (is_early net n ≡ true))
may_parts net tail n left h = by (left == 1) (nat_le left tail) (is_early net n) refl refl refl h
  where
    by : (a b c : Bool) → (left == 1) ≡ a → nat_le left tail ≡ b → is_early net n ≡ c → (a || (b && c)) ≡ true
        → (left ≡ 1) ⊎ ((left ≤ tail) × (is_early net n ≡ true))
    by true b c x y z h = inl (eqb-true left 1 x)
    by false true true x y z h = inr (leb-true left tail y, z)
    by false true false x y z h = absurd (cc)
    by false false c x y z h = absurd (cc)

pub may_last : (net : Network) (tail n left : ℕ) → left ≡ 1 → may_end net tail n left ≡ true
may_last net tail n left one = ap (λ (b : Bool). b || (nat_le left tail && is_early net n)) (eq-eqb left 1 one)

pub may_early : (net : Network) (tail n left : ℕ) → left ≤ tail → is_early net n ≡ true → may_end net tail n left ≡ true
may_early net tail n left few early =
    ap (λ (b : Bool). (left == 1) || (b && is_early net n)) (le-leb left tail few)
    ∙ ap (λ (b : Bool). (left == 1) || b) early
    ∙ or_true (left == 1)
  where
    or_true : (b : Bool) → (b || true) ≡ true
    or_true true = refl
    or_true false = refl

-- SIDs end where a list may, of which these prefixes are left with the first of them
abbrev pub EndWell : Network → ℕ → List PrefixValue → ℕ → List ℕ → Type 0
EndWell net tail ps n [] = may_end net tail n (length ps) ≡ true
EndWell net tail [] n (m ∷ more) = ⊥
EndWell net tail (q ∷ qs) n (m ∷ more) = EndWell net tail qs m more

-- all SIDs of a list do
pub whole_well : (net : Network) (tail : ℕ) (more : List ℕ) (n : ℕ) (ps : List PrefixValue) → length (n ∷ more) ≡ length ps
    → EndWell net tail ps n more
whole_well net tail [] n ps e = may_last net tail n (length ps) (sym e)
whole_well net tail (m ∷ more) n [] e = absurd (omega (arith, e))
whole_well net tail (m ∷ more) n (q ∷ qs) e = whole_well net tail more m qs (omega (arith, e))

-- and no others where none may be passed over
pub well_whole : (net : Network) (more : List ℕ) (n : ℕ) (ps : List PrefixValue) → length (n ∷ more) ≤ length ps → EndWell net 0 ps n more
    → length (n ∷ more) ≡ length ps
well_whole net [] n ps few well = elim (may_parts net 0 n (length ps) well) [
  | inl one ↦ sym one
  | inr early ↦ let low = early.0 in absurd (omega (arith, few, low))
]
well_whole net (m ∷ more) n [] few well = absurd well
well_whole net (m ∷ more) n (q ∷ qs) few well =
    let rest = well_whole net more m qs (omega (arith, few)) well in
    omega (arith, few, rest)

module _ (k : LegKind) (Longest : Option ℕ → Packet → (ℕ → ℕ) → ℕ → Type 0) (laws : KindLaws k Longest) (tail : ℕ) where
  sid_prefix : (n : ℕ) → IsSid k.legs n → prefix_in k n ≡ prefix_at k.net n
  sid_prefix n is = let s = laws.sids n is in s.2.prefix ∙ sym (ap prefix_by s.1)

  ends_prefix : (position : ℕ) (via : Option ℕ) (n need : ℕ) → k.legs.finish position via n ≡ Some need → prefix_in k n ≡ prefix_at k.net n
  ends_prefix position via n need is = sid_prefix n (k.legs.steps, omega arith, (laws.legs.finish position via n need is).is_next)

  goes_prefix : (position : ℕ) (via : Option ℕ) (n : ℕ) (leg : Leg) → k.legs.leg position via n ≡ Some leg → prefix_in k n ≡ prefix_at k.net n
  goes_prefix position via n leg is = let law = laws.legs.leg position via n leg is in sid_prefix n (leg.to, law.within, law.is_next)

  -- a path along prefixes
  pub record PathTo (position : ℕ) (via : Option ℕ) (ps : List PrefixValue) (need : ℕ) : Type 0 where
    pub first : ℕ
    pub more : List ℕ
    pub is_path : hops_of k.legs position via (first ∷ more) ≡ Some need
    pub names : map (prefix_in k) (first ∷ more) ≡ take (length (first ∷ more)) ps
    pub few : length (first ∷ more) ≤ length ps
    pub well : EndWell k.net tail ps first more

  pub course_path : (ps : List PrefixValue) (position : ℕ) (via : Option ℕ) (need : ℕ) → Course k.legs k.net tail position via ps need
      → PathTo position via ps need
  course_path [] position via need c = absurd c
  course_path (q ∷ qs) position via need (inl e) =
      record {
        first = e.sid;
        more = [];
        is_path = e.finish;
        names = ap (λ (a : PrefixValue). a ∷ []) (ends_prefix position via e.sid need e.finish ∙ e.prefix);
        few = omega arith;
        well = e.may;
      }
  course_path (q ∷ qs) position via need (inr g) =
      let rest = course_path qs g.leg.to (Some g.sid) g.rest g.behind in
      record {
        first = g.sid;
        more = rest.first ∷ rest.more;
        is_path =
            ap (λ (o : Option Leg). with_hops o (λ to. hops_of k.legs to (Some g.sid) (rest.first ∷ rest.more))) g.is_leg
            ∙ ap (option_map (λ (m : ℕ). g.leg.hops + m)) rest.is_path ∙ ap (λ (m : ℕ). Some m) g.sum;
        names =
            ap (λ (a : PrefixValue). a ∷ map (prefix_in k) (rest.first ∷ rest.more))
            (goes_prefix position via g.sid g.leg g.is_leg ∙ g.prefix)
            ∙ ap (λ (xs : List PrefixValue). q ∷ xs) rest.names;
        few = let few = rest.few in omega (arith, few);
        well = rest.well;
      }

  heads : (a b : PrefixValue) (xs ys : List PrefixValue) → Path (List PrefixValue) (a ∷ xs) (b ∷ ys) → (a ≡ b) × (xs ≡ ys)
  heads a b xs ys e = (cc, cc)

  pub path_course : (more : List ℕ) (first position : ℕ) (via : Option ℕ) (ps : List PrefixValue) (need : ℕ)
      → hops_of k.legs position via (first ∷ more) ≡ Some need → map (prefix_in k) (first ∷ more) ≡ take (length (first ∷ more)) ps
      → EndWell k.net tail ps first more → Course k.legs k.net tail position via ps need
  path_course [] first position via [] need is names well = absurd (cc)
  path_course [] first position via (q ∷ qs) need is names well =
      inl (record {
        sid = first;
        prefix = sym (ends_prefix position via first need is) ∙ (heads (prefix_in k first) q [] [] names).0;
        may = well;
        finish = is;
      })
  path_course (m ∷ more) first position via [] need is names well = absurd (cc)
  path_course (m ∷ more) first position via (q ∷ qs) need is names well =
      let got = with_hops_some (k.legs.leg position via first) (λ to. hops_of k.legs to (Some first) (m ∷ more)) need is in
      let parts = heads (prefix_in k first) q _ _ names in
      inr (record {
        sid = first;
        leg = got.0;
        prefix = sym (goes_prefix position via first got.0 got.1) ∙ parts.0;
        is_leg = got.1;
        rest = got.2;
        sum = got.4;
        behind = path_course more m got.0.to (Some first) qs got.2 got.3 parts.1 well;
      })
