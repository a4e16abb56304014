-- Paths that end before a list's last SID hand over too, where the SID at their end takes what is inside there.
use Rattle.std.proofs.Common.{◌≡◌, ℕ, ◌+◌, ◌-◌, ◌<◌, inl, inr, true, false, List, [], ◌∷◌, ◌++◌, length, take, map, Option, Some, refl, sym, ◌∙◌, ap, arith}
use Rattle.std.specs.Option.{option_map}
use Rattle.std.proofs.lemmas.List.{length-map}
use Rattle.std.proofs.lemmas.List.Elements.{All-cons}
use Rattle.v6_addr.specs.Address.{PrefixValue}
use Rattle.srv6_rules.specs.Packet.{Packet}
use Rattle.sid_list_theory.specs.ListPlaces.{ListPlace, Tunnel, Along, behind_of, next_of, sids_from}
use Rattle.list_pack.specs.declared.types.Leg.{Leg}
use Rattle.list_pack.specs.PathsTerms.{hops_of}
use Rattle.list_pack.specs.SidLists.{list_sid}
use Rattle.leg_table.specs.NestLegsTerms.{PlaceKeeps}
use Rattle.leg_table.specs.OneLegLaws.{HandsBy, HandsOver, LegKind, LegLaws, OnWay, after_leg, prefix_in}
use Rattle.leg_table.specs.WalkTrace.{Handed}
use Rattle.leg_table.proofs.ListPlaces.{active_is, next_none, next_some}
use Rattle.leg_table.proofs.OwnPlaces.{next_keeps}
use Rattle.leg_table.proofs.StrictPaths.{marks_with, path_marks, with_hops_some}
use Rattle.list_judge_theory.specs.ListCourses.{is_early}
use Rattle.list_judge_theory.proofs.LastPlaces.{InTail, last_tail, next_tail, tail_last}
use Rattle.list_judge_theory.proofs.CoursePaths.{EndWell, may_early, may_last, may_parts}

-- laws of a finish whose SID isn't the last of a list: up from it and over it where the SID takes early in the last container, and that it
-- does where it hands over
pub record EarlyLaws (k : LegKind) (Longest : Option ℕ → Packet → (ℕ → ℕ) → ℕ → Type 0) (t : Tunnel) : Type 0 where
  pub up : (x : ListPlace) (position : ℕ) (via : Option ℕ) (next lowered : ℕ) (hop : ℕ) (p : Packet) (pick : ℕ → ℕ) (taken : ℕ)
      → k.legs.finish position via next ≡ Some lowered → OnWay k t x hop p next → behind_of x ≡ [] → is_early k.net next ≡ true
      → lowered < hop → HandsBy k t position via p (next ∷ []) (k.mark next k.legs.steps) pick taken
  pub over : (x : ListPlace) (position : ℕ) (via : Option ℕ) (next lowered : ℕ) (hop : ℕ) (p : Packet) (pick : ℕ → ℕ) (taken : ℕ)
      (h : Handed)
      → k.legs.finish position via next ≡ Some lowered → OnWay k t x hop p next → behind_of x ≡ [] → is_early k.net next ≡ true
      → HandsOver k via p pick taken h → (h.sids ≡ next ∷ []) × (Longest via p pick taken → 0 < hop → lowered < hop)
  pub shown : (x : ListPlace) (position : ℕ) (via : Option ℕ) (next lowered : ℕ) (hop : ℕ) (p : Packet) (pick : ℕ → ℕ) (taken : ℕ)
      (h : Handed)
      → k.legs.finish position via next ≡ Some lowered → OnWay k t x hop p next → HandsOver k via p pick taken h → h.sids ≡ next ∷ []
      → (behind_of x ≡ []) × ((y : ListPlace) → next_of x ≡ Some y → is_early k.net next ≡ true)

heads : {X : Type 0} (a b : X) (xs ys : List X) → Path (List X) (a ∷ xs) (b ∷ ys) → (a ≡ b) × (xs ≡ ys)
heads a b xs ys e = (cc, cc)

module _ (k : LegKind) (Longest : Option ℕ → Packet → (ℕ → ℕ) → ℕ → Type 0) (t : Tunnel) (one : LegLaws k Longest t)
    (early : EarlyLaws k Longest t) (tail : ℕ) where
  -- SIDs along a place's list: the SIDs there, and the first prefixes of them
  pub record Stands (x : ListPlace) (hop : ℕ) (p : Packet) (ps : List PrefixValue) (ns : List ℕ) : Type 0 where
    pub along : Along t x hop p
    pub keeps : PlaceKeeps k.net x
    pub sids : sids_from x ≡ map (list_sid k.net) ps
    pub names : map (prefix_in k) ns ≡ take (length ns) ps
    pub last : InTail tail x

  count_is : (x : ListPlace) (hop : ℕ) (p : Packet) (ps : List PrefixValue) (ns : List ℕ) → Stands x hop p ps ns
      → length (sids_from x) ≡ length ps
  count_is x hop p ps ns is = ap length is.sids ∙ length-map ps (list_sid k.net)

  on_way : (x : ListPlace) (hop : ℕ) (p : Packet) (ps : List PrefixValue) (next : ℕ) (more : List ℕ) → Stands x hop p ps (next ∷ more)
      → OnWay k t x hop p next
  on_way x hop p [] next more is = let no = is.names in absurd (cc)
  on_way x hop p (q ∷ qs) next more is =
      let same = (heads (prefix_in k next) q _ _ is.names).0 in
      record {
        along = is.along;
        keeps = is.keeps;
        to = active_is x (list_sid k.net q) (map (list_sid k.net) qs) is.sids ∙ ap (list_sid k.net) (sym same);
      }

  -- with the list's next place
  pub record Onwards (x : ListPlace) (m : ℕ) (more : List ℕ) (qs : List PrefixValue) : Type 0 where
    pub next : ListPlace
    pub is_next : next_of x ≡ Some next
    pub behind : (hop : ℕ) (p : Packet) → Along t next hop p → Stands next hop p qs (m ∷ more)

  onwards : (x : ListPlace) (hop : ℕ) (p : Packet) (q : PrefixValue) (qs : List PrefixValue) (next m : ℕ) (more : List ℕ)
      → Stands x hop p (q ∷ qs) (next ∷ m ∷ more) → Onwards x m more qs
  onwards x hop p q [] next m more is = let no = (heads (prefix_in k next) q _ _ is.names).1 in absurd (cc)
  onwards x hop p q (r ∷ rs) next m more is =
      let further = next_some x (list_sid k.net q) (list_sid k.net r) (map (list_sid k.net) rs) is.sids in
      record {
        next = further.0;
        is_next = further.1;
        behind = λ hop p along.
            record {
              along = along;
              keeps = next_keeps k.net x further.0 is.keeps further.1;
              sids = further.2;
              names = (heads (prefix_in k next) q _ _ is.names).1;
              last = next_tail tail x further.0 is.last further.1;
            };
      }

  -- ---- up

  -- the last SID of a path
  end_up : (x : ListPlace) (hop : ℕ) (p : Packet) (ps : List PrefixValue) (next position : ℕ) (via : Option ℕ) (need : ℕ) (pick : ℕ → ℕ)
      (taken : ℕ)
      → Stands x hop p ps (next ∷ []) → EndWell k.net tail ps next [] → k.legs.finish position via next ≡ Some need → need < hop
      → HandsBy k t position via p (next ∷ []) (k.mark next k.legs.steps) pick taken
  end_up x hop p [] next position via need pick taken is well finish high = let no = is.names in absurd (cc)
  end_up x hop p (q ∷ []) next position via need pick taken is well finish high =
      one.finish_up x position via next need hop p pick taken finish (on_way x hop p (q ∷ []) next [] is)
      (next_none x (list_sid k.net q) is.sids) high
  end_up x hop p (q ∷ r ∷ rs) next position via need pick taken is well finish high =
      let count = count_is x hop p (q ∷ r ∷ rs) (next ∷ []) is in
      elim (may_parts k.net tail next (length (q ∷ r ∷ rs)) well) [
        | inl alone ↦ absurd (omega (arith, alone))
        | inr may ↦
            let few = may.0 in
            early.up x position via next need hop p pick taken finish (on_way x hop p (q ∷ r ∷ rs) next [] is)
            (tail_last tail x is.last (omega (arith, count)) (omega (arith, count, few))) may.1 high
      ]

  pub ends_hands : (more : List ℕ) (next position : ℕ) (via : Option ℕ) (x : ListPlace) (hop : ℕ) (p : Packet) (ps : List PrefixValue)
      (need : ℕ) (pick : ℕ → ℕ) (taken : ℕ)
      → Stands x hop p ps (next ∷ more) → EndWell k.net tail ps next more → hops_of k.legs position via (next ∷ more) ≡ Some need
      → need < hop → HandsBy k t position via p (next ∷ more) (path_marks k more next position via) pick taken
  ends_hands [] next position via x hop p ps need pick taken stands well is high =
      end_up x hop p ps next position via need pick taken stands well is high
  ends_hands (m ∷ more) next position via x hop p [] need pick taken stands well is high = absurd well
  ends_hands (m ∷ more) next position via x hop p (q ∷ qs) need pick taken stands well is high =
      let got = with_hops_some (k.legs.leg position via next) (λ to. hops_of k.legs to (Some next) (m ∷ more)) need is in
      let further = onwards x hop p q qs next m more stands in
      let a = one.leg_up x further.next position via next got.0 hop p pick taken got.1
      (on_way x hop p (q ∷ qs) next (m ∷ more) stands) further.is_next (omega (arith, got.4, high)) in
      let rest = ends_hands more m got.0.to (Some next) further.next (hop - a.lowered) a.packet qs got.2 pick a.chosen
      (further.behind (hop - a.lowered) a.packet a.along) well got.3 (omega (arith, got.4, high, a.few)) in
      record {
        handed = after_leg a.events next rest.handed;
        over = (a.count + rest.over.0, a.passes rest.over.0 rest.handed rest.over.1);
        meets =
            a.leads rest.handed.trace ∙ ap (option_map (λ (marks : List ℕ). k.mark next got.0.to ++ marks)) rest.meets
            ∙ ap (λ (o : Option Leg). Some (marks_with (k.mark next) o (λ to. path_marks k more m to (Some next)))) (sym got.1);
        sids = ap (λ (ms : List ℕ). next ∷ ms) rest.sids;
        allowed = All-cons (λ (n : ℕ). k.barred n ≡ false) next rest.handed.sids a.allowed rest.allowed;
        content = rest.content;
      }

  -- ---- over

  abbrev pub IsOver : List ℕ → ℕ → ℕ → Option ℕ → Packet → (ℕ → ℕ) → ℕ → Handed → Type 0
  IsOver ns need hop via p pick taken h = (h.sids ≡ ns) × (Longest via p pick taken → 0 < hop → need < hop)

  end_over : (x : ListPlace) (hop : ℕ) (p : Packet) (ps : List PrefixValue) (next position : ℕ) (via : Option ℕ) (need : ℕ) (pick : ℕ → ℕ)
      (taken : ℕ) (h : Handed)
      → Stands x hop p ps (next ∷ []) → EndWell k.net tail ps next [] → k.legs.finish position via next ≡ Some need
      → HandsOver k via p pick taken h → IsOver (next ∷ []) need hop via p pick taken h
  end_over x hop p [] next position via need pick taken h is well finish over = let no = is.names in absurd (cc)
  end_over x hop p (q ∷ []) next position via need pick taken h is well finish over =
      one.finish_over x position via next need hop p pick taken h finish (on_way x hop p (q ∷ []) next [] is)
      (next_none x (list_sid k.net q) is.sids) over
  end_over x hop p (q ∷ r ∷ rs) next position via need pick taken h is well finish over =
      let count = count_is x hop p (q ∷ r ∷ rs) (next ∷ []) is in
      elim (may_parts k.net tail next (length (q ∷ r ∷ rs)) well) [
        | inl alone ↦ absurd (omega (arith, alone))
        | inr may ↦
            let few = may.0 in
            early.over x position via next need hop p pick taken h finish (on_way x hop p (q ∷ r ∷ rs) next [] is)
            (tail_last tail x is.last (omega (arith, count)) (omega (arith, count, few))) may.1 over
      ]

  pub ends_over : (more : List ℕ) (next position : ℕ) (via : Option ℕ) (x : ListPlace) (hop : ℕ) (p : Packet) (ps : List PrefixValue)
      (need : ℕ) (pick : ℕ → ℕ) (taken : ℕ) (h : Handed)
      → Stands x hop p ps (next ∷ more) → EndWell k.net tail ps next more → hops_of k.legs position via (next ∷ more) ≡ Some need
      → HandsOver k via p pick taken h → IsOver (next ∷ more) need hop via p pick taken h
  ends_over [] next position via x hop p ps need pick taken h stands well is over =
      end_over x hop p ps next position via need pick taken h stands well is over
  ends_over (m ∷ more) next position via x hop p [] need pick taken h stands well is over = absurd well
  ends_over (m ∷ more) next position via x hop p (q ∷ qs) need pick taken h stands well is over =
      let got = with_hops_some (k.legs.leg position via next) (λ to. hops_of k.legs to (Some next) (m ∷ more)) need is in
      let further = onwards x hop p q qs next m more stands in
      let a = one.leg_over x further.next position via next got.0 hop p pick taken h got.1
      (on_way x hop p (q ∷ qs) next (m ∷ more) stands) further.is_next over in
      let rest = ends_over more m got.0.to (Some next) further.next (hop - a.lowered) a.packet qs got.2 pick a.chosen a.handed
      (further.behind (hop - a.lowered) a.packet a.along) well got.3 a.over in (
        a.sids ∙ ap (λ (ms : List ℕ). next ∷ ms) rest.0,
        λ longest positive.
            let far = a.longest longest in
            let lowered = far.0 in
            let above = a.high in
            let below = rest.1 far.1 (omega (arith, above)) in
            omega (arith, got.4, lowered, above, below),
      )

  -- ---- the SIDs of what is handed over end where a list may

  end_shown : (x : ListPlace) (hop : ℕ) (p : Packet) (ps : List PrefixValue) (next position : ℕ) (via : Option ℕ) (need : ℕ)
      (pick : ℕ → ℕ) (taken : ℕ) (h : Handed)
      → (tail ≡ 0 → ⊥) → Stands x hop p ps (next ∷ []) → k.legs.finish position via next ≡ Some need → HandsOver k via p pick taken h
      → h.sids ≡ next ∷ [] → EndWell k.net tail ps next []
  end_shown x hop p [] next position via need pick taken h some is finish over sids = let no = is.names in absurd (cc)
  end_shown x hop p (q ∷ []) next position via need pick taken h some is finish over sids = may_last k.net tail next 1 refl
  end_shown x hop p (q ∷ r ∷ rs) next position via need pick taken h some is finish over sids =
      let got = early.shown x position via next need hop p pick taken h finish (on_way x hop p (q ∷ r ∷ rs) next [] is) over sids in
      let further = next_some x (list_sid k.net q) (list_sid k.net r) (map (list_sid k.net) rs) is.sids in
      let few = last_tail tail x some is.last got.0 in
      let count = count_is x hop p (q ∷ r ∷ rs) (next ∷ []) is in
      may_early k.net tail next (length (q ∷ r ∷ rs)) (omega (arith, few, count)) (got.1 further.0 further.1)

  pub ends_shown : (more : List ℕ) (next position : ℕ) (via : Option ℕ) (x : ListPlace) (hop : ℕ) (p : Packet) (ps : List PrefixValue)
      (need : ℕ) (pick : ℕ → ℕ) (taken : ℕ) (h : Handed)
      → (tail ≡ 0 → ⊥) → Stands x hop p ps (next ∷ more) → hops_of k.legs position via (next ∷ more) ≡ Some need
      → HandsOver k via p pick taken h → h.sids ≡ next ∷ more → EndWell k.net tail ps next more
  ends_shown [] next position via x hop p ps need pick taken h some stands is over sids =
      end_shown x hop p ps next position via need pick taken h some stands is over sids
  ends_shown (m ∷ more) next position via x hop p [] need pick taken h some stands is over sids = let no = stands.names in absurd (cc)
  ends_shown (m ∷ more) next position via x hop p (q ∷ qs) need pick taken h some stands is over sids =
      let got = with_hops_some (k.legs.leg position via next) (λ to. hops_of k.legs to (Some next) (m ∷ more)) need is in
      let further = onwards x hop p q qs next m more stands in
      let a = one.leg_over x further.next position via next got.0 hop p pick taken h got.1
      (on_way x hop p (q ∷ qs) next (m ∷ more) stands) further.is_next over in
      ends_shown more m got.0.to (Some next) further.next (hop - a.lowered) a.packet qs got.2 pick a.chosen a.handed some
      (further.behind (hop - a.lowered) a.packet a.along) got.3 a.over (heads next next a.handed.sids (m ∷ more) (sym a.sids ∙ sids)).1
