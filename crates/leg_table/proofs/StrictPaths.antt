-- Paths of legs and a finish, by the laws of one leg and one finish.
use Rattle.std.proofs.Common.{◌≡◌, ℕ, ◌+◌, ◌-◌, ◌<◌, ◌≤◌, arith, false, List, [], ◌∷◌, ◌++◌, length, take, map, All, Option, Some, None, refl, sym, ◌∙◌, ap, subst}
use Rattle.std.specs.Option.{option_map}
use Rattle.std.proofs.lemmas.List.Elements.{All-cons, All-head, All-tail}
use Rattle.v6_addr.specs.Address.{PrefixValue}
use Rattle.srv6_rules.specs.Packet.{Packet}
use Rattle.sid_list_theory.specs.ListPlaces.{ListPlace, Tunnel, Along, behind_of, next_of, sids_from}
use Rattle.list_pack.specs.declared.types.Leg.{Leg}
use Rattle.list_pack.specs.PathsTerms.{with_hops, hops_of}
use Rattle.list_pack.specs.SidLists.{IsSidPrefix, list_sid}
use Rattle.list_pack.specs.LegsValueTerms.{KeepsLaws, IsVia}
use Rattle.leg_table.specs.NestLegsTerms.{PlaceKeeps}
use Rattle.leg_table.specs.OneLegLaws.{LegKind, HandsOver, AlwaysHands, OnWay, HandsBy, LegLaws, BecomesOf, Ended, Moved, after_leg, prefix_in}
use Rattle.leg_table.specs.WalkTrace.{Handed}
use Rattle.leg_table.proofs.ListPlaces.{active_is, next_none, next_some, before_from, before_last_law, before_next}
use Rattle.leg_table.proofs.StrictOptions.{map_some, some_same}
use Rattle.leg_table.proofs.OwnPlaces.{next_keeps}

pub with_hops_some : (o : Option Leg) (later : ℕ → Option ℕ) (need : ℕ) → with_hops o later ≡ Some need
    → (leg : Leg) × (o ≡ Some leg) × (k : ℕ) × (later leg.to ≡ Some k) × (leg.hops + k ≡ need)
with_hops_some None later need h = absurd (cc)
with_hops_some (Some leg) later need h =
    let got = map_some (λ (n : ℕ). leg.hops + n) (later leg.to) need h in
    (leg, refl, got.0, got.1, got.2)

-- the marks of a path
abbrev pub marks_with : (ℕ → List ℕ) → Option Leg → (ℕ → List ℕ) → List ℕ
marks_with mark None later = []
marks_with mark (Some leg) later = mark leg.to ++ later leg.to

abbrev pub path_marks : LegKind → List ℕ → ℕ → ℕ → Option ℕ → List ℕ
path_marks k [] next position via = k.mark next k.legs.steps
path_marks k (m ∷ more) next position via =
    marks_with (k.mark next) (k.legs.leg position via next) (λ to. path_marks k more m to (Some next))

module _ (k : LegKind) (Longest : Option ℕ → Packet → (ℕ → ℕ) → ℕ → Type 0) (t : Tunnel) (one : LegLaws k Longest t) where
  -- the SIDs from a place on have these numbers
  abbrev pub Names : ListPlace → List ℕ → Type 0
  Names x ns = sids_from x ≡ map (list_sid k.net) (map (prefix_in k) ns)

  on_way : (x : ListPlace) (hop : ℕ) (p : Packet) (next : ℕ) (more : List ℕ) → Along t x hop p → PlaceKeeps k.net x
      → Names x (next ∷ more) → OnWay k t x hop p next
  on_way x hop p next more along nests names = record { along = along; keeps = nests; to = active_is x _ _ names }

  -- ---- up

  -- a path hands over above its need
  pub path_hands : (more : List ℕ) (next position : ℕ) (via : Option ℕ) (x : ListPlace) (hop : ℕ) (p : Packet) (need : ℕ) (pick : ℕ → ℕ)
      (taken : ℕ)
      → Along t x hop p → PlaceKeeps k.net x → Names x (next ∷ more) → hops_of k.legs position via (next ∷ more) ≡ Some need → need < hop
      → HandsBy k t position via p (next ∷ more) (path_marks k more next position via) pick taken
  path_hands [] next position via x hop p need pick taken along nests names is high =
      one.finish_up x position via next need hop p pick taken is (on_way x hop p next [] along nests names) (next_none x _ names) high
  path_hands (m ∷ more) next position via x hop p need pick taken along nests names is high =
      let got = with_hops_some (k.legs.leg position via next) (λ to. hops_of k.legs to (Some next) (m ∷ more)) need is in
      let further = next_some x _ _ _ names in
      let a = one.leg_up x further.0 position via next got.0 hop p pick taken got.1 (on_way x hop p next (m ∷ more) along nests names)
      further.1
      (omega (arith, got.4, high)) in
      let rest = path_hands more m got.0.to (Some next) further.0 (hop - a.lowered) a.packet got.2 pick a.chosen a.along
      (next_keeps k.net x further.0 nests further.1) further.2 got.3
      (omega (arith, got.4, high, a.few)) in
      record {
        handed = after_leg a.events next rest.handed;
        over = (a.count + rest.over.0, a.passes rest.over.0 rest.handed rest.over.1);
        meets =
            a.leads rest.handed.trace ∙ ap (option_map (λ (marks : List ℕ). k.mark next got.0.to ++ marks)) rest.meets
            ∙ ap (λ (o : Option Leg). Some (marks_with (k.mark next) o (λ to. path_marks k more m to (Some next)))) (sym got.1);
        sids = ap (λ (ms : List ℕ). next ∷ ms) rest.sids;
        allowed = All-cons (λ (n : ℕ). k.barred n ≡ false) next rest.handed.sids a.allowed rest.allowed;
        content = rest.content;
      }

  -- ---- over

  -- what is handed over along a path was executed by its SIDs, and on a longest way the hop limit was above the need
  abbrev pub IsOver : List ℕ → ℕ → ℕ → Option ℕ → Packet → (ℕ → ℕ) → ℕ → Handed → Type 0
  IsOver ns need hop via p pick taken h = (h.sids ≡ ns) × (Longest via p pick taken → 0 < hop → need < hop)

  pub path_over : (more : List ℕ) (next position : ℕ) (via : Option ℕ) (x : ListPlace) (hop : ℕ) (p : Packet) (need : ℕ) (pick : ℕ → ℕ)
      (taken : ℕ) (h : Handed)
      → Along t x hop p → PlaceKeeps k.net x → Names x (next ∷ more) → hops_of k.legs position via (next ∷ more) ≡ Some need
      → HandsOver k via p pick taken h
      → IsOver (next ∷ more) need hop via p pick taken h
  path_over [] next position via x hop p need pick taken h along nests names is over =
      one.finish_over x position via next need hop p pick taken h is (on_way x hop p next [] along nests names) (next_none x _ names) over
  path_over (m ∷ more) next position via x hop p need pick taken h along nests names is over =
      let got = with_hops_some (k.legs.leg position via next) (λ to. hops_of k.legs to (Some next) (m ∷ more)) need is in
      let further = next_some x _ _ _ names in
      let a = one.leg_over x further.0 position via next got.0 hop p pick taken h got.1 (on_way x hop p next (m ∷ more) along nests names)
      further.1 over in
      let rest = path_over more m got.0.to (Some next) further.0 (hop - a.lowered) a.packet got.2 pick a.chosen a.handed a.along
      (next_keeps k.net x further.0 nests further.1) further.2 got.3 a.over in (
        a.sids ∙ ap (λ (ms : List ℕ). next ∷ ms) rest.0,
        λ longest positive.
            let far = a.longest longest in
            let lowered = far.0 in
            let above = a.high in
            let below = rest.1 far.1 (omega (arith, above)) in
            omega (arith, got.4, lowered, above, below),
      )

  -- ---- down

  -- a path along the first SIDs of a place's list, up to one in the last container, and the SIDs that are executed on a longest way
  pub record PathFrom (position : ℕ) (via : Option ℕ) (x : ListPlace) (ps : List PrefixValue) (hop : ℕ) (p : Packet) : Type 0 where
    pub first : ℕ
    pub more : List ℕ
    pub need : ℕ
    pub names : map (prefix_in k) (first ∷ more) ≡ take (length (first ∷ more)) ps
    pub few : length (first ∷ more) ≤ length ps
    pub last : before_from x < length (first ∷ more)
    pub is_path : hops_of k.legs position via (first ∷ more) ≡ Some need
    pub below : need < hop
    pub executes : (pick : ℕ → ℕ) (taken : ℕ) (h : Handed) → Longest via p pick taken → HandsOver k via p pick taken h
        → h.sids ≡ first ∷ more

  module _ (laws : KeepsLaws k.legs) where
    ended : (position : ℕ) (via : Option ℕ) (x : ListPlace) (q : PrefixValue) (qs : List PrefixValue) (hop : ℕ) (p : Packet) (n lowered : ℕ)
        → k.legs.finish position via n ≡ Some lowered → prefix_in k n ≡ q → lowered < hop → behind_of x ≡ []
        → ((pick : ℕ → ℕ) (taken : ℕ) (h : Handed) → HandsOver k via p pick taken h → h.sids ≡ n ∷ [])
        → PathFrom position via x (q ∷ qs) hop p
    ended position via x q qs hop p n lowered is prefix low last sids =
        record {
          first = n;
          more = [];
          need = lowered;
          names = ap (λ (a : PrefixValue). a ∷ []) prefix;
          few = omega arith;
          last = let e = before_last_law x last in omega (arith, e);
          is_path = is;
          below = low;
          executes = λ pick taken h longest over. sids pick taken h over;
        }

    moved : (position : ℕ) (via : Option ℕ) (x y : ListPlace) (q : PrefixValue) (qs : List PrefixValue) (hop : ℕ) (p r : Packet) (n : ℕ)
        (leg : Leg)
        → k.legs.leg position via n ≡ Some leg → prefix_in k n ≡ q → leg.hops < hop → next_of x ≡ Some y
        → ((pick : ℕ → ℕ) (taken : ℕ) (h : Handed) → Longest via p pick taken → HandsOver k via p pick taken h
        → (chosen : ℕ) × (g : Handed) × Longest (Some n) r pick chosen × HandsOver k (Some n) r pick chosen g × (h.sids ≡ n ∷ g.sids))
        → PathFrom leg.to (Some n) y qs (hop - leg.hops) r → PathFrom position via x (q ∷ qs) hop p
    moved position via x y q qs hop p r n leg is prefix high next rows tail =
        record {
          first = n;
          more = tail.first ∷ tail.more;
          need = leg.hops + tail.need;
          names =
              ap (λ (a : PrefixValue). a ∷ map (prefix_in k) (tail.first ∷ tail.more)) prefix
              ∙ ap (λ (xs : List PrefixValue). q ∷ xs) tail.names;
          few = let few = tail.few in omega (arith, few);
          last = let less = before_next x y next in let last = tail.last in omega (arith, less, last);
          is_path =
              ap (λ (o : Option Leg). with_hops o (λ to. hops_of k.legs to (Some n) (tail.first ∷ tail.more))) is
              ∙ ap (option_map (λ (m : ℕ). leg.hops + m)) tail.is_path;
          below = let below = tail.below in omega (arith, high, below);
          executes = λ pick taken h longest over.
              let rest = rows pick taken h longest over in
              rest.4 ∙ ap (λ (ms : List ℕ). n ∷ ms) (tail.executes pick rest.0 rest.1 rest.2 rest.3);
        }

    -- what is handed over under every row of choices is along a path
    abbrev pub DownAt : PrefixValue → List PrefixValue → Type 0
    DownAt q qs =
        (position : ℕ) (via : Option ℕ) (x : ListPlace) (hop : ℕ) (p : Packet)
        → position ≤ k.legs.steps → IsVia k.legs position via → sids_from x ≡ map (list_sid k.net) (q ∷ qs)
        → All (IsSidPrefix k.net) (q ∷ qs) → Along t x hop p → PlaceKeeps k.net x → 0 < hop → AlwaysHands k via p position
        → PathFrom position via x (q ∷ qs) hop p

    -- so it is of what follows the first prefix
    abbrev Further : List PrefixValue → Type 0
    Further [] = Unit {0}
    Further (a ∷ more) = DownAt a more

    by_end : (qs : List PrefixValue) (q : PrefixValue) (position : ℕ) (via : Option ℕ) (x : ListPlace) (hop : ℕ) (p : Packet)
        → BecomesOf k Longest t x q position via hop p → PlaceKeeps k.net x → sids_from x ≡ map (list_sid k.net) (q ∷ qs)
        → All (IsSidPrefix k.net) (q ∷ qs) → Further qs → PathFrom position via x (q ∷ qs) hop p
    by_end qs q position via x hop p (Ended n lowered is prefix low last sids) nests all named further =
        ended position via x q qs hop p n lowered is prefix low last sids
    by_end [] q position via x hop p (Moved n leg y r is prefix high next at hands rows) nests all named further =
        let none : Some y ≡ None = sym next ∙ next_none x _ all in absurd (cc)
    by_end (a ∷ more) q position via x hop p (Moved n leg y r is prefix high next at hands rows) nests all named further =
        let rest = next_some x _ _ _ all in
        let same : rest.0 ≡ y = some_same rest.0 y (sym rest.1 ∙ next) in
        let law = laws.leg position via n leg is in
        moved position via x y q (a ∷ more) hop p r n leg is prefix high next rows
        (further leg.to (Some n) y (hop - leg.hops) r law.within (law.is_next, law.middle)
        (subst (λ (z : ListPlace). sids_from z ≡ map (list_sid k.net) (a ∷ more)) same rest.2)
        (All-tail (IsSidPrefix k.net) q (a ∷ more) named) at (next_keeps k.net x y nests next) (omega (arith, high)) hands)

    first_end : (qs : List PrefixValue) (q : PrefixValue) → Further qs → DownAt q qs
    first_end qs q further position via x hop p within from sids named along nests positive hands =
        by_end qs q position via x hop p
        (one.down x q position via hop p within from along nests (active_is x _ _ sids) (All-head (IsSidPrefix k.net) q qs named) positive
        hands)
        nests sids named further

    pub path_down : (qs : List PrefixValue) (q : PrefixValue) → DownAt q qs
    path_down [] q = first_end [] q tt
    path_down (a ∷ more) q = first_end (a ∷ more) q (path_down more a)
