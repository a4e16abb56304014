-- The nodes are settled one by one, the nearest first, and each then has its distance.
use Rattle.std.proofs.Common.{◌≡◌, ℕ, zero, suc, ◌+◌, ◌*◌, ◌<◌, ◌≤◌, ◌⊎◌, inl, inr, Bool, true, false, List, [], ◌∷◌, ◌++◌, length, set, Option, Some, None, Contains, refl, sym, ◌∙◌, ap, subst, arith, get_or-set_same, get_or-set_other}
use Rattle.std.specs.Prelude.{not, cond, replicate}
use Rattle.std.proofs.lemmas.Bool.{cases_eq, cases_lt, both_ways}
use Rattle.std.proofs.lemmas.List.{length-set, length-replicate, get_or_past}
use Rattle.std.proofs.lemmas.List.Elements.{All-contains, Contains-append_left, Contains-push, Contains-push_cases}
use Rattle.std.proofs.lemmas.List.Sums.{sum_by-set, count_by-le-length}
use Rattle.shortest_paths.specs.declared.links.Link.{Link}
use Rattle.shortest_paths.specs.declared.nearest.Nearest.{Nearest}
use Rattle.shortest_paths.specs.Walks.{IsLink, IsNetwork, HasWalk, IsDistance, at, AreDistances}
use Rattle.shortest_paths.specs.LeastWalks.{IsWalk, cost}
use Rattle.shortest_paths.specs.Settling.{Entries, AtMost, is_settled, open_count, IsNearest, NoneIsOpen, Relaxes, AreStarts, SettlesSoFar}
use Rattle.shortest_paths.proofs.Lists.{some_same, none_some}
use Rattle.shortest_paths.proofs.Lowering.{at_most, still}

pub at_within : (entries : Entries) (node d : ℕ) → at entries node ≡ Some d → node < length entries
at_within entries node d e = elim (cases_lt node (length entries)) [
  | inl less ↦ less
  | inr more ↦ absurd (none_some d (sym (get_or_past entries node None more) ∙ e))
]

-- ---- which nodes are settled

pub open_fewer : (settled : List Bool) (node : ℕ) → node < length settled → is_settled settled node ≡ false
    → open_count (set settled node true) + 1 ≡ open_count settled
open_fewer settled node within unset =
    let sums : open_count (set settled node true) + cond {A = ℕ} (not (is_settled settled node)) 1 0 ≡ open_count settled + 0 =
    sum_by-set (λ (b : Bool). cond {A = ℕ} (not b) 1 0) settled node true false within in
    let one : cond {A = ℕ} (not (is_settled settled node)) 1 0 ≡ 1 = ap (λ (b : Bool). cond {A = ℕ} (not b) 1 0) unset in
    one_less (open_count (set settled node true)) (cond {A = ℕ} (not (is_settled settled node)) 1 0) (open_count settled) sums one
  where
    one_less : (a b d : ℕ) → a + b ≡ d + 0 → b ≡ 1 → a + 1 ≡ d
    one_less a b d h k = omega arith

settled_cases : (settled : List Bool) (u v : ℕ) → is_settled (set settled u true) v ≡ true
    → (v ≡ u) ⊎ (is_settled settled v ≡ true)
settled_cases settled u v h = elim (cases_eq v u) [
  | inl same ↦ inl same
  | inr other ↦ inr (sym (get_or-set_other settled u v true false other) ∙ h)
]

unset_before : (settled : List Bool) (u v : ℕ) → u < length settled → is_settled (set settled u true) v ≡ false
    → is_settled settled v ≡ false
unset_before settled u v within h = elim (cases_eq v u) [
  | inl same ↦
      let now : is_settled (set settled u true) v ≡ true
      = ap (is_settled (set settled u true)) same ∙ get_or-set_same settled u true false within in
      absurd (both_ways _ h now)
  | inr other ↦ sym (get_or-set_other settled u v true false other) ∙ h
]

none_settled : (n node : ℕ) → is_settled (replicate n false) node ≡ false
none_settled zero node = refl
none_settled (suc n) zero = refl
none_settled (suc n) (suc node) = none_settled n node

-- ---- the start

pub settles_start : (links : List Link) (targets : List ℕ) (entries : Entries) (settled : List Bool) → AreStarts targets entries
    → settled ≡ replicate (length entries) false
    → SettlesSoFar links targets entries settled
settles_start links targets entries settled starts none = record {
  long = long;
  walks = λ node d e. let o = starts.only node d e in ([], o.0, sym o.1);
  starts = λ node t. record { value = 0; is = starts.here node t; low = omega arith };
  low = λ node d e.
      let o = starts.only node d e in
      let zero_is : d ≡ 0 = o.1 in
      let few : open_count settled ≤ length settled = count_by-le-length not settled in
      omega (arith, zero_is, few);
  top = 0;
  below = λ node h. absurd (both_ways _ (unset node) h);
  above = λ node d h e. omega arith;
  holds = λ link among far to h. absurd (both_ways _ (unset far) h);
}
  where
    long : length settled ≡ length entries
    long = ap length none ∙ length-replicate (length entries) false

    unset : (node : ℕ) → is_settled settled node ≡ false
    unset node = ap (λ (s : List Bool). is_settled s node) none ∙ none_settled (length entries) node

-- ---- one node more

module _ (links : List Link) (targets : List ℕ) (entries : Entries) (settled : List Bool) (near : Nearest)
    (so : SettlesSoFar links targets entries settled) (nearest : IsNearest entries settled (length entries) near) where
  pub near_within : near.node < length settled
  near_within = let e = nearest.early in let long = so.long in omega (arith, e, long)

  fewer : open_count (set settled near.node true) + 1 ≡ open_count settled
  fewer = open_fewer settled near.node near_within nearest.is_open.unsettled

  pub near_smaller : open_count (set settled near.node true) < open_count settled
  near_smaller = let f = fewer in omega (arith, f)

  -- there are few enough nodes that the sum over one link more fits
  pub near_fits : length entries ≤ 256 → 4294967295 + near.distance < 18446744073709551616
  near_fits few =
      let low : near.distance + open_count settled * 4294967295 ≤ length settled * 4294967295
      = so.low near.node near.distance nearest.is_open.has in
      let f = fewer in
      let long = so.long in
      omega (arith, low, f, long, few)

  module _ (after : Entries) (into : List Link) (relaxes : Relaxes into near.distance entries after)
      (each : (link : Link) → Contains into link → Contains links link × (link.to ≡ Some near.node))
      (all : (link : Link) → Contains links link → link.to ≡ Some near.node → Contains into link)
      (network : IsNetwork (length entries) links) where
    walks_more : (node d : ℕ) → at after node ≡ Some d → HasWalk links targets node d
    walks_more node d e = elim (relaxes.only node d e) [
      | inl was ↦ so.walks node d was
      | inr by ↦
          let link : Link = by.0 in
          let is = each link by.1 in
          let rest : HasWalk links targets near.node near.distance = so.walks near.node near.distance nearest.is_open.has in (
            link ∷ rest.0,
            (is.0, by.2, near.node, is.1, rest.1),
            ap (λ (n : ℕ). link.metric + n) rest.2 ∙ by.3,
          )
    ]

    low_more : (node d : ℕ) → at after node ≡ Some d
        → d + open_count (set settled near.node true) * 4294967295 ≤ length (set settled near.node true) * 4294967295
    low_more node d e =
        let f = fewer in
        let long = length-set settled near.node true in
        elim (relaxes.only node d e) [
          | inl was ↦ let low = so.low node d was in omega (arith, low, f, long)
          | inr by ↦
              let link : Link = by.0 in
              let metric : link.metric ≤ 4294967295 = (All-contains (IsLink (length entries)) links link network.each (each link by.1).0).low in
              let sum : link.metric + near.distance ≡ d = by.3 in
              let low = so.low near.node near.distance nearest.is_open.has in
              omega (arith, low, f, long, metric, sum)
        ]

    top_below : so.top ≤ near.distance
    top_below = so.above near.node near.distance nearest.is_open.unsettled nearest.is_open.has

    below_more : (node : ℕ) → is_settled (set settled near.node true) node ≡ true → AtMost (at after node) near.distance
    below_more node h = elim (settled_cases settled near.node node h) [
      | inl same ↦ relaxes.falls node near.distance (ap (at entries) same ∙ nearest.is_open.has)
      | inr old ↦
          at_most after node so.top near.distance top_below
          (still into near.distance entries after relaxes node so.top (so.below node old))
    ]

    above_more : (node d : ℕ) → is_settled (set settled near.node true) node ≡ false → at after node ≡ Some d → near.distance ≤ d
    above_more node d h e = elim (relaxes.only node d e) [
      | inl was ↦
          nearest.least node d (at_within entries node d was) (unset_before settled near.node node near_within h) was
      | inr by ↦ let sum : by.0.metric + near.distance ≡ d = by.3 in omega (arith, sum)
    ]

    -- how an entry can have come to its value
    abbrev Comes : ℕ → ℕ → Type 0
    Comes node d =
        (at entries node ≡ Some d)
        ⊎ ((by : Link) × Contains into by × (by.from ≡ node) × (by.metric + near.distance ≡ d))

    holds_more : (link : Link) → Contains links link → (far : ℕ) → link.to ≡ Some far
        → is_settled (set settled near.node true) far ≡ true → (d : ℕ) → at after far ≡ Some d
        → AtMost (at after link.from) (link.metric + d)
    holds_more link among far to h d e = elim (settled_cases settled near.node far h) [
      | inl same ↦
          let l : near.distance ≤ d = by_now same (relaxes.only far d e) in
          at_most after link.from (link.metric + near.distance) (link.metric + d) (omega (arith, l))
          (relaxes.takes link (all link among (to ∙ ap (λ (n : ℕ). Some n) same)))
      | inr old ↦
          let known = so.below far old in
          let l : known.value ≤ d = no_less known (relaxes.only far d e) in
          at_most after link.from (link.metric + known.value) (link.metric + d) (omega (arith, l))
          (still into near.distance entries after relaxes link.from (link.metric + known.value)
          (so.holds link among far to old known.value known.is))
    ]
      where
        by_now : far ≡ near.node → Comes far d → near.distance ≤ d
        by_now same (inl was) =
            let e : near.distance ≡ d
            = some_same near.distance d (sym nearest.is_open.has ∙ (ap (at entries) (sym same) ∙ was)) in
            omega (arith, e)
        by_now same (inr by) = let sum : by.0.metric + near.distance ≡ d = by.3 in omega (arith, sum)

        no_less : (known : AtMost (at entries far) so.top) → Comes far d → known.value ≤ d
        no_less known (inl was) =
            let e : known.value ≡ d = some_same known.value d (sym known.is ∙ was) in
            omega (arith, e)
        no_less known (inr by) =
            let sum : by.0.metric + near.distance ≡ d = by.3 in
            let low = known.low in
            let top = top_below in
            omega (arith, sum, low, top)

    pub settles_more : SettlesSoFar links targets after (set settled near.node true)
    settles_more = record {
      long = length-set settled near.node true ∙ so.long ∙ sym relaxes.long;
      walks = walks_more;
      starts = λ node t. still into near.distance entries after relaxes node 0 (so.starts node t);
      low = low_more;
      top = near.distance;
      below = below_more;
      above = above_more;
      holds = holds_more;
    }

-- ---- the end

module _ (links : List Link) (targets : List ℕ) (entries : Entries) (settled : List Bool)
    (so : SettlesSoFar links targets entries settled) (none : NoneIsOpen entries settled (length entries)) where
  -- no walk costs less than what is known
  bounds : (walk : List Link) (node : ℕ) → IsWalk links targets node walk → AtMost (at entries node) (cost walk)
  bounds [] node target = so.starts node target
  bounds (link ∷ walk) node is =
      let far : ℕ = is.2 in
      let rest = bounds walk far is.4 in
      let low : rest.value ≤ cost walk = rest.low in
      let done = none far (at_within entries far rest.value rest.is) rest.value rest.is in
      at_most entries node (link.metric + rest.value) (link.metric + cost walk) (omega (arith, low))
      (subst (λ (n : ℕ). AtMost (at entries n) (link.metric + rest.value)) is.1
      (so.holds link is.0 far is.3 done rest.value rest.is))

  distance_is : (node : ℕ) (entry : Option ℕ) → at entries node ≡ entry → IsDistance links targets node entry
  distance_is node None e = λ walk is. (let a = bounds walk node is in none_some a.value (sym e ∙ a.is))
  distance_is node (Some d) e = (
    so.walks node d e,
    λ walk is. (let a = bounds walk node is in
        let same : d ≡ a.value = some_same d a.value (sym e ∙ a.is) in
        let low : a.value ≤ cost walk = a.low in
        omega (arith, same, low)),
  )

  pub settles_all : AreDistances links targets entries
  settles_all = record { each = λ node. distance_is node (at entries node) refl }

-- ---- the entries of the targets

pub starts_more : (targets : List ℕ) (target : ℕ) (entries : Entries) → target < length entries → AreStarts targets entries
    → AreStarts (targets ++ target ∷ []) (set entries target (Some 0))
starts_more targets target entries within so = record {
  here = λ node t. elim (cases_eq node target) [
    | inl same ↦ ap (at (set entries target (Some 0))) same ∙ now
    | inr other ↦ get_or-set_other entries target node (Some 0) None other ∙ elim (Contains-push_cases targets target node t) [
      | inl old ↦ so.here node old
      | inr new ↦ absurd (other (sym new))
    ]
  ];
  only = λ node d e. elim (cases_eq node target) [
    | inl same ↦ (
      subst (λ (n : ℕ). Contains (targets ++ target ∷ []) n) (sym same) (Contains-push targets target),
      sym (some_same 0 d (sym now ∙ (ap (at (set entries target (Some 0))) (sym same) ∙ e))),
    )
    | inr other ↦
        let o = so.only node d (sym (get_or-set_other entries target node (Some 0) None other) ∙ e) in
        (Contains-append_left targets (target ∷ []) node o.0, o.1)
  ];
}
  where
    now : at (set entries target (Some 0)) target ≡ Some 0
    now = get_or-set_same entries target (Some 0) None within
