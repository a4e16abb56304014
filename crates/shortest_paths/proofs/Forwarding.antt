-- From hop to hop: the distance falls, and a way that can't go on is at a target.
use Rattle.std.proofs.Common.{◌≡◌, ℕ, ◌+◌, ◌≤◌, ◌⊎◌, inl, inr, List, [], ◌∷◌, length, Option, Some, None, Contains, refl, sym, ◌∙◌, ap, subst, arith}
use Rattle.std.proofs.lemmas.List.Elements.{All-contains}
use Rattle.shortest_paths.specs.declared.links.Link.{Link}
use Rattle.shortest_paths.specs.Walks.{IsLink, IsNetwork, IsDistance, at, AreDistances}
use Rattle.shortest_paths.specs.LeastWalks.{IsWalk, cost}
use Rattle.shortest_paths.specs.NextHops.{LeadsOn, Forwards}
use Rattle.shortest_paths.proofs.Lists.{some_same}

module _ (nodes : ℕ) (links : List Link) (distances : List (Option ℕ)) (network : IsNetwork nodes links) where
  pub falls : (way : List Link) (node last d : ℕ) → at distances node ≡ Some d → Forwards links distances node way last
      → (rest : ℕ) × (at distances last ≡ Some rest) × (cost way + rest ≡ d) × (length way + rest ≤ d)
  falls [] node last d here same = (d, ap (at distances) (sym same) ∙ here, omega arith, omega arith)
  falls (link ∷ way) node last d here goes =
      let leads : LeadsOn distances node link = goes.1 in
      let more = falls way leads.far last leads.rest leads.there goes.2 in
      let sum : d ≡ link.metric + leads.rest = some_same d (link.metric + leads.rest) (sym here ∙ leads.here) in
      let positive : 1 ≤ link.metric = (All-contains (IsLink nodes) links link network.each goes.0).positive in
      let costs : cost way + more.0 ≡ leads.rest = more.2 in
      let few : length way + more.0 ≤ leads.rest = more.3 in
      (more.0, more.1, omega (arith, sum, costs), omega (arith, sum, few, positive))

  pub no_loop : (node : ℕ) (link : Link) (way : List Link) → ¬ Forwards links distances node (link ∷ way) node
  no_loop node link way goes =
      let leads : LeadsOn distances node link = goes.1 in
      let r = falls (link ∷ way) node node (link.metric + leads.rest) leads.here goes in
      let same : r.0 ≡ link.metric + leads.rest = some_same r.0 (link.metric + leads.rest) (sym r.1 ∙ leads.here) in
      let few : length (link ∷ way) + r.0 ≤ link.metric + leads.rest = r.3 in
      omega (arith, same, few)

  module _ (targets : List ℕ) (are : AreDistances links targets distances) where
    distance_at : (node d : ℕ) → at distances node ≡ Some d → IsDistance links targets node (Some d)
    distance_at node d e = subst (λ (o : Option ℕ). IsDistance links targets node o) e (are.each node)

    pub none_at_target : (node : ℕ) (link : Link) → Contains links link → Contains targets node → ¬ LeadsOn distances node link
    none_at_target node link among target leads =
        let low : link.metric + leads.rest ≤ 0 = (distance_at node (link.metric + leads.rest) leads.here).1 [] target in
        let positive : 1 ≤ link.metric = (All-contains (IsLink nodes) links link network.each among).positive in
        omega (arith, low, positive)

    pub goes_on : (node d : ℕ) → at distances node ≡ Some d
        → Contains targets node ⊎ ((link : Link) × Contains links link × LeadsOn distances node link)
    goes_on node d here = let is = distance_at node d here in by_walk is.0.0 is.0.1 is.0.2
      where
        by_far_end : (link : Link) (far : ℕ) (walk : List Link) → IsWalk links targets far walk → link.metric + cost walk ≡ d
            → ((other : List Link) → IsWalk links targets far other → d ≤ link.metric + cost other)
            → (o : Option ℕ) → at distances far ≡ o
            → (rest : ℕ) × (at distances far ≡ Some rest) × (link.metric + rest ≡ d)
        by_far_end link far walk is sum behind None e =
            absurd (subst (λ (o : Option ℕ). IsDistance links targets far o) e (are.each far) walk is)
        by_far_end link far walk is sum behind (Some rest) e =
            let there = distance_at far rest e in
            let low : rest ≤ cost walk = there.1 walk is in
            let other : List Link = there.0.0 in
            let costs : cost other ≡ rest = there.0.2 in
            let least : d ≤ link.metric + cost other = behind other there.0.1 in
            (rest, e, omega (arith, low, costs, least, sum))

        by_walk : (walk : List Link) → IsWalk links targets node walk → cost walk ≡ d
            → Contains targets node ⊎ ((link : Link) × Contains links link × LeadsOn distances node link)
        by_walk [] is sum = inl is
        by_walk (link ∷ walk) is sum =
            let end = by_far_end link is.2 walk is.4 sum
            (λ other goes. (distance_at node d here).1 (link ∷ other) (is.0, is.1, is.2, is.3, goes)) (at distances is.2) refl in
            inr (
              link,
              is.0,
              record {
                from = is.1;
                far = is.2;
                to = is.3;
                rest = end.0;
                there = end.1;
                here = here ∙ ap (λ (n : ℕ). Some n) (sym end.2);
              },
            )

    pub arrives : (node d last : ℕ) (way : List Link) → at distances node ≡ Some d → Forwards links distances node way last
        → ((link : Link) → Contains links link → ¬ LeadsOn distances last link)
        → Contains targets last × (cost way ≡ d)
    arrives node d last way here goes stuck =
        let r = falls way node last d here goes in
        elim (goes_on last r.0 r.1) [
          | inl target ↦
              let low : r.0 ≤ 0 = (distance_at last r.0 r.1).1 [] target in
              let sum : cost way + r.0 ≡ d = r.2 in
              (target, omega (arith, low, sum))
          | inr on ↦ absurd (stuck on.0 on.1 on.2)
        ]
