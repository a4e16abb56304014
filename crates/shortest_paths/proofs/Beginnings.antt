-- The next hops of a node are the links with which its least walks begin.
use Rattle.std.proofs.Common.{◌≡◌, ℕ, ◌+◌, ◌≤◌, ◌↔◌, List, ◌∷◌, Option, Some, None, Contains, refl, ◌∙◌, ap, subst, arith}
use Rattle.shortest_paths.specs.declared.links.Link.{Link}
use Rattle.shortest_paths.specs.Walks.{IsDistance, at, AreDistances}
use Rattle.shortest_paths.specs.LeastWalks.{IsWalk, cost, BeginsLeast}
use Rattle.shortest_paths.specs.NextHops.{LeadsOn}

module _ (links : List Link) (distances : List (Option ℕ)) (targets : List ℕ) (are : AreDistances links targets distances) where
  pub distance_at : (node d : ℕ) → at distances node ≡ Some d → IsDistance links targets node (Some d)
  distance_at node d e = subst (λ (o : Option ℕ). IsDistance links targets node o) e (are.each node)

  -- from where a walk leads there is a least one
  pub reached : (node : ℕ) (walk : List Link) → IsWalk links targets node walk → (d : ℕ) × (at distances node ≡ Some d) × (d ≤ cost walk)
  reached node walk is = by_entry (at distances node) refl
    where
      by_entry : (o : Option ℕ) → at distances node ≡ o → (d : ℕ) × (at distances node ≡ Some d) × (d ≤ cost walk)
      by_entry None e = absurd (subst (λ (o : Option ℕ). IsDistance links targets node o) e (are.each node) walk is)
      by_entry (Some d) e = (d, e, (distance_at node d e).1 walk is)

  module _ (node : ℕ) (link : Link) where
    pub begins : Contains links link → LeadsOn distances node link → BeginsLeast links targets node link
    begins among leads =
        let there = distance_at leads.far leads.rest leads.there in
        let costs : cost there.0.0 ≡ leads.rest = there.0.2 in
        record {
          rest = there.0.0;
          is = (among, leads.from, leads.far, leads.to, there.0.1);
          least = λ other is.
              let low : link.metric + leads.rest ≤ cost other
              = (distance_at node (link.metric + leads.rest) leads.here).1 other is in
              omega (arith, low, costs);
        }

    pub leads : BeginsLeast links targets node link → LeadsOn distances node link
    leads begin =
        let end : ℕ = begin.is.2 in
        let far = reached end begin.rest begin.is.4 in
        let near = reached node (link ∷ begin.rest) begin.is in
        let there = distance_at end far.0 far.1 in
        let here = distance_at node near.0 near.1 in
        let costs : cost there.0.0 ≡ far.0 = there.0.2 in
        let whole : cost here.0.0 ≡ near.0 = here.0.2 in
        let up : near.0 ≤ link.metric + cost there.0.0
        = here.1 (link ∷ there.0.0) (begin.is.0, begin.is.1, end, begin.is.3, there.0.1) in
        let down : link.metric + cost begin.rest ≤ cost here.0.0 = begin.least here.0.0 here.0.1 in
        let low : far.0 ≤ cost begin.rest = far.2 in
        let sum : near.0 ≡ link.metric + far.0 = omega (arith, costs, whole, up, down, low) in
        record {
          from = begin.is.1;
          far = end;
          to = begin.is.3;
          rest = far.0;
          there = far.1;
          here = near.1 ∙ ap (λ (n : ℕ). Some n) sum;
        }

    pub leads_begins : Contains links link → LeadsOn distances node link ↔ BeginsLeast links targets node link
    leads_begins among = (begins among, leads)
