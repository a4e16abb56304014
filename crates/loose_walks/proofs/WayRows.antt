-- The ways from all nodes to a destination, as they are collected.
use Rattle.std.proofs.Common.{◌≡◌, ℕ, ◌+◌, List, [], ◌∷◌, ◌++◌, length, Some, slice_get}
use Rattle.net_model.specs.Network.{Network}
use Rattle.walk_rules.specs.Way.{way_of}
use Rattle.walk_rules.specs.WayTerms.{way_in}
use Rattle.walk_rules.specs.declared.way.Way as found
use Rattle.choice_graph.proofs.GraphLists.{each_more}
use Rattle.loose_walks.specs.WayGraphs.{arrived}

-- those of the first nodes
pub record AreWaysBelow (net : Network) (destination count : ℕ) (ways : List found.Way) : Type 0 where
  pub long : length ways ≡ count
  pub each : (node : ℕ) (way : found.Way) → slice_get ways node ≡ Some way → way_in way ≡ way_of net (arrived node) destination

module _ (net : Network) (destination : ℕ) where
  pub way_more : (count : ℕ) (ways more : List found.Way) (way : found.Way) → AreWaysBelow net destination count ways
      → way_in way ≡ way_of net (arrived count) destination → more ≡ ways ++ way ∷ [] → AreWaysBelow net destination (count + 1) more
  way_more count ways more way below is e =
      let m =
      each_more (λ (node : ℕ) (w : found.Way). way_in w ≡ way_of net (arrived node) destination) count ways more way below.long below.each
      is
      e in
      record { long = m.0; each = m.1 }
