-- One turn of the loop that settles the nodes, by what its calls read and leave.
use Rattle.std.proofs.Common.{◌≡◌, ℕ, ◌+◌, ◌<◌, Bool, true, List, length, set, get_or, Vec, Global, sym, ◌∙◌, subst, arith}
use Rattle.std.specs.Prelude.{All}
use Rattle.std.proofs.lemmas.List.Elements.{All-contains}
use Rattle.shortest_paths.specs.declared.links.Link.{Link}
use Rattle.shortest_paths.specs.declared.nearest.Nearest.{Nearest}
use Rattle.shortest_paths.specs.Walks.{IsLink, IsNetwork}
use Rattle.shortest_paths.specs.Incoming.{Groups, AreIncoming}
use Rattle.shortest_paths.specs.Settling.{Entries, IsNearest, Relaxes, SettlesSoFar}
use Rattle.shortest_paths.proofs.Lowering.{contains_at}
use Rattle.shortest_paths.proofs.LinksByEnd.{each_into, all_into}
use Rattle.shortest_paths.proofs.Rounds.{near_fits, settles_more}

module _ (nodes : ℕ) (links : List Link) (targets : List ℕ) (network : IsNetwork nodes links) (groups : Groups)
    (incoming : AreIncoming links nodes groups) (entries : Entries) (settled : List Bool) (near : Nearest)
    (long : length entries ≡ nodes)
    (so : SettlesSoFar links targets entries settled) (seen : Entries) (seen_is : seen ≡ entries) (marks : List Bool)
    (marks_are : marks ≡ settled) (found : IsNearest seen marks (length seen) near) where
  nearest : IsNearest entries settled (length entries) near
  nearest =
      subst (λ (t : Entries). IsNearest t settled (length t) near) seen_is
      (subst (λ (s : List Bool). IsNearest seen s (length seen) near) marks_are found)

  pub turn_within : near.node < nodes
  turn_within = let e = nearest.early in omega (arith, e, long)

  pub turn_fits : 4294967295 + near.distance < 18446744073709551616
  turn_fits =
      let few = network.few_nodes in
      near_fits links targets entries settled near so nearest (omega (arith, few, long))

  module _ (group : Vec Link Global) (read : group ≡ get_or groups near.node group) (into : List Link) (into_is : into ≡ group.items)
      (lent : Entries) (lent_is : lent ≡ entries) where
    pub turn_links : All (IsLink (length lent)) into
    turn_links k d low =
        let link = get_or into k d in
        let is : IsLink nodes link
        = All-contains (IsLink nodes) links link network.each
        (each_into links nodes groups near.node group into incoming turn_within read into_is link (contains_at into k d low)).0 in
        let size : length lent ≡ nodes = subst (λ (t : Entries). length t ≡ nodes) (sym lent_is) long in
        subst (λ (n : ℕ). IsLink n link) (sym size) is

    pub turn_settles : (new : Entries) → Relaxes into near.distance lent new
        → SettlesSoFar links targets new (set settled near.node true)
    turn_settles new relaxes =
        settles_more links targets entries settled near so nearest new into
        (subst (λ (t : Entries). Relaxes into near.distance t new) lent_is relaxes)
        (each_into links nodes groups near.node group into incoming turn_within read into_is)
        (all_into links nodes groups near.node group into incoming turn_within read into_is)
        (subst (λ (n : ℕ). IsNetwork n links) (sym long) network)

    pub turn_long : (new : Entries) → Relaxes into near.distance lent new → length new ≡ nodes
    turn_long new relaxes =
        relaxes.long ∙ subst (λ (t : Entries). length t ≡ nodes) (sym lent_is) long
