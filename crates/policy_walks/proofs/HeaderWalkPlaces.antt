-- Places behind a stage are places of the network.
use Rattle.std.proofs.Common.{◌≡◌, ℕ, ◌<◌, ◌≤◌, List, length, slice_get, Some, sym, subst, ap, ◌∙◌}
use Rattle.srv6_rules.specs.declared.family.Family.{Family}
use Rattle.srv6_rules.specs.declared.sid.SidEntry.{SidEntry}
use Rattle.srv6_rules.specs.Packet.{Packet}
use Rattle.net_model.specs.Network.{Network}
use Rattle.net_model.specs.NetworkKeeps.{Keeps}
use Rattle.walk_rules.specs.declared.place.How.TheVariants.{Arrived}
use Rattle.walk_rules.specs.declared.place.Place.{Place}
use Rattle.walk_rules.specs.Relation.{IsHow, IsPlace}
use Rattle.walk_rules.specs.Treatment.{exposed_from, onward_from}
use Rattle.walk_rules.specs.WayTerms.{StandsAt}
use Rattle.walk_rules.proofs.PublicLaws.{exposed_how, sid_how}
use Rattle.std.proofs.lemmas.Option.{same_Some}
use Rattle.intent_reader.specs.declared.intent.Step.{Step}
use Rattle.policy_walks.specs.declared.header_stage.Stage.{Stage}
use Rattle.policy_walks.specs.declared.header_stage.Stage.TheVariants as stages
use Rattle.policy_walks.specs.HeaderWalks.{IsTakenOff, StandsThere}

-- where a link led
pub arrived_there : (net : Network) (place : Place) (node : ℕ) (family : Family) → node < length net.nodes
    → place ≡ record { node = node; how = Arrived 0; family = family } → IsPlace net place
arrived_there net place node family here is = subst (IsPlace net) (sym is) (here, tt)

module _ (net : Network) (keeps : Keeps net) (place : Place) (is : IsPlace net place) (n : ℕ) (s : SidEntry)
    (there : slice_get net.sids n ≡ Some s) (stands : StandsAt net place.node n) where
  here : s.node ≡ place.node
  here = ap (λ (x : SidEntry). x.node) (same_Some s stands.sid (sym there ∙ stands.is_there)) ∙ stands.stands

  -- behind a SID of the node the packet goes on from the node
  pub onward_there : (to : Place) (family : Family) → to ≡ record { node = place.node; how = onward_from n s.behaviour; family = family }
      → IsPlace net to
  onward_there to family e =
      subst (IsPlace net) (sym e)
      (is.0, subst (λ node. IsHow net node (onward_from n s.behaviour)) here (sid_how net n s keeps there))

  -- so does what the SID exposed
  pub exposed_there : (to : Place) (family : Family) → to ≡ record { node = place.node; how = exposed_from n s.behaviour; family = family }
      → IsPlace net to
  exposed_there to family e =
      subst (IsPlace net) (sym e)
      (is.0, subst (λ node. IsHow net node (exposed_from n s.behaviour)) here (exposed_how net n s keeps there))

pub taken_there : (net : Network) (steps : List Step) (place : Place) (above : List Packet) (done : ℕ) (stage : Stage)
    → IsTakenOff place above done stage → IsPlace net place → done ≤ length steps → StandsThere net steps stage
taken_there net steps place above done (stages.On headers more) taken is within =
    (subst (IsPlace net) (sym taken.0) is, subst (λ (d : ℕ). d ≤ length steps) (sym taken.2) within)
taken_there net steps place above done (stages.Off to more) taken is within =
    subst (λ (d : ℕ). d ≤ length steps) (sym taken.2) within
taken_there net steps place above done stages.Lost taken is within = absurd taken
