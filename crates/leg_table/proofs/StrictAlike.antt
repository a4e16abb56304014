-- In a flat network transits to two own addresses of a SID are one.
use Rattle.std.proofs.Common.{◌≡◌, ℕ, Bool, true, false, if◌then◌else◌, List, [], ◌∷◌, Option, Some, None, slice_get, refl, sym, ◌∙◌, ap, subst}
use Rattle.std.specs.Option.{option_map}
use Rattle.v6_addr.specs.AddressKinds.{is_multicast}
use Rattle.srv6_rules.specs.declared.family.Family.{Family}
use Rattle.srv6_rules.specs.declared.family.Family.TheVariants as families
use Rattle.srv6_rules.specs.declared.reason.Reason.TheVariants as reasons
use Rattle.srv6_rules.specs.declared.sid.SidEntry.{SidEntry}
use Rattle.net_model.specs.declared.net.Hit.{Hit}
use Rattle.net_model.specs.Network.{Network}
use Rattle.net_model.specs.Best.{lookup_of}
use Rattle.net_flatness.specs.NestsTerms.{IsOwn}
use Rattle.walk_rules.specs.declared.place.How.{How}
use Rattle.walk_rules.specs.declared.place.How.TheVariants.{Arrived, Submitted, Through}
use Rattle.walk_rules.specs.declared.place.Place.{Place}
use Rattle.walk_rules.specs.Walk.{arrival}
use Rattle.walk_rules.specs.Way.{Way, NoWay, Over, Own, Into, way_of, way_by, way_by_hit, way_by_table}
use Rattle.intent_reader.specs.IntentRules.{first_end}
use Rattle.intent_reader.specs.declared.intent.Step.{Step}
use Rattle.leg_table.proofs.FlatNets.{FlatFacts}
use Rattle.leg_table.specs.StrictLegsTerms.{IsAddressOf}
use Rattle.leg_table.specs.Transits.{Transit, more_lowered, all_in_step, transit_on, transit_by, transit_end, transit_of}
use Rattle.leg_table.specs.PositionSids.{first_address, sid_address}
use Rattle.leg_table.proofs.StrictTransits.{arrived}

module _ (net : Network) (facts : FlatFacts net) (n : ℕ) (s : SidEntry) (there : slice_get net.sids n ≡ Some s) (a b : ℕ)
    (a_own : IsOwn net s a) (b_own : IsOwn net s b) (kind : is_multicast a ≡ is_multicast b) where
  table_alike : (node table : ℕ) (lower : Bool) → way_by_table net node table families.V6 lower a ≡ way_by_table net node table
      families.V6 lower b
  table_alike node table lower =
      ap (λ (t : Bool). if t then NoWay reasons.Multicast else way_by_hit net lower (lookup_of net node table families.V6 a)) kind
      ∙ ap (λ (h : Hit). if is_multicast b then NoWay reasons.Multicast else way_by_hit net lower h)
      (facts.alike n node table a b s there a_own b_own)

  how_alike : (node : ℕ) (how : How) → way_by net node how families.V6 a ≡ way_by net node how families.V6 b
  how_alike node (Arrived table) = table_alike node table true
  how_alike node (Submitted table) = table_alike node table false
  how_alike node (Through sid lower) = refl

  pub way_alike : (place : Place) → place.family ≡ families.V6 → way_of net place a ≡ way_of net place b
  unfolding way_of
  way_alike place v6 =
      subst (λ (f : Family). way_by net place.node place.how f a ≡ way_by net place.node place.how f b) (sym v6)
      (how_alike place.node place.how)

  pub transit_alike : (ts : List Step) (place : Place) → place.family ≡ families.V6 → transit_of net a ts place ≡ transit_of net b ts place
  transit_alike [] place v6 = ap (transit_end place) (way_alike place v6)
  transit_alike (t ∷ ts) place v6 =
      ap (transit_by net place (t ∷ ts) t (transit_of net a ts)) (way_alike place v6)
      ∙ by_way (way_of net place b) (λ to. transit_alike ts (arrived to place) v6)
    where
      later : (o : Option ℕ) → ((to : ℕ) → transit_of net a ts (arrived to place) ≡ transit_of net b ts (arrived to place))
          → transit_on (arrival o place) (transit_of net a ts) ≡ transit_on (arrival o place) (transit_of net b ts)
      later None ih = refl
      later (Some to) ih = ih to

      by_way : (w : Way) → ((to : ℕ) → transit_of net a ts (arrived to place) ≡ transit_of net b ts (arrived to place))
          → transit_by net place (t ∷ ts) t (transit_of net a ts) w ≡ transit_by net place (t ∷ ts) t (transit_of net b ts) w
      by_way (NoWay reason) ih = refl
      by_way Own ih = refl
      by_way (Into m) ih = refl
      by_way (Over set lower) ih =
          ap (λ (o : Option Transit). if all_in_step t set then option_map (more_lowered lower) o else None) (later (first_end net set) ih)

-- transits to an address of a SID are those to the first address of its prefix
pub address_alike : (net : Network) → FlatFacts net → (n : ℕ) (s : SidEntry) → slice_get net.sids n ≡ Some s → (address : ℕ)
    → IsAddressOf net n address → (ts : List Step) (place : Place) → place.family ≡ families.V6
    → transit_of net address ts place ≡ transit_of net (sid_address net n) ts place
address_alike net facts n s there address is =
    let value : s.prefix.value ≡ sid_address net n = ap first_address (sym there) in
    transit_alike net facts n s there address (sid_address net n) (is.own s there) (subst (IsOwn net s) value (facts.first n s there)) is.kind
