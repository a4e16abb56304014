-- The kind of loose legs keeps the laws of its kind where it keeps those of one leg.
use Rattle.std.proofs.Common.{◌≡◌, ◌+◌, ◌≤◌, not, List, length, slice_get, sym, ◌∙◌, ap}
use Rattle.std.proofs.lemmas.Bool.{and_parts}
use Rattle.srv6_rules.specs.Behaviours.{goes_on}
use Rattle.net_model.specs.Network.{Network}
use Rattle.net_model.specs.NetworkKeeps.{Keeps}
use Rattle.net_model.specs.NetworkRulesTerms.{IsNetwork}
use Rattle.net_model.proofs.PublicLaws.{keeps_from_network}
use Rattle.net_flatness.specs.Flat.{IsFlat}
use Rattle.intent_reader.specs.declared.intent.Intent.{Intent}
use Rattle.sid_list_theory.specs.ListPlaces.{Tunnel}
use Rattle.list_pack.specs.Meaning.{AreSidsOf}
use Rattle.intent_traces.specs.declared.trace_steps.TraceStep.{TraceStep}
use Rattle.leg_table.specs.OneLegLaws.{KindLaws, LegKind, LegLaws}
use Rattle.leg_table.specs.PositionSids.{binds, sid_goes_on}
use Rattle.leg_table.proofs.FlatNets.{FlatFacts, flat_facts}
use Rattle.leg_table.proofs.ListShapes.{suits_by}
use Rattle.leg_table.proofs.Shapes.{sid_shape}
use Rattle.leg_table.proofs.Stays.{stays_follow}
use Rattle.leg_table.proofs.StrictLaws.{shape_middle}
use Rattle.loose_legs_theory.specs.LooseStepsTerms.{AreSteps}
use Rattle.loose_spec.specs.LooseLegsValue.{loose_legs_value}
use Rattle.loose_legs_theory.proofs.LooseLegLegLaws.{loose_laws}
use Rattle.loose_legs_theory.proofs.LooseLegPositions.{contained_sid, sid_there}
use Rattle.loose_meaning_theory.specs.LooseKind.{loose_kind}
use Rattle.loose_meaning_theory.specs.LongestWays.{Longest}
use Rattle.loose_meaning_theory.proofs.Agreeing.{hop_matter}

module _ (net : Network) (intent : Intent) (steps : List TraceStep) (network : IsNetwork net) (flat : IsFlat net)
    (are : AreSteps net intent steps) where
  abbrev k : LegKind
  k = loose_kind net intent steps

  keeps : Keeps net
  keeps = keeps_from_network net network

  facts : FlatFacts net
  facts = flat_facts net network flat

  sids_of : AreSidsOf (loose_legs_value net intent steps) net
  sids_of n is =
      let s = sid_there net keeps intent steps is.0 n (contained_sid net keeps intent steps is.0 n is.2) in
      let is_shape = sid_shape net n s.0 s.1 in (s.0, s.1, is_shape.0, is_shape.1)

  -- at most 128 SIDs, as many as a search takes
  pub loose_kind_laws : length net.sids ≤ 128 → ((t : Tunnel) → t.inner ≡ intent.inner → LegLaws k (Longest net intent) t)
      → KindLaws k (Longest net intent)
  loose_kind_laws few one =
      record {
        network = network;
        flat = flat;
        legs = loose_laws net keeps intent steps are facts few;
        sids = sids_of;
        suits = suits_by net keeps facts.suits (loose_legs_value net intent steps) sids_of
            (λ n s is middle. (and_parts (goes_on s) (not (binds s))
            (sym (ap sid_goes_on is) ∙ sym (shape_middle net.blocks (slice_get net.sids n)) ∙ middle)).0)
            (λ n m is also.
            let s = sids_of n is in
            let t = sids_of m also in
            stays_follow net network n m s.0 t.0 s.1 t.1);
        one = one;
        matter = λ p. p.hop_limit + 1;
        agree = λ p pick other h marks same over kept. hop_matter net intent steps p pick other h same over;
      }
