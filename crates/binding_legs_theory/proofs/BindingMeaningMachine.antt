-- What is handed over of a packet on its way along a list is what the machine's walk does.
use Rattle.std.proofs.Common.{◌≡◌, ℕ, List, [], ◌∷◌, ◌++◌, Option, Some, None, slice_get, refl, sym, ap, ◌∙◌}
use Rattle.std.specs.Option.{option_map, option_and_then}
use Rattle.std.proofs.lemmas.Option.{same_Some}
use Rattle.srv6_rules.specs.declared.sid.SidEntry.{SidEntry}
use Rattle.srv6_rules.specs.Behaviours.{behaviour_policy}
use Rattle.srv6_rules.specs.Packet.{Packet, Content, V6}
use Rattle.net_model.specs.declared.parts.NamedPolicy.{NamedPolicy}
use Rattle.net_model.specs.Network.{Network}
use Rattle.walk_rules.specs.declared.place.Place.{Place}
use Rattle.intent_reader.specs.declared.intent.Intent.{Intent}
use Rattle.intent_reader.specs.declared.intent.Step.{Step}
use Rattle.leg_table.specs.WalkTrace.{TraceEvent, Handed}
use Rattle.leg_table.specs.StepMatching.{matches}
use Rattle.leg_table.specs.StepMatchingTerms.{is_done}
use Rattle.leg_table.proofs.PublicLaws.{matches_by}
use Rattle.binding_spec.specs.OwnHands.{most_stages}
use Rattle.binding_spec.specs.Machines.{advance, left_by}
use Rattle.tunnel_walks_theory.specs.MachinesTerms.{Got, got_of}
use Rattle.binding_spec.specs.TunnelPackets.{World}
use Rattle.tunnel_walks_theory.specs.TunnelPacketsTerms.{Tunnelled, Bared, open_at, pushed_at, own_move, met_move}
use Rattle.tunnel_walks_theory.proofs.PublicLaws.{then_parts, map_parts, map_from}
use Rattle.binding_spec.specs.NetworkWorld.{step_events, world}
use Rattle.tunnel_network_theory.specs.FirstExecutions.{first_met, met_of}
use Rattle.tunnel_network_theory.specs.NetworkWalks.{handed_of}
use Rattle.binding_spec.specs.TunnelWalks.{tunnel_walk}
use Rattle.tunnel_network_theory.proofs.PublicLaws.{walks_same, meets_same}
use Rattle.tunnel_network_theory.proofs.NetworkHanding.{left_same}
use Rattle.binding_legs_theory.specs.BindingKind.{under_policy, onward_by, onward_at, onward_of, hand_on}

abbrev pub network_world : Network → World ℕ TraceEvent Step ℕ Place Packet Content
network_world net = world net most_stages

abbrev pub own_got : Network → ℕ → Tunnelled Place Packet → (ℕ → ℕ) → ℕ → Option (Got TraceEvent ℕ (Bared Place Content))
own_got net = got_of step_events (own_move (network_world net))

-- a packet goes on alone, or right below a header
pub data GoesOnAs (p : Packet) (d : Tunnelled Place Packet) : Type 0 where
  Alone : (place : Place) → d ≡ open_at place p → GoesOnAs p d
  Below : (place : Place) (new : Packet) → d ≡ pushed_at place new p → GoesOnAs p d

policy_goes : (v : ℕ) (s : SidEntry) (p : Packet) (o : Option NamedPolicy) (d : Tunnelled Place Packet) → under_policy v s p o ≡ Some d
    → GoesOnAs p d
policy_goes v s p None d h = cc
policy_goes v s p (Some named) d h = Below _ _ (sym (same_Some _ _ h))

by_goes : (net : Network) (v : ℕ) (s : SidEntry) (p : Packet) (o : Option ℕ) (d : Tunnelled Place Packet) → onward_by net v s p o ≡ Some d
    → GoesOnAs p d
by_goes net v s p None d h = Alone _ (sym (same_Some _ _ h))
by_goes net v s p (Some number) d h = policy_goes v s p (slice_get net.policies number) d h

at_goes : (net : Network) (v : ℕ) (p : Packet) (o : Option SidEntry) (d : Tunnelled Place Packet) → onward_at net v p o ≡ Some d → GoesOnAs p d
at_goes net v p None d h = cc
at_goes net v p (Some s) d h = by_goes net v s p (behaviour_policy s.behaviour) d h

pub onward_goes : (net : Network) (intent : Intent) (via : Option ℕ) (p : Packet) (d : Tunnelled Place Packet)
    → onward_of net intent via p ≡ Some d
    → GoesOnAs p d
onward_goes net intent None p d h = Alone _ (sym (same_Some _ _ h))
onward_goes net intent (Some v) p d h = at_goes net v p (slice_get net.sids v) d h

module _ (net : Network) (p : Packet) where
  -- the network's walk and the machine's
  pub hand_machine : (d : Tunnelled Place Packet) → GoesOnAs p d → (fuel : ℕ) (pick : ℕ → ℕ) (taken : ℕ)
      → hand_on net fuel (Some d) pick taken ≡ option_map handed_of (own_got net fuel d pick taken)
  hand_machine d (Alone place e) fuel pick taken =
      ap (λ (d : Tunnelled Place Packet). hand_on net fuel (Some d) pick taken) e
      ∙ walks_same net pick fuel place p [] 0 0 taken taken tt refl
      ∙ ap (λ (d : Tunnelled Place Packet). option_map handed_of (own_got net fuel d pick taken)) (sym e)
  hand_machine d (Below place new e) fuel pick taken =
      ap (λ (d : Tunnelled Place Packet). hand_on net fuel (Some d) pick taken) e
      ∙ walks_same net pick fuel place new (p ∷ []) 0 1 taken taken refl refl
      ∙ ap (λ (d : Tunnelled Place Packet). option_map handed_of (own_got net fuel d pick taken)) (sym e)

  pub hand_parts : (d : Tunnelled Place Packet) → GoesOnAs p d → (fuel : ℕ) (pick : ℕ → ℕ) (taken : ℕ) (h : Handed)
      → hand_on net fuel (Some d) pick taken ≡ Some h
      → (g : Got TraceEvent ℕ (Bared Place Content)) × (own_got net fuel d pick taken ≡ Some g) × (handed_of g ≡ h)
  hand_parts d goes fuel pick taken h e = map_parts handed_of (own_got net fuel d pick taken) h
      (sym (hand_machine d goes fuel pick taken) ∙ e)

  pub hand_from : (d : Tunnelled Place Packet) → GoesOnAs p d → (fuel : ℕ) (pick : ℕ → ℕ) (taken : ℕ) (g : Got TraceEvent ℕ (Bared Place Content))
      → own_got net fuel d pick taken ≡ Some g → hand_on net fuel (Some d) pick taken ≡ Some (handed_of g)
  hand_from d goes fuel pick taken g e = hand_machine d goes fuel pick taken ∙ map_from handed_of e refl

-- what the network's walk meets first is what the machine's does
pub met_machine : (net : Network) (p : Packet) (d : Tunnelled Place Packet) → GoesOnAs p d → (fuel : ℕ) (pick : ℕ → ℕ)
    → first_met net 0 (tunnel_walk fuel net (Some d.place) (V6 d.head) d.below pick 0)
    ≡ option_map met_of (got_of step_events (met_move (network_world net)) fuel d pick 0)
met_machine net p d (Alone place e) fuel pick =
    ap (λ (d : Tunnelled Place Packet). first_met net 0 (tunnel_walk fuel net (Some d.place) (V6 d.head) d.below pick 0)) e
    ∙ meets_same net pick fuel place p [] 0 0 0 0 tt refl
    ∙ ap (λ (d : Tunnelled Place Packet). option_map met_of (got_of step_events (met_move (network_world net)) fuel d pick 0)) (sym e)
met_machine net p d (Below place new e) fuel pick =
    ap (λ (d : Tunnelled Place Packet). first_met net 0 (tunnel_walk fuel net (Some d.place) (V6 d.head) d.below pick 0)) e
    ∙ meets_same net pick fuel place new (p ∷ []) 0 1 0 0 refl refl
    ∙ ap (λ (d : Tunnelled Place Packet). option_map met_of (got_of step_events (met_move (network_world net)) fuel d pick 0)) (sym e)

-- what is handed over is handed over from somewhere
pub hand_on_law : (net : Network) (fuel : ℕ) (o : Option (Tunnelled Place Packet)) (pick : ℕ → ℕ) (taken : ℕ) (h : Handed)
    → hand_on net fuel o pick taken ≡ Some h → (d : Tunnelled Place Packet) × (o ≡ Some d)
hand_on_law net fuel None pick taken h e = cc
hand_on_law net fuel (Some d) pick taken h e = (d, refl)

-- ---- steps that are left, and traces that meet them

-- a trace that begins with events meets steps exactly where its rest meets those that are left
pub leads_on : (ts us : List Step) (es more : List TraceEvent) → left_by step_events ts es ≡ Some us
    → matches ts (es ++ more) ≡ matches us more
leads_on ts us es more h =
    matches_by ts (es ++ more) ∙ ap is_done (left_same ts (es ++ more) ∙ split es ts h ∙ sym (left_same us more)) ∙ sym (matches_by us more)
  where
    split : (es : List TraceEvent) (ts : List Step) → left_by step_events ts es ≡ Some us
        → left_by step_events ts (es ++ more) ≡ left_by step_events us more
    split [] ts h = ap (λ (o : Option (List Step)). option_and_then (λ us. left_by step_events us more) o) h
    split (e ∷ es) ts h =
        let a = then_parts (λ vs. left_by step_events vs es) (advance step_events ts e) us h in
        ap (λ (o : Option (List Step)). option_and_then (λ vs. left_by step_events vs (es ++ more)) o) a.1 ∙ split es a.0 a.2
