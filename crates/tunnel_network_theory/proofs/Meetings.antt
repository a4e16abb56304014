-- A packet comes to its first execution along steps, for all choices, exactly where there is a leg.
use Rattle.std.proofs.Common.{◌≡◌, ℕ, List, [], ◌∷◌, Some, refl, sym, ap, ◌∙◌}
use Rattle.std.specs.Prelude.{◌↔◌}
use Rattle.srv6_rules.specs.Packet.{Packet, Content}
use Rattle.net_model.specs.Network.{Network}
use Rattle.walk_rules.specs.declared.place.Place.{Place}
use Rattle.walk_rules.specs.Walk.{choice_at}
use Rattle.intent_reader.specs.declared.intent.Step.{Step}
use Rattle.binding_spec.specs.OwnHands.{most_stages}
use Rattle.binding_spec.specs.Machines.{End, left_by}
use Rattle.tunnel_walks_theory.specs.TunnelChoices.{ForAllChoices, Reaches, SameEnd}
use Rattle.tunnel_walks_theory.specs.TunnelPacketsTerms.{AreJoined, Met, tunnel_at, met_move}
use Rattle.tunnel_walks_theory.specs.TunnelLegs.{LegBehind, transit_of}
use Rattle.tunnel_walks_theory.proofs.PublicLaws.{map_parts, map_from, leg_behind, leg_each, transit_all, transit_each}
use Rattle.binding_spec.specs.NetworkWorld.{step_events, world}
use Rattle.tunnel_network_theory.specs.FirstExecutions.{MetOwn, MeetsFrom, AlwaysMeets, MetAs, met_place, met_content, met_below, met_of}
use Rattle.tunnel_network_theory.proofs.NetworkHanding.{left_same}
use Rattle.tunnel_network_theory.proofs.NetworkMachine.{meets_same}
use Rattle.tunnel_network_theory.proofs.Watching.{Counts}

module _ (net : Network) (ts : List Step) (place : Place) (p : Packet) (below : List Packet) (used : ℕ) (counts : Counts below 0 used) where
  abbrev AllMet : Type 0
  AllMet = ForAllChoices step_events (met_move (world net most_stages)) ts (tunnel_at p below used place)

  -- what a network's walk meets is what the machine's does
  record Reached (choices : List ℕ) (h : MeetsFrom net ts place p below choices) : Type 0 where
    reaches : Reaches step_events (met_move (world net most_stages)) ts (tunnel_at p below used place) (choice_at choices)
    left : reaches.left ≡ h.left
    same : met_of reaches.got ≡ h.met

  reached : (choices : List ℕ) (h : MeetsFrom net ts place p below choices) → Reached choices h
  reached choices h =
      let a = map_parts met_of _ h.met (sym (meets_same net (choice_at choices) h.fuel place p below 0 used 0 0 counts refl) ∙ h.own) in
      record {
        reaches = record {
          fuel = h.fuel;
          got = a.0;
          left = h.left;
          gives = a.1;
          along = ap (λ (m : MetOwn). left_by step_events ts m.trace) a.2 ∙ sym (left_same ts h.met.trace) ∙ h.along;
        };
        left = refl;
        same = a.2;
      }

  meets : (choices : List ℕ) → Reaches step_events (met_move (world net most_stages)) ts (tunnel_at p below used place) (choice_at choices)
      → MeetsFrom net ts place p below choices
  meets choices r =
      record {
        fuel = r.fuel;
        met = met_of r.got;
        left = r.left;
        own = meets_same net (choice_at choices) r.fuel place p below 0 used 0 0 counts refl ∙ map_from met_of r.gives refl;
        along = left_same ts r.got.trace ∙ r.along;
      }

  all_met : AlwaysMeets net ts place p below → AllMet
  all_met all choices some = (reached choices (all choices some)).reaches

  met_all : AllMet → AlwaysMeets net ts place p below
  met_all all choices some = meets choices (all choices some)

  met_as : (e : End Step ℕ (Met Place Packet Content)) (choices : List ℕ) (h : MeetsFrom net ts place p below choices)
      → ((pick : ℕ → ℕ) (r : Reaches step_events (met_move (world net most_stages)) ts (tunnel_at p below used place) pick) → SameEnd e r)
      → MetAs e h
  met_as e choices h each =
      let r = reached choices h in
      let s = each (choice_at choices) r.reaches in
      record {
        sids = sym (ap (λ (m : MetOwn). m.sids) r.same) ∙ s.sids;
        place = sym (ap (λ (m : MetOwn). m.place) r.same) ∙ ap (λ x. Some (met_place x)) s.result;
        content = sym (ap (λ (m : MetOwn). m.content) r.same) ∙ ap met_content s.result;
        below = sym (ap (λ (m : MetOwn). m.below) r.same) ∙ ap met_below s.result;
        left = sym r.left ∙ s.left;
      }

-- ---- behind a header, and with nothing below

pub leg_meets : (net : Network) (ts : List Step) (place : Place) (new own : Packet) → AreJoined (world net most_stages) ts
    → AlwaysMeets net ts place new (own ∷ []) ↔ LegBehind (world net most_stages) ts place new own
leg_meets net ts place new own joined =
    let legs = leg_behind (world net most_stages) ts place new own joined in
    (λ all. legs.0 (all_met net ts place new (own ∷ []) 1 refl all), λ leg. met_all net ts place new (own ∷ []) 1 refl (legs.1 leg))

pub leg_met : (net : Network) (ts : List Step) (place : Place) (new own : Packet) → AreJoined (world net most_stages) ts
    → (leg : LegBehind (world net most_stages) ts place new own) (choices : List ℕ) (h : MeetsFrom net ts place new (own ∷ []) choices)
    → MetAs leg.end h
leg_met net ts place new own joined leg choices h =
    met_as net ts place new (own ∷ []) 1 refl leg.end choices h (leg_each (world net most_stages) ts place new own joined leg)

pub transit_meets : (net : Network) (ts : List Step) (place : Place) (own : Packet) → AreJoined (world net most_stages) ts
    → AlwaysMeets net ts place own []
    ↔ ((e : End Step ℕ (Met Place Packet Content)) × (transit_of (world net most_stages) ts place own ≡ Some e))
transit_meets net ts place own joined =
    let transits = transit_all (world net most_stages) ts place own joined in
    (λ all. transits.0 (all_met net ts place own [] 0 tt all), λ r. met_all net ts place own [] 0 tt (transits.1 r))

pub transit_met : (net : Network) (ts : List Step) (place : Place) (own : Packet) → AreJoined (world net most_stages) ts
    → (e : End Step ℕ (Met Place Packet Content)) → transit_of (world net most_stages) ts place own ≡ Some e → (choices : List ℕ)
    → (h : MeetsFrom net ts place own [] choices) → MetAs e h
transit_met net ts place own joined e transit choices h =
    met_as net ts place own [] 0 tt e choices h (transit_each (world net most_stages) ts place own joined e transit)
