-- A packet comes to its own hand_over along steps exactly where there is a path of legs.
use Rattle.std.proofs.Common.{◌≡◌, ℕ, true, List, [], ◌∷◌, Option, Some, None, refl, sym, ap, ◌∙◌}
use Rattle.std.specs.Option.{option_and_then}
use Rattle.std.proofs.lemmas.Bool.{false≢true}
use Rattle.srv6_rules.specs.Packet.{Packet, Content}
use Rattle.net_model.specs.Network.{Network}
use Rattle.walk_rules.specs.declared.place.Place.{Place}
use Rattle.walk_rules.specs.Walk.{choice_at}
use Rattle.intent_reader.specs.declared.intent.Step.{Step}
use Rattle.leg_table.specs.WalkTrace.{TraceEvent, Handed}
use Rattle.leg_table.specs.StepMatching.{matches}
use Rattle.leg_table.specs.StepMatchingTerms.{is_done}
use Rattle.leg_table.specs.StepMatchingTerms as tasks_terms
use Rattle.leg_table.proofs.PublicLaws.{matches_by}
use Rattle.binding_spec.specs.OwnHands.{most_stages}
use Rattle.binding_spec.specs.Machines.{left_by, advance}
use Rattle.tunnel_walks_theory.specs.TunnelChoices.{Reaches}
use Rattle.tunnel_walks_theory.specs.TunnelPacketsTerms.{AreJoined, Bared, open_at, own_move}
use Rattle.tunnel_walks_theory.specs.TunnelLegs.{Path, Hands, AlwaysHands, HasPath}
use Rattle.tunnel_walks_theory.proofs.PublicLaws.{map_parts, map_from, hands_path, path_hands, path_each}
use Rattle.binding_spec.specs.NetworkWorld.{step_events, world}
use Rattle.tunnel_network_theory.specs.NetworkWalks.{handed_of, HandsFrom, AlwaysHandsFrom}
use Rattle.tunnel_network_theory.proofs.NetworkMachine.{walks_same}

advance_same : (ts : List Step) (e : TraceEvent) → tasks_terms.advance ts e ≡ advance step_events ts e
advance_same [] e = refl
advance_same (t ∷ ts) e = refl

pub left_same : (ts : List Step) (es : List TraceEvent) → tasks_terms.left_by ts es ≡ left_by step_events ts es
left_same ts [] = refl
left_same ts (e ∷ es) =
    on (tasks_terms.advance ts e) (λ us. left_same us es) ∙ ap (option_and_then (λ us. left_by step_events us es)) (advance_same ts e)
  where
    on : (o : Option (List Step)) → ((us : List Step) → tasks_terms.left_by us es ≡ left_by step_events us es)
        → option_and_then (λ us. tasks_terms.left_by us es) o ≡ option_and_then (λ us. left_by step_events us es) o
    on None rest = refl
    on (Some us) rest = rest us

done_is : (o : Option (List Step)) → is_done o ≡ true → o ≡ Some []
done_is None h = absurd (false≢true h)
done_is (Some []) h = refl
done_is (Some (t ∷ ts)) h = absurd (false≢true h)

pub all_left : (ts : List Step) (es : List TraceEvent) → matches ts es ≡ true → left_by step_events ts es ≡ Some []
all_left ts es h = sym (left_same ts es) ∙ done_is (tasks_terms.left_by ts es) (sym (matches_by ts es) ∙ h)

pub left_all : (ts : List Step) (es : List TraceEvent) → left_by step_events ts es ≡ Some [] → matches ts es ≡ true
left_all ts es h = matches_by ts es ∙ ap is_done (left_same ts es ∙ h)

module _ (net : Network) (ts : List Step) (place : Place) (p : Packet) where
  -- a hand_over of the network's walk is one of the machine's
  record Got1 (choices : List ℕ) (h : HandsFrom net ts place p choices) : Type 0 where
    reaches : Reaches step_events (own_move (world net most_stages)) ts (open_at place p) (choice_at choices)
    all : reaches.left ≡ []
    same : handed_of reaches.got ≡ h.handed

  got_from : (choices : List ℕ) (h : HandsFrom net ts place p choices) → Got1 choices h
  got_from choices h =
      let a = map_parts handed_of _ h.handed (sym (walks_same net (choice_at choices) h.fuel place p [] 0 0 0 0 tt refl) ∙ h.own) in
      record {
        reaches = record {
          fuel = h.fuel;
          got = a.0;
          left = [];
          gives = a.1;
          along = ap (λ (x : Handed). left_by step_events ts x.trace) a.2 ∙ all_left ts h.handed.trace h.steps;
        };
        all = refl;
        same = a.2;
      }

  from_got : (choices : List ℕ) → Hands (world net most_stages) ts place p (choice_at choices) → HandsFrom net ts place p choices
  from_got choices h =
      let r = h.reaches in
      record {
        fuel = r.fuel;
        handed = handed_of r.got;
        own = walks_same net (choice_at choices) r.fuel place p [] 0 0 0 0 tt refl ∙ map_from handed_of r.gives refl;
        steps = left_all ts r.got.trace (r.along ∙ ap Some h.all);
      }

  pub hands : AlwaysHandsFrom net ts place p → AlwaysHands (world net most_stages) ts place p
  hands all choices some = let g = got_from choices (all choices some) in record { reaches = g.reaches; all = g.all }

  pub always_from : AlwaysHands (world net most_stages) ts place p → AlwaysHandsFrom net ts place p
  always_from all choices some = from_got choices (all choices some)

pub hands_have : (net : Network) (ts : List Step) (place : Place) (p : Packet) → AreJoined (world net most_stages) ts
    → AlwaysHandsFrom net ts place p → (path : Path ℕ Place Content) × HasPath (world net most_stages) ts place p path
hands_have net ts place p joined all = hands_path (world net most_stages) ts place p joined (hands net ts place p all)

pub have_hands : (net : Network) (ts : List Step) (place : Place) (p : Packet) → AreJoined (world net most_stages) ts
    → (path : Path ℕ Place Content) → HasPath (world net most_stages) ts place p path → AlwaysHandsFrom net ts place p
have_hands net ts place p joined path has choices some =
    from_got net ts place p choices (path_hands (world net most_stages) ts place p joined path has choices some)

pub hands_each : (net : Network) (ts : List Step) (place : Place) (p : Packet) → AreJoined (world net most_stages) ts
    → (path : Path ℕ Place Content) → HasPath (world net most_stages) ts place p path → (choices : List ℕ)
    → (h : HandsFrom net ts place p choices) → (h.handed.sids ≡ path.sids) × (h.handed.content ≡ path.bared.inside)
hands_each net ts place p joined path has choices h =
    let g = got_from net ts place p choices h in
    let same = path_each (world net most_stages) ts place p joined path has (choice_at choices) g.reaches in (
      sym (ap (λ (x : Handed). x.sids) g.same) ∙ same.sids,
      sym (ap (λ (x : Handed). x.content) g.same) ∙ ap (λ (x : Bared Place Content). x.inside) same.result,
    )
