-- The first stage that sends nothing is behind links whose trace splits into parts of the steps.
use Rattle.std.proofs.Common.{◌≡◌, ℕ, List, [], ◌∷◌, map, Option, Some, refl, sym, ◌∙◌, ap, subst}
use Rattle.std.specs.Prelude.{◌↔◌}
use Rattle.std.specs.Option.{option_and_then}
use Rattle.net_model.specs.Network.{Network}
use Rattle.walk_rules.specs.declared.place.Outcome.{Outcome}
use Rattle.walk_rules.specs.declared.place.Outcome.TheVariants as outcomes
use Rattle.walk_rules.specs.Walk.{Stage}
use Rattle.intent_traces.specs.declared.trace_steps.TraceStep.{TraceStep}
use Rattle.intent_traces.specs.Traces.{Crossed, left_behind, left_by}
use Rattle.intent_traces.proofs.Splits.{leaves_iff}
use Rattle.choice_graph.proofs.GraphOptions.{some_same, then_some}
use Rattle.loose_walks.specs.WalkStops.{ends_in}
use Rattle.loose_walks.specs.WalkStopsTerms.{Stop, first_stop, stop_by, SendsNothing}
use Rattle.loose_legs_theory.specs.StopLinks.{AreSent, IsBehindLinks}

module _ (net : Network) where
  -- the same by the steps that are left
  record Behind (ts : List TraceStep) (ss : List Stage) (stop : Stop) : Type 0 where
    links : List ℕ
    rest : List Stage
    sent : AreSent links ss (stop.stage ∷ rest)
    nothing : SendsNothing stop.stage.gave.outcome
    left : left_by (ends_in net) ts (map Crossed links) ≡ Some stop.left

  here : (ts : List TraceStep) (s : Stage) (ss : List Stage) (stop : Stop) → SendsNothing s.gave.outcome
      → Some (record { stage = s; left = ts }) ≡ Some stop → Behind ts (s ∷ ss) stop
  here ts s ss stop quiet e =
      let own : Stop = record { stage = s; left = ts } in
      subst (Behind ts (s ∷ ss)) (some_same own stop e)
      (record { links = []; rest = ss; sent = refl; nothing = quiet; left = refl })

  stop_behind : (ts : List TraceStep) (ss : List Stage) (stop : Stop) → first_stop (ends_in net) ts ss ≡ Some stop → Behind ts ss stop
  stop_behind ts [] stop h = absurd (cc)
  stop_behind ts (s ∷ ss) stop h = by_outcome s.gave.outcome refl h (λ us. stop_behind us ss stop)
    where
      quiet : (o : Outcome) → s.gave.outcome ≡ o → SendsNothing o → SendsNothing s.gave.outcome
      quiet o e q = subst SendsNothing (sym e) q

      by_outcome : (o : Outcome) → s.gave.outcome ≡ o → stop_by (ends_in net) (λ us. first_stop (ends_in net) us ss) ts s o ≡ Some stop
          → ((us : List TraceStep) → first_stop (ends_in net) us ss ≡ Some stop → Behind us ss stop) → Behind ts (s ∷ ss) stop
      by_outcome (outcomes.Send link) e h ih =
          let t = then_some (λ us. first_stop (ends_in net) us ss) (left_behind (ends_in net) ts (Crossed link)) stop h in
          let b = ih t.0 t.2 in
          record {
            links = link ∷ b.links;
            rest = b.rest;
            sent = (e, b.sent);
            nothing = b.nothing;
            left = ap (option_and_then (λ us. left_by (ends_in net) us (map Crossed b.links))) t.1 ∙ b.left;
          }
      by_outcome (outcomes.Again n how) e h ih = here ts s ss stop (quiet (outcomes.Again n how) e tt) h
      by_outcome (outcomes.Hand n how family) e h ih = here ts s ss stop (quiet (outcomes.Hand n how family) e tt) h
      by_outcome outcomes.Local e h ih = here ts s ss stop (quiet outcomes.Local e tt) h
      by_outcome (outcomes.Drop reason error) e h ih = here ts s ss stop (quiet (outcomes.Drop reason error) e tt) h

  quiet_stop : (ts : List TraceStep) (s : Stage) (rest : List TraceStep → Option Stop) (o : Outcome) → SendsNothing o
      → stop_by (ends_in net) rest ts s o ≡ Some (record { stage = s; left = ts })
  quiet_stop ts s rest (outcomes.Send link) q = absurd q
  quiet_stop ts s rest (outcomes.Again n how) q = refl
  quiet_stop ts s rest (outcomes.Hand n how family) q = refl
  quiet_stop ts s rest outcomes.Local q = refl
  quiet_stop ts s rest (outcomes.Drop reason error) q = refl

  behind_stop : (links : List ℕ) (ts : List TraceStep) (ss rest : List Stage) (stop : Stop) → AreSent links ss (stop.stage ∷ rest)
      → SendsNothing stop.stage.gave.outcome → left_by (ends_in net) ts (map Crossed links) ≡ Some stop.left
      → first_stop (ends_in net) ts ss ≡ Some stop
  behind_stop [] ts ss rest stop sent quiet left =
      ap (first_stop (ends_in net) ts) sent
      ∙ quiet_stop ts stop.stage (λ us. first_stop (ends_in net) us rest) stop.stage.gave.outcome quiet
      ∙ ap (λ (us : List TraceStep). Some (record { stage = stop.stage; left = us })) (some_same ts stop.left left)
  behind_stop (link ∷ links) ts [] rest stop sent quiet left = absurd sent
  behind_stop (link ∷ links) ts (s ∷ ss) rest stop sent quiet left =
      let t =
      then_some (λ us. left_by (ends_in net) us (map Crossed links)) (left_behind (ends_in net) ts (Crossed link)) stop.left left in
      ap (stop_by (ends_in net) (λ us. first_stop (ends_in net) us ss) ts s) sent.0
      ∙ ap (option_and_then (λ us. first_stop (ends_in net) us ss)) t.1
      ∙ behind_stop links t.0 ss rest stop sent.1 quiet t.2

  pub stop_links : (ts : List TraceStep) (ss : List Stage) (stop : Stop)
      → (first_stop (ends_in net) ts ss ≡ Some stop) ↔ IsBehindLinks net ts ss stop
  stop_links ts ss stop = (
    λ h.
        let b = stop_behind ts ss stop h in
        record {
          links = b.links;
          rest = b.rest;
          sent = b.sent;
          nothing = b.nothing;
          leaves = (leaves_iff (ends_in net) ts stop.left (map Crossed b.links)).0 b.left;
        },
    λ b. behind_stop b.links ts ss b.rest stop b.sent b.nothing ((leaves_iff (ends_in net) ts stop.left (map Crossed b.links)).1 b.leaves),
  )
