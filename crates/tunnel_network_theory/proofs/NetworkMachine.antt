-- A network's walks hand over, and meet, what the machine's walks do, under any choices, from any place and packets below.
use Rattle.std.proofs.Common.{◌≡◌, ℕ, Bool, List, [], ◌∷◌, Option, Some, None, refl, ap, ◌∙◌}
use Rattle.std.specs.Option.{option_map}
use Rattle.srv6_rules.specs.declared.reason.Reason.{Reason}
use Rattle.srv6_rules.specs.Packet.{Packet, Content, V6}
use Rattle.net_model.specs.Network.{Network}
use Rattle.walk_rules.specs.declared.place.Place.{Place}
use Rattle.walk_rules.specs.declared.place.Outcome.TheVariants as outcomes
use Rattle.leg_table.specs.WalkTrace.{TraceEvent, Crossed, executed, Handed, after_events, after_execution}
use Rattle.binding_spec.specs.TunnelStages.{TunnelGave}
use Rattle.binding_spec.specs.TunnelWalks.{tunnel_walk}
use Rattle.binding_spec.specs.OwnHands.{most_stages, handed_by, handed_own}
use Rattle.tunnel_walks_theory.specs.MachinesTerms.{Got, got_after, got_of}
use Rattle.tunnel_walks_theory.specs.TunnelPacketsTerms.{Bared, Met, tunnel_at, own_by, own_move, met_by, met_move}
use Rattle.binding_spec.specs.NetworkWorld.{step_events, world}
use Rattle.tunnel_network_theory.specs.FirstExecutions.{MetOwn, met_after, met_by_stage, first_met, met_of}
use Rattle.tunnel_network_theory.specs.NetworkWalks.{handed_of}
use Rattle.tunnel_network_theory.proofs.Watching.{Watch, Counts, watched_same}

-- ---- what is handed over

behind_own : (net : Network) (n : ℕ) (o : Option (Got TraceEvent ℕ (Bared Place Content)))
    → option_map (after_execution net n) (option_map handed_of o)
    ≡ option_map handed_of (option_map (got_after (executed net n) (n ∷ [])) o)
behind_own net n None = refl
behind_own net n (Some g) = refl

handed_sends : (net : Network) (after : Content) (under : List Packet) (link : ℕ) (later : Option Handed)
    → handed_by net after under (outcomes.Send link) later ≡ option_map (after_events (Crossed link ∷ [])) later
handed_sends net after [] link later = refl
handed_sends net after (q ∷ under) link later = refl

handed_stops : (net : Network) (after : Content) (under : List Packet) (later : Option Handed)
    → handed_by net after under outcomes.Local later ≡ None
handed_stops net after [] later = refl
handed_stops net after (q ∷ under) later = refl

handed_drops : (net : Network) (after : Content) (under : List Packet) (reason : Reason) (error : Bool) (later : Option Handed)
    → handed_by net after under (outcomes.Drop reason error) later ≡ None
handed_drops net after [] reason error later = refl
handed_drops net after (q ∷ under) reason error later = refl

abbrev own_watch : (net : Network) → Watch net Handed (Bared Place Content)
own_watch net =
    record {
      first = handed_own net;
      stage = λ place gave under outcome later. handed_by net gave.after under outcome later;
      after = after_events;
      bottom = own_by (world net most_stages);
      view = handed_of;
      none = λ n. refl;
      some = λ n s ss. refl;
      seen = λ events g. refl;
      sends = λ place gave under link later. handed_sends net gave.after under link later;
      stops = λ place gave under later. handed_stops net gave.after under later;
      drops = λ place gave under reason error later. handed_drops net gave.after under reason error later;
      executes_under = λ place gave q under sid how later. refl;
      exposes_under = λ place gave q under sid how family later. refl;
      crosses = λ link links to own. refl;
      loses = refl;
      executes = λ go pick taken place sid how q later same.
          ap (option_map (after_execution net sid)) same ∙ behind_own net sid _;
      pushes = λ go pick taken place sid how new q later same.
          ap (option_map (after_execution net sid)) same ∙ behind_own net sid _;
      exposes = λ go pick taken place sid how family inside later. refl;
    }

pub walks_same : (net : Network) (pick : ℕ → ℕ) (fuel : ℕ) (place : Place) (p : Packet) (below : List Packet) (n used t u : ℕ)
    → Counts below n used → t ≡ u
    → handed_own net n (tunnel_walk fuel net (Some place) (V6 p) below pick t)
    ≡ option_map handed_of (got_of step_events (own_move (world net most_stages)) fuel (tunnel_at p below used place) pick u)
walks_same net pick fuel place p below n used t u counts same =
    watched_same net Handed (Bared Place Content) (own_watch net) pick fuel place p below n used t u counts same

-- ---- what is met first

met_sends : (net : Network) (place : Place) (gave : TunnelGave) (under : List Packet) (link : ℕ) (later : Option MetOwn)
    → met_by_stage net place gave under (outcomes.Send link) later ≡ option_map (met_after (Crossed link ∷ [])) later
met_sends net place gave [] link later = refl
met_sends net place gave (q ∷ under) link later = refl

met_stops : (net : Network) (place : Place) (gave : TunnelGave) (under : List Packet) (later : Option MetOwn)
    → met_by_stage net place gave under outcomes.Local later ≡ None
met_stops net place gave [] later = refl
met_stops net place gave (q ∷ under) later = refl

met_drops : (net : Network) (place : Place) (gave : TunnelGave) (under : List Packet) (reason : Reason) (error : Bool) (later : Option MetOwn)
    → met_by_stage net place gave under (outcomes.Drop reason error) later ≡ None
met_drops net place gave [] reason error later = refl
met_drops net place gave (q ∷ under) reason error later = refl

abbrev met_watch : (net : Network) → Watch net MetOwn (Met Place Packet Content)
met_watch net =
    record {
      first = first_met net;
      stage = met_by_stage net;
      after = met_after;
      bottom = met_by (world net most_stages);
      view = met_of;
      none = λ n. refl;
      some = λ n s ss. refl;
      seen = λ events g. refl;
      sends = met_sends net;
      stops = met_stops net;
      drops = met_drops net;
      executes_under = λ place gave q under sid how later. refl;
      exposes_under = λ place gave q under sid how family later. refl;
      crosses = λ link links to own. refl;
      loses = refl;
      executes = λ go pick taken place sid how q later same. refl;
      pushes = λ go pick taken place sid how new q later same. refl;
      exposes = λ go pick taken place sid how family inside later. refl;
    }

pub meets_same : (net : Network) (pick : ℕ → ℕ) (fuel : ℕ) (place : Place) (p : Packet) (below : List Packet) (n used t u : ℕ)
    → Counts below n used → t ≡ u
    → first_met net n (tunnel_walk fuel net (Some place) (V6 p) below pick t)
    ≡ option_map met_of (got_of step_events (met_move (world net most_stages)) fuel (tunnel_at p below used place) pick u)
meets_same net pick fuel place p below n used t u counts same =
    watched_same net MetOwn (Met Place Packet Content) (met_watch net) pick fuel place p below n used t u counts same
