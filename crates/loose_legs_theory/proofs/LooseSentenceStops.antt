-- What holds at the first stage of a walk that sends nothing.
use Rattle.std.proofs.Common.{◌≡◌, ℕ, zero, suc, ◌+◌, ◌-◌, ◌<◌, ◌≤◌, Bool, true, false, nat_le, List, [], ◌∷◌, slice_get, Option, Some, None, refl, sym, ◌∙◌, ap, subst, arith, inl, inr, ◌⊎◌}
use Rattle.std.specs.Option.{option_and_then}
use Rattle.std.proofs.lemmas.Bool.Decides.{leb_tells}
use Rattle.srv6_rules.specs.Packet.{Packet, Content, V6}
use Rattle.srv6_rules.specs.Endpoint.{at_address}
use Rattle.srv6_rules.specs.declared.reason.Reason.TheVariants as reasons
use Rattle.net_model.specs.Network.{Network}
use Rattle.walk_rules.specs.declared.place.How.TheVariants.{Arrived}
use Rattle.walk_rules.specs.declared.place.Place.{Place}
use Rattle.walk_rules.specs.declared.place.Outcome.{Outcome}
use Rattle.walk_rules.specs.declared.place.Outcome.TheVariants as outcomes
use Rattle.walk_rules.specs.Way.{Way, NoWay, Over, Own, Into, way_of}
use Rattle.walk_rules.specs.Treatment.{Gave, treated, dropped, goes, member_of, free_step_of}
use Rattle.walk_rules.specs.Walk.{Stage, walk_by, free_walk_of, next_place, arrival, decisions}
use Rattle.walk_rules.proofs.PublicLaws.{sent_low, sent_high, decisions_few}
use Rattle.intent_traces.specs.declared.trace_steps.TraceStep.{TraceStep}
use Rattle.intent_traces.specs.Traces.{Ends, Crossed, left_behind}
use Rattle.choice_graph.proofs.GraphOptions.{then_some, some_same}
use Rattle.loose_walks.specs.WalkStops.{ends_in}
use Rattle.loose_walks.specs.WalkStopsTerms.{Stop, stop_by, first_stop, SendsNothing}
use Rattle.loose_walks.proofs.Quiet.{quiet_stops, address_quiet, into_quiet}
use Rattle.leg_table.specs.TransitsTerms.{with_hop_limit}

-- where a packet is that came over a link to a node
abbrev pub arrived_at : ℕ → Place → Place
arrived_at node place = record { node = node; how = Arrived 0; family = place.family }

-- the stage of a stop: the packet came to it with a hop limit of its own, and under some choice the stage gave what it gave
pub record StopFacts (net : Network) (p : Packet) (P : List TraceStep → Place → Type 0) (stop : Stop) : Type 0 where
  pub hop : ℕ
  pub choice : ℕ
  pub before : stop.stage.before ≡ V6 (with_hop_limit hop p)
  pub gave : stop.stage.gave ≡ free_step_of net stop.stage.place (V6 (with_hop_limit hop p)) choice
  pub holds : P stop.left stop.stage.place

nowhere : (net : Network) (fuel : ℕ) (content : Content) (pick : ℕ → ℕ) (taken : ℕ) → free_walk_of fuel net None content pick taken ≡ []
unfolding walk_by
nowhere net zero content pick taken = refl
nowhere net (suc fuel) content pick taken = refl

-- what holds of the steps left and the place, and of those behind each link that is crossed, holds at the stop
module _ (net : Network) (p : Packet) (P : List TraceStep → Place → Type 0)
    (next : (ts us : List TraceStep) (place : Place) (set : List ℕ) (lower : Bool) (link node : ℕ)
    → way_of net place p.destination ≡ Over set lower
    → left_behind (ends_in net) ts (Crossed link) ≡ Some us → ends_in net link ≡ Some node → P ts place → P us (arrived_at node place))
  where
    abbrev at_hop : ℕ → Content
    at_hop hop = V6 (with_hop_limit hop p)

    -- the stop by what the first stage gives
    abbrev by_gave : ℕ → ℕ → Place → (ℕ → ℕ) → ℕ → List TraceStep → Gave → Option Stop
    by_gave more hop place pick taken ts gave =
        stop_by (ends_in net)
        (λ us. first_stop (ends_in net) us
        (free_walk_of more net (next_place net place gave.outcome) gave.after pick (taken + decisions gave.outcome)))
        ts (record { place = place; before = at_hop hop; gave = gave }) gave.outcome

    unfolds : (more hop : ℕ) (place : Place) (pick : ℕ → ℕ) (taken : ℕ) (ts : List TraceStep)
        → first_stop (ends_in net) ts (free_walk_of (suc more) net (Some place) (at_hop hop) pick taken)
        ≡ by_gave more hop place pick taken ts (free_step_of net place (at_hop hop) (pick taken))
    unfolding walk_by
    unfolds more hop place pick taken ts = refl

    abbrev Facts : Stop → Type 0
    Facts = StopFacts net p P

    quiet_facts : (more hop : ℕ) (place : Place) (pick : ℕ → ℕ) (taken : ℕ) (ts : List TraceStep) (gave : Gave) (stop : Stop)
        → SendsNothing gave.outcome
        → gave ≡ free_step_of net place (at_hop hop) (pick taken) → P ts place → by_gave more hop place pick taken ts gave ≡ Some stop
        → Facts stop
    quiet_facts more hop place pick taken ts gave stop quiet is holds h =
        let here : Stop = record { stage = record { place = place; before = at_hop hop; gave = gave }; left = ts } in
        let same : here ≡ stop
        = some_same here stop (sym (quiet_stops (ends_in net)
        (λ us. first_stop (ends_in net) us
        (free_walk_of more net (next_place net place gave.outcome) gave.after pick (taken + decisions gave.outcome)))
        ts (record { place = place; before = at_hop hop; gave = gave }) gave.outcome quiet) ∙ h) in
        subst Facts same (record { hop = hop; choice = pick taken; before = refl; gave = is; holds = holds })

    -- what holds at stops of so many stages
    abbrev Holds : ℕ → Type 0
    Holds fuel = (hop : ℕ) (place : Place) (pick : ℕ → ℕ) (taken : ℕ) (ts : List TraceStep) (stop : Stop) → P ts place
        → first_stop (ends_in net) ts (free_walk_of fuel net (Some place) (at_hop hop) pick taken) ≡ Some stop → Facts stop

    sent_facts : (more hop after : ℕ) (place : Place) (set : List ℕ) (lower : Bool) (link : ℕ) (pick : ℕ → ℕ) (taken : ℕ) (ts : List TraceStep)
        (stop : Stop)
        → way_of net place p.destination ≡ Over set lower → Holds more → P ts place
        → by_gave more hop place pick taken ts (goes (outcomes.Send link) (at_hop after)) ≡ Some stop → Facts stop
    sent_facts more hop after place set lower link pick taken ts stop way ih holds h =
        let t =
        then_some (λ us. first_stop (ends_in net) us
        (free_walk_of more net (arrival (ends_in net link) place) (at_hop after) pick (taken + 1)))
        (left_behind (ends_in net) ts (Crossed link)) stop h in
        by_end t.0 t.1 (ends_in net link) refl t.2
      where
        by_end : (us : List TraceStep) → left_behind (ends_in net) ts (Crossed link) ≡ Some us → (o : Option ℕ) → ends_in net link ≡ o
            → first_stop (ends_in net) us (free_walk_of more net (arrival o place) (at_hop after) pick (taken + 1)) ≡ Some stop → Facts stop
        by_end us left None e h =
            absurd (none_stop (sym (ap (first_stop (ends_in net) us) (nowhere net more (at_hop after) pick (taken + 1))) ∙ h))
          where
            none_stop : None ≡ Some stop → ⊥
            none_stop e = cc
        by_end us left (Some node) e h =
            ih after (arrived_at node place) pick (taken + 1) us stop (next ts us place set lower link node way left e holds) h

    by_way : (more : ℕ) → Holds more → (hop : ℕ) (place : Place) (pick : ℕ → ℕ) (taken : ℕ) (ts : List TraceStep) (stop : Stop) → P ts place
        → (w : Way) → way_of net place p.destination ≡ w
        → free_step_of net place (at_hop hop) (pick taken) ≡ treated net place.node w (with_hop_limit hop p) (pick taken)
        → by_gave more hop place pick taken ts (treated net place.node w (with_hop_limit hop p) (pick taken)) ≡ Some stop → Facts stop
    by_way more ih hop place pick taken ts stop holds (NoWay reason) way is h =
        quiet_facts more hop place pick taken ts (treated net place.node (NoWay reason) (with_hop_limit hop p) (pick taken)) stop tt (sym is)
        holds h
    by_way more ih hop place pick taken ts stop holds Own way is h =
        quiet_facts more hop place pick taken ts (treated net place.node Own (with_hop_limit hop p) (pick taken)) stop
        (address_quiet net place.node (with_hop_limit hop p) (at_address (with_hop_limit hop p))) (sym is) holds h
    by_way more ih hop place pick taken ts stop holds (Into n) way is h =
        quiet_facts more hop place pick taken ts (treated net place.node (Into n) (with_hop_limit hop p) (pick taken)) stop
        (into_quiet net place.node n (slice_get net.sids n) (with_hop_limit hop p)) (sym is) holds h
    by_way more ih hop place pick taken ts stop holds (Over set false) way is h =
        sent_facts more hop hop place set false (member_of set (pick taken)) pick taken ts stop way ih holds h
    by_way more ih hop place pick taken ts stop holds (Over set true) way is h = by_limit (leb_tells hop 1)
      where
        by_limit : ((nat_le hop 1 ≡ true) × (hop ≤ 1)) ⊎ ((nat_le hop 1 ≡ false) × (1 < hop)) → Facts stop
        by_limit (inl low) =
            let gave : Gave = dropped net place.node reasons.HopLimit 0 (at_hop hop) in
            let gives = sent_low net place.node set (with_hop_limit hop p) (pick taken) low.1 in
            quiet_facts more hop place pick taken ts gave stop tt (sym (is ∙ gives)) holds
            (sym (ap (by_gave more hop place pick taken ts) gives) ∙ h)
        by_limit (inr high) =
            let gives = sent_high net place.node set (with_hop_limit hop p) (pick taken) high.1 in
            sent_facts more hop (hop - 1) place set true (member_of set (pick taken)) pick taken ts stop way ih holds
            (sym (ap (by_gave more hop place pick taken ts) gives) ∙ h)

    pub stop_facts : (fuel : ℕ) → Holds fuel
    unfolding walk_by
    stop_facts zero hop place pick taken ts stop holds h = absurd (cc)
    stop_facts (suc more) hop place pick taken ts stop holds h =
        by_way more (stop_facts more) hop place pick taken ts stop holds (way_of net place p.destination) refl refl
        (sym (unfolds more hop place pick taken ts) ∙ h)

-- ---- more stages, and other choices

stop_on : (to : Ends) (rest more : List TraceStep → Option Stop) (ts : List TraceStep) (s : Stage) (o : Outcome) (stop : Stop)
    → ((us : List TraceStep) → rest us ≡ Some stop → more us ≡ Some stop) → stop_by to rest ts s o ≡ Some stop
    → stop_by to more ts s o ≡ Some stop
stop_on to rest more ts s (outcomes.Send link) stop on h =
    let t = then_some rest (left_behind to ts (Crossed link)) stop h in
    ap (option_and_then more) t.1 ∙ on t.0 t.2
stop_on to rest more ts s (outcomes.Again n how) stop on h = h
stop_on to rest more ts s (outcomes.Hand n how family) stop on h = h
stop_on to rest more ts s outcomes.Local stop on h = h
stop_on to rest more ts s (outcomes.Drop reason error) stop on h = h

-- the stop of a walk is that of the walk with more stages
pub stop_longer : (net : Network) (few many : ℕ) → few ≤ many → (place : Option Place) (content : Content) (pick : ℕ → ℕ) (taken : ℕ)
    (ts : List TraceStep) (stop : Stop) → first_stop (ends_in net) ts (free_walk_of few net place content pick taken) ≡ Some stop
    → first_stop (ends_in net) ts (free_walk_of many net place content pick taken) ≡ Some stop
unfolding walk_by
stop_longer net zero many l place content pick taken ts stop h = absurd (cc)
stop_longer net (suc few) zero l place content pick taken ts stop h = absurd (omega arith)
stop_longer net (suc few) (suc many) l None content pick taken ts stop h = absurd (cc)
stop_longer net (suc few) (suc many) l (Some place) content pick taken ts stop h =
    let gave = free_step_of net place content (pick taken) in
    stop_on (ends_in net)
    (λ us. first_stop (ends_in net) us
    (free_walk_of few net (next_place net place gave.outcome) gave.after pick (taken + decisions gave.outcome)))
    (λ us. first_stop (ends_in net) us
    (free_walk_of many net (next_place net place gave.outcome) gave.after pick (taken + decisions gave.outcome)))
    ts (record { place = place; before = content; gave = gave }) gave.outcome stop
    (λ us. stop_longer net few many (omega arith) (next_place net place gave.outcome) gave.after pick (taken + decisions gave.outcome) us
    stop)
    h

-- the choices of the decisions from one on, so many of them, are the same
abbrev SamePicks : (ℕ → ℕ) → (ℕ → ℕ) → ℕ → ℕ → Type 0
SamePicks pick other taken fuel = (d : ℕ) → taken ≤ d → d < taken + fuel → pick d ≡ other d

later_same : (pick other : ℕ → ℕ) (taken more few : ℕ) → few ≤ 1 → SamePicks pick other taken (suc more)
    → SamePicks pick other (taken + few) more
later_same pick other taken more few low same = λ d from to. same d (omega arith) (omega arith)

-- a walk without MTUs depends on the choices of as many decisions as it has stages alone
pub same_walk : (fuel : ℕ) (net : Network) (place : Option Place) (content : Content) (pick other : ℕ → ℕ) (taken : ℕ)
    → SamePicks pick other taken fuel → free_walk_of fuel net place content pick taken ≡ free_walk_of fuel net place content other taken
unfolding walk_by
same_walk zero net place content pick other taken same = refl
same_walk (suc more) net None content pick other taken same = refl
same_walk (suc more) net (Some place) content pick other taken same =
    let here : pick taken ≡ other taken = same taken (omega arith) (omega arith) in
    let gave = free_step_of net place content (pick taken) in
    let rest =
    same_walk more net (next_place net place gave.outcome) gave.after pick other (taken + decisions gave.outcome)
    (later_same pick other taken more (decisions gave.outcome) (decisions_few gave.outcome) same) in
    ap (λ (ss : List Stage). (record { place = place; before = content; gave = gave }) ∷ ss) rest
    ∙ ap (λ (c : ℕ). let g = free_step_of net place content c in
    (record { place = place; before = content; gave = g })
    ∷ free_walk_of more net (next_place net place g.outcome) g.after other (taken + decisions g.outcome)) here
