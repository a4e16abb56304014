-- A network's walks have what the machine's walks have, under any choices, from any place and packets below, whatever is watched of them.
use Rattle.std.proofs.Common.{◌≡◌, ℕ, zero, suc, ◌+◌, ◌%◌, ◌<◌, ◌≤◌, Bool, true, false, ◌&&◌, nat_le, if◌then◌else◌, List, [], ◌∷◌, length, slice_index, slice_get, Option, Some, None, refl, sym, ap, ◌∙◌, subst, arith, mod-lt}
use Rattle.std.specs.Option.{option_map, option_and_then}
use Rattle.std.proofs.lemmas.Bool.{le-leb, lt-leb, leb-false, leb-true}
use Rattle.srv6_rules.specs.declared.sid.Behaviour.{Behaviour}
use Rattle.srv6_rules.specs.declared.family.Family.{Family}
use Rattle.srv6_rules.specs.declared.reason.Reason.{Reason}
use Rattle.srv6_rules.specs.declared.reason.Reason.TheVariants as reasons
use Rattle.srv6_rules.specs.declared.sid.SidEntry.{SidEntry}
use Rattle.srv6_rules.specs.Behaviours.{behaviour_policy}
use Rattle.srv6_rules.specs.Packet.{Packet, Content, V6}
use Rattle.srv6_rules.specs.Endpoint.{Endpoint, Onward, Exposed, Delivered, Refused, at_sid, at_address}
use Rattle.net_model.specs.declared.parts.NamedPolicy.{NamedPolicy}
use Rattle.net_model.specs.Network.{Network}
use Rattle.walk_rules.specs.declared.place.How.{How}
use Rattle.walk_rules.specs.declared.place.Place.{Place}
use Rattle.walk_rules.specs.declared.place.Outcome.{Outcome}
use Rattle.walk_rules.specs.declared.place.Outcome.TheVariants as outcomes
use Rattle.walk_rules.specs.Way.{Way, NoWay, Over, Own, Into, way_of}
use Rattle.walk_rules.specs.Treatment.{allow_of, member_of, lowered, dropped, goes, sent, treated_at_address}
use Rattle.walk_rules.specs.Walk.{next_place, decisions}
use Rattle.leg_table.specs.WalkTrace.{TraceEvent, Crossed, executed}
use Rattle.binding_spec.specs.TunnelStages.{TunnelGave, over, tunnel_bound, tunnel_onward, tunnel_at_sid, tunnel_in, tunnel_treated}
use Rattle.binding_spec.specs.TunnelWalks.{TunnelStage, tunnel_walk}
use Rattle.binding_spec.specs.OwnHands.{behind_push, most_stages}
use Rattle.binding_spec.specs.Machines.{Move, Fork, Fail}
use Rattle.tunnel_walks_theory.specs.MachinesTerms.{Got, Walking, link_at, link_of, got_after, got_over, got_by, got_of}
use Rattle.binding_spec.specs.TunnelPackets.{Look, Crosses, Executes, Pushes, Exposes, Loses, arrives}
use Rattle.tunnel_walks_theory.specs.TunnelPacketsTerms.{Tunnelled, tunnel_at, open_at, pushed_at, taken_off, under_by, tunnel_move}
use Rattle.binding_spec.specs.NetworkWorld.{at_how, leads, look_links, look_bound, look_onward, look_at_sid, look_in, look_by, look_at, step_events, world}

-- ---- the member of a set that a choice names

link_index : (first : ℕ) (rest : List ℕ) (n : ℕ) → n ≤ length rest → slice_index (first ∷ rest) n ≡ link_at first rest n
link_index first rest zero few = refl
link_index first [] (suc n) few = absurd (omega arith)
link_index first (next ∷ rest) (suc n) few = link_index next rest n (omega arith)

pub member_link : (first : ℕ) (rest : List ℕ) (choice : ℕ) → member_of (first ∷ rest) choice ≡ link_of first rest choice
member_link first rest choice =
    let low : choice % suc (length rest) < suc (length rest) = mod-lt choice (omega arith) in
    link_index first rest (choice % suc (length rest)) (omega (arith, low))

pub one_link : (first n : ℕ) → link_at first [] n ≡ first
one_link first zero = refl
one_link first (suc n) = refl

-- ---- what is watched

-- a word on a network's stages and a word on the machine's walk that are to be the same: what a stage makes of what its later stages
-- give, by the packets below, and what is done with the packet on top where nothing is below. Behind the events of a header both
-- only have these events more
pub record Watch (net : Network) (V R : Type 0) : Type 0 where
  pub first : ℕ → List TunnelStage → Option V
  pub stage : Place → TunnelGave → List Packet → Outcome → Option V → Option V
  pub after : List TraceEvent → V → V
  pub bottom : Look ℕ ℕ Place Packet Content → Move ℕ TraceEvent ℕ (Tunnelled Place Packet) R
  pub view : Got TraceEvent ℕ R → V
  pub none : (n : ℕ) → first n [] ≡ None
  pub some : (n : ℕ) (s : TunnelStage) (ss : List TunnelStage)
      → first n (s ∷ ss)
      ≡ (if nat_le (behind_push n s.under + 1) most_stages
      then stage s.place s.gave s.under s.gave.outcome (first (behind_push n s.under) ss) else None)
  pub seen : (events : List TraceEvent) (g : Got TraceEvent ℕ R) → after events (view g) ≡ view (got_after events [] g)
  pub sends : (place : Place) (gave : TunnelGave) (under : List Packet) (link : ℕ) (later : Option V)
      → stage place gave under (outcomes.Send link) later ≡ option_map (after (Crossed link ∷ [])) later
  pub stops : (place : Place) (gave : TunnelGave) (under : List Packet) (later : Option V)
      → stage place gave under outcomes.Local later ≡ None
  pub drops : (place : Place) (gave : TunnelGave) (under : List Packet) (reason : Reason) (error : Bool) (later : Option V)
      → stage place gave under (outcomes.Drop reason error) later ≡ None
  pub executes_under : (place : Place) (gave : TunnelGave) (q : Packet) (under : List Packet) (sid : ℕ) (how : How) (later : Option V)
      → stage place gave (q ∷ under) (outcomes.Again sid how) later ≡ option_map (after (executed net sid)) later
  pub exposes_under : (place : Place) (gave : TunnelGave) (q : Packet) (under : List Packet) (sid : ℕ) (how : How) (family : Family)
      → (later : Option V) → stage place gave (q ∷ under) (outcomes.Hand sid how family) later ≡ option_map (after (executed net sid)) later
  pub crosses : (link : ℕ) (links : List ℕ) (to : ℕ → Option Place) (own : Packet)
      → bottom (Crosses link links to own) ≡ Fork link links (arrives to (λ place. open_at place own))
  pub loses : bottom Loses ≡ Fail
  pub executes : (go : Walking TraceEvent ℕ (Tunnelled Place Packet) R) (pick : ℕ → ℕ) (taken : ℕ) (place : Place) (sid : ℕ) (how : How) (q : Packet)
      → (later : Option V) → later ≡ option_map view (go (open_at (at_how place how) q) pick taken)
      → stage place (over [] (goes (outcomes.Again sid how) (V6 q))) [] (outcomes.Again sid how) later
      ≡ option_map view (got_by step_events go (bottom (Executes sid (at_how place how) q)) pick taken)
  pub pushes : (go : Walking TraceEvent ℕ (Tunnelled Place Packet) R) (pick : ℕ → ℕ) (taken : ℕ) (place : Place) (sid : ℕ) (how : How)
      → (new q : Packet) (later : Option V) → later ≡ option_map view (go (pushed_at (at_how place how) new q) pick taken)
      → stage place (record { outcome = outcomes.Again sid how; after = V6 new; below = q ∷ [] }) [] (outcomes.Again sid how) later
      ≡ option_map view (got_by step_events go (bottom (Pushes sid (at_how place how) new q)) pick taken)
  pub exposes : (go : Walking TraceEvent ℕ (Tunnelled Place Packet) R) (pick : ℕ → ℕ) (taken : ℕ) (place : Place) (sid : ℕ) (how : How)
      → (family : Family) (inside : Content) (later : Option V)
      → stage place (over [] (goes (outcomes.Hand sid how family) inside)) [] (outcomes.Hand sid how family) later
      ≡ option_map view (got_by step_events go
      (bottom (Exposes sid (record { node = place.node; how = how; family = family }) inside)) pick taken)

-- how stages behind a push are counted on both sides; with nothing below neither count matters
abbrev pub Counts : List Packet → ℕ → ℕ → Type 0
Counts [] n used = Unit {0}
Counts (q ∷ bs) n used = used ≡ suc n

module _ (net : Network) (V R : Type 0) (w : Watch net V R) (pick : ℕ → ℕ) where
  abbrev watched : Tunnelled Place Packet → Move ℕ TraceEvent ℕ (Tunnelled Place Packet) R
  watched = tunnel_move (world net most_stages) (λ place own. w.bottom (look_at net place own))

  abbrev machine_got : ℕ → Tunnelled Place Packet → ℕ → Option (Got TraceEvent ℕ R)
  machine_got fuel d taken = got_of step_events watched fuel d pick taken

  abbrev net_first : ℕ → ℕ → Option Place → Content → List Packet → ℕ → Option V
  net_first n fuel place content below taken = w.first n (tunnel_walk fuel net place content below pick taken)

  abbrev pub Same : ℕ → Type 0
  Same fuel =
      (place : Place) (p : Packet) (below : List Packet) (n used t u : ℕ) → Counts below n used → t ≡ u
      → net_first n fuel (Some place) (V6 p) below t ≡ option_map w.view (machine_got fuel (tunnel_at p below used place) u)

  -- what a stage gives, and its later ones
  abbrev after_gave : ℕ → ℕ → Place → List Packet → ℕ → TunnelGave → Option V
  after_gave n more place below taken gave =
      w.stage place gave below gave.outcome
      (net_first n more (next_place net place gave.outcome) gave.after gave.below (taken + decisions gave.outcome))

  nowhere : (n more : ℕ) (content : Content) (below : List Packet) (taken : ℕ) → net_first n more None content below taken ≡ None
  unfolding tunnel_walk
  nowhere n zero content below taken = w.none n
  nowhere n (suc more) content below taken = w.none n

  behind : (events : List TraceEvent) (o : Option (Got TraceEvent ℕ R))
      → option_map (w.after events) (option_map w.view o) ≡ option_map w.view (option_map (got_after events []) o)
  behind events None = refl
  behind events (Some g) = ap Some (w.seen events g)

  -- a packet that is sent
  sent_on : (more : ℕ) → Same more → (link : ℕ) (p : Packet) (below : List Packet) (n used taken : ℕ) → Counts below n used
      → (o : Option Place)
      → option_map (w.after (Crossed link ∷ [])) (net_first n more o (V6 p) below (taken + 1))
      ≡ option_map w.view (option_map (got_after (Crossed link ∷ []) [])
      (option_and_then (λ next. machine_got more next (suc taken)) (option_map (tunnel_at p below used) o)))
  sent_on more ih link p below n used taken counts None =
      ap (option_map (w.after (Crossed link ∷ []))) (nowhere n more (V6 p) below (taken + 1))
  sent_on more ih link p below n used taken counts (Some place) =
      let t : taken + 1 ≡ suc taken = omega arith in
      ap (option_map (w.after (Crossed link ∷ []))) (ih place p below n used (taken + 1) (suc taken) counts t)
      ∙ behind (Crossed link ∷ []) (machine_got more (tunnel_at p below used place) (suc taken))

  -- a packet that stays, when the SID of a header was executed
  other_on : (more : ℕ) → Same more → (sid : ℕ) (place : Place) (p : Packet) (below : List Packet) (n used taken : ℕ) → Counts below n used
      → option_map (w.after (executed net sid)) (net_first n more (Some place) (V6 p) below (taken + 0))
      ≡ option_map w.view (option_map (got_after (executed net sid) []) (machine_got more (tunnel_at p below used place) taken))
  other_on more ih sid place p below n used taken counts =
      let t : taken + 0 ≡ taken = omega arith in
      ap (option_map (w.after (executed net sid))) (ih place p below n used (taken + 0) taken counts t)
      ∙ behind (executed net sid) (machine_got more (tunnel_at p below used place) taken)

  -- ---- with nothing below

  abbrev own_got : ℕ → ℕ → Look ℕ ℕ Place Packet Content → Option V
  own_got more taken look = option_map w.view (got_by step_events (got_of step_events watched more) (w.bottom look) pick taken)

  own_lost : (more taken : ℕ) → own_got more taken Loses ≡ None
  own_lost more taken = ap (λ m. option_map w.view (got_by step_events (got_of step_events watched more) m pick taken)) w.loses

  own_dropped : (more : ℕ) (place : Place) (taken : ℕ) (reason : Reason) (detail : ℕ) (p : Packet)
      → after_gave 0 more place [] taken (over [] (dropped net place.node reason detail (V6 p))) ≡ own_got more taken Loses
  own_dropped more place taken reason detail p = w.drops place _ [] reason _ _ ∙ sym (own_lost more taken)

  own_local : (more : ℕ) (place : Place) (taken : ℕ) (p : Packet)
      → after_gave 0 more place [] taken (over [] (goes outcomes.Local (V6 p))) ≡ own_got more taken Loses
  own_local more place taken p = w.stops place _ [] _ ∙ sym (own_lost more taken)

  -- over the link that a choice takes of a set
  own_over : (more : ℕ) → Same more → (place : Place) (link : ℕ) (first : ℕ) (rest : List ℕ) (p : Packet) (taken : ℕ)
      → link ≡ link_of first rest (pick taken)
      → after_gave 0 more place [] taken (over [] (goes (outcomes.Send link) (V6 p)))
      ≡ own_got more taken (Crosses first rest (leads net place) p)
  own_over more ih place link first rest p taken same =
      w.sends place _ [] link _
      ∙ sent_on more ih link p [] 0 0 taken tt (leads net place link)
      ∙ ap (λ (k : ℕ). option_map w.view (got_over step_events (got_of step_events watched more)
      (arrives (leads net place) (λ place. open_at place p)) k pick taken)) same
      ∙ sym (ap (λ m. option_map w.view (got_by step_events (got_of step_events watched more) m pick taken))
      (w.crosses first rest (leads net place) p))

  own_links : (more : ℕ) → Same more → (place : Place) (set : List ℕ) (p : Packet) (taken : ℕ)
      → after_gave 0 more place [] taken (over [] (goes (outcomes.Send (member_of set (pick taken))) (V6 p)))
      ≡ own_got more taken (look_links net place set p)
  own_links more ih place [] p taken = own_over more ih place 0 0 [] p taken (sym (one_link 0 (pick taken % 1)))
  own_links more ih place (link ∷ links) p taken =
      own_over more ih place (member_of (link ∷ links) (pick taken)) link links p taken (member_link link links (pick taken))

  own_sent : (more : ℕ) → Same more → (place : Place) (set : List ℕ) (lower : Bool) (p : Packet) (taken : ℕ)
      → after_gave 0 more place [] taken (over [] (sent net place.node set lower p (pick taken)))
      ≡ own_got more taken (look_by net place (Over set lower) p)
  own_sent more ih place set lower p taken = by_test (lower && nat_le p.hop_limit 1)
    where
      by_test : (b : Bool) → after_gave 0 more place [] taken (over []
          (if b then dropped net place.node reasons.HopLimit 0 (V6 p)
          else goes (outcomes.Send (member_of set (pick taken))) (V6 (lowered lower p))))
          ≡ own_got more taken (if b then Loses else look_links net place set (lowered lower p))
      by_test true = own_dropped more place taken reasons.HopLimit 0 p
      by_test false = own_links more ih place set (lowered lower p) taken

  own_address : (more : ℕ) (place : Place) (p : Packet) (taken : ℕ) (e : Endpoint)
      → after_gave 0 more place [] taken (over [] (treated_at_address net place.node p e)) ≡ own_got more taken Loses
  own_address more place p taken (Onward q) = own_dropped more place taken reasons.NoRoute 0 p
  own_address more place p taken (Exposed family bytes) = own_dropped more place taken reasons.NoRoute 0 p
  own_address more place p taken (Delivered q) = own_local more place taken q
  own_address more place p taken (Refused reason at) = own_dropped more place taken reason at p

  later_on : (more : ℕ) → Same more → (place : Place) (p : Packet) (below : List Packet) (n used taken : ℕ) → Counts below n used
      → net_first n more (Some place) (V6 p) below (taken + 0) ≡ option_map w.view (machine_got more (tunnel_at p below used place) taken)
  later_on more ih place p below n used taken counts =
      let t : taken + 0 ≡ taken = omega arith in
      ih place p below n used (taken + 0) taken counts t

  own_bound : (more : ℕ) → Same more → (place : Place) (n : ℕ) (b : Behaviour) (p q : Packet) (taken : ℕ) (o : Option NamedPolicy)
      → after_gave 0 more place [] taken (tunnel_bound net place.node n b p q [] o) ≡ own_got more taken (look_bound net place n b q o)
  own_bound more ih place n b p q taken None = own_dropped more place taken reasons.NoRoute 0 p
  own_bound more ih place n b p q taken (Some named) =
      w.pushes (got_of step_events watched more) pick taken place n _ _ q _ (later_on more ih _ _ (q ∷ []) 0 1 taken refl)

  own_onward : (more : ℕ) → Same more → (place : Place) (n : ℕ) (b : Behaviour) (p q : Packet) (taken : ℕ) (o : Option ℕ)
      → after_gave 0 more place [] taken (tunnel_onward net place.node n b p q [] o) ≡ own_got more taken (look_onward net place n b q o)
  own_onward more ih place n b p q taken None =
      w.executes (got_of step_events watched more) pick taken place n _ q _ (later_on more ih _ q [] 0 0 taken tt)
  own_onward more ih place n b p q taken (Some number) = own_bound more ih place n b p q taken (slice_get net.policies number)

  own_sid : (more : ℕ) → Same more → (place : Place) (n : ℕ) (b : Behaviour) (p : Packet) (taken : ℕ) (e : Endpoint)
      → after_gave 0 more place [] taken (tunnel_at_sid net place.node n b p [] e) ≡ own_got more taken (look_at_sid net place n b e)
  own_sid more ih place n b p taken (Onward q) = own_onward more ih place n b p q taken (behaviour_policy b)
  own_sid more ih place n b p taken (Exposed family bytes) = w.exposes (got_of step_events watched more) pick taken place n _ family _ _
  own_sid more ih place n b p taken (Delivered q) = own_local more place taken q
  own_sid more ih place n b p taken (Refused reason at) = own_dropped more place taken reason at p

  own_in : (more : ℕ) → Same more → (place : Place) (n : ℕ) (p : Packet) (taken : ℕ) (o : Option SidEntry)
      → after_gave 0 more place [] taken (tunnel_in net place.node n o p []) ≡ own_got more taken (look_in net place n o p)
  own_in more ih place n p taken None = own_dropped more place taken reasons.NoRoute 0 p
  own_in more ih place n p taken (Some s) =
      own_sid more ih place n s.behaviour p taken (at_sid s (allow_of (slice_get net.nodes place.node)) p)

  own_way : (more : ℕ) → Same more → (place : Place) (p : Packet) (taken : ℕ) (way : Way)
      → after_gave 0 more place [] taken (tunnel_treated net place.node way p [] (pick taken)) ≡ own_got more taken (look_by net place way p)
  own_way more ih place p taken (NoWay reason) = own_dropped more place taken reason 0 p
  own_way more ih place p taken (Over set lower) = own_sent more ih place set lower p taken
  own_way more ih place p taken Own = own_address more place p taken (at_address p)
  own_way more ih place p taken (Into n) = own_in more ih place n p taken (slice_get net.sids n)

  -- ---- below a header

  module _ (more : ℕ) (ih : Same more) (place : Place) (b : Packet) (bs : List Packet) (n used taken : ℕ) (counts : suc used ≡ suc n) where
    abbrev under_got : Look ℕ ℕ Place Packet Content → Option V
    under_got look =
        option_map w.view (got_by step_events (got_of step_events watched more)
        (under_by (world net most_stages) b bs used look) pick taken)

    under_dropped : (reason : Reason) (detail : ℕ) (p : Packet)
        → after_gave n more place (b ∷ bs) taken (over (b ∷ bs) (dropped net place.node reason detail (V6 p))) ≡ None
    under_dropped reason detail p = w.drops place _ (b ∷ bs) reason _ _

    under_local : (p : Packet) → after_gave n more place (b ∷ bs) taken (over (b ∷ bs) (goes outcomes.Local (V6 p))) ≡ None
    under_local p = w.stops place _ (b ∷ bs) _

    under_over : (link first : ℕ) (rest : List ℕ) (p : Packet) → link ≡ link_of first rest (pick taken)
        → after_gave n more place (b ∷ bs) taken (over (b ∷ bs) (goes (outcomes.Send link) (V6 p)))
        ≡ under_got (Crosses first rest (leads net place) p)
    under_over link first rest p same =
        w.sends place _ (b ∷ bs) link _
        ∙ sent_on more ih link p (b ∷ bs) n (suc used) taken counts (leads net place link)
        ∙ ap (λ (k : ℕ). option_map w.view (got_over step_events (got_of step_events watched more)
        (arrives (leads net place) (tunnel_at p (b ∷ bs) (suc used))) k pick taken)) same

    under_links : (set : List ℕ) (p : Packet)
        → after_gave n more place (b ∷ bs) taken (over (b ∷ bs) (goes (outcomes.Send (member_of set (pick taken))) (V6 p)))
        ≡ under_got (look_links net place set p)
    under_links [] p = under_over 0 0 [] p (sym (one_link 0 (pick taken % 1)))
    under_links (link ∷ links) p = under_over (member_of (link ∷ links) (pick taken)) link links p (member_link link links (pick taken))

    under_sent : (set : List ℕ) (lower : Bool) (p : Packet)
        → after_gave n more place (b ∷ bs) taken (over (b ∷ bs) (sent net place.node set lower p (pick taken)))
        ≡ under_got (look_by net place (Over set lower) p)
    under_sent set lower p = by_test (lower && nat_le p.hop_limit 1)
      where
        by_test : (c : Bool) → after_gave n more place (b ∷ bs) taken (over (b ∷ bs)
            (if c then dropped net place.node reasons.HopLimit 0 (V6 p)
            else goes (outcomes.Send (member_of set (pick taken))) (V6 (lowered lower p))))
            ≡ under_got (if c then Loses else look_links net place set (lowered lower p))
        by_test true = under_dropped reasons.HopLimit 0 p
        by_test false = under_links set (lowered lower p)

    under_address : (p : Packet) (e : Endpoint)
        → after_gave n more place (b ∷ bs) taken (over (b ∷ bs) (treated_at_address net place.node p e)) ≡ None
    under_address p (Onward q) = under_dropped reasons.NoRoute 0 p
    under_address p (Exposed family bytes) = under_dropped reasons.NoRoute 0 p
    under_address p (Delivered q) = under_local q
    under_address p (Refused reason at) = under_dropped reason at p

    under_bound : (sid : ℕ) (y : Behaviour) (p q : Packet) (o : Option NamedPolicy)
        → after_gave n more place (b ∷ bs) taken (tunnel_bound net place.node sid y p q (b ∷ bs) o) ≡ under_got
        (look_bound net place sid y q o)
    under_bound sid y p q None = under_dropped reasons.NoRoute 0 p
    under_bound sid y p q (Some named) =
        w.executes_under place _ b bs sid _ _ ∙ other_on more ih sid _ _ (q ∷ b ∷ bs) n (suc used) taken counts

    under_onward : (sid : ℕ) (y : Behaviour) (p q : Packet) (o : Option ℕ)
        → after_gave n more place (b ∷ bs) taken (tunnel_onward net place.node sid y p q (b ∷ bs) o)
        ≡ under_got (look_onward net place sid y q o)
    under_onward sid y p q None =
        w.executes_under place _ b bs sid _ _ ∙ other_on more ih sid _ q (b ∷ bs) n (suc used) taken counts
    under_onward sid y p q (Some number) = under_bound sid y p q (slice_get net.policies number)

  under_off : (more : ℕ) → Same more → (place : Place) (sid : ℕ) (b : Packet) (bs : List Packet) (n used taken : ℕ) → suc used ≡ suc n
      → option_map (w.after (executed net sid)) (net_first n more (Some place) (V6 b) bs (taken + 0))
      ≡ option_map w.view (option_map (got_after (executed net sid) []) (machine_got more (taken_off place b bs used) taken))
  under_off more ih place sid b [] n used taken counts = other_on more ih sid place b [] n 0 taken tt
  under_off more ih place sid b (c ∷ cs) n used taken counts = other_on more ih sid place b (c ∷ cs) n (suc used) taken counts

  module _ (more : ℕ) (ih : Same more) (place : Place) (b : Packet) (bs : List Packet) (n used taken : ℕ) (counts : suc used ≡ suc n) where
    abbrev down_got : Look ℕ ℕ Place Packet Content → Option V
    down_got look = under_got more ih place b bs n used taken counts look

    under_sid : (sid : ℕ) (y : Behaviour) (p : Packet) (e : Endpoint)
        → after_gave n more place (b ∷ bs) taken (tunnel_at_sid net place.node sid y p (b ∷ bs) e) ≡ down_got (look_at_sid net place sid y e)
    under_sid sid y p (Onward q) = under_onward more ih place b bs n used taken counts sid y p q (behaviour_policy y)
    under_sid sid y p (Exposed family bytes) =
        w.exposes_under place _ b bs sid _ family _ ∙ under_off more ih _ sid b bs n used taken counts
    under_sid sid y p (Delivered q) = under_local more ih place b bs n used taken counts q
    under_sid sid y p (Refused reason at) = under_dropped more ih place b bs n used taken counts reason at p

    under_in : (sid : ℕ) (p : Packet) (o : Option SidEntry)
        → after_gave n more place (b ∷ bs) taken (tunnel_in net place.node sid o p (b ∷ bs)) ≡ down_got (look_in net place sid o p)
    under_in sid p None = under_dropped more ih place b bs n used taken counts reasons.NoRoute 0 p
    under_in sid p (Some s) = under_sid sid s.behaviour p (at_sid s (allow_of (slice_get net.nodes place.node)) p)

    under_way : (p : Packet) (way : Way)
        → after_gave n more place (b ∷ bs) taken (tunnel_treated net place.node way p (b ∷ bs) (pick taken)) ≡ down_got
        (look_by net place way p)
    under_way p (NoWay reason) = under_dropped more ih place b bs n used taken counts reason 0 p
    under_way p (Over set lower) = under_sent more ih place b bs n used taken counts set lower p
    under_way p Own = under_address more ih place b bs n used taken counts p (at_address p)
    under_way p (Into sid) = under_in sid p (slice_get net.sids sid)

  -- ---- whole walks

  -- behind the last stage that the limit allows both are lost
  within : (n used : ℕ) (a : Option V) (m : Move ℕ TraceEvent ℕ (Tunnelled Place Packet) R) (more taken : ℕ) → used ≡ suc n
      → a ≡ option_map w.view (got_by step_events (got_of step_events watched more) m pick taken)
      → (if nat_le (n + 1 + 1) most_stages then a else None)
      ≡ option_map w.view (got_by step_events (got_of step_events watched more) (if nat_le most_stages used then Fail else m) pick taken)
  within n used a m more taken counts same = by_test (nat_le most_stages used) refl
    where
      by_test : (c : Bool) → nat_le most_stages used ≡ c
          → (if nat_le (n + 1 + 1) most_stages then a else None)
          ≡ option_map w.view (got_by step_events (got_of step_events watched more) (if c then Fail else m) pick taken)
      by_test true e =
          let over : most_stages ≤ used = leb-true _ _ e in
          ap (λ d. if d then a else None) (lt-leb (n + 1 + 1) most_stages (omega (arith, over, counts)))
      by_test false e =
          let below : used < most_stages = leb-false _ _ e in
          ap (λ d. if d then a else None) (le-leb (n + 1 + 1) most_stages (omega (arith, below, counts))) ∙ same

  pub watched_same : (fuel : ℕ) → Same fuel
  unfolding tunnel_walk got_of
  watched_same zero place p below n used t u counts e = w.none n
  watched_same (suc more) place p [] n used t u counts e =
      w.some n _ _
      ∙ subst (λ v. after_gave 0 more place [] t (tunnel_treated net place.node (way_of net place p.destination) p [] (pick t))
      ≡ own_got more v (look_by net place (way_of net place p.destination) p)) e
      (own_way more (watched_same more) place p t (way_of net place p.destination))
  watched_same (suc more) place p (b ∷ bs) n used t u counts e =
      w.some n _ _
      ∙ subst (λ v. (if nat_le (n + 1 + 1) most_stages
      then after_gave (n + 1) more place (b ∷ bs) t (tunnel_treated net place.node (way_of net place p.destination) p (b ∷ bs) (pick t))
      else None)
      ≡ option_map w.view (machine_got (suc more) (tunnel_at p (b ∷ bs) used place) v)) e
      (within n used
      (after_gave (n + 1) more place (b ∷ bs) t (tunnel_treated net place.node (way_of net place p.destination) p (b ∷ bs) (pick t)))
      (under_by (world net most_stages) b bs used (look_by net place (way_of net place p.destination) p)) more t counts
      (under_way more (watched_same more) place b bs (n + 1) used t (omega (arith, counts)) p (way_of net place p.destination)))
