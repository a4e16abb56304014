-- What walks hand over: with more fuel, under other choices, and along a transit.
use Rattle.std.proofs.Common.{◌≡◌, ℕ, zero, suc, ◌+◌, ◌-◌, ◌<◌, ◌≤◌, ◌⊎◌, inl, inr, Bool, true, false, ◌&&◌, if◌then◌else◌, List, [], ◌∷◌, ◌++◌, length, Option, Some, None, refl, sym, ◌∙◌, ap, subst, arith, append_assoc, zero-add, add-zero}
use Rattle.std.specs.Prelude.{is_some}
use Rattle.std.specs.Option.{option_map}
use Rattle.std.proofs.lemmas.Bool.{false≢true, and_parts}
use Rattle.srv6_rules.specs.Packet.{Packet, Content, V6}
use Rattle.net_model.specs.Network.{Network}
use Rattle.net_model.specs.NetworkKeeps.{Keeps}
use Rattle.walk_rules.specs.declared.place.How.{How}
use Rattle.walk_rules.specs.declared.place.Place.{Place}
use Rattle.walk_rules.specs.declared.place.Outcome.{Outcome}
use Rattle.walk_rules.specs.declared.place.Outcome.TheVariants as outcomes
use Rattle.walk_rules.specs.Way.{Way, Over, way_of}
use Rattle.walk_rules.specs.Treatment.{Gave, goes, member_of, lowered, treated, free_step_of as step_of}
use Rattle.walk_rules.specs.Relation.{IsHow}
use Rattle.walk_rules.specs.Walk as walks
use Rattle.walk_rules.specs.Walk.{walk_by, free_walk_of as walk_of, next_place, decisions}
use Rattle.walk_rules.proofs.PublicLaws.{sent_high}
use Rattle.intent_reader.specs.IntentRules.{stand_after}
use Rattle.intent_reader.specs.declared.intent.Step.{Step}
use Rattle.intent_reader.specs.declared.intent.Step.TheVariants.{Links}
use Rattle.leg_table.specs.WalkTrace.{TraceEvent, Crossed, Executed, is_titled, executed, Handed, after_events, after_execution, handed_first, handed_over}
use Rattle.leg_table.specs.StepMatching.{has_link, meets, matches}
use Rattle.leg_table.specs.Transits.{Transit, one_if, more_lowered, transit_of}
use Rattle.leg_table.specs.TransitsTerms.{with_hop_limit}
use Rattle.leg_table.proofs.StrictOptions.{map_some}
use Rattle.leg_table.proofs.StrictChoices.{first_same}
use Rattle.leg_table.proofs.StrictTransits.{arrived, same_packet}
use Rattle.leg_table.proofs.TransitFacts.{IsSent, transit_each}

-- events before events
pub after_after : (xs ys : List TraceEvent) (o : Option Handed)
    → option_map (after_events xs) (option_map (after_events ys) o) ≡ option_map (after_events (xs ++ ys)) o
after_after xs ys None = refl
after_after xs ys (Some h) = ap (λ (t : List TraceEvent). Some (record { trace = t; sids = h.sids; content = h.content }))
    (sym (append_assoc xs ys h.trace))

pub after_none : (o : Option Handed) → option_map (after_events []) o ≡ o
after_none None = refl
after_none (Some h) = refl

module _ (net : Network) where
  -- what a walk hands over, by what its first stage gives
  pub handed_stage : (more : ℕ) (place : Place) (content : Content) (pick : ℕ → ℕ) (taken : ℕ) (gave : Gave)
      → step_of net place content (pick taken) ≡ gave
      → handed_over net (walk_of (suc more) net (Some place) content pick taken)
      ≡ handed_first net gave gave.outcome
      (handed_over net (walk_of more net (next_place net place gave.outcome) gave.after pick (taken + decisions gave.outcome)))
  unfolding walk_by
  handed_stage more place content pick taken gave e =
      ap (λ (g : Gave). handed_first net g g.outcome
      (handed_over net (walk_of more net (next_place net place g.outcome) g.after pick (taken + decisions g.outcome)))) e

  -- a walk that hands over has a first stage, and hands over by it
  pub first_stage : (fuel : ℕ) (place : Place) (content : Content) (pick : ℕ → ℕ) (taken : ℕ) (h : Handed) (gave : Gave)
      → step_of net place content (pick taken) ≡ gave → handed_over net (walk_of fuel net (Some place) content pick taken) ≡ Some h
      → (more : ℕ)
      × (handed_first net gave gave.outcome
      (handed_over net (walk_of more net (next_place net place gave.outcome) gave.after pick (taken + decisions gave.outcome))) ≡ Some h)
  unfolding walk_by
  first_stage zero place content pick taken h gave gives e = absurd (cc)
  first_stage (suc more) place content pick taken h gave gives e =
      (more, sym (handed_stage more place content pick taken gave gives) ∙ e)

  -- what is handed over after an execution, by the stage of the execution
  pub handed_behind : (fuel : ℕ) (place next : Place) (content after : Content) (pick : ℕ → ℕ) (taken n : ℕ) (how : How) (h : Handed)
      → step_of net place content (pick taken) ≡ goes (outcomes.Again n how) after
      → next_place net place (outcomes.Again n how) ≡ Some next
      → handed_over net (walk_of fuel net (Some next) after pick (taken + 0)) ≡ Some h
      → handed_over net (walk_of (suc fuel) net (Some place) content pick taken) ≡ Some (after_execution net n h)
  handed_behind fuel place next content after pick taken n how h stage leads e =
      handed_stage fuel place content pick taken (goes (outcomes.Again n how) after) stage
      ∙ ap (λ (o : Option Place). option_map (after_execution net n) (handed_over net (walk_of fuel net o after pick (taken + 0))))
      leads
      ∙ ap (option_map (after_execution net n)) e

  -- rows that agree from here on give one walk
  pub walk_same : (fuel : ℕ) (o : Option Place) (content : Content) (pick qick : ℕ → ℕ) (taken uaken : ℕ)
      → ((d : ℕ) → pick (taken + d) ≡ qick (uaken + d))
      → walk_of fuel net o content pick taken ≡ walk_of fuel net o content qick uaken
  unfolding walk_by
  walk_same zero o content pick qick taken uaken same = refl
  walk_same (suc more) None content pick qick taken uaken same = refl
  walk_same (suc more) (Some place) content pick qick taken uaken same =
      let stage : ℕ → walks.Stage = λ c. record { place = place; before = content; gave = step_of net place content c } in
      let at_first : pick taken ≡ qick uaken = first_same taken uaken pick qick (same 0) in
      let gave = step_of net place content (pick taken) in
      ap (λ (rest : List walks.Stage). stage (pick taken) ∷ rest)
      (walk_same more (next_place net place gave.outcome) gave.after pick qick (taken + decisions gave.outcome)
      (uaken + decisions gave.outcome)
      (later taken uaken (decisions gave.outcome) pick qick same))
      ∙ ap (λ (c : ℕ). let gave = step_of net place content c in
      stage c ∷ walk_of more net (next_place net place gave.outcome) gave.after qick (uaken + decisions gave.outcome)) at_first
    where
      later : (a b k : ℕ) (p q : ℕ → ℕ) → ((d : ℕ) → p (a + d) ≡ q (b + d)) → (d : ℕ) → p (a + k + d) ≡ q (b + k + d)
      later a b k p q same d = ap p (omega arith) ∙ (same (k + d) ∙ ap q (omega arith))

  first_more : (gave : Gave) (o : Outcome) (later more : Option Handed) (h : Handed) → ((k : Handed) → later ≡ Some k → more ≡ Some k)
      → handed_first net gave o later ≡ Some h → handed_first net gave o more ≡ Some h
  first_more gave (outcomes.Hand n how family) later more h f e = e
  first_more gave (outcomes.Again n how) later more h f e =
      let got = map_some (after_execution net n) later h e in
      ap (option_map (after_execution net n)) (f got.0 got.1) ∙ ap Some got.2
  first_more gave (outcomes.Send link) later more h f e =
      let got = map_some (after_events (Crossed link ∷ [])) later h e in
      ap (option_map (after_events (Crossed link ∷ []))) (f got.0 got.1) ∙ ap Some got.2
  first_more gave outcomes.Local later more h f e = absurd (cc)
  first_more gave (outcomes.Drop reason error) later more h f e = absurd (cc)

  -- more fuel hands over the same
  pub handed_more : (m n : ℕ) (o : Option Place) (content : Content) (pick : ℕ → ℕ) (taken : ℕ) (h : Handed)
      → handed_over net (walk_of m net o content pick taken) ≡ Some h → handed_over net (walk_of (m + n) net o content pick taken) ≡ Some h
  unfolding walk_by
  handed_more zero n o content pick taken h e = absurd (cc)
  handed_more (suc m) n None content pick taken h e = absurd (cc)
  handed_more (suc m) n (Some place) content pick taken h e =
      let f : suc m + n ≡ suc (m + n) = omega arith in
      let gave = step_of net place content (pick taken) in
      rw f
      (first_more gave gave.outcome (handed_over net
      (walk_of m net (next_place net place gave.outcome) gave.after pick (taken + decisions gave.outcome)))
      (handed_over net (walk_of (m + n) net (next_place net place gave.outcome) gave.after pick (taken + decisions gave.outcome))) h
      (λ k. handed_more m n (next_place net place gave.outcome) gave.after pick (taken + decisions gave.outcome) k) e)

  -- the events of an execution, before others, that meet steps
  pub executed_meets : (ts : List Step) (n : ℕ) (es : List TraceEvent) → matches ts (executed net n ++ es) ≡ true
      → (us : List Step) × (matches us es ≡ true) × (length us ≤ length ts)
  executed_meets ts n es h = by_title (is_titled net n) ts h
    where
      by_title : (t : Bool) (ts : List Step) → matches ts ((if t then Executed n ∷ [] else []) ++ es) ≡ true
          → (us : List Step) × (matches us es ≡ true) × (length us ≤ length ts)
      by_title false ts h = (ts, h, omega arith)
      by_title true [] h = absurd (false≢true h)
      by_title true (t ∷ ts) h = (ts, (and_parts (meets t (Executed n)) (matches ts es) h).1, omega arith)

  first_agree : (gave : Gave) (o : Outcome) (ts : List Step) (later other : Option Handed) (h : Handed)
      → ((us : List Step) (k : Handed) → length us + decisions o ≤ length ts → matches us k.trace ≡ true → later ≡ Some k → other ≡ Some k)
      → matches ts h.trace ≡ true → handed_first net gave o later ≡ Some h → handed_first net gave o other ≡ Some h
  first_agree gave (outcomes.Hand n how family) ts later other h f m e = e
  first_agree gave (outcomes.Again n how) ts later other h f m e =
      let got = map_some (after_execution net n) later h e in
      let met : matches ts (executed net n ++ got.0.trace) ≡ true = ap (λ (k : Handed). matches ts k.trace) got.2 ∙ m in
      let us = executed_meets ts n got.0.trace met in
      ap (option_map (after_execution net n)) (f us.0 got.0 (omega (arith, us.2)) us.1 got.1) ∙ ap Some got.2
  first_agree gave (outcomes.Send link) [] later other h f m e =
      let got = map_some (after_events (Crossed link ∷ [])) later h e in
      let met : matches [] (Crossed link ∷ got.0.trace) ≡ true = ap (λ (k : Handed). matches [] k.trace) got.2 ∙ m in
      absurd (false≢true met)
  first_agree gave (outcomes.Send link) (t ∷ ts) later other h f m e =
      let got = map_some (after_events (Crossed link ∷ [])) later h e in
      let met : matches (t ∷ ts) (Crossed link ∷ got.0.trace) ≡ true = ap (λ (k : Handed). matches (t ∷ ts) k.trace) got.2 ∙ m in
      let parts = and_parts (meets t (Crossed link)) (matches ts got.0.trace) met in
      ap (option_map (after_events (Crossed link ∷ []))) (f ts got.0 (omega arith) parts.1 got.1) ∙ ap Some got.2
  first_agree gave outcomes.Local ts later other h f m e = absurd (cc)
  first_agree gave (outcomes.Drop reason error) ts later other h f m e = absurd (cc)

  -- where the trace meets steps, only as many choices matter as there are steps
  pub hands_agree : (fuel : ℕ) (ts : List Step) (o : Option Place) (content : Content) (pick qick : ℕ → ℕ) (taken uaken : ℕ) (h : Handed)
      → ((d : ℕ) → d ≤ length ts → pick (taken + d) ≡ qick (uaken + d)) → matches ts h.trace ≡ true
      → handed_over net (walk_of fuel net o content pick taken) ≡ Some h → handed_over net (walk_of fuel net o content qick uaken) ≡ Some h
  unfolding walk_by
  hands_agree zero ts o content pick qick taken uaken h same m e = absurd (cc)
  hands_agree (suc more) ts None content pick qick taken uaken h same m e = absurd (cc)
  hands_agree (suc more) ts (Some place) content pick qick taken uaken h same m e =
      let at_first : pick taken ≡ qick uaken = first_same taken uaken pick qick (same 0 (omega arith)) in
      let gave = step_of net place content (pick taken) in
      subst
      (λ (c : ℕ). let gave = step_of net place content c in
      handed_first net gave gave.outcome
      (handed_over net (walk_of more net (next_place net place gave.outcome) gave.after qick (uaken + decisions gave.outcome))) ≡ Some h)
      at_first
      (first_agree gave gave.outcome ts
      (handed_over net (walk_of more net (next_place net place gave.outcome) gave.after pick (taken + decisions gave.outcome)))
      (handed_over net (walk_of more net (next_place net place gave.outcome) gave.after qick (uaken + decisions gave.outcome))) h
      (λ us k few met. hands_agree more us (next_place net place gave.outcome) gave.after pick qick (taken + decisions gave.outcome)
      (uaken + decisions gave.outcome) k
      (later taken uaken (decisions gave.outcome) (length us) pick qick few same) met)
      m e)
    where
      later : (a b k u : ℕ) (p q : ℕ → ℕ) → u + k ≤ length ts → ((d : ℕ) → d ≤ length ts → p (a + d) ≡ q (b + d))
          → (d : ℕ) → d ≤ u → p (a + k + d) ≡ q (b + k + d)
      later a b k u p q few same d h = ap p (omega arith) ∙ (same (k + d) (omega arith) ∙ ap q (omega arith))

-- so many lowerings let a packet with a hop limit through
abbrev pub Free : ℕ → ℕ → Type 0
Free lowered hop = (lowered ≡ 0) ⊎ (lowered < hop)

pub free_on : (lower : Bool) (k : ℕ) (p : Packet) → (lower ≡ true → 1 < p.hop_limit) → Free k (lowered lower p).hop_limit
    → Free (one_if lower + k) p.hop_limit
free_on true k p high (inl none) = let h = high refl in inr (omega arith)
free_on true k p high (inr low) = let h = high refl in inr (omega arith)
free_on false k p high (inl none) = inl (omega arith)
free_on false k p high (inr low) = inr (omega arith)

pub above_free : (k hop : ℕ) → Free k hop → 0 < hop → k < hop
above_free k hop (inl none) positive = omega arith
above_free k hop (inr low) positive = low

-- a packet that was lowered, and is lowered further
pub same_left : (p : Packet) (lower : Bool) (k : ℕ)
    → with_hop_limit ((lowered lower p).hop_limit - k) (lowered lower p) ≡ with_hop_limit (p.hop_limit - (one_if lower + k)) p
same_left p true k = ap (λ (h : ℕ). with_hop_limit h p) (omega arith)
same_left p false k = ap (λ (h : ℕ). with_hop_limit h p) (omega arith)

-- a walk along a transit: its stages send, its events meet the steps that are passed, and then it goes on where the transit ends
pub record TransitWalk (net : Network) (ts : List Step) (place : Place) (p : Packet) (r : Transit) : Type 0 where
  pub count : ℕ
  pub events : (ℕ → ℕ) → ℕ → List TraceEvent
  pub meets_them : (pick : ℕ → ℕ) (taken : ℕ) (more : List TraceEvent) → matches ts (events pick taken ++ more) ≡ matches r.left more
  pub walk : (pick : ℕ → ℕ) (taken fuel : ℕ)
      → handed_over net (walk_of (count + fuel) net (Some place) (V6 p) pick taken)
      ≡ option_map (after_events (events pick taken))
      (handed_over net (walk_of fuel net (Some r.place) (V6 (with_hop_limit (p.hop_limit - r.lowered) p)) pick (taken + count)))

module _ (net : Network) (keeps : Keeps net) where
  walk_here : (ts : List Step) (place : Place) (p : Packet) (n : ℕ)
      → TransitWalk net ts place p (record { sid = n; place = place; left = ts; lowered = 0 })
  walk_here ts place p n =
      record {
        count = 0;
        events = λ pick taken. [];
        meets_them = λ pick taken more. refl;
        walk = λ pick taken fuel. at pick taken fuel;
      }
    where
      at : (pick : ℕ → ℕ) (taken fuel : ℕ)
          → handed_over net (walk_of (0 + fuel) net (Some place) (V6 p) pick taken)
          ≡ option_map (after_events [])
          (handed_over net (walk_of fuel net (Some place) (V6 (with_hop_limit (p.hop_limit - 0) p)) pick (taken + 0)))
      at pick taken fuel =
          ap (λ (k : ℕ). handed_over net (walk_of k net (Some place) (V6 p) pick taken)) (zero-add fuel)
          ∙ ap (λ (q : Packet). handed_over net (walk_of fuel net (Some place) (V6 q) pick taken)) (sym (same_packet p))
          ∙ ap (λ (k : ℕ). handed_over net (walk_of fuel net (Some place) (V6 (with_hop_limit (p.hop_limit - 0) p)) pick k))
          (sym (add-zero taken))
          ∙ sym (after_none _)

  -- the stage that sends, in a set whose members lie in the step
  sends : (place : Place) (p : Packet) (set : List ℕ) (lower : Bool) (k : ℕ) → way_of net place p.destination ≡ Over set lower
      → Free (one_if lower + k) p.hop_limit
      → (choice : ℕ) → step_of net place (V6 p) choice ≡ goes (outcomes.Send (member_of set choice)) (V6 (lowered lower p))
  sends place p set false k e high choice = ap (λ (w : Way). treated net place.node w p choice) e
  sends place p set true k e high choice =
      ap (λ (w : Way). treated net place.node w p choice) e ∙ sent_high net place.node set p choice (omega arith)

  pub same_destination : (p : Packet) (lower : Bool) → (lowered lower p).destination ≡ p.destination
  same_destination p true = refl
  same_destination p false = refl

  high_enough : (p : Packet) (lower : Bool) (k : ℕ) → Free (one_if lower + k) p.hop_limit → Free k (lowered lower p).hop_limit
  high_enough p true k (inl none) = absurd (omega arith)
  high_enough p true k (inr h) = inr (omega arith)
  high_enough p false k (inl none) = inl (omega arith)
  high_enough p false k (inr h) = inr (omega arith)

  walk_later : (step : List ℕ) (ts : List Step) (place : Place) (p : Packet) (set : List ℕ) (lower : Bool) (to : ℕ) (r : Transit)
      → IsSent net p.destination step place set lower to → Free (one_if lower + r.lowered) p.hop_limit
      → TransitWalk net ts (arrived to place) (lowered lower p) r → TransitWalk net (Links step ∷ ts) place p (more_lowered lower r)
  walk_later step ts place p set lower to r sent high w =
      record {
        count = suc w.count;
        events = λ pick taken. Crossed (member_of set (pick taken)) ∷ w.events pick (taken + 1);
        meets_them = λ pick taken more.
            and_both (has_link step (member_of set (pick taken))) _ (sent.member (pick taken)) ∙ w.meets_them pick (taken + 1) more;
        walk = λ pick taken fuel. at pick taken fuel;
      }
    where
      and_both : (a b : Bool) → a ≡ true → (a && b) ≡ b
      and_both true b e = refl
      and_both false b e = absurd (false≢true e)

      at : (pick : ℕ → ℕ) (taken fuel : ℕ)
          → handed_over net (walk_of (suc w.count + fuel) net (Some place) (V6 p) pick taken)
          ≡ option_map (after_events (Crossed (member_of set (pick taken)) ∷ w.events pick (taken + 1)))
          (handed_over net (walk_of fuel net (Some r.place) (V6 (with_hop_limit (p.hop_limit - (one_if lower + r.lowered)) p)) pick
          (taken + suc w.count)))
      at pick taken fuel =
          let link = member_of set (pick taken) in
          let q = lowered lower p in
          let more : suc w.count + fuel ≡ suc (w.count + fuel) = omega arith in
          let count : taken + 1 + w.count ≡ taken + suc w.count = omega arith in
          ap (λ (k : ℕ). handed_over net (walk_of k net (Some place) (V6 p) pick taken)) more
          ∙ handed_stage net (w.count + fuel) place (V6 p) pick taken (goes (outcomes.Send link) (V6 q))
          (sends place p set lower r.lowered sent.way high (pick taken))
          ∙ ap (λ (o : Option Place). option_map (after_events (Crossed link ∷ []))
          (handed_over net (walk_of (w.count + fuel) net o (V6 q) pick (taken + 1)))) (sent.leads (pick taken))
          ∙ ap (option_map (after_events (Crossed link ∷ []))) (w.walk pick (taken + 1) fuel)
          ∙ after_after (Crossed link ∷ []) (w.events pick (taken + 1)) _
          ∙ ap (λ (x : Packet). option_map (after_events (Crossed link ∷ w.events pick (taken + 1)))
          (handed_over net (walk_of fuel net (Some r.place) (V6 x) pick (taken + 1 + w.count))))
          (same_left p lower r.lowered)
          ∙ ap (λ (k : ℕ). option_map (after_events (Crossed link ∷ w.events pick (taken + 1)))
          (handed_over net (walk_of fuel net (Some r.place) (V6 (with_hop_limit (p.hop_limit - (one_if lower + r.lowered)) p)) pick k)))
          count

  pub transit_walk : (ts : List Step) (place : Place) (p : Packet) (r : Transit) → IsHow net place.node place.how
      → is_some (stand_after net place.node ts) ≡ true
      → transit_of net p.destination ts place ≡ Some r → Free r.lowered p.hop_limit → TransitWalk net ts place p r
  transit_walk ts place p r how stands h high =
      transit_each net keeps p.destination
      (λ ts place r. (q : Packet) → q.destination ≡ p.destination → Free r.lowered q.hop_limit → TransitWalk net ts place q r)
      (λ ts place n into q to high. walk_here ts place q n)
      (λ step ts place set lower to r sent rest q is high.
      walk_later step ts place q set lower to r (subst (λ (d : ℕ). IsSent net d step place set lower to) (sym is) sent) high
      (rest (lowered lower q) (same_destination q lower ∙ is) (high_enough q lower r.lowered high)))
      ts place r how stands h p refl high
