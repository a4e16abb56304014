-- What walks hand over of a packet, and whether they are longest, by their first stages.
use Rattle.std.proofs.Common.{◌≡◌, ℕ, zero, suc, ◌+◌, ◌≤◌, Bool, true, false, if◌then◌else◌, List, [], ◌∷◌, ◌++◌, map, Option, Some, None, refl, sym, ◌∙◌, ap, subst, arith}
use Rattle.std.specs.Option.{option_map}
use Rattle.std.proofs.lemmas.List.Elements.{All-cons, All-head, All-nil, All-tail}
use Rattle.srv6_rules.specs.declared.family.Family.{Family}
use Rattle.srv6_rules.specs.Packet.{Content}
use Rattle.net_model.specs.Network.{Network}
use Rattle.walk_rules.specs.declared.place.How.{How}
use Rattle.walk_rules.specs.declared.place.Place.{Place}
use Rattle.walk_rules.specs.declared.place.Outcome.{Outcome}
use Rattle.walk_rules.specs.declared.place.Outcome.TheVariants as outcomes
use Rattle.walk_rules.specs.Treatment.{Gave, free_step_of, goes}
use Rattle.walk_rules.specs.Walk.{Stage, decisions, free_walk_of, next_place, walk_by}
use Rattle.loose_walks.proofs.Simulating.{walk_none}
use Rattle.leg_table.specs.PositionSids.{is_binding}
use Rattle.leg_table.specs.WalkTrace.{Crossed, Executed, Handed}
use Rattle.leg_table.proofs.StrictOptions.{map_some, some_same}
use Rattle.loose_meaning_theory.specs.LooseKind.{behind_event, behind_execution, hand_first, hand_of}
use Rattle.loose_meaning_theory.specs.LongestWays.{AreLongest, TakesMost}

-- what is handed over behind links
abbrev pub behind_links : List ℕ → Handed → Handed
behind_links links h = record { trace = map (λ (link : ℕ). Crossed link) links ++ h.trace; sids = h.sids; content = h.content }

pub behind_none : (o : Option Handed) → option_map (behind_links []) o ≡ o
behind_none None = refl
behind_none (Some h) = refl

pub behind_one : (link : ℕ) (links : List ℕ) (o : Option Handed)
    → option_map (behind_event (Crossed link)) (option_map (behind_links links) o) ≡ option_map (behind_links (link ∷ links)) o
behind_one link links None = refl
behind_one link links (Some h) = refl

module _ (net : Network) where
  -- what stands behind a first stage
  abbrev pub rest_of : ℕ → Place → (ℕ → ℕ) → ℕ → Gave → List Stage
  rest_of more place pick taken gave =
      free_walk_of more net (next_place net place gave.outcome) gave.after pick (taken + decisions gave.outcome)

  pub walk_stage : (more : ℕ) (place : Place) (content : Content) (pick : ℕ → ℕ) (taken : ℕ) (gave : Gave)
      → free_step_of net place content (pick taken) ≡ gave
      → free_walk_of (suc more) net (Some place) content pick taken
      ≡ record { place = place; before = content; gave = gave } ∷ rest_of more place pick taken gave
  unfolding walk_by
  walk_stage more place content pick taken gave e =
      ap (λ (g : Gave). record { place = place; before = content; gave = g } ∷ rest_of more place pick taken g) e

  pub walk_zero : (o : Option Place) (content : Content) (pick : ℕ → ℕ) (taken : ℕ) → free_walk_of zero net o content pick taken ≡ []
  unfolding walk_by
  walk_zero o content pick taken = refl

  pub hand_stage : (more : ℕ) (place : Place) (content : Content) (pick : ℕ → ℕ) (taken : ℕ) (gave : Gave)
      → free_step_of net place content (pick taken) ≡ gave
      → hand_of net (free_walk_of (suc more) net (Some place) content pick taken)
      ≡ hand_first net gave gave.outcome (hand_of net (rest_of more place pick taken gave))
  hand_stage more place content pick taken gave e = ap (hand_of net) (walk_stage more place content pick taken gave e)

  -- a walk that hands over
  abbrev pub Hands : Place → Content → (ℕ → ℕ) → ℕ → Handed → Type 0
  Hands place content pick taken h = (fuel : ℕ) × (hand_of net (free_walk_of fuel net (Some place) content pick taken) ≡ Some h)

  -- hands over by its first stage
  pub first_hands : (place : Place) (content : Content) (pick : ℕ → ℕ) (taken : ℕ) (h : Handed) (gave : Gave)
      → free_step_of net place content (pick taken) ≡ gave → Hands place content pick taken h
      → (more : ℕ) × (hand_first net gave gave.outcome (hand_of net (rest_of more place pick taken gave)) ≡ Some h)
  first_hands place content pick taken h gave gives hands = by_fuel hands.0 hands.1
    where
      by_fuel : (fuel : ℕ) → hand_of net (free_walk_of fuel net (Some place) content pick taken) ≡ Some h
          → (more : ℕ) × (hand_first net gave gave.outcome (hand_of net (rest_of more place pick taken gave)) ≡ Some h)
      by_fuel zero e =
          let none : None ≡ Some h = sym (ap (hand_of net) (walk_zero (Some place) content pick taken)) ∙ e in absurd (cc)
      by_fuel (suc more) e = (more, sym (hand_stage more place content pick taken gave gives) ∙ e)

  -- nothing is handed over after a stage that drops
  pub none_dropped : (place : Place) (content : Content) (pick : ℕ → ℕ) (taken : ℕ) (h : Handed) (gave : Gave)
      → free_step_of net place content (pick taken) ≡ gave → ((later : Option Handed) → hand_first net gave gave.outcome later ≡ None)
      → Hands place content pick taken h → ⊥
  none_dropped place content pick taken h gave gives none hands =
      let first = first_hands place content pick taken h gave gives hands in
      let same : None ≡ Some h = sym (none _) ∙ first.1 in
      absurd (cc)

  -- an execution before what is handed over binds no policy
  pub again_parts : (n : ℕ) (later : Option Handed) (h : Handed)
      → (if is_binding net n then None else option_map (behind_execution n) later) ≡ Some h
      → (is_binding net n ≡ false) × (k : Handed) × (later ≡ Some k) × (behind_execution n k ≡ h)
  again_parts n later h e = by_binding (is_binding net n) e
    where
      by_binding : (b : Bool) → (if b then None else option_map (behind_execution n) later) ≡ Some h
          → (b ≡ false) × (k : Handed) × (later ≡ Some k) × (behind_execution n k ≡ h)
      by_binding true e = absurd (cc)
      by_binding false e = let got = map_some (behind_execution n) later h e in (refl, got.0, got.1, got.2)

  again_from : (n : ℕ) (later : Option Handed) (k : Handed) → is_binding net n ≡ false → later ≡ Some k
      → (if is_binding net n then None else option_map (behind_execution n) later) ≡ Some (behind_execution n k)
  again_from n later k unbound e =
      ap (λ (b : Bool). if b then None else option_map (behind_execution n) later) unbound ∙ ap (option_map (behind_execution n)) e

  -- after an execution that binds no policy
  pub hand_behind : (fuel : ℕ) (place next : Place) (content after : Content) (pick : ℕ → ℕ) (taken n : ℕ) (how : How) (h : Handed)
      → free_step_of net place content (pick taken) ≡ goes (outcomes.Again n how) after
      → next_place net place (outcomes.Again n how) ≡ Some next → is_binding net n ≡ false
      → hand_of net (free_walk_of fuel net (Some next) after pick (taken + 0)) ≡ Some h
      → hand_of net (free_walk_of (suc fuel) net (Some place) content pick taken) ≡ Some (behind_execution n h)
  hand_behind fuel place next content after pick taken n how h stage leads unbound e =
      let gave = goes (outcomes.Again n how) after in
      hand_stage fuel place content pick taken gave stage
      ∙ again_from n (hand_of net (rest_of fuel place pick taken gave)) h unbound
      (ap (λ (o : Option Place). hand_of net (free_walk_of fuel net o after pick (taken + 0))) leads ∙ e)

  -- what is handed over from an execution is handed over behind it
  pub again_over : (at next : Place) (content after : Content) (pick : ℕ → ℕ) (taken : ℕ) (h : Handed) (n : ℕ) (how : How)
      → free_step_of net at content (pick taken) ≡ goes (outcomes.Again n how) after → next_place net at (outcomes.Again n how) ≡ Some next
      → Hands at content pick taken h → (k : Handed) × Hands next after pick (taken + 0) k × (behind_execution n k ≡ h)
  again_over at next content after pick taken h n how gives leads hands =
      let gave = goes (outcomes.Again n how) after in
      let first = first_hands at content pick taken h gave gives hands in
      let got = again_parts n (hand_of net (rest_of first.0 at pick taken gave)) h first.1 in (
        got.1,
        (first.0, sym (ap (λ (o : Option Place). hand_of net (free_walk_of first.0 net o after pick (taken + 0))) leads) ∙ got.2),
        got.3,
      )

  -- where the packet inside is exposed that is all
  pub hand_over : (at : Place) (content after : Content) (pick : ℕ → ℕ) (taken : ℕ) (h : Handed) (n : ℕ) (how : How) (family : Family)
      → free_step_of net at content (pick taken) ≡ goes (outcomes.Hand n how family) after → Hands at content pick taken h
      → (h.sids ≡ n ∷ []) × (h.trace ≡ Executed n ∷ [])
  hand_over at content after pick taken h n how family gives hands =
      let first = first_hands at content pick taken h (goes (outcomes.Hand n how family) after) gives hands in
      let own : Handed = record { trace = Executed n ∷ []; sids = n ∷ []; content = after } in
      let same = some_same own h first.1 in
      (sym (ap (λ (k : Handed). k.sids) same), sym (ap (λ (k : Handed). k.trace) same))

  hand_more_first : (gave : Gave) (o : Outcome) (later more : Option Handed) (h : Handed) → ((k : Handed) → later ≡ Some k → more ≡ Some k)
      → hand_first net gave o later ≡ Some h → hand_first net gave o more ≡ Some h
  hand_more_first gave (outcomes.Hand n how family) later more h f e = e
  hand_more_first gave (outcomes.Again n how) later more h f e =
      let got = again_parts n later h e in
      again_from n more got.1 got.0 (f got.1 got.2) ∙ ap Some got.3
  hand_more_first gave (outcomes.Send link) later more h f e =
      let got = map_some (behind_event (Crossed link)) later h e in
      ap (option_map (behind_event (Crossed link))) (f got.0 got.1) ∙ ap Some got.2
  hand_more_first gave outcomes.Local later more h f e = absurd (cc)
  hand_more_first gave (outcomes.Drop reason error) later more h f e = absurd (cc)

  -- more stages hand over the same
  pub hand_more : (few many : ℕ) → few ≤ many → (o : Option Place) (content : Content) (pick : ℕ → ℕ) (taken : ℕ) (h : Handed)
      → hand_of net (free_walk_of few net o content pick taken) ≡ Some h → hand_of net (free_walk_of many net o content pick taken) ≡ Some h
  unfolding walk_by
  hand_more zero many l o content pick taken h e = absurd (cc)
  hand_more (suc few) zero l o content pick taken h e = absurd (omega arith)
  hand_more (suc few) (suc many) l None content pick taken h e = absurd (cc)
  hand_more (suc few) (suc many) l (Some place) content pick taken h e =
      let gave = free_step_of net place content (pick taken) in
      hand_more_first gave gave.outcome (hand_of net (rest_of few place pick taken gave))
      (hand_of net (rest_of many place pick taken gave)) h
      (λ k. hand_more few many (omega arith) (next_place net place gave.outcome) gave.after pick (taken + decisions gave.outcome) k) e

  -- so whatever is handed over is one
  pub hand_one : (place : Place) (content : Content) (pick : ℕ → ℕ) (taken : ℕ) (h k : Handed)
      → Hands place content pick taken h → Hands place content pick taken k → h ≡ k
  hand_one place content pick taken h k a b =
      some_same h k
      (sym (hand_more a.0 (a.0 + b.0) (omega arith) (Some place) content pick taken h a.1)
      ∙ hand_more b.0 (a.0 + b.0) (omega arith) (Some place) content pick taken k b.1)

  -- ---- longest ways

  abbrev pub Takes : Stage → Type 0
  Takes s = TakesMost net s s.gave.outcome

  -- the first stage of a longest way takes most, and the others are a longest way
  pub longest_stage : (more : ℕ) (place : Place) (content : Content) (pick : ℕ → ℕ) (taken : ℕ) (gave : Gave)
      → free_step_of net place content (pick taken) ≡ gave
      → AreLongest net (free_walk_of (suc more) net (Some place) content pick taken)
      → TakesMost net (record { place = place; before = content; gave = gave }) gave.outcome
      × AreLongest net (rest_of more place pick taken gave)
  longest_stage more place content pick taken gave e all =
      let s : Stage = record { place = place; before = content; gave = gave } in
      let ss = rest_of more place pick taken gave in
      let whole = subst (AreLongest net) (walk_stage more place content pick taken gave e) all in
      (All-head Takes s ss whole, All-tail Takes s ss whole)

  -- fewer stages are as long
  pub longest_fewer : (few many : ℕ) → few ≤ many → (o : Option Place) (content : Content) (pick : ℕ → ℕ) (taken : ℕ)
      → AreLongest net (free_walk_of many net o content pick taken) → AreLongest net (free_walk_of few net o content pick taken)
  longest_fewer zero many l o content pick taken all =
      subst (AreLongest net) (sym (walk_zero o content pick taken)) (All-nil Takes)
  longest_fewer (suc few) zero l o content pick taken all = absurd (omega arith)
  longest_fewer (suc few) (suc many) l None content pick taken all =
      subst (AreLongest net) (sym (walk_none net (suc few) content pick taken)) (All-nil Takes)
  longest_fewer (suc few) (suc many) l (Some place) content pick taken all =
      let gave = free_step_of net place content (pick taken) in
      let parts = longest_stage many place content pick taken gave refl all in
      subst (AreLongest net) (sym (walk_stage few place content pick taken gave refl))
      (All-cons Takes (record { place = place; before = content; gave = gave }) (rest_of few place pick taken gave) parts.0
      (longest_fewer few many (omega arith) (next_place net place gave.outcome) gave.after pick (taken + decisions gave.outcome) parts.1))
