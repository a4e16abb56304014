-- From each place a packet has a longest way, whatever becomes of it.
use Rattle.std.proofs.Common.{◌≡◌, ℕ, zero, suc, ◌+◌, ◌*◌, ◌%◌, ◌<◌, ◌≤◌, ◌⊎◌, inl, inr, Bool, true, false, ◌&&◌, nat_le, if◌then◌else◌, List, [], ◌∷◌, length, slice_index, slice_get, Option, Some, None, refl, sym, ◌∙◌, ap, subst, arith, mod-eq_of_lt}
use Rattle.std.proofs.lemmas.Bool.{cases_lt}
use Rattle.std.proofs.lemmas.List.Elements.{All-cons, All-nil}
use Rattle.srv6_rules.specs.declared.reason.Reason.TheVariants as reasons
use Rattle.srv6_rules.specs.Endpoint.{at_address}
use Rattle.srv6_rules.specs.Packet.{Packet, Content, V6, V4, Unreadable}
use Rattle.net_model.specs.Network.{Network}
use Rattle.walk_rules.specs.declared.place.How.{How}
use Rattle.walk_rules.specs.declared.place.Place.{Place}
use Rattle.walk_rules.specs.declared.place.Outcome.{Outcome}
use Rattle.walk_rules.specs.declared.place.Outcome.TheVariants as outcomes
use Rattle.walk_rules.specs.WalkLawsTerms.{Executes}
use Rattle.srv6_rules.specs.declared.sid.Behaviour.{Behaviour}
use Rattle.walk_rules.specs.Treatment.{Gave, dropped, free_step_of, goes, lowered, member_of, treated}
use Rattle.walk_rules.specs.Walk.{Stage, decisions, free_walk_of, next_place}
use Rattle.walk_rules.specs.Way.{Way, NoWay, Over, Own, Into, way_of}
use Rattle.walk_rules.proofs.PublicLaws.{free_again, free_hand}
use Rattle.intent_reader.specs.declared.intent.Intent.{Intent}
use Rattle.choice_graph.proofs.GraphWalking.{put_first}
use Rattle.loose_walks.proofs.Quiet.{address_quiet, into_quiet}
use Rattle.loose_walks.specs.WalkStopsTerms.{SendsNothing}
use Rattle.loose_walks.proofs.Simulating.{walk_none}
use Rattle.leg_table.specs.StrictLegs.{place_from}
use Rattle.leg_table.proofs.StrictHanding.{walk_same}
use Rattle.loose_meaning_theory.specs.LongestWays.{AreLongest, HasMost, Longest, TakesMost, links_of, most_behind}
use Rattle.loose_meaning_theory.proofs.LooseKindStages.{Takes, rest_of, walk_stage, walk_zero}

-- a member of a set with the greatest value
best_member : (value : ℕ → ℕ) (set : List ℕ) → 0 < length set
    → (i : ℕ) × (i < length set) × ((j : ℕ) → j < length set → value (slice_index set j) ≤ value (slice_index set i))
best_member value [] some = absurd (omega arith)
best_member value (x ∷ []) some = (0, omega arith, one)
  where
    one : (j : ℕ) → j < 1 → value (slice_index (x ∷ []) j) ≤ value x
    one zero l = omega arith
    one (suc j) l = absurd (omega arith)
best_member value (x ∷ y ∷ ys) some =
    let m = best_member value (y ∷ ys) (omega arith) in by_order m.0 m.1 m.2 (cases_lt (value (slice_index (y ∷ ys) m.0)) (value x))
  where
    by_order : (i : ℕ) → i < length (y ∷ ys)
        → ((j : ℕ) → j < length (y ∷ ys) → value (slice_index (y ∷ ys) j) ≤ value (slice_index (y ∷ ys) i))
        → (value (slice_index (y ∷ ys) i) < value x) ⊎ (value x ≤ value (slice_index (y ∷ ys) i))
        → (i : ℕ) × (i < length (x ∷ y ∷ ys))
        × ((j : ℕ) → j < length (x ∷ y ∷ ys) → value (slice_index (x ∷ y ∷ ys) j) ≤ value (slice_index (x ∷ y ∷ ys) i))
    by_order i inside all (inl less) = (0, omega arith, first)
      where
        first : (j : ℕ) → j < length (x ∷ y ∷ ys) → value (slice_index (x ∷ y ∷ ys) j) ≤ value x
        first zero l = omega arith
        first (suc j) l = let m = all j (omega (arith, l)) in omega (arith, m, less)
    by_order i inside all (inr more) = (suc i, omega arith, other)
      where
        other : (j : ℕ) → j < length (x ∷ y ∷ ys) → value (slice_index (x ∷ y ∷ ys) j) ≤ value (slice_index (y ∷ ys) i)
        other zero l = more
        other (suc j) l = all j (omega (arith, l))

-- a choice that takes such a member
best_choice : (net : Network) (a : ℕ) (set : List ℕ) → (c : ℕ) × HasMost net a set (member_of set c)
best_choice net a [] = (0, λ place l. absurd (omega (arith, l)))
best_choice net a (x ∷ xs) =
    let b = best_member (most_behind net a) (x ∷ xs) (omega arith) in
    let at : b.0 % length (x ∷ xs) ≡ b.0 = mod-eq_of_lt b.1 in (
      b.0,
      λ place l.
          subst (λ (i : ℕ). most_behind net a (slice_index (x ∷ xs) place) ≤ most_behind net a (slice_index (x ∷ xs) i)) (sym at)
          (b.2 place l),
    )

-- what sends nothing takes what has most, and so does what is no IPv6 packet
quiet_takes : (net : Network) (s : Stage) (o : Outcome) → SendsNothing o → TakesMost net s o
quiet_takes net s (outcomes.Send link) q = absurd q
quiet_takes net s (outcomes.Again n how) q = tt
quiet_takes net s (outcomes.Hand n how family) q = tt
quiet_takes net s outcomes.Local q = tt
quiet_takes net s (outcomes.Drop reason error) q = tt

other_takes : (net : Network) (place : Place) (p : Content) (gave : Gave) (o : Outcome) → ((link : ℕ)
    → TakesMost net (record { place = place; before = p; gave = gave }) (outcomes.Send link))
    → TakesMost net (record { place = place; before = p; gave = gave }) o
other_takes net place p gave (outcomes.Send link) sends = sends link
other_takes net place p gave (outcomes.Again n how) sends = tt
other_takes net place p gave (outcomes.Hand n how family) sends = tt
other_takes net place p gave outcomes.Local sends = tt
other_takes net place p gave (outcomes.Drop reason error) sends = tt

abbrev stage_at : Network → Place → Content → Gave → Stage
stage_at net place content gave = record { place = place; before = content; gave = gave }

-- what is given over a set, by whether the hop limit is too low
abbrev sent_by : Network → Place → Packet → List ℕ → Bool → Bool → ℕ → Gave
sent_by net place p set lower low c =
    if low then dropped net place.node reasons.HopLimit 0 (V6 p) else goes (outcomes.Send (member_of set c)) (V6 (lowered lower p))

module _ (net : Network) (place : Place) where
  way_takes : (p : Packet) (w : Way) → way_of net place p.destination ≡ w
      → (c : ℕ) × TakesMost net (stage_at net place (V6 p) (treated net place.node w p c)) (treated net place.node w p c).outcome
  way_takes p (NoWay reason) way = (0, tt)
  way_takes p Own way = (
    0,
    quiet_takes net (stage_at net place (V6 p) (treated net place.node Own p 0)) (treated net place.node Own p 0).outcome
        (address_quiet net place.node p (at_address p)),
  )
  way_takes p (Into n) way = (
    0,
    quiet_takes net (stage_at net place (V6 p) (treated net place.node (Into n) p 0)) (treated net place.node (Into n) p 0).outcome
        (into_quiet net place.node n (slice_get net.sids n) p),
  )
  way_takes p (Over set lower) way =
      let b = best_choice net p.destination set in
      (b.0, by_test b.0 b.1 (lower && nat_le p.hop_limit 1))
    where
      by_test : (c : ℕ) → HasMost net p.destination set (member_of set c) → (t : Bool)
          → TakesMost net (stage_at net place (V6 p) (sent_by net place p set lower t c)) (sent_by net place p set lower t c).outcome
      by_test c has true = tt
      by_test c has false =
          subst (λ (v : Way). HasMost net p.destination (links_of v) (member_of set c)) (sym way) has

  takes_some : (content : Content)
      → (c : ℕ) × TakesMost net (stage_at net place content (free_step_of net place content c)) (free_step_of net place content c).outcome
  takes_some (V6 p) = way_takes p (way_of net place p.destination) refl
  takes_some (V4 p) =
      (0, other_takes net place (V4 p) (free_step_of net place (V4 p) 0) (free_step_of net place (V4 p) 0).outcome (λ link. tt))
  takes_some (Unreadable bytes reason) = (0, tt)

  -- the choice doesn't matter where a SID is executed
  pub executed_same : (content : Content) (by : ℕ → Behaviour → How) (c n : ℕ) (how : How)
      → Executes by net place content (free_step_of net place content c) n how → (d : ℕ)
      → free_step_of net place content d ≡ free_step_of net place content c
  executed_same content by c n how x d =
      ap (λ (before : Content). free_step_of net place before d) x.is_packet
      ∙ ap (λ (w : Way). treated net place.node w x.packet d) x.way
      ∙ sym (ap (λ (w : Way). treated net place.node w x.packet c) x.way)
      ∙ sym (ap (λ (before : Content). free_step_of net place before c) x.is_packet)

  -- a stage that takes most in front of a longest way
  longest_first : (more : ℕ) (content : Content) (pick : ℕ → ℕ) (gave : Gave) → free_step_of net place content (pick 0) ≡ gave
      → TakesMost net (stage_at net place content gave) gave.outcome → AreLongest net (rest_of net more place pick 0 gave)
      → AreLongest net (free_walk_of (suc more) net (Some place) content pick 0)
  longest_first more content pick gave gives takes rest =
      subst (AreLongest net) (sym (walk_stage net more place content pick 0 gave gives))
      (All-cons (Takes net) (stage_at net place content gave) (rest_of net more place pick 0 gave) takes rest)

  ended : (more : ℕ) (pick : ℕ → ℕ) (taken : ℕ) (gave : Gave) → next_place net place gave.outcome ≡ None
      → AreLongest net (free_walk_of more net (next_place net place gave.outcome) gave.after pick taken)
  ended more pick taken gave none =
      subst (λ (o : Option Place). AreLongest net (free_walk_of more net o gave.after pick taken)) (sym none)
      (subst (AreLongest net) (sym (walk_none net more gave.after pick taken)) (All-nil (Takes net)))

  none_taken : (n : ℕ) → n ≡ 0 → 0 ≡ 0 + n
  none_taken n e = omega arith

  -- by what the stage gives, over longest ways from where it leads
  some_first : (more : ℕ) (content : Content) (c : ℕ) (gave : Gave) → free_step_of net place content c ≡ gave
      → TakesMost net (stage_at net place content gave) gave.outcome
      → ((o : Option Place) → (pick : ℕ → ℕ) × AreLongest net (free_walk_of more net o gave.after pick 0))
      → (o : Outcome) → gave.outcome ≡ o
      → (pick : ℕ → ℕ) × AreLongest net (free_walk_of (suc more) net (Some place) content pick 0)
  some_first more content c gave gives takes rest (outcomes.Send link) is =
      let r = rest (next_place net place gave.outcome) in (
        put_first c r.0,
        longest_first more content (put_first c r.0) gave gives takes
            (subst (AreLongest net)
            (sym (walk_same net more (next_place net place gave.outcome) gave.after (put_first c r.0) r.0 (0 + decisions gave.outcome) 0
            (λ d. ap (put_first c r.0) (one d (decisions gave.outcome) (ap decisions is)) ∙ zeros r.0 d)))
            r.1),
      )
    where
      one : (d n : ℕ) → n ≡ 1 → 0 + n + d ≡ suc d
      one d n e = omega arith

      zeros : (pick : ℕ → ℕ) (d : ℕ) → pick d ≡ pick (0 + d)
      zeros pick d = let n : d ≡ 0 + d = omega arith in ap pick n
  some_first more content c gave gives takes rest (outcomes.Again n how) is =
      let r = rest (next_place net place gave.outcome) in
      let x = free_again net place content c n how (ap (λ (g : Gave). g.outcome) gives ∙ is) in (
        r.0,
        longest_first more content r.0 gave (executed_same content _ c n how x (r.0 0) ∙ gives) takes
            (subst (λ (k : ℕ). AreLongest net (free_walk_of more net (next_place net place gave.outcome) gave.after r.0 k))
            (none_taken (decisions gave.outcome) (ap decisions is)) r.1),
      )
  some_first more content c gave gives takes rest (outcomes.Hand n how family) is =
      let r = rest (next_place net place gave.outcome) in
      let x = free_hand net place content c n how family (ap (λ (g : Gave). g.outcome) gives ∙ is) in (
        r.0,
        longest_first more content r.0 gave (executed_same content _ c n how x (r.0 0) ∙ gives) takes
            (subst (λ (k : ℕ). AreLongest net (free_walk_of more net (next_place net place gave.outcome) gave.after r.0 k))
            (none_taken (decisions gave.outcome) (ap decisions is)) r.1),
      )
  some_first more content c gave gives takes rest outcomes.Local is = (
    λ d. c,
    longest_first more content (λ d. c) gave gives takes (ended more (λ d. c) (0 + decisions gave.outcome) gave
        (ap (next_place net place) is)),
  )
  some_first more content c gave gives takes rest (outcomes.Drop reason error) is = (
    λ d. c,
    longest_first more content (λ d. c) gave gives takes (ended more (λ d. c) (0 + decisions gave.outcome) gave
        (ap (next_place net place) is)),
  )

-- so many stages of a longest way
longest_some : (net : Network) (fuel : ℕ) (o : Option Place) (content : Content)
    → (pick : ℕ → ℕ) × AreLongest net (free_walk_of fuel net o content pick 0)
longest_some net zero o content =
    (λ d. 0, subst (AreLongest net) (sym (walk_zero net o content (λ d. 0) 0)) (All-nil (Takes net)))
longest_some net (suc more) None content =
    (λ d. 0, subst (AreLongest net) (sym (walk_none net (suc more) content (λ d. 0) 0)) (All-nil (Takes net)))
longest_some net (suc more) (Some place) content =
    let t = takes_some net place content in
    let gave = free_step_of net place content t.0 in
    some_first net place more content t.0 gave refl t.1 (λ o. longest_some net more o gave.after) gave.outcome refl

pub some_longest_law : (net : Network) (intent : Intent) (via : Option ℕ) (p : Packet) → (pick : ℕ → ℕ) × Longest net intent via p pick 0
some_longest_law net intent via p = longest_some net (2 * p.hop_limit) (place_from net intent via) (V6 p)
