-- Walks unfold, and their stages follow one another.
use Rattle.std.proofs.Common.{◌≡◌, ℕ, zero, suc, ◌+◌, ◌<◌, ◌≤◌, List, [], ◌∷◌, ◌++◌, length, take, Option, Some, None, refl, sym, ◌∙◌, ap, ap₂, arith, add-one, suc-add, zero-add, zero-le, suc-le-suc, le_of_suc-le-suc, append-nil}
use Rattle.srv6_rules.specs.Packet.{Content}
use Rattle.net_model.specs.Network.{Network}
use Rattle.walk_rules.specs.declared.place.Place.{Place}
use Rattle.walk_rules.specs.Walk.{Steps, Nexts, Stage, stage_of, next_place, decisions, walk_by, walk_of, place_after}
use Rattle.walk_rules.specs.WalkTerms.{walk_on, content_after, taken_after, IsStageOf, Follows, BeginsAt, IsWalk}
use Rattle.walk_rules.specs.Treatment.{step_of}

-- a walk by any stage
module _ (step : Steps) (next : Nexts) where
  abbrev pub by_stage : Place → Content → ℕ → Stage
  by_stage place content choice = record { place = place; before = content; gave = step place content choice }

  pub walk_by_suc : (more : ℕ) (place : Place) (content : Content) (pick : ℕ → ℕ) (taken : ℕ)
      → let gave = step place content (pick taken) in
      walk_by step next (suc more) (Some place) content pick taken
      ≡ by_stage place content (pick taken)
      ∷ walk_by step next more (next place gave.outcome) gave.after pick (taken + decisions gave.outcome)
  unfolding walk_by
  walk_by_suc more place content pick taken = refl

  pub walk_by_zero : (place : Option Place) (content : Content) (pick : ℕ → ℕ) (taken : ℕ)
      → walk_by step next 0 place content pick taken ≡ []
  unfolding walk_by
  walk_by_zero place content pick taken = refl

  pub walk_by_none : (fuel : ℕ) (content : Content) (pick : ℕ → ℕ) (taken : ℕ) → walk_by step next fuel None content pick taken ≡ []
  unfolding walk_by
  walk_by_none zero content pick taken = refl
  walk_by_none (suc more) content pick taken = refl

pub walk_of_suc : (more : ℕ) (net : Network) (place : Place) (content : Content) (pick : ℕ → ℕ) (taken : ℕ)
    → walk_of (suc more) net (Some place) content pick taken
    ≡ stage_of net place content (pick taken) ∷ walk_on more net (stage_of net place content (pick taken)) pick taken
unfolding walk_by
walk_of_suc more net place content pick taken = refl

pub walk_of_add_one : (more : ℕ) (net : Network) (place : Place) (content : Content) (pick : ℕ → ℕ) (taken : ℕ)
    → walk_of (more + 1) net (Some place) content pick taken
    ≡ stage_of net place content (pick taken) ∷ walk_on more net (stage_of net place content (pick taken)) pick taken
walk_of_add_one more net place content pick taken = rw (add-one more) (walk_of_suc more net place content pick taken)

pub walk_of_zero : (net : Network) (place : Option Place) (content : Content) (pick : ℕ → ℕ) (taken : ℕ)
    → walk_of 0 net place content pick taken ≡ []
unfolding walk_by
walk_of_zero net place content pick taken = refl

pub walk_of_none : (fuel : ℕ) (net : Network) (content : Content) (pick : ℕ → ℕ) (taken : ℕ)
    → walk_of fuel net None content pick taken ≡ []
unfolding walk_by
walk_of_none zero net content pick taken = refl
walk_of_none (suc more) net content pick taken = refl

-- a walk's number of stages, and its beginnings
pub length_walk_of : (fuel : ℕ) (net : Network) (place : Option Place) (content : Content) (pick : ℕ → ℕ) (taken : ℕ)
    → length (walk_of fuel net place content pick taken) ≤ fuel
unfolding walk_by
length_walk_of zero net place content pick taken = zero-le
length_walk_of (suc more) net None content pick taken = zero-le
length_walk_of (suc more) net (Some place) content pick taken =
    let s : Stage = stage_of net place content (pick taken) in
    suc-le-suc (length_walk_of more net (next_place net place s.gave.outcome) s.gave.after pick (taken + decisions s.gave.outcome))

pub take_walk_of : (m n : ℕ) (net : Network) (place : Option Place) (content : Content) (pick : ℕ → ℕ) (taken : ℕ)
    → take m (walk_of (m + n) net place content pick taken) ≡ walk_of m net place content pick taken
unfolding walk_by
take_walk_of zero n net place content pick taken = refl
take_walk_of (suc m) n net None content pick taken = rw (walk_of_none (suc m + n) net content pick taken)
take_walk_of (suc m) n net (Some place) content pick taken =
    let s : Stage = stage_of net place content (pick taken) in
    rw (suc-add m n) (ap (λ (rest : List Stage). s ∷ rest)
    (take_walk_of m n net (next_place net place s.gave.outcome) s.gave.after pick (taken + decisions s.gave.outcome)))

-- a longer walk is a walk, and then the walk from where it stopped
pub walk_of_add : (m n : ℕ) (net : Network) (place : Option Place) (content : Content) (pick : ℕ → ℕ) (taken : ℕ)
    → let w = walk_of m net place content pick taken in
    walk_of (m + n) net place content pick taken
    ≡ w ++ walk_of n net (place_after net place w) (content_after content w) pick (taken_after taken w)
unfolding walk_by
walk_of_add zero n net place content pick taken = rw (zero-add n)
walk_of_add (suc m) n net None content pick taken =
    walk_of_none (suc m + n) net content pick taken ∙ sym (walk_of_none n net content pick taken)
walk_of_add (suc m) n net (Some place) content pick taken =
    let s : Stage = stage_of net place content (pick taken) in
    rw (suc-add m n) (ap (λ (rest : List Stage). s ∷ rest)
    (walk_of_add m n net (next_place net place s.gave.outcome) s.gave.after pick (taken + decisions s.gave.outcome)))

-- a walk that ended stays as it is
pub walk_of_ended : (m n : ℕ) (net : Network) (place : Option Place) (content : Content) (pick : ℕ → ℕ) (taken : ℕ)
    → place_after net place (walk_of m net place content pick taken) ≡ None
    → walk_of (m + n) net place content pick taken ≡ walk_of m net place content pick taken
walk_of_ended m n net place content pick taken e =
    let w : List Stage = walk_of m net place content pick taken in
    let none : walk_of n net (place_after net place w) (content_after content w) pick (taken_after taken w) ≡ [] =
    rw e (walk_of_none n net (content_after content w) pick (taken_after taken w)) in
    walk_of_add m n net place content pick taken ∙ ap (λ (rest : List Stage). w ++ rest) none ∙ append-nil w

-- the stages of a walk follow one another
pub Follows_cons : (net : Network) (pick : ℕ → ℕ) (taken : ℕ) (s : Stage) (more : List Stage) → IsStageOf net (pick taken) s
    → BeginsAt (next_place net s.place s.gave.outcome) s.gave.after more → Follows net pick (taken + decisions s.gave.outcome) more
    → Follows net pick taken (s ∷ more)
Follows_cons net pick taken s [] is begins follows = is
Follows_cons net pick taken s (t ∷ more) is begins follows = (is, begins, follows)

pub Follows_head : (net : Network) (pick : ℕ → ℕ) (taken : ℕ) (s : Stage) (more : List Stage) → Follows net pick taken (s ∷ more)
    → IsStageOf net (pick taken) s
Follows_head net pick taken s [] follows = follows
Follows_head net pick taken s (t ∷ more) follows = follows.0

pub Follows_next : (net : Network) (pick : ℕ → ℕ) (taken : ℕ) (s : Stage) (more : List Stage) → Follows net pick taken (s ∷ more)
    → BeginsAt (next_place net s.place s.gave.outcome) s.gave.after more
Follows_next net pick taken s [] follows = tt
Follows_next net pick taken s (t ∷ more) follows = follows.1

pub Follows_tail : (net : Network) (pick : ℕ → ℕ) (taken : ℕ) (s : Stage) (more : List Stage) → Follows net pick taken (s ∷ more)
    → Follows net pick (taken + decisions s.gave.outcome) more
Follows_tail net pick taken s [] follows = tt
Follows_tail net pick taken s (t ∷ more) follows = follows.2

pub walk_of_begins : (fuel : ℕ) (net : Network) (place : Option Place) (content : Content) (pick : ℕ → ℕ) (taken : ℕ)
    → BeginsAt place content (walk_of fuel net place content pick taken)
unfolding walk_by
walk_of_begins zero net place content pick taken = tt
walk_of_begins (suc more) net None content pick taken = tt
walk_of_begins (suc more) net (Some place) content pick taken = (refl, refl)

pub walk_of_follows : (fuel : ℕ) (net : Network) (place : Option Place) (content : Content) (pick : ℕ → ℕ) (taken : ℕ)
    → Follows net pick taken (walk_of fuel net place content pick taken)
unfolding walk_by
walk_of_follows zero net place content pick taken = tt
walk_of_follows (suc more) net None content pick taken = tt
walk_of_follows (suc more) net (Some place) content pick taken =
    let s : Stage = stage_of net place content (pick taken) in
    let next : Option Place = next_place net place s.gave.outcome in
    Follows_cons net pick taken s (walk_on more net s pick taken) refl
    (walk_of_begins more net next s.gave.after pick (taken + decisions s.gave.outcome))
    (walk_of_follows more net next s.gave.after pick (taken + decisions s.gave.outcome))

-- a walk of fewer stages than it may have has ended
pub walk_of_short : (fuel : ℕ) (net : Network) (place : Option Place) (content : Content) (pick : ℕ → ℕ) (taken : ℕ)
    → let w = walk_of fuel net place content pick taken in length w < fuel → place_after net place w ≡ None
unfolding walk_by
walk_of_short zero net place content pick taken short = absurd (omega (arith, short))
walk_of_short (suc more) net None content pick taken short = refl
walk_of_short (suc more) net (Some place) content pick taken short =
    let s : Stage = stage_of net place content (pick taken) in
    walk_of_short more net (next_place net place s.gave.outcome) s.gave.after pick (taken + decisions s.gave.outcome)
    (le_of_suc-le-suc short)

pub walk_of_is : (fuel : ℕ) (net : Network) (place : Option Place) (content : Content) (pick : ℕ → ℕ) (taken : ℕ)
    → IsWalk fuel net place content pick taken (walk_of fuel net place content pick taken)
walk_of_is fuel net place content pick taken =
    record {
      begins = walk_of_begins fuel net place content pick taken;
      follows = walk_of_follows fuel net place content pick taken;
      at_most = length_walk_of fuel net place content pick taken;
      ended = walk_of_short fuel net place content pick taken;
    }

-- there is one walk
same_stage : (net : Network) (s : Stage) (place : Place) (content : Content) (choice : ℕ) → s.place ≡ place → s.before ≡ content
    → IsStageOf net choice s → s ≡ stage_of net place content choice
same_stage net s place content choice at before is =
    let gave : s.gave ≡ step_of net place content choice = is ∙ ap₂ (λ (p : Place) (c : Content). step_of net p c choice) at before in
    λ i. record { place = at i; before = before i; gave = gave i }

pub walk_of_one : (fuel : ℕ) (net : Network) (place : Option Place) (content : Content) (pick : ℕ → ℕ) (taken : ℕ) (steps : List Stage)
    → IsWalk fuel net place content pick taken steps → steps ≡ walk_of fuel net place content pick taken
unfolding walk_by
walk_of_one zero net place content pick taken [] is = refl
walk_of_one zero net place content pick taken (s ∷ more) is = absurd (omega (arith, is.at_most))
walk_of_one (suc fuel) net None content pick taken [] is = refl
walk_of_one (suc fuel) net (Some place) content pick taken [] is = let e : Some place ≡ None = is.ended (suc-le-suc zero-le) in cc
walk_of_one (suc fuel) net None content pick taken (s ∷ more) is = let e : None ≡ Some s.place = is.begins.0 in cc
walk_of_one (suc fuel) net (Some place) content pick taken (s ∷ more) is =
    let at : Some place ≡ Some s.place = is.begins.0 in
    let same : s ≡ stage_of net place content (pick taken) =
    same_stage net s place content (pick taken) (some_same s.place place at) is.begins.1 (Follows_head net pick taken s more is.follows) in
    let rest : more ≡ walk_on fuel net s pick taken =
    walk_of_one fuel net (next_place net s.place s.gave.outcome) s.gave.after pick (taken + decisions s.gave.outcome) more
    (record {
      begins = Follows_next net pick taken s more is.follows;
      follows = Follows_tail net pick taken s more is.follows;
      at_most = le_of_suc-le-suc is.at_most;
      ended = λ short. is.ended (suc-le-suc short);
    }) in
    ap (λ (w : List Stage). s ∷ w) rest ∙ ap (λ (t : Stage). t ∷ walk_on fuel net t pick taken) same
  where
    some_same : (p q : Place) → Some q ≡ Some p → p ≡ q
    some_same p q e = cc
