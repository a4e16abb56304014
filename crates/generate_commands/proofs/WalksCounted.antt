-- Walks that are counted: what was counted so far with what is left comes to the whole.
use Rattle.std.proofs.Common.{◌≡◌, ℕ, suc, ◌+◌, cond, List, [], ◌∷◌, ◌++◌, Some, None, sym, ap, subst, ◌∙◌, arith}
use Rattle.std.specs.Prelude.{count_by}
use Rattle.std.specs.List.{flat_map, range_with_len}
use Rattle.std.proofs.lemmas.List.Sums.{sum_by-append}
use Rattle.srv6_rules.specs.Packet.{Content}
use Rattle.net_model.specs.Network.{Network}
use Rattle.walk_rules.specs.declared.place.Place.{Place}
use Rattle.walk_rules.specs.declared.place.Outcome.{Outcome}
use Rattle.walk_rules.specs.declared.place.Ended.{Ended}
use Rattle.walk_rules.specs.declared.place.Ended.TheVariants as ends
use Rattle.walk_rules.specs.Relation.{IsPlace}
use Rattle.walk_rules.specs.Treatment.{Gave, step_of}
use Rattle.walk_rules.specs.Walk.{Stage, walk_of, next_place, decisions, end_by, end_of}
use Rattle.run_commands.specs.declared.enters.Entrant.{Entrant}
use Rattle.run_commands.specs.Admission.{Admission, EndsEarly, Admitted, entrant_of}
use Rattle.run_commands.specs.AdmissionTerms.{EntersIn}
use Rattle.generate_commands.specs.Summary.{is_send, sends, has_left, leaves, frames_in, left_in}
use Rattle.packet_walk.proofs.PublicLaws.{end_of_cons, goes_on}
use Rattle.run_commands.proofs.PublicLaws.{step_by, walk_goes_on, walk_ends}

-- a packet that enters within the network stands at a place of it
pub comes_placed : (net : Network) (entry : Admission) (comes : Entrant) → EntersIn net entry → Some comes ≡ entrant_of entry
    → IsPlace net comes.place
comes_placed net (EndsEarly stays) comes within is = absurd (cc)
comes_placed net (Admitted other) comes within is =
    let same : other ≡ comes = cc in
    subst (λ (c : Entrant). IsPlace net c.place) same within

-- how many stages of a walk send
abbrev pub sent_in : List Stage → ℕ
sent_in steps = count_by sends steps

-- the frames of a stage
abbrev pub frames_by : Outcome → ℕ
frames_by outcome = cond (is_send outcome) 1 0

sent_cons : (s : Stage) (rest : List Stage) → sent_in (s ∷ rest) ≡ frames_by s.gave.outcome + sent_in rest
sent_cons s rest = let both = sum_by-append (λ (t : Stage). cond (sends t) 1 0) (s ∷ []) rest in omega (arith, both)

-- of a whole walk some stages are left: so many sends were counted before, and the end is theirs
pub record Counted (net : Network) (left whole : List Stage) (sent : ℕ) : Type 0 where
  pub sum : sent + sent_in left ≡ sent_in whole
  pub ends : end_of net left ≡ end_of net whole

-- no stage is left
pub counted_over : (net : Network) (left whole : List Stage) (sent : ℕ) → left ≡ [] → Counted net left whole sent
    → (sent ≡ sent_in whole) × (ends.Stages ≡ end_of net whole)
counted_over net left whole sent none p =
    let sum = p.sum in
    let none-sent : sent_in left ≡ 0 = ap sent_in none in
    (omega (arith, sum, none-sent), ap (end_of net) (sym none) ∙ p.ends)

-- what one walk comes to, by how often it sent and how it ended

pub frames_of_one : (steps : List Stage) (sent : ℕ) → sent ≡ sent_in steps → sent ≡ frames_in (steps ∷ [])
frames_of_one steps sent is = let h = is in omega (arith, h)

pub left_of_one : (net : Network) (steps : List Stage) (ended : Ended) (n : ℕ) → n ≡ cond (has_left ended) 1 0 → ended ≡ end_of net steps
    → n ≡ left_in net (steps ∷ [])
left_of_one net steps ended n is ends =
    let one : n ≡ cond (leaves net steps) 1 0 = is ∙ ap (λ (e : Ended). cond (has_left e) 1 0) ends in
    omega (arith, one)

-- a stage of the loop, by what it gave

module _ (net : Network) (all more : ℕ) (place : Place) (content : Content) (pick : ℕ → ℕ) (taken : ℕ) (gave : Gave)
    (whole : List Stage) (sent : ℕ) (is : all ≡ suc more) (gives : step_of net place content (pick taken) ≡ gave)
    (p : Counted net (walk_of all net (Some place) content pick taken) whole sent) where
  abbrev stage : Stage
  stage = step_by net all more place content pick taken gave is gives

  sum_on : (rest : List Stage) → walk_of all net (Some place) content pick taken ≡ stage ∷ rest
      → sent + frames_by gave.outcome + sent_in rest ≡ sent_in whole
  sum_on rest begins =
      let sum = p.sum in
      let first = ap sent_in begins ∙ sent_cons stage rest in
      omega (arith, sum, first)

  pub counted_on : (next : Place) → next_place net place gave.outcome ≡ Some next
      → Counted net (walk_of more net (Some next) gave.after pick (taken + decisions gave.outcome)) whole
      (sent + frames_by gave.outcome)
  counted_on next goes =
      let rest = walk_of more net (Some next) gave.after pick (taken + decisions gave.outcome) in
      let begins = walk_goes_on net all more place content pick taken gave is gives next goes in
      record {
        sum = sum_on rest begins;
        ends = sym (end_of_cons net stage rest (goes_on net place next gave.outcome goes)) ∙ (ap (end_of net) (sym begins) ∙ p.ends);
      }

  pub counted_end : next_place net place gave.outcome ≡ None
      → (sent + frames_by gave.outcome ≡ sent_in whole) × (end_by net place gave.outcome ≡ end_of net whole)
  counted_end stops =
      let begins = walk_ends net all more place content pick taken gave is gives stops in
      let sum = sum_on [] begins in
      (omega (arith, sum), ap (end_of net) (sym begins) ∙ p.ends)

-- packets that are counted: those from a number on are left

module _ (walks : ℕ → List (List Stage)) where
  -- the walks of so many packets after so many
  abbrev walks_from : ℕ → ℕ → List (List Stage)
  walks_from before count = flat_map walks (range_with_len (before + 1) count)

  -- packets of which some are left, by a count of walks
  module _ (count : List (List Stage) → ℕ) (adds : (xs ys : List (List Stage)) → count (xs ++ ys) ≡ count xs + count ys) where
    pub summed_on : (before left more n m whole : ℕ) → left ≡ suc more → m ≡ count (walks (before + 1))
        → n + count (walks_from before left) ≡ whole → n + m + count (walks_from (before + 1) more) ≡ whole
    summed_on before left more n m whole is next so_far =
        let first = adds (walks (before + 1)) (walks_from (before + 1) more) in
        let all : count (walks_from before left) ≡ count (walks (before + 1) ++ walks_from (before + 1) more)
        = ap (λ (k : ℕ). count (walks_from before k)) is in
        omega (arith, so_far, next, first, all)

-- the counts of walks add up

pub frames_add : (xs ys : List (List Stage)) → frames_in (xs ++ ys) ≡ frames_in xs + frames_in ys
frames_add xs ys = sum_by-append (λ (steps : List Stage). count_by sends steps) xs ys

pub left_add : (net : Network) (xs ys : List (List Stage)) → left_in net (xs ++ ys) ≡ left_in net xs + left_in net ys
left_add net xs ys = sum_by-append (λ (steps : List Stage). cond (leaves net steps) 1 0) xs ys
