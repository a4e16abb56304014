-- The lines of a walk are right, and after them the packet has ended.
use Rattle.std.proofs.Common.{◌≡◌, ℕ, zero, suc, ◌+◌, Bool, true, List, [], ◌∷◌, ◌++◌, length, Option, Some, None, Result, Ok, Err, refl, ap, ◌∙◌, arith}
use Rattle.std.specs.Prelude.{bytes_eq, if◌then◌else◌}
use Rattle.std.proofs.lemmas.Slice.Eq.{bytes_eq-Decides}
use Rattle.srv6_rules.specs.Packet.{Content}
use Rattle.net_model.specs.Network.{Network}
use Rattle.net_model.specs.NetworkKeeps.{Keeps}
use Rattle.walk_rules.specs.declared.place.Place.{Place}
use Rattle.walk_rules.specs.Relation.{IsPlace}
use Rattle.walk_rules.specs.Treatment.{step_of}
use Rattle.walk_rules.specs.Walk.{Stage, decisions, next_place, walk_of}
use Rattle.walk_rules.proofs.PublicLaws.{step_place, walk_of_none, walk_of_suc, walk_of_zero}
use Rattle.trace_replay.specs.declared.state.ReplayState.{ReplayState}
use Rattle.trace_replay.specs.declared.state.ReplayState.TheVariants as states
use Rattle.trace_replay.specs.TraceLaws.{walk_lines}
use Rattle.trace_replay.specs.TraceLawsTerms.{state_behind, state_by}
use Rattle.trace_replay.specs.TraceLines.{stages_text}
use Rattle.trace_replay.specs.Replays.{Wrong, going, line_judged, wrong_by, wrong_from}
use Rattle.trace_replay.proofs.WalkLinesRight.{line_leads}

-- after a packet that used all its stages the line that says so is right
stopped_ends : (net : Network) → state_behind net states.Stopped (stages_text ∷ []) ≡ Some states.Ended
stopped_ends net =
    let same : bytes_eq stages_text stages_text ≡ true = (bytes_eq-Decides stages_text stages_text).1 refl in
    ap (λ (b : Bool). state_by (λ next. Some next) (if b then Ok states.Ended else Err stages_text)) same

-- where the packet goes on, and the rest of its lines
abbrev GoesOn : Network → ℕ → Option Place → Content → (ℕ → ℕ) → ℕ → Type 0
GoesOn net left next content pick taken =
    state_behind net (going next content left) (walk_lines net next (walk_of left net next content pick taken)) ≡ Some states.Ended

goes_none : (net : Network) (left : ℕ) (content : Content) (pick : ℕ → ℕ) (taken : ℕ) → GoesOn net left None content pick taken
goes_none net left content pick taken =
    ap (λ (steps : List Stage). state_behind net states.Ended (walk_lines net None steps)) (walk_of_none left net content pick taken)

goes_zero : (net : Network) (next : Option Place) (content : Content) (pick : ℕ → ℕ) (taken : ℕ) → GoesOn net zero next content pick taken
goes_zero net None content pick taken = goes_none net zero content pick taken
goes_zero net (Some p) content pick taken =
    ap (λ (steps : List Stage). state_behind net states.Stopped (walk_lines net (Some p) steps))
    (walk_of_zero net (Some p) content pick taken)
    ∙ stopped_ends net

goes_suc : (net : Network) (left : ℕ) (next : Option Place) (content : Content) (pick : ℕ → ℕ) (taken : ℕ)
    → ((p : Place) → next ≡ Some p → state_behind net (states.Going p content left)
    (walk_lines net (Some p) (walk_of (suc left) net (Some p) content pick taken)) ≡ Some states.Ended)
    → GoesOn net (suc left) next content pick taken
goes_suc net left None content pick taken on = goes_none net (suc left) content pick taken
goes_suc net left (Some p) content pick taken on = on p refl

walk_step : (net : Network) (left : ℕ) (place : Place) (content : Content) (pick : ℕ → ℕ) (taken : ℕ) → Keeps net → IsPlace net place
    → let gave = step_of net place content (pick taken) in
    GoesOn net left (next_place net place gave.outcome) gave.after pick (taken + decisions gave.outcome)
    → state_behind net (states.Going place content left)
    (walk_lines net (Some place) (walk_of (suc left) net (Some place) content pick taken)) ≡ Some states.Ended
walk_step net left place content pick taken keeps is on =
    let gave = step_of net place content (pick taken) in
    let rest = walk_of left net (next_place net place gave.outcome) gave.after pick (taken + decisions gave.outcome) in
    ap (λ (steps : List Stage). state_behind net (states.Going place content left) (walk_lines net (Some place) steps))
    (walk_of_suc left net place content pick taken)
    ∙ (ap (state_by (λ next. state_behind net next (walk_lines net (next_place net place gave.outcome) rest)))
    (line_leads net place content keeps is (pick taken) left)
    ∙ on)

pub walk_replays : (net : Network) (left : ℕ) (place : Place) (content : Content) (pick : ℕ → ℕ) (taken : ℕ) → Keeps net
    → IsPlace net place
    → state_behind net (states.Going place content left)
    (walk_lines net (Some place) (walk_of (suc left) net (Some place) content pick taken)) ≡ Some states.Ended
walk_replays net zero place content pick taken keeps is =
    let gave = step_of net place content (pick taken) in
    walk_step net zero place content pick taken keeps is
    (goes_zero net (next_place net place gave.outcome) gave.after pick (taken + decisions gave.outcome))
walk_replays net (suc left) place content pick taken keeps is =
    let gave = step_of net place content (pick taken) in
    walk_step net (suc left) place content pick taken keeps is
    (goes_suc net left (next_place net place gave.outcome) gave.after pick (taken + decisions gave.outcome)
    (λ p e. walk_replays net left p gave.after pick (taken + decisions gave.outcome) keeps
    (step_place net place content (pick taken) p keeps is e)))

-- the first wrong line stands after lines that are right

passed_by : (net : Network) (next : ReplayState) (n k : ℕ) (one : ReplayState → Option ReplayState) (other : ReplayState → Option Wrong) (last : Option Wrong)
    → (r : Result ReplayState (List ℕ)) → ((s : ReplayState) → one s ≡ Some next → other s ≡ last)
    → state_by one r ≡ Some next → wrong_by n other r ≡ last
passed_by net next n k one other last (Ok s) on h = on s h
passed_by net next n k one other last (Err expected) on h = cc

pub lines_passed : (net : Network) (state next : ReplayState) (n : ℕ) (lines more : List (List ℕ)) → state_behind net state lines ≡ Some next
    → wrong_from net state n (lines ++ more) ≡ wrong_from net next (n + length lines) more
lines_passed net state next n [] more h =
    let same : state ≡ next = cc in
    let count : n ≡ n + 0 = omega arith in
    ap (λ (s : ReplayState). wrong_from net s n more) same ∙ ap (λ k. wrong_from net next k more) count
lines_passed net state next n (line ∷ lines) more h =
    let count : (n + 1) + length lines ≡ n + length (line ∷ lines) = omega arith in
    passed_by net next n 0 (λ s. state_behind net s lines) (λ s. wrong_from net s (n + 1) (lines ++ more))
    (wrong_from net next (n + length (line ∷ lines)) more) (line_judged net state line)
    (λ s e. lines_passed net s next (n + 1) lines more e ∙ ap (λ k. wrong_from net next k more) count) h
