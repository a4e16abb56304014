-- A stage's line is judged choice by choice.
use Rattle.std.proofs.Common.{◌≡◌, ℕ, suc, ◌+◌, ◌-◌, ◌<◌, ◌≤◌, Bool, true, false, cond, List, [], length, Some, None, sym, ap, ◌∙◌, subst, arith}
use Rattle.std.specs.Prelude.{bytes_eq, string_bytes}
use Rattle.std.specs.List.{find, range_with_len}
use Rattle.srv6_rules.specs.Packet.{Content, V6, V4, Unreadable, bytes_of}
use Rattle.srv6_rules.specs.Packet4.{destination4}
use Rattle.icmp6_errors.specs.Answer.{error_bytes}
use Rattle.net_model.specs.declared.limits.TheConstants.{MAX_LINKS_OF_SET}
use Rattle.net_model.specs.Network.{Network}
use Rattle.net_model.specs.NetworkKeeps.{Keeps}
use Rattle.walk_rules.specs.declared.place.Place.{Place}
use Rattle.walk_rules.specs.declared.place.Outcome.{Outcome}
use Rattle.walk_rules.specs.WalkLaws.{hops_at, set_of}
use Rattle.walk_rules.specs.Relation.{IsPlace}
use Rattle.walk_rules.specs.Treatment.{step_of}
use Rattle.walk_rules.specs.Way.{Way, NoWay, Over, Own, Into, way_of}
use Rattle.walk_rules.specs.WayTerms.{IsWayFrom}
use Rattle.walk_rules.proofs.PublicLaws.{way_from}
use Rattle.trace_replay.specs.declared.line_judge.GivenLine.{GivenLine}
use Rattle.trace_replay.specs.JudgedLines.{IsGiven, IsRight, IsWrong}
use Rattle.trace_replay.specs.TraceLines.{outcome_text, stage_text}
use Rattle.trace_replay.specs.Replays.{choice_given, choices_at, is_given}

-- ---- the set of equal next hops is small

set_few : (net : Network) (node : ℕ) (w : Way) → IsWayFrom net node w → length (set_of w) ≤ MAX_LINKS_OF_SET
set_few net node (NoWay reason) from = omega arith
set_few net node (Over set lower) from = from.at_most
set_few net node Own from = omega arith
set_few net node (Into n) from = omega arith

pub hops_few : (net : Network) (place : Place) (content : Content) → Keeps net → IsPlace net place
    → length (hops_at net place content) ≤ MAX_LINKS_OF_SET
hops_few net place (Unreadable bytes reason) keeps is = omega arith
hops_few net place (V6 p) keeps is =
    set_few net place.node (way_of net place p.destination) (way_from net place p.destination keeps is.1)
hops_few net place (V4 p) keeps is =
    set_few net place.node (way_of net place (destination4 p)) (way_from net place (destination4 p) keeps is.1)

-- ---- what a choice gives

-- the line that the code has of it
pub given_text : (net : Network) (place : Place) (content : Content) (choice : ℕ) (outcome : Outcome) (after : Content)
    → (packet error line : List ℕ)
    → record { outcome = outcome; after = after; error = (step_of net place content choice).error } ≡ step_of net place content choice
    → packet ≡ bytes_of after → error ≡ error_bytes (step_of net place content choice).error
    → line ≡ outcome_text net outcome packet error
    → line ≡ stage_text net (step_of net place content choice)
given_text net place content choice outcome after packet error line gives bytes told is =
    is ∙ (ap (λ (b : List ℕ). outcome_text net outcome b error) bytes
    ∙ (ap (outcome_text net outcome (bytes_of after)) told ∙ ap (stage_text net) gives))

-- of the same content it is the same
pub given_same : (net : Network) (place : Place) (one other : Content) (choice : ℕ) (given : GivenLine) (after : Content) → one ≡ other
    → IsGiven net place one choice given after → IsGiven net place other choice given after
given_same net place one other choice given after same h =
    subst (λ (c : Content). IsGiven net place c choice given after) same h

module _ (net : Network) (place : Place) (content : Content) (line : List ℕ) where
  -- whether the code's comparison holds is whether the choice gives the line
  pub gives_line : (choice : ℕ) (given : GivenLine) (after : Content) (text : List ℕ) (b : Bool)
      → IsGiven net place content choice given after → text ≡ string_bytes given.text → b ≡ bytes_eq line text
      → is_given net place content line choice ≡ b
  gives_line choice given after text b h is same = ap (bytes_eq line) (sym (is ∙ h.text)) ∙ sym same

  -- the first choice of those that are left gives the line
  pub found_here : (choice n : ℕ) → n ≡ choices_at net place content → choice < n
      → find (is_given net place content line) (range_with_len choice (n - choice))
      ≡ find (is_given net place content line) (range_with_len 0 n)
      → is_given net place content line choice ≡ true → choice_given net place content line ≡ Some choice
  unfolding choice_given
  found_here choice n all more so_far passes =
      let left : n - choice ≡ suc (n - (choice + 1)) = omega (arith, more) in
      sym (ap (λ (k : ℕ). find (is_given net place content line) (range_with_len 0 k)) all)
      ∙ (sym so_far ∙ (ap (λ (k : ℕ). find (is_given net place content line) (range_with_len choice k)) left
      ∙ ap (λ (t : Bool). cond t (Some choice) (find (is_given net place content line) (range_with_len (choice + 1) (n - (choice + 1)))))
      passes))

  -- none is left
  pub found_none : (choice n : ℕ) → n ≡ choices_at net place content → n ≤ choice
      → find (is_given net place content line) (range_with_len choice (n - choice))
      ≡ find (is_given net place content line) (range_with_len 0 n)
      → choice_given net place content line ≡ None
  unfolding choice_given
  found_none choice n all over so_far =
      let none : n - choice ≡ 0 = omega (arith, over) in
      sym (ap (λ (k : ℕ). find (is_given net place content line) (range_with_len 0 k)) all)
      ∙ (sym so_far ∙ ap (λ (k : ℕ). find (is_given net place content line) (range_with_len choice k)) none)

  -- where there is one choice it decides
  one_choice : (b : Bool) → choices_at net place content ≡ 1 → is_given net place content line 0 ≡ b
      → choice_given net place content line ≡ cond b (Some 0) None
  unfolding choice_given
  one_choice b one is =
      ap (λ (k : ℕ). find (is_given net place content line) (range_with_len 0 k)) one
      ∙ ap (λ (t : Bool). cond t (Some 0) None) is

  pub one_right : (given : GivenLine) (after : Content) → choices_at net place content ≡ 1 → IsGiven net place content 0 given after
      → is_given net place content line 0 ≡ true → IsRight net place content line given.outcome after
  one_right given after one h is =
      record { choice = 0; given = one_choice true one is; gives = h.gives; leaves = h.leaves }

  pub one_wrong : (given : GivenLine) (after : Content) → choices_at net place content ≡ 1 → IsGiven net place content 0 given after
      → is_given net place content line 0 ≡ false → IsWrong net place content line (string_bytes given.text)
  one_wrong given after one h is = record { given = one_choice false one is; told = h.text }
