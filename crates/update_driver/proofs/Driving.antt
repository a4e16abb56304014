-- What is written of the events and of what is left after them.
use Rattle.std.proofs.Common.{◌≡◌, ℕ, ◌+◌, ◌≤◌, List, [], ◌++◌, length, map, sym, ap, ap₂, ◌∙◌, subst}
use Rattle.std.specs.Prelude.{replicate}
use Rattle.std.proofs.lemmas.List.{length-map}
use Rattle.pcap_io.specs.declared.frame.Frame.{Frame}
use Rattle.pcap_io.specs.declared.numbers.TheConstants.{MAX_FRAMES}
use Rattle.net_model.specs.Network.{Network}
use Rattle.update_plan.specs.UpdateState.{Plan, starting_by}
use Rattle.srx_edge.specs.CallSteps.{Ending, Whole}
use Rattle.command_output.specs.declared.halt.Failure.{Failure}
use Rattle.command_output.specs.CommandAnswers.{ending_of_failure}
use Rattle.command_output.specs.GatheredTerms.{Goes, Pooled}
use Rattle.command_output.specs.OutputPieces.{Piece}
use Rattle.command_output.proofs.PublicLaws.{goes_then}
use Rattle.run_commands.specs.AdmissionTerms.{AllEnterIn}
use Rattle.update_driver.specs.declared.moving.Moving as code
use Rattle.update_driver.specs.declared.seat.Seat.{Seat}
use Rattle.update_driver.specs.Arriving.{seat_of}
use Rattle.update_driver.specs.Events.{edits_left, events_and_rest, pieces_of, starting, to_their_ends}
use Rattle.update_driver.specs.Going.{GoesOn, IsGoing, IsMoving, moving_of, written}
use Rattle.update_driver.specs.Moving.{Moving, Sides, first_member, happening}
use Rattle.update_driver.proofs.EventEnds.{edits_count, ends_same}
use Rattle.update_driver.proofs.EventStarting.{moving_starts}
use Rattle.update_driver.proofs.EventSteps.{written_both, written_longer}

module _ (sides : Sides) (a b : code.Moving) (es more : List ℕ) (o q : Pooled) where
  -- the first events were written, and then the others
  pub moves_then : (ending : Ending) (r : Pooled) → GoesOn sides es a b → Goes Whole (written sides a es) o q
      → Goes ending (written sides b more) q r → Goes ending (written sides a (es ++ more)) o r
  moves_then ending r on first rest =
      subst (λ (pieces : List Piece). Goes ending pieces o r) (sym (written_both sides a b b es more on))
      (goes_then ending (written sides a es) (written sides b more) o q r first rest)

pub moves_cut : (sides : Sides) (a : code.Moving) (es more : List ℕ) (failure : Failure) (o q : Pooled)
    → Goes (ending_of_failure failure) (written sides a es) o q → Goes (ending_of_failure failure) (written sides a (es ++ more)) o q
moves_cut sides a es more failure o q went = written_longer sides a es more failure o q went

abbrev pub with_seats : Plan → List Seat → Moving
with_seats plan all = record { update = starting_by plan; seats = all; numbers = [] }

-- what the code begins with is what the definition does
pub starts_at : (sides : Sides) (plan : Plan) (frames : List Frame) (m : code.Moving) (all : List Seat)
    → moving_of m ≡ with_seats plan all → all ≡ map (seat_of sides.old) frames
    → moving_of m ≡ starting sides plan frames
starts_at sides plan frames m all is same = is ∙ ap (with_seats plan) same

-- the events of the driver are those of the definition
module _ (sides : Sides) (plan : Plan) (frames : List Frame) (events : List ℕ) (net : Network) (m : code.Moving) (count : ℕ) where
  abbrev start : Moving
  start = starting sides plan frames

  driven_same : m.net.now ≡ net → moving_of m ≡ start → count ≡ length plan.added + length plan.removed + 1
      → written sides m (events ++ (to_their_ends m.seats.items ++ replicate count 0))
      ≡ pieces_of net (happening sides start (events_and_rest start frames events))
  driven_same here is many =
      let seats : length m.seats.items ≡ length frames =
      ap (λ (x : Moving). length x.seats) is ∙ length-map frames (seat_of sides.old) in
      let all : to_their_ends m.seats.items ++ replicate count 0 ≡ to_their_ends frames ++ edits_left start =
      ap₂ (λ (ends edits : List ℕ). ends ++ edits) (ends_same m.seats.items frames seats)
      (ap (λ (n : ℕ). replicate n 0) (many ∙ sym (edits_count plan.added plan.removed))) in
      ap₂ (λ (n : Network) (x : Moving).
      pieces_of n (happening sides x (events ++ (to_their_ends m.seats.items ++ replicate count 0)))) here is
      ∙ ap (λ (rest : List ℕ). pieces_of net (happening sides start (events ++ rest))) all

  -- what the driver writes of them
  pub driven_went : m.net.now ≡ net → moving_of m ≡ start → count ≡ length plan.added + length plan.removed + 1
      → (ending : Ending) (o q : Pooled)
      → Goes ending (written sides m (events ++ (to_their_ends m.seats.items ++ replicate count 0))) o q
      → Goes ending (pieces_of net (happening sides start (events_and_rest start frames events))) o q
  driven_went here is many ending o q went =
      subst (λ (pieces : List Piece). Goes ending pieces o q) (driven_same here is many) went

  -- it is on its way
  pub driven_going : m.net.now ≡ net → moving_of m ≡ start → m.choices.now ≡ first_member → plan.joined.nodes ≡ net.nodes
      → plan.joined.links ≡ net.links → AllEnterIn plan.joined sides.old → AllEnterIn plan.joined sides.new
      → length (map (seat_of sides.old) frames) ≤ MAX_FRAMES → IsGoing sides m
  driven_going here is choices nodes links old new few = (
    subst (λ (n : Network). IsMoving n sides (moving_of m)) (sym here)
        (subst (IsMoving net sides) (sym is) (moving_starts net sides plan frames nodes links old new few)),
    choices,
  )
