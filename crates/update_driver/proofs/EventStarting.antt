-- Seats of frames before the first event.
use Rattle.std.proofs.Common.{◌≡◌, ℕ, zero, suc, ◌+◌, ◌≤◌, List, [], ◌∷◌, ◌++◌, length, length-append, map, slice_get, Option, Some, None, IfSome, refl, sym, ap, ◌∙◌, subst, arith, append_assoc}
use Rattle.std.specs.List.{flat_map}
use Rattle.std.proofs.lemmas.List.{map-append}
use Rattle.pcap_io.specs.declared.frame.Body.{Body}
use Rattle.pcap_io.specs.declared.frame.Frame.{Frame}
use Rattle.pcap_io.specs.declared.numbers.TheConstants.{MAX_FRAMES}
use Rattle.net_model.specs.Network.{Network}
use Rattle.srx_edge.specs.CallSteps.{Ending}
use Rattle.command_output.specs.GatheredTerms.{Goes, Pooled}
use Rattle.command_output.specs.OutputPieces.{ForErr, Which, ToErr, bytes_in_order}
use Rattle.command_output.proofs.PublicLaws.{goes_same, marked}
use Rattle.command_inputs.specs.InputFrames.{FramesSeen, FindsFrame}
use Rattle.command_inputs.proofs.PublicLaws.{FramesLeft, all_left, at_hand, one_done}
use Rattle.run_commands.specs.declared.enters.EarlyEnd.{EarlyEnd}
use Rattle.run_commands.specs.Admission.{Admission}
use Rattle.run_commands.specs.AdmissionTerms.{AllEnterIn}
use Rattle.update_plan.specs.UpdateState.{Plan}
use Rattle.update_driver.specs.declared.seat.Seat.{Seat}
use Rattle.update_driver.specs.declared.seat.Seat.TheVariants as seats
use Rattle.update_driver.specs.Arriving.{early_at, line_of_early, seat_of, seat_unless}
use Rattle.update_driver.specs.ArrivingTerms.{early_pieces}
use Rattle.update_driver.specs.Events.{starting}
use Rattle.update_driver.specs.Going.{IsMoving, to_come}
use Rattle.update_driver.specs.Moving.{Sides}

-- the lines of the packets that stay, one after the other

lines_same : (net : Network) (entry : Body → Admission) (frames : List Frame)
    → bytes_in_order (flat_map (early_pieces net entry) frames) ≡ bytes_in_order (ForErr (flat_map (line_of_early net entry) frames) ∷ [])
lines_same net entry [] = refl
lines_same net entry (frame ∷ more) =
    let line : List ℕ = line_of_early net entry frame in
    let lines : List ℕ = flat_map (line_of_early net entry) more in
    ap (λ (bytes : List (Which × ℕ)). marked ToErr line ++ bytes) (lines_same net entry more)
    ∙ (sym (append_assoc (marked ToErr line) (marked ToErr lines) [])
    ∙ ap (λ (bytes : List (Which × ℕ)). bytes ++ []) (sym (map-append (λ byte. (ToErr, byte)) line lines)))

pub early_went : (net : Network) (entry : Body → Admission) (frames : List Frame) (ending : Ending) (old new : Pooled)
    → Goes ending (flat_map (early_pieces net entry) frames) old new
    → Goes ending (ForErr (flat_map (line_of_early net entry) frames) ∷ []) old new
early_went net entry frames ending old new wrote =
    goes_same ending (flat_map (early_pieces net entry) frames) (ForErr (flat_map (line_of_early net entry) frames) ∷ []) old new
    (lines_same net entry frames) wrote

-- the seats of the frames that are done
pub record SeatsOf (entry : Body → Admission) (whole now : FramesSeen) (all : List Seat) : Type 0 where
  pub left : FramesLeft whole now
  pub those : all ≡ map (seat_of entry) left.done
  pub count : length all ≤ now.taken
  pub few : length all ≤ MAX_FRAMES

pub seats_none : (entry : Body → Admission) (whole : FramesSeen) (all : List Seat) → all ≡ [] → SeatsOf entry whole whole all
seats_none entry whole all none =
    subst (SeatsOf entry whole whole) (sym none)
    (record { left = all_left whole; those = refl; count = omega arith; few = omega arith })

pub seats_one : (entry : Body → Admission) (whole old new : FramesSeen) (all later : List Seat) → SeatsOf entry whole old all
    → FindsFrame old new → IfSome new.at (λ frame. later ≡ all ++ seat_of entry frame ∷ []) → SeatsOf entry whole new later
seats_one entry whole old new all later h finds is =
    let here : later ≡ all ++ seat_of entry finds.frame ∷ [] =
    at_hand whole old new h.left finds (λ frame. later ≡ all ++ seat_of entry frame ∷ []) is in
    let n : length later ≡ length all + 1 = ap length here ∙ length-append all (seat_of entry finds.frame ∷ []) in
    record {
      left = one_done whole old new h.left finds;
      those = here
          ∙ (ap (λ (xs : List Seat). xs ++ seat_of entry finds.frame ∷ []) h.those
          ∙ sym (map-append (seat_of entry) h.left.done (finds.frame ∷ [])));
      count = omega (arith, n, h.count, finds.taken);
      few = omega (arith, n, h.count, finds.taken, finds.few);
    }

-- none has entered
pub none_entered : (entry : Body → Admission) (frames : List Frame) (at packet : ℕ)
    → slice_get (map (seat_of entry) frames) at ≡ Some (seats.Entered packet) → ⊥
none_entered entry [] at packet h = cc
none_entered entry (frame ∷ more) zero packet h = by (early_at entry frame.body) h
  where
    by : (o : Option EarlyEnd) → Path (Option Seat) (Some (seat_unless frame.body o)) (Some (seats.Entered packet)) → ⊥
    by None e = cc
    by (Some stays) e = cc
none_entered entry (frame ∷ more) (suc at) packet h = none_entered entry more at packet h

come_most : (xs : List Seat) → to_come xs ≤ length xs
come_most [] = omega arith
come_most (seats.ToCome body ∷ xs) = let less = come_most xs in omega (arith, less)
come_most (seats.Entered packet ∷ xs) = let less = come_most xs in omega (arith, less)
come_most (seats.Gone ∷ xs) = let less = come_most xs in omega (arith, less)

pub moving_starts : (net : Network) (sides : Sides) (plan : Plan) (frames : List Frame) → plan.joined.nodes ≡ net.nodes
    → plan.joined.links ≡ net.links → AllEnterIn plan.joined sides.old → AllEnterIn plan.joined sides.new
    → length (map (seat_of sides.old) frames) ≤ MAX_FRAMES → IsMoving net sides (starting sides plan frames)
moving_starts net sides plan frames nodes links old new few =
    let less = come_most (map (seat_of sides.old) frames) in
    record {
      nodes = nodes;
      links = links;
      within_old = old;
      within_new = new;
      short = omega (arith, few);
      few = omega (arith, less, few);
      numbered = λ at packet there. absurd (none_entered sides.old frames at packet there);
    }
