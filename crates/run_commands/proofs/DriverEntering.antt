-- Packets that enter, frame by frame.
use Rattle.std.proofs.Common.{◌≡◌, ℕ, ◌+◌, ◌<◌, ◌≤◌, List, [], ◌∷◌, ◌++◌, length, get_or, Option, Some, None, IfSome, refl, sym, ap, ◌∙◌, subst, append-nil, length-append, arith}
use Rattle.std.specs.List.{flat_map}
use Rattle.std.specs.Prelude.{All}
use Rattle.std.proofs.lemmas.List.Elements.{All-push, All-get_or, All-from_get_or}
use Rattle.pcap_io.specs.declared.frame.Body.{Body}
use Rattle.pcap_io.specs.declared.frame.Frame.{Frame}
use Rattle.net_model.specs.Network.{Network}
use Rattle.packet_walk.specs.Flight.{InFlight, Flight, with_front}
use Rattle.packet_walk.specs.FlightTerms.{entered}
use Rattle.packet_walk.specs.Rest.{rest_of}
use Rattle.packet_walk.specs.Schedule.{Coming}
use Rattle.packet_walk.specs.ScheduleTerms.{comings, comings_of}
use Rattle.packet_walk.proofs.PublicLaws.{rising_push}
use Rattle.command_inputs.specs.InputFrames.{FramesSeen, FindsFrame}
use Rattle.command_inputs.proofs.PublicLaws.{FramesLeft, all_left, at_hand, flat_one, one_done}
use Rattle.run_commands.specs.declared.enters.Entrant.{Entrant}
use Rattle.run_commands.specs.Admission.{Admission, entrant_of, coming_if_admitted, coming_of_frame}
use Rattle.run_commands.specs.AdmissionTerms.{in_flight_if_admitted}
use Rattle.run_commands.specs.Scheduled.{coming}
use Rattle.run_commands.specs.ScheduledTerms.{IsEntered, IsInStep}

-- numbers that are no more than one are no more than a greater one
below_more : (numbers : List ℕ) (last number : ℕ) → last ≤ number → All (λ n. n ≤ last) numbers → All (λ n. n ≤ number) numbers
below_more numbers last number more below = All-from_get_or (λ n. n ≤ number) numbers 0
    (λ i within. let l : get_or numbers i 0 ≤ last = All-get_or (λ n. n ≤ last) numbers i 0 within below in omega (arith, l, more))

-- one more packet, with its number
comings_push : (net : Network) (numbers : List ℕ) (packets : List InFlight) (number : ℕ) (p : InFlight) → length numbers ≡ length packets
    → comings net (numbers ++ number ∷ []) (packets ++ p ∷ [])
    ≡ comings net numbers packets ++ record { number = number; steps = rest_of net p } ∷ []
comings_push net [] [] number p each = refl
comings_push net [] (q ∷ packets) number p each = absurd (omega (arith, each))
comings_push net (n ∷ numbers) [] number p each = absurd (omega (arith, each))
comings_push net (n ∷ numbers) (q ∷ packets) number p each =
    ap (λ (more : List Coming). record { number = n; steps = rest_of net q } ∷ more)
    (comings_push net numbers packets number p (omega (arith, each)))

-- the packets that entered so far are these, and their frames' numbers are no more than a last one
pub record HasEntered (net : Network) (last : ℕ) (packets : List Coming) (numbers : List ℕ) (f : Flight) : Type 0 where
  pub in_step : IsInStep net numbers f
  pub few : length f.packets ≤ last
  pub below : All (λ number. number ≤ last) numbers
  pub those : comings_of numbers f ≡ packets

-- a packet that enters, by the number of its frame and its walk
abbrev pub coming_if : Network → ℕ → Option InFlight → List Coming
coming_if net number None = []
coming_if net number (Some p) = coming number (rest_of net p)

-- one that enters, with a number above those before it, is after them
module _ (net : Network) (last : ℕ) (before : List Coming) (f : Flight) (numbers : List ℕ) (number : ℕ) (above : last < number)
    (h : HasEntered net last before numbers f) where
  enters_none : HasEntered net number (before ++ []) numbers f
  enters_none = record {
    in_step = h.in_step;
    few = omega (arith, h.few, above);
    below = below_more numbers last number (omega (arith, above)) h.below;
    those = h.those ∙ sym (append-nil before);
  }

  enters_one : (p : InFlight) → HasEntered net number (before ++ coming number (rest_of net p)) (numbers ++ number ∷ []) (entered f p)
  enters_one p =
      let n : length (numbers ++ number ∷ []) ≡ length numbers + 1 = length-append numbers (number ∷ []) in
      let m : length (f.packets ++ p ∷ []) ≡ length f.packets + 1 = length-append f.packets (p ∷ []) in
      let each : length numbers ≡ length f.packets = h.in_step.each in
      record {
        in_step = record {
          same_net = h.in_step.same_net;
          each = omega (arith, n, m, each);
          rising = rising_push numbers number h.in_step.rising
              (λ k within. let l : get_or numbers k 0 ≤ last = All-get_or (λ x. x ≤ last) numbers k 0 within h.below in
              omega (arith, l, above));
        };
        few = omega (arith, m, h.few, above);
        below = All-push (λ x. x ≤ number) numbers number (below_more numbers last number (omega (arith, above)) h.below) (omega arith);
        those = comings_push f.net numbers f.packets number p each
            ∙ (ap (λ (all : List Coming). all ++ coming number (rest_of f.net p)) h.those
            ∙ ap (λ (n : Network). before ++ coming number (rest_of n p)) h.in_step.same_net);
      }

  enters_as : (o : Option InFlight) (ms : List ℕ) (g : Flight) → IsEntered number o numbers f ms g
      → HasEntered net number (before ++ coming_if net number o) ms g
  enters_as None ms g is =
      subst (λ (k : Flight). HasEntered net number (before ++ []) ms k) (sym is.1)
      (subst (λ (xs : List ℕ). HasEntered net number (before ++ []) xs f) (sym is.0) enters_none)
  enters_as (Some p) ms g is =
      let all : List Coming = before ++ coming number (rest_of net p) in
      subst (λ (k : Flight). HasEntered net number all ms k) (sym is.1.1)
      (subst (λ (xs : List ℕ). HasEntered net number all xs (entered f (with_front is.1.0 p))) (sym is.0)
      (enters_one (with_front is.1.0 p)))

-- the packets of the frames that are done entered
pub record EnteredOf (packets : Frame → List Coming) (net : Network) (whole now : FramesSeen) (numbers : List ℕ) (f : Flight) : Type 0 where
  pub left : FramesLeft whole now
  pub has : HasEntered net now.taken (flat_map packets left.done) numbers f

pub entering_none : (packets : Frame → List Coming) (net : Network) (whole : FramesSeen) (numbers : List ℕ) (f : Flight)
    → f ≡ record { net = net; error = []; packets = [] } → numbers ≡ [] → EnteredOf packets net whole whole numbers f
entering_none packets net whole numbers f is none =
    subst (λ (g : Flight). EnteredOf packets net whole whole numbers g) (sym is)
    (subst (λ (xs : List ℕ). EnteredOf packets net whole whole xs (record { net = net; error = []; packets = [] })) (sym none)
    (record {
      left = all_left whole;
      has = record {
        in_step = record { same_net = refl; each = refl; rising = λ k within. absurd (omega (arith, within)) };
        few = omega arith;
        below = All-from_get_or (λ n. n ≤ whole.taken) [] 0 (λ i within. absurd (omega (arith, within)));
        those = refl;
      };
    }))

module _ (net : Network) (choices : List ℕ) (entry : Body → Admission) where
  abbrev packets : Frame → List Coming
  packets = coming_of_frame net choices entry

  -- what comes with a frame is what enters of it
  comes_as : (number : ℕ) (comes : Option Entrant)
      → coming_if_admitted net choices number comes ≡ coming_if net number (in_flight_if_admitted choices comes)
  comes_as number None = refl
  comes_as number (Some comes) = refl

  abbrev enters_of : Frame → Option InFlight
  enters_of frame = in_flight_if_admitted choices (entrant_of (entry frame.body))

  module _ (whole old new : FramesSeen) (numbers : List ℕ) (f : Flight) (e : EnteredOf packets net whole old numbers f)
      (h : FindsFrame old new) where
    pub entering_one : (numbers_new : List ℕ) (g : Flight)
        → IfSome new.at (λ frame. IsEntered frame.number (enters_of frame) numbers f numbers_new g)
        → EnteredOf packets net whole new numbers_new g
    entering_one numbers_new g enters =
        let n : h.frame.number ≡ new.taken = h.number ∙ sym h.taken in
        let one : IsEntered h.frame.number (enters_of h.frame) numbers f numbers_new g =
        at_hand whole old new e.left h (λ frame. IsEntered frame.number (enters_of frame) numbers f numbers_new g) enters in
        let all : flat_map packets e.left.done ++ coming_if net h.frame.number (enters_of h.frame)
        ≡ flat_map packets (e.left.done ++ h.frame ∷ []) =
        ap (λ (last : List Coming). flat_map packets e.left.done ++ last) (sym (comes_as h.frame.number (entrant_of (entry h.frame.body))))
        ∙ sym (flat_one whole old new e.left h packets) in
        record {
          left = one_done whole old new e.left h;
          has = subst (λ (last : ℕ). HasEntered net last (flat_map packets (e.left.done ++ h.frame ∷ [])) numbers_new g) n
              (subst (λ (cs : List Coming). HasEntered net h.frame.number cs numbers_new g) all
              (enters_as net old.taken (flat_map packets e.left.done) f numbers h.frame.number (omega (arith, h.number)) e.has
              (enters_of h.frame) numbers_new g one));
        }
