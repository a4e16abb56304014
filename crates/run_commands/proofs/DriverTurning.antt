-- Packets in turns: what a packet's stage writes, and what is due after it.
use Rattle.std.proofs.Common.{◌≡◌, ℕ, zero, suc, ◌-◌, ◌≤◌, ◌<◌, List, [], ◌∷◌, ◌++◌, length, Option, Some, None, IfSome, Ok, Err, refl, sym, ap, ◌∙◌, subst, append_assoc, append-nil, arith}
use Rattle.std.specs.Prelude.{OnOk, Result, slice_index, slice_index_or}
use Rattle.std.proofs.lemmas.Grind.{flat_map-append}
use Rattle.icmp6_errors.specs.Answer.{error_bytes}
use Rattle.net_model.specs.NetworkKeeps.{Keeps}
use Rattle.net_model.specs.Network.{Network}
use Rattle.walk_rules.specs.declared.place.Ended.{Ended}
use Rattle.walk_rules.specs.declared.place.Outcome.{Outcome}
use Rattle.walk_rules.specs.WalkLawsTerms.{TellsOfError}
use Rattle.walk_rules.specs.Treatment.{step_of}
use Rattle.walk_rules.specs.Walk.{Stage, choice_at, end_of}
use Rattle.walk_rules.proofs.PublicLaws.{stage_step, step_tells}
use Rattle.packet_walk.specs.declared.event.Event.{Event}
use Rattle.walk_rules.specs.declared.limits.TheConstants.{MAX_STAGES}
use Rattle.packet_walk.specs.Flight.{InFlight, Flight, packet_of, stage_in, staged, turned}
use Rattle.packet_walk.specs.FlightTerms.{IsGiven, IsInFlight, Turns}
use Rattle.packet_walk.specs.Rest.{end_where, rest_of}
use Rattle.packet_walk.specs.Schedule.{Taken, frame_of}
use Rattle.packet_walk.specs.ScheduleTerms.{Progress, IsOf, IsTurnOf, due, next_of}
use Rattle.packet_walk.proofs.PublicLaws.{packet_same, given_packet, turned_going, turned_net, length_turned, rest_going, rest_ended, end_going, end_ended, staged_counted}
use Rattle.srx_edge.specs.CallSteps.{Ending, Whole}
use Rattle.srv6_rules.specs.Packet.{Packet, bytes_of}
use Rattle.command_output.specs.declared.halt.Failure.{Failure}
use Rattle.command_output.specs.CommandAnswers.{ending_of_failure}
use Rattle.command_output.specs.GatheredTerms.{Goes, Pooled}
use Rattle.command_output.specs.OutputPieces.{Piece, ForOut, ForErr}
use Rattle.run_commands.specs.WrittenCapture.{frame_by, frame_of_gave}
use Rattle.run_commands.specs.WrittenCaptureTerms.{IsWritable}
use Rattle.run_commands.specs.Scheduled.{line_behind, line_by, pieces_of_stage, pieces_of_stages}
use Rattle.command_output.specs.Sent.{IsEnd}
use Rattle.command_output.proofs.PublicLaws.{goes_behind, goes_both, goes_longer, goes_nowhere, goes_then}
use Rattle.run_commands.proofs.Writable.{gave_writable, end_within}

-- what holds, holds where a result is well
pub ok_from : {X E : Type 0} (r : Result X E) (P : Type 0) → P → OnOk r P
ok_from (Ok x) P h = h
ok_from (Err e) P h = tt

-- what holds of the packet that is there
pub of_there : {X : Type 0} (o : Option X) (x : X) (P : X → Type 0) → o ≡ Some x → IfSome o P → P x
of_there o x P there h = subst (λ (p : Option _). IfSome p P) there h

pub to_there : {X : Type 0} (o : Option X) (x : X) (P : X → Type 0) → o ≡ Some x → P x → IfSome o P
to_there o x P there h = subst (λ (p : Option _). IfSome p P) (sym there) h

-- a packet in flight takes its next stage
module _ (net : Network) (p : InFlight) (keeps : Keeps net) (is : IsInFlight net p) (going : p.ended ≡ None) where
  abbrev step : Stage
  step = stage_in net p

  abbrev after : InFlight
  after = staged net p

  abbrev choice : ℕ
  choice = choice_at p.choices p.decisions

  stage_writable : IsWritable step.gave.outcome (bytes_of after.content)
  stage_writable = gave_writable net p.place p.content choice (step_of net p.place p.content choice) refl keeps is.place is.content

  stage_tells : TellsOfError step.gave.outcome step.gave.error
  stage_tells = step_tells net p.place p.content choice

  left : p.stages < MAX_STAGES
  left = is.counted.left going

  -- it ends as its last step does
  end_is : (end : Ended) → after.ended ≡ Some end → end ≡ end_of net (step ∷ [])
  end_is end over =
      sym (end_ended net after end over)
      ∙ (end_going net p going left
      ∙ (ap (end_where (end_of net (rest_of net p))) going
      ∙ ap (end_of net) (rest_going net p going left ∙ ap (λ (rest : List Stage). step ∷ rest) (rest_ended net after end over))))

  line_where : (number : ℕ) (e : Option Ended) → after.ended ≡ e → line_behind net number step (rest_of net after) ≡ line_by net number e
  line_where number None on =
      ap (line_behind net number step) (rest_going net after on ((staged_counted net p going is.counted).left on))
  line_where number (Some end) over =
      ap (line_behind net number step) (rest_ended net after end over)
      ∙ ap (line_by net number) (ap (λ (e : Ended). Some e) (sym (end_is end over)))

  -- its line is after its last stage
  stage_line : (number : ℕ) → line_behind net number step (rest_of net after) ≡ line_by net number after.ended
  stage_line number = line_where number after.ended refl

  end_where_within : (e : Option Ended) → after.ended ≡ e → IfSome e (IsEnd net)
  end_where_within None on = tt
  end_where_within (Some end) over = subst (IsEnd net) (sym (end_is end over))
      (end_within net p.place p.content step.gave.outcome step.gave.after step.gave.error keeps is.place
      (stage_step net p.place p.content choice keeps is.place))

  stage_within : IfSome after.ended (IsEnd net)
  stage_within = end_where_within after.ended refl

-- a turn of a packet in flight
module _ (f : Flight) (packet : ℕ) (given : IsGiven f packet) (going : IfSome (packet_of f packet) (λ p. p.ended ≡ None)) where
  abbrev pub which : (p : InFlight) × (packet_of f packet ≡ Some p)
  which = given_packet f packet given

  which_going : which.0.ended ≡ None
  which_going = of_there (packet_of f packet) which.0 (λ p. p.ended ≡ None) which.1 going

  turn_wrote : (net : Network) → f.net ≡ net → (number : ℕ) (ending : Ending) (s t : Pooled)
      → Goes ending (pieces_of_stage f.net (next_of number f.net which.0)) s t
      → IfSome (packet_of f packet) (λ p. Goes ending (pieces_of_stage net (next_of number net p)) s t)
  turn_wrote net same number ending s t wrote =
      to_there (packet_of f packet) which.0 (λ p. Goes ending (pieces_of_stage net (next_of number net p)) s t) which.1
      (subst (λ (n : Network). Goes ending (pieces_of_stage n (next_of number n which.0)) s t) same wrote)

  module _ (event : Event) (new : Flight) (h : IfSome (packet_of f packet) (λ p. Turns packet f p (Ok (Some event)) new)) where
    turns : Turns packet f which.0 (Ok (Some event)) new
    turns = of_there (packet_of f packet) which.0 (λ p. Turns packet f p (Ok (Some event)) new) which.1 h

    pub new_turned : new ≡ turned packet f
    new_turned = turns.2 ∙ sym (turned_going packet f which.0 which.1 which_going)

    pub new_there : packet_of new packet ≡ Some (staged f.net which.0)
    new_there = ap (λ (g : Flight). packet_of g packet) turns.2
        ∙ packet_same f.packets packet which.0 (staged f.net which.0) which.1

    pub new_given : IsGiven new packet
    new_given =
        let e : length new.packets ≡ length f.packets =
        ap (λ (g : Flight). length g.packets) new_turned ∙ length_turned f packet which.0 which.1 which_going in
        record { first = given.first; last = omega (arith, given.last, e) }

    pub new_error : new.error ≡ error_bytes (stage_in f.net which.0).gave.error
    new_error = ap (λ (g : Flight). g.error) turns.2

    pub event_outcome : event.outcome ≡ (stage_in f.net which.0).gave.outcome
    event_outcome = ap (λ (e : Event). e.outcome) turns.1

    module _ (keeps : Keeps f.net) (fits : IfSome (packet_of f packet) (IsInFlight f.net)) where
      which_fits : IsInFlight f.net which.0
      which_fits = of_there (packet_of f packet) which.0 (IsInFlight f.net) which.1 fits

      pub new_writable : IfSome (packet_of new packet) (λ p. IsWritable event.outcome (bytes_of p.content))
      new_writable = to_there (packet_of new packet) (staged f.net which.0) (λ p. IsWritable event.outcome (bytes_of p.content)) new_there
          (subst (λ o. IsWritable o (bytes_of (staged f.net which.0).content)) (sym event_outcome)
          (stage_writable f.net which.0 keeps which_fits which_going))

      pub event_tells : TellsOfError event.outcome (stage_in f.net which.0).gave.error
      event_tells = subst (λ o. TellsOfError o (stage_in f.net which.0).gave.error) (sym event_outcome)
          (stage_tells f.net which.0 keeps which_fits which_going)

      pub new_within : (net : Network) → f.net ≡ net → IfSome (packet_of new packet) (λ p. IfSome p.ended (IsEnd net))
      new_within net same = to_there (packet_of new packet) (staged f.net which.0) (λ p. IfSome p.ended (IsEnd net)) new_there
          (subst (λ (n : Network). IfSome (staged f.net which.0).ended (IsEnd n)) same
          (stage_within f.net which.0 keeps which_fits which_going))

      pub new_line : (number : ℕ) → line_behind f.net number (stage_in f.net which.0) (rest_of f.net (staged f.net which.0))
          ≡ line_by f.net number (staged f.net which.0).ended
      new_line number = stage_line f.net which.0 keeps which_fits which_going number

      abbrev stage_sent : ℕ → List ℕ
      stage_sent number = frame_of_gave number (stage_in f.net which.0).gave

      abbrev stage_end : ℕ → List ℕ
      stage_end number = line_behind f.net number (stage_in f.net which.0) (rest_of f.net (staged f.net which.0))

      -- what was written of what its stage sends
      sent_by : (number : ℕ) (ending : Ending) (o q : Pooled)
          → IfSome (packet_of new packet) (λ p. (told : Option Packet) → TellsOfError event.outcome told → new.error ≡ error_bytes told
          → Goes ending (ForOut (frame_by number event.outcome p.content told) ∷ []) o q)
          → Goes ending (ForOut (stage_sent number) ∷ []) o q
      sent_by number ending o q wrote =
          subst (λ (outcome : Outcome). Goes ending
          (ForOut (frame_by number outcome (staged f.net which.0).content (stage_in f.net which.0).gave.error) ∷ []) o q) event_outcome
          (of_there (packet_of new packet) (staged f.net which.0)
          (λ p. (told : Option Packet) → TellsOfError event.outcome told → new.error ≡ error_bytes told
          → Goes ending (ForOut (frame_by number event.outcome p.content told) ∷ []) o q) new_there wrote
          (stage_in f.net which.0).gave.error event_tells new_error)

      -- and of its line
      ended_by : (net : Network) → f.net ≡ net → (number : ℕ) (ending : Ending) (e d : Pooled)
          → IfSome (packet_of new packet) (λ p. Goes ending (ForErr (line_by net number p.ended) ∷ []) e d)
          → Goes ending (ForErr (stage_end number) ∷ []) e d
      ended_by net same number ending e d wrote =
          subst (λ (line : List ℕ). Goes ending (ForErr line ∷ []) e d) (sym (new_line number))
          (subst (λ (n : Network). Goes ending (ForErr (line_by n number (staged f.net which.0).ended) ∷ []) e d) (sym same)
          (of_there (packet_of new packet) (staged f.net which.0) (λ p. Goes ending (ForErr (line_by net number p.ended) ∷ []) e d)
          new_there wrote))

      pub turn_cut : (net : Network) → f.net ≡ net → (number : ℕ) (failure : Failure) (o q : Pooled)
          → IfSome (packet_of new packet) (λ p. (told : Option Packet) → TellsOfError event.outcome told → new.error ≡ error_bytes told
          → Goes (ending_of_failure failure) (ForOut (frame_by number event.outcome p.content told) ∷ []) o q)
          → IfSome (packet_of f packet) (λ p. Goes (ending_of_failure failure) (pieces_of_stage net (next_of number net p)) o q)
      turn_cut net same number failure o q wrote =
          turn_wrote net same number (ending_of_failure failure) o q
          (goes_longer failure (ForOut (stage_sent number) ∷ []) (ForErr (stage_end number) ∷ []) o q
          (sent_by number (ending_of_failure failure) o q wrote))

      pub turn_ends : (net : Network) → f.net ≡ net → (number : ℕ) (ending : Ending) (o q r : Pooled)
          → IfSome (packet_of new packet) (λ p. (told : Option Packet) → TellsOfError event.outcome told → new.error ≡ error_bytes told
          → Goes Whole (ForOut (frame_by number event.outcome p.content told) ∷ []) o q)
          → IfSome (packet_of new packet) (λ p. Goes ending (ForErr (line_by net number p.ended) ∷ []) q r)
          → IfSome (packet_of f packet) (λ p. Goes ending (pieces_of_stage net (next_of number net p)) o r)
      turn_ends net same number ending o q r sent ends =
          turn_wrote net same number ending o r
          (goes_then ending (ForOut (stage_sent number) ∷ []) (ForErr (stage_end number) ∷ []) o q r (sent_by number Whole o q sent)
          (ended_by net same number ending q r ends))

-- of all stages these are done, and the others are due
pub record InTurns (net : Network) (numbers : List ℕ) (whole : List Taken) (now : Progress) (f : Flight)
    (first pool : Pooled) : Type 0 where
  pub same_net : f.net ≡ net
  pub same_numbers : now.numbers ≡ numbers
  pub of : IsOf f now
  pub done : List Taken
  pub left : done ++ due now f ≡ whole
  pub went : Goes Whole (pieces_of_stages net done) first pool

-- what is within a list doesn't depend on what is past its end
within_any : (xs : List ℕ) (i d e : ℕ) → i < length xs → slice_index_or xs i d ≡ slice_index_or xs i e
within_any [] i d e within = absurd (omega (arith, within))
within_any (x ∷ xs) zero d e within = refl
within_any (x ∷ xs) (suc i) d e within = within_any xs i d e (omega (arith, within))

frame_at : (numbers : List ℕ) (packet : ℕ) → 1 ≤ packet → slice_index numbers (packet - 1) ≡ frame_of numbers packet
frame_at numbers zero first = absurd (omega (arith, first))
frame_at numbers (suc before) first = let e : suc before - 1 ≡ before = omega arith in ap (slice_index numbers) e

-- the number of a packet's frame, as it stands among the numbers
pub frame_is : (numbers : List ℕ) (packet number : ℕ) → 1 ≤ packet → packet - 1 < length numbers
    → number ≡ slice_index_or numbers (packet - 1) number → number ≡ frame_of numbers packet
frame_is numbers packet number first within is = is ∙ (within_any numbers (packet - 1) number 0 within ∙ frame_at numbers packet first)

module _ (net : Network) (numbers : List ℕ) (whole : List Taken) (old new : Progress) (f : Flight) (first mid : Pooled)
    (t : InTurns net numbers whole old f first mid) where
  -- the packet whose turn it is has a number
  pub turns_within : (packet : ℕ) → IsTurnOf old f packet new → packet - 1 < length numbers
  turns_within packet turn =
      let e : length old.numbers ≡ length f.packets = t.of.each in
      let n : length old.numbers ≡ length numbers = ap length t.same_numbers in
      omega (arith, turn.given.first, turn.given.last, e, n)

  module _ (packet number : ℕ) (turn : IsTurnOf old f packet new) (is : number ≡ frame_of numbers packet) where
    abbrev pub turning : InFlight
    turning = (which f packet turn.given turn.going).0

    there : packet_of f packet ≡ Some turning
    there = (which f packet turn.given turn.going).1

    abbrev pub stage : Taken
    stage = next_of number net turning

    first_due : due old f ≡ stage ∷ due new (turned packet f)
    first_due =
        of_there (packet_of f packet) turning (λ p. due old f ≡ next_of (frame_of old.numbers packet) f.net p ∷ due new (turned packet f))
        there turn.first
        ∙ (ap (λ (n : ℕ). next_of n f.net turning ∷ due new (turned packet f))
        (ap (λ (ns : List ℕ). frame_of ns packet) t.same_numbers ∙ sym is)
        ∙ ap (λ (n : Network). next_of number n turning ∷ due new (turned packet f)) t.same_net)

    stages_on : (t.done ++ stage ∷ []) ++ due new (turned packet f) ≡ whole
    stages_on = append_assoc t.done (stage ∷ []) (due new (turned packet f))
        ∙ (ap (λ (more : List Taken). t.done ++ more) (sym first_due) ∙ t.left)

    pieces_on : pieces_of_stages net (t.done ++ stage ∷ []) ≡ pieces_of_stages net t.done ++ pieces_of_stage net stage
    pieces_on = flat_map-append (pieces_of_stage net) t.done (stage ∷ [])
        ∙ ap (λ (more : List Piece). pieces_of_stages net t.done ++ more) (append-nil (pieces_of_stage net stage))

    -- a stage's pieces went out
    pub turns_on : (g : Flight) (pool : Pooled) → g ≡ turned packet f
        → IfSome (packet_of f packet) (λ p. Goes Whole (pieces_of_stage net (next_of number net p)) mid pool)
        → InTurns net numbers whole new g first pool
    turns_on g pool is-turned wrote =
        let went : Goes Whole (pieces_of_stage net stage) mid pool =
        of_there (packet_of f packet) turning (λ p. Goes Whole (pieces_of_stage net (next_of number net p)) mid pool) there wrote in
        subst (λ (h : Flight). InTurns net numbers whole new h first pool) (sym is-turned)
        (record {
          same_net = turned_net packet f ∙ t.same_net;
          same_numbers = turn.numbers ∙ t.same_numbers;
          of = turn.later;
          done = t.done ++ stage ∷ [];
          left = stages_on;
          went = subst (λ (pieces : List Piece). Goes Whole pieces first pool) (sym pieces_on)
              (goes_both (pieces_of_stages net t.done) (pieces_of_stage net stage) first mid pool t.went went);
        })

    -- they went out in part
    pub turns_cut : (failure : Failure) (pool : Pooled)
        → IfSome (packet_of f packet) (λ p. Goes (ending_of_failure failure) (pieces_of_stage net (next_of number net p)) mid pool)
        → Goes (ending_of_failure failure) (pieces_of_stages net whole) first pool
    turns_cut failure pool wrote =
        let cut : Goes (ending_of_failure failure) (pieces_of_stage net stage) mid pool =
        of_there (packet_of f packet) turning
        (λ p. Goes (ending_of_failure failure) (pieces_of_stage net (next_of number net p)) mid pool) there wrote in
        subst (λ (stages : List Taken). Goes (ending_of_failure failure) (pieces_of_stages net stages) first pool) stages_on
        (subst (λ (pieces : List Piece). Goes (ending_of_failure failure) pieces first pool)
        (sym (flat_map-append (pieces_of_stage net) (t.done ++ stage ∷ []) (due new (turned packet f))))
        (goes_longer failure (pieces_of_stages net (t.done ++ stage ∷ [])) (pieces_of_stages net (due new (turned packet f))) first pool
        (subst (λ (pieces : List Piece). Goes (ending_of_failure failure) pieces first pool) (sym pieces_on)
        (goes_behind failure (pieces_of_stages net t.done) (pieces_of_stage net stage) first mid pool t.went cut))))

-- no stage is due: all are done
pub turns_done : (net : Network) (numbers : List ℕ) (whole : List Taken) (now : Progress) (f : Flight) (first pool : Pooled)
    → InTurns net numbers whole now f first pool → due now f ≡ [] → Goes Whole (pieces_of_stages net whole) first pool
turns_done net numbers whole now f first pool t none =
    subst (λ (stages : List Taken). Goes Whole (pieces_of_stages net stages) first pool)
    (sym (append-nil t.done) ∙ (ap (λ (more : List Taken). t.done ++ more) (sym none) ∙ t.left)) t.went

pub ruleset by_turns = (goes_nowhere, turns_done)
