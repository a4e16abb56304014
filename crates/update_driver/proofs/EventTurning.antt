-- What a stage of a packet that entered writes, and what it leaves.
use Rattle.std.proofs.Common.{◌≡◌, ℕ, List, [], ◌∷◌, Option, Some, None, IfSome, Ok, refl, sym, ap, ◌∙◌, subst}
use Rattle.std.specs.Prelude.{IsSome, ◌<◌, length}
use Rattle.icmp6_errors.specs.Answer.{error_bytes}
use Rattle.net_model.specs.NetworkKeeps.{Keeps}
use Rattle.net_model.specs.Network.{Network}
use Rattle.walk_rules.specs.declared.place.Ended.{Ended}
use Rattle.walk_rules.specs.declared.place.Ended.TheVariants as ends
use Rattle.walk_rules.specs.declared.place.Outcome.{Outcome}
use Rattle.walk_rules.specs.WalkLawsTerms.{TellsOfError}
use Rattle.walk_rules.specs.Walk.{Stage}
use Rattle.packet_walk.specs.declared.event.Event.{Event}
use Rattle.packet_walk.specs.Flight.{Flight, InFlight, Packets, packet_in, packet_of, stage_in, staged, turned, within}
use Rattle.packet_walk.specs.FlightTerms.{IsInFlight, IsNumber, Turns}
use Rattle.packet_walk.proofs.PublicLaws.{given_packet, turned_ended}
use Rattle.srv6_rules.specs.Packet.{Packet, bytes_of, Content}
use Rattle.srx_edge.specs.CallSteps.{Ending, Whole}
use Rattle.command_output.specs.declared.halt.Failure.{Failure}
use Rattle.command_output.specs.CommandAnswers.{ending_of_failure}
use Rattle.command_output.specs.GatheredTerms.{Goes, Pooled}
use Rattle.command_output.specs.OutputPieces.{ForOut, ForErr}
use Rattle.command_output.specs.Sent.{IsEnd}
use Rattle.command_output.proofs.PublicLaws.{goes_longer, goes_then}
use Rattle.run_commands.specs.WrittenCapture.{frame_by, frame_of_gave}
use Rattle.run_commands.specs.WrittenCaptureTerms.{IsWritable}
use Rattle.run_commands.specs.Scheduled.{line_by}
use Rattle.run_commands.proofs.DriverTurning.{event_outcome, event_tells, new_error, new_given, new_there, new_turned, new_within, new_writable, of_there, to_there}
use Rattle.update_flight.specs.Transition.{packets_of}
use Rattle.update_plan.specs.UpdateState.{Update, tables_now}
use Rattle.update_driver.specs.Events.{pieces_of}
use Rattle.update_driver.specs.Moving.{Happening, Moving, Staged, happenings_of_turn, happenings_where, turning}

-- an end that is in one network is in another with the same nodes and links
pub end_there : (a b : Network) → a.nodes ≡ b.nodes → a.links ≡ b.links → (e : Ended) → IsEnd a e → IsEnd b e
end_there a b nodes links (ends.Left link) h = subst (λ ls. link < length ls) links h
end_there a b nodes links (ends.Delivered node) h = subst (λ ns. node < length ns) nodes h
end_there a b nodes links (ends.Dropped node reason) h = subst (λ ns. node < length ns) nodes h
end_there a b nodes links ends.Stages h = tt

pub end_if_there : (a b : Network) → a.nodes ≡ b.nodes → a.links ≡ b.links → (e : Option Ended) → IfSome e (IsEnd a) → IfSome e (IsEnd b)
end_if_there a b nodes links None h = tt
end_if_there a b nodes links (Some e) h = end_there a b nodes links e h

module _ (m : Moving) (number packet : ℕ) (given : IsNumber m.update.transition.packets.packets packet) where
  abbrev u : Update
  u = m.update

  abbrev pub flight : Flight
  flight = within (tables_now u) u.transition.packets

  abbrev which : (p : InFlight) × (packet_of flight packet ≡ Some p)
  which = given_packet flight packet given

  -- the update after a turn is one whose packets are others
  abbrev with_those : Packets → Moving
  with_those all = record m { update = record u { transition = record u.transition { packets = all } } }

  told_over : (p : InFlight) (e : Option Ended) → IsSome e → happenings_where number u p e ≡ []
  told_over p None h = absurd (cc)
  told_over p (Some end) h = refl

  told_going : (p : InFlight) (e : Option Ended) → e ≡ None
      → happenings_where number u p e ≡ Staged number (stage_in (tables_now u) p) (staged (tables_now u) p).ended ∷ []
  told_going p None h = refl
  told_going p (Some end) h = absurd (cc)

  abbrev told : List Happening
  told = (turning number packet m).happens

  told_is : told ≡ happenings_where number u which.0 which.0.ended
  told_is = ap (happenings_of_turn number u) which.1

  -- it has ended
  module _ (new : Packets) (h : IfSome (packet_in u.transition.packets.packets packet)
      (λ p. Turns packet flight p (Ok None) (within (tables_now u) new))) where
    over : Turns packet flight which.0 (Ok None) (within (tables_now u) new)
    over = of_there (packet_of flight packet) which.0 (λ p. Turns packet flight p (Ok None) (within (tables_now u) new)) which.1 h

    pub over_told : told ≡ []
    over_told = told_is ∙ told_over which.0 which.0.ended over.0

    turned_over : (e : Option Ended) → which.0.ended ≡ e → IsSome e → turned packet flight ≡ flight
    turned_over None is some = absurd (cc)
    turned_over (Some end) is some = turned_ended packet flight which.0 end which.1 is

    pub over_after : with_those new ≡ (turning number packet m).after
    over_after =
        ap (λ (f : Flight). with_those (packets_of f)) (over.1 ∙ sym (turned_over which.0.ended refl over.0))

  -- it takes a stage
  module _ (event : Event) (new : Packets) (h : IfSome (packet_in u.transition.packets.packets packet)
      (λ p. Turns packet flight p (Ok (Some event)) (within (tables_now u) new))) where
    turns : Turns packet flight which.0 (Ok (Some event)) (within (tables_now u) new)
    turns = of_there (packet_of flight packet) which.0 (λ p. Turns packet flight p (Ok (Some event)) (within (tables_now u) new)) which.1 h

    going : IfSome (packet_of flight packet) (λ p. p.ended ≡ None)
    going = to_there (packet_of flight packet) which.0 (λ p. p.ended ≡ None) which.1 turns.0

    pub stage_after : with_those new ≡ (turning number packet m).after
    stage_after = ap (λ (f : Flight). with_those (packets_of f)) (new_turned flight packet given going event (within (tables_now u) new) h)

    pub stage_given : IsNumber new.packets packet
    stage_given = new_given flight packet given going event (within (tables_now u) new) h

    stage_told : told ≡ Staged number (stage_in (tables_now u) which.0) (staged (tables_now u) which.0).ended ∷ []
    stage_told = told_is ∙ told_going which.0 which.0.ended turns.0

    module _ (keeps : Keeps (tables_now u)) (fits : IfSome (packet_in u.transition.packets.packets packet) (IsInFlight (tables_now u)))
      where
        pub stage_writable : (bytes : List ℕ) → IfSome (packet_in new.packets packet) (λ p. bytes ≡ bytes_of p.content)
            → IsWritable event.outcome bytes
        stage_writable bytes is =
            let there = new_there flight packet given going event (within (tables_now u) new) h in
            let same : bytes ≡ bytes_of (staged (tables_now u) which.0).content =
            of_there (packet_in new.packets packet) (staged (tables_now u) which.0) (λ p. bytes ≡ bytes_of p.content) there is in
            subst (IsWritable event.outcome) (sym same)
            (of_there (packet_in new.packets packet) (staged (tables_now u) which.0)
            (λ p. IsWritable event.outcome (bytes_of p.content)) there
            (new_writable flight packet given going event (within (tables_now u) new) h keeps fits))

        pub stage_within : (net : Network) → (tables_now u).nodes ≡ net.nodes → (tables_now u).links ≡ net.links
            → IfSome (packet_in new.packets packet) (λ p. IfSome p.ended (IsEnd net))
        stage_within net nodes links =
            let there = new_there flight packet given going event (within (tables_now u) new) h in
            to_there (packet_in new.packets packet) (staged (tables_now u) which.0) (λ p. IfSome p.ended (IsEnd net)) there
            (end_if_there (tables_now u) net nodes links (staged (tables_now u) which.0).ended
            (of_there (packet_in new.packets packet) (staged (tables_now u) which.0) (λ p. IfSome p.ended (IsEnd (tables_now u))) there
            (new_within flight packet given going event (within (tables_now u) new) h keeps fits (tables_now u) refl)))

        module _ (bytes error : List ℕ) (is : IfSome (packet_in new.packets packet) (λ p. bytes ≡ bytes_of p.content))
            (slot : error ≡ new.error) (ending : Ending) (o q : Pooled)
            (wrote : (after : Content) (told : Option Packet) → TellsOfError event.outcome told → bytes ≡ bytes_of after
            → error ≡ error_bytes told → Goes ending (ForOut (frame_by number event.outcome after told) ∷ []) o q) where
          abbrev stage : Stage
          stage = stage_in (tables_now u) which.0

          sent : Goes ending (ForOut (frame_of_gave number stage.gave) ∷ []) o q
          sent =
              let there = new_there flight packet given going event (within (tables_now u) new) h in
              let same : bytes ≡ bytes_of stage.gave.after =
              of_there (packet_in new.packets packet) (staged (tables_now u) which.0) (λ p. bytes ≡ bytes_of p.content) there is in
              let tells = event_tells flight packet given going event (within (tables_now u) new) h keeps fits in
              let fills = new_error flight packet given going event (within (tables_now u) new) h in
              subst (λ (outcome : Outcome). Goes ending (ForOut (frame_by number outcome stage.gave.after stage.gave.error) ∷ []) o q)
              (event_outcome flight packet given going event (within (tables_now u) new) h)
              (wrote stage.gave.after stage.gave.error tells same (slot ∙ fills))

          -- what the stage sends went out in part
          pub stage_cut : (net : Network) (failure : Failure) → ending ≡ ending_of_failure failure → Goes ending (pieces_of net told) o q
          stage_cut net failure cut =
              subst (λ (all : List Happening). Goes ending (pieces_of net all) o q) (sym stage_told)
              (subst (λ (e : Ending). Goes e (ForOut (frame_of_gave number stage.gave)
              ∷ ForErr (line_by net number (staged (tables_now u) which.0).ended) ∷ []) o q) (sym cut)
              (goes_longer failure (ForOut (frame_of_gave number stage.gave) ∷ [])
              (ForErr (line_by net number (staged (tables_now u) which.0).ended) ∷ []) o q
              (subst (λ (e : Ending). Goes e (ForOut (frame_of_gave number stage.gave) ∷ []) o q) cut sent)))

          -- it went out, and then the line
          pub stage_went : (net : Network) (last : Ending) (r : Pooled) → ending ≡ Whole
              → IfSome (packet_in new.packets packet) (λ p. Goes last (ForErr (line_by net number p.ended) ∷ []) q r)
              → Goes last (pieces_of net told) o r
          stage_went net last r whole line =
              let there = new_there flight packet given going event (within (tables_now u) new) h in
              subst (λ (all : List Happening). Goes last (pieces_of net all) o r) (sym stage_told)
              (goes_then last (ForOut (frame_of_gave number stage.gave) ∷ [])
              (ForErr (line_by net number (staged (tables_now u) which.0).ended) ∷ []) o q r
              (subst (λ (e : Ending). Goes e (ForOut (frame_of_gave number stage.gave) ∷ []) o q) whole sent)
              (of_there (packet_in new.packets packet) (staged (tables_now u) which.0)
              (λ p. Goes last (ForErr (line_by net number p.ended) ∷ []) q r) there line))
