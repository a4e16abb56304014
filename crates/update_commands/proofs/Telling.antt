-- What is written of a packet that takes its walk: its frames, and one line, that of how it ends.
use Rattle.std.proofs.Common.{◌≡◌, ℕ, ◌+◌, List, [], ◌∷◌, ◌++◌, Option, Some, None, refl, sym, ap, ap₂, ◌∙◌, append-nil}
use Rattle.net_model.specs.Network.{Network}
use Rattle.walk_rules.specs.declared.place.Ended.{Ended}
use Rattle.walk_rules.specs.Walk.{Stage}
use Rattle.packet_walk.specs.Flight.{InFlight, stage_in, staged}
use Rattle.packet_walk.specs.FlightTerms.{IsCounted}
use Rattle.packet_walk.specs.Rest.{end_from, rest_of}
use Rattle.packet_walk.proofs.PublicLaws.{end_ended, end_going, rest_ended, rest_going, staged_counted}
use Rattle.command_output.specs.OutputLines.{packet_line}
use Rattle.command_output.specs.OutputPieces.{bytes_for_err, bytes_for_out}
use Rattle.run_commands.specs.WrittenCapture.{frame_of_gave, frames_of}
use Rattle.run_commands.specs.Scheduled.{line_by}
use Rattle.update_driver.specs.Events.{pieces_of}
use Rattle.update_commands.proofs.Entered.{tellings}

module _ (net : Network) (number : ℕ) (own : Network) where
  pub frames_told : (p : InFlight) (steps : List Stage)
      → bytes_for_out (pieces_of net (tellings number own p steps)) ≡ frames_of number steps
  frames_told p [] = refl
  frames_told p (s ∷ more) = ap (λ (bytes : List ℕ). frame_of_gave number s.gave ++ bytes) (frames_told (staged own p) more)

  pub lines_told_law : (p : InFlight) (steps : List Stage) → steps ≡ rest_of own p → p.ended ≡ None → IsCounted p
      → bytes_for_err (pieces_of net (tellings number own p steps)) ≡ packet_line net number (end_from own p)
  lines_told_law p [] is going counted = absurd (let rest = rest_going own p going (counted.left going) in cc)
  lines_told_law p (s ∷ more) is going counted =
      by (λ same goes. lines_told_law (staged own p) more same goes (staged_counted own p going counted)) (staged own p).ended refl
      ∙ ap (packet_line net number) (end_going own p going (counted.left going))
    where
      q : InFlight
      q = staged own p

      later : more ≡ rest_of own q
      later =
          let rest = rest_going own p going (counted.left going) in
          let both : s ∷ more ≡ stage_in own p ∷ rest_of own q = is ∙ rest in
          cc

      by : (more ≡ rest_of own q → q.ended ≡ None → bytes_for_err (pieces_of net (tellings number own q more))
          ≡ packet_line net number (end_from own q))
          → (e : Option Ended) → q.ended ≡ e
          → line_by net number q.ended ++ bytes_for_err (pieces_of net (tellings number own q more))
          ≡ packet_line net number (end_from own q)
      by rest None goes =
          ap (λ (e : Option Ended). line_by net number e ++ bytes_for_err (pieces_of net (tellings number own q more))) goes
          ∙ rest later goes
      by rest (Some end) over =
          ap₂ (λ (e : Option Ended) (xs : List Stage).
          line_by net number e ++ bytes_for_err (pieces_of net (tellings number own q xs))) over
          (later ∙ rest_ended own q end over)
          ∙ (append-nil (packet_line net number end) ∙ ap (packet_line net number) (sym (end_ended own q end over)))
