use Rattle.std.proofs.Common.{◌∙◌, ◌++◌, ◌∷◌, [], ℕ, List, ap}
use Rattle.srv6_rules.specs.Packet.{Content}
use Rattle.node_stage.specs.Fronted.{fronted}
use Rattle.packet_walk.specs.Flight.{Flight, entering}
use Rattle.packet_walk.specs.FlightTerms.{entered}
use Rattle.run_commands.proofs.scheduled.Entered.enter.Goals as goal

pub returns-clause-entered : goal.returns-clause-entered
returns-clause-entered c =
    let old : Flight = c.args.self.now.flight in
    let front : ℕ = c.into_buf.result.front in
    let with : Content → Flight = λ x. entered old (entering (fronted x front) c.args.place c.args.choices.now) in
    let numbers = c.in_ok-push.ensures.items ∙ ap (λ (l : List ℕ). l ++ c.args.number ∷ []) c.in_ok-reserve.ensures.items in
    (numbers, (front, c.in_ok-enter_content.ensures.1 ∙ ap with c.into_buf.ensures))
