use Rattle.line_talk.specs.Lines.{line_unless_empty}
use Rattle.line_talk.proofs.Steps.{steps_pour}
use Rattle.line_talk.proofs.desk.Desk.finish.Goals as goal

pub returns-clause-steps : goal.returns-clause-steps
returns-clause-steps g c line keeps =
    steps_pour g.E.Engine.rules c.pour.result (line_unless_empty line) (g.E.Engine.seen c.args.engine.now) (g.E.Engine.seen c.answer_last.new.engine)
    c.args.self.now.waiting c.answer_last.new.self.waiting c.pour.new.self (g.C.Client.talk c.args.client.now) (g.C.Client.talk c.answer_last.new.client) (g.C.Client.talk c.pour.new.client)
    (c.in_ok-answer_last.ensures line keeps) c.pour.ensures.says
