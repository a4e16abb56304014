use Rattle.line_talk.specs.Lines.{whole_lines_from}
use Rattle.line_talk.proofs.Steps.{steps_pour, on_ok_of}
use Rattle.line_talk.proofs.desk.Desk.answer_piece.Goals as goal

pub returns-clause-steps : goal.returns-clause-steps
returns-clause-steps g c line keeps =
    steps_pour g.E.Engine.rules c.pour.result (whole_lines_from line c.args.piece.now) (g.E.Engine.seen c.args.engine.now) (g.E.Engine.seen c.feed.new.engine)
    c.args.self.now.waiting c.feed.new.self.waiting c.pour.new.self (g.C.Client.talk c.args.client.now) (g.C.Client.talk c.feed.new.client) (g.C.Client.talk c.pour.new.client)
    (c.in_ok-feed.ensures.steps line keeps) c.pour.ensures.says

pub returns-clause-line : goal.returns-clause-line
returns-clause-line g c line keeps = on_ok_of c.pour.result (c.in_ok-feed.ensures.line line keeps)
