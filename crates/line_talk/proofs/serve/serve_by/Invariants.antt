use Rattle.line_talk.proofs.Talking.{Holds}
use Rattle.line_talk.proofs.serve.serve_by.Given as goal

abbrev pub invariant-loop : goal.invariant-loop
invariant-loop g l =
    Holds g.E.Engine.rules (g.E.Engine.seen l.fn.engine) l.counter l.desk.line l.desk.waiting (g.E.Engine.seen l.engine) (g.C.Client.talk l.fn.client) (g.C.Client.talk l.client)
