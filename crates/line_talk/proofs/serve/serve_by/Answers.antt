use Rattle.std.proofs.Common.{arith}
use Rattle.line_talk.proofs.Talking.{holds_first, holds_more, talks_failed, talks_endless, talks_stopped, talks_done, talks_last}
use Rattle.line_talk.proofs.serve.serve_by.Goals as goal

pub take_turn-requires : goal.take_turn-requires
take_turn-requires g c = omega (arith, c.requires, c.loop.auto.room)

pub loop-init : goal.loop-init
loop-init g c =
    holds_first g.E.Engine.rules (g.E.Engine.seen c.args.engine.now) c.new-desk.result.line c.new-desk.result.waiting (g.C.Client.talk c.args.client.now)
    c.new-desk.ensures.line c.new-desk.ensures.waiting

pub loop-preserved : goal.loop-preserved
loop-preserved g c =
    holds_more g.E.Engine.rules (g.E.Engine.seen c.args.engine.now) c.loop.counter c.loop.desk.line c.take_turn.new.self.line c.loop.desk.waiting c.take_turn.new.self.waiting (g.E.Engine.seen c.loop.engine) (g.E.Engine.seen c.take_turn.new.engine)
    (g.C.Client.talk c.args.client.now) (g.C.Client.talk c.loop.client) (g.C.Client.talk c.take_turn.new.client) c.loop.invariant c.in-More.ensures

pub returns : goal.returns
returns g c =
    talks_endless g.E.Engine.rules (g.E.Engine.seen c.args.engine.now) c.loop.counter c.loop.desk.line c.loop.desk.waiting (g.E.Engine.seen c.loop.engine)
    (g.C.Client.talk c.args.client.now) (g.C.Client.talk c.loop.client) c.loop.invariant (omega (arith, c.loop-test.false))

pub returns-in-ReadFailed : goal.returns-in-ReadFailed
returns-in-ReadFailed g c =
    talks_failed g.E.Engine.rules (g.E.Engine.seen c.args.engine.now) c.loop.counter c.loop.desk.line c.take_turn.new.self.line c.loop.desk.waiting c.take_turn.new.self.waiting (g.E.Engine.seen c.loop.engine) (g.E.Engine.seen c.take_turn.new.engine)
    (g.C.Client.talk c.args.client.now) (g.C.Client.talk c.loop.client) (g.C.Client.talk c.take_turn.new.client) c.loop.invariant c.in-ReadFailed.ensures

pub returns-in-Stopped : goal.returns-in-Stopped
returns-in-Stopped g c =
    rw c.status_of-in-Stopped.ensures
    (talks_stopped g.E.Engine.rules (g.E.Engine.seen c.args.engine.now) c.loop.counter c.in-Stopped.stop c.loop.desk.line c.take_turn.new.self.line c.loop.desk.waiting c.take_turn.new.self.waiting (g.E.Engine.seen c.loop.engine) (g.E.Engine.seen c.take_turn.new.engine)
    (g.C.Client.talk c.args.client.now) (g.C.Client.talk c.loop.client) (g.C.Client.talk c.take_turn.new.client) c.loop.invariant c.in-Stopped.ensures)

pub returns-in-Ok : goal.returns-in-Ok
returns-in-Ok g c =
    talks_done g.E.Engine.rules (g.E.Engine.seen c.args.engine.now) c.loop.counter c.loop.desk.line c.take_turn.new.self.line c.loop.desk.waiting c.take_turn.new.self.waiting c.finish.new.self.waiting (g.E.Engine.seen c.loop.engine) (g.E.Engine.seen c.take_turn.new.engine) (g.E.Engine.seen c.finish.new.engine)
    (g.C.Client.talk c.args.client.now) (g.C.Client.talk c.loop.client) (g.C.Client.talk c.take_turn.new.client) (g.C.Client.talk c.finish.new.client) c.loop.invariant c.in-End.ensures c.in-Ok.ensures.steps c.in-Ok.ensures.all

pub returns-in-Err : goal.returns-in-Err
returns-in-Err g c =
    rw c.status_of.ensures
    (talks_last g.E.Engine.rules (g.E.Engine.seen c.args.engine.now) c.loop.counter c.in-Err.stop c.loop.desk.line c.take_turn.new.self.line c.loop.desk.waiting c.take_turn.new.self.waiting c.finish.new.self.waiting (g.E.Engine.seen c.loop.engine) (g.E.Engine.seen c.take_turn.new.engine) (g.E.Engine.seen c.finish.new.engine)
    (g.C.Client.talk c.args.client.now) (g.C.Client.talk c.loop.client) (g.C.Client.talk c.take_turn.new.client) (g.C.Client.talk c.finish.new.client) c.loop.invariant c.in-End.ensures c.in-Err.ensures.steps)
