use Rattle.pce_protocol.specs.Requests.{request_of}
use Rattle.pce_engine.specs.EngineTerms.{pce_seen}
use Rattle.pce_engine.proofs.Lines.{answered, starved}
use Rattle.pce_engine.proofs.engine.PceEngine.answer.Goals as goal

pub returns-in-Ok : goal.returns-in-Ok
returns-in-Ok g c =
    answered (pce_seen g.F.Files.seen c.args.self.now) (pce_seen g.F.Files.seen c.answer_read.new.self) c.args.line.now c.in-Ok.text.items
    c.read_request-read.result.id c.read_request-read.result.request c.read_request-read.ensures.id
    (c.in-Ok.ensures.answers (request_of c.args.line.now) c.read_request-read.ensures.request) c.in-Ok.ensures.wanting

pub returns : goal.returns
returns g c =
    starved (pce_seen g.F.Files.seen c.args.self.now) (pce_seen g.F.Files.seen c.answer_read.new.self) c.args.line.now
    c.read_request-read.result.id c.read_request-read.result.request c.write_reply.result c.read_request-read.ensures.id c.write_reply.ensures
    (c.in-Err.ensures.answers (request_of c.args.line.now) c.read_request-read.ensures.request)
