use Rattle.std.proofs.Common.{◌≡◌}
use Rattle.line_talk.proofs.Steps.{says_some}
use Rattle.line_talk.proofs.waiting.Waiting.pour.Goals as goal

pub returns-in-Err-clause-says : goal.returns-in-Err-clause-says
returns-in-Err-clause-says g c =
    let bytes = c.as_slice.ensures.value in
    let view = c.self.view_is in
    let same : c.as_slice.result.now ≡ c.args.self.now = cc in
    says_some c.in-Err.field-0 c.args.self.now c.args.self.now (g.C.Client.talk c.args.client.now) (g.C.Client.talk c.say_all.new.client) (rw same at c.in-Err.ensures)
