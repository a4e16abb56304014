use Rattle.line_talk.proofs.Steps.{says_some_alone}
use Rattle.line_talk.proofs.waiting.Waiting.give_alone.Goals as goal

pub returns-in-Err : goal.returns-in-Err
returns-in-Err g c =
    says_some_alone c.in-Err.field-0 c.args.bytes.now c.args.self.now c.args.self.now (g.C.Client.talk c.args.client.now) (g.C.Client.talk c.say_all.new.client)
    c.requires c.in-Err.ensures
