use Rattle.std.proofs.Common.{[]}
use Rattle.std.proofs.lemmas.Result.{err_from_is_err_and}
use Rattle.line_talk.proofs.Steps.{says_within, says_then}
use Rattle.line_talk.proofs.waiting.Waiting.give.Goals as goal

pub returns-in_err-pour : goal.returns-in_err-pour
returns-in_err-pour g c =
    let p = err_from_is_err_and c.from_residual.result c.from_residual.ensures.1 in
    rw (p.1, p.2)
    (says_within c.in_err-pour.field-0.0 [] c.args.bytes.now c.args.self.now c.pour.new.self (g.C.Client.talk c.args.client.now) (g.C.Client.talk c.pour.new.client)
    c.in_err-pour.ensures.says)

pub returns : goal.returns
returns g c =
    says_then c.give_alone.result [] c.args.bytes.now c.args.self.now c.pour.new.self c.give_alone.new.self (g.C.Client.talk c.args.client.now)
    (g.C.Client.talk c.pour.new.client) (g.C.Client.talk c.give_alone.new.client) c.in_ok-pour.ensures.says c.give_alone.ensures
