use Rattle.line_talk.proofs.Talking.{talks_none}
use Rattle.line_talk.proofs.serve.serve_client.Goals as goal

pub returns-in_default : goal.returns-in_default
returns-in_default g c = talks_none g.E.Engine.rules (g.E.Engine.seen c.args.engine.now) (g.C.Client.talk c.args.client.now)
