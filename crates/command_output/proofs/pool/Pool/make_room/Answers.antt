use Rattle.command_output.specs.GatheredTerms.{pooled}
use Rattle.command_output.proofs.Pooling.{goes_if_poured}
use Rattle.command_output.proofs.pool.Pool.make_room.Goals as goal

pub returns-clause-goes : goal.returns-clause-goes
returns-clause-goes g c = goes_if_poured c.pour.result
    (pooled c.args.self.now (g.O.Sink.seen c.args.out.now) (g.E.Sink.seen c.args.err.now))
    (pooled c.pour.new.self (g.O.Sink.seen c.pour.new.out) (g.E.Sink.seen c.pour.new.err)) c.pour.ensures.wrote c.pour.ensures.emptied
