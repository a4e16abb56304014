use Rattle.node_stage.proofs.treatment.treated4.Goals as goal

pub returns-in-Over-clause-front : goal.returns-in-Over-clause-front
returns-in-Over-clause-front c = c.sent4.ensures.front c.args.node
