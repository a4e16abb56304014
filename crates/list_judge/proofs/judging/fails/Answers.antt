use Rattle.list_pack.proofs.PublicLaws.{flat_lists, legal_flat}
use Rattle.list_judge.proofs.judging.fails.Goals as goal

pub values-requires-clause-flat : goal.values-requires-clause-flat
values-requires-clause-flat c =
    legal_flat c.args.net.now c.args.list.now (flat_lists c.args.net.now c.keeps_rules.ensures.network c.requires.flat) c.requires.legal
