use Rattle.replace_csid.proofs.ReplaceWriteLemmas.{place_most}
use Rattle.replace_csid.proofs.replace_step.judge_bytes.Goals as goal

pub judge-requires-clause-place : goal.judge-requires-clause-place
judge-requires-clause-place c = place_most c.args.bytes.now c.args.at c.requires.packet c.requires.behind c.requires.whole
