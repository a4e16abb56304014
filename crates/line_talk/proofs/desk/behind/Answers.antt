use Rattle.std.proofs.Common.{◌∙◌, drop, ap}
use Rattle.std.proofs.lemmas.List.{drop-drop}
use Rattle.line_talk.proofs.desk.behind.Goals as goal

pub returns : goal.returns
returns c = c.split_at-2.ensures.back ∙ ap (drop 1) c.split_at.ensures.back ∙ drop-drop 1 c.args.at c.args.bytes.now
