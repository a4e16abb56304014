use Rattle.std.proofs.Common.{sym, ◌∙◌}
use Rattle.std.proofs.lemmas.Bool.{true≢false}
use Rattle.update_joined.proofs.PrefixLemmas.{none_meets}
use Rattle.update_joined.proofs.prefix_index.may_meet.Goals as goal

pub returns-then-has_around : goal.returns-then-has_around
returns-then-has_around c = λ no b is. absurd (true≢false no)

pub returns : goal.returns
returns c = λ no b is.
    none_meets c.args.index.now c.args.a.now b (sym c.has_around.ensures ∙ c.if-has_around.false) (c.has_inside.ensures no) is
