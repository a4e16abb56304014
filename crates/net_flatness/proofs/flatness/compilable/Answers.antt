use Rattle.std.proofs.Common.{sym, ◌∙◌, subst, ◌↔◌, Result}
use Rattle.std.specs.Result.{IsOk}
use Rattle.net_flatness.specs.declared.not_flat.NotFlat.{NotFlat}
use Rattle.net_flatness.specs.Flat.{IsFlat}
use Rattle.net_flatness.specs.FlatTerms.{IsJudged}
use Rattle.net_flatness.proofs.FlatLemmas.{flatness_judges, flatness_ok, flatness_of_parts}
use Rattle.net_flatness.proofs.flatness.compilable.Goals as goal

pub returns-clause-answer : goal.returns-clause-answer
returns-clause-answer c = c.refuse.ensures ∙ flatness_of_parts c.parts.result.now c.args.net.now c.parts.ensures

pub returns-clause-judged : goal.returns-clause-judged
returns-clause-judged c whole =
    let answer = c.refuse.ensures ∙ flatness_of_parts c.parts.result.now c.args.net.now c.parts.ensures in
    subst (IsJudged c.args.net.now) (sym answer) (flatness_judges c.args.net.now whole)

pub returns-clause-flat : goal.returns-clause-flat
returns-clause-flat c whole =
    let answer = c.refuse.ensures ∙ flatness_of_parts c.parts.result.now c.args.net.now c.parts.ensures in
    let P : Result (Unit {0}) NotFlat → Type 0 = λ r. IsOk r ↔ IsFlat c.args.net.now in
    subst P (sym answer) (flatness_ok c.args.net.now whole)
