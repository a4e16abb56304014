use Rattle.std.proofs.Common.{◌+◌, ℕ, sym, ◌∙◌, ap, arith}
use Rattle.std.proofs.lemmas.Option.{slice_get_within, get_or_from_slice_get}
use Rattle.std.proofs.lemmas.List.Sums.{count_by_more_yes, count_by_more_no}
use Rattle.srv6_rules.specs.declared.sid.SidEntry.{SidEntry}
use Rattle.net_model.specs.NetworkRules.{same_prefix}
use Rattle.list_certificate.proofs.spelling.is_shared.Goals as goal
use Rattle.list_certificate.proofs.spelling.is_shared.Goals.{then-is_same_prefix, else-is_same_prefix}

pub loop-n-preserved : goal.loop-n-preserved
loop-n-preserved c =
    let sids = c.args.net.now.sids in
    let n = c.loop-n.n in
    let sid = c.sid.result.now in
    let within = slice_get_within sids n sid c.sid.ensures in
    let here = get_or_from_slice_get sids n sid sid c.sid.ensures in
    let test = ap (λ (s : SidEntry). same_prefix s.prefix c.args.prefix.now) here ∙ sym c.is_same_prefix.ensures in
    elim c.if-is_same_prefix.branch [
      | then-is_same_prefix w ↦ (
        w.count-is ∙ ap (λ (x : ℕ). x + 1) c.loop-n.invariant.0
            ∙ sym (count_by_more_yes (λ (s : SidEntry). same_prefix s.prefix c.args.prefix.now) sids n sid within
            (test ∙ w.if-is_same_prefix.true)),
        omega (arith, w.count-is, c.loop-n.invariant.1),
      )
      | else-is_same_prefix w ↦ (
        w.count-is ∙ c.loop-n.invariant.0
            ∙ sym (count_by_more_no (λ (s : SidEntry). same_prefix s.prefix c.args.prefix.now) sids n sid within
            (test ∙ w.if-is_same_prefix.false)),
        omega (arith, w.count-is, c.loop-n.invariant.1),
      )
    ]
