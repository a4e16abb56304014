use Rattle.std.proofs.Common.{◌≡◌, ◌+◌, ◌-◌, eqb, get_or, cond, sym, ◌∙◌, arith}
use Rattle.std.proofs.lemmas.Bool.{cond-true, cond-false, eq-eqb, ne_eqb, le-leb, lt-leb}
use Rattle.v6_addr.proofs.AddressRuns.{no_runs, runs_before, runs_all}
use Rattle.v6_addr.proofs.write.find_longest_run.Goals as goal
use Rattle.v6_addr.proofs.write.find_longest_run.Goals.{then-groups-i-eq0, else-groups-i-eq0}

pub loop-i-init : goal.loop-i-init
loop-i-init c = no_runs c.args.groups.now

pub loop-i-preserved-then-here-run : goal.loop-i-preserved-then-here-run
loop-i-preserved-then-here-run c =
    let here : c.if-groups-i-eq0.here ≡ cond (eqb (get_or c.args.groups.now (c.loop-i.i - 1) 0) 0) (c.loop-i.here + 1) 0 =
    elim c.if-groups-i-eq0.branch [
      | then-groups-i-eq0 w ↦ w.here-is
          ∙ sym (cond-true _ _ _ (eq-eqb _ _ w.if-groups-i-eq0.true))
      | else-groups-i-eq0 w ↦ w.here-is
          ∙ sym (cond-false _ _ _ (ne_eqb _ _ w.if-groups-i-eq0.false))
    ] in
    let more = le-leb _ _ c.if-here-run.true in
    runs_before _ _ _ _ _ _ _ _ _ (omega arith) c.loop-i.invariant here (sym (cond-true _ _ _ more)) (sym (cond-true _ _ _ more))

pub loop-i-preserved : goal.loop-i-preserved
loop-i-preserved c =
    let here : c.if-groups-i-eq0.here ≡ cond (eqb (get_or c.args.groups.now (c.loop-i.i - 1) 0) 0) (c.loop-i.here + 1) 0 =
    elim c.if-groups-i-eq0.branch [
      | then-groups-i-eq0 w ↦ w.here-is
          ∙ sym (cond-true _ _ _ (eq-eqb _ _ w.if-groups-i-eq0.true))
      | else-groups-i-eq0 w ↦ w.here-is
          ∙ sym (cond-false _ _ _ (ne_eqb _ _ w.if-groups-i-eq0.false))
    ] in
    let less = lt-leb _ _ c.if-here-run.false in
    runs_before _ _ _ _ _ _ _ _ _ (omega arith) c.loop-i.invariant here (sym (cond-false _ _ _ less)) (sym (cond-false _ _ _ less))

pub returns-clause-run : goal.returns-clause-run
returns-clause-run c = runs_all _ _ _ _ _ (omega arith) c.loop-i.invariant
