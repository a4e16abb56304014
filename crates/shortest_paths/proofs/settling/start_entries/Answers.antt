use Rattle.std.proofs.Common.{ℕ, ◌<◌, List, get_or, set, Some, take, sym, ◌∙◌, subst, arith}
use Rattle.std.proofs.lemmas.List.{take_more, length-set}
use Rattle.shortest_paths.specs.Settling.{AreStarts}
use Rattle.shortest_paths.proofs.Rounds.{starts_more}
use Rattle.shortest_paths.proofs.settling.start_entries.Goals as goal

pub loop-target-preserved : goal.loop-target-preserved
loop-target-preserved c =
    let targets = c.args.targets.now in
    let i = c.loop-target.target-index in
    let target = get_or targets i 0 in
    let entries = c.loop-target.entries.items in
    let early : target < c.args.nodes = c.requires i 0 c.loop-target-test.true in
    let long = c.loop-target.invariant.long in
    record {
      long = length-set entries target (Some 0) ∙ long;
      starts = subst (λ (ts : List ℕ). AreStarts ts (set entries target (Some 0)))
          (sym (take_more targets i 0 c.loop-target-test.true))
          (starts_more (take i targets) target entries (omega (arith, early, long)) c.loop-target.invariant.starts);
    }
