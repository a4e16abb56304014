use Rattle.std.proofs.Common.{sym, ap, ◌∙◌}
use Rattle.node_stage.specs.declared.stage_result.Staged.{Staged}
use Rattle.node_stage.specs.StageAnswers.{gave_of}
use Rattle.node_stage.proofs.StageFrontLemmas.{front_told}
use Rattle.node_stage.proofs.StageLemmas.{tells_same, drops_from}
use Rattle.node_stage.proofs.treatment.stage_result.Goals as goal

pub returns-in-Drops : goal.returns-in-Drops
returns-in-Drops c =
    let net = c.args.net.now in
    let node = c.args.place.now.node in
    let from = drops_from net node c.node.result.now c.in-Drops.reason c.in-Drops.detail c.in-Drops.content.content c.node.ensures in
    let drops = sym (ap (λ (s : Staged). gave_of net node s) c.in-Drops.is) in (
      tells_same c.dropped.result c.dropped.new.slot.items _ _ (from ∙ drops ∙ c.in_ok-staged.ensures.0) c.dropped.ensures.tells,
      front_told net node c.args.content c.in-Drops.content c.in_ok-staged.staged c.dropped.result c.in-Drops.reason c.in-Drops.detail _
          c.in-Drops.is
          c.in_ok-staged.ensures.1 c.dropped.ensures.after c.dropped.ensures.tells.0,
    )
