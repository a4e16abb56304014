use Rattle.std.proofs.Common.{ℕ, ◌+◌, List, [], ◌∷◌, ◌++◌, refl, sym, ap, ◌∙◌}
use Rattle.loose_legs.proofs.LooseTablePositions.{stands_first, stands_more, step_lands, step_opens}
use Rattle.loose_legs.proofs.loose_rows.stands_of.Goals as goal

pub loop-step-init : goal.loop-step-init
loop-step-init c = record {
  stands = refl;
  are = stands_first c.args.net.now c.args.intent.now c.args.steps.now c.push.new.self.items
      (c.in_ok-push.ensures.items ∙ ap (λ (xs : List ℕ). xs ++ c.args.intent.now.headend ∷ []) c.new-stands.ensures.items);
}

pub node_behind-node-requires : goal.node_behind-node-requires
node_behind-node-requires c =
    step_opens c.args.net.now c.args.intent.now c.args.steps.now c.requires c.loop-step.step-index c.loop-step.node c.step-item.result
    c.loop-step.invariant.stands c.loop-step-test.true (sym c.step-item.is)

pub loop-step-preserved : goal.loop-step-preserved
loop-step-preserved c =
    let lands = step_lands c.args.net.now c.args.intent.now c.args.steps.now c.loop-step.step-index c.loop-step.node
    c.node_behind-node.result c.step-item.result
    c.loop-step.invariant.stands c.loop-step-test.true (sym c.step-item.is) c.node_behind-node.ensures in
    record {
      stands = lands;
      are = stands_more c.args.net.now c.args.intent.now c.args.steps.now (c.loop-step.step-index + 1) c.loop-step.stands.items
          c.push-in-loop-step.new.self.items
          c.node_behind-node.result c.loop-step.invariant.are lands c.in_ok-push-2.ensures.items;
    }
