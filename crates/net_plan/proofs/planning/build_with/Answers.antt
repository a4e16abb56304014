use Rattle.std.proofs.Common.{sym, ap, ◌∙◌}
use Rattle.net_model.specs.NetworkTerms.{network_of}
use Rattle.net_plan.specs.PlannedNetwork.{judge_vias}
use Rattle.net_plan.proofs.RoutesFit.{routed_in_range}
use Rattle.net_plan.proofs.planning.build_with.Goals as goal

pub build-requires : goal.build-requires
build-requires c =
    routed_in_range (network_of c.args.parts) c.requires.range c.requires.routes c.in_ok-few_routes.ensures.within
    (sym (c.in_ok-judge_vias.ensures ∙ ap (judge_vias 1) c.as_slice.ensures.value))
