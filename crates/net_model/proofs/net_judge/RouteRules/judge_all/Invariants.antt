use Rattle.std.proofs.Common.{take}
use Rattle.text_faults.specs.declared.text_place.TableKind.TheVariants as tables
use Rattle.net_model.specs.NetworkJudging.{judge_route}
use Rattle.net_model.specs.EntryKeys.{HasKeys}
use Rattle.net_model.proofs.NetworkJudgingLemmas.{HasJudged}
use Rattle.net_model.proofs.net_judge.RouteRules.judge_all.Given as goal

abbrev pub invariant-loop-i : goal.invariant-loop-i
invariant-loop-i l = record {
  judged : HasJudged tables.Route (judge_route l.self.node_count l.self.links.now) l.routes l.i;
  keys : HasKeys l.keys (take l.i l.routes);
}
