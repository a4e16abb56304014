use Rattle.list_pack.proofs.CostSplits.{cost_splits, split_of}
use Rattle.list_pack.proofs.laws.a_cost_is_containers_sids_and_hops.Goals as goal

pub returns : goal.returns
returns c = record {
  splits = cost_splits;
  containers = λ v s moves c e. (split_of v s moves c e).containers;
  sids = λ v s moves c e. (split_of v s moves c e).sids;
  hops = λ v s moves c e. (split_of v s moves c e).hops;
}
