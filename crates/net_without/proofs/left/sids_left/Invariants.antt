use Rattle.std.proofs.Common.{◌≡◌, ◌+◌, ◌≤◌, ◌++◌, length}
use Rattle.std.specs.List.{filter_map}
use Rattle.net_model.specs.NetworkJudging.{title_text}
use Rattle.update_spec.specs.Joined.{numbered}
use Rattle.net_without.specs.Without.{left_sids}
use Rattle.net_without.specs.WithoutTerms.{flag_at}
use Rattle.net_without.proofs.left.sids_left.Given as goal

-- those so far and those of the rest are all
abbrev pub invariant-loop-rest : goal.invariant-loop-rest
invariant-loop-rest l = record {
  sids : l.left.sids.items ++ numbered l.titles l.next (left_sids (flag_at l.up) l.rest) ≡ numbered l.titles 0 (left_sids (flag_at l.up) l.sids);
  titles : l.left.titles.items ++ filter_map (title_text l.titles) (left_sids (flag_at l.up) l.rest)
      ≡ filter_map (title_text l.titles) (left_sids (flag_at l.up) l.sids);
  room : l.next + length l.rest ≤ length l.sids;
}

abbrev pub decreases-loop-rest : goal.decreases-loop-rest
decreases-loop-rest l = length l.rest
