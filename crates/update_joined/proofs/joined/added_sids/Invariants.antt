use Rattle.std.proofs.Common.{◌≡◌, ◌+◌, ◌≤◌, ◌++◌, not, length}
use Rattle.std.specs.List.{filter, filter_map}
use Rattle.net_model.specs.NetworkTerms.{network_of}
use Rattle.net_model.specs.NetworkJudging.{title_text}
use Rattle.update_spec.specs.Joined.{is_new_sid, numbered}
use Rattle.update_joined.proofs.joined.added_sids.Given as goal

-- those so far and those of the rest are all
abbrev pub invariant-loop-rest : goal.invariant-loop-rest
invariant-loop-rest l =
    let new = network_of l.new in
    let old = network_of l.old in
    record {
      sids : l.added.sids.items ++ numbered new.titles l.next (filter (λ t. not (is_new_sid new old t)) l.rest)
          ≡ numbered new.titles (length old.titles) (filter (λ t. not (is_new_sid new old t)) new.sids);
      titles : l.added.titles.items ++ filter_map (title_text new.titles) (filter (λ t. not (is_new_sid new old t)) l.rest)
          ≡ filter_map (title_text new.titles) (filter (λ t. not (is_new_sid new old t)) new.sids);
      room : l.next + length l.rest ≤ length old.titles + length new.sids;
    }

abbrev pub decreases-loop-rest : goal.decreases-loop-rest
decreases-loop-rest l = length l.rest
