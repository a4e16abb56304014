use Rattle.std.proofs.Common.{◌≡◌, ◌∙◌, ◌+◌, ◌++◌, length, take, option_to_list, sym, ap, subst, arith}
use Rattle.std.proofs.lemmas.List.{take_all}
use Rattle.std.specs.List.{filter_map}
use Rattle.net_syntax.specs.declared.sid_table.DescribedSid.{DescribedSid}
use Rattle.net_reader.specs.Joining.{title_in, joined_sid, joined_sids}
use Rattle.net_reader.proofs.SidLemmas.{titles_more, entries_more, titles_bound}
use Rattle.net_reader.proofs.joined_sids.join_sids.Goals as goal

pub loop-sid-preserved : goal.loop-sid-preserved
loop-sid-preserved c =
    let names = c.args.names.now in
    let i = c.loop-sid.sid-index in
    let titles = c.loop-sid.titles.items in
    record {
      titles =
          rw c.in_ok-title.ensures.titles
          (subst (λ (s : DescribedSid). titles ++ option_to_list s.title ≡ filter_map title_in (take (i + 1) c.args.sids.now))
          (sym c.sid-item.is) (titles_more c.args.sids.now i c.sid-item.result titles (omega arith) c.loop-sid.invariant.titles));
      entries =
          rw c.in_ok-push.ensures.items
          (entries_more names.nodes names.links names.policies c.args.blocks.now c.args.sids.now i c.sid-item.result titles
          c.loop-sid.entries.items c.in_ok-entry.entry (omega arith) c.loop-sid.invariant.titles c.loop-sid.invariant.entries
          (c.in_ok-entry.ensures (length titles) c.in_ok-title.ensures.number
          ∙ ap (joined_sid names.nodes names.links names.policies c.args.blocks.now (length titles)) c.sid-item.is));
      few = rw c.in_ok-title.ensures.titles (titles_bound titles c.sid-item.result.title i c.loop-sid.invariant.few);
    }

pub returns : goal.returns
returns c =
    let names = c.args.names.now in
    let all = take_all c.loop-sid.sid-index c.args.sids.now (omega arith) in
    record {
      titles = c.loop-sid.invariant.titles ∙ ap (filter_map title_in) all;
      entries =
          c.loop-sid.invariant.entries
          ∙ ap (joined_sids names.nodes names.links names.policies c.args.blocks.now 0) all;
    }
