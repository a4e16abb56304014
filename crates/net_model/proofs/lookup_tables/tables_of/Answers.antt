use Rattle.std.proofs.Common.{[], ◌++◌}
use Rattle.net_model.specs.NetworkTerms.{network_of, hidden_hits}
use Rattle.net_model.specs.LookupTables.{entries_from, shown_of, sid_entry, address_entry}
use Rattle.net_model.proofs.FillLemmas.{answer_none}
use Rattle.net_model.proofs.ListedLemmas.{are_tables}
use Rattle.net_model.proofs.lookup_tables.tables_of.Goals as goal

pub returns : goal.returns
returns c =
    let hs = hidden_hits c.args.hidden.now in
    let sids = c.as_slice.result.now in
    let nodes = c.as_slice-2.result.now in
    let first = c.in_ok-put_all.ensures.answers [] (answer_none c.new-tables.result c.new-tables.ensures.empty) in
    let second = c.in_ok-put_all-2.ensures.answers (shown_of hs (entries_from sid_entry 0 sids)) first in
    let third = c.in_ok-put_all-3.ensures.answers
    (shown_of hs (entries_from sid_entry 0 sids) ++ shown_of hs (entries_from address_entry 0 nodes)) second in
    are_tables (network_of c.args.parts.now) hs sids nodes c.as_slice-3.result.now c.put_all-3.new.tables c.as_slice.ensures.value
    c.as_slice-2.ensures.value c.as_slice-3.ensures.value third
