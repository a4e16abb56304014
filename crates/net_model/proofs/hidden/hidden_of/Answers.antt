use Rattle.std.proofs.Common.{◌≡◌, suc, ◌+◌, true, Some, take, slice_get, arith, subst}
use Rattle.std.specs.Prelude.{slice_index_or}
use Rattle.net_model.specs.declared.net.EntryId.{EntryId}
use Rattle.net_model.specs.declared.net.EntryId.TheVariants as ids
use Rattle.net_model.specs.NetworkTerms.{hidden_hits, network_with, HidesThese}
use Rattle.net_model.proofs.HiddenLemmas.{edited_by, marked_flags}
use Rattle.net_model.proofs.ShownLemmas.{get_index, hide_next}
use Rattle.net_model.proofs.hidden.hidden_of.Goals as goal

pub mark-requires-clause-there : goal.mark-requires-clause-there
mark-requires-clause-there c =
    let at = c.loop-entry.entry-index in
    let e : EntryId = slice_index_or c.args.entries.now at (ids.Route 0) in
    c.requires at e (get_index c.args.entries.now at (ids.Route 0) c.loop-entry-test.true)

pub loop-entry-preserved : goal.loop-entry-preserved
loop-entry-preserved c =
    let p = c.args.parts.now in
    let at = c.loop-entry.entry-index in
    let old = c.loop-entry.hidden in
    let new = c.mark.new.hidden in
    let e : EntryId = slice_index_or c.args.entries.now at (ids.Route 0) in
    let there : slice_get c.args.entries.now at ≡ Some e = get_index c.args.entries.now at (ids.Route 0) c.loop-entry-test.true in
    let flags = c.loop-entry.invariant.flags in
    let next : suc at ≡ at + 1 = omega arith in
    record {
      flags = marked_flags p old new true e flags c.mark.ensures;
      these = subst (λ n. HidesThese (hidden_hits new) (take n c.args.entries.now)) next
          (hide_next (network_with p old) (network_with p new) e c.args.entries.now at there
          (edited_by p old new true e (c.requires at e there) flags c.mark.ensures) c.loop-entry.invariant.these);
    }
