use Rattle.std.proofs.Common.{◌≡◌, Some, true, false, sym, ◌∙◌, subst}
use Rattle.std.specs.Prelude.{IsSome}
use Rattle.net_model.specs.Network.{Network, is_shown, hit_of_entry}
use Rattle.net_model.specs.NetworkTerms.{network_of, network_with, CanHide, IsEdited}
use Rattle.net_model.specs.LookupTables.{AreTables}
use Rattle.net_model.proofs.HiddenLemmas.{can_hide_of, marked_there, marked_others, marked_flags, edited_by, marked_back}
use Rattle.net_model.proofs.FirstLemmas.{entry_listed, tables_before}
use Rattle.net_model.proofs.SettleLemmas.{tables_settled, listed_first, some_unwrapped, unchanged_tables}
use Rattle.net_model.proofs.net.Net.show.Goals as goal

pub entry_of-e-requires : goal.entry_of-e-requires
entry_of-e-requires c =
    can_hide_of c.self.inside.parts c.self.inside.hidden c.args.entry
    (subst (λ (net : Network). CanHide net c.args.entry) (sym c.self.view_is) c.requires.there)

pub mark-requires-clause-there : goal.mark-requires-clause-there
mark-requires-clause-there c =
    can_hide_of c.self.inside.parts c.self.inside.hidden c.args.entry
    (subst (λ (net : Network). CanHide net c.args.entry) (sym c.self.view_is) c.requires.there)

pub mark-requires-clause-flags : goal.mark-requires-clause-flags
mark-requires-clause-flags c = c.self.invariant.flags

pub first_after-requires-clause-rules : goal.first_after-requires-clause-rules
first_after-requires-clause-rules c = c.self.invariant.rules

pub first_after-requires-clause-range : goal.first_after-requires-clause-range
first_after-requires-clause-range c = c.self.invariant.range

pub first_after-requires-clause-listed : goal.first_after-requires-clause-listed
first_after-requires-clause-listed c =
    entry_listed (network_of c.self.inside.parts) c.args.entry c.entry_of-e.result c.entry_of-e.ensures

pub first_after-requires-clause-tables : goal.first_after-requires-clause-tables
first_after-requires-clause-tables c =
    let parts = c.self.inside.parts in
    let old = c.self.inside.hidden in
    let new = c.mark.new.hidden in
    tables_before parts old new c.args.entry c.entry_of-e.result c.self.inside.tables c.entry_of-e.ensures
    (marked_others parts old new false c.args.entry c.mark.ensures) c.self.invariant.tables

pub invariant_of-self : goal.invariant_of-self
invariant_of-self c =
    let parts = c.self.inside.parts in
    let old = c.self.inside.hidden in
    let new = c.mark.new.hidden in
    let entry = c.args.entry in
    let e = c.entry_of-e.result in
    let can = can_hide_of parts old entry (subst (λ (net : Network). CanHide net entry) (sym c.self.view_is) c.requires.there) in
    let shown = marked_there parts old new false entry can c.self.invariant.flags c.mark.ensures in
    let there = listed_first parts new entry e c.entry_of-e.ensures shown in
    record {
      rules = c.self.invariant.rules;
      range = c.self.invariant.range;
      flags = marked_flags parts old new false entry c.self.invariant.flags c.mark.ensures;
      tables = tables_settled parts old new entry e c.entry_of-e.ensures (marked_others parts old new false entry c.mark.ensures)
          (Some c.unwrap_or-first.result) c.self.inside.tables c.place.new.tables
          (some_unwrapped c.first_after.result c.unwrap_or-first.result e.hit
          (subst (λ o. IsSome o) (sym c.first_after.ensures) there) c.unwrap_or-first.ensures ∙ c.first_after.ensures)
          c.self.invariant.tables c.in-Ok.ensures.ok;
    }

pub returns-in-Ok-clause-ok : goal.returns-in-Ok-clause-ok
returns-in-Ok-clause-ok c =
    let parts = c.self.inside.parts in
    let old = c.self.inside.hidden in
    let new = c.mark.new.hidden in
    let can = can_hide_of parts old c.args.entry
    (subst (λ (net : Network). CanHide net c.args.entry) (sym c.self.view_is) c.requires.there) in
    subst (λ (net : Network). IsEdited net (network_with parts new) (hit_of_entry c.args.entry) true) c.self.view_is
    (edited_by parts old new false c.args.entry can c.self.invariant.flags c.mark.ensures)

pub mark-requires-in-Err-clause-there : goal.mark-requires-in-Err-clause-there
mark-requires-in-Err-clause-there c =
    can_hide_of c.self.inside.parts c.self.inside.hidden c.args.entry
    (subst (λ (net : Network). CanHide net c.args.entry) (sym c.self.view_is) c.requires.there)

pub mark-requires-in-Err-clause-flags : goal.mark-requires-in-Err-clause-flags
mark-requires-in-Err-clause-flags c =
    marked_flags c.self.inside.parts c.self.inside.hidden c.mark.new.hidden false c.args.entry c.self.invariant.flags c.mark.ensures

pub invariant_of-self-in-Err : goal.invariant_of-self-in-Err
invariant_of-self-in-Err c =
    let parts = c.self.inside.parts in
    let old = c.self.inside.hidden in
    let mid = c.mark.new.hidden in
    let new = c.mark-in-Err.new.hidden in
    let entry = c.args.entry in
    let can = can_hide_of parts old entry (subst (λ (net : Network). CanHide net entry) (sym c.self.view_is) c.requires.there) in
    let hidden = subst (λ (net : Network). is_shown net.hidden (hit_of_entry entry) ≡ false) (sym c.self.view_is) c.requires.hidden in
    let flags = marked_flags parts old mid false entry c.self.invariant.flags c.mark.ensures in
    record {
      rules = c.self.invariant.rules;
      range = c.self.invariant.range;
      flags = marked_flags parts mid new true entry flags c.mark-in-Err.ensures;
      tables = subst (λ (net : Network). AreTables net c.place.new.tables)
          (sym (marked_back parts old mid new entry can c.self.invariant.flags hidden c.mark.ensures c.mark-in-Err.ensures))
          (unchanged_tables (network_with parts old) c.self.inside.tables c.place.new.tables c.in-Err.ensures.err c.self.invariant.tables);
    }

pub returns-in-Err-clause-err : goal.returns-in-Err-clause-err
returns-in-Err-clause-err c =
    let parts = c.self.inside.parts in
    let old = c.self.inside.hidden in
    let entry = c.args.entry in
    let can = can_hide_of parts old entry (subst (λ (net : Network). CanHide net entry) (sym c.self.view_is) c.requires.there) in
    let hidden = subst (λ (net : Network). is_shown net.hidden (hit_of_entry entry) ≡ false) (sym c.self.view_is) c.requires.hidden in
    marked_back parts old c.mark.new.hidden c.mark-in-Err.new.hidden entry can c.self.invariant.flags hidden c.mark.ensures
    c.mark-in-Err.ensures
    ∙ c.self.view_is
