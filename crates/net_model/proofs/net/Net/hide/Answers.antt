use Rattle.std.proofs.Common.{◌≡◌, true, false, sym, subst}
use Rattle.net_model.specs.Network.{Network, is_shown, hit_of_entry}
use Rattle.net_model.specs.NetworkTerms.{network_of, network_with, CanHide, IsEdited}
use Rattle.net_model.proofs.HiddenLemmas.{can_hide_of, marked_others, marked_flags, edited_by}
use Rattle.net_model.proofs.FirstLemmas.{entry_listed, tables_before}
use Rattle.net_model.proofs.SettleLemmas.{tables_settled, listed_there}
use Rattle.net_model.proofs.net.Net.hide.Goals as goal

pub entry_of-e-requires : goal.entry_of-e-requires
entry_of-e-requires c =
    can_hide_of c.self.inside.parts c.self.inside.hidden c.args.entry
    (subst (λ (net : Network). CanHide net c.args.entry) (sym c.self.view_is) c.requires.there)

pub mark-requires-clause-there : goal.mark-requires-clause-there
mark-requires-clause-there c =
    can_hide_of c.self.inside.parts c.self.inside.hidden c.args.entry
    (subst (λ (net : Network). CanHide net c.args.entry) (sym c.self.view_is) c.requires.there)

pub mark-requires-clause-flags : goal.mark-requires-clause-flags
mark-requires-clause-flags c = c.self.invariant.flags

pub first_after-first-requires-clause-rules : goal.first_after-first-requires-clause-rules
first_after-first-requires-clause-rules c = c.self.invariant.rules

pub first_after-first-requires-clause-range : goal.first_after-first-requires-clause-range
first_after-first-requires-clause-range c = c.self.invariant.range

pub first_after-first-requires-clause-listed : goal.first_after-first-requires-clause-listed
first_after-first-requires-clause-listed c =
    entry_listed (network_of c.self.inside.parts) c.args.entry c.entry_of-e.result c.entry_of-e.ensures

pub first_after-first-requires-clause-tables : goal.first_after-first-requires-clause-tables
first_after-first-requires-clause-tables c =
    let parts = c.self.inside.parts in
    let old = c.self.inside.hidden in
    let new = c.mark.new.hidden in
    tables_before parts old new c.args.entry c.entry_of-e.result c.self.inside.tables c.entry_of-e.ensures
    (marked_others parts old new true c.args.entry c.mark.ensures) c.self.invariant.tables

pub settle-requires : goal.settle-requires
settle-requires c =
    listed_there c.self.inside.parts c.self.inside.hidden c.args.entry c.entry_of-e.result c.self.inside.tables c.entry_of-e.ensures
    (subst (λ (net : Network). is_shown net.hidden (hit_of_entry c.args.entry) ≡ true) (sym c.self.view_is) c.requires.shown)
    c.self.invariant.tables

pub invariant_of-self : goal.invariant_of-self
invariant_of-self c =
    let parts = c.self.inside.parts in
    let old = c.self.inside.hidden in
    let new = c.mark.new.hidden in
    record {
      rules = c.self.invariant.rules;
      range = c.self.invariant.range;
      flags = marked_flags parts old new true c.args.entry c.self.invariant.flags c.mark.ensures;
      tables = tables_settled parts old new c.args.entry c.entry_of-e.result c.entry_of-e.ensures
          (marked_others parts old new true c.args.entry c.mark.ensures) c.first_after-first.result c.self.inside.tables
          c.settle.new.tables c.first_after-first.ensures c.self.invariant.tables c.settle.ensures;
    }

pub returns : goal.returns
returns c =
    let parts = c.self.inside.parts in
    let old = c.self.inside.hidden in
    let new = c.mark.new.hidden in
    let can = can_hide_of parts old c.args.entry
    (subst (λ (net : Network). CanHide net c.args.entry) (sym c.self.view_is) c.requires.there) in
    subst (λ (net : Network). IsEdited net (network_with parts new) (hit_of_entry c.args.entry) false) c.self.view_is
    (edited_by parts old new true c.args.entry can c.self.invariant.flags c.mark.ensures)
