use Rattle.std.proofs.Common.{sym, subst}
use Rattle.prefix_table.specs.PrefixTable.{with_value}
use Rattle.net_model.specs.LookupTables.{HitTable, SettlesIn}
use Rattle.net_model.proofs.SettleLemmas.{settles_with}
use Rattle.net_model.proofs.hidden.settle_in.Goals as goal

pub returns-in-Some : goal.returns-in-Some
returns-in-Some c =
    subst (λ (t : HitTable). SettlesIn c.args.p.now c.args.hit c.args.table.now t) (sym c.replace.ensures.entries)
    (subst (λ o. SettlesIn c.args.p.now o c.args.table.now (with_value c.args.table.now c.args.p.now c.in-Some.hit)) (sym c.in-Some.is)
    (settles_with c.args.table.now c.args.p.now c.in-Some.hit c.requires))

pub returns-in-None : goal.returns-in-None
returns-in-None c =
    subst (λ o. SettlesIn c.args.p.now o c.args.table.now c.swap_remove.new.self) (sym c.in-None.is) c.swap_remove.ensures.others
