use Rattle.std.proofs.Common.{◌≡◌, ◌↔◌, nat_lt, true, sym, subst}
use Rattle.net_model.specs.declared.net.EntryId.{EntryId}
use Rattle.net_model.specs.NetworkTerms.{CanHide}
use Rattle.net_model.proofs.HiddenLemmas.{there_is}
use Rattle.net_model.proofs.net.Net.can_hide.Goals as goal

pub returns-in-Route : goal.returns-in-Route
returns-in-Route c =
    subst (λ (entry : EntryId). (nat_lt c.in-Route.n c.routes.result ≡ true) ↔ CanHide c.args.self.now entry) (sym c.in-Route.is)
    (there_is c.args.self.now.routes c.in-Route.n c.routes.result c.routes.ensures)

pub returns-in-Sid : goal.returns-in-Sid
returns-in-Sid c =
    subst (λ (entry : EntryId). (nat_lt c.in-Sid.n c.sids.result ≡ true) ↔ CanHide c.args.self.now entry) (sym c.in-Sid.is)
    (there_is c.args.self.now.sids c.in-Sid.n c.sids.result c.sids.ensures)
