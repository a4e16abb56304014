use Rattle.std.proofs.Common.{◌≡◌, ◌↔◌, [], true, subst}
use Rattle.net_model.specs.Network.{Network}
use Rattle.net_model.proofs.net.Net.is_whole.Goals as goal

pub returns : goal.returns
returns c = subst (λ (net : Network). (c.hides_nothing.result ≡ true) ↔ (net.hidden ≡ [])) c.self.view_is c.hides_nothing.ensures
