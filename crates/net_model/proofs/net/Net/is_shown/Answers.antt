use Rattle.std.proofs.Common.{sym, ap, ◌∙◌}
use Rattle.net_model.specs.declared.net.EntryId.{EntryId}
use Rattle.net_model.specs.declared.net.Hit.TheVariants as hits
use Rattle.net_model.specs.Network.{Network, is_shown, hit_of_entry}
use Rattle.net_model.proofs.HiddenLemmas.{address_shown}
use Rattle.net_model.proofs.net.Net.is_shown.Goals as goal

pub returns-in-Address : goal.returns-in-Address
returns-in-Address c =
    address_shown c.self.inside.hidden ∙ ap (λ (net : Network). is_shown net.hidden hits.Address) c.self.view_is
    ∙ ap (λ (entry : EntryId). is_shown c.args.self.now.hidden (hit_of_entry entry)) (sym c.in-Address.is)
