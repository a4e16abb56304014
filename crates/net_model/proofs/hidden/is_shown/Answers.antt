use Rattle.std.proofs.Common.{false, get_or, List, Bool, sym, ap, ◌∙◌}
use Rattle.net_model.specs.Network.{is_shown}
use Rattle.net_model.specs.NetworkTerms.{hidden_hits}
use Rattle.net_model.proofs.HiddenLemmas.{sid_shown, route_shown, address_shown, nothing_shown}
use Rattle.net_model.proofs.hidden.is_shown.Goals as goal

pub returns-in-Sid : goal.returns-in-Sid
returns-in-Sid c =
    sid_shown c.args.hidden.now c.in-Sid.n c.flag_of.result
    (c.flag_of.ensures ∙ ap (λ (fs : List Bool). get_or fs c.in-Sid.n false) c.as_slice.ensures.value)
    ∙ ap (is_shown (hidden_hits c.args.hidden.now)) (sym c.in-Sid.is)

pub returns-in-Route : goal.returns-in-Route
returns-in-Route c =
    route_shown c.args.hidden.now c.in-Route.n c.flag_of-in-Route.result
    (c.flag_of-in-Route.ensures ∙ ap (λ (fs : List Bool). get_or fs c.in-Route.n false) c.as_slice-in-Route.ensures.value)
    ∙ ap (is_shown (hidden_hits c.args.hidden.now)) (sym c.in-Route.is)

pub returns-in-Address : goal.returns-in-Address
returns-in-Address c = address_shown c.args.hidden.now ∙ ap (is_shown (hidden_hits c.args.hidden.now)) (sym c.in-Address.is)

pub returns-in-Nothing : goal.returns-in-Nothing
returns-in-Nothing c = nothing_shown c.args.hidden.now ∙ ap (is_shown (hidden_hits c.args.hidden.now)) (sym c.in-Nothing.is)
