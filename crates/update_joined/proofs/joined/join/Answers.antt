use Rattle.std.proofs.Common.{List, ℕ, ◌++◌, not, ap, ap₂, ◌∙◌}
use Rattle.std.specs.List.{list_any, filter}
use Rattle.srv6_rules.specs.declared.sid.SidEntry.{SidEntry}
use Rattle.net_model.specs.declared.parts.Route.{Route}
use Rattle.net_model.specs.NetworkTerms.{network_of}
use Rattle.update_spec.specs.Equal.{equal_route}
use Rattle.update_joined.proofs.PlanLemmas.{joined_from}
use Rattle.update_joined.proofs.joined.join.Goals as goal

pub returns : goal.returns
returns c =
    let old = network_of c.args.old in
    let new = network_of c.args.new.now in
    joined_from old new c.append.new.self.items c.append-2.new.self.items c.append-3.new.self.items
    (c.in_ok-append.ensures.items ∙ ap (λ (l : List Route). old.routes ++ l)
    (c.in_ok-routes.ensures ∙ ap₂ (λ (os ns : List Route). filter (λ r. not (list_any (equal_route r) os)) ns)
    c.as_slice-2.ensures.value c.as_slice-3.ensures.value))
    (c.in_ok-append-2.ensures.items ∙ ap (λ (l : List (List ℕ)). old.titles ++ l) c.in_ok-added.ensures.titles)
    (c.in_ok-append-3.ensures.items ∙ ap (λ (l : List SidEntry). old.sids ++ l) c.in_ok-added.ensures.sids)
