use Rattle.std.proofs.Common.{◌≡◌, ◌++◌, List, Some, None, sym, ap, ◌∙◌}
use Rattle.srv6_rules.specs.declared.sid.SidEntry.{SidEntry}
use Rattle.net_model.specs.declared.parts.Node.{Node}
use Rattle.net_model.specs.declared.parts.Route.{Route}
use Rattle.net_model.specs.NetworkTerms.{hidden_hits}
use Rattle.net_model.specs.LookupTables.{entries_from, sid_entry, address_entry, route_entry, first_at}
use Rattle.net_model.proofs.SettleLemmas.{first_at_left, first_at_right, first_of_all}
use Rattle.net_model.proofs.hidden.first_shown.Goals as goal

pub returns-in-Some : goal.returns-in-Some
returns-in-Some c =
    let p = c.args.parts.now in
    let hs = hidden_hits c.args.hidden.now in
    let at = c.args.at.now in
    let sids = entries_from sid_entry 0 p.sids.items in
    let rest = entries_from address_entry 0 p.nodes.items ++ entries_from route_entry 0 p.routes.items in
    let first : first_at hs at sids ≡ Some c.in-Some.hit =
    ap (λ (ss : List SidEntry). first_at hs at (entries_from sid_entry 0 ss)) (sym c.as_slice.ensures.value) ∙ sym c.in-Some.ensures in
    sym (sym (first_of_all p c.args.hidden.now at) ∙ first_at_left hs at sids rest c.in-Some.hit first)

pub returns-in-Some-first_of : goal.returns-in-Some-first_of
returns-in-Some-first_of c =
    let p = c.args.parts.now in
    let hs = hidden_hits c.args.hidden.now in
    let at = c.args.at.now in
    let sids = entries_from sid_entry 0 p.sids.items in
    let nodes = entries_from address_entry 0 p.nodes.items in
    let routes = entries_from route_entry 0 p.routes.items in
    let none : first_at hs at sids ≡ None =
    ap (λ (ss : List SidEntry). first_at hs at (entries_from sid_entry 0 ss)) (sym c.as_slice.ensures.value)
    ∙ (sym c.first_of.ensures ∙ c.in_default.is) in
    let second : first_at hs at nodes ≡ Some c.in-Some-first_of.hit =
    ap (λ (ns : List Node). first_at hs at (entries_from address_entry 0 ns)) (sym c.as_slice-2.ensures.value)
    ∙ sym c.in-Some-first_of.ensures in
    sym (sym (first_of_all p c.args.hidden.now at)
    ∙ (first_at_right hs at sids (nodes ++ routes) none ∙ first_at_left hs at nodes routes c.in-Some-first_of.hit second))

pub returns : goal.returns
returns c =
    let p = c.args.parts.now in
    let hs = hidden_hits c.args.hidden.now in
    let at = c.args.at.now in
    let sids = entries_from sid_entry 0 p.sids.items in
    let nodes = entries_from address_entry 0 p.nodes.items in
    let routes = entries_from route_entry 0 p.routes.items in
    let none : first_at hs at sids ≡ None =
    ap (λ (ss : List SidEntry). first_at hs at (entries_from sid_entry 0 ss)) (sym c.as_slice.ensures.value)
    ∙ (sym c.first_of.ensures ∙ c.in_default.is) in
    let neither : first_at hs at nodes ≡ None =
    ap (λ (ns : List Node). first_at hs at (entries_from address_entry 0 ns)) (sym c.as_slice-2.ensures.value)
    ∙ (sym c.first_of-2.ensures ∙ c.in_default-first_of.is) in
    c.first_of-3.ensures ∙ (ap (λ (rs : List Route). first_at hs at (entries_from route_entry 0 rs)) c.as_slice-3.ensures.value
    ∙ sym (sym (first_of_all p c.args.hidden.now at)
    ∙ (first_at_right hs at sids (nodes ++ routes) none ∙ first_at_right hs at nodes routes neither)))
