use Rattle.std.proofs.Common.{◌≡◌, ◌+◌, ◌<◌, refl, List, Option, ℕ, Some, [], length, get_or, slice_get, Vec, Global, vec_len, sym, ◌∙◌, ap, subst, arith}
use Rattle.std.proofs.lemmas.Bool.{eqb-true, eqb-false}
use Rattle.std.proofs.lemmas.List.{nil_from_length}
use Rattle.std.proofs.lemmas.Option.{slice_get-get_or}
use Rattle.shortest_paths.specs.declared.routes.Route.{Route}
use Rattle.shortest_paths.specs.NextHops.{AreNextHops}
use Rattle.shortest_paths.specs.LeastWalks.{IsFirstHop}
use Rattle.shortest_paths.specs.RoutesTerms.{PlansSoFar}
use Rattle.shortest_paths.proofs.RoutesInTurn.{route_is, no_first, plans_yes, plans_no, plans_same}
use Rattle.shortest_paths.proofs.routes.add_routes.Goals as goal
use Rattle.shortest_paths.proofs.routes.add_routes.Goals.{then-not-is_empty+in_ok-push, else-not-is_empty}

pub loop-node-preserved : goal.loop-node-preserved
loop-node-preserved c =
    let links = c.args.links.now in
    let destinations = c.args.destinations.now in
    let n = c.loop-node.node in
    let originators = get_or destinations c.args.destination c.index-destinations-destination.result in
    let named : slice_get destinations c.args.destination ≡ Some originators
    = slice_get-get_or destinations c.args.destination c.index-destinations-destination.result c.requires.within in
    let same : originators ≡ c.as_slice-originators.result.now
    = sym c.index-destinations-destination.is ∙ sym c.as_slice-originators.ensures in
    let hops : AreNextHops links c.in_ok-to.to.items n c.in_ok-via.via.items =
    subst (λ (ds : List (Option ℕ)). AreNextHops links ds n c.in_ok-via.via.items) c.as_slice.ensures.value c.in_ok-via.ensures in
    let Are : List Route → Type 0 = λ routes. PlansSoFar links destinations c.args.destination (n + 1) routes in
    elim c.if-not-is_empty.branch [
      | then-not-is_empty+in_ok-push w ↦
          let route : Route = record { node = n; destination = c.args.destination; via = w.new.result } in
          let long : vec_len c.in_ok-via.via ≡ length c.in_ok-via.via.items = cc in
          let apart : ¬ (vec_len c.in_ok-via.via ≡ 0)
          = eqb-false (vec_len c.in_ok-via.via) 0 (sym c.is_empty.ensures ∙ w.if-not-is_empty.true) in
          let some : 0 < length c.in_ok-via.via.items = omega (arith, long, apart) in
          subst Are (sym (ap (λ (v : Vec Route Global). v.items) w.routes-is ∙ w.in_ok-push.ensures.items))
          (plans_yes links destinations c.args.destination n c.loop-node.routes.items c.loop-node.invariant route refl refl
          (route_is links c.in_ok-to.to.items c.as_slice-originators.result.now c.in_ok-to.ensures.exact n destinations c.args.destination
          originators w.new.result named same
          (subst (λ (hops : List ℕ). AreNextHops links c.in_ok-to.to.items n hops) (sym w.new.ensures) hops)
          (subst (λ (hops : List ℕ). 0 < length hops) (sym w.new.ensures) some)))
      | else-not-is_empty w ↦
          let few : vec_len c.in_ok-via.via ≡ 0
          = eqb-true (vec_len c.in_ok-via.via) 0 (sym c.is_empty.ensures ∙ w.if-not-is_empty.false) in
          let empty : c.in_ok-via.via.items ≡ [] = nil_from_length c.in_ok-via.via.items (cc) in
          subst Are (sym (ap (λ (v : Vec Route Global). v.items) w.routes-is))
          (plans_no links destinations c.args.destination n c.loop-node.routes.items c.loop-node.invariant originators named
          (λ hop first. no_first links c.in_ok-to.to.items c.as_slice-originators.result.now c.in_ok-to.ensures.exact n
          c.in_ok-via.via.items empty hops hop
          (subst (λ (ts : List ℕ). IsFirstHop links ts n hop) same first)))
    ]

pub returns : goal.returns
returns c =
    let none : c.args.nodes ≡ c.loop-node.node = omega (arith, c.loop-node-test.false, c.loop-node.auto.node-end) in
    plans_same c.args.links.now c.args.destinations.now c.args.destination _ _ c.loop-node.routes.items none c.loop-node.invariant
