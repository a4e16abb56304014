use Rattle.std.proofs.Common.{◌≡◌, ◌+◌, List, ℕ, Some, None, get_or, slice_get, Vec, Global, sym, ◌∙◌, ap, subst}
use Rattle.std.proofs.lemmas.Bool.{iff_false}
use Rattle.std.proofs.lemmas.Option.{slice_get-get_or}
use Rattle.shortest_paths.proofs.Collecting.{AreHopsBelow, collects_none, collects_yes, collects_no, collects_all}
use Rattle.shortest_paths.proofs.hops.next_hops.Goals as goal
use Rattle.shortest_paths.proofs.hops.next_hops.Goals.{then-leads_on+in_ok-push, else-leads_on}

pub loop-number-init : goal.loop-number-init
loop-number-init c =
    subst (λ (hops : List ℕ). AreHopsBelow c.args.links.now c.args.distances.now c.args.node 0 hops) (sym c.new-hops.ensures.items)
    (collects_none c.args.links.now c.args.distances.now c.args.node)

pub loop-number-preserved : goal.loop-number-preserved
loop-number-preserved c =
    let links = c.args.links.now in
    let n = c.loop-number.number in
    let link = get_or links n (record { from = 0; to = None; metric = 0 }) in
    let here : slice_get links n ≡ Some link = slice_get-get_or links n _ c.loop-number-test.true in
    let Are : List ℕ → Type 0 = λ hops. AreHopsBelow links c.args.distances.now c.args.node (n + 1) hops in
    elim c.if-leads_on.branch [
      | then-leads_on+in_ok-push w ↦
          subst Are (sym (ap (λ (v : Vec ℕ Global). v.items) w.hops-is ∙ w.in_ok-push.ensures.items))
          (collects_yes links c.args.distances.now c.args.node n link c.loop-number.hops.items here c.loop-number.invariant
          (c.leads_on.ensures.0 w.if-leads_on.true))
      | else-leads_on w ↦
          subst Are (sym (ap (λ (v : Vec ℕ Global). v.items) w.hops-is))
          (collects_no links c.args.distances.now c.args.node n link c.loop-number.hops.items here c.loop-number.invariant
          (iff_false c.leads_on.ensures w.if-leads_on.false))
    ]

pub returns : goal.returns
returns c = collects_all c.args.links.now c.args.distances.now c.args.node c.loop-number.number c.loop-number.hops.items
    c.loop-number-test.false c.loop-number.invariant
