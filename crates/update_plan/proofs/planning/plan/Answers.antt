use Rattle.std.proofs.Common.{◌≡◌, List, Ok, refl, sym, ap₂, ◌∙◌, subst}
use Rattle.net_model.specs.declared.net.EntryId.{EntryId}
use Rattle.net_model.specs.NetworkTerms.{network_of}
use Rattle.update_spec.specs.Changes.{added_entries, removed_entries}
use Rattle.update_spec.specs.Joined.{joined_of}
use Rattle.update_spec.specs.Planning.{planning}
use Rattle.update_plan.specs.UpdateStateTerms.{AreHideable, ShowsWithout}
use Rattle.update_plan.proofs.PlanFacts.{added_by, added_there_law, plan_is, plan_kept, whole_parts}
use Rattle.update_plan.proofs.planning.plan.Goals as goal

pub build_of-requires-clause-there : goal.build_of-requires-clause-there
build_of-requires-clause-there c =
    let old = c.args.old.now in
    let new = c.args.new.now in
    let copy : network_of c.in_ok-copy.copy ≡ old = whole_parts old (network_of c.in_ok-copy.copy) c.in_ok-copy.ensures refl c.requires.old in
    let other : network_of c.parts.result.now ≡ new =
    whole_parts new (network_of c.parts.result.now) c.parts.ensures refl c.requires.new in
    let parts : network_of c.in_ok-parts.parts ≡ joined_of old new =
    c.in_ok-parts.ensures.joined ∙ ap₂ joined_of copy other in
    let added : c.in_ok-added.added.items ≡ added_entries old new =
    c.in_ok-added.ensures
    ∙ added_by old new (network_of c.in_ok-parts.parts) c.routes.result c.sids.result parts c.routes.ensures c.sids.ensures in
    subst (λ (l : List EntryId). AreHideable (network_of c.in_ok-parts.parts) l) (sym c.as_slice.ensures.value)
    (added_there_law old new (network_of c.in_ok-parts.parts) c.in_ok-added.added.items (removed_entries old new) parts added refl)

pub invariant_of-result : goal.invariant_of-result
invariant_of-result c =
    let old = c.args.old.now in
    let new = c.args.new.now in
    let copy : network_of c.in_ok-copy.copy ≡ old = whole_parts old (network_of c.in_ok-copy.copy) c.in_ok-copy.ensures refl c.requires.old in
    let other : network_of c.parts.result.now ≡ new =
    whole_parts new (network_of c.parts.result.now) c.parts.ensures refl c.requires.new in
    let third : network_of c.parts-2.result.now ≡ old =
    whole_parts old (network_of c.parts-2.result.now) c.parts-2.ensures refl c.requires.old in
    let fourth : network_of c.parts-3.result.now ≡ new =
    whole_parts new (network_of c.parts-3.result.now) c.parts-3.ensures refl c.requires.new in
    let parts : network_of c.in_ok-parts.parts ≡ joined_of old new = c.in_ok-parts.ensures.joined ∙ ap₂ joined_of copy other in
    let added : c.in_ok-added.added.items ≡ added_entries old new =
    c.in_ok-added.ensures
    ∙ added_by old new (network_of c.in_ok-parts.parts) c.routes.result c.sids.result parts c.routes.ensures c.sids.ensures in
    let removed : c.in_ok-removed.removed.items ≡ removed_entries old new = c.in_ok-removed.ensures ∙ ap₂ removed_entries third fourth in
    let accepted : planning old new ≡ Ok tt = sym (ap₂ planning copy other) ∙ c.in_ok-parts.ensures.answer in
    let shows : ShowsWithout c.in_ok-net.net c.in_ok-added.added.items =
    subst (ShowsWithout c.in_ok-net.net) c.as_slice.ensures.value c.in_ok-net.ensures.shows in
    plan_kept old new (network_of c.in_ok-parts.parts) c.in_ok-added.added.items c.in_ok-removed.removed.items parts added removed
    c.in_ok-net.net c.in_ok-net.ensures.same shows c.in_ok-parts.ensures.rules c.keeps_rules.ensures.network accepted

pub returns-clause-plan : goal.returns-clause-plan
returns-clause-plan c =
    let old = c.args.old.now in
    let new = c.args.new.now in
    let copy : network_of c.in_ok-copy.copy ≡ old = whole_parts old (network_of c.in_ok-copy.copy) c.in_ok-copy.ensures refl c.requires.old in
    let other : network_of c.parts.result.now ≡ new =
    whole_parts new (network_of c.parts.result.now) c.parts.ensures refl c.requires.new in
    let third : network_of c.parts-2.result.now ≡ old =
    whole_parts old (network_of c.parts-2.result.now) c.parts-2.ensures refl c.requires.old in
    let fourth : network_of c.parts-3.result.now ≡ new =
    whole_parts new (network_of c.parts-3.result.now) c.parts-3.ensures refl c.requires.new in
    let parts : network_of c.in_ok-parts.parts ≡ joined_of old new =
    c.in_ok-parts.ensures.joined ∙ ap₂ joined_of copy other in
    let added : c.in_ok-added.added.items ≡ added_entries old new =
    c.in_ok-added.ensures
    ∙ added_by old new (network_of c.in_ok-parts.parts) c.routes.result c.sids.result parts c.routes.ensures c.sids.ensures in
    let removed : c.in_ok-removed.removed.items ≡ removed_entries old new = c.in_ok-removed.ensures ∙ ap₂ removed_entries third fourth in
    plan_is old new (network_of c.in_ok-parts.parts) c.in_ok-added.added.items c.in_ok-removed.removed.items parts added removed
    c.in_ok-net.net c.in_ok-net.ensures.same
