use Rattle.std.proofs.Common.{◌≡◌, ◌≤◌, length, sym, ◌∙◌, subst}
use Rattle.net_model.specs.declared.limits.TheConstants.{MAX_LINKS}
use Rattle.net_model.specs.Network.{Network}
use Rattle.net_model.specs.NetworkTerms.{network_of}
use Rattle.net_model.specs.NetworkRulesTerms.{IsNetwork}
use Rattle.net_model.specs.NetworkJudgingTerms.{InRange}
use Rattle.net_without.specs.Without.{without_of}
use Rattle.net_without.specs.WithoutTerms.{flag_at}
use Rattle.net_without.proofs.Flags.{left_is, whole_copy, if_ok_is}
use Rattle.net_without.proofs.Keeping.{left_rules, left_range}
use Rattle.net_without.proofs.leaving_out.without.Goals as goal

pub links_up-requires : goal.links_up-requires
links_up-requires c =
    let same : network_of c.in_ok-parts.parts ≡ c.args.net.now = whole_copy (network_of c.in_ok-parts.parts) c.args.net.now c.in_ok-parts.ensures c.requires in
    let few : length (network_of c.in_ok-parts.parts).links ≤ MAX_LINKS = subst (λ (n : Network). length n.links ≤ MAX_LINKS) (sym same) c.keeps_rules.ensures.facts.link_count in
    rw c.as_slice.ensures.value few

pub parts_left-requires : goal.parts_left-requires
parts_left-requires c =
    let same : network_of c.in_ok-parts.parts ≡ c.args.net.now = whole_copy (network_of c.in_ok-parts.parts) c.args.net.now c.in_ok-parts.ensures c.requires in
    subst InRange (sym same) c.keeps_rules.ensures.range

pub build_of-requires-clause-rules : goal.build_of-requires-clause-rules
build_of-requires-clause-rules c =
    let parts = network_of c.in_ok-parts.parts in
    let same : parts ≡ c.args.net.now = whole_copy parts c.args.net.now c.in_ok-parts.ensures c.requires in
    subst IsNetwork (sym c.in_ok-left.ensures)
    (left_rules parts (flag_at c.as_slice-2.result.now) (subst IsNetwork (sym same) c.keeps_rules.ensures.network) (subst InRange (sym same) c.keeps_rules.ensures.range))

pub build_of-requires-clause-range : goal.build_of-requires-clause-range
build_of-requires-clause-range c =
    let parts = network_of c.in_ok-parts.parts in
    let same : parts ≡ c.args.net.now = whole_copy parts c.args.net.now c.in_ok-parts.ensures c.requires in
    subst InRange (sym c.in_ok-left.ensures)
    (left_range parts (flag_at c.as_slice-2.result.now) (subst InRange (sym same) c.keeps_rules.ensures.range))

pub returns : goal.returns
returns c =
    let parts = network_of c.in_ok-parts.parts in
    let same : parts ≡ c.args.net.now = whole_copy parts c.args.net.now c.in_ok-parts.ensures c.requires in
    let flags = rw c.as_slice.ensures.value at c.in_ok-up.ensures in
    let left = c.in_ok-left.ensures ∙ left_is c.args.net.now parts c.args.links.now c.args.nodes.now c.as_slice-2.result.now same (c.as_slice-2.ensures.value ∙ flags) in
    if_ok_is c.build_of.result (network_of c.in_ok-left.left) (without_of c.args.net.now c.args.links.now c.args.nodes.now) c.build_of.ensures left
