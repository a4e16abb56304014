use Rattle.std.proofs.Common.{map, ap, ◌∙◌}
use Rattle.std.specs.List.{filter_map}
use Rattle.net_reader.specs.Joining.{joined_block, title_in, joined_sids}
use Rattle.net_reader.proofs.JoinedLemmas.{joined_from}
use Rattle.net_reader.proofs.joined_parts.join.Goals as goal

pub returns : goal.returns
returns c =
    let names = c.in_ok-names.names in
    joined_from c.args.said.now names.nodes names.links names.policies _ _ _ _ _ _ _
    c.in_ok-names.ensures.nodes c.in_ok-names.ensures.links c.in_ok-names.ensures.policies
    (c.in_ok-blocks.ensures ∙ ap (map joined_block) c.as_slice.ensures)
    c.in_ok-nodes.ensures.nodes c.in_ok-nodes.ensures.links c.in_ok-routes.ensures.routes c.in_ok-routes.ensures.policies
    (c.in_ok-titles.ensures.titles ∙ ap (filter_map title_in) c.as_slice-3.ensures)
    (c.in_ok-titles.ensures.entries
    ∙ ap (joined_sids names.nodes names.links names.policies c.as_slice-2.result.now 0) c.as_slice-3.ensures
    ∙ ap (λ blocks. joined_sids names.nodes names.links names.policies blocks 0 c.args.said.now.sids) c.as_slice-2.ensures.value)
