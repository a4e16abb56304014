use Rattle.std.proofs.Common.{sym, ap, ◌∙◌}
use Rattle.net_model.specs.NetworkTerms.{network_of}
use Rattle.net_flatness.specs.Search.{first_refused}
use Rattle.net_flatness.proofs.SearchLemmas.{none_refused, pairs_refused}
use Rattle.net_flatness.proofs.nested.refuse_nested_pair.Goals as goal

pub returns-then-are_apart : goal.returns-then-are_apart
returns-then-are_apart c = none_refused (network_of c.args.parts.now) (c.are_apart.ensures c.if-are_apart.true)

pub returns : goal.returns
returns c =
    let net = network_of c.args.parts.now in
    c.refuse_nested.ensures ∙ (ap (first_refused net) c.as_slice.ensures.value ∙ sym (pairs_refused net net.sids))
