use Rattle.std.proofs.Common.{◌≡◌, sym, ap, ◌∙◌, subst}
use Rattle.net_model.specs.Best.{lookup_of}
use Rattle.net_model.specs.BestTerms.{IsBest}
use Rattle.net_model.specs.LookupTables.{TableOf}
use Rattle.net_model.proofs.IsBestLemmas.{lookup_is_best}
use Rattle.net_model.proofs.net.Net.lookup.Goals as goal

pub returns : goal.returns
returns c =
    let net = c.args.self.now in
    let node = c.args.node in
    let table = c.args.table in
    let family = c.args.family in
    let a = c.args.a.value in
    let value : c.lookup.result ≡ lookup_of net node table family a =
    c.lookup.ensures ∙ ap (λ (t : TableOf). lookup_of t.net t.node t.table t.family a) c.table.ensures in
    record { value = value; best = subst (IsBest net node table family a) (sym value) (lookup_is_best net node table family a) }
