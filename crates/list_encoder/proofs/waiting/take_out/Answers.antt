use Rattle.std.proofs.Common.{◌≡◌, Option, false, sym, subst}
use Rattle.std.specs.Prelude.{MatchOption}
use Rattle.std.specs.BTreeSet as tree
use Rattle.list_pack.specs.declared.types.Cost.{Cost}
use Rattle.list_encoder.specs.declared.waiting.Waiting.{Waiting}
use Rattle.list_encoder.specs.Waiting.{waiting_cmp, waiting_at}
use Rattle.list_encoder.proofs.waiting.take_out.Goals as goal

pub returns-in-Some : goal.returns-in-Some
returns-in-Some c =
    let old = c.args.waiting.now in
    let new = c.remove.new.self in
    subst (λ (o : Option Cost). MatchOption o (new ≡ old) (λ was. tree.Updates waiting_cmp old new (waiting_at was c.args.place) false))
    (sym c.in-Some.is)
    (subst (λ (k : Waiting). tree.Updates waiting_cmp old new k false) c.waiting_at.ensures c.remove.ensures.updates)
