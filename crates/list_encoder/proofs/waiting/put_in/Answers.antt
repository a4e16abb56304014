use Rattle.std.proofs.Common.{◌≡◌, Option, true, refl, sym, subst}
use Rattle.std.specs.Prelude.{MatchOption}
use Rattle.std.specs.BTreeSet as tree
use Rattle.list_pack.specs.declared.types.Cost.{Cost}
use Rattle.list_encoder.specs.declared.waiting.Waiting.{Waiting}
use Rattle.list_encoder.specs.Waiting.{waiting_cmp, waiting_at}
use Rattle.list_encoder.proofs.waiting.put_in.Goals as goal

pub returns-in_default : goal.returns-in_default
returns-in_default c =
    let old = c.args.waiting.now in
    subst (λ (o : Option Cost). MatchOption o (old ≡ old) (λ cost. tree.Updates waiting_cmp old old (waiting_at cost c.args.place) true))
    (sym c.in_default.is) refl

pub returns : goal.returns
returns c =
    let old = c.args.waiting.now in
    let new = c.insert.new.self in
    subst (λ (o : Option Cost). MatchOption o (new ≡ old) (λ cost. tree.Updates waiting_cmp old new (waiting_at cost c.args.place) true))
    (sym c.in-Some.is)
    (subst (λ (k : Waiting). tree.Updates waiting_cmp old new k true) c.waiting_at.ensures c.in_ok-insert.ensures.updates)
