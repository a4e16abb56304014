use Rattle.std.proofs.Common.{sym, ◌∙◌}
use Rattle.pce_engine.proofs.Held.{put_at, put_behind}
use Rattle.pce_engine.proofs.networks.put.Goals as goal

pub returns-in-Some-clause-ok : goal.returns-in-Some-clause-ok
returns-in-Some-clause-ok c =
    sym (put_at c.args.name c.args.network c.args.all.now.items c.in-Some.at (sym (rw c.as_slice.ensures.value at c.in-Some.ensures)))

pub returns-in_ok-push-in-None-clause-ok : goal.returns-in_ok-push-in-None-clause-ok
returns-in_ok-push-in-None-clause-ok c =
    c.in_ok-push-in-None.ensures.items
    ∙ sym (put_behind c.args.name c.args.network c.args.all.now.items (sym (rw c.as_slice.ensures.value at c.in-None.ensures)))
