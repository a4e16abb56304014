use Rattle.pce_engine.proofs.doing.done_by.Goals as goal

pub returns-in-Without : goal.returns-in-Without
returns-in-Without g c = rw c.in-Without.is (c.leave_out.ensures (g.F.Files.seen c.args.files.now))

pub returns-in-Drop : goal.returns-in-Drop
returns-in-Drop g c = rw c.in-Drop.is (c.release.ensures (g.F.Files.seen c.args.files.now))
