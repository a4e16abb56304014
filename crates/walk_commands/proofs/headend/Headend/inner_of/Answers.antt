use Rattle.std.proofs.Common.{ap, ◌∙◌}
use Rattle.run_commands.specs.Admission.{EndsEarly}
use Rattle.walk_commands.specs.WalkCommand.{admission_of}
use Rattle.walk_commands.proofs.headend.Headend.inner_of.Goals as goal

pub returns-in-Ok : goal.returns-in-Ok
returns-in-Ok c =
    let h = c.args.self.now in
    record {
      holds = c.in-Ok.ensures.holds;
      short = c.in-Ok.ensures.short;
      same = ap (admission_of h.node) (c.in-Ok.ensures.same h.policy);
    }

pub returns-in-Err : goal.returns-in-Err
returns-in-Err c = ap EndsEarly c.drops.ensures ∙ ap (admission_of c.args.self.now.node) (c.in-Err.ensures c.args.self.now.policy)
