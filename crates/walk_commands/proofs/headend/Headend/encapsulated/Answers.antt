use Rattle.std.proofs.Common.{ap, ◌∙◌}
use Rattle.pkt_buf.specs.BufferView.{Buffer}
use Rattle.run_commands.specs.Admission.{entrant_of}
use Rattle.walk_commands.specs.Headend.{admission_alone}
use Rattle.walk_commands.proofs.HeadendSteps.{comes_made}
use Rattle.walk_commands.proofs.headend.Headend.encapsulated.Goals as goal

pub returns-in-Ok : goal.returns-in-Ok
returns-in-Ok c =
    comes_made c.args.self.now c.in_ok-outer.outer.bytes c.place.result c.enter_buf.result _ c.place.ensures c.enter_buf.ensures
    c.in-Ok.ensures.answer
    ∙ ap (λ (b : Buffer). entrant_of (admission_alone c.args.self.now b.bytes)) c.in_ok-outer.ensures.filled
