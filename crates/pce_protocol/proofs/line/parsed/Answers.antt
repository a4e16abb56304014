use Rattle.std.proofs.Common.{arith}
use Rattle.pce_protocol.proofs.Parsing.{parsed_some, parsed_none}
use Rattle.serde_json.specs.View.{view}
use Rattle.pce_protocol.proofs.line.parsed.Goals as goal

pub returns-in-Ok : goal.returns-in-Ok
returns-in-Ok c = parsed_some c.args.line.now (view c.in-Ok.value) c.in-Ok.ensures.ok.0 c.in-Ok.ensures.ok.1

pub returns-in-Err-2 : goal.returns-in-Err-2
returns-in-Err-2 c =
    parsed_none c.args.line.now (λ utf8. c.in-Err.ensures.err (λ memory. let h = c.if-is_memory.ensures.1 memory in grind arith) utf8)
