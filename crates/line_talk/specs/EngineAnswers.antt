-- Need not be believed: what the one call of an engine does, of which the talk's definitions say the outcome.
use Rattle.std.specs.Prelude.{ℕ, List, Result, Ok, Err}
use Rattle.std.specs.Global.{Vec}
use Rattle.base.specs.declared.no_memory.NoMemory.{NoMemory}
use Rattle.line_talk.specs.Replies.{Rules}

-- what an engine does with a line
abbrev pub Answers : {State : Type 0} → Rules State → State → List ℕ → Result (Vec ℕ) NoMemory → State → Type 0
Answers rules before line (Ok reply) behind = rules.Replies before line reply.items behind
Answers rules before line (Err fault) behind = rules.Spares before behind
