use Rattle.std.proofs.Common.{length, List, ℕ}
use Rattle.line_talk.specs.TalkTerms.{Keeps}
use Rattle.line_talk.proofs.PiecesFed.{Fed}
use Rattle.line_talk.proofs.desk.Desk.feed.Given as goal

-- the lines that ended before the rest are answered
abbrev pub invariant-loop-at : goal.invariant-loop-at
invariant-loop-at g l = (line : List ℕ) → Keeps line l.fn.self.line
    → Fed g.E.Engine.rules line l.piece l.rest l.self.line (g.E.Engine.seen l.fn.engine) (g.E.Engine.seen l.engine) l.fn.self.waiting l.self.waiting (g.C.Client.talk l.fn.client) (g.C.Client.talk l.client)

abbrev pub decreases-loop-at : goal.decreases-loop-at
decreases-loop-at g l = length l.rest
