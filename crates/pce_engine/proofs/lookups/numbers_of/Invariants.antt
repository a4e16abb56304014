use Rattle.std.proofs.Common.{◌≡◌, drop}
use Rattle.pce_engine.specs.EngineReplies.{numbers_of}
use Rattle.pce_engine.specs.EngineTerms.{numbered, behind_front}
use Rattle.pce_engine.proofs.lookups.numbers_of.Given as goal

-- the numbers so far, and those of the names that are left, are those of all
abbrev pub invariant-loop-name : goal.invariant-loop-name
invariant-loop-name l =
    numbers_of (numbered l.net l.part) l.names ≡ behind_front l.numbers.items (numbers_of (numbered l.net l.part) (drop l.name-index l.names))
