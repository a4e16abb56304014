use Rattle.std.proofs.Common.{length}
use Rattle.end_behaviours.proofs.LastLemmas.{Taking}
use Rattle.end_behaviours.proofs.writing.take_out_all.Given as goal

abbrev pub invariant-lasts : goal.invariant-lasts
invariant-lasts l = Taking l.outcome l.initial.lasts.items l.initial.buf l.lasts.items l.buf

abbrev pub decreases-lasts : goal.decreases-lasts
decreases-lasts l = length l.lasts.items
