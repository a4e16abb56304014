-- What steps on a sink leave, one after the other.
use Rattle.std.proofs.Common.{◌≡◌, ℕ, List, ◌++◌, Err}
use Rattle.srx_edge.specs.Sinks.{SinkSeen, sent}
use Rattle.srx_edge.specs.SinksTerms.{Pours}
use Rattle.srx_edge.specs.CallStepsTerms.{Wrote}
use Rattle.srx_edge.specs.declared.output.PourFault.{PourFault}
use Rattle.srx_edge.specs.declared.output.PourFault.TheVariants as pours
use Rattle.srx_edge.proofs.PublicLaws.{sent_both, cut_longer, cut_after, cut_whole, cut_none, cut_failed, cut_wanting}
use Rattle.command_output.specs.declared.halt.Failure.{Failure}
use Rattle.command_output.specs.declared.halt.Failure.TheVariants as failures
use Rattle.command_output.specs.CommandAnswers.{ending_of_failure}
use Rattle.command_output.specs.HaltsTerms.{failure_of_pour}

-- `pour` was stopped
pub poured_cut : (fault : PourFault) (bytes : List ℕ) (old new : SinkSeen) → Pours bytes (Err fault) old new
    → Wrote (ending_of_failure (failure_of_pour fault)) bytes old new
poured_cut (pours.Failed written) bytes old new h = cut_failed written bytes old new h.0 h.1
poured_cut (pours.NoMemory written) bytes old new h = cut_wanting written bytes old new h.0 h.1

-- a step that wasn't done with the first bytes wasn't done with all of them
pub wrote_longer : (failure : Failure) (bytes more : List ℕ) (old new : SinkSeen) → Wrote (ending_of_failure failure) bytes old new
    → Wrote (ending_of_failure failure) (bytes ++ more) old new
wrote_longer failures.Fault bytes more old new h = cut_longer _ bytes more old new h
wrote_longer failures.NoMemory bytes more old new h = cut_longer _ bytes more old new h

-- nor was one that wasn't done with the others, once the first went out
pub wrote_after : (failure : Failure) (bytes more : List ℕ) (old mid new : SinkSeen) → mid ≡ sent bytes old
    → Wrote (ending_of_failure failure) more mid new
    → Wrote (ending_of_failure failure) (bytes ++ more) old new
wrote_after failures.Fault bytes more old mid new first h = cut_after _ bytes more old mid new first h
wrote_after failures.NoMemory bytes more old mid new first h = cut_after _ bytes more old mid new first h

pub ruleset writing = (poured_cut, wrote_longer, wrote_after, sent_both, cut_whole, cut_none)
