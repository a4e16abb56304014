use Rattle.std.proofs.Common.{◌-◌, length}
use Rattle.ip6_headers.specs.ChainStepping.{place_view}
use Rattle.icmp6_errors.proofs.ErrorChains.{IsAsked}
use Rattle.icmp6_errors.proofs.unanswered.is_error_message.Given as goal

abbrev pub invariant-headers : goal.invariant-headers
invariant-headers l = IsAsked l.packet l.bytes (place_view l.place)

abbrev pub decreases-headers : goal.decreases-headers
decreases-headers l = length l.bytes - l.place.at
