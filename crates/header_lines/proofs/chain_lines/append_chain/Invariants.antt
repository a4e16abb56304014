use Rattle.std.proofs.Common.{◌-◌, length, string_bytes}
use Rattle.ip6_headers.specs.ChainStepping.{place_view}
use Rattle.header_lines.proofs.ChainLines.{IsShown}
use Rattle.header_lines.proofs.chain_lines.append_chain.Given as goal

abbrev pub invariant-headers : goal.invariant-headers
invariant-headers l = IsShown l.packet l.bytes (string_bytes l.initial.out) (string_bytes l.out) (place_view l.place)

abbrev pub decreases-headers : goal.decreases-headers
decreases-headers l = length l.bytes - l.place.at
