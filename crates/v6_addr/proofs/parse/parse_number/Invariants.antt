use Rattle.v6_addr.proofs.AddressReading.{ReadDigits}
use Rattle.v6_addr.proofs.parse.parse_number.Given as goal

abbrev pub invariant-loop-b : goal.invariant-loop-b
invariant-loop-b l = ReadDigits l.radix l.text l.value l.b-index
