use Rattle.std.proofs.Common.{◌≡◌, ◌+◌, ◌*◌, ◌≤◌, length}
use Rattle.srv6_rules.specs.ChecksumTerms.{word_sum}
use Rattle.icmp6_errors.proofs.checksum.word_sum.Given as goal

abbrev pub invariant-words : goal.invariant-words
invariant-words l =
    (l.sum + word_sum l.rest ≡ word_sum l.bytes) × (l.sum + 65535 * length l.rest ≤ 65535 * length l.bytes)

abbrev pub decreases-words : goal.decreases-words
decreases-words l = length l.rest
