use Rattle.std.proofs.Common.{◌≡◌, ◌≤◌, length}
use Rattle.io_tests.proofs.byte_tests.byte_by_byte.Given as goal

-- as many bytes were fed as were passed
abbrev pub invariant-loop-at : goal.invariant-loop-at
invariant-loop-at l = record {
  fed : l.reader.fed ≡ l.at;
  end : l.at-end ≡ length l.bytes;
  within : l.at ≤ l.at-end;
}
