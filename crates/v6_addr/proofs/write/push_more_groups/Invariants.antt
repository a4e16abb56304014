use Rattle.std.proofs.Common.{◌≡◌, ◌+◌, ◌*◌, ◌≤◌, ◌∷◌, ◌++◌, length, take}
use Rattle.std.specs.Prelude.{flat_map}
use Rattle.v6_addr.specs.Text.{group_text}
use Rattle.v6_addr.proofs.write.push_more_groups.Given as goal

-- the groups so far are written
abbrev pub invariant-loop-group : goal.invariant-loop-group
invariant-loop-group l = record {
  bytes : l.out.bytes ≡ l.fn.out.bytes ++ flat_map (λ g. 58 ∷ group_text g) (take l.group-index l.groups);
  len : length l.out.bytes ≤ length l.fn.out.bytes + 5 * l.group-index;
}
