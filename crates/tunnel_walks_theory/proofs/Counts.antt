-- Where a header of so many executions is taken off within the limit.
use Rattle.std.proofs.Common.{◌≡◌, ℕ, zero, suc, ◌+◌, ◌-◌, ◌<◌, ◌≤◌, [], Some, None, refl, ap, arith}
use Rattle.std.specs.Option.{option_map}
use Rattle.binding_spec.specs.Machines.{end_of, end_after, end_with}
use Rattle.binding_spec.specs.TunnelPackets.{inside_at, inside_move, tunnel_of}
use Rattle.tunnel_walks_theory.specs.CountedExample.{numbers, counting}

down_enough : (fuel n limit place : ℕ) → n < fuel
    → end_of numbers (inside_move (counting limit)) fuel [] (inside_at n [] place) ≡ Some (end_with [] place [])
unfolding end_of
down_enough zero n limit place few = absurd (omega arith)
down_enough (suc fuel) zero limit place few = refl
down_enough (suc fuel) (suc n) limit place few = ap (option_map (end_after [])) (down_enough fuel n limit place (omega arith))

down_short : (fuel n limit place : ℕ) → fuel ≤ n
    → end_of numbers (inside_move (counting limit)) fuel [] (inside_at n [] place) ≡ None
unfolding end_of
down_short zero n limit place few = refl
down_short (suc fuel) zero limit place few = absurd (omega arith)
down_short (suc fuel) (suc n) limit place few = ap (option_map (end_after [])) (down_short fuel n limit place (omega arith))

pub count_enough : (limit n place : ℕ) → n + 2 ≤ limit → tunnel_of (counting limit) [] place n ≡ Some (end_with [] place [])
unfolding tunnel_of
count_enough limit n place few = down_enough (limit - 1) n limit place (omega arith)

pub count_short : (limit n place : ℕ) → limit < n + 2 → tunnel_of (counting limit) [] place n ≡ None
unfolding tunnel_of
count_short limit n place few = down_short (limit - 1) n limit place (omega arith)
