use Rattle.std.proofs.Common.{◌≡◌, ℕ, ◌+◌, ◌-◌, ◌*◌, ◌^◌, ◌<◌, List, length, ap, ◌∙◌, subst, sym, arith}
use Rattle.v6_addr.specs.Text.{number_of_groups}
use Rattle.v6_addr.proofs.GroupSums.{shortened_left_refused, shortened_right_refused, shortened_too_many, shortened_reads, around_fits}
use Rattle.v6_addr.proofs.groups.parse_shortened.Goals as goal

pub returns-in_err-left : goal.returns-in_err-left
returns-in_err-left c = c.from_residual.ensures ∙ shortened_left_refused _ _ c.args.gap c.split_at.ensures.front c.in_err-left.ensures

pub returns-in_err-right : goal.returns-in_err-right
returns-in_err-right c = c.from_residual-in_err-right.ensures
    ∙ shortened_right_refused _ _ c.args.gap c.split_at-2.ensures.back c.in_err-right.ensures

pub returns-then-before-after-gt7 : goal.returns-then-before-after-gt7
returns-then-before-after-gt7 c =
    shortened_too_many _ _ _ _ _ c.args.gap c.split_at.ensures.front c.split_at-2.ensures.back c.in_ok-left.ensures c.in_ok-right.ensures
    (omega (arith, c.len-before.ensures.value, c.len-after.ensures.value))

-- a number's bound, by the length that the code asked for
bound_at : (value count : ℕ) (slice groups : List ℕ) → value < 2 ^ (16 * length slice) → slice ≡ groups → count ≡ length groups
    → value < 2 ^ (16 * count)
bound_at value count slice groups bound is_slice is_count =
    let P : ℕ → Type 0 = λ n. value < 2 ^ (16 * n) in
    subst P (ap length is_slice ∙ sym is_count) bound

pub raised-moved-requires-clause-fits : goal.raised-moved-requires-clause-fits
raised-moved-requires-clause-fits c =
    (around_fits c.number-high.result c.number-low.result c.len-before.result c.len-after.result
    (bound_at _ _ _ _ c.number-high.ensures.bound c.as_slice.ensures.value c.len-before.ensures.value)
    (bound_at _ _ _ _ c.number-low.ensures.bound c.as_slice-2.ensures.value c.len-after.ensures.value) (omega arith)).0

pub overflow_add-result : goal.overflow_add-result
overflow_add-result c =
    let fits = around_fits c.number-high.result c.number-low.result c.len-before.result c.len-after.result
    (bound_at _ _ _ _ c.number-high.ensures.bound c.as_slice.ensures.value c.len-before.ensures.value)
    (bound_at _ _ _ _ c.number-low.ensures.bound c.as_slice-2.ensures.value c.len-after.ensures.value) (omega arith) in
    omega (arith, fits.1, c.raised-moved.ensures)

summed : (high low moved before : ℕ) (slice left low_slice right : List ℕ) → moved ≡ high * 2 ^ (128 - 16 * before)
    → high ≡ number_of_groups slice → slice ≡ left → before ≡ length left
    → low ≡ number_of_groups low_slice → low_slice ≡ right
    → moved + low ≡ number_of_groups left * 2 ^ (128 - 16 * length left) + number_of_groups right
summed high low moved before slice left low_slice right is_moved is_high is_slice is_before is_low is_low_slice =
    ap (λ n. n + low) (is_moved ∙ ap (λ n. n * 2 ^ (128 - 16 * before)) (is_high ∙ ap number_of_groups is_slice)
    ∙ ap (λ n. number_of_groups left * 2 ^ (128 - 16 * n)) is_before)
    ∙ ap (λ n. number_of_groups left * 2 ^ (128 - 16 * length left) + n) (is_low ∙ ap number_of_groups is_low_slice)

pub returns : goal.returns
returns c =
    shortened_reads _ _ _ _ _ c.args.gap _ c.split_at.ensures.front c.split_at-2.ensures.back c.in_ok-left.ensures c.in_ok-right.ensures
    (omega (arith, c.len-before.ensures.value, c.len-after.ensures.value))
    (summed _ _ _ _ _ _ _ _ c.raised-moved.ensures c.number-high.ensures.value c.as_slice.ensures.value c.len-before.ensures.value
    c.number-low.ensures.value c.as_slice-2.ensures.value)
