-- the longest run of groups that are 0
use Rattle.std.proofs.Common.{◌≡◌, ℕ, suc, ◌+◌, ◌-◌, ◌<◌, ◌≤◌, Bool, true, false, eqb, leb, cond, List, ◌∷◌, length, get_or, drop, sym, ◌∙◌, ap, subst, refl, arith, drop-cons, add-one}
use Rattle.std.proofs.lemmas.List.{drop_all}
use Rattle.v6_addr.specs.Text.{Run, leading_zeros, longer_run, longest_run}

-- what the groups from a place on have: how many zeros they begin with, and the longest run, by its place among all groups
pub record RunsFrom (groups : List ℕ) (i here start count : ℕ) : Type 0 where
  pub zeros : leading_zeros (drop i groups) ≡ here
  pub longest : longest_run (drop i groups) ≡ record { start = start - i; count = count }
  pub at : i ≤ start
  pub within : start + count ≤ length groups
  pub room : here + i ≤ length groups

pub no_runs : (groups : List ℕ) → RunsFrom groups (length groups) 0 (length groups) 0
unfolding leading_zeros longest_run
no_runs groups =
    let nothing = drop_all (length groups) groups (omega arith) in
    let none : 0 ≡ length groups - length groups = omega arith in
    record {
      zeros = ap leading_zeros nothing;
      longest = ap longest_run nothing ∙ ap (λ (n : ℕ). record { start = n; count = 0 }) none;
      at = omega arith;
      within = omega arith;
      room = omega arith;
    }

same_run : (a b c d : ℕ) → a ≡ c → b ≡ d → ◌≡◌ {A = Run} (record { start = a; count = b }) (record { start = c; count = d })
same_run a b c d e f = ap (λ (n : ℕ). record { start = n; count = b }) e ∙ ap (λ (n : ℕ). record { start = c; count = n }) f

step_run : (next i here start count start' count' : ℕ) (b : Bool) → next + 1 ≡ i → i ≤ start → start' ≡ cond b next start
    → count' ≡ cond b here count
    → ◌≡◌ {A = Run} (cond b (record { start = 0; count = here }) (record { start = suc (start - i); count = count }))
    (record { start = start' - next; count = count' })
step_run next i here start count start' count' true is_next at is_start is_count = same_run 0 here (start' - next) count' (omega arith)
    (sym is_count)
step_run next i here start count start' count' false is_next at is_start is_count = same_run (suc (start - i)) count (start' - next) count'
    (omega arith) (sym is_count)

step_at : (next i start start' : ℕ) (b : Bool) → next + 1 ≡ i → i ≤ start → start' ≡ cond b next start → next ≤ start'
step_at next i start start' true is_next at is_start = omega arith
step_at next i start start' false is_next at is_start = omega arith

step_within : (next here start count start' count' all : ℕ) (b : Bool) → start' ≡ cond b next start → count' ≡ cond b here count
    → here + next ≤ all → start + count ≤ all → start' + count' ≤ all
step_within next here start count start' count' all true is_start is_count room within = omega arith
step_within next here start count start' count' all false is_start is_count room within = omega arith

step_room : (next i here here' all : ℕ) (b : Bool) → next + 1 ≡ i → here' ≡ cond b (here + 1) 0 → here + i ≤ all → here' + next ≤ all
step_room next i here here' all true is_next is_here room = omega arith
step_room next i here here' all false is_next is_here room = omega arith

-- one group before
pub runs_before : (groups : List ℕ) (i here start count next here' start' count' : ℕ) → next + 1 ≡ i → RunsFrom groups i here start count
    → here' ≡ cond (eqb (get_or groups next 0) 0) (here + 1) 0 → start' ≡ cond (leb count here') next start
    → count' ≡ cond (leb count here') here' count
    → RunsFrom groups next here' start' count'
unfolding leading_zeros longer_run longest_run
runs_before groups i here start count next here' start' count' is_next runs is_here is_start is_count =
    let g = get_or groups next 0 in
    let inside : next < length groups = omega (arith, runs.room) in
    let parts : drop next groups ≡ g ∷ drop i groups = rw (← is_next) (rw add-one (drop-cons groups next 0 inside)) in
    let after : leading_zeros (g ∷ drop i groups) ≡ here' =
    ap (λ n. cond (eqb g 0) n 0) (ap suc runs.zeros ∙ sym (add-one here)) ∙ sym is_here in
    let room = step_room next i here here' (length groups) (eqb g 0) is_next is_here runs.room in
    record {
      zeros = ap leading_zeros parts ∙ after;
      longest = ap longest_run parts ∙ ap (λ n. longer_run n (longest_run (drop i groups))) after ∙ ap (longer_run here') runs.longest
          ∙ step_run next i here' start count start' count' (leb count here') is_next runs.at is_start is_count;
      at = step_at next i start start' (leb count here') is_next runs.at is_start;
      within = step_within next here' start count start' count' (length groups) (leb count here') is_start is_count room runs.within;
      room = room;
    }

-- the run of all groups
pub runs_all : (groups : List ℕ) (i here start count : ℕ) → i ≡ 0 → RunsFrom groups i here start count
    → record { start = start; count = count } ≡ longest_run groups
runs_all groups i here start count none runs =
    let whole = let P : ℕ → Type 0 = λ n. longest_run (drop n groups) ≡ record { start = start - n; count = count } in
    subst P none runs.longest in
    same_run start count (start - 0) count (omega arith) refl ∙ sym whole
