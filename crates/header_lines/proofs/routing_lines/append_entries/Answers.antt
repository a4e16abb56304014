use Rattle.std.proofs.Common.{◌≡◌, ℕ, suc, ◌+◌, ◌-◌, ◌<◌, List, ◌++◌, string_bytes, sym, ap, ◌∙◌, arith, append_assoc}
use Rattle.std.specs.List.{flat_map, range_with_len}
use Rattle.srv6_rules.specs.Srh.{Srh}
use Rattle.header_lines.specs.HeaderLines.{entry_line}
use Rattle.header_lines.proofs.routing_lines.append_entries.Goals as goal

-- one more entry is shown
entries_on : (s : Srh) (i n : ℕ) (now new all : List ℕ) → i < n → new ≡ now ++ entry_line s i
    → now ++ flat_map (entry_line s) (range_with_len i (n - i)) ≡ all
    → new ++ flat_map (entry_line s) (range_with_len (i + 1) (n - (i + 1))) ≡ all
entries_on s i n now new all more added so_far =
    let rest = flat_map (entry_line s) (range_with_len (i + 1) (n - (i + 1))) in
    let left : n - i ≡ suc (n - (i + 1)) = omega arith in
    ap (λ xs. xs ++ rest) added
    ∙ append_assoc now (entry_line s i) rest
    ∙ ap (λ k. now ++ flat_map (entry_line s) (range_with_len i k)) (sym left)
    ∙ so_far

pub loop-i-preserved : goal.loop-i-preserved
loop-i-preserved c =
    entries_on c.args.srh.now c.loop-i.i c.min-shown.result (string_bytes c.loop-i.out) (string_bytes c.append_entry.new.out) _
    c.loop-i-test.true c.in_ok-append_entry.ensures c.loop-i.invariant
