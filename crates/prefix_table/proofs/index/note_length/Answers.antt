use Rattle.std.proofs.Common.{◌≡◌, ℕ, ◌<◌, ◌≤◌, length, get_or, slice_index, sym, subst}
use Rattle.std.proofs.lemmas.Bool.{both_ways}
use Rattle.prefix_table.specs.Index.{AreFalling, Keeps}
use Rattle.prefix_table.proofs.TableLengthLemmas.{falling_with, kept_with, below_from}
use Rattle.prefix_table.proofs.index.note_length.Goals as goal

pub returns-clause-falling : goal.returns-clause-falling
returns-clause-falling c =
    let ls = c.args.lengths.now.items in
    let at = c.place_of_length-place.result in
    let same : c.deref.result.now ≡ ls = cc in
    let within : at ≤ length ls = subst (λ xs. at ≤ length xs) same c.place_of_length-place.ensures.within in
    let above : (k : ℕ) → k < at → c.args.len < get_or ls k 0 =
    subst (λ xs. (k : ℕ) → k < at → c.args.len < get_or xs k 0) same c.place_of_length-place.ensures.above in
    let here : at < length ls → get_or ls at 0 ≤ c.args.len =
    subst (λ xs. at < length xs → get_or xs at 0 ≤ c.args.len) same c.place_of_length-place.ensures.here in
    let again : c.deref-2.result.now ≡ ls = cc in
    let other : at < length ls → ¬ (get_or ls at 0 ≡ c.args.len) =
    λ h e. both_ways _ c.if-is_at.false
    (c.is_at.ensures.1 (subst (λ xs. (at < length xs) × (slice_index xs at ≡ c.args.len)) (sym again) (h, e))) in
    subst AreFalling (sym c.in_ok-insert.ensures.items)
    (falling_with ls at c.args.len within c.requires.falling above (below_from ls at c.args.len c.requires.falling here other)
    c.requires.few)

pub returns-clause-kept : goal.returns-clause-kept
returns-clause-kept c =
    let ls = c.args.lengths.now.items in
    let at = c.place_of_length-place.result in
    let same : c.deref.result.now ≡ ls = cc in
    let within : at ≤ length ls = subst (λ xs. at ≤ length xs) same c.place_of_length-place.ensures.within in
    subst (Keeps ls) (sym c.in_ok-insert.ensures.items) (kept_with ls at c.args.len within)
