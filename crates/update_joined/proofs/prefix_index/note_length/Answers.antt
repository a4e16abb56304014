use Rattle.std.proofs.Common.{◌≡◌, true, ◌==◌, [], ◌∷◌, sym, subst}
use Rattle.update_joined.specs.PrefixKeys.{has_length}
use Rattle.update_joined.proofs.PrefixLemmas.{any_more, any_last, same_number_is}
use Rattle.update_joined.proofs.prefix_index.note_length.Goals as goal

pub returns-clause-kept : goal.returns-clause-kept
returns-clause-kept c = λ other has.
    subst (λ xs. has_length xs other ≡ true) (sym c.in_ok-push.ensures.items)
    (any_more (λ l. l == other) c.args.lengths.now.items (c.args.len ∷ []) has)

pub returns-clause-noted : goal.returns-clause-noted
returns-clause-noted c =
    subst (λ xs. has_length xs c.args.len ≡ true) (sym c.in_ok-push.ensures.items)
    (any_last (λ l. l == c.args.len) c.args.lengths.now.items c.args.len (same_number_is c.args.len))
