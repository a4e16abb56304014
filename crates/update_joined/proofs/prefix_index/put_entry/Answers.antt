use Rattle.std.proofs.Common.{◌≡◌, true, ap, ap₂, ◌∙◌, subst}
use Rattle.update_joined.specs.PrefixKeys.{key_of, key_at, has_length}
use Rattle.update_joined.proofs.PrefixLemmas.{still_indexed, now_indexed}
use Rattle.update_joined.proofs.prefix_index.put_entry.Goals as goal

pub returns-clause-kept : goal.returns-clause-kept
returns-clause-kept c = λ other is.
    still_indexed c.args.index.now _ c.insert.new.self c.key_at.result c.key_of.result other c.in_ok-insert.ensures.updates
    c.in_ok-insert-2.ensures.updates (c.in_ok-note_length.ensures.kept other.prefix.len) is

pub returns-clause-put : goal.returns-clause-put
returns-clause-put c =
    let e = c.args.e.now in
    now_indexed c.args.index.now.keys c.insert.new.self _ c.key_at.result c.key_of.result e c.value-address.ensures.is_prefix.1
    (c.key_at.ensures ∙ ap₂ (key_at e) c.value-address.ensures.value c.len-len.ensures.len)
    (c.key_of.ensures ∙ ap (key_of e 128) c.value-address.ensures.value) c.in_ok-insert.ensures.updates c.in_ok-insert-2.ensures.updates
    (subst (λ n. has_length c.note_length.new.lengths.items n ≡ true) c.len-len.ensures.len c.in_ok-note_length.ensures.noted)
