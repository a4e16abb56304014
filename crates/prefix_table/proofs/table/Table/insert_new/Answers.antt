use Rattle.std.proofs.Common.{◌≡◌, ◌++◌, ◌∷◌, [], ap, ◌∙◌, subst}
use Rattle.prefix_table.specs.PrefixTable.{HasPrefix}
use Rattle.prefix_table.proofs.IndexLemmas.{whole_put, whole_same}
use Rattle.prefix_table.proofs.table.Table.insert_new.Goals as goal

pub invariant_of-self : goal.invariant_of-self
invariant_of-self g c =
    whole_same c.self.inside.entries.items c.make_room.new.entries.items c.self.inside.index c.make_room.new.index c.self.invariant
    c.make_room.ensures.lengths c.make_room.ensures.entries c.in-Err.ensures.err

pub invariant_of-self-in-Ok : goal.invariant_of-self-in-Ok
invariant_of-self-in-Ok g c =
    let es = c.self.inside.entries.items in
    let is_now : c.push.new.self.items ≡ es ++ (c.args.p, c.args.t) ∷ [] =
    c.in_ok-push-in-Ok.ensures.items ∙ ap (λ xs. xs ++ (c.args.p, c.args.t) ∷ []) c.make_room.ensures.entries in
    let is_new : ¬ HasPrefix es c.args.p = λ h. c.requires (subst (λ xs. HasPrefix xs c.args.p) c.self.view_is h) in
    whole_put es c.push.new.self.items c.self.inside.index c.make_room.new.index c.key_of-key.result c.args.p c.args.t c.self.invariant
    c.key_of-key.ensures.is_prefix is_new c.make_room.ensures.lengths c.key_of-key.ensures.key is_now c.in-Ok.ensures.ok
