use Rattle.std.proofs.Common.{◌≡◌, ◌∷◌}
use Rattle.std.specs.Map.{keys_of}
use Rattle.pce_protocol.specs.declared.field.Field.TheVariants as fields
use Rattle.pce_protocol.proofs.Members.{first_other}
use Rattle.pce_protocol.proofs.object.first_unknown.Given as goal

abbrev pub invariant-loop-name : goal.invariant-loop-name
invariant-loop-name l =
    first_other (fields.Id ∷ fields.Do ∷ l.known) l.name-iterator ≡ first_other (fields.Id ∷ fields.Do ∷ l.known) (keys_of l.members.entries)
