-- The members of an object, as the keys of its map.
use Rattle.std.proofs.Common.{◌≡◌, ℕ, Bool, true, false, not, List, [], ◌∷◌, String, Global, string_bytes, Option, None, Some, option_map, if◌then◌else◌, refl, ap}
use Rattle.std.specs.List.{find}
use Rattle.std.specs.Map.{keys_of}
use Rattle.serde_json.specs.View.{members_view}
use Rattle.serde_json.specs.declared.value.Value.{Value}
use Rattle.pce_protocol.specs.declared.field.Field.{Field}
use Rattle.pce_protocol.specs.Fields.{is_among, first_unknown}

-- the first of some keys that is none of these fields
abbrev pub first_other : List Field → List (String Global) → Option (List ℕ)
first_other known [] = None
first_other known (key ∷ keys) = if is_among known (string_bytes key) then first_other known keys else Some (string_bytes key)

pub first_other_member : (known : List Field) (es : List (String Global × Value))
    → first_other known (keys_of es) ≡ first_unknown known (members_view es)
first_other_member known [] = refl
first_other_member known (e ∷ es) =
    ap (λ rest. if is_among known (string_bytes e.0) then rest else Some (string_bytes e.0)) (first_other_member known es)

pub ruleset other_members = (first_other_member)
