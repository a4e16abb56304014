-- What may name a request, and how a reply gives it back.
use Rattle.std.specs.Prelude.{ℕ, Bool, nat_le, length, if◌then◌else◌, Option, Some, None, option_and_then}
use Rattle.serde_json.specs.Data.{Num, unsigned, negative, float, Data, null, boolean, number, string, array, object}
use Rattle.serde_json.specs.Find.{of_integer}
use Rattle.serde_json.specs.Written.{compact_text}
use Rattle.pce_protocol.specs.declared.limits.TheConstants.{MAX_ID_BYTES}
use Rattle.pce_protocol.specs.declared.id.Id.{Id}
use Rattle.pce_protocol.specs.declared.id.Id.TheVariants as ids

-- an integer of 64 bits
abbrev pub number_id : Num → Option Id
number_id (unsigned n) = Some (ids.Unsigned n)
number_id (negative z) = Some (ids.Signed z)
number_id (float x) = None

-- null, a bool, an integer of 64 bits or a text
abbrev pub plain_id : Data → Option Id
plain_id null = Some ids.Null
plain_id (boolean b) = Some (ids.Bool b)
plain_id (number n) = number_id n
plain_id (string s) = Some (ids.Text s)
plain_id (array ds) = None
plain_id (object ms) = None

-- the value that a reply has
abbrev pub id_data : Id → Data
id_data ids.Null = null
id_data (ids.Bool b) = boolean b
id_data (ids.Unsigned n) = number (unsigned n)
id_data (ids.Signed z) = number (of_integer z)
id_data (ids.Text s) = string s

-- written in few bytes
abbrev pub is_short : Id → Bool
is_short id = nat_le (length (compact_text (id_data id))) MAX_ID_BYTES

abbrev pub id_of : Data → Option Id
id_of d = option_and_then (λ id. if is_short id then Some id else None) (plain_id d)
