-- Ids are given back as they came.
use Rattle.std.proofs.Common.{◌≡◌, ℤ, pos, negsuc, Bool, true, false, if◌then◌else◌, Option, None, Some, refl, sym, ap, ◌∙◌}
use Rattle.std.specs.Prelude.{option_and_then}
use Rattle.serde_json.specs.Data.{Num, unsigned, negative, float, Data, null, boolean, number, string, array, object}
use Rattle.serde_json.specs.Written.{compact_text}
use Rattle.pce_protocol.specs.declared.id.Id.{Id}
use Rattle.pce_protocol.specs.declared.id.Id.TheVariants as ids
use Rattle.pce_protocol.specs.Ids.{number_id, plain_id, id_data, is_short, id_of}

of_some : {A : Type 0} (x y : A) → Some x ≡ Some y → x ≡ y
of_some x y e = cc

same_text : (i id : Id) → Some i ≡ Some id → compact_text (id_data id) ≡ compact_text (id_data i)
same_text i id e = ap (λ (i : Id). compact_text (id_data i)) (sym (of_some i id e))

signed_text : (z : ℤ) → compact_text (id_data (ids.Signed z)) ≡ compact_text (number (negative z))
signed_text (pos n) = refl
signed_text (negsuc n) = refl

number_back : (n : Num) (id : Id) → number_id n ≡ Some id → compact_text (id_data id) ≡ compact_text (number n)
number_back (unsigned n) id e = same_text (ids.Unsigned n) id e
number_back (negative z) id e = same_text (ids.Signed z) id e ∙ signed_text z
number_back (float x) id e = cc

plain_back : (d : Data) (id : Id) → plain_id d ≡ Some id → compact_text (id_data id) ≡ compact_text d
plain_back null id e = same_text ids.Null id e
plain_back (boolean b) id e = same_text (ids.Bool b) id e
plain_back (number n) id e = number_back n id e
plain_back (string s) id e = same_text (ids.Text s) id e
plain_back (array ds) id e = cc
plain_back (object ms) id e = cc

short_by : (b : Bool) (i id : Id) → (if b then Some i else None) ≡ Some id → Some i ≡ Some id
short_by true i id e = e
short_by false i id e = cc

short_back : (o : Option Id) (id : Id) → option_and_then (λ id. if is_short id then Some id else None) o ≡ Some id → o ≡ Some id
short_back None id e = cc
short_back (Some i) id e = short_by (is_short i) i id e

pub given_back : (d : Data) (id : Id) → id_of d ≡ Some id → compact_text (id_data id) ≡ compact_text d
given_back d id e = plain_back d id (short_back (plain_id d) id e)
