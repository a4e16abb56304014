-- Items of a type-length-value area.
use Rattle.std.proofs.Common.{◌≡◌, ℕ, false, ◌==◌, List, slice_index, refl}
use Rattle.std.specs.Prelude.{◌≢◌, None}
use Rattle.std.proofs.lemmas.Bool.{ne_eqb}
use Rattle.srv6_rules.specs.declared.numbers.TheConstants.{HMAC}
use Rattle.srv6_rules.specs.Areas.{passes_end, tlv_fault}

-- an item that is no HMAC and does not pass the area's end has no fault
pub tlv_none : (at : ℕ) (item : List ℕ) → slice_index item 0 ≢ HMAC → passes_end item ≡ false → tlv_fault at item ≡ None
tlv_none at item other fits =
    let e : (slice_index item 0 == HMAC) ≡ false = ne_eqb (slice_index item 0) HMAC other in
    rw (e, fits) refl
