-- The first fault of an area, item by item.
use Rattle.std.proofs.Common.{◌≡◌, ℕ, ◌+◌, ◌<◌, List, length, drop, sym, ap, ◌∙◌}
use Rattle.std.specs.Prelude.{Option, None}
use Rattle.srv6_rules.specs.Areas.{Fault, item_bytes, first_of, area_fault}
use Rattle.srv6_rules.proofs.PublicLaws.{area_fault_item}

-- after an item that has no fault
pub area_behind : (judge : ℕ → List ℕ → Option Fault) (at : ℕ) (item : List ℕ) (len : ℕ) → 0 < length item → judge at item ≡ None
    → len ≡ item_bytes item → area_fault judge 0 at item ≡ area_fault judge 0 (at + len) (drop len item)
area_behind judge at item len some none stated =
    area_fault_item judge at item some
    ∙ ap (λ x. first_of x (area_fault judge 0 (at + item_bytes item) (drop (item_bytes item) item))) none
    ∙ ap (λ n. area_fault judge 0 (at + n) (drop n item)) (sym stated)
