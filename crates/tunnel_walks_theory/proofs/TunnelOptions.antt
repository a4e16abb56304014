-- Options that are there, by parts.
use Rattle.std.proofs.Common.{◌≡◌, Bool, true, false, if◌then◌else◌, Option, Some, None, refl, ap, ◌∙◌}
use Rattle.std.specs.Option.{option_map, option_and_then}
use Rattle.std.proofs.lemmas.Option.{same_Some}
use Rattle.binding_spec.specs.TunnelPackets.{arrives}

pub then_parts : {A B : Type 0} (f : A → Option B) (o : Option A) (y : B) → option_and_then f o ≡ Some y
    → (x : A) × (o ≡ Some x) × (f x ≡ Some y)
then_parts f None y h = cc
then_parts f (Some x) y h = (x, refl, h)

pub then_from : {A B : Type 0} (f : A → Option B) {o : Option A} {x : A} {y : B} → o ≡ Some x → f x ≡ Some y
    → option_and_then f o ≡ Some y
then_from f e h = ap (option_and_then f) e ∙ h

pub map_parts : {A B : Type 0} (f : A → B) (o : Option A) (y : B) → option_map f o ≡ Some y → (x : A) × (o ≡ Some x) × (f x ≡ y)
map_parts f None y h = cc
map_parts f (Some x) y h = (x, refl, same_Some _ _ h)

pub map_from : {A B : Type 0} (f : A → B) {o : Option A} {x : A} {y : B} → o ≡ Some x → f x ≡ y → option_map f o ≡ Some y
map_from f e h = ap (option_map f) e ∙ ap Some h

pub if_parts : {A : Type 0} (b : Bool) (o : Option A) (y : A) → (if b then o else None) ≡ Some y → (b ≡ true) × (o ≡ Some y)
if_parts true o y h = (refl, h)
if_parts false o y h = cc

pub if_from : {A : Type 0} {b : Bool} {o : Option A} {y : A} → b ≡ true → o ≡ Some y → (if b then o else None) ≡ Some y
if_from {o = o} e h = ap (λ b. if b then o else None) e ∙ h

-- where a link leads, as a state there
pub arrives_parts : {L P S B : Type 0} (f : S → Option B) (to : L → Option P) (at : P → S) (link : L) (y : B)
    → option_and_then f (arrives to at link) ≡ Some y → (p : P) × (to link ≡ Some p) × (f (at p) ≡ Some y)
arrives_parts f to at link y h = parts (to link) h
  where
    parts : (o : Option _) → option_and_then f (option_map at o) ≡ Some y → (p : _) × (o ≡ Some p) × (f (at p) ≡ Some y)
    parts None h = cc
    parts (Some p) h = (p, refl, h)

pub arrives_from : {L P S B : Type 0} (f : S → Option B) (to : L → Option P) (at : P → S) {link : L} {p : P} {y : B} → to link ≡ Some p
    → f (at p) ≡ Some y → option_and_then f (arrives to at link) ≡ Some y
arrives_from f to at e h = ap (λ o. option_and_then f (option_map at o)) e ∙ h
