-- A value that reading gives has a fact; a fault says nothing.
use Rattle.std.proofs.Common.{◌≡◌, Bool, true, false, cond, Option, Some, None, refl, ap, subst}
use Rattle.std.specs.Prelude.{Result, Ok, Err}
use Rattle.std.proofs.lemmas.Option.{same_Some}
use Rattle.toml_reader.specs.TomlReading.{◌>>=◌, or_fault}

-- a value that is given has the fact
pub record Holds {F X : Type 0} (fact : X → Type 0) (r : Result X F) : Type 0 where
  pub given : (x : X) → r ≡ Ok x → fact x

value : {F X : Type 0} → Result X F → Option X
value (Ok x) = Some x
value (Err fault) = None

same_Ok : {F X : Type 0} (x y : X) → ◌≡◌ {A = Result X F} (Ok x) (Ok y) → x ≡ y
unfolding value
same_Ok x y e = same_Some x y (ap value e)

pub of_fault : {F X : Type 0} (fact : X → Type 0) (fault : F) → Holds fact (Err fault)
of_fault {F = F} fact fault = record { given = λ x h. absurd (let no : ◌≡◌ {A = Result _ F} (Err fault) (Ok x) = h in cc) }

pub of_value : {F X : Type 0} (fact : X → Type 0) (x : X) → fact x → Holds {F = F} fact (Ok x)
of_value fact x f = record { given = λ y h. subst fact (same_Ok x y h) f }

pub after : {F X Y : Type 0} (fact : Y → Type 0) (r : Result X F) (next : X → Result Y F)
    → ((x : X) → r ≡ Ok x → Holds fact (next x)) → Holds fact (◌>>=◌ r next)
after fact (Ok x) next each = each x refl
after fact (Err fault) next each = of_fault fact fault

pub tested : {F X : Type 0} (fact : X → Type 0) (b : Bool) (x : X) (fault : F) → (b ≡ true → fact x)
    → Holds fact (cond b (Ok x) (Err fault))
tested fact true x fault f = of_value fact x (f refl)
tested fact false x fault f = of_fault fact fault

pub tested_on : {F X : Type 0} (fact : X → Type 0) (b : Bool) (r : Result X F) (fault : F) → (b ≡ true → Holds fact r)
    → Holds fact (cond b r (Err fault))
tested_on fact true r fault f = f refl
tested_on fact false r fault f = of_fault fact fault

pub found : {F X : Type 0} (fault : F) (o : Option X) (x : X) → or_fault fault o ≡ Ok x → o ≡ Some x
found {F = F} fault None x h = absurd (let no : ◌≡◌ {A = Result _ F} (Err fault) (Ok x) = h in cc)
found fault (Some y) x h = ap Some (same_Ok y x h)
