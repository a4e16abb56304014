-- What it takes for options to be there.
use Rattle.std.proofs.Common.{◌≡◌, ℕ, Bool, true, false, ◌&&◌, if◌then◌else◌, Option, Some, None, refl, sym, ◌∙◌, ap}
use Rattle.std.specs.Option.{option_map, option_and_then}
use Rattle.choice_graph.specs.declared.vertices.Found.{Found}

pub map_some : {X Y : Type 0} (f : X → Y) (o : Option X) (y : Y) → option_map f o ≡ Some y → (x : X) × (o ≡ Some x) × (f x ≡ y)
map_some f None y h = absurd (cc)
map_some f (Some x) y h = (x, refl, cc)

pub then_some : {X Y : Type 0} (f : X → Option Y) (o : Option X) (y : Y) → option_and_then f o ≡ Some y
    → (x : X) × (o ≡ Some x) × (f x ≡ Some y)
then_some f None y h = absurd (cc)
then_some f (Some x) y h = (x, refl, h)

pub if_some : {X : Type 0} (t : Bool) (o : Option X) (y : X) → (if t then o else None) ≡ Some y → (t ≡ true) × (o ≡ Some y)
if_some true o y h = (refl, h)
if_some false o y h = absurd (cc)

pub some_same : {X : Type 0} (x y : X) → Path (Option X) (Some x) (Some y) → x ≡ y
some_same x y h = cc

pub none_some : {X : Type 0} (x : X) → Path (Option X) None (Some x) → ⊥
none_some x h = absurd (cc)

-- two options with the same values are the same
pub option_same : {X : Type 0} (o p : Option X) → ((x : X) → o ≡ Some x → p ≡ Some x) → ((x : X) → p ≡ Some x → o ≡ Some x) → o ≡ p
option_same (Some x) p there back = sym (there x refl)
option_same None None there back = refl
option_same None (Some x) there back = back x refl

pub both_true : (a b : Bool) → (a && b) ≡ true → (a ≡ true) × (b ≡ true)
both_true true b h = (refl, h)
both_true false b h = absurd (cc)

pub true_both : (a b : Bool) → a ≡ true → b ≡ true → (a && b) ≡ true
true_both true b e h = h
true_both false b e h = absurd (cc)

pub found_same : (f g : Found) → f.most ≡ g.most → f.answer ≡ g.answer → f ≡ g
found_same f g m a =
    let one : f ≡ record { most = g.most; answer = f.answer } = ap (λ (n : ℕ). record { most = n; answer = f.answer }) m in
    one ∙ ap (λ (n : ℕ). record { most = g.most; answer = n }) a
