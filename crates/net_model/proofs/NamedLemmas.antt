-- What the first number with a name means.
use Rattle.std.proofs.Common.{◌≡◌, ℕ, zero, suc, ◌≤◌, Bool, true, false, ltb, List, [], ◌∷◌, length, Option, Some, None, refl, subst, arith, inl, inr}
use Rattle.std.specs.List.{slice_get, position_or_len, position}
use Rattle.std.specs.Str.{bytes_eq}
use Rattle.std.proofs.lemmas.Bool.{cases_Bool, both_ways, ltb-true, ltb-false}
use Rattle.std.proofs.lemmas.Option.{same_Some, cond_some, slice_get_cases}
use Rattle.std.proofs.lemmas.List.Quantifiers.{position-Some}
use Rattle.std.proofs.lemmas.Slice.Eq.{bytes_eq-Decides}
use Rattle.net_model.specs.declared.parts.Node.{Node}
use Rattle.net_model.specs.declared.parts.Link.{Link}
use Rattle.net_model.specs.Named.{node_numbered, link_numbered}
use Rattle.net_model.specs.NamedTerms.{IsNodeNumbered, IsLinkNumbered}

none_passes : {X : Type 0} (p : X → Bool) (xs : List X) (i : ℕ) (x : X) → length xs ≤ position_or_len p xs → slice_get xs i ≡ Some x
    → p x ≡ false
none_passes p [] i x h e = cc
none_passes p (y ∷ ys) zero x h e =
    elim (cases_Bool (p y)) [ inl t ↦ absurd (omega (arith, rw t at h)) | inr f ↦ subst (λ z. p z ≡ false) (same_Some y x e) f ]
none_passes p (y ∷ ys) (suc i) x h e =
    elim (cases_Bool (p y)) [ inl t ↦ absurd (omega (arith, rw t at h)) | inr f ↦ none_passes p ys i x (omega (arith, rw f at h)) e ]

-- where no place is found each item fails
pub position_None : {X : Type 0} (p : X → Bool) (xs : List X) → position p xs ≡ None → (i : ℕ) (x : X) → slice_get xs i ≡ Some x
    → p x ≡ false
position_None p xs h i x e =
    elim (cases_Bool (ltb (position_or_len p xs) (length xs))) [
      | inl t ↦ absurd (let g = rw t at h in cc)
      | inr f ↦
          none_passes p xs i x (ltb-false _ _ f) e
    ]

-- a place that is found is within the list, and its item passes
pub position_item : {X : Type 0} (p : X → Bool) (xs : List X) (i : ℕ) → position p xs ≡ Some i
    → (x : X) × (slice_get xs i ≡ Some x) × (p x ≡ true)
position_item p xs i h =
    elim (slice_get_cases xs i).1 [
      | inl w ↦ (w.0, w.2, subst (λ z. p z ≡ true) w.3 (position-Some p xs i w.0 h).1)
      | inr w ↦ absurd (let within = cond_some _ _ _ h in omega (arith, ltb-true _ _ within.0, w.0, within.1))
    ]

node_means : (name : List ℕ) (nodes : List Node) (o : Option ℕ) → node_numbered name nodes ≡ o → IsNodeNumbered name nodes o
node_means name nodes None h = λ i n e same. both_ways _ (position_None (λ m. bytes_eq m.name name) nodes h i n e)
    ((bytes_eq-Decides n.name name).1 same)
node_means name nodes (Some i) h =
    let found = position_item (λ m. bytes_eq m.name name) nodes i h in
    (found.0, found.1, (bytes_eq-Decides found.0.name name).0 found.2)

link_means : (name : List ℕ) (links : List Link) (o : Option ℕ) → link_numbered name links ≡ o → IsLinkNumbered name links o
link_means name links None h = λ i l e same. both_ways _ (position_None (λ m. bytes_eq m.name name) links h i l e)
    ((bytes_eq-Decides l.name name).1 same)
link_means name links (Some i) h =
    let found = position_item (λ m. bytes_eq m.name name) links i h in
    (found.0, found.1, (bytes_eq-Decides found.0.name name).0 found.2)

pub node_numbered_means : (name : List ℕ) (nodes : List Node) → IsNodeNumbered name nodes (node_numbered name nodes)
node_numbered_means name nodes = node_means name nodes (node_numbered name nodes) refl

pub link_numbered_means : (name : List ℕ) (links : List Link) → IsLinkNumbered name links (link_numbered name links)
link_numbered_means name links = link_means name links (link_numbered name links) refl
