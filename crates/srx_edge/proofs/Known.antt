-- What is consumed in parts is consumed whole, and what reading all of a file gives.
use Rattle.std.proofs.Common.{◌≡◌, ℕ, ◌+◌, ◌<◌, List, ◌++◌, length, Option, None, Some, IfSome, IsSomeAnd, sym, ap, ◌∙◌, append_assoc, append-nil, subst, arith, length-append}
use Rattle.std.specs.Io.KnownBytes.{Consumes, IsAtEnd}
use Rattle.srx_edge.specs.Edge.{file_named}

pub consumed_both : (bytes more : List ℕ) (first now later : Option (List ℕ)) → Consumes first now bytes → Consumes now later more
    → Consumes first later (bytes ++ more)
consumed_both bytes more None now later p q = tt
consumed_both bytes more (Some x) None later p q = absurd p
consumed_both bytes more (Some x) (Some y) None p q = absurd q
consumed_both bytes more (Some x) (Some y) (Some z) p q = p ∙ ap (λ (l : List ℕ). bytes ++ l) q ∙ sym (append_assoc bytes more z)

whole_at : (held bytes : List ℕ) (new : Option (List ℕ)) → Consumes (Some held) new bytes → IsAtEnd new → Some held ≡ Some bytes
whole_at held bytes None p q = absurd p
whole_at held bytes (Some rest) p q = ap Some (p ∙ ap (λ (l : List ℕ). bytes ++ l) q ∙ append-nil bytes)

whole_by : (found left new : Option (List ℕ)) (bytes : List ℕ) → IsSomeAnd found (λ held. left ≡ Some held) → Consumes left new bytes
    → IsAtEnd new
    → found ≡ Some bytes
whole_by None left new bytes e p q = absurd e
whole_by (Some held) left new bytes e p q = whole_at held bytes new (subst (λ (l : Option (List ℕ)). Consumes l new bytes) e p) q

-- a file that was opened and read to its end
pub whole_read : (name bytes : List ℕ) (told : Option (List (List ℕ × List ℕ))) (left new : Option (List ℕ))
    → IfSome told (λ files. IsSomeAnd (file_named files name) (λ held. left ≡ Some held)) → Consumes left new bytes → IsAtEnd new
    → IfSome told (λ files. file_named files name ≡ Some bytes)
whole_read name bytes None left new e p q = tt
whole_read name bytes (Some files) left new e p q = whole_by (file_named files name) left new bytes e p q

longer_at : (limit : ℕ) (held bytes : List ℕ) (new : Option (List ℕ)) → length bytes ≡ limit + 1 → Consumes (Some held) new bytes
    → limit < length held
longer_at limit held bytes None size p = absurd p
longer_at limit held bytes (Some rest) size p = omega (arith, size, length-append bytes rest, ap length p)

longer_by : (limit : ℕ) (found left new : Option (List ℕ)) (bytes : List ℕ) → IsSomeAnd found (λ held. left ≡ Some held)
    → length bytes ≡ limit + 1 → Consumes left new bytes
    → IsSomeAnd found (λ held. limit < length held)
longer_by limit None left new bytes e size p = absurd e
longer_by limit (Some held) left new bytes e size p =
    longer_at limit held bytes new size (subst (λ (l : Option (List ℕ)). Consumes l new bytes) e p)

-- a file that was opened, and of which one byte more than the limit was read
pub longer_read : (limit : ℕ) (name bytes : List ℕ) (told : Option (List (List ℕ × List ℕ))) (left new : Option (List ℕ))
    → IfSome told (λ files. IsSomeAnd (file_named files name) (λ held. left ≡ Some held)) → length bytes ≡ limit + 1
    → Consumes left new bytes
    → IfSome told (λ files. IsSomeAnd (file_named files name) (λ held. limit < length held))
longer_read limit name bytes None left new e size p = tt
longer_read limit name bytes (Some files) left new e size p = longer_by limit (file_named files name) left new bytes e size p

pub ruleset whole_files = (whole_read, longer_read)
