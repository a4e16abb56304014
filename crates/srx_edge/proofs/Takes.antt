-- What is taken in parts is taken whole.
use Rattle.std.proofs.Common.{◌≡◌, ◌==◌, ℕ, ◌+◌, ◌<◌, ◌≤◌, false, List, ◌++◌, length, take, Option, None, Some, IfSome, refl, sym, ap, ◌∙◌, append_assoc, subst, arith, rules, length-append, length-take}
use Rattle.std.proofs.Math.Seq.{drop-append_seam}
use Rattle.srx_edge.specs.Edge.{prepend_to, drop_from}
use Rattle.srx_edge.specs.Sources.{SourceSeen, passed, taken, Gives, DrawnUpTo}

prepend_to_prepend_to : (bytes more : List ℕ) (left : Option (List ℕ))
    → prepend_to bytes (prepend_to more left) ≡ prepend_to (bytes ++ more) left
prepend_to_prepend_to bytes more None = refl
prepend_to_prepend_to bytes more (Some left) = ap Some (sym (append_assoc bytes more left))

-- the bytes that were taken, and then more
pub take_more : (bytes more : List ℕ) (first now later : Option (List ℕ)) → first ≡ prepend_to bytes now → now ≡ prepend_to more later
    → first ≡ prepend_to (bytes ++ more) later
take_more bytes more first now later e next = e ∙ ap (prepend_to bytes) next ∙ prepend_to_prepend_to bytes more later

prepended_drop : (bytes : List ℕ) (first later : Option (List ℕ)) → first ≡ prepend_to bytes later → later ≡ drop_from (length bytes) first
prepended_drop bytes first None e = ap (drop_from (length bytes)) (sym e)
prepended_drop bytes first (Some left) e = ap Some (sym (drop-append_seam bytes left)) ∙ ap (drop_from (length bytes)) (sym e)

prepended_longer : (n : ℕ) (bytes : List ℕ) (first later : Option (List ℕ)) → length bytes ≡ n + 1 → first ≡ prepend_to bytes later
    → IfSome first (λ input. n < length input)
prepended_longer n bytes first None size e = subst (λ (o : Option (List ℕ)). IfSome o (λ input. n < length input)) (sym e) tt
prepended_longer n bytes first (Some left) size e =
    let longer : n < length (bytes ++ left) = omega (arith, length-append bytes left) in
    subst (λ (o : Option (List ℕ)). IfSome o (λ input. n < length input)) (sym e) longer

-- a read that gave some bytes
gave_some : (into filled : List ℕ) (count : ℕ) (mid new : SourceSeen) → Gives into filled count mid new → 0 < length into → 0 < count
    → new ≡ passed new.left false mid
gave_some into filled count mid new gives room some =
    let wide : (length into == 0) ≡ false = search rules in
    let moves : (count == 0) ≡ false = search rules in
    let others = gives.others in rw (wide, moves) at others

-- only what is left changes what a read that passed leaves
passed_same : (left : Option (List ℕ)) (old mid : SourceSeen) → mid.faults ≡ old.faults → mid.ends ≡ old.ends
    → passed left false mid ≡ passed left false old
passed_same left old mid faults ends =
    ap (λ (n : ℕ). record { left = left; faults = n; ends = mid.ends; stopped = false }) faults
    ∙ ap (λ (n : ℕ). record { left = left; faults = old.faults; ends = n; stopped = false }) ends

-- after the bytes so far a read took more: what is taken now
read_more : (into filled bytes : List ℕ) (count : ℕ) (old mid new : SourceSeen) → old.left ≡ prepend_to bytes mid.left
    → Gives into filled count mid new
    → old.left ≡ prepend_to (bytes ++ take count filled) new.left
read_more into filled bytes count old mid new before gives =
    take_more bytes (take count filled) old.left mid.left new.left before gives.taken

-- one byte more than the limit was taken
pub drawn_too_many : (limit count : ℕ) (into filled bytes : List ℕ) (old mid new : SourceSeen) → old.left ≡ prepend_to bytes mid.left
    → mid.faults ≡ old.faults → mid.ends ≡ old.ends → Gives into filled count mid new → length filled ≡ length into → 0 < length into
    → length bytes + count ≡ limit + 1 → 0 < count
    → IfSome old.left (λ input. limit < length input) × (new ≡ taken (limit + 1) old)
drawn_too_many limit count into filled bytes old mid new before faults ends gives same room many some =
    let all = bytes ++ take count filled in
    let whole = read_more into filled bytes count old mid new before gives in
    let size : length all ≡ limit + 1 = omega (arith, length-append bytes (take count filled), length-take count filled, gives.within) in
    let left : new.left ≡ drop_from (limit + 1) old.left = rw size at (prepended_drop all old.left new.left whole) in (
      prepended_longer limit all old.left new.left size whole,
      gave_some into filled count mid new gives room some
          ∙ (passed_same new.left old mid faults ends ∙ ap (λ (o : Option (List ℕ)). passed o false old) left),
    )

-- at most the limit was taken, and memory was wanting
pub drawn_wanting : (limit count : ℕ) (into filled bytes : List ℕ) (old mid new : SourceSeen) → old.left ≡ prepend_to bytes mid.left
    → mid.faults ≡ old.faults → mid.ends ≡ old.ends → Gives into filled count mid new → length filled ≡ length into → 0 < length into
    → length bytes + count ≤ limit → 0 < count
    → DrawnUpTo limit (λ source. source) old new
drawn_wanting limit count into filled bytes old mid new before faults ends gives same room fits some = record {
  bytes = bytes ++ take count filled;
  whole = read_more into filled bytes count old mid new before gives;
  fits = omega (arith, length-append bytes (take count filled), length-take count filled);
  seen = gave_some into filled count mid new gives room some ∙ passed_same new.left old mid faults ends;
}
