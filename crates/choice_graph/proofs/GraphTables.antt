-- Tables that are filled, entry by entry.
use Rattle.std.proofs.Common.{◌≡◌, ◌≢◌, ℕ, zero, suc, ◌<◌, ◌≤◌, ◌⊎◌, inl, inr, Bool, true, false, List, [], ◌∷◌, length, slice_index, get_or, set, replicate, is_some, Option, Some, None, refl, sym, ◌∙◌, ap, arith, length-set}
use Rattle.std.proofs.lemmas.Bool.{cases_lt, cases_eq}
use Rattle.std.proofs.lemmas.Option.{slice_get_past, slice_get_read}
use Rattle.choice_graph.specs.declared.vertices.Vertex.{Vertex}
use Rattle.choice_graph.specs.declared.vertices.FirstMove.{FirstMove}
use Rattle.choice_graph.specs.declared.vertices.Found.{Found}
use Rattle.choice_graph.specs.GraphWalks.{vertex_of, vertex_at}
use Rattle.choice_graph.specs.FoundInGraphs.{found_over, found_by, found_in, found_at, found_from}
use Rattle.choice_graph.specs.VertexTables.{known_at, IsSound, AreFound, AreLow, IsSettledAt, unknown, Adds}
use Rattle.choice_graph.proofs.GraphOptions.{some_same, none_some, option_same}
use Rattle.choice_graph.proofs.GraphJoins.{over_taken, by_grows}
use Rattle.choice_graph.proofs.GraphDepths.{fewer, found_deep, found_fixed}

-- ---- one entry

known_set_same : (table : List (Option Found)) (v : ℕ) (o : Option Found) → v < length table → known_at (set table v o) v ≡ o
known_set_same [] v o l = absurd (omega arith)
known_set_same (p ∷ table) zero o l = refl
known_set_same (p ∷ table) (suc v) o l = known_set_same table v o (omega arith)

known_set_other : (table : List (Option Found)) (v w : ℕ) (o : Option Found) → w ≢ v → known_at (set table v o) w ≡ known_at table w
known_set_other [] v w o ne = refl
known_set_other (p ∷ table) zero zero o ne = absurd (ne refl)
known_set_other (p ∷ table) zero (suc w) o ne = refl
known_set_other (p ∷ table) (suc v) zero o ne = refl
known_set_other (p ∷ table) (suc v) (suc w) o ne = known_set_other table v w o (λ e. ne (ap (λ (k : ℕ). suc k) e))

unknown_set : (table : List (Option Found)) (v : ℕ) (f : Found) → v < length table → known_at table v ≡ None
    → unknown table ≡ suc (unknown (set table v (Some f)))
unknown_set [] v f l e = absurd (omega arith)
unknown_set (None ∷ table) zero f l e = refl
unknown_set (Some g ∷ table) zero f l e = absurd (none_some g (sym e))
unknown_set (None ∷ table) (suc v) f l e = ap (λ (k : ℕ). suc k) (unknown_set table v f (omega arith) e)
unknown_set (Some g ∷ table) (suc v) f l e = unknown_set table v f (omega arith) e

known_none : (n v : ℕ) (f : Found) → known_at (replicate n None) v ≡ Some f → ⊥
known_none zero v f e = none_some f e
known_none (suc n) zero f e = none_some f e
known_none (suc n) (suc v) f e = known_none n v f e

-- ---- tables of a graph

pub over_low : (table : List (Option Found)) (set : List ℕ) (f : Found) → AreLow table → found_over (known_at table) set ≡ Some f
    → f.most < 4294967295
over_low table set f low e = let t = over_taken (known_at table) set f e in low (slice_index set t.place) f t.here

module _ (vertices : List Vertex) where
  pub sound_low : (table : List (Option Found)) → length vertices < 4294967296 → IsSound vertices table → AreLow table
  sound_low table few sound v f e = let l = fewer vertices (length vertices) v f (sound v f e) in omega arith

  pub nothing_sound : (n : ℕ) → IsSound vertices (replicate n None)
  nothing_sound n v f e = absurd (known_none n v f e)

  pub settled_past : (table : List (Option Found)) (v : ℕ) → length vertices ≤ v → IsSettledAt vertices table v
  settled_past table v h none = ap (found_by true (known_at table)) (ap vertex_of (slice_get_past vertices v h))

  pub adds_one : (table : List (Option Found)) (v : ℕ) (f : Found) → IsSound vertices table → v < length table
      → known_at table v ≡ None → found_by true (known_at table) (vertex_at vertices v) ≡ Some f
      → Adds vertices table (set table v (Some f)) true
  adds_one table v f sound inside none e =
      let u = unknown_set table v f inside none in
      record { sound = sound_one; long = length-set table v (Some f); nothing = λ e. absurd (cc); fewer = λ t. omega arith }
    where
      found : found_at vertices v ≡ Some f
      found = sym (found_fixed vertices v) ∙ by_grows (known_at table) (found_at vertices) sound true (vertex_at vertices v) f e

      sound_one : IsSound vertices (set table v (Some f))
      sound_one w g is = by_place (cases_eq w v)
        where
          by_place : (w ≡ v) ⊎ (w ≢ v) → found_at vertices w ≡ Some g
          by_place (inr ne) = sound w g (sym (known_set_other table v w (Some f) ne) ∙ is)
          by_place (inl same) =
              let at : known_at (set table v (Some f)) v ≡ Some g = ap (known_at (set table v (Some f))) (sym same) ∙ is in
              ap (found_at vertices) same ∙ found ∙ sym (known_set_same table v (Some f) inside) ∙ at

  -- all vertices below a number are settled, if nothing was added so far
  pub record Settles (old now : List (Option Found)) (added : Bool) (upto : ℕ) : Type 0 where
    pub adds : Adds vertices old now added
    pub settled : added ≡ false → (v : ℕ) → v < upto → IsSettledAt vertices old v

  -- a table to which nothing can be added has all that is found
  pub settled_found : (table : List (Option Found)) → length table ≡ length vertices → IsSound vertices table
      → ((v : ℕ) → v < length vertices → IsSettledAt vertices table v) → AreFound vertices table
  settled_found table long sound settled =
      record { one_each = long; found = λ v. option_same (known_at table v) (found_at vertices v) (sound v) (known (length vertices) v) }
    where
      settled_at : (v : ℕ) → IsSettledAt vertices table v
      settled_at v = by_place (cases_lt v (length vertices))
        where
          by_place : (v < length vertices) ⊎ (length vertices ≤ v) → IsSettledAt vertices table v
          by_place (inl less) = settled v less
          by_place (inr more) = settled_past table v more

      by_known : (depth v : ℕ) (f : Found) → ((w : ℕ) (g : Found) → found_in vertices depth w ≡ Some g → known_at table w ≡ Some g)
          → found_in vertices (suc depth) v ≡ Some f → (o : Option Found) → known_at table v ≡ o → known_at table v ≡ Some f
      by_known depth v f less e (Some g) is =
          let same : g ≡ f = some_same g f (sym (sound v g is) ∙ found_deep vertices (suc depth) v f e) in
          is ∙ ap (λ (x : Found). Some x) same
      by_known depth v f less e None is =
          absurd (none_some f (sym (settled_at v is) ∙ by_grows (found_in vertices depth) (known_at table) less true (vertex_at vertices v) f e))

      known : (depth v : ℕ) (f : Found) → found_in vertices depth v ≡ Some f → known_at table v ≡ Some f
      known zero v f e = absurd (none_some f e)
      known (suc depth) v f e = by_known depth v f (known depth) e (known_at table v) refl

  pub start_found : (table : List (Option Found)) (start : FirstMove) → AreFound vertices table
      → found_by start.lowers (known_at table) start.vertex ≡ found_from vertices start
  start_found table start are =
      option_same (found_by start.lowers (known_at table) start.vertex) (found_from vertices start)
      (by_grows (known_at table) (found_at vertices) (λ w g e. sym (are.found w) ∙ e) start.lowers start.vertex)
      (by_grows (found_at vertices) (known_at table) (λ w g e. are.found w ∙ e) start.lowers start.vertex)

  pub found_low : (table : List (Option Found)) → length vertices < 4294967296 → AreFound vertices table → AreLow table
  found_low table few are = sound_low table few (λ v f e. sym (are.found v) ∙ e)

-- ---- what the code reads

pub vertex_read : (vertices : List Vertex) (v : ℕ) (vertex : Vertex) → v < length vertices → vertex ≡ get_or vertices v vertex → vertex_at vertices v ≡ vertex
vertex_read vertices v vertex l e = ap vertex_of (slice_get_read vertices (length vertices) v vertex refl l e)

pub none_is : (o : Option Found) → is_some o ≡ false → o ≡ None
none_is None h = refl
none_is (Some f) h = absurd (cc)
