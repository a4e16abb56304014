-- A piece that is fed line by line.
use Rattle.std.proofs.Common.{◌≡◌, ℕ, ◌+◌, List, [], ◌∷◌, ◌++◌, take, drop, Option, None, Some, refl, sym, ap, subst, ◌∙◌, append_assoc, append-nil, add-one, inl}
use Rattle.line_talk.specs.Lines.{whole_lines_from, last_line_from}
use Rattle.line_talk.specs.Replies.{Rules}
use Rattle.line_talk.specs.Talk.{Talk}
use Rattle.line_talk.specs.TalkTerms.{Keeps, IsLineEnd, Goes, Stops}
use Rattle.line_talk.specs.declared.stop.Stop.{Stop}
use Rattle.line_talk.specs.declared.stop.Stop.TheVariants.{NoMemory}
use Rattle.line_talk.proofs.Ends.{whole_none, whole_some}
use Rattle.line_talk.proofs.Steps.{goes_none, goes_on, goes_stops, stops_within, stops_wanting}

-- of a piece behind a line the first lines are answered, and the next begins so
pub record Fed {State : Type 0} (rules : Rules State) (line piece rest : List ℕ) (kept : Option (List ℕ)) (s0 s1 : State) (w0 w1 : List ℕ)
    (t0 t1 : Option Talk) : Type 0 where
  pub here : List ℕ
  pub done : List (List ℕ)
  pub keeps : Keeps here kept
  pub whole : whole_lines_from line piece ≡ done ++ whole_lines_from here rest
  pub last : last_line_from line piece ≡ last_line_from here rest
  pub goes : Goes rules done s0 s1 w0 w1 t0 t1

pub fed_none : {State : Type 0} (rules : Rules State) (line piece : List ℕ) (kept : Option (List ℕ)) (s : State) (w : List ℕ) (t : Option Talk)
    → Keeps line kept → Fed rules line piece piece kept s s w w t t
fed_none rules line piece kept s w t keeps = record { here = line; done = []; keeps = keeps; whole = refl; last = refl; goes = goes_none rules s w t }

-- what a line's end says of the rest
ends_whole : (here rest : List ℕ) (at : ℕ) → IsLineEnd rest (Some at)
    → (whole_lines_from here rest ≡ (here ++ take at rest) ∷ whole_lines_from [] (drop (at + 1) rest))
    × (last_line_from here rest ≡ last_line_from [] (drop (at + 1) rest))
ends_whole here rest at ends =
    let both = whole_some here rest at ends.0 ends.1 ends.2 in
    subst (λ n. (whole_lines_from here rest ≡ (here ++ take at rest) ∷ whole_lines_from [] (drop n rest)) × (last_line_from here rest ≡ last_line_from [] (drop n rest))) (sym (add-one at)) both

pub fed_more : {State : Type 0} (rules : Rules State) (line piece rest next : List ℕ) (at : ℕ) (k1 k2 : Option (List ℕ)) (s0 s1 s2 : State) (w0 w1 w2 : List ℕ)
    (t0 t1 t2 : Option Talk) → IsLineEnd rest (Some at) → (f : Fed rules line piece rest k1 s0 s1 w0 w1 t0 t1)
    → Goes rules ((f.here ++ take at rest) ∷ []) s1 s2 w1 w2 t1 t2 → Keeps [] k2 → next ≡ drop (at + 1) rest
    → Fed rules line piece next k2 s0 s2 w0 w2 t0 t2
fed_more rules line piece rest next at k1 k2 s0 s1 s2 w0 w1 w2 t0 t1 t2 ends f goes keeps e =
    let both = ends_whole f.here rest at ends in
    record {
      here = [];
      done = f.done ++ (f.here ++ take at rest) ∷ [];
      keeps = keeps;
      whole = f.whole ∙ ap (λ (l : List (List ℕ)). f.done ++ l) both.0
          ∙ sym (append_assoc f.done ((f.here ++ take at rest) ∷ []) (whole_lines_from [] (drop (at + 1) rest)))
          ∙ ap (λ (l : List ℕ). (f.done ++ (f.here ++ take at rest) ∷ []) ++ whole_lines_from [] l) (sym e);
      last = f.last ∙ both.1 ∙ ap (last_line_from []) (sym e);
      goes = goes_on rules f.done ((f.here ++ take at rest) ∷ []) s0 s1 s2 w0 w1 w2 t0 t1 t2 f.goes goes;
    }

pub fed_stops : {State : Type 0} (rules : Rules State) (stop : Stop) (line piece rest : List ℕ) (at : ℕ) (k1 : Option (List ℕ)) (s0 s1 s2 : State) (w0 w1 : List ℕ)
    (t0 t1 t2 : Option Talk) → IsLineEnd rest (Some at) → (f : Fed rules line piece rest k1 s0 s1 w0 w1 t0 t1)
    → Stops rules stop ((f.here ++ take at rest) ∷ []) s1 s2 w1 t1 t2
    → Stops rules stop (whole_lines_from line piece) s0 s2 w0 t0 t2
fed_stops rules stop line piece rest at k1 s0 s1 s2 w0 w1 t0 t1 t2 ends f stops =
    let both = ends_whole f.here rest at ends in
    subst (λ (l : List (List ℕ)). Stops rules stop l s0 s2 w0 t0 t2) (sym (f.whole ∙ ap (λ (l : List (List ℕ)). f.done ++ l) both.0))
    (goes_stops rules stop f.done ((f.here ++ take at rest) ∷ whole_lines_from [] (drop (at + 1) rest)) s0 s1 s2 w0 w1 t0 t1 t2 f.goes
    (stops_within rules stop ((f.here ++ take at rest) ∷ []) (whole_lines_from [] (drop (at + 1) rest)) s1 s2 w1 t1 t2 stops))

-- no line ends in the rest
fed_none_left : (done : List (List ℕ)) (whole here rest : List ℕ) (lines : List (List ℕ)) → IsLineEnd rest None → lines ≡ done ++ whole_lines_from here rest → done ≡ lines
fed_none_left done whole here rest lines none e =
    sym (e ∙ ap (λ (l : List (List ℕ)). done ++ l) ((whole_none here rest none).0) ∙ append-nil done)

pub fed_all : {State : Type 0} (rules : Rules State) (line piece rest : List ℕ) (kept : Option (List ℕ)) (s0 s1 : State) (w0 w1 : List ℕ)
    (t0 t1 : Option Talk) → IsLineEnd rest None → Fed rules line piece rest kept s0 s1 w0 w1 t0 t1
    → Goes rules (whole_lines_from line piece) s0 s1 w0 w1 t0 t1
fed_all rules line piece rest kept s0 s1 w0 w1 t0 t1 none f =
    subst (λ (l : List (List ℕ)). Goes rules l s0 s1 w0 w1 t0 t1) (fed_none_left f.done line f.here rest (whole_lines_from line piece) none f.whole) f.goes

pub fed_last : {State : Type 0} (rules : Rules State) (line piece rest : List ℕ) (kept : Option (List ℕ)) (s0 s1 : State) (w0 w1 : List ℕ)
    (t0 t1 : Option Talk) → IsLineEnd rest None → (f : Fed rules line piece rest kept s0 s1 w0 w1 t0 t1)
    → last_line_from line piece ≡ f.here ++ rest
fed_last rules line piece rest kept s0 s1 w0 w1 t0 t1 none f = f.last ∙ (whole_none f.here rest none).1

pub fed_wanting : {State : Type 0} (rules : Rules State) (line piece rest : List ℕ) (kept : Option (List ℕ)) (s0 s1 : State) (w0 w1 : List ℕ)
    (t0 t1 : Option Talk) → IsLineEnd rest None → Fed rules line piece rest kept s0 s1 w0 w1 t0 t1
    → Stops rules NoMemory (whole_lines_from line piece) s0 s1 w0 t0 t1
fed_wanting rules line piece rest kept s0 s1 w0 w1 t0 t1 none f =
    subst (λ (l : List (List ℕ)). Stops rules NoMemory l s0 s1 w0 t0 t1) (append-nil f.done ∙ fed_none_left f.done line f.here rest (whole_lines_from line piece) none f.whole)
    (goes_stops rules NoMemory f.done [] s0 s1 s1 w0 w1 t0 t1 t1 f.goes (stops_wanting rules [] s1 s1 w1 t1 (inl refl)))
