-- A text parted at its line feeds: its lines, and what stands after them.
use Rattle.std.proofs.Common.{◌≡◌, ℕ, ◌+◌, ◌≤◌, Bool, true, false, List, [], ◌∷◌, ◌++◌, length, Bor, Option, Some, None, refl, sym, ap, ◌∙◌, arith}
use Rattle.std.specs.Prelude.{if◌then◌else◌, ◌&&◌, ◌==◌}
use Rattle.std.proofs.lemmas.List.{length-append, length-map}
use Rattle.std.proofs.lemmas.List.Splits.{length-slice_split}
use Rattle.std.proofs.lemmas.List.Sums.{count_by-le-length}
use Rattle.net_model.specs.Network.{Network}
use Rattle.net_model.specs.declared.limits.TheConstants.{MAX_TEXT_BYTES}
use Rattle.trace_replay.specs.declared.trace_reading.Phase.{Phase}
use Rattle.trace_replay.specs.declared.trace_reading.Phase.TheVariants as phases
use Rattle.trace_replay.specs.TraceReading.{bad_by, bad_from, bad_line, but_last, is_over, last_of, lines_of, phase_behind, pieces_of, rest_of}
use Rattle.trace_replay.specs.TraceReadingTerms.{IsTrace}
use Rattle.trace_replay.proofs.WordLemmas.{texts_of}

pub but_last_append : (lines : List (List ℕ)) (rest : List ℕ) → but_last (lines ++ rest ∷ []) ≡ lines
but_last_append [] rest = refl
but_last_append (line ∷ []) rest = refl
but_last_append (line ∷ next ∷ more) rest = ap (λ (xs : List (List ℕ)). line ∷ xs) (but_last_append (next ∷ more) rest)

pub last_append : (lines : List (List ℕ)) (rest : List ℕ) → last_of (lines ++ rest ∷ []) ≡ rest
last_append [] rest = refl
last_append (line ∷ []) rest = refl
last_append (line ∷ next ∷ more) rest = last_append (next ∷ more) rest

texts_append : (lines : List (Bor (List ℕ))) (rest : Bor (List ℕ)) → texts_of (lines ++ rest ∷ []) ≡ texts_of lines ++ rest.now ∷ []
texts_append [] rest = refl
texts_append (line ∷ more) rest = ap (λ (xs : List (List ℕ)). line.now ∷ xs) (texts_append more rest)

-- lines that are good are so too where nothing stands after them

end_good : (over : Bool) (n len : ℕ) → (if over && (len == 0) then None else Some n) ≡ None
    → (if over && (0 == 0) then None else Some n) ≡ None
end_good true n len h = refl
end_good false n len h = h

next_good : (n : ℕ) (one other : Phase → Option ℕ) (o : Option Phase) → ((p : Phase) → one p ≡ None → other p ≡ None)
    → bad_by n one o ≡ None → bad_by n other o ≡ None
next_good n one other None on h = h
next_good n one other (Some p) on h = on p h

good_alone : (net : Network) (phase : Phase) (n : ℕ) (rest : List ℕ) (lines : List (List ℕ)) → bad_from net phase n rest lines ≡ None
    → bad_from net phase n [] lines ≡ None
good_alone net phase n rest [] h = end_good (is_over phase) n (length rest) h
good_alone net phase n rest (line ∷ more) h =
    next_good n _ _ (phase_behind net phase line) (λ p. good_alone net p (n + 1) rest more) h

module _ (net : Network) (text : List ℕ) (pieces lines : List (Bor (List ℕ))) (rest : Bor (List ℕ))
    (parted : texts_of pieces ≡ pieces_of text) (split : pieces ≡ lines ++ rest ∷ []) where
  same_pieces : pieces_of text ≡ texts_of lines ++ rest.now ∷ []
  same_pieces = sym parted ∙ (ap texts_of split ∙ texts_append lines rest)

  same_lines : lines_of text ≡ texts_of lines
  same_lines = ap but_last same_pieces ∙ but_last_append (texts_of lines) rest.now

  same_rest : rest_of text ≡ rest.now
  same_rest = ap last_of same_pieces ∙ last_append (texts_of lines) rest.now

  same_bad : bad_line net text ≡ bad_from net phases.Begins 1 rest.now (texts_of lines)
  same_bad =
      ap (λ (xs : List (List ℕ)). bad_from net phases.Begins 1 (rest_of text) xs) same_lines
      ∙ ap (λ (xs : List ℕ). bad_from net phases.Begins 1 xs (texts_of lines)) same_rest

  pub few_lines : length lines ≤ length text
  few_lines =
      let all : length (pieces_of text) ≡ length (texts_of lines) + 1 =
      ap length same_pieces ∙ length-append (texts_of lines) (rest.now ∷ []) in
      let each : length (texts_of lines) ≡ length lines = length-map lines (λ word. word.now) in
      let parts = length-slice_split (λ byte. byte == 10) text in
      let feeds = count_by-le-length (λ byte. byte == 10) text in
      omega (arith, all, each, parts, feeds)

  pub read_bad : (n : ℕ) → bad_from net phases.Begins 1 rest.now (texts_of lines) ≡ Some n → bad_line net text ≡ Some n
  read_bad n h = same_bad ∙ h

  pub read_good : (copies : List (List ℕ)) → length text ≤ MAX_TEXT_BYTES
      → bad_from net phases.Begins 1 rest.now (texts_of lines) ≡ None → copies ≡ texts_of lines
      → (bad_line net text ≡ None) × (copies ≡ lines_of text) × IsTrace net copies
  read_good copies short h same =
      let each : length (texts_of lines) ≡ length lines = length-map lines (λ word. word.now) in
      let count : length copies ≡ length lines = ap length same ∙ each in
      let few = few_lines in (
        same_bad ∙ h,
        same ∙ sym same_lines,
        record {
          good = ap (bad_from net phases.Begins 1 []) same ∙ good_alone net phases.Begins 1 rest.now (texts_of lines) h;
          few = omega (arith, count, few, short);
        },
      )
