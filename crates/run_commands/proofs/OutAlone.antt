-- Pieces for `out` alone that went out in groups went out as bytes of one sink.
use Rattle.std.proofs.Common.{◌≡◌, ℕ, List, [], ◌∷◌, ◌++◌, Option, None, Some, refl, sym, ap, ap₂, ◌∙◌, append-nil, append_assoc, subst}
use Rattle.std.specs.List.{flat_map}
use Rattle.std.proofs.lemmas.List.{map-append}
use Rattle.pcap_io.specs.declared.frame.Frame.{Frame}
use Rattle.srx_edge.specs.Sinks.{sent}
use Rattle.srx_edge.specs.CallSteps.{Ending, Whole, Fault, Memory, How}
use Rattle.srx_edge.specs.CallStepsTerms.{ending_by as ending_by_how, left_by as left_by_how, IsStopAt, Cut as CutBytes, Wrote}
use Rattle.srx_edge.proofs.PublicLaws.{sent_sent}
use Rattle.command_output.specs.Gathered.{gathered, InGroups}
use Rattle.command_output.specs.GatheredTerms.{Goes, Pooled, WroteInGroups}
use Rattle.command_output.specs.OutputPieces.{Piece, ForOut, ForErr, Which, ToOut, ToErr, Sinks, IsNextFor, bytes_in_order, bytes_for_out, bytes_for_err, gone, left_by}
use Rattle.command_output.specs.OutputPiecesTerms.{stop_at}
use Rattle.command_output.proofs.PublicLaws.{bytes_in_order_append, goes_same, marked}

-- the bytes in order that are for `out`

abbrev for_out : Which → ℕ → List ℕ → List ℕ
for_out ToOut byte more = byte ∷ more
for_out ToErr byte more = more

abbrev outs : List (Which × ℕ) → List ℕ
outs [] = []
outs (b ∷ more) = for_out b.0 b.1 (outs more)

for_out_append : (has : Which) (byte : ℕ) (xs ys : List ℕ) → for_out has byte (xs ++ ys) ≡ for_out has byte xs ++ ys
for_out_append ToOut byte xs ys = refl
for_out_append ToErr byte xs ys = refl

outs_append : (first more : List (Which × ℕ)) → outs (first ++ more) ≡ outs first ++ outs more
outs_append [] more = refl
outs_append (b ∷ first) more = ap (for_out b.0 b.1) (outs_append first more) ∙ for_out_append b.0 b.1 (outs first) (outs more)

outs_own : (bytes : List ℕ) → outs (marked ToOut bytes) ≡ bytes
outs_own [] = refl
outs_own (b ∷ bytes) = ap (λ (rest : List ℕ). b ∷ rest) (outs_own bytes)

outs_none : (bytes : List ℕ) → outs (marked ToErr bytes) ≡ []
outs_none [] = refl
outs_none (b ∷ bytes) = outs_none bytes

outs_pieces : (pieces : List Piece) → outs (bytes_in_order pieces) ≡ bytes_for_out pieces
outs_pieces [] = refl
outs_pieces (ForOut bytes ∷ more) = outs_append (marked ToOut bytes) (bytes_in_order more)
    ∙ ap₂ (λ (a b : List ℕ). a ++ b) (outs_own bytes) (outs_pieces more)
outs_pieces (ForErr bytes ∷ more) = outs_append (marked ToErr bytes) (bytes_in_order more)
    ∙ ap₂ (λ (a b : List ℕ). a ++ b) (outs_none bytes) (outs_pieces more)

-- `out` once pieces have gone out
gone_out : (pieces : List Piece) (sinks : Sinks) → (gone pieces sinks).out ≡ sent (bytes_for_out pieces) sinks.out
gone_out [] sinks = refl
gone_out (ForOut bytes ∷ more) sinks =
    gone_out more (record sinks { out = sent bytes sinks.out }) ∙ sent_sent (bytes_for_out more) bytes sinks.out
gone_out (ForErr bytes ∷ more) sinks = gone_out more (record sinks { err = sent bytes sinks.err })

-- none of the bytes is for `err`

abbrev AreOut : List (Which × ℕ) → Type 0
AreOut [] = Unit {0}
AreOut (b ∷ more) = (b.0 ≡ ToOut) × AreOut more

are_own : (bytes : List ℕ) → AreOut (marked ToOut bytes)
are_own [] = tt
are_own (b ∷ bytes) = (refl, are_own bytes)

are_first : (first more : List (Which × ℕ)) → AreOut (first ++ more) → AreOut first
are_first [] more h = tt
are_first (b ∷ first) more h = (h.0, are_first first more h.1)

are_more : (first more : List (Which × ℕ)) → AreOut (first ++ more) → AreOut more
are_more [] more h = h
are_more (b ∷ first) more h = are_more first more h.1

no_errs : (bytes : List ℕ) → AreOut (marked ToErr bytes) → bytes ≡ []
no_errs [] h = refl
no_errs (b ∷ bytes) h = let e = h.0 in cc

-- so a group goes out as its bytes are

err_group : (group : List Piece) → AreOut (bytes_in_order group) → bytes_for_err group ≡ []
err_group [] h = refl
err_group (ForOut bytes ∷ more) h = err_group more (are_more (marked ToOut bytes) (bytes_in_order more) h)
err_group (ForErr bytes ∷ more) h =
    ap₂ (λ (a b : List ℕ). a ++ b) (no_errs bytes (are_first (marked ToErr bytes) (bytes_in_order more) h))
    (err_group more (are_more (marked ToErr bytes) (bytes_in_order more) h))

out_group : (group : List Piece) → AreOut (bytes_in_order group) → marked ToOut (bytes_for_out group) ≡ bytes_in_order group
out_group [] h = refl
out_group (ForOut bytes ∷ more) h =
    map-append (λ byte. (ToOut, byte)) bytes (bytes_for_out more)
    ∙ ap (λ (b : List (Which × ℕ)). marked ToOut bytes ++ b)
    (out_group more (are_more (marked ToOut bytes) (bytes_in_order more) h))
out_group (ForErr bytes ∷ more) h =
    out_group more (are_more (marked ToErr bytes) (bytes_in_order more) h)
    ∙ ap (λ (b : List ℕ). marked ToErr b ++ bytes_in_order more)
    (sym (no_errs bytes (are_first (marked ToErr bytes) (bytes_in_order more) h)))

group_same : (group : List Piece) → AreOut (bytes_in_order group) → bytes_in_order (gathered group) ≡ bytes_in_order group
group_same group h =
    ap (λ (b : List ℕ). marked ToOut (bytes_for_out group) ++ (marked ToErr b ++ [])) (err_group group h)
    ∙ (append-nil (marked ToOut (bytes_for_out group)) ∙ out_group group h)

groups_same : (groups : List (List Piece)) → AreOut (flat_map bytes_in_order groups)
    → bytes_in_order (flat_map gathered groups) ≡ flat_map bytes_in_order groups
groups_same [] h = refl
groups_same (group ∷ groups) h =
    bytes_in_order_append (gathered group) (flat_map gathered groups)
    ∙ ap₂ (λ (a b : List (Which × ℕ)). a ++ b)
    (group_same group (are_first (bytes_in_order group) (flat_map bytes_in_order groups) h))
    (groups_same groups (are_more (bytes_in_order group) (flat_map bytes_in_order groups) h))

-- bytes for `out` alone, of which a front went out in groups

module _ (bytes : List ℕ) (old new : Sinks) where
  abbrev piece : List Piece
  piece = ForOut bytes ∷ []

  in_order : bytes_in_order piece ≡ marked ToOut bytes
  in_order = append-nil (marked ToOut bytes)

  are_out : AreOut (bytes_in_order piece)
  are_out = subst AreOut (sym in_order) (are_own bytes)

  module _ (groups : List (List Piece)) (same : flat_map bytes_in_order groups ≡ bytes_in_order piece) where
    all_same : bytes_in_order (flat_map gathered groups) ≡ bytes_in_order piece
    all_same = groups_same groups (subst AreOut (sym same) are_out) ∙ same

    module _ (front : List Piece) (rest : List (Which × ℕ))
        (whole : bytes_in_order front ++ rest ≡ bytes_in_order (flat_map gathered groups)) where
      parts : bytes_for_out front ++ outs rest ≡ bytes
      parts = ap (λ (b : List ℕ). b ++ outs rest) (sym (outs_pieces front))
          ∙ (sym (outs_append (bytes_in_order front) rest) ∙ (ap outs (whole ∙ (all_same ∙ in_order)) ∙ outs_own bytes))

      rest_out : AreOut rest
      rest_out = are_more (bytes_in_order front) rest (subst AreOut (sym (whole ∙ all_same)) are_out)

      cut_elsewhere : new ≡ gone front old → CutBytes Memory bytes old.out new.out
      cut_elsewhere went = record {
        how = None;
        ends = refl;
        first = bytes_for_out front;
        rest = outs rest;
        whole = parts;
        at = tt;
        seen = ap (λ (s : Sinks). s.out) went ∙ gone_out front old;
      }

      cut_out : (ending : Ending) (how : How) → ending_by_how (Some how) ≡ ending → IsStopAt (Some how) (outs rest)
          → new ≡ left_by ToOut how (gone front old) → CutBytes ending bytes old.out new.out
      cut_out ending how ends at went = record {
        how = Some how;
        ends = ends;
        first = bytes_for_out front;
        rest = outs rest;
        whole = parts;
        at = at;
        seen = ap (λ (s : Sinks). s.out) went ∙ ap (left_by_how (Some how)) (gone_out front old);
      }

  stop_out : (how : How) (rest : List (Which × ℕ)) → IsNextFor ToOut rest → IsStopAt (Some how) (outs rest)
  stop_out how [] next = absurd next
  stop_out how (b ∷ rest) next = stopped b.0 b.1 next
    where
      stopped : (has : Which) (byte : ℕ) → has ≡ ToOut → IsStopAt (Some how) (for_out has byte (outs rest))
      stopped ToOut byte is = tt
      stopped ToErr byte is = cc

  never_err : (rest : List (Which × ℕ)) → AreOut rest → IsNextFor ToErr rest → ⊥
  never_err [] out next = next
  never_err (b ∷ rest) out next = let o = out.0 in cc

  stopped_out : (ending : Ending) (sink : Which) (how : Option How) → ending_by_how how ≡ ending
      → InGroups (stop_at sink how) piece old new → CutBytes ending bytes old.out new.out
  stopped_out ending sink None ends g =
      subst (λ (e : Ending). CutBytes e bytes old.out new.out) ends
      (cut_elsewhere g.groups g.same g.went.first g.went.rest g.went.whole g.went.sinks)
  stopped_out ending ToOut (Some how) ends g =
      cut_out g.groups g.same g.went.first g.went.rest g.went.whole ending how ends (stop_out how g.went.rest g.went.next) g.went.sinks
  stopped_out ending ToErr (Some how) ends g =
      absurd (never_err g.went.rest (rest_out g.groups g.same g.went.first g.went.rest g.went.whole) g.went.next)

  pub out_alone : (ending : Ending) → WroteInGroups ending piece old new → Wrote ending bytes old.out new.out
  out_alone Whole h = ap (λ (s : Sinks). s.out) h
  out_alone Fault h = stopped_out Fault h.sink h.how h.ends h.went
  out_alone Memory h = stopped_out Memory h.sink h.how h.ends h.went

-- the pieces of frames for `out`, one after the other

outs_same : (f : Frame → List ℕ) (frames : List Frame)
    → bytes_in_order (flat_map (λ (frame : Frame). ForOut (f frame) ∷ []) frames) ≡ bytes_in_order (ForOut (flat_map f frames) ∷ [])
outs_same f [] = refl
outs_same f (frame ∷ frames) =
    ap (λ (b : List (Which × ℕ)). marked ToOut (f frame) ++ b) (outs_same f frames)
    ∙ (sym (append_assoc (marked ToOut (f frame)) (marked ToOut (flat_map f frames)) [])
    ∙ ap (λ (b : List (Which × ℕ)). b ++ []) (sym (map-append (λ byte. (ToOut, byte)) (f frame) (flat_map f frames))))

pub outs_went : (f : Frame → List ℕ) (frames : List Frame) (ending : Ending) (old new : Pooled)
    → Goes ending (flat_map (λ (frame : Frame). ForOut (f frame) ∷ []) frames) old new
    → Goes ending (ForOut (flat_map f frames) ∷ []) old new
outs_went f frames ending old new goes =
    goes_same ending (flat_map (λ (frame : Frame). ForOut (f frame) ∷ []) frames) (ForOut (flat_map f frames) ∷ []) old new
    (outs_same f frames) goes
