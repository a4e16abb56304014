-- Pieces that go out one after the other, and a step on one of the sinks among them.
use Rattle.std.proofs.Common.{◌≡◌, ℕ, List, [], ◌∷◌, ◌++◌, map, Option, None, Some, refl, sym, ap, ◌∙◌, append_assoc}
use Rattle.std.proofs.lemmas.Grind.{flat_map-append}
use Rattle.std.proofs.lemmas.List.{map-append, append-nil}
use Rattle.srx_edge.specs.Sinks.{SinkSeen, sent}
use Rattle.srx_edge.specs.CallSteps.{Ending, How, stopped_by}
use Rattle.srx_edge.specs.CallStepsTerms.{ending_by as ending_by_how, left_by as left_by_how, IsStopAt, Cut as CutBytes}
use Rattle.command_output.specs.OutputPieces.{Piece, ForOut, ForErr, Which, ToOut, ToErr, Sinks, gone, bytes_of_piece, bytes_in_order, ending_by, left_by, Went}
use Rattle.command_output.specs.OutputPiecesTerms.{stop_at}

pub gone_append : (first more : List Piece) (sinks : Sinks) → gone (first ++ more) sinks ≡ gone more (gone first sinks)
gone_append [] more sinks = refl
gone_append (ForOut bytes ∷ first) more sinks = gone_append first more (record sinks { out = sent bytes sinks.out })
gone_append (ForErr bytes ∷ first) more sinks = gone_append first more (record sinks { err = sent bytes sinks.err })

pub bytes_in_order_append : (first more : List Piece) → bytes_in_order (first ++ more) ≡ bytes_in_order first ++ bytes_in_order more
bytes_in_order_append first more = flat_map-append bytes_of_piece first more

-- a piece for a sink, what is seen of it, and the sinks with another

abbrev pub piece_for : Which → List ℕ → Piece
piece_for ToOut bytes = ForOut bytes
piece_for ToErr bytes = ForErr bytes

abbrev pub seen_of : Which → Sinks → SinkSeen
seen_of ToOut sinks = sinks.out
seen_of ToErr sinks = sinks.err

abbrev pub with_seen : Which → SinkSeen → Sinks → Sinks
with_seen ToOut seen sinks = record sinks { out = seen }
with_seen ToErr seen sinks = record sinks { err = seen }

abbrev pub marked : Which → List ℕ → List (Which × ℕ)
marked sink bytes = map (λ byte. (sink, byte)) bytes

pub ending_by_stop_at : (sink : Which) (how : Option How) → ending_by (stop_at sink how) ≡ ending_by_how how
ending_by_stop_at sink None = refl
ending_by_stop_at sink (Some how) = refl

bytes_piece : (sink : Which) (bytes : List ℕ) (more : List Piece)
    → bytes_in_order (piece_for sink bytes ∷ more) ≡ marked sink bytes ++ bytes_in_order more
bytes_piece ToOut bytes more = refl
bytes_piece ToErr bytes more = refl

gone_piece : (sink : Which) (bytes : List ℕ) (sinks : Sinks)
    → gone (piece_for sink bytes ∷ []) sinks ≡ with_seen sink (sent bytes (seen_of sink sinks)) sinks
gone_piece ToOut bytes sinks = refl
gone_piece ToErr bytes sinks = refl

left_by_with_seen : (sink : Which) (how : How) (seen : SinkSeen) (sinks : Sinks)
    → left_by sink how (with_seen sink seen sinks) ≡ with_seen sink (stopped_by how seen) sinks
left_by_with_seen ToOut how seen sinks = refl
left_by_with_seen ToErr how seen sinks = refl

-- the pieces before went out, and the first bytes of one more
gone_front : (sink : Which) (before : List Piece) (first : List ℕ) (old mid : Sinks) → mid ≡ gone before old
    → with_seen sink (sent first (seen_of sink mid)) mid ≡ gone (before ++ piece_for sink first ∷ []) old
gone_front sink before first old mid went =
    sym (gone_piece sink first mid)
    ∙ (ap (gone (piece_for sink first ∷ [])) went ∙ sym (gone_append before (piece_for sink first ∷ []) old))

-- of one piece among others only the first bytes went out
bytes_cut : (sink : Which) (before more : List Piece) (bytes first rest : List ℕ) → first ++ rest ≡ bytes
    → bytes_in_order (before ++ piece_for sink first ∷ []) ++ (marked sink rest ++ bytes_in_order more)
    ≡ bytes_in_order (before ++ piece_for sink bytes ∷ more)
bytes_cut sink before more bytes first rest whole =
    let front : bytes_in_order (before ++ piece_for sink first ∷ []) ≡ bytes_in_order before ++ (marked sink first ++ []) =
    bytes_in_order_append before (piece_for sink first ∷ [])
    ∙ ap (λ (b : List (Which × ℕ)). bytes_in_order before ++ b) (bytes_piece sink first []) in
    let all : bytes_in_order (before ++ piece_for sink bytes ∷ more) ≡ bytes_in_order before ++ (marked sink bytes ++ bytes_in_order more) =
    bytes_in_order_append before (piece_for sink bytes ∷ more)
    ∙ ap (λ (b : List (Which × ℕ)). bytes_in_order before ++ b) (bytes_piece sink bytes more) in
    let parts : marked sink bytes ≡ marked sink first ++ marked sink rest =
    ap (marked sink) (sym whole) ∙ map-append (λ byte. (sink, byte)) first rest in
    rw (front, all, parts, append-nil) (simp append_assoc)

-- a step on a sink ended early, once the pieces before had gone out
went_how : (sink : Which) (how : Option How) (before more : List Piece) (bytes first rest : List ℕ) (old mid : Sinks) (new : SinkSeen)
    → mid ≡ gone before old → first ++ rest ≡ bytes → IsStopAt how rest → new ≡ left_by_how how (sent first (seen_of sink mid))
    → Went (stop_at sink how) (before ++ piece_for sink bytes ∷ more) old (with_seen sink new mid)
went_how sink None before more bytes first rest old mid new went whole at seen = record {
  first = before ++ piece_for sink first ∷ [];
  rest = marked sink rest ++ bytes_in_order more;
  whole = bytes_cut sink before more bytes first rest whole;
  sinks = ap (λ (s : SinkSeen). with_seen sink s mid) seen ∙ gone_front sink before first old mid went;
}
went_how sink (Some how) before more bytes first [] old mid new went whole at seen = absurd at
went_how sink (Some how) before more bytes first (byte ∷ rest) old mid new went whole at seen = record {
  first = before ++ piece_for sink first ∷ [];
  rest = marked sink (byte ∷ rest) ++ bytes_in_order more;
  whole = bytes_cut sink before more bytes first (byte ∷ rest) whole;
  next = refl;
  sinks = ap (λ (s : SinkSeen). with_seen sink s mid) seen
      ∙ (sym (left_by_with_seen sink how (sent first (seen_of sink mid)) mid)
      ∙ ap (left_by sink how) (gone_front sink before first old mid went));
}

pub went_cut : (sink : Which) (ending : Ending) (before more : List Piece) (bytes : List ℕ) (old mid : Sinks) (new : SinkSeen)
    → mid ≡ gone before old → (cut : CutBytes ending bytes (seen_of sink mid) new)
    → Went (stop_at sink cut.how) (before ++ piece_for sink bytes ∷ more) old (with_seen sink new mid)
went_cut sink ending before more bytes old mid new went cut =
    went_how sink cut.how before more bytes cut.first cut.rest old mid new went cut.whole cut.at cut.seen
