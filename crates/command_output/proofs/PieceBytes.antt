-- Pieces with the same bytes in order go out alike.
use Rattle.std.proofs.Common.{◌≡◌, ℕ, List, [], ◌∷◌, ◌++◌, Option, None, Some, refl, sym, ap, ◌∙◌}
use Rattle.srx_edge.specs.Sinks.{SinkSeen, sent}
use Rattle.srx_edge.specs.CallSteps.{How}
use Rattle.srx_edge.proofs.PublicLaws.{sent_sent}
use Rattle.command_output.specs.OutputPieces.{Piece, ForOut, ForErr, Which, ToOut, ToErr, Sinks, gone, bytes_in_order, Went}
use Rattle.command_output.specs.OutputPiecesTerms.{stop_at}
use Rattle.command_output.proofs.OutputPieceLemmas.{marked}

-- the sinks once bytes have gone out to one of them

abbrev pub sent_to : Which → List ℕ → Sinks → Sinks
sent_to ToOut bytes sinks = record sinks { out = sent bytes sinks.out }
sent_to ToErr bytes sinks = record sinks { err = sent bytes sinks.err }

abbrev pub gone_bytes : List (Which × ℕ) → Sinks → Sinks
gone_bytes [] sinks = sinks
gone_bytes (b ∷ more) sinks = gone_bytes more (sent_to b.0 (b.1 ∷ []) sinks)

sent_none : (sink : Which) (sinks : Sinks) → sent_to sink [] sinks ≡ sinks
sent_none ToOut sinks = refl
sent_none ToErr sinks = refl

sent_both : (sink : Which) (first more : List ℕ) (sinks : Sinks)
    → sent_to sink more (sent_to sink first sinks) ≡ sent_to sink (first ++ more) sinks
sent_both ToOut first more sinks = ap (λ (s : SinkSeen). record sinks { out = s }) (sent_sent more first sinks.out)
sent_both ToErr first more sinks = ap (λ (s : SinkSeen). record sinks { err = s }) (sent_sent more first sinks.err)

gone_marked : (sink : Which) (bytes : List ℕ) (more : List (Which × ℕ)) (sinks : Sinks)
    → gone_bytes (marked sink bytes ++ more) sinks ≡ gone_bytes more (sent_to sink bytes sinks)
gone_marked sink [] more sinks = ap (gone_bytes more) (sym (sent_none sink sinks))
gone_marked sink (byte ∷ bytes) more sinks =
    gone_marked sink bytes more (sent_to sink (byte ∷ []) sinks) ∙ ap (gone_bytes more) (sent_both sink (byte ∷ []) bytes sinks)

pub gone_bytes_law : (pieces : List Piece) (sinks : Sinks) → gone pieces sinks ≡ gone_bytes (bytes_in_order pieces) sinks
gone_bytes_law [] sinks = refl
gone_bytes_law (ForOut bytes ∷ more) sinks =
    gone_bytes_law more (record sinks { out = sent bytes sinks.out }) ∙ sym (gone_marked ToOut bytes (bytes_in_order more) sinks)
gone_bytes_law (ForErr bytes ∷ more) sinks =
    gone_bytes_law more (record sinks { err = sent bytes sinks.err }) ∙ sym (gone_marked ToErr bytes (bytes_in_order more) sinks)

module _ (one other : List Piece) (old new : Sinks) (same : bytes_in_order one ≡ bytes_in_order other) where
  pub gone_same : gone one old ≡ gone other old
  gone_same = gone_bytes_law one old ∙ (ap (λ (bytes : List (Which × ℕ)). gone_bytes bytes old) same ∙ sym (gone_bytes_law other old))

  pub went_same : (sink : Which) (how : Option How) → Went (stop_at sink how) one old new → Went (stop_at sink how) other old new
  went_same sink None w = record { first = w.first; rest = w.rest; whole = w.whole ∙ same; sinks = w.sinks }
  went_same sink (Some how) w =
      record { first = w.first; rest = w.rest; whole = w.whole ∙ same; next = w.next; sinks = w.sinks }
