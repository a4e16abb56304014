-- Steps that write pieces, one after the other.
use Rattle.std.proofs.Common.{◌≡◌, ℕ, List, [], ◌∷◌, ◌++◌, Option, None, Some, refl, sym, ap, ◌∙◌, append_assoc}
use Rattle.srx_edge.specs.Sinks.{SinkSeen, sent}
use Rattle.srx_edge.specs.CallSteps.{Ending, Whole, Fault, Memory, How}
use Rattle.srx_edge.specs.CallStepsTerms.{Wrote}
use Rattle.command_output.specs.declared.halt.Failure.{Failure}
use Rattle.command_output.specs.declared.halt.Failure.TheVariants as failures
use Rattle.command_output.specs.CommandAnswers.{ending_of_failure}
use Rattle.command_output.specs.OutputPieces.{Piece, ForOut, ForErr, Which, ToOut, ToErr, Sinks, gone, bytes_in_order, IsNextFor, left_by, Went}
use Rattle.command_output.specs.OutputPiecesTerms.{sinks_of, stop_at, StopsIn, WroteAll}
use Rattle.command_output.proofs.OutputPieceLemmas.{gone_append, bytes_in_order_append, went_cut}

-- of more pieces only a front went out

bytes_longer : (first more front : List Piece) (rest : List (Which × ℕ)) → bytes_in_order front ++ rest ≡ bytes_in_order first
    → bytes_in_order front ++ (rest ++ bytes_in_order more) ≡ bytes_in_order (first ++ more)
bytes_longer first more front rest whole =
    sym (append_assoc (bytes_in_order front) rest (bytes_in_order more))
    ∙ (ap (λ (b : List (Which × ℕ)). b ++ bytes_in_order more) whole ∙ sym (bytes_in_order_append first more))

next_longer : (sink : Which) (rest more : List (Which × ℕ)) → IsNextFor sink rest → IsNextFor sink (rest ++ more)
next_longer sink [] more h = absurd h
next_longer sink (b ∷ rest) more h = h

pub went_longer : (sink : Which) (how : Option How) (first more : List Piece) (old new : Sinks) → Went (stop_at sink how) first old new
    → Went (stop_at sink how) (first ++ more) old new
went_longer sink None first more old new w = record {
  first = w.first;
  rest = w.rest ++ bytes_in_order more;
  whole = bytes_longer first more w.first w.rest w.whole;
  sinks = w.sinks;
}
went_longer sink (Some how) first more old new w = record {
  first = w.first;
  rest = w.rest ++ bytes_in_order more;
  whole = bytes_longer first more w.first w.rest w.whole;
  next = next_longer sink w.rest (bytes_in_order more) w.next;
  sinks = w.sinks;
}

-- or a front of more, once some had gone out

bytes_behind : (before more front : List Piece) (rest : List (Which × ℕ)) → bytes_in_order front ++ rest ≡ bytes_in_order more
    → bytes_in_order (before ++ front) ++ rest ≡ bytes_in_order (before ++ more)
bytes_behind before more front rest whole =
    ap (λ (b : List (Which × ℕ)). b ++ rest) (bytes_in_order_append before front)
    ∙ (append_assoc (bytes_in_order before) (bytes_in_order front) rest
    ∙ (ap (λ (b : List (Which × ℕ)). bytes_in_order before ++ b) whole ∙ sym (bytes_in_order_append before more)))

gone_behind : (before front : List Piece) (old mid : Sinks) → mid ≡ gone before old → gone front mid ≡ gone (before ++ front) old
gone_behind before front old mid went = ap (gone front) went ∙ sym (gone_append before front old)

pub went_behind : (sink : Which) (how : Option How) (before more : List Piece) (old mid new : Sinks) → mid ≡ gone before old
    → Went (stop_at sink how) more mid new → Went (stop_at sink how) (before ++ more) old new
went_behind sink None before more old mid new went w = record {
  first = before ++ w.first;
  rest = w.rest;
  whole = bytes_behind before more w.first w.rest w.whole;
  sinks = w.sinks ∙ gone_behind before w.first old mid went;
}
went_behind sink (Some how) before more old mid new went w = record {
  first = before ++ w.first;
  rest = w.rest;
  whole = bytes_behind before more w.first w.rest w.whole;
  next = w.next;
  sinks = w.sinks ∙ ap (left_by sink how) (gone_behind before w.first old mid went);
}

stops_longer : (ending : Ending) (first more : List Piece) (old new : Sinks) → StopsIn ending first old new
    → StopsIn ending (first ++ more) old new
stops_longer ending first more old new s =
    record { sink = s.sink; how = s.how; ends = s.ends; went = went_longer s.sink s.how first more old new s.went }

stops_behind : (ending : Ending) (before more : List Piece) (old mid new : Sinks) → mid ≡ gone before old → StopsIn ending more mid new
    → StopsIn ending (before ++ more) old new
stops_behind ending before more old mid new went s =
    record { sink = s.sink; how = s.how; ends = s.ends; went = went_behind s.sink s.how before more old mid new went s.went }

-- a step that wasn't done

pub all_longer : (failure : Failure) (first more : List Piece) (old new : Sinks) → WroteAll (ending_of_failure failure) first old new
    → WroteAll (ending_of_failure failure) (first ++ more) old new
all_longer failures.Fault first more old new h = stops_longer Fault first more old new h
all_longer failures.NoMemory first more old new h = stops_longer Memory first more old new h

-- memory was wanting elsewhere, once some pieces had gone out
pub all_wanting : (before more : List Piece) (old new : Sinks) → new ≡ gone before old → WroteAll Memory (before ++ more) old new
all_wanting before more old new went = record {
  sink = ToOut;
  how = None;
  ends = refl;
  went = record { first = before; rest = bytes_in_order more; whole = sym (bytes_in_order_append before more); sinks = went };
}

-- pieces that went out one after the other
pub all_both : (before more : List Piece) (old mid new : Sinks) → mid ≡ gone before old → new ≡ gone more mid
    → new ≡ gone (before ++ more) old
all_both before more old mid new first next = next ∙ gone_behind before more old mid first

-- a step after others, however it ended
pub all_then : (ending : Ending) (before more : List Piece) (old mid new : Sinks) → mid ≡ gone before old → WroteAll ending more mid new
    → WroteAll ending (before ++ more) old new
all_then Whole before more old mid new first next = all_both before more old mid new first next
all_then Fault before more old mid new first next = stops_behind Fault before more old mid new first next
all_then Memory before more old mid new first next = stops_behind Memory before more old mid new first next

-- a step on one of the sinks

pub all_on_out : (ending : Ending) (bytes : List ℕ) (old new err : SinkSeen) → Wrote ending bytes old new
    → WroteAll ending (ForOut bytes ∷ []) (sinks_of old err) (sinks_of new err)
all_on_out Whole bytes old new err h = ap (λ (s : SinkSeen). sinks_of s err) h
all_on_out Fault bytes old new err h = record {
  sink = ToOut;
  how = h.how;
  ends = h.ends;
  went = went_cut ToOut Fault [] [] bytes (sinks_of old err) (sinks_of old err) new refl h;
}
all_on_out Memory bytes old new err h = record {
  sink = ToOut;
  how = h.how;
  ends = h.ends;
  went = went_cut ToOut Memory [] [] bytes (sinks_of old err) (sinks_of old err) new refl h;
}

pub all_on_err : (ending : Ending) (bytes : List ℕ) (out old new : SinkSeen) → Wrote ending bytes old new
    → WroteAll ending (ForErr bytes ∷ []) (sinks_of out old) (sinks_of out new)
all_on_err Whole bytes out old new h = ap (λ (s : SinkSeen). sinks_of out s) h
all_on_err Fault bytes out old new h = record {
  sink = ToErr;
  how = h.how;
  ends = h.ends;
  went = went_cut ToErr Fault [] [] bytes (sinks_of out old) (sinks_of out old) new refl h;
}
all_on_err Memory bytes out old new h = record {
  sink = ToErr;
  how = h.how;
  ends = h.ends;
  went = went_cut ToErr Memory [] [] bytes (sinks_of out old) (sinks_of out old) new refl h;
}

-- bytes for `out`, a line, and more pieces

module _ (bytes line : List ℕ) (more : List Piece) (o p e f : SinkSeen) where
  pub cut_at_out : (failure : Failure) → Wrote (ending_of_failure failure) bytes o p
      → WroteAll (ending_of_failure failure) (ForOut bytes ∷ more) (sinks_of o e) (sinks_of p e)
  cut_at_out failure wrote = all_longer failure (ForOut bytes ∷ []) more (sinks_of o e) (sinks_of p e)
      (all_on_out (ending_of_failure failure) bytes o p e wrote)

  module _ (went : p ≡ sent bytes o) where
    out_went : sinks_of p e ≡ gone (ForOut bytes ∷ []) (sinks_of o e)
    out_went = ap (λ (s : SinkSeen). sinks_of s e) went

    pub line_behind_out : (ending : Ending) → Wrote ending line e f
        → WroteAll ending (ForOut bytes ∷ ForErr line ∷ []) (sinks_of o e) (sinks_of p f)
    line_behind_out ending wrote = all_then ending (ForOut bytes ∷ []) (ForErr line ∷ []) (sinks_of o e) (sinks_of p e)
        (sinks_of p f) out_went
        (all_on_err ending line p e f wrote)

    pub cut_at_line : (failure : Failure) → Wrote (ending_of_failure failure) line e f
        → WroteAll (ending_of_failure failure) (ForOut bytes ∷ ForErr line ∷ more) (sinks_of o e) (sinks_of p f)
    cut_at_line failure wrote = all_longer failure (ForOut bytes ∷ ForErr line ∷ []) more (sinks_of o e) (sinks_of p f)
        (line_behind_out (ending_of_failure failure) wrote)
