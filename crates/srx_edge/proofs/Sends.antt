-- What is sent in parts is sent whole, and what is left of steps one after the other.
use Rattle.std.proofs.Common.{◌≡◌, false, ℕ, ◌+◌, ◌<◌, List, [], ◌∷◌, ◌++◌, length, take, drop, Option, None, Some, refl, sym, ap, ◌∙◌, append_assoc, arith, rules, ◌==◌, if◌then◌else◌}
use Rattle.std.proofs.Math.Seq.{take-add}
use Rattle.std.proofs.lemmas.List.{append-nil, take-append-drop, length-drop}
use Rattle.srx_edge.specs.Edge.{append_to}
use Rattle.srx_edge.specs.Sinks.{SinkSeen, sent, failed, wanting, is_stuck}
use Rattle.srx_edge.specs.CallSteps.{Ending, Fault, Memory, How, Failing, Wanting, ending_of, stopped_by}
use Rattle.srx_edge.specs.CallStepsTerms.{left_by, IsStopAt, Cut}

append_to_append_to : (more bytes : List ℕ) (held : Option (List ℕ))
    → append_to more (append_to bytes held) ≡ append_to (bytes ++ more) held
append_to_append_to more bytes None = refl
append_to_append_to more bytes (Some held) = ap Some (append_assoc held bytes more)

pub sent_sent : (more bytes : List ℕ) (sink : SinkSeen) → sent more (sent bytes sink) ≡ sent (bytes ++ more) sink
sent_sent [] bytes sink = ap (λ (all : List ℕ). sent all sink) (sym (append-nil bytes))
sent_sent (m ∷ more) [] sink = refl
sent_sent (m ∷ more) (b ∷ bytes) sink =
    ap (λ (held : Option (List ℕ)). record sink { held = held; stopped = false }) (append_to_append_to (m ∷ more) (b ∷ bytes) sink.held)

-- all of the first bytes went out, and then all of the others
pub sent_both : (bytes more : List ℕ) (old mid new : SinkSeen) → mid ≡ sent bytes old → new ≡ sent more mid → new ≡ sent (bytes ++ more) old
sent_both bytes more old mid new first next = next ∙ ap (sent more) first ∙ sent_sent more bytes old

-- the next part, after the first n bytes
pub sent_next : (n count : ℕ) (bytes : List ℕ) (old mid new : SinkSeen) → mid ≡ sent (take n bytes) old
    → new ≡ sent (take count (drop n bytes)) mid
    → new ≡ sent (take (n + count) bytes) old
sent_next n count bytes old mid new first next =
    sent_both (take n bytes) (take count (drop n bytes)) old mid new first next
    ∙ ap (λ (all : List ℕ). sent all old) (sym (take-add n count bytes))

-- a write took some bytes after the first n
pub pour_next : (n count : ℕ) (bytes : List ℕ) (old mid new : SinkSeen) → mid ≡ sent (take n bytes) old
    → new ≡ (if is_stuck (drop n bytes) count then failed mid else sent (take count (drop n bytes)) mid) → 0 < count
    → new ≡ sent (take (n + count) bytes) old
pour_next n count bytes old mid new first next some =
    let moves : (count == 0) ≡ false = search rules in
    sent_next n count bytes old mid new first (rw moves at next)

-- a step that ended early

stop_longer : (how : Option How) (rest more : List ℕ) → IsStopAt how rest → IsStopAt how (rest ++ more)
stop_longer None rest more at = tt
stop_longer (Some how) [] more at = absurd at
stop_longer (Some how) (b ∷ rest) more at = tt

stop_some : (how : How) (rest : List ℕ) → 0 < length rest → IsStopAt (Some how) rest
stop_some how [] some = absurd (omega arith)
stop_some how (b ∷ rest) some = tt

-- a step that ended early with its first bytes ended early with all of them
pub cut_longer : (ending : Ending) (bytes more : List ℕ) (old new : SinkSeen) → Cut ending bytes old new
    → Cut ending (bytes ++ more) old new
cut_longer ending bytes more old new cut = record {
  how = cut.how;
  ends = cut.ends;
  first = cut.first;
  rest = cut.rest ++ more;
  whole = sym (append_assoc cut.first cut.rest more) ∙ ap (λ (all : List ℕ). all ++ more) cut.whole;
  at = stop_longer cut.how cut.rest more cut.at;
  seen = cut.seen;
}

-- once the first bytes went out, a step that ended early with the others ended early with all
pub cut_after : (ending : Ending) (bytes more : List ℕ) (old mid new : SinkSeen) → mid ≡ sent bytes old → Cut ending more mid new
    → Cut ending (bytes ++ more) old new
cut_after ending bytes more old mid new first cut = record {
  how = cut.how;
  ends = cut.ends;
  first = bytes ++ cut.first;
  rest = cut.rest;
  whole = append_assoc bytes cut.first cut.rest ∙ ap (λ (all : List ℕ). bytes ++ all) cut.whole;
  at = cut.at;
  seen = cut.seen ∙ ap (left_by cut.how) (ap (sent cut.first) first ∙ sent_sent cut.first bytes old);
}

-- memory was wanting elsewhere once all of the bytes had gone out
pub cut_whole : (bytes : List ℕ) (old new : SinkSeen) → new ≡ sent bytes old → Cut Memory bytes old new
cut_whole bytes old new seen = record { how = None; ends = refl; first = bytes; rest = []; whole = append-nil bytes; at = tt; seen = seen }

-- memory was wanting elsewhere before any had
pub cut_none : (bytes : List ℕ) (sink : SinkSeen) → Cut Memory bytes sink sink
cut_none bytes sink = record { how = None; ends = refl; first = []; rest = bytes; whole = refl; at = tt; seen = refl }

cut_poured : (how : How) (written : ℕ) (bytes : List ℕ) (old new : SinkSeen) → written < length bytes
    → new ≡ stopped_by how (sent (take written bytes) old) → Cut (ending_of how) bytes old new
cut_poured how written bytes old new some seen = record {
  how = Some how;
  ends = refl;
  first = take written bytes;
  rest = drop written bytes;
  whole = take-append-drop written bytes;
  at = stop_some how (drop written bytes) (omega (arith, length-drop written bytes));
  seen = seen;
}

-- `pour` was stopped by a fault, or by a want
pub cut_failed : (written : ℕ) (bytes : List ℕ) (old new : SinkSeen) → written < length bytes
    → new ≡ failed (sent (take written bytes) old) → Cut Fault bytes old new
cut_failed written bytes old new some seen = cut_poured Failing written bytes old new some seen

pub cut_wanting : (written : ℕ) (bytes : List ℕ) (old new : SinkSeen) → written < length bytes
    → new ≡ wanting (sent (take written bytes) old) → Cut Memory bytes old new
cut_wanting written bytes old new some seen = cut_poured Wanting written bytes old new some seen
