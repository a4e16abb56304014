-- A segment routing header in the bytes that begin with it, and in its own.
use Rattle.std.proofs.Common.{◌≡◌, ℕ, ◌+◌, ◌*◌, ◌^◌, ◌<◌, ◌≤◌, true, nat_le, List, ◌++◌, length, take, drop, slice_index, slice_set, All, refl, sym, ap, ◌∙◌, arith, Result, Ok, Err}
use Rattle.std.proofs.lemmas.Bool.{le-leb}
use Rattle.std.proofs.lemmas.List.Elements.{All-set}
use Rattle.std.proofs.lemmas.List.{length-append, length-take, length-drop, get_or-take, length-set, get_or-set_same, get_or-set_other, take-append-drop, drop-take, drop-set-lt, take-take, take_all}
use Rattle.srv6_rules.specs.Packet.{two_bytes, two_number}
use Rattle.srv6_rules.specs.Chain.{routing, is_whole}
use Rattle.srv6_rules.specs.Srh.{Srh, srh_of, srh_spelling, segment_routing}
use Rattle.srv6_rules.specs.SrhTerms.{IsSrhSpellable}
use Rattle.srv6_rules.proofs.PublicLaws.{two_number_append, srh_of_spelling, srh_of_spellable, srh_spelling_srh_of, length_two_bytes}
use Rattle.ip6_headers.specs.declared.chain.BadChain.{BadChain}
use Rattle.ip6_headers.specs.ChainStepping.{IsHeader}
use Rattle.srh_codec.specs.SrhReading.{BeginsWith, IsRead}

-- the header's own bytes hold what the bytes that begin with it hold
srh_of_take : (n : ℕ) (bytes : List ℕ) → n ≡ 8 * (slice_index bytes 1 + 1) → n ≤ length bytes → srh_of (take n bytes) ≡ srh_of bytes
srh_of_take n bytes stated long =
    let m : ℕ = 8 * slice_index bytes 1 in
    let rest : List ℕ = drop 6 bytes in
    let six : n ≡ 6 + (2 + m) = omega arith in
    let eight : n ≡ 8 + m = omega arith in
    let front : drop 6 (take n bytes) ≡ take (2 + m) rest = ap (λ k. drop 6 (take k bytes)) six ∙ drop-take 6 (2 + m) bytes in
    let room : 2 ≤ length (take (2 + m) rest) = omega (arith, length-take (2 + m) rest, length-drop 6 bytes) in
    let tag : two_number (drop 6 (take n bytes)) ≡ two_number rest =
    ap two_number front ∙ sym (two_number_append (take (2 + m) rest) (drop (2 + m) rest) room)
    ∙ ap two_number (take-append-drop (2 + m) rest) in
    let body : take m (drop 8 (take n bytes)) ≡ take m (drop 8 bytes) =
    ap (λ k. take m (drop 8 (take k bytes))) eight ∙ ap (take m) (drop-take 8 m bytes) ∙ take-take m m (drop 8 bytes) (omega arith) in
    let e0 : slice_index (take n bytes) 0 ≡ slice_index bytes 0 = get_or-take n bytes 0 0 (omega arith) in
    let e1 : slice_index (take n bytes) 1 ≡ slice_index bytes 1 = get_or-take n bytes 1 0 (omega arith) in
    let e3 : slice_index (take n bytes) 3 ≡ slice_index bytes 3 = get_or-take n bytes 3 0 (omega arith) in
    let e4 : slice_index (take n bytes) 4 ≡ slice_index bytes 4 = get_or-take n bytes 4 0 (omega arith) in
    let e5 : slice_index (take n bytes) 5 ≡ slice_index bytes 5 = get_or-take n bytes 5 0 (omega arith) in
    rw (e0, e1, e3, e4, e5, tag, body) refl

-- a whole header is read in its own bytes
pub begins_with : (n : ℕ) (bytes : List ℕ) → All (λ b. b < 2 ^ 8) bytes → IsHeader routing bytes n
    → BeginsWith bytes (srh_of (take n bytes))
begins_with n bytes all is =
    let stated : n ≡ 8 * (slice_index bytes 1 + 1) = is.stated in
    let within : n ≤ length bytes = is.within in
    let same : srh_of (take n bytes) ≡ srh_of bytes = srh_of_take n bytes stated within in
    let long : 8 + 8 * slice_index bytes 1 ≤ length bytes = omega arith in
    let least : 8 ≤ length bytes = omega arith in
    let sum : 8 + 8 * slice_index bytes 1 ≡ 8 * (slice_index bytes 1 + 1) = omega arith in
    record {
      whole = is.whole;
      value = same;
      spellable = rw same (srh_of_spellable bytes all long);
      spelled = λ kind. ap srh_spelling same ∙ srh_spelling_srh_of bytes all least kind ∙ ap (λ k. take k bytes) sum;
    }

length_srh_spelling : (s : Srh) → length (srh_spelling s) ≡ 8 + length s.body
length_srh_spelling s = omega (arith, length-append (two_bytes s.tag) s.body, length_two_bytes s.tag)

-- what is spelled is whole
spelled_whole : (s : Srh) (rest : List ℕ) → IsSrhSpellable s → is_whole routing (srh_spelling s ++ rest) ≡ true
spelled_whole s rest ok =
    let body = ok.body_len in
    let long : length (srh_spelling s ++ rest) ≡ 8 + length s.body + length rest =
    length-append (srh_spelling s) rest ∙ ap (λ n. n + length rest) (length_srh_spelling s) in
    let least : nat_le 8 (length (srh_spelling s ++ rest)) ≡ true = le-leb 8 (length (srh_spelling s ++ rest)) (omega arith) in
    let all : nat_le (8 * (s.extension_len + 1)) (length (srh_spelling s ++ rest)) ≡ true =
    le-leb (8 * (s.extension_len + 1)) (length (srh_spelling s ++ rest)) (omega arith) in
    rw (least, all) refl

-- bytes that begin with a header's spelling are read as that header
pub spelled_read : (s : Srh) (rest : List ℕ) (read : Result Srh BadChain) → IsSrhSpellable s → IsRead (srh_spelling s ++ rest) read
    → read ≡ Ok s
spelled_read s rest (Ok t) ok is = ap Ok (is.value ∙ srh_of_spelling s rest ok)
spelled_read s rest (Err cut) ok is = let whole = spelled_whole s rest ok in cc

-- ---- a byte written

-- but for the routing type a header's own bytes are its spelling
kind_written : (bytes : List ℕ) → srh_of (slice_set bytes 2 4) ≡ srh_of bytes
kind_written bytes =
    let e0 : slice_index (slice_set bytes 2 4) 0 ≡ slice_index bytes 0 = get_or-set_other bytes 2 0 4 0 (λ e. omega arith) in
    let e1 : slice_index (slice_set bytes 2 4) 1 ≡ slice_index bytes 1 = get_or-set_other bytes 2 1 4 0 (λ e. omega arith) in
    let e3 : slice_index (slice_set bytes 2 4) 3 ≡ slice_index bytes 3 = get_or-set_other bytes 2 3 4 0 (λ e. omega arith) in
    let e4 : slice_index (slice_set bytes 2 4) 4 ≡ slice_index bytes 4 = get_or-set_other bytes 2 4 4 0 (λ e. omega arith) in
    let e5 : slice_index (slice_set bytes 2 4) 5 ≡ slice_index bytes 5 = get_or-set_other bytes 2 5 4 0 (λ e. omega arith) in
    let d6 : drop 6 (slice_set bytes 2 4) ≡ drop 6 bytes = drop-set-lt 6 bytes 2 4 (omega arith) in
    let d8 : drop 8 (slice_set bytes 2 4) ≡ drop 8 bytes = drop-set-lt 8 bytes 2 4 (omega arith) in
    rw (e0, e1, e3, e4, e5, d6, d8) refl

pub own_spelling : (bytes : List ℕ) → length bytes ≡ 8 * (slice_index bytes 1 + 1) → All (λ b. b < 2 ^ 8) bytes
    → slice_set bytes 2 4 ≡ srh_spelling (srh_of bytes)
own_spelling bytes one all =
    let set : List ℕ = slice_set bytes 2 4 in
    let all' : All (λ b. b < 2 ^ 8) set = All-set (λ b. b < 2 ^ 8) bytes 2 4 (omega arith) all in
    let len : length set ≡ length bytes = length-set bytes 2 4 in
    let e1 : slice_index set 1 ≡ slice_index bytes 1 = get_or-set_other bytes 2 1 4 0 (λ e. omega arith) in
    let kind : slice_index set 2 ≡ segment_routing = get_or-set_same bytes 2 4 0 (omega arith) in
    let spelled : srh_spelling (srh_of set) ≡ take (8 + 8 * slice_index set 1) set = srh_spelling_srh_of set all' (omega arith) kind in
    sym (ap srh_spelling (sym (kind_written bytes)) ∙ spelled ∙ take_all (8 + 8 * slice_index set 1) set (omega arith))
