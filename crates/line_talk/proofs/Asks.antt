-- What a client in memory tells of its asks once more is said.
use Rattle.std.proofs.Common.{◌≡◌, ℕ, ◌+◌, ◌-◌, ◌<◌, ◌≤◌, ◌==◌, Bool, true, false, if◌then◌else◌, min, Some, Ok, subst, List, [], ◌∷◌, ◌++◌, length, take, drop, refl, sym, ap, ap₂, ◌∙◌, arith}
use Rattle.std.proofs.Math.Seq.{take-add}
use Rattle.std.proofs.lemmas.List.{take-append-le, take_all, drop-drop}
use Rattle.line_talk.specs.Talk.{Ask, Talk, heard_more, Hears}
use Rattle.line_talk.specs.MemTalk.{MemTalk, told, asked, given, said, BeginsRead, MemHears}
use Rattle.line_talk.specs.MemAsks.{ask_of, asks_of, seen_of, AreWithin}
use Rattle.line_talk.specs.declared.mem_client.Asked.{Asked}

pub asks_stay : (bytes taken more : List ℕ) (asks : List Asked) → AreWithin (length taken) asks → asks_of bytes (taken ++ more) asks ≡ asks_of bytes taken asks
asks_stay bytes taken more [] within = refl
asks_stay bytes taken more (a ∷ asks) within =
    ap₂ (λ (x : Ask) (l : List Ask). x ∷ l)
    (ap (λ (l : List ℕ). let ask : Ask = record { heard = take a.given bytes; said = l } in ask) (take-append-le a.taken taken more within.0))
    (asks_stay bytes taken more asks within.1)

pub within_more : (n m : ℕ) (asks : List Asked) → n ≤ m → AreWithin n asks → AreWithin m asks
within_more n m [] le within = tt
within_more n m (a ∷ asks) le within = (omega (arith, within.0, le), within_more n m asks le within.1)

pub within_next : (n : ℕ) (asks : List Asked) (a : Asked) → a.taken ≤ n → AreWithin n asks → AreWithin n (asks ++ a ∷ [])
within_next n [] a le within = (le, tt)
within_next n (b ∷ asks) a le within = (within.0, within_next n asks a le within.1)

pub asks_next : (bytes taken : List ℕ) (asks : List Asked) (a : Asked) → a.taken ≡ length taken
    → asks_of bytes taken (asks ++ a ∷ []) ≡ asks_of bytes taken asks ++ record { heard = take a.given bytes; said = taken } ∷ []
asks_next bytes taken [] a e =
    ap (λ (l : List ℕ). let ask : Ask = record { heard = take a.given bytes; said = l } in ask ∷ [])
    (ap (λ n. take n taken) e ∙ take_all (length taken) taken (omega arith))
asks_next bytes taken (b ∷ asks) a e = ap (λ (l : List Ask). ask_of bytes taken b ∷ l) (asks_next bytes taken asks a e)

-- the client behind a read that begins
pub begun_read : (bytes taken : List ℕ) (at : ℕ) (asks : List Asked) (a : Asked) (most passes : ℕ) (ended read_failed write_failed : Bool)
    → a.given ≡ at → a.taken ≡ length taken
    → seen_of bytes at taken (asks ++ a ∷ []) most (passes - 1) ended read_failed write_failed ≡ asked (seen_of bytes at taken asks most passes ended read_failed write_failed)
begun_read bytes taken at asks a most passes ended read_failed write_failed here all =
    let old : MemTalk = seen_of bytes at taken asks most passes ended read_failed write_failed in
    ap (λ (l : List Ask). let talk : Talk = record old.talk { asks = l } in let new : MemTalk = record old { talk = talk; passes = passes - 1 } in new)
    (asks_next bytes taken asks a all
    ∙ ap (λ n. asks_of bytes taken asks ++ (let ask : Ask = record { heard = take n bytes; said = taken } in ask) ∷ []) here)

-- and once it has given so many bytes
pub given_more : (bytes taken : List ℕ) (at count : ℕ) (asks : List Asked) (most passes : ℕ) (ended read_failed write_failed : Bool)
    → length (take count (drop at bytes)) ≡ count
    → seen_of bytes (at + count) taken asks most passes (count == 0) read_failed write_failed ≡ given count (seen_of bytes at taken asks most passes ended read_failed write_failed)
given_more bytes taken at count asks most passes ended read_failed write_failed size =
    let build : List ℕ → Bool → List ℕ → MemTalk =
    λ heard end left. let talk : Talk = record { heard = heard; said = taken; asks = asks_of bytes taken asks; ended = end; read_failed = read_failed; write_failed = write_failed } in
    let new : MemTalk = record { talk = talk; left = left; most = most; passes = passes } in new in
    ap (λ (l : List ℕ). build l (count == 0) (drop (at + count) bytes)) (take-add at count bytes)
    ∙ ap (λ n. build (take at bytes ++ take count (drop at bytes)) (n == 0) (drop (at + count) bytes)) (sym size)
    ∙ ap (λ (l : List ℕ). build (take at bytes ++ take count (drop at bytes)) (length (take count (drop at bytes)) == 0) l) (sym (drop-drop count at bytes))

-- once it has taken more
pub taken_more : (bytes taken more : List ℕ) (at : ℕ) (asks : List Asked) (most passes : ℕ) (ended read_failed write_failed : Bool) → AreWithin (length taken) asks
    → seen_of bytes at (taken ++ more) asks most passes ended read_failed write_failed
    ≡ (let old : MemTalk = seen_of bytes at taken asks most passes ended read_failed write_failed in
    let talk : Talk = record old.talk { said = taken ++ more } in let new : MemTalk = record old { talk = talk } in new)
taken_more bytes taken more at asks most passes ended read_failed write_failed within =
    ap (λ (l : List Ask). let old : MemTalk = seen_of bytes at taken asks most passes ended read_failed write_failed in
    let talk : Talk = record old.talk { said = taken ++ more; asks = l } in let new : MemTalk = record old { talk = talk } in new)
    (asks_stay bytes taken more asks within)

-- what a read does, by its beginning and what it gives

begins_ok : (bytes taken : List ℕ) (at : ℕ) (asks : List Asked) (a : Asked) (most passes : ℕ) (ended read_failed write_failed : Bool) (ok : Bool)
    → a.given ≡ at → a.taken ≡ length taken → 0 < passes
    → BeginsRead ok (seen_of bytes at taken asks most passes ended read_failed write_failed)
    (seen_of bytes at taken (if ok then asks ++ a ∷ [] else asks) most (passes - 1) ended read_failed write_failed)
begins_ok bytes taken at asks a most passes ended read_failed write_failed true here all some =
    (some, begun_read bytes taken at asks a most passes ended read_failed write_failed here all)
begins_ok bytes taken at asks a most passes ended read_failed write_failed false here all some = refl

pub begins : (bytes taken : List ℕ) (at : ℕ) (asks asks_new : List Asked) (a : Asked) (most passes : ℕ) (ended read_failed write_failed : Bool) (ok result : Bool) (old : MemTalk)
    → seen_of bytes at taken asks most passes ended read_failed write_failed ≡ old → asks_new ≡ (if ok then asks ++ a ∷ [] else asks)
    → a.given ≡ at → a.taken ≡ length taken → 0 < passes → result ≡ ok
    → BeginsRead result old (seen_of bytes at taken asks_new most (passes - 1) ended read_failed write_failed)
begins bytes taken at asks asks_new a most passes ended read_failed write_failed ok result old view new here all some same =
    let first = begins_ok bytes taken at asks a most passes ended read_failed write_failed ok here all some in
    let second : BeginsRead ok (seen_of bytes at taken asks most passes ended read_failed write_failed) (seen_of bytes at taken asks_new most (passes - 1) ended read_failed write_failed) =
    subst (λ (l : List Asked). BeginsRead ok (seen_of bytes at taken asks most passes ended read_failed write_failed) (seen_of bytes at taken l most (passes - 1) ended read_failed write_failed)) (sym new) first in
    let third : BeginsRead result (seen_of bytes at taken asks most passes ended read_failed write_failed) (seen_of bytes at taken asks_new most (passes - 1) ended read_failed write_failed) =
    subst (λ (b : Bool). BeginsRead b (seen_of bytes at taken asks most passes ended read_failed write_failed) (seen_of bytes at taken asks_new most (passes - 1) ended read_failed write_failed)) (sym same) second in
    subst (λ (o : MemTalk). BeginsRead result o (seen_of bytes at taken asks_new most (passes - 1) ended read_failed write_failed)) view third

pub hears : (old mid new : MemTalk) (room count : ℕ) (filled : List ℕ) → 0 < old.passes → mid ≡ asked old → count ≡ min (min room (length mid.left)) mid.most
    → take count filled ≡ take count mid.left → new ≡ given count mid → MemHears room filled (Ok count) old new
hears old mid new room count filled some begun size same gives = (
  some,
  size ∙ ap (λ (m : MemTalk). min (min room (length m.left)) m.most) begun,
  same ∙ ap (λ (m : MemTalk). take count m.left) begun,
  gives ∙ ap (given count) begun,
)

pub hears_told : (old mid new : MemTalk) (room count : ℕ) (filled : List ℕ) → mid ≡ asked old → count ≡ min (min room (length mid.left)) mid.most
    → take count filled ≡ take count mid.left → new ≡ given count mid → length filled ≡ room → Hears filled (Ok count) (told old) (told new)
hears_told old mid new room count filled begun size same gives long = (
  omega (arith, size, long),
  ap told (gives ∙ ap (given count) begun)
      ∙ ap (λ (l : List ℕ). Some (heard_more l old.talk)) (sym (same ∙ ap (λ (m : MemTalk). take count m.left) begun)),
)

pub says : (bytes taken part taken_new : List ℕ) (at : ℕ) (asks : List Asked) (most passes : ℕ) (ended read_failed write_failed : Bool) (old : MemTalk)
    → seen_of bytes at taken asks most passes ended read_failed write_failed ≡ old → AreWithin (length taken) asks → taken_new ≡ taken ++ part
    → seen_of bytes at taken_new asks most (passes - 1) ended read_failed write_failed ≡ said part old
says bytes taken part taken_new at asks most passes ended read_failed write_failed old view within new =
    ap (λ (l : List ℕ). seen_of bytes at l asks most (passes - 1) ended read_failed write_failed) new
    ∙ taken_more bytes taken part at asks most (passes - 1) ended read_failed write_failed within
    ∙ ap (said part) view
