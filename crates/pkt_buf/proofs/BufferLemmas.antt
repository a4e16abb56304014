-- A packet's bytes after spare ones, cut.
use Rattle.std.proofs.Common.{◌≡◌, ℕ, ◌+◌, ◌-◌, ◌≤◌, List, [], ◌++◌, length, take, drop, sym, ap, ◌∙◌, arith, length-append, length-drop}
use Rattle.std.proofs.lemmas.List.{append-nil, drop-append-le, drop-drop, drop-take, drop_all, drop_at, length-take-le, take_all}
use Rattle.pkt_buf.specs.BufferView.{Buffer}
use Rattle.pkt_buf.specs.BufferLending.{left_in}

-- a buffer is its bytes and its spare room
pub same_buffer : (b : Buffer) (bytes : List ℕ) (front : ℕ) → bytes ≡ b.bytes → front ≡ b.front
    → record { bytes = bytes; front = front } ≡ b
same_buffer b bytes front same room =
    let one : Buffer = record { bytes = bytes; front = front } in
    let two : Buffer = record { bytes = b.bytes; front = front } in
    let e : one ≡ two = ap (λ xs. record { bytes = xs; front = front }) same in
    let f : two ≡ b = ap (λ n. record { bytes = b.bytes; front = n }) room in
    e ∙ f

-- where as many bytes are left as there were, they are those that were left
pub left_whole : (bytes left : List ℕ) → length left ≡ length bytes → left_in bytes left ≡ left
left_whole bytes left same =
    let none : drop (length left) bytes ≡ [] = drop_all (length left) bytes (omega arith) in
    ap (λ xs. take (length bytes) (left ++ xs)) none
    ∙ ap (take (length bytes)) (append-nil left)
    ∙ take_all (length bytes) left (omega arith)

-- bytes taken out after spare ones
pub cut_behind : (front at n : ℕ) (held : List ℕ) → front + at + n ≤ length held
    → drop front (take (front + at) held ++ drop (front + at + n) held)
    ≡ take at (drop front held) ++ drop (at + n) (drop front held)
cut_behind front at n held room =
    let sum : front + at + n ≡ front + (at + n) = omega arith in
    let long : length (take (front + at) held) ≡ front + at = length-take-le (front + at) held (omega arith) in
    drop-append-le front (take (front + at) held) (drop (front + at + n) held) (omega arith)
    ∙ ap (λ xs. xs ++ drop (front + at + n) held) (drop-take front at held)
    ∙ ap (λ k. take at (drop front held) ++ drop k held) sum
    ∙ ap (λ xs. take at (drop front held) ++ xs) (sym (drop-drop (at + n) front held))

-- bytes that were lent after spare ones, as they were left
pub lent_behind : (front : ℕ) (held left : List ℕ) → front ≤ length held
    → let lent : List ℕ = left ++ drop (length left) (drop front held) in let all : List ℕ = take front held ++ lent in
    drop front (take (length held) (all ++ drop (length all) held)) ≡ take (length (drop front held)) lent
lent_behind front held left room =
    let lent : List ℕ = left ++ drop (length left) (drop front held) in
    let all : List ℕ = take front held ++ lent in
    let spare : length (take front held) ≡ front = length-take-le front held room in
    let bytes : length (drop front held) ≡ length held - front = length-drop front held in
    let sum : length held ≡ front + length (drop front held) = omega arith in
    let long : length lent ≡ length left + (length (drop front held) - length left) =
    length-append left (drop (length left) (drop front held)) ∙ ap (λ n. length left + n) (length-drop (length left) (drop front held)) in
    let whole : length all ≡ front + length lent = length-append (take front held) lent ∙ ap (λ n. n + length lent) spare in
    ap (λ xs. drop front (take (length held) (all ++ xs))) (drop_all (length all) held (omega arith))
    ∙ ap (λ xs. drop front (take (length held) xs)) (append-nil all)
    ∙ ap (λ n. drop front (take n all)) sum
    ∙ drop-take front (length (drop front held)) all
    ∙ ap (take (length (drop front held))) (drop_at (take front held) lent front spare)
