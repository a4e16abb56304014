-- Words that are joined to a line, and lines that are joined to a text, part into these again.
use Rattle.std.proofs.Common.{◌≡◌, ℕ, ◌<◌, Bool, true, false, List, [], ◌∷◌, ◌++◌, All, refl, sym, ap, ◌∙◌, arith, append_assoc, nat_lt}
use Rattle.std.specs.Prelude.{nat_le, ◌==◌, ◌&&◌}
use Rattle.std.specs.List.{flat_map, list_all}
use Rattle.std.specs.Str.{IsUtf8}
use Rattle.std.proofs.lemmas.Bool.{and_parts, le-leb, leb-true, ltb-true, ne_eqb}
use Rattle.std.proofs.lemmas.List.Elements.{All-cons, All-head, All-nil, All-tail}
use Rattle.std.proofs.lemmas.List.Folds.{list_all-append}
use Rattle.std.proofs.lemmas.List.Splits.{slice_split_at, slice_split_none}
use Rattle.std.proofs.lemmas.Str.{IsUtf8-from_ascii}
use Rattle.std.proofs.lemmas.Str.Ascii.{IsAscii-from_all}
use Rattle.net_model.specs.Network.{Network}
use Rattle.trace_replay.specs.TraceGrammar.{line_read, words_of, words_read}
use Rattle.trace_replay.specs.TraceReading.{pieces_of}
use Rattle.trace_replay.specs.Written.{fed}
use Rattle.trace_replay.proofs.WordLemmas.{some_text}

-- the bytes of words, and those of lines: a line has spaces besides

abbrev pub is_word_byte : ℕ → Bool
is_word_byte b = nat_lt 32 b && nat_lt b 128

abbrev pub is_line_byte : ℕ → Bool
is_line_byte b = nat_le 32 b && nat_lt b 128

abbrev pub IsWord : List ℕ → Type 0
IsWord word = list_all is_word_byte word ≡ true

abbrev pub IsTextLine : List ℕ → Type 0
IsTextLine line = list_all is_line_byte line ≡ true

pub both : (a b : Bool) → a ≡ true → b ≡ true → (a && b) ≡ true
both true b h g = g
both false b h g = cc

pub all_by : (p : ℕ → Bool) (P : ℕ → Type 0) → ((b : ℕ) → p b ≡ true → P b) → (xs : List ℕ) → list_all p xs ≡ true → All P xs
all_by p P each [] h = All-nil P
all_by p P each (b ∷ bs) h =
    let parts = and_parts (p b) (list_all p bs) h in All-cons P b bs (each b parts.0) (all_by p P each bs parts.1)

pub pass_more : (p q : ℕ → Bool) → ((b : ℕ) → p b ≡ true → q b ≡ true) → (xs : List ℕ) → list_all p xs ≡ true → list_all q xs ≡ true
pass_more p q each [] h = refl
pass_more p q each (b ∷ bs) h =
    let parts = and_parts (p b) (list_all p bs) h in
    both (q b) (list_all q bs) (each b parts.0) (pass_more p q each bs parts.1)

word_no_space : (b : ℕ) → is_word_byte b ≡ true → (b == 32) ≡ false
word_no_space b h =
    let parts = and_parts (nat_lt 32 b) (nat_lt b 128) h in
    ne_eqb b 32 (λ e. let above = ltb-true 32 b parts.0 in omega (arith, above, e))

line_no_feed : (b : ℕ) → is_line_byte b ≡ true → (b == 10) ≡ false
line_no_feed b h =
    let parts = and_parts (nat_le 32 b) (nat_lt b 128) h in
    ne_eqb b 10 (λ e. let above = leb-true 32 b parts.0 in omega (arith, above, e))

line_ascii : (b : ℕ) → is_line_byte b ≡ true → b < 128
line_ascii b h = let parts = and_parts (nat_le 32 b) (nat_lt b 128) h in ltb-true b 128 parts.1

word_in_line : (b : ℕ) → is_word_byte b ≡ true → is_line_byte b ≡ true
word_in_line b h =
    let parts = and_parts (nat_lt 32 b) (nat_lt b 128) h in
    let above = ltb-true 32 b parts.0 in
    both (nat_le 32 b) (nat_lt b 128) (le-leb 32 b (omega (arith, above))) parts.1

-- words with a space between each two
abbrev pub joined : List (List ℕ) → List ℕ
joined [] = []
joined (word ∷ []) = word
joined (word ∷ next ∷ more) = word ++ 32 ∷ joined (next ∷ more)

abbrev pub AreWords : List (List ℕ) → Type 0
AreWords [] = Unit {0}
AreWords (word ∷ more) = IsWord word × AreWords more

pub words_split : (word : List ℕ) (more : List (List ℕ)) → AreWords (word ∷ more) → words_of (joined (word ∷ more)) ≡ word ∷ more
words_split word [] h =
    slice_split_none (λ byte. byte == 32) word (all_by is_word_byte (λ b. (b == 32) ≡ false) word_no_space word h.0)
words_split word (next ∷ more) h =
    slice_split_at (λ byte. byte == 32) word 32 (joined (next ∷ more))
    (all_by is_word_byte (λ b. (b == 32) ≡ false) word_no_space word h.0) refl
    ∙ ap (λ (ws : List (List ℕ)). word ∷ ws) (words_split next more h.1)

pub words_line : (word : List ℕ) (more : List (List ℕ)) → AreWords (word ∷ more) → IsTextLine (joined (word ∷ more))
words_line word [] h = pass_more is_word_byte is_line_byte word_in_line word h.0
words_line word (next ∷ more) h =
    list_all-append is_line_byte word (32 ∷ joined (next ∷ more))
    ∙ both (list_all is_line_byte word) (list_all is_line_byte (joined (next ∷ more)))
    (pass_more is_word_byte is_line_byte word_in_line word h.0) (words_line next more h.1)

line_text : (line : List ℕ) → IsTextLine line → IsUtf8 line
line_text line h = IsUtf8-from_ascii line (IsAscii-from_all line (all_by is_line_byte (λ b. b < 128) line_ascii line h))

-- a line of words is read as its words are
pub words_read_law : (net : Network) (word : List ℕ) (more : List (List ℕ)) → AreWords (word ∷ more)
    → line_read net (joined (word ∷ more)) ≡ words_read net (word ∷ more)
words_read_law net word more h =
    sym (some_text net (joined (word ∷ more)) (line_text (joined (word ∷ more)) (words_line word more h)))
    ∙ ap (words_read net) (words_split word more h)

-- ---- lines of a text

pub fed_append : (xs ys : List (List ℕ)) → fed (xs ++ ys) ≡ fed xs ++ fed ys
fed_append [] ys = refl
fed_append (x ∷ xs) ys =
    ap (λ (t : List ℕ). x ++ 10 ∷ t) (fed_append xs ys) ∙ sym (append_assoc x (10 ∷ fed xs) (fed ys))

pub fed_flat : {X : Type 0} (f : X → List (List ℕ)) (xs : List X) → fed (flat_map f xs) ≡ flat_map (λ x. fed (f x)) xs
fed_flat f [] = refl
fed_flat f (x ∷ xs) = fed_append (f x) (flat_map f xs) ∙ ap (λ (t : List ℕ). fed (f x) ++ t) (fed_flat f xs)

pub fed_parts : (lines : List (List ℕ)) → All IsTextLine lines → pieces_of (fed lines) ≡ lines ++ [] ∷ []
fed_parts [] h = slice_split_none (λ byte. byte == 10) [] (All-nil (λ b. (b == 10) ≡ false))
fed_parts (line ∷ more) h =
    slice_split_at (λ byte. byte == 10) line 10 (fed more)
    (all_by is_line_byte (λ b. (b == 10) ≡ false) line_no_feed line (All-head IsTextLine line more h)) refl
    ∙ ap (λ (ls : List (List ℕ)). line ∷ ls) (fed_parts more (All-tail IsTextLine line more h))
