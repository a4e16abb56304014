-- Texts whose bytes are all of ASCII are UTF-8; a trace is one.
use Rattle.std.proofs.Common.{◌≡◌, ℕ, ◌<◌, Bool, true, false, List, [], ◌∷◌, ◌++◌, All, refl, sym, subst, ◌∙◌, nat_lt}
use Rattle.std.specs.Prelude.{nat_le}
use Rattle.std.specs.List.{flat_map, list_all}
use Rattle.std.specs.Str.{IsUtf8}
use Rattle.std.proofs.lemmas.Bool.{and_parts, ltb-true}
use Rattle.std.proofs.lemmas.List.Elements.{All-append, All-cons, All-head, All-nil, All-tail}
use Rattle.std.proofs.lemmas.List.Folds.{list_all-append}
use Rattle.std.proofs.lemmas.Str.{IsUtf8-from_ascii}
use Rattle.std.proofs.lemmas.Str.Ascii.{IsAscii-from_all}
use Rattle.net_model.specs.Network.{Network}
use Rattle.net_model.specs.NetworkKeeps.{Keeps}
use Rattle.trace_replay.specs.TraceLines.{end_text, head_text}
use Rattle.trace_replay.specs.Written.{Traced, fed, trace_text}
use Rattle.trace_replay.specs.WrittenTerms.{IsTraced, packets_lines, trace_lines}
use Rattle.trace_replay.proofs.Splitting.{IsTextLine, IsWord, all_by, both, is_line_byte, is_word_byte, pass_more}
use Rattle.trace_replay.proofs.Written.{head_line, packets_texts, text_fed}

abbrev pub is_plain : ℕ → Bool
is_plain b = nat_lt b 128

abbrev pub IsPlain : List ℕ → Type 0
IsPlain text = list_all is_plain text ≡ true

pub plain_append : (xs ys : List ℕ) → IsPlain xs → IsPlain ys → IsPlain (xs ++ ys)
plain_append xs ys a b = list_all-append is_plain xs ys ∙ both (list_all is_plain xs) (list_all is_plain ys) a b

pub plain_then : (b : ℕ) (text : List ℕ) → is_plain b ≡ true → IsPlain text → IsPlain (b ∷ text)
plain_then b text e h = both (is_plain b) (list_all is_plain text) e h

pub word_plain : (word : List ℕ) → IsWord word → IsPlain word
word_plain word h = pass_more is_word_byte is_plain (λ b h. (and_parts (nat_lt 32 b) (nat_lt b 128) h).1) word h

line_plain : (line : List ℕ) → IsTextLine line → IsPlain line
line_plain line h = pass_more is_line_byte is_plain (λ b h. (and_parts (nat_le 32 b) (nat_lt b 128) h).1) line h

pub plain_flat : {X : Type 0} (f : X → List ℕ) (xs : List X) → All (λ x. IsPlain (f x)) xs → IsPlain (flat_map f xs)
plain_flat f [] h = refl
plain_flat {X = X} f (x ∷ xs) h =
    let P : X → Type 0 = λ y. IsPlain (f y) in
    plain_append (f x) (flat_map f xs) (All-head P x xs h) (plain_flat f xs (All-tail P x xs h))

pub plain_text : (text : List ℕ) → IsPlain text → IsUtf8 text
plain_text text h = IsUtf8-from_ascii text (IsAscii-from_all text (all_by is_plain (λ b. b < 128) (λ b g. ltb-true b 128 g) text h))

-- ---- a trace

fed_plain : (lines : List (List ℕ)) → All IsTextLine lines → IsPlain (fed lines)
fed_plain [] h = refl
fed_plain (line ∷ more) h =
    plain_append line (10 ∷ fed more) (line_plain line (All-head IsTextLine line more h))
    (plain_then 10 (fed more) refl (fed_plain more (All-tail IsTextLine line more h)))

end_line : IsTextLine end_text
unfolding end_text
end_line = refl

pub trace_is_text : (net : Network) (p : Traced) → Keeps net → IsTraced net p → IsUtf8 (trace_text net (p ∷ []))
trace_is_text net p keeps is =
    let one = All-cons (IsTraced net) p [] is (All-nil (IsTraced net)) in
    let last = All-cons IsTextLine end_text [] end_line (All-nil IsTextLine) in
    let behind = All-append IsTextLine (packets_lines net (p ∷ [])) (end_text ∷ []) (packets_texts net keeps (p ∷ []) one) last in
    let all = All-cons IsTextLine head_text (packets_lines net (p ∷ []) ++ end_text ∷ []) head_line behind in
    subst IsUtf8 (sym (text_fed net (p ∷ []))) (plain_text (fed (trace_lines net (p ∷ []))) (fed_plain (trace_lines net (p ∷ [])) all))
