-- The lines of a report are comments to who reads the certificate after them.
use Rattle.std.proofs.Common.{◌≡◌, ℕ, zero, suc, ◌+◌, ◌/◌, ◌%◌, ◌^◌, ◌<◌, Bool, true, false, ◌==◌, List, [], ◌∷◌, ◌++◌, map, All, codes, slice_index, refl, sym, ◌∙◌, ap, ap₂, subst, arith, append_assoc, length-append}
use Rattle.std.specs.Prelude.{if◌then◌else◌, nat_lt}
use Rattle.std.specs.Fmt.{decimal, digits, digits_onto, digit_glyph}
use Rattle.std.specs.List.{flat_map}
use Rattle.std.proofs.lemmas.Bool.{ne_eqb, false≢true, cond-true, lt-ltb}
use Rattle.std.proofs.lemmas.List.{append-nil, get_or_append_left}
use Rattle.std.proofs.lemmas.List.Elements.{All-nil, All-cons, All-append, All-head, All-tail}
use Rattle.v6_addr.specs.Address.{PrefixValue}
use Rattle.v6_addr.specs.Text.{address_text, prefix_text, length_text}
use Rattle.net_model.specs.Network.{Network}
use Rattle.net_syntax.specs.declared.intent_table.Prefer.{Prefer}
use Rattle.net_syntax.specs.declared.intent_table.Prefer.TheVariants as prefers
use Rattle.list_pack.specs.SidLists.{list_values, list_in}
use Rattle.sid_list_theory.proofs.PublicLaws.{legal_addresses}
use Rattle.list_certificate.specs.CertificateLaws.{IsComment, lines_text}
use Rattle.list_certificate.proofs.Marks.{Lacks, word_feed, lacks_joined}
use Rattle.list_certificate.proofs.LineWords.{plain_lacks}
use Rattle.list_certificate.proofs.PrefixWords.{prefix_word}
use Rattle.path_compiler.specs.declared.compiled.Compiled.{Compiled}
use Rattle.compile_commands.specs.CompileCommand.{container_line, no_report, number_line, numbers_lines, report_of, sids_lines}
use Rattle.compile_commands.specs.CompileCommandTerms.{HasValues}

-- a byte of digits is no line feed
glyph_plain : (d : ℕ) → d < 10 → (digit_glyph false d == 10) ≡ false
glyph_plain d small =
    let is : digit_glyph false d ≡ 48 + d = cond-true (nat_lt d 10) _ _ (lt-ltb d 10 small) in
    ne_eqb (digit_glyph false d) 10 (λ e. absurd (omega (arith, is, e)))

abbrev NoFeed : ℕ → Type 0
NoFeed b = (b == 10) ≡ false

onto_lacks : (k n : ℕ) (acc : List ℕ) → Lacks 10 acc → Lacks 10 (digits_onto k 10 false n acc)
onto_lacks zero n acc h = h
onto_lacks (suc k) n acc h =
    let glyph : ℕ = digit_glyph false (n % 10) in
    let more : Lacks 10 (glyph ∷ acc) = All-cons NoFeed glyph acc (glyph_plain (n % 10) (omega arith)) h in
    by (glyph ∷ acc) (digits_onto k 10 false (n / 10) (glyph ∷ acc)) (n / 10 == 0) more (onto_lacks k (n / 10) (glyph ∷ acc) more)
  where
    by : (xs ys : List ℕ) (b : Bool) → Lacks 10 xs → Lacks 10 ys → Lacks 10 (if b then xs else ys)
    by xs ys true one two = one
    by xs ys false one two = two

decimal_lacks : (n : ℕ) → Lacks 10 (decimal n)
unfolding digits
decimal_lacks n = onto_lacks 64 n [] (All-nil NoFeed)

-- nor is one of an address's text
address_lacks : (a : ℕ) → a < 2 ^ 128 → Lacks 10 (address_text a)
unfolding prefix_text
address_lacks a below =
    let p : PrefixValue = record { value = a; len = 128 } in
    front (address_text a) (47 ∷ length_text 128) (word_feed (prefix_text p) (prefix_word p (omega arith, below, omega arith)))
  where
    front : (xs ys : List ℕ) → Lacks 10 (xs ++ ys) → Lacks 10 xs
    front xs ys h k d within =
        let longer = length-append xs ys in
        subst NoFeed (get_or_append_left xs ys d k within) (h k d (omega (arith, longer, within)))

-- a line after the mark of a comment, without a line feed
comment : (line : List ℕ) → slice_index line 0 ≡ 35 → Lacks 10 line → IsComment line
comment line hash lacks = record {
  hash = hash;
  one_line = λ there. false≢true (sym (lacks there.0 10 there.1) ∙ ap (λ (b : ℕ). b == 10) there.2);
}

-- the report's lines, without their line feeds

abbrev container_text : ℕ → List ℕ
container_text value = codes "# container " ++ address_text value

abbrev number_text : List ℕ → ℕ → List ℕ
number_text word number = codes "# " ++ (word ++ 32 ∷ decimal number)

abbrev sids_texts : Prefer → ℕ → List (List ℕ)
sids_texts prefers.Need count = []
sids_texts prefers.Sids count = number_text (codes "sids") count ∷ []

abbrev numbers_texts : Prefer → Compiled → List (List ℕ)
numbers_texts prefer c =
    number_text (codes "containers") c.containers ∷ sids_texts prefer c.sids
    ++ number_text (codes "header") c.header ∷ number_text (codes "need") c.need ∷ []

abbrev pub report_texts : Network → Prefer → Compiled → List (List ℕ)
report_texts net prefer c = map container_text (list_values net c.list) ++ numbers_texts prefer c

abbrev pub no_report_texts : List (List ℕ)
no_report_texts = codes "# none" ∷ []

containers_are : (values : List ℕ) → flat_map container_line values ≡ lines_text (map container_text values)
unfolding container_line
containers_are [] = refl
containers_are (v ∷ vs) = ap (λ (bytes : List ℕ). container_line v ++ bytes) (containers_are vs)

lines_joined : (xs ys : List (List ℕ)) → lines_text xs ++ lines_text ys ≡ lines_text (xs ++ ys)
lines_joined [] ys = refl
lines_joined (x ∷ xs) ys =
    append_assoc (x ++ 10 ∷ []) (lines_text xs) (lines_text ys) ∙ ap (λ (bytes : List ℕ). (x ++ 10 ∷ []) ++ bytes) (lines_joined xs ys)

joined : (x y : List ℕ) (xs ys : List (List ℕ)) → x ≡ lines_text xs → y ≡ lines_text ys → x ++ y ≡ lines_text (xs ++ ys)
joined x y xs ys e f = ap₂ (λ (a b : List ℕ). a ++ b) e f ∙ lines_joined xs ys

number_law : (mark word text : List ℕ) → (mark ++ (word ++ 32 ∷ text)) ++ 10 ∷ [] ≡ mark ++ (word ++ 32 ∷ (text ++ 10 ∷ []))
number_law mark word text = simp append_assoc

number_is : (word : List ℕ) (n : ℕ) → number_line word n ≡ lines_text (number_text word n ∷ [])
unfolding number_line
number_is word n = sym (append-nil (number_text word n ++ 10 ∷ []) ∙ number_law (codes "# ") word (decimal n))

sids_are : (prefer : Prefer) (count : ℕ) → sids_lines prefer count ≡ lines_text (sids_texts prefer count)
sids_are prefers.Need count = refl
sids_are prefers.Sids count = number_is (codes "sids") count

-- the numbers' texts, one after the other
abbrev texts_joined : Prefer → Compiled → List (List ℕ)
texts_joined prefer c =
    (((number_text (codes "containers") c.containers ∷ []) ++ sids_texts prefer c.sids) ++ (number_text (codes "header") c.header ∷ []))
    ++ (number_text (codes "need") c.need ∷ [])

texts_same : (prefer : Prefer) (c : Compiled) → texts_joined prefer c ≡ numbers_texts prefer c
texts_same prefers.Need c = refl
texts_same prefers.Sids c = refl

numbers_are : (prefer : Prefer) (c : Compiled) → numbers_lines prefer c ≡ lines_text (numbers_texts prefer c)
numbers_are prefer c =
    let containers : List ℕ = number_line (codes "containers") c.containers in
    let header : List ℕ = number_line (codes "header") c.header in
    let need : List ℕ = number_line (codes "need") c.need in
    let first : List (List ℕ) = number_text (codes "containers") c.containers ∷ [] in
    let next : List (List ℕ) = number_text (codes "header") c.header ∷ [] in
    let last : List (List ℕ) = number_text (codes "need") c.need ∷ [] in
    let front = joined containers (sids_lines prefer c.sids) first (sids_texts prefer c.sids) (number_is (codes "containers") c.containers)
    (sids_are prefer c.sids) in
    let more = joined (containers ++ sids_lines prefer c.sids) header (first ++ sids_texts prefer c.sids) next front
    (number_is (codes "header") c.header) in
    joined ((containers ++ sids_lines prefer c.sids) ++ header) need ((first ++ sids_texts prefer c.sids) ++ next) last more
    (number_is (codes "need") c.need)
    ∙ ap (λ (xs : List (List ℕ)). lines_text xs) (texts_same prefer c)

pub report_lines : (net : Network) (prefer : Prefer) (c : Compiled) → report_of net prefer c ≡ lines_text (report_texts net prefer c)
report_lines net prefer c =
    ap (λ (bytes : List ℕ). bytes ++ numbers_lines prefer c) (containers_are (list_values net c.list))
    ∙ ap (λ (bytes : List ℕ). lines_text (map container_text (list_values net c.list)) ++ bytes) (numbers_are prefer c)
    ∙ lines_joined (map container_text (list_values net c.list)) (numbers_texts prefer c)

pub no_report_lines : no_report ≡ lines_text no_report_texts
unfolding no_report
no_report_lines = refl

-- each of them is a comment

container_comments : (values : List ℕ) → All (λ (a : ℕ). a < 2 ^ 128) values → All IsComment (map container_text values)
container_comments [] h = All-nil IsComment
container_comments (v ∷ vs) h =
    let below = All-head (λ (a : ℕ). a < 2 ^ 128) v vs h in
    All-cons IsComment (container_text v) (map container_text vs)
    (comment (container_text v) refl (lacks_joined 10 (codes "# container ") (address_text v)
    (plain_lacks 10 (codes "# container ") refl) (address_lacks v below)))
    (container_comments vs (All-tail (λ (a : ℕ). a < 2 ^ 128) v vs h))

number_comment : (word : List ℕ) (number : ℕ) → Lacks 10 word → IsComment (number_text word number)
number_comment word number lacks =
    comment (number_text word number) refl
    (lacks_joined 10 (codes "# ") (word ++ 32 ∷ decimal number) (plain_lacks 10 (codes "# ") refl)
    (lacks_joined 10 word (32 ∷ decimal number) lacks
    (lacks_joined 10 (32 ∷ []) (decimal number) (plain_lacks 10 (32 ∷ []) refl) (decimal_lacks number))))

sids_comments : (prefer : Prefer) (count : ℕ) → All IsComment (sids_texts prefer count)
sids_comments prefers.Need count = All-nil IsComment
sids_comments prefers.Sids count =
    All-cons IsComment (number_text (codes "sids") count) [] (number_comment (codes "sids") count (plain_lacks 10 (codes "sids") refl))
    (All-nil IsComment)

number_comments : (prefer : Prefer) (c : Compiled) → All IsComment (numbers_texts prefer c)
number_comments prefer c =
    let containers : List ℕ = number_text (codes "containers") c.containers in
    let header : List ℕ = number_text (codes "header") c.header in
    let need : List ℕ = number_text (codes "need") c.need in
    All-cons IsComment containers (sids_texts prefer c.sids ++ header ∷ need ∷ [])
    (number_comment (codes "containers") c.containers (plain_lacks 10 (codes "containers") refl))
    (All-append IsComment (sids_texts prefer c.sids) (header ∷ need ∷ []) (sids_comments prefer c.sids)
    (All-cons IsComment header (need ∷ []) (number_comment (codes "header") c.header (plain_lacks 10 (codes "header") refl))
    (All-cons IsComment need [] (number_comment (codes "need") c.need (plain_lacks 10 (codes "need") refl)) (All-nil IsComment))))

pub report_comments : (net : Network) (prefer : Prefer) (c : Compiled) → HasValues net c → All IsComment (report_texts net prefer c)
report_comments net prefer c has =
    All-append IsComment (map container_text (list_values net c.list)) (numbers_texts prefer c)
    (container_comments (list_values net c.list) (legal_addresses (list_in net c.list) has.0.rules has.1)) (number_comments prefer c)

pub no_report_comments : All IsComment no_report_texts
no_report_comments =
    All-cons IsComment (codes "# none") [] (comment (codes "# none") refl (plain_lacks 10 (codes "# none") refl)) (All-nil IsComment)
