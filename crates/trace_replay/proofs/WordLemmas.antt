-- Words of lines, by how many they are.
use Rattle.std.proofs.Common.{◌≡◌, ℕ, zero, suc, ◌<◌, ◌≤◌, Bool, true, false, List, [], ◌∷◌, length, Bor, Some, None, refl, sym, ap, arith, map, slice_index_or, bytes_eq}
use Rattle.std.specs.Prelude.{if◌then◌else◌, slice_get}
use Rattle.std.specs.Str.{IsUtf8, is_utf8}
use Rattle.std.proofs.lemmas.Str.{IsUtf8-from_is_utf8, is_utf8-from_IsUtf8}
use Rattle.net_model.specs.declared.parts.Node.{Node}
use Rattle.net_model.specs.NamedTerms.{IsNodeNumbered}
use Rattle.net_model.specs.Network.{Network}
use Rattle.trace_replay.specs.TraceGrammar.{is_stage, line_read, words_of, words_read}
use Rattle.trace_replay.specs.TraceLines.{local_text}

abbrev pub texts_of : List (Bor (List ℕ)) → List (List ℕ)
texts_of words = map (λ word. word.now) words

pub one_word : (d : Bor (List ℕ)) (words : List (Bor (List ℕ))) → 1 ≤ length words → length words < 2
    → is_stage (texts_of words) ≡ bytes_eq (slice_index_or words 0 d).now local_text
one_word d [] some few = absurd (omega (arith, some))
one_word d (a ∷ []) some few = refl
one_word d (a ∷ b ∷ more) some few = absurd (omega (arith, few))

pub two_words : (words : List (Bor (List ℕ))) → 2 ≤ length words → length words < 3 → is_stage (texts_of words) ≡ false
two_words [] some few = absurd (omega (arith, some))
two_words (a ∷ []) some few = absurd (omega (arith, some))
two_words (a ∷ b ∷ []) some few = refl
two_words (a ∷ b ∷ c ∷ more) some few = absurd (omega (arith, few))

pub six_words : (d : Bor (List ℕ)) (words : List (Bor (List ℕ))) → 6 ≤ length words → length words < 7
    → is_stage (texts_of words) ≡ is_stage ((slice_index_or words 0 d).now ∷ (slice_index_or words 1 d).now
    ∷ (slice_index_or words 2 d).now ∷ (slice_index_or words 3 d).now ∷ (slice_index_or words 4 d).now ∷ (slice_index_or words 5 d).now ∷
    [])
six_words d [] some few = absurd (omega (arith, some))
six_words d (a ∷ []) some few = absurd (omega (arith, some))
six_words d (a ∷ b ∷ []) some few = absurd (omega (arith, some))
six_words d (a ∷ b ∷ c ∷ []) some few = absurd (omega (arith, some))
six_words d (a ∷ b ∷ c ∷ e ∷ []) some few = absurd (omega (arith, some))
six_words d (a ∷ b ∷ c ∷ e ∷ f ∷ []) some few = absurd (omega (arith, some))
six_words d (a ∷ b ∷ c ∷ e ∷ f ∷ g ∷ []) some few = refl
six_words d (a ∷ b ∷ c ∷ e ∷ f ∷ g ∷ h ∷ more) some few = absurd (omega (arith, few))

pub many_words : (words : List (Bor (List ℕ))) → 7 ≤ length words → is_stage (texts_of words) ≡ false
many_words [] some = absurd (omega (arith, some))
many_words (a ∷ []) some = absurd (omega (arith, some))
many_words (a ∷ b ∷ []) some = absurd (omega (arith, some))
many_words (a ∷ b ∷ c ∷ []) some = absurd (omega (arith, some))
many_words (a ∷ b ∷ c ∷ e ∷ []) some = absurd (omega (arith, some))
many_words (a ∷ b ∷ c ∷ e ∷ f ∷ []) some = absurd (omega (arith, some))
many_words (a ∷ b ∷ c ∷ e ∷ f ∷ g ∷ []) some = absurd (omega (arith, some))
many_words (a ∷ b ∷ c ∷ e ∷ f ∷ g ∷ h ∷ more) some = refl

-- words that are no stage's line, and neither one nor five, are no line
pub other_words : (net : Network) (words : List (Bor (List ℕ))) → is_stage (texts_of words) ≡ false → (length words ≡ 1 → ⊥)
    → (length words ≡ 5 → ⊥) → None ≡ words_read net (texts_of words)
other_words net [] none one five = refl
other_words net (a ∷ []) none one five = absurd (one refl)
other_words net (a ∷ b ∷ []) none one five = refl
other_words net (a ∷ b ∷ c ∷ []) none one five = rw none refl
other_words net (a ∷ b ∷ c ∷ e ∷ []) none one five = rw none refl
other_words net (a ∷ b ∷ c ∷ e ∷ f ∷ []) none one five = absurd (five refl)
other_words net (a ∷ b ∷ c ∷ e ∷ f ∷ g ∷ []) none one five = rw none refl
other_words net (a ∷ b ∷ c ∷ e ∷ f ∷ g ∷ h ∷ more) none one five = refl

-- a line is text

by_utf8 : (net : Network) (line : List ℕ) (b : Bool) → is_utf8 line ≡ b
    → (if b then words_read net (words_of line) else None) ≡ line_read net line
by_utf8 net line b e = ap (λ (t : Bool). if t then words_read net (words_of line) else None) (sym e)

pub no_text : (net : Network) (line : List ℕ) → (IsUtf8 line → ⊥) → None ≡ line_read net line
no_text net line not_text = by_test (is_utf8 line) refl
  where
    by_test : (b : Bool) → is_utf8 line ≡ b → None ≡ line_read net line
    by_test true e = absurd (not_text (IsUtf8-from_is_utf8 line e))
    by_test false e = by_utf8 net line false e

pub some_text : (net : Network) (line : List ℕ) → IsUtf8 line → words_read net (words_of line) ≡ line_read net line
some_text net line text = by_utf8 net line true (is_utf8-from_IsUtf8 line text)

-- an item that is got is there
node_within : {T : Type 0} (items : List T) (n : ℕ) (item : T) → slice_get items n ≡ Some item → n < length items
node_within [] n item h = cc
node_within (m ∷ ms) zero item h = omega arith
node_within (m ∷ ms) (suc n) item h = omega (arith, node_within ms n item h)

pub named_within : (name : List ℕ) (nodes : List Node) (n : ℕ) → IsNodeNumbered name nodes (Some n) → n < length nodes
named_within name nodes n h = node_within nodes n h.0 h.1

pub ruleset nodes = (named_within)
