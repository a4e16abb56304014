-- What the number of a function means.
use Rattle.std.proofs.Common.{◌≡◌, ℕ, true, List, Option, Some, None, refl, sym, ap, subst}
use Rattle.std.proofs.lemmas.Bool.{both_ways}
use Rattle.std.proofs.lemmas.Slice.Eq.{bytes_eq-Decides}
use Rattle.net_model.specs.Network.{Network}
use Rattle.net_model.proofs.PublicLaws.{position_None, position_item}
use Rattle.intent_reader.specs.Functions.{title_text, is_text, has_title, function_numbered}
use Rattle.intent_reader.specs.FunctionsTerms.{IsFunctionNumbered}

is_text_from : (text : List ℕ) (o : Option (List ℕ)) → o ≡ Some text → is_text text o ≡ true
is_text_from text o e = subst (λ p. is_text text p ≡ true) (sym e) ((bytes_eq-Decides text text).1 refl)

text_of : (text : List ℕ) (o : Option (List ℕ)) → is_text text o ≡ true → o ≡ Some text
text_of text None h = cc
text_of text (Some title) h = ap Some ((bytes_eq-Decides title text).0 h)

function_means : (text : List ℕ) (net : Network) (o : Option ℕ) → function_numbered text net ≡ o → IsFunctionNumbered text net o
function_means text net None h = λ i s e same. both_ways _ (position_None (has_title net.titles text) net.sids h i s e)
    (is_text_from text (title_text net.titles s.title) same)
function_means text net (Some i) h =
    let found = position_item (has_title net.titles text) net.sids i h in
    (found.0, found.1, text_of text (title_text net.titles found.0.title) found.2)

pub function_numbered_means : (text : List ℕ) (net : Network) → IsFunctionNumbered text net (function_numbered text net)
function_numbered_means text net = function_means text net (function_numbered text net) refl
