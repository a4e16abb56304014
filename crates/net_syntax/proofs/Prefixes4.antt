-- What reading the text of an IPv4 prefix gives, from its grammar.
use Rattle.std.proofs.Common.{◌≡◌, ℕ, List, Option, Some, None, refl, sym}
use Rattle.v6_addr.specs.Address.{PrefixValue}
use Rattle.v6_addr.specs.Scan4.{prefix4_of_text}
use Rattle.v6_addr.specs.Text4Terms.{IsPrefix4Text}
use Rattle.v6_addr.proofs.PublicLaws.{prefix4_text_is}

pub prefix4_of_text_Some : (text : List ℕ) (p : PrefixValue) → IsPrefix4Text text p → Some p ≡ prefix4_of_text text
prefix4_of_text_Some text p written = sym ((prefix4_text_is text p).1 written)

none_given : (text : List ℕ) (o : Option PrefixValue) → prefix4_of_text text ≡ o → ((p : PrefixValue) → IsPrefix4Text text p → ⊥)
    → None ≡ prefix4_of_text text
none_given text None is none = sym is
none_given text (Some p) is none = absurd (none p ((prefix4_text_is text p).0 is))

pub prefix4_of_text_None : (text : List ℕ) → ((p : PrefixValue) → IsPrefix4Text text p → ⊥) → None ≡ prefix4_of_text text
prefix4_of_text_None text none = none_given text (prefix4_of_text text) refl none
