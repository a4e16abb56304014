-- the functions that read the texts of IPv4 addresses and prefixes, and the grammar as a relation, say the same
use Rattle.std.proofs.Common.{◌≡◌, ℕ, ◌≤◌, ◌↔◌, leb, if◌then◌else◌, List, [], ◌∷◌, ◌++◌, Some, None, ◌∙◌, ap, refl, arith}
use Rattle.std.specs.Prelude.{option_and_then}
use Rattle.std.proofs.lemmas.Bool.{leb-true, le-leb, cond-true}
use Rattle.std.proofs.lemmas.Option.{same_Some}
use Rattle.v6_addr.specs.Address.{PrefixValue}
use Rattle.v6_addr.specs.declared.scan4.Place4.{Place4}
use Rattle.v6_addr.specs.Scan.{walked}
use Rattle.v6_addr.specs.Scan4.{start4, behind4, address_at, address4_of_text, length4_of_text, prefix4_of_text}
use Rattle.v6_addr.specs.Text.{length_of_text, length_text}
use Rattle.v6_addr.specs.Text4Terms.{IsAddress4Text, IsPrefix4Text}
use Rattle.v6_addr.proofs.GrammarLaws.{some_cond, some_then}
use Rattle.v6_addr.proofs.Places4.{ended4, address4_reached}
use Rattle.v6_addr.proofs.PrefixFaults4.{address4_no_slash, address4_below}
use Rattle.v6_addr.proofs.PrefixGrammar.{length_is, length_reads, no_length_of_nothing, parts_are, parts_read}

-- ---- addresses

address4_is : (text : List ℕ) (a : ℕ) → address4_of_text text ≡ Some a → IsAddress4Text text a
unfolding address4_of_text
address4_is text a e =
    let went = some_then (λ (place : Place4). address_at place place.number) (walked behind4 start4 text) a e in
    ended4 text went.0 went.0.number a refl went.1 went.2

address4_from : (text : List ℕ) (a : ℕ) → IsAddress4Text text a → address4_of_text text ≡ Some a
unfolding address4_of_text
address4_from text a h =
    let went = address4_reached text a h in
    ap (option_and_then (λ (place : Place4). address_at place place.number)) went.1 ∙ went.2

pub address4_text_is : (text : List ℕ) (a : ℕ) → (address4_of_text text ≡ Some a) ↔ IsAddress4Text text a
address4_text_is text a = (address4_is text a, address4_from text a)

-- ---- lengths

length4_is : (text : List ℕ) (n : ℕ) → length4_of_text text ≡ Some n → (n ≤ 32) × (text ≡ length_text n)
unfolding length4_of_text
length4_is text n e =
    let whole = some_then (λ m. if leb m 32 then Some m else None) (length_of_text text) n e in
    let short = some_cond (leb whole.0 32) (Some whole.0) n whole.2 in
    let same : whole.0 ≡ n = same_Some whole.0 n short.1 in
    let small : whole.0 ≤ 32 = leb-true whole.0 32 short.0 in
    (omega arith, (length_is text whole.0 whole.1).1 ∙ ap length_text same)

length4_reads : (n : ℕ) → n ≤ 32 → length4_of_text (length_text n) ≡ Some n
unfolding length4_of_text
length4_reads n short =
    ap (option_and_then (λ m. if leb m 32 then Some m else None)) (length_reads n (omega arith)) ∙ cond-true _ _ _ (le-leb n 32 short)

no_length4_of_nothing : (n : ℕ) → length4_of_text [] ≡ Some n → ⊥
unfolding length4_of_text
no_length4_of_nothing n e =
    let whole = some_then (λ m. if leb m 32 then Some m else None) (length_of_text []) n e in
    no_length_of_nothing whole.0 whole.1

-- ---- prefixes

prefix4_is : (text : List ℕ) (p : PrefixValue) → prefix4_of_text text ≡ Some p → IsPrefix4Text text p
unfolding prefix4_of_text
prefix4_is text p e =
    let read = parts_are address4_of_text length4_of_text no_length4_of_nothing text p e in
    let len = length4_is read.back p.len read.len in
    let address = address4_is read.front p.value read.address in
    record {
      address_part = read.front;
      parts = read.parts ∙ ap (λ t. read.front ++ (47 ∷ t)) len.1;
      address = address;
      short = len.0;
      is_prefix = (omega (arith, len.0), address4_below read.front p.value address, read.clear);
    }

prefix4_from : (text : List ℕ) (p : PrefixValue) → IsPrefix4Text text p → prefix4_of_text text ≡ Some p
unfolding prefix4_of_text
prefix4_from text p h =
    ap prefix4_of_text h.parts
    ∙ parts_read address4_of_text length4_of_text h.address_part (length_text p.len) p (address4_no_slash h.address_part p.value h.address)
    (address4_from h.address_part p.value h.address) (length4_reads p.len h.short) h.is_prefix.2

pub prefix4_text_is : (text : List ℕ) (p : PrefixValue) → (prefix4_of_text text ≡ Some p) ↔ IsPrefix4Text text p
prefix4_text_is text p = (prefix4_is text p, prefix4_from text p)
