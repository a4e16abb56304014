-- what the walk over the text of an address reaches is what some address begins with
use Rattle.std.proofs.Common.{◌≡◌, ℕ, inl, inr, true, false, List, [], ◌∷◌, ◌++◌, Some, sym, ◌∙◌, ap, subst, refl, arith}
use Rattle.std.specs.Prelude.{option_and_then}
use Rattle.std.proofs.lemmas.Bool.{eq-eqb, cases_lt}
use Rattle.v6_addr.specs.declared.scan.Scanned.{Scanned}
use Rattle.v6_addr.specs.declared.scan.Scanned.TheVariants.{Start, Colon, Group, Between, Gap}
use Rattle.v6_addr.specs.AddressGrammar.{IsAddressText}
use Rattle.v6_addr.specs.AddressFaults.{Begins}
use Rattle.v6_addr.specs.Scan.{walked}
use Rattle.v6_addr.specs.ScanTerms.{behind_digit, behind_colon, behind, reached}
use Rattle.v6_addr.proofs.GrammarLaws.{some_then}
use Rattle.v6_addr.proofs.AddressPlaces.{address_reached, colon_in_group}
use Rattle.v6_addr.proofs.PlaceTexts.{EndsAt, ended_text}
use Rattle.v6_addr.proofs.AddressWalks.{Reaches, walked_append}

-- each place leads on to an end
completed : (place : Scanned) → (rest : List ℕ) × EndsAt (reached place rest)
unfolding walked behind behind_digit behind_colon
completed Start = (58 ∷ 58 ∷ [], refl)
completed Colon = (58 ∷ [], refl)
completed (Group left digits true) = ([], refl)
completed (Group left digits false) =
    elim (cases_lt 0 left) [
      | inl some ↦ (58 ∷ 58 ∷ [], subst EndsAt (sym (colon_in_group left digits false (58 ∷ []) some)) refl)
      | inr none ↦ ([], eq-eqb left 0 (omega arith))
    ]
completed (Between left true) = (48 ∷ [], refl)
completed (Between left false) = (58 ∷ [], refl)
completed (Gap left) = ([], refl)

begun_reached : (text : List ℕ) → Begins IsAddressText text → (place : Scanned) × (reached Start text ≡ Some place)
begun_reached text b =
    let whole = address_reached (text ++ b.rest) b.value b.accepted in
    let parts = some_then (λ q. reached q b.rest) (reached Start text) whole.0 (sym (walked_append behind Start text b.rest) ∙ whole.1) in
    (parts.0, parts.1)

reached_begins : (text : List ℕ) (place : Scanned) → reached Start text ≡ Some place → Begins IsAddressText text
reached_begins text place here =
    let rest = completed place in
    let same : reached Start (text ++ rest.0) ≡ reached place rest.0 =
    walked_append behind Start text rest.0 ∙ ap (option_and_then (λ q. reached q rest.0)) here in
    let whole = ended_text (text ++ rest.0) (subst EndsAt (sym same) rest.1) in
    record { rest = rest.0; value = whole.0; accepted = whole.1 }

pub addresses_reach : Reaches (Begins IsAddressText) behind Start
addresses_reach = record { reached = begun_reached; begins = reached_begins }
