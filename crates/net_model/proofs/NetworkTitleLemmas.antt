-- Titles are distinct exactly where no two SIDs share one.
use Rattle.std.proofs.Common.{◌≡◌, ℕ, false, ◌==◌, ◌&&◌, ◌||◌, not, List, [], ◌∷◌, Some, None, refl, ap, ◌∙◌}
use Rattle.std.specs.List.{filter_map, cons_option, list_any}
use Rattle.srv6_rules.specs.declared.sid.SidEntry.{SidEntry}
use Rattle.net_model.specs.NetworkRules.{are_distinct, same_number}
use Rattle.net_model.specs.NetworkRulesTerms.{title_of}
use Rattle.net_model.specs.Titles.{same_option, same_title}

-- a SID with no title shares none
none_same : (sids : List SidEntry) → list_any (λ s. same_option None s.title) sids ≡ false
none_same [] = refl
none_same (s ∷ sids) = none_same sids

-- a title is shared where it stands among the titles
some_same : (t : ℕ) (sids : List SidEntry)
    → list_any (λ s. same_option (Some t) s.title) sids ≡ list_any (same_number t) (filter_map title_of sids)
some_same t [] = refl
some_same t (s ∷ sids) =
    elim s.title as (λ o. (same_option (Some t) o || list_any (λ x. same_option (Some t) x.title) sids) ≡ list_any (same_number t)
    (cons_option o (filter_map title_of sids)))
    [ None ↦ some_same t sids | Some u ↦ ap (λ b. (t == u) || b) (some_same t sids) ]

pub are_distinct_titles : (sids : List SidEntry) → are_distinct same_title sids ≡ are_distinct same_number (filter_map title_of sids)
are_distinct_titles [] = refl
are_distinct_titles (s ∷ sids) =
    elim s.title as (λ o. (not (list_any (λ x. same_option o x.title) sids) && are_distinct same_title sids) ≡ are_distinct same_number
    (cons_option o (filter_map title_of sids))) [
      | None ↦ ap (λ b. not b && are_distinct same_title sids) (none_same sids) ∙ are_distinct_titles sids
      | Some t ↦ ap (λ b. not b && are_distinct same_title sids) (some_same t sids)
          ∙ ap (λ b. not (list_any (same_number t) (filter_map title_of sids)) && b) (are_distinct_titles sids)
    ]
