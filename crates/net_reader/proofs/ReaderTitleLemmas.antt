-- A title's number leads to it.
use Rattle.std.proofs.Common.{◌≡◌, ℕ, zero, suc, List, [], ◌∷◌, ◌++◌, length, map, Option, Some, None, option_map, option_to_list, refl, ap, append_assoc, append-nil}
use Rattle.std.specs.Prelude.{slice_get}
use Rattle.std.specs.Option.{option_and_then}
use Rattle.std.specs.List.{cons_option, filter_map}
use Rattle.std.proofs.lemmas.List.{length_push}
use Rattle.net_model.specs.declared.parts.Block.{Block}
use Rattle.net_syntax.specs.declared.sid_table.DescribedSid.{DescribedSid}
use Rattle.net_syntax.specs.declared.description.Description.{Description}
use Rattle.net_reader.specs.Joining.{node_names, link_names, policy_names, joined_block, title_number, behind_title, title_in, joined_sids, joined}

at_its_place : (before : List (List ℕ)) (title : List ℕ) (after : List (List ℕ))
    → slice_get (before ++ title ∷ after) (length before) ≡ Some title
at_its_place [] title after = refl
at_its_place (first ∷ before) title after = at_its_place before title after

first_title : (before : List (List ℕ)) (title : Option (List ℕ)) (after : List (List ℕ))
    → option_and_then (slice_get (before ++ cons_option title after)) (title_number (length before) title) ≡ title
first_title before None after = refl
first_title before (Some title) after = at_its_place before title after

grown : (before : List (List ℕ)) (title : Option (List ℕ)) (after : List (List ℕ))
    → (before ++ option_to_list title) ++ after ≡ before ++ cons_option title after
grown before None after = ap (λ titles. titles ++ after) (append-nil before)
grown before (Some title) after = append_assoc before (title ∷ []) after

length_grown : (before : List (List ℕ)) (title : Option (List ℕ))
    → length (before ++ option_to_list title) ≡ behind_title (length before) title
length_grown before None = ap length (append-nil before)
length_grown before (Some title) = length_push before title

module _ (nodes links policies : List (List ℕ)) (blocks : List Block) where
  titled : (before : List (List ℕ)) (sids : List DescribedSid) (i : ℕ)
      → option_map (λ e. option_and_then (slice_get (before ++ filter_map title_in sids)) e.title)
      (slice_get (joined_sids nodes links policies blocks (length before) sids) i)
      ≡ option_map title_in (slice_get sids i)
  titled before [] i = refl
  titled before (s ∷ ss) zero = ap Some (first_title before s.title (filter_map title_in ss))
  titled before (s ∷ ss) (suc i) =
      rw (← grown before s.title (filter_map title_in ss), ← length_grown before s.title) (titled (before ++ option_to_list s.title) ss i)

pub title_numbered : (said : Description) (i : ℕ)
    → option_map (λ e. option_and_then (slice_get (joined said).titles) e.title) (slice_get (joined said).sids i)
    ≡ option_map title_in (slice_get said.sids i)
title_numbered said = titled (node_names said) (link_names said) (policy_names said) (map joined_block said.blocks) [] said.sids

pub ruleset titles = (title_numbered)
