-- Need not be believed: helps proofs and other laws.
-- Terms beside those of `specs/Without.antt`.
use Rattle.std.specs.Prelude.{ℕ, ◌+◌, Bool, false, List, [], ◌∷◌, take, length, slice_get, Option, None, Some, option_and_then}
use Rattle.std.specs.List.{filter}
use Rattle.net_model.specs.declared.parts.Link.{Link}
use Rattle.net_model.specs.declared.net.Hit.{Hit}
use Rattle.net_model.specs.declared.net.Hit.TheVariants as hits
use Rattle.net_model.specs.Network.{Network}
use Rattle.update_theory.specs.LookupsTerms.{stays}
use Rattle.net_without.specs.Without.{is_up_link, is_left_route, is_left_sid}

-- for each of these links, the first of which has the number n, whether it is up
abbrev pub up_from : List ℕ → List ℕ → ℕ → List Link → List Bool
up_from links nodes n [] = []
up_from links nodes n (l ∷ ls) = is_up_link links nodes n l ∷ up_from links nodes (n + 1) ls

-- the flag of a number, false where there is none
abbrev pub flag_or : Option Bool → Bool
flag_or None = false
flag_or (Some flag) = flag

abbrev pub flag_at : List Bool → ℕ → Bool
flag_at flags n = flag_or (slice_get flags n)

-- a title's text by its number
abbrev pub titled_text : List (List ℕ) → Option ℕ → Option (List ℕ)
titled_text titles title = option_and_then (slice_get titles) title

-- ---- numbers

-- how many items that pass stand before a number
abbrev pub place_left : {X : Type 0} → (X → Bool) → List X → ℕ → ℕ
place_left keep xs n = length (filter keep (take n xs))

-- a route or SID that stays, by the number that it has then: those before it that stay are counted
abbrev pub renumbered : (ℕ → Bool) → Network → Hit → Hit
renumbered up net (hits.Sid n) = hits.Sid (place_left (is_left_sid up) net.sids n)
renumbered up net hits.Address = hits.Address
renumbered up net (hits.Route n) = hits.Route (place_left (is_left_route up) net.routes n)
renumbered up net hits.Nothing = hits.Nothing

-- a hit of a network stays: it is an address, or its route or SID does
abbrev pub is_left_hit : (ℕ → Bool) → Network → Hit → Bool
is_left_hit up net h = stays (is_left_route up) (is_left_sid up) net h
