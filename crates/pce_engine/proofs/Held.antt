-- Lemmas on the networks that are held.
use Rattle.std.proofs.Common.{◌≡◌, ℕ, zero, suc, ◌<◌, Bool, true, false, List, [], ◌∷◌, ◌++◌, length, get_or, set, Option, Some, None, refl, sym, ap, ◌∙◌, arith, inl, inr}
use Rattle.std.specs.List.{position_from, position, slice_get}
use Rattle.std.proofs.lemmas.Bool.{cases_Bool}
use Rattle.std.proofs.lemmas.List.Quantifiers.{position-Some}
use Rattle.net_model.specs.Network.{Network}
use Rattle.net_model.proofs.PublicLaws.{position_None}
use Rattle.pce_engine.specs.EngineReplies.{is_named, with_network}
use Rattle.pce_engine.specs.declared.networks.Holding.{Holding}

put_first : (name : List ℕ) (net : Network) (held : List Holding) (at : ℕ)
    → let new : Holding = record { name = name; network = net } in
    at < length held → is_named name (get_or held at new) ≡ true
    → ((k : ℕ) → k < at → is_named name (get_or held k new) ≡ false)
    → with_network name net held ≡ set held at new
put_first name net [] at within is before = absurd (omega arith)
put_first name net (h ∷ hs) zero within is before = rw is refl
put_first name net (h ∷ hs) (suc at) within is before =
    rw (before 0 (omega arith)) (ap (λ rest. h ∷ rest) (put_first name net hs at (omega arith) is (λ k less. before (suc k) (omega arith))))

-- a network comes in the place of the one that had its name
pub put_at : (name : List ℕ) (net : Network) (held : List Holding) (at : ℕ) → position (is_named name) held ≡ Some at
    → with_network name net held ≡ set held at (record { name = name; network = net })
put_at name net held at found =
    let new : Holding = record { name = name; network = net } in
    let first = position-Some (is_named name) held at new found in
    put_first name net held at first.0 first.1 first.2

put_last : (name : List ℕ) (net : Network) (held : List Holding)
    → ((i : ℕ) (h : Holding) → slice_get held i ≡ Some h → is_named name h ≡ false)
    → with_network name net held ≡ held ++ record { name = name; network = net } ∷ []
put_last name net [] none = refl
put_last name net (h ∷ hs) none =
    rw (none 0 h refl) (ap (λ rest. h ∷ rest) (put_last name net hs (λ i x e. none (suc i) x e)))

-- or behind the others, where none has its name
pub put_behind : (name : List ℕ) (net : Network) (held : List Holding) → position (is_named name) held ≡ None
    → with_network name net held ≡ held ++ record { name = name; network = net } ∷ []
put_behind name net held none = put_last name net held (position_None (is_named name) held none)
