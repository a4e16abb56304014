-- Need not be believed: helps proofs and other laws.
-- How the first nested pair is searched for, and what a table of SIDs' prefixes tells of the entries that lie inside them.
use Rattle.std.specs.Prelude.{◌≡◌, ℕ, ◌<◌, Bool, true, false, ◌&&◌, not, List, [], ◌∷◌, find, Option, slice_get, Some, Result, Ok, Contains}
use Rattle.v6_addr.specs.Address.{PrefixValue, IsInside, is_inside}
use Rattle.srv6_rules.specs.declared.sid.SidEntry.{SidEntry}
use Rattle.prefix_table.specs.PrefixTable.{HasPrefix, HasAround}
use Rattle.net_model.specs.declared.parts.Route.{Route}
use Rattle.net_model.specs.Network.{Network}
use Rattle.net_flatness.specs.Nests.{IsNest}
use Rattle.net_flatness.specs.NestTests.{is_nest}
use Rattle.net_flatness.specs.declared.not_flat.NotFlat.{NotFlat}
use Rattle.net_flatness.specs.Flat.{InnerEntry, inner_entries, is_nested, nested, pair_or}

abbrev pub sid_prefix : SidEntry → PrefixValue
sid_prefix s = s.prefix

abbrev pub route_prefix : Route → PrefixValue
route_prefix r = r.prefix

-- a SID lies strictly inside another and is not nested in it
abbrev pub is_nested_sid : Network → SidEntry → SidEntry → Bool
is_nested_sid net outer inner = is_inside inner.prefix outer.prefix && not (is_nest net outer inner)

abbrev pub is_wrongly_in : Network → SidEntry → SidEntry → Bool
is_wrongly_in net inner outer = is_nested_sid net outer inner

abbrev pub is_around : PrefixValue → PrefixValue → Bool
is_around outer inner = is_inside inner outer

-- the first of these prefixes that lies strictly inside the outer one
abbrev pub first_inside : PrefixValue → List PrefixValue → Option PrefixValue
first_inside outer inners = find (is_around outer) inners

-- the first entry that is nested in a SID and may not be
unfoldable pub first_nested : Network → SidEntry → Option InnerEntry
first_nested net outer = find (is_nested net outer) (inner_entries net)

-- the refusal of the first nested pair of these SIDs
abbrev pub first_refused : Network → List SidEntry → Result (Unit {0}) NotFlat
first_refused net [] = Ok tt
first_refused net (s ∷ ss) = pair_or nested s (first_nested net s) (first_refused net ss)

-- ---- tables

-- a table has a prefix more, and those that it had
pub record GetsPrefix {T : Type 0} (old new : List (PrefixValue × T)) (p : PrefixValue) : Type 0 where
  pub has : HasPrefix new p
  pub kept : (q : PrefixValue) → HasPrefix old q → HasPrefix new q

-- what holds of the first items of a list
abbrev pub FirstAre : {X : Type 0} → (X → Type 0) → List X → ℕ → Type 0
FirstAre {X} P xs count = (k : ℕ) (x : X) → k < count → slice_get xs k ≡ Some x → P x

-- a table has the prefix of each SID
abbrev pub HaveTheirPrefixes : {T : Type 0} → List SidEntry → List (PrefixValue × T) → Type 0
HaveTheirPrefixes sids table = (k : ℕ) (s : SidEntry) → slice_get sids k ≡ Some s → HasPrefix table s.prefix

-- the prefix of none of some items lies strictly inside one of a table
abbrev pub NoneAround : {T X : Type 0} → List (PrefixValue × T) → (X → PrefixValue) → List X → Type 0
NoneAround {T} {X} table f xs = (x : X) → Contains xs x → ¬ HasAround table (f x)

-- a SID lies strictly inside no SID but those that it is nested in
abbrev pub NestsWell : Network → SidEntry → Type 0
NestsWell net inner = (outer : SidEntry) → Contains net.sids outer → IsInside inner.prefix outer.prefix → IsNest net outer inner

abbrev pub AllNestWell : Network → List SidEntry → Type 0
AllNestWell net sids = (inner : SidEntry) → Contains sids inner → NestsWell net inner

-- where an answer is not true, a fact holds
abbrev pub Unless : Bool → Type 0 → Type 0
Unless true P = Unit {0}
Unless false P = P
