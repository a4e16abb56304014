-- What is hidden by flags, and a network with an entry hidden or shown.
use Rattle.std.proofs.Common.{◌≡◌, ℕ, zero, suc, ◌+◌, ◌<◌, Bool, true, false, ◌==◌, ◌&&◌, List, [], ◌∷◌, ◌++◌, length, get_or, Option, Some, None, refl, sym, ap, ◌∙◌, arith, inl, inr}
use Rattle.std.specs.Prelude.{◌↔◌, not, ◌||◌, nat_lt, replicate, slice_get, slice_set, IsSome, ◌≢◌}
use Rattle.std.specs.List.{list_any}
use Rattle.std.proofs.lemmas.Bool.{cases_Bool, both_ways, and_parts, and_from, not-true, eqb-true, eq-eqb, ltb-true, lt-ltb, false≢true}
use Rattle.std.proofs.lemmas.List.{length-set, get_or-set_same, get_or-set_other}
use Rattle.std.proofs.lemmas.Option.{slice_get_within}
use Rattle.net_model.specs.declared.parts.NetParts.{NetParts}
use Rattle.net_model.specs.declared.hidden.Hidden.{Hidden}
use Rattle.net_model.specs.declared.net.EntryId.{EntryId}
use Rattle.net_model.specs.declared.net.EntryId.TheVariants as ids
use Rattle.net_model.specs.declared.net.Hit.{Hit}
use Rattle.net_model.specs.declared.net.Hit.TheVariants as hits
use Rattle.net_model.specs.Network.{same_hit, is_shown, hit_of_entry}
use Rattle.net_model.specs.NetworkTerms.{network_of, network_with, flagged, hidden_hits, HasFlags, IsMarked, CanHide, IsEdited}
use Rattle.net_model.specs.NetworkRulesTerms.{is_network, IsNetwork}
use Rattle.net_model.specs.NetworkJudgingTerms.{InRange}

-- ---- the flags

not_number : (m n : ℕ) → (m ≡ n → ⊥) → (m == n) ≡ false
not_number m n apart = elim (cases_Bool (m == n)) [ inl is ↦ absurd (apart (eqb-true m n is)) | inr is ↦ is ]

module _ (hit : ℕ → Hit) (numbers : (m n : ℕ) → same_hit (hit m) (hit n) ≡ (m == n)) where
  -- a number before the first is none of them
  before_flags : (k n : ℕ) (flags : List Bool) → k < n → list_any (same_hit (hit k)) (flagged hit n flags) ≡ false
  before_flags k n [] before = refl
  before_flags k n (true ∷ flags) before =
      let apart : same_hit (hit k) (hit n) ≡ false = numbers k n ∙ not_number k n (λ is. omega (arith, is, before)) in
      rw apart (before_flags k (n + 1) flags (omega (arith, before)))
  before_flags k n (false ∷ flags) before = before_flags k (n + 1) flags (omega (arith, before))

  flag_tells : (k n : ℕ) (flags : List Bool) → list_any (same_hit (hit (n + k))) (flagged hit n flags) ≡ get_or flags k false
  flag_tells k n [] = refl
  flag_tells zero n (true ∷ flags) =
      let here : same_hit (hit (n + 0)) (hit n) ≡ true = numbers (n + 0) n ∙ eq-eqb (n + 0) n (omega arith) in rw here refl
  flag_tells zero n (false ∷ flags) = before_flags (n + 0) (n + 1) flags (omega arith)
  flag_tells (suc k) n (true ∷ flags) =
      let apart : same_hit (hit (n + suc k)) (hit n) ≡ false =
      numbers (n + suc k) n ∙ not_number (n + suc k) n (λ is. omega (arith, is)) in
      let next : n + suc k ≡ n + 1 + k = omega arith in
      rw apart (ap (λ m. list_any (same_hit (hit m)) (flagged hit (n + 1) flags)) next ∙ flag_tells k (n + 1) flags)
  flag_tells (suc k) n (false ∷ flags) =
      let next : n + suc k ≡ n + 1 + k = omega arith in
      ap (λ m. list_any (same_hit (hit m)) (flagged hit (n + 1) flags)) next ∙ flag_tells k (n + 1) flags

  flag_here : (k : ℕ) (flags : List Bool) → list_any (same_hit (hit k)) (flagged hit 0 flags) ≡ get_or flags k false
  flag_here k flags =
      let same : k ≡ 0 + k = omega arith in
      ap (λ m. list_any (same_hit (hit m)) (flagged hit 0 flags)) same ∙ flag_tells k 0 flags

-- a hit of another kind is none of them
other_flags : (hit : ℕ → Hit) (h : Hit) → ((n : ℕ) → same_hit h (hit n) ≡ false) → (n : ℕ) (flags : List Bool)
    → list_any (same_hit h) (flagged hit n flags) ≡ false
other_flags hit h apart n [] = refl
other_flags hit h apart n (true ∷ flags) = rw (apart n) (other_flags hit h apart (n + 1) flags)
other_flags hit h apart n (false ∷ flags) = other_flags hit h apart (n + 1) flags

any_append : (test : Hit → Bool) (xs ys : List Hit) → list_any test (xs ++ ys) ≡ (list_any test xs || list_any test ys)
any_append test [] ys = refl
any_append test (x ∷ xs) ys = elim (cases_Bool (test x)) [ inl is ↦ rw is refl | inr is ↦ rw is (any_append test xs ys) ]

or_none : (b : Bool) → (b || false) ≡ b
or_none true = refl
or_none false = refl

sid_flag : (k : ℕ) (sids routes : List Bool)
    → is_shown (flagged hits.Sid 0 sids ++ flagged hits.Route 0 routes) (hits.Sid k) ≡ not (get_or sids k false)
sid_flag k sids routes =
    ap not (any_append (same_hit (hits.Sid k)) (flagged hits.Sid 0 sids) (flagged hits.Route 0 routes)
    ∙ (ap (λ b. list_any (same_hit (hits.Sid k)) (flagged hits.Sid 0 sids) || b) (other_flags hits.Route (hits.Sid k) (λ n. refl) 0 routes)
    ∙ (or_none _ ∙ flag_here hits.Sid (λ m n. refl) k sids)))

route_flag : (k : ℕ) (sids routes : List Bool)
    → is_shown (flagged hits.Sid 0 sids ++ flagged hits.Route 0 routes) (hits.Route k) ≡ not (get_or routes k false)
route_flag k sids routes =
    ap not (any_append (same_hit (hits.Route k)) (flagged hits.Sid 0 sids) (flagged hits.Route 0 routes)
    ∙ (ap (λ b. b || list_any (same_hit (hits.Route k)) (flagged hits.Route 0 routes))
    (other_flags hits.Sid (hits.Route k) (λ n. refl) 0 sids)
    ∙ flag_here hits.Route (λ m n. refl) k routes))

pub other_shown : (h : Hit) (sids routes : List Bool) → ((n : ℕ) → same_hit h (hits.Sid n) ≡ false)
    → ((n : ℕ) → same_hit h (hits.Route n) ≡ false) → is_shown (flagged hits.Sid 0 sids ++ flagged hits.Route 0 routes) h ≡ true
other_shown h sids routes no_sid no_route =
    ap not (any_append (same_hit h) (flagged hits.Sid 0 sids) (flagged hits.Route 0 routes)
    ∙ (ap (λ b. b || list_any (same_hit h) (flagged hits.Route 0 routes)) (other_flags hits.Sid h no_sid 0 sids)
    ∙ other_flags hits.Route h no_route 0 routes))

pub sid_shown : (hidden : Hidden) (n : ℕ) (b : Bool) → b ≡ get_or hidden.sids.items n false
    → not b ≡ is_shown (hidden_hits hidden) (hits.Sid n)
sid_shown hidden n b is = ap not is ∙ sym (sid_flag n hidden.sids.items hidden.routes.items)

pub route_shown : (hidden : Hidden) (n : ℕ) (b : Bool) → b ≡ get_or hidden.routes.items n false
    → not b ≡ is_shown (hidden_hits hidden) (hits.Route n)
route_shown hidden n b is = ap not is ∙ sym (route_flag n hidden.sids.items hidden.routes.items)

pub address_shown : (hidden : Hidden) → true ≡ is_shown (hidden_hits hidden) hits.Address
address_shown hidden = sym (other_shown hits.Address hidden.sids.items hidden.routes.items (λ n. refl) (λ n. refl))

pub nothing_shown : (hidden : Hidden) → true ≡ is_shown (hidden_hits hidden) hits.Nothing
nothing_shown hidden = sym (other_shown hits.Nothing hidden.sids.items hidden.routes.items (λ n. refl) (λ n. refl))

-- no flag is set
none_flagged : (hit : ℕ → Hit) (n k : ℕ) → flagged hit n (replicate k false) ≡ []
none_flagged hit n zero = refl
none_flagged hit n (suc k) = none_flagged hit (n + 1) k

pub none_hidden : (hidden : Hidden) (k l : ℕ) → hidden.sids.items ≡ replicate k false → hidden.routes.items ≡ replicate l false
    → hidden_hits hidden ≡ []
none_hidden hidden k l sids routes =
    ap (λ fs. flagged hits.Sid 0 fs ++ flagged hits.Route 0 hidden.routes.items) sids
    ∙ (ap (λ hs. hs ++ flagged hits.Route 0 hidden.routes.items) (none_flagged hits.Sid 0 k)
    ∙ (ap (flagged hits.Route 0) routes ∙ none_flagged hits.Route 0 l))

-- ---- an entry's flag is set or cleared

pub within_some : {X : Type 0} (xs : List X) (n : ℕ) → IsSome (slice_get xs n) → n < length xs
within_some {X} xs n some = by_case (slice_get xs n) refl some
  where
    by_case : (o : Option X) → slice_get xs n ≡ o → IsSome o → n < length xs
    by_case None at some = absurd (false≢true some)
    by_case (Some x) at some = slice_get_within xs n x at

apart_from : (m n : ℕ) → (m == n) ≡ false → n ≢ m
apart_from m n other = λ is. both_ways _ other (eq-eqb m n (sym is))

module _ (p : NetParts) (old new : Hidden) (flag : Bool) where
  pub marked_there : (entry : EntryId) → CanHide (network_of p) entry → HasFlags p old → IsMarked old new entry flag
      → is_shown (hidden_hits new) (hit_of_entry entry) ≡ not flag
  marked_there (ids.Route n) there flags is =
      let within : n < length old.routes.items = omega (arith, within_some p.routes.items n there, flags.0) in
      sym (route_shown new n flag (sym (ap (λ fs. get_or fs n false) is.0 ∙ get_or-set_same old.routes.items n flag false within)))
  marked_there (ids.Sid n) there flags is =
      let within : n < length old.sids.items = omega (arith, within_some p.sids.items n there, flags.1) in
      sym (sid_shown new n flag (sym (ap (λ fs. get_or fs n false) is.1 ∙ get_or-set_same old.sids.items n flag false within)))
  marked_there (ids.Address n) there flags is = absurd there

  sids_stay : (m : ℕ) → get_or new.sids.items m false ≡ get_or old.sids.items m false
      → is_shown (hidden_hits new) (hits.Sid m) ≡ is_shown (hidden_hits old) (hits.Sid m)
  sids_stay m same = sid_flag m new.sids.items new.routes.items ∙ (ap not same ∙ sym (sid_flag m old.sids.items old.routes.items))

  routes_stay : (m : ℕ) → get_or new.routes.items m false ≡ get_or old.routes.items m false
      → is_shown (hidden_hits new) (hits.Route m) ≡ is_shown (hidden_hits old) (hits.Route m)
  routes_stay m same = route_flag m new.sids.items new.routes.items ∙ (ap not same ∙ sym (route_flag m old.sids.items old.routes.items))

  pub marked_others : (entry : EntryId) → IsMarked old new entry flag → (k : Hit) → same_hit (hit_of_entry entry) k ≡ false
      → is_shown (hidden_hits new) k ≡ is_shown (hidden_hits old) k
  marked_others (ids.Route n) is (hits.Sid m) other = sids_stay m (ap (λ fs. get_or fs m false) is.1)
  marked_others (ids.Route n) is (hits.Route m) other =
      routes_stay m (ap (λ fs. get_or fs m false) is.0
      ∙ get_or-set_other old.routes.items n m flag false (apart_from n m other))
  marked_others (ids.Sid n) is (hits.Sid m) other =
      sids_stay m (ap (λ fs. get_or fs m false) is.1
      ∙ get_or-set_other old.sids.items n m flag false (apart_from n m other))
  marked_others (ids.Sid n) is (hits.Route m) other = routes_stay m (ap (λ fs. get_or fs m false) is.0)
  marked_others (ids.Address n) is (hits.Sid m) other = sids_stay m (ap (λ fs. get_or fs m false) is.1)
  marked_others (ids.Address n) is (hits.Route m) other = routes_stay m (ap (λ fs. get_or fs m false) is.0)
  marked_others entry is hits.Address other = sym (address_shown new) ∙ address_shown old
  marked_others entry is hits.Nothing other = sym (nothing_shown new) ∙ nothing_shown old

  pub marked_flags : (entry : EntryId) → HasFlags p old → IsMarked old new entry flag → HasFlags p new
  marked_flags (ids.Route n) flags is = (
    ap length is.0 ∙ (length-set old.routes.items n flag ∙ flags.0),
    ap length is.1 ∙ flags.1,
  )
  marked_flags (ids.Sid n) flags is = (
    ap length is.0 ∙ flags.0,
    ap length is.1 ∙ (length-set old.sids.items n flag ∙ flags.1),
  )
  marked_flags (ids.Address n) flags is = (ap length is.0 ∙ flags.0, ap length is.1 ∙ flags.1)

  pub edited_by : (entry : EntryId) → CanHide (network_of p) entry → HasFlags p old → IsMarked old new entry flag
      → IsEdited (network_with p old) (network_with p new) (hit_of_entry entry) (not flag)
  edited_by entry there flags is =
      record { same = refl; there = marked_there entry there flags is; others = marked_others entry is }

-- a flag that is cleared and set again is as it was
set_back : (flags : List Bool) (n : ℕ) (b c : Bool) → n < length flags → get_or flags n false ≡ b → slice_set (slice_set flags n c) n b
    ≡ flags
set_back [] n b c within is = absurd (omega (arith, within))
set_back (f ∷ fs) zero b c within is = ap (λ g. g ∷ fs) (sym is)
set_back (f ∷ fs) (suc n) b c within is = ap (λ gs. f ∷ gs) (set_back fs n b c (omega (arith, within)) is)

not_back : (b c : Bool) → not b ≡ c → b ≡ not c
not_back true c is = ap not is
not_back false c is = ap not is

pub marked_back : (p : NetParts) (old mid new : Hidden) (entry : EntryId) → CanHide (network_of p) entry → HasFlags p old
    → is_shown (hidden_hits old) (hit_of_entry entry) ≡ false → IsMarked old mid entry false → IsMarked mid new entry true
    → network_with p new ≡ network_with p old
marked_back p old mid new (ids.Route n) there flags hidden out back =
    let within : n < length old.routes.items = omega (arith, within_some p.routes.items n there, flags.0) in
    let was : get_or old.routes.items n false ≡ true =
    not_back (get_or old.routes.items n false) false (sym (route_flag n old.sids.items old.routes.items) ∙ hidden) in
    let routes = back.0 ∙ (ap (λ fs. slice_set fs n true) out.0 ∙ set_back old.routes.items n true false within was) in
    let sids = back.1 ∙ out.1 in
    λ i. record (network_of p) { hidden = flagged hits.Sid 0 (sids i) ++ flagged hits.Route 0 (routes i) }
marked_back p old mid new (ids.Sid n) there flags hidden out back =
    let within : n < length old.sids.items = omega (arith, within_some p.sids.items n there, flags.1) in
    let was : get_or old.sids.items n false ≡ true =
    not_back (get_or old.sids.items n false) false (sym (sid_flag n old.sids.items old.routes.items) ∙ hidden) in
    let sids = back.1 ∙ (ap (λ fs. slice_set fs n true) out.1 ∙ set_back old.sids.items n true false within was) in
    let routes = back.0 ∙ out.0 in
    λ i. record (network_of p) { hidden = flagged hits.Sid 0 (sids i) ++ flagged hits.Route 0 (routes i) }
marked_back p old mid new (ids.Address n) there flags hidden out back = absurd there

-- ---- what doesn't look at what is hidden

pub rules_with : (p : NetParts) (hidden : Hidden) → IsNetwork (network_of p) → IsNetwork (network_with p hidden)
unfolding is_network
rules_with p hidden rules = rules

pub range_with : (p : NetParts) (hidden : Hidden) → InRange (network_of p) → InRange (network_with p hidden)
range_with p hidden r = record {
  blocks = r.blocks;
  nodes = r.nodes;
  links = r.links;
  routes = r.routes;
  policies = r.policies;
  titles = r.titles;
  title_numbers = r.title_numbers;
  sids = r.sids;
}

pub can_hide_of : (p : NetParts) (hidden : Hidden) (entry : EntryId) → CanHide (network_with p hidden) entry → CanHide (network_of p) entry
can_hide_of p hidden (ids.Route n) can = can
can_hide_of p hidden (ids.Sid n) can = can
can_hide_of p hidden (ids.Address n) can = can

-- ---- whether nothing is hidden

module _ (test : Bool → Bool) (set : test true ≡ true) (clear : test false ≡ false) where
  none_set : (hit : ℕ → Hit) (n : ℕ) (flags : List Bool) → list_any test flags ≡ false → flagged hit n flags ≡ []
  none_set hit n [] none = refl
  none_set hit n (true ∷ flags) none = absurd (false≢true (sym (rw set at none)))
  none_set hit n (false ∷ flags) none = none_set hit (n + 1) flags (rw clear at none)

  set_none : (hit : ℕ → Hit) (n : ℕ) (flags : List Bool) → flagged hit n flags ≡ [] → list_any test flags ≡ false
  set_none hit n [] none = refl
  set_none hit n (true ∷ flags) none = cc
  set_none hit n (false ∷ flags) none = rw clear (set_none hit (n + 1) flags none)

  pub whole_is : (hidden : Hidden) → ((not (list_any test hidden.sids.items) && not (list_any test hidden.routes.items)) ≡ true)
      ↔ (hidden_hits hidden ≡ [])
  whole_is hidden = (
    λ h. let both = and_parts _ _ h in
        ap (λ hs. hs ++ flagged hits.Route 0 hidden.routes.items) (none_set hits.Sid 0 hidden.sids.items (not-true _ both.0))
        ∙ none_set hits.Route 0 hidden.routes.items (not-true _ both.1),
    λ none. let parts = no_items (flagged hits.Sid 0 hidden.sids.items) (flagged hits.Route 0 hidden.routes.items) none in
        and_from _ _ (ap not (set_none hits.Sid 0 hidden.sids.items parts.0)) (ap not (set_none hits.Route 0 hidden.routes.items parts.1)),
  )
    where
      no_items : (xs ys : List Hit) → xs ++ ys ≡ [] → (xs ≡ []) × (ys ≡ [])
      no_items [] ys none = (refl, none)
      no_items (x ∷ xs) ys none = cc

-- ---- what can be hidden

some_there : {X : Type 0} (xs : List X) (n : ℕ) → n < length xs → IsSome (slice_get xs n)
some_there [] n within = absurd (omega (arith, within))
some_there (x ∷ xs) zero within = refl
some_there (x ∷ xs) (suc n) within = some_there xs n (omega (arith, within))

pub there_is : {X : Type 0} (xs : List X) (n k : ℕ) → k ≡ length xs → ((nat_lt n k ≡ true) ↔ IsSome (slice_get xs n))
there_is xs n k is = (
  λ below. let within = ltb-true n k below in some_there xs n (omega (arith, within, is)),
  λ some. let within = within_some xs n some in lt-ltb n k (omega (arith, within, is)),
)
