-- Each entry of the joined network that is of the new description has an equal entry there, and the other way round; and where
-- nothing keeps the network from passing over, no entry that goes or comes meets one of the other description.
use Rattle.std.proofs.Common.{◌≡◌, ◌⊎◌, ℕ, zero, suc, ◌+◌, Bool, true, false, ◌&&◌, ◌||◌, not, List, [], ◌∷◌, length, Option, Some, None, refl, sym, ap, ◌∙◌, subst, arith, inl, inr}
use Rattle.std.proofs.lemmas.Bool.{cases_Bool, cases_lt, and_from, or_parts, or_left, or_right, eq-eqb}
use Rattle.std.proofs.lemmas.Option.{same_Some, slice_get_past}
use Rattle.std.specs.List.{slice_get, list_any}
use Rattle.v6_addr.specs.Address.{PrefixValue, Holds}
use Rattle.v6_addr.proofs.PublicLaws.{holds_address_is, Holds_nested}
use Rattle.srv6_rules.specs.declared.family.Family.{Family}
use Rattle.srv6_rules.specs.declared.family.Family.TheVariants as families
use Rattle.srv6_rules.specs.declared.sid.SidEntry.{SidEntry}
use Rattle.net_model.specs.declared.parts.Route.{Route}
use Rattle.net_model.specs.declared.net.Hit.{Hit}
use Rattle.net_model.specs.declared.net.Hit.TheVariants as hits
use Rattle.net_model.specs.Network.{Network}
use Rattle.net_model.specs.NetworkJudging.{title_text, same_text}
use Rattle.net_model.specs.NetworkKeeps.{Keeps}
use Rattle.net_model.specs.Entries.{IsEntryAs}
use Rattle.net_model.proofs.PublicLaws.{same_family_from}
use Rattle.update_spec.specs.Equal.{equal_route, equal_sid}
use Rattle.update_spec.specs.Joined.{is_old_route, is_new_route, is_old_sid, is_new_sid, added_sids, numbered, joined_of}
use Rattle.update_spec.specs.Planning.{Item, items_from, route_item, sid_item, address_item, items_of, new_items, in_one_table, meet, conflict}
use Rattle.update_spec.specs.Lookups.{SameSid, SameHit}
use Rattle.update_theory.specs.LookupsTerms.{passes_or_absent, stays, is_of_new}
use Rattle.update_theory.proofs.PlanLists.{any_at, get_front, none_parts}
use Rattle.update_theory.proofs.PlanParts.{HasNoFault}
use Rattle.update_theory.proofs.SameItems.{sids_are, routes_are, get_behind, get_past, any_found, filtered_from, filtered_to, Renumbered, renumbered_at, none_renumbered_at, renumbered_same, text_front}

-- ---- from the joined network to the new one

abbrev Partner : Network → Network → ℕ → ℕ → Family → PrefixValue → Hit → Type 0
Partner old new node table family p h =
    (k : Hit) × IsEntryAs new node table family p k × SameHit (joined_of old new) new h k

pub option_cases : {X : Type 0} (o : Option X) → ((x : X) × (o ≡ Some x)) ⊎ (o ≡ None)
option_cases None = inr refl
option_cases (Some x) = inl (x, refl)

pub old_sid_text : (old new : Network) (n : ℕ) (s : SidEntry) → Keeps old → slice_get old.sids n ≡ Some s
    → title_text (joined_of old new).titles s ≡ title_text old.titles s
old_sid_text old new n s keeps at = text_front old.titles _ s.title (keeps.sid n s at).title

moved : (old new : Network) (n : ℕ) (s t : SidEntry) → Keeps old → slice_get old.sids n ≡ Some s → SameSid old new s t
    → SameSid (joined_of old new) new s t
moved old new n s t keeps at same = record {
  node = same.node;
  prefix = same.prefix;
  behaviour = same.behaviour;
  csid = same.csid;
  block_len = same.block_len;
  psp = same.psp;
  usp = same.usp;
  usd = same.usd;
  links = same.links;
  title = old_sid_text old new n s keeps at ∙ same.title;
}

-- an added SID, by its place among those that are added
added_renumbered : (old new : Network) (i : ℕ) (t : SidEntry) → slice_get (added_sids old new) i ≡ Some t
    → (s : SidEntry) × (slice_get (numbered new.titles (length old.titles) (added_sids old new)) i ≡ Some s)
    × Renumbered (joined_of old new).titles new.titles s t
added_renumbered old new i t at = renumbered_at new.titles (joined_of old new).titles old.titles (added_sids old new) i t refl at

-- and the other way round
pub added_from : (old new : Network) (i : ℕ) (s : SidEntry)
    → slice_get (numbered new.titles (length old.titles) (added_sids old new)) i ≡ Some s
    → (t : SidEntry) × (slice_get (added_sids old new) i ≡ Some t) × Renumbered (joined_of old new).titles new.titles s t
added_from old new i s at =
    elim (option_cases (slice_get (added_sids old new) i)) [
      | inl some ↦ let (u, there, r) = added_renumbered old new i some.0 some.1 in
          (some.0, some.1, subst (λ x. Renumbered (joined_of old new).titles new.titles x some.0) (same_Some u s (sym there ∙ at)) r)
      | inr none ↦ let gone = none_renumbered_at new.titles (length old.titles) (added_sids old new) i none in cc
    ]

sid_partner : (old new : Network) (node table : ℕ) (family : Family) (p : PrefixValue) (n : ℕ) (s : SidEntry) (m : ℕ) (t : SidEntry)
    → slice_get (joined_of old new).sids n ≡ Some s → s.node ≡ node → s.prefix ≡ p → (table ≡ 0) × (family ≡ families.V6)
    → slice_get new.sids m ≡ Some t → SameSid (joined_of old new) new s t → Partner old new node table family p (hits.Sid n)
sid_partner old new node table family p n s m t at of is first there same =
    (hits.Sid m, (t, there, sym same.node ∙ of, sym same.prefix ∙ is, first.0, first.1), (s, t, at, there, same))

passing : {X : Type 0} (test : X → Bool) (o : Option X) (x : X) → o ≡ Some x → passes_or_absent test o ≡ true → test x ≡ true
passing test o x e h = subst (λ q. passes_or_absent test q ≡ true) e h

pub partner : (old new : Network) (node table : ℕ) (family : Family) (p : PrefixValue) (h : Hit) → Keeps old → HasNoFault old new
    → IsEntryAs (joined_of old new) node table family p h → is_of_new old new h ≡ true → Partner old new node table family p h
partner old new node table family p (hits.Sid n) keeps fine (s, at, of, is, first, v6) new_too =
    elim (option_cases (slice_get old.sids n)) [
      | inl some ↦
          let s0 = some.0 in
          let same : s0 ≡ s = same_Some s0 s (sym (get_front old.sids _ n s0 some.1) ∙ at) in
          let (m, t, there, equal) = any_found (equal_sid old new s0) new.sids (passing (is_new_sid old new) _ s0 some.1 new_too) in
          sid_partner old new node table family p n s m t at of is (first, v6) there
          (subst (λ x. SameSid (joined_of old new) new x t) same (moved old new n s0 t keeps some.1 (sids_are old new s0 t equal)))
      | inr none ↦
          let (i, behind) = get_past old.sids _ n s none at in
          let (t, added, r) = added_from old new i s behind in
          let (m, there, kept) = filtered_from (λ u. not (is_old_sid old new u)) new.sids i t added in
          sid_partner old new node table family p n s m t at of is (first, v6) there (renumbered_same (joined_of old new) new s t r)
    ]
partner old new node table family p hits.Address keeps fine (n, at, is, first, v6) new_too =
    (hits.Address, (n, ap (λ ns. slice_get ns node) (sym fine.nodes) ∙ at, is, first, v6), tt)
partner old new node table family p (hits.Route n) keeps fine (r, at, of, in_table, of_family, is) new_too =
    elim (option_cases (slice_get old.routes n)) [
      | inl some ↦
          let r0 = some.0 in
          let same : r0 ≡ r = same_Some r0 r (sym (get_front old.routes _ n r0 some.1) ∙ at) in
          let (m, q, there, equal) = any_found (equal_route r0) new.routes (passing (is_new_route new) _ r0 some.1 new_too) in
          let found : slice_get new.routes m ≡ Some r = there ∙ ap Some (sym (routes_are r0 q equal) ∙ same) in
          (hits.Route m, (r, found, of, in_table, of_family, is), (r, at, found))
      | inr none ↦
          let (i, behind) = get_past old.routes _ n r none at in
          let (m, there, kept) = filtered_from (λ q. not (is_old_route old q)) new.routes i r behind in
          (hits.Route m, (r, there, of, in_table, of_family, is), (r, at, there))
    ]
partner old new node table family p hits.Nothing keeps fine none new_too = absurd none

-- ---- and back

abbrev PartnerBack : Network → Network → ℕ → ℕ → Family → PrefixValue → Hit → Type 0
PartnerBack old new node table family p k =
    (h : Hit) × IsEntryAs (joined_of old new) node table family p h × (is_of_new old new h ≡ true) × SameHit (joined_of old new) new h k

sid_back : (old new : Network) (node table : ℕ) (family : Family) (p : PrefixValue) (m : ℕ) (t : SidEntry) (n : ℕ) (s : SidEntry)
    → slice_get new.sids m ≡ Some t → t.node ≡ node → t.prefix ≡ p → (table ≡ 0) × (family ≡ families.V6)
    → slice_get (joined_of old new).sids n ≡ Some s → is_of_new old new (hits.Sid n) ≡ true → SameSid (joined_of old new) new s t
    → PartnerBack old new node table family p (hits.Sid m)
sid_back old new node table family p m t n s at of is first there stays_there same =
    (hits.Sid n, (s, there, same.node ∙ of, same.prefix ∙ is, first.0, first.1), stays_there, (s, t, there, at, same))

pub partner_back : (old new : Network) (node table : ℕ) (family : Family) (p : PrefixValue) (k : Hit) → Keeps old → HasNoFault old new
    → IsEntryAs new node table family p k → PartnerBack old new node table family p k
partner_back old new node table family p (hits.Sid m) keeps fine (t, at, of, is, first, v6) =
    elim (cases_Bool (is_old_sid old new t)) [
      | inl kept ↦
          let (n, s, there, equal) = any_found (λ x. equal_sid old new x t) old.sids kept in
          sid_back old new node table family p m t n s at of is (first, v6) (get_front old.sids _ n s there)
          (ap (passes_or_absent (is_new_sid old new)) there ∙ any_at (equal_sid old new s) new.sids m t at equal)
          (moved old new n s t keeps there (sids_are old new s t equal))
      | inr added ↦
          let (i, among) = filtered_to (λ u. not (is_old_sid old new u)) new.sids m t at (ap not added) in
          let (s, there, r) = added_renumbered old new i t among in
          sid_back old new node table family p m t (length old.sids + i) s at of is (first, v6)
          (get_behind old.sids _ i ∙ there)
          (ap (passes_or_absent (is_new_sid old new)) (slice_get_past old.sids (length old.sids + i) (omega arith)))
          (renumbered_same (joined_of old new) new s t r)
    ]
partner_back old new node table family p hits.Address keeps fine (n, at, is, first, v6) =
    (hits.Address, (n, ap (λ ns. slice_get ns node) fine.nodes ∙ at, is, first, v6), refl, tt)
partner_back old new node table family p (hits.Route m) keeps fine (r, at, of, in_table, of_family, is) =
    elim (cases_Bool (is_old_route old r)) [
      | inl kept ↦
          let (n, q, there, equal) = any_found (λ x. equal_route x r) old.routes kept in
          let found : slice_get (joined_of old new).routes n ≡ Some r =
          get_front old.routes _ n q there ∙ ap Some (routes_are q r equal) in (
            hits.Route n,
            (r, found, of, in_table, of_family, is),
            ap (passes_or_absent (is_new_route new)) there ∙ any_at (equal_route q) new.routes m r at equal,
            (r, found, at),
          )
      | inr added ↦
          let (i, among) = filtered_to (λ q. not (is_old_route old q)) new.routes m r at (ap not added) in
          let found : slice_get (joined_of old new).routes (length old.routes + i) ≡ Some r = get_behind old.routes _ i ∙ among in (
            hits.Route (length old.routes + i),
            (r, found, of, in_table, of_family, is),
            ap (passes_or_absent (is_new_route new)) (slice_get_past old.routes (length old.routes + i) (omega arith)),
            (r, found, at),
          )
    ]
partner_back old new node table family p hits.Nothing keeps fine none = absurd none

-- ---- entries that hold one address

-- what an entry is among those that are compared
record IsItem (node table : ℕ) (family : Family) (p : PrefixValue) (kept : Bool) (i : Item) : Type 0 where
  node_is : i.node ≡ node
  table_is : i.table ≡ table
  family_is : i.family ≡ family
  prefix_is : i.prefix ≡ p
  kept_is : i.kept ≡ kept

none_at : {X : Type 0} (test : Item → Bool) (item : ℕ → X → Item) (c : ℕ) (xs : List X) (n : ℕ) (x : X)
    → list_any test (items_from item c xs) ≡ false → slice_get xs n ≡ Some x → (m : ℕ) × (m ≡ c + n) × (test (item m x) ≡ false)
none_at test item c [] n x h at = cc
none_at test item c (y ∷ xs) zero x h at =
    let parts = or_parts (test (item c y)) (list_any test (items_from item (c + 1) xs)) h in
    let same : c ≡ c + 0 = omega arith in
    (c, same, ap (λ z. test (item c z)) (sym (same_Some y x at)) ∙ parts.0)
none_at test item c (y ∷ xs) (suc n) x h at =
    let parts = or_parts (test (item c y)) (list_any test (items_from item (c + 1) xs)) h in
    let found = none_at test item (c + 1) xs n x parts.1 at in
    let is : found.0 ≡ c + 1 + n = found.1 in
    let same : found.0 ≡ c + suc n = omega (arith, is) in
    (found.0, same, found.2)

-- an entry of a description is an item that fails where all items do
fails_at : (test : Item → Bool) (route_kept : Route → Bool) (sid_kept : SidEntry → Bool) (net : Network) (node table : ℕ) (family : Family)
    (p : PrefixValue) (h : Hit) → list_any test (items_of route_kept sid_kept net) ≡ false → IsEntryAs net node table family p h
    → (i : Item) × IsItem node table family p (stays route_kept sid_kept net h) i × (test i ≡ false)
fails_at test route_kept sid_kept net node table family p (hits.Sid n) none (s, at, of, is, first, v6) =
    let rest = (none_parts test (items_from (route_item route_kept) 0 net.routes) _ none).1 in
    let sids = (none_parts test (items_from (sid_item net.titles sid_kept) 0 net.sids) _ rest).0 in
    let (m, place, fails) = none_at test (sid_item net.titles sid_kept) 0 net.sids n s sids at in (
      sid_item net.titles sid_kept m s,
      record {
        node_is = of;
        table_is = sym first;
        family_is = sym v6;
        prefix_is = is;
        kept_is = sym (ap (passes_or_absent sid_kept) at);
      },
      fails,
    )
fails_at test route_kept sid_kept net node table family p hits.Address none (n, at, is, first, v6) =
    let rest = (none_parts test (items_from (route_item route_kept) 0 net.routes) _ none).1 in
    let nodes = (none_parts test (items_from (sid_item net.titles sid_kept) 0 net.sids) _ rest).1 in
    let (m, place, fails) = none_at test address_item 0 net.nodes node n nodes at in (
      address_item m n,
      record { node_is = omega (arith, place); table_is = sym first; family_is = sym v6; prefix_is = sym is; kept_is = refl },
      fails,
    )
fails_at test route_kept sid_kept net node table family p (hits.Route n) none (r, at, of, in_table, of_family, is) =
    let routes = (none_parts test (items_from (route_item route_kept) 0 net.routes) _ none).0 in
    let (m, place, fails) = none_at test (route_item route_kept) 0 net.routes n r routes at in (
      route_item route_kept m r,
      record {
        node_is = of;
        table_is = in_table;
        family_is = of_family;
        prefix_is = is;
        kept_is = sym (ap (passes_or_absent route_kept) at);
      },
      fails,
    )
fails_at test route_kept sid_kept net node table family p hits.Nothing none nothing = absurd nothing

holding_meet : (p q : PrefixValue) (a : ℕ) → Holds p a → Holds q a → meet p q ≡ true
holding_meet p q a hp hq =
    elim (cases_lt p.len q.len) [
      | inl shorter ↦ or_left _ _ ((holds_address_is p q.value).1 (Holds_nested p q a (omega (arith, shorter)) hp hq))
      | inr longer ↦ or_right _ _ ((holds_address_is q p.value).1 (Holds_nested q p a longer hq hp))
    ]

both_kept : (k l m s : Bool) → m ≡ true → (not (k && l) && (m || s)) ≡ false → (k ≡ true) × (l ≡ true)
both_kept true true m s e h = (refl, refl)
both_kept true false true s e h = cc
both_kept true false false s e h = cc
both_kept false l true s e h = cc
both_kept false l false s e h = cc

one_place : (node table : ℕ) (family : Family) (p q : PrefixValue) (k l : Bool) (i j : Item) (a : ℕ)
    → IsItem node table family p k i → IsItem node table family q l j
    → Holds p a → Holds q a → (in_one_table i j && meet i.prefix j.prefix) ≡ true
one_place node table family p q k l i j a is_i is_j hp hq =
    and_from _ _ (and_from _ _ (eq-eqb _ _ (is_i.node_is ∙ sym is_j.node_is))
    (and_from _ _ (eq-eqb _ _ (is_i.table_is ∙ sym is_j.table_is)) (same_family_from _ _ (is_i.family_is ∙ sym is_j.family_is))))
    (holding_meet i.prefix j.prefix a (subst (λ r. Holds r a) (sym is_i.prefix_is) hp) (subst (λ r. Holds r a) (sym is_j.prefix_is) hq))

-- an old entry and a new one that hold one address in one table are both kept
pub meeting_are_kept : (old new : Network) (node table : ℕ) (family : Family) (a : ℕ) (p q : PrefixValue) (h k : Hit) → HasNoFault old new
    → IsEntryAs old node table family p h → IsEntryAs new node table family q k → Holds p a → Holds q a
    → (is_of_new old new h ≡ true) × (stays (is_old_route old) (is_old_sid old new) new k ≡ true)
meeting_are_kept old new node table family a p q h k fine is_old is_new hp hq =
    let (i, is_i, none) = fails_at (λ x. list_any (conflict x) (new_items old new)) (is_new_route new) (is_new_sid old new) old node table
    family p h fine.apart is_old in
    let (j, is_j, fails) = fails_at (conflict i) (is_old_route old) (is_old_sid old new) new node table family q k none is_new in
    let both = both_kept i.kept j.kept (in_one_table i j && meet i.prefix j.prefix) (same_text i.title j.title)
    (one_place node table family p q _ _ i j a is_i is_j hp hq) fails in
    (sym is_i.kept_is ∙ both.0, sym is_j.kept_is ∙ both.1)
