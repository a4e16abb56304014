-- Equal SIDs and routes are equal in all fields, and SIDs that are numbered anew keep all but the number of their title.
use Rattle.std.proofs.Common.{◌≡◌, ℕ, suc, zero, ◌+◌, ◌<◌, Bool, true, false, ◌==◌, if◌then◌else◌, List, [], ◌∷◌, ◌++◌, length, Option, Some, None, refl, sym, ap, ap₂, ◌∙◌, subst, append_assoc, arith, inl, inr}
use Rattle.std.proofs.lemmas.Bool.{cases_Bool, and_parts, eqb-true}
use Rattle.std.proofs.lemmas.List.{length-append}
use Rattle.std.proofs.lemmas.Option.{same_Some}
use Rattle.std.specs.Prelude.{option_and_then}
use Rattle.std.specs.Option.{unwrap_or}
use Rattle.std.specs.List.{slice_get, list_any, filter, filter_map, cons_option}
use Rattle.srv6_rules.specs.declared.sid.Behaviour.{Behaviour}
use Rattle.srv6_rules.specs.declared.sid.Behaviour.TheVariants as behaviours
use Rattle.srv6_rules.specs.declared.sid.Csid.{Csid}
use Rattle.srv6_rules.specs.declared.sid.Csid.TheVariants as csids
use Rattle.srv6_rules.specs.declared.family.Family.{Family}
use Rattle.srv6_rules.specs.declared.sid.SidEntry.{SidEntry}
use Rattle.srv6_rules.specs.Behaviours.{behaviour_table, behaviour_policy}
use Rattle.v6_addr.specs.Address.{PrefixValue}
use Rattle.net_model.specs.declared.parts.Route.{Route}
use Rattle.net_model.specs.Network.{Network}
use Rattle.net_model.specs.NetworkRules.{same_bytes, same_number, same_prefix, same_family, same_route}
use Rattle.net_model.specs.NetworkKeeps.{IsTitleOf}
use Rattle.net_model.specs.NetworkJudging.{same_answer, title_text}
use Rattle.update_spec.specs.Equal.{equal_options, equal_route, behaviour_place, equal_behaviour, equal_csid, equal_forms, equal_sid}
use Rattle.update_spec.specs.Joined.{numbered_beside, numbered}
use Rattle.update_spec.specs.Lookups.{SameSid}
use Rattle.update_theory.proofs.Equals.{families_are, same_bytes_are, options_are, same_prefix_are}
use Rattle.update_theory.proofs.PlanLists.{get_seam}

-- ---- equal items

answers_are : (a b : Bool) → same_answer a b ≡ true → a ≡ b
answers_are true true h = refl
answers_are true false h = cc
answers_are false true h = cc
answers_are false false h = refl

csids_are : (a b : Csid) → equal_csid a b ≡ true → a ≡ b
csids_are csids.Plain csids.Plain h = refl
csids_are csids.Plain csids.Next h = cc
csids_are csids.Plain csids.Replace h = cc
csids_are csids.Next csids.Plain h = cc
csids_are csids.Next csids.Next h = refl
csids_are csids.Next csids.Replace h = cc
csids_are csids.Replace csids.Plain h = cc
csids_are csids.Replace csids.Next h = cc
csids_are csids.Replace csids.Replace h = refl

-- the behaviour at a place, with a table or a policy
abbrev behaviour_at : ℕ → Option ℕ → Option ℕ → Behaviour
behaviour_at place table policy =
    if place == 1 then behaviours.End else (if place == 2 then behaviours.EndX else (if place == 3 then behaviours.EndT (unwrap_or table 0)
    else (if place == 4 then behaviours.Dx6
    else (if place == 5 then behaviours.Dx4 else (if place == 6 then behaviours.Dt6 (unwrap_or table 0)
    else (if place == 7 then behaviours.Dt4 (unwrap_or table 0) else (if place == 8 then behaviours.Dt46 (unwrap_or table 0)
    else (if place == 13 then behaviours.B6 (unwrap_or policy 0) else behaviours.B6Red (unwrap_or policy 0)))))))))

its_own : (b : Behaviour) → behaviour_at (behaviour_place b) (behaviour_table b) (behaviour_policy b) ≡ b
its_own behaviours.End = refl
its_own behaviours.EndX = refl
its_own (behaviours.EndT table) = refl
its_own behaviours.Dx6 = refl
its_own behaviours.Dx4 = refl
its_own (behaviours.Dt6 table) = refl
its_own (behaviours.Dt4 table) = refl
its_own (behaviours.Dt46 table) = refl
its_own (behaviours.B6 policy) = refl
its_own (behaviours.B6Red policy) = refl

behaviours_are : (a b : Behaviour) → equal_behaviour a b ≡ true → a ≡ b
behaviours_are a b h =
    let place = and_parts (behaviour_place a == behaviour_place b) _ h in
    let rest = and_parts (equal_options same_number (behaviour_table a) (behaviour_table b))
    (equal_options same_number (behaviour_policy a) (behaviour_policy b)) place.1 in
    let e : behaviour_place a ≡ behaviour_place b = eqb-true _ _ place.0 in
    let f : behaviour_table a ≡ behaviour_table b = options_are same_number (λ x y k. eqb-true x y k) _ _ rest.0 in
    let g : behaviour_policy a ≡ behaviour_policy b = options_are same_number (λ x y k. eqb-true x y k) _ _ rest.1 in
    sym (its_own a) ∙ (ap₂ (λ p t. behaviour_at p t (behaviour_policy a)) e f
    ∙ (ap (λ q. behaviour_at (behaviour_place b) (behaviour_table b) q) g ∙ its_own b))

pub sids_are : (a b : Network) (s t : SidEntry) → equal_sid a b s t ≡ true → SameSid a b s t
sids_are a b s t h =
    let node = and_parts (s.node == t.node) _ h in
    let prefix = and_parts (same_prefix s.prefix t.prefix) _ node.1 in
    let behaviour = and_parts (equal_behaviour s.behaviour t.behaviour) _ prefix.1 in
    let forms = and_parts (equal_forms s t) _ behaviour.1 in
    let rest = and_parts (same_bytes s.links t.links) (equal_options same_bytes (title_text a.titles s) (title_text b.titles t)) forms.1 in
    let csid = and_parts (equal_csid s.csid t.csid) _ forms.0 in
    let block_len = and_parts (s.block_len == t.block_len) _ csid.1 in
    let psp = and_parts (same_answer s.psp t.psp) _ block_len.1 in
    let flavours = and_parts (same_answer s.usp t.usp) (same_answer s.usd t.usd) psp.1 in
    record {
      node = eqb-true _ _ node.0;
      prefix = same_prefix_are s.prefix t.prefix prefix.0;
      behaviour = behaviours_are s.behaviour t.behaviour behaviour.0;
      csid = csids_are s.csid t.csid csid.0;
      block_len = eqb-true _ _ block_len.0;
      psp = answers_are s.psp t.psp psp.0;
      usp = answers_are s.usp t.usp flavours.0;
      usd = answers_are s.usd t.usd flavours.1;
      links = same_bytes_are s.links t.links rest.0;
      title = options_are same_bytes same_bytes_are _ _ rest.1;
    }

abbrev route_with : ℕ → ℕ → Family → PrefixValue → List ℕ → Route
route_with node table family prefix via = record { node = node; table = table; family = family; prefix = prefix; via = via }

pub routes_are : (q r : Route) → equal_route q r ≡ true → q ≡ r
routes_are q r h =
    let same = and_parts (same_route q r) (same_bytes q.via r.via) h in
    let node = and_parts (q.node == r.node) _ same.0 in
    let table = and_parts (q.table == r.table) _ node.1 in
    let rest = and_parts (same_family q.family r.family) (same_prefix q.prefix r.prefix) table.1 in
    let e : q.node ≡ r.node = eqb-true _ _ node.0 in
    let f : q.table ≡ r.table = eqb-true _ _ table.0 in
    ap₂ (λ n t. route_with n t q.family q.prefix q.via) e f
    ∙ (ap₂ (λ g p. route_with r.node r.table g p q.via) (families_are q.family r.family rest.0) (same_prefix_are q.prefix r.prefix rest.1)
    ∙ ap (route_with r.node r.table r.family r.prefix) (same_bytes_are q.via r.via same.1))

-- ---- items by their numbers

get_more : {X : Type 0} (xs ys : List X) (n : ℕ) → n < length xs → slice_get (xs ++ ys) n ≡ slice_get xs n
get_more [] ys n h = absurd (omega (arith, h))
get_more (x ∷ xs) ys zero h = refl
get_more (x ∷ xs) ys (suc n) h = get_more xs ys n (omega (arith, h))

pub get_behind : {X : Type 0} (xs ys : List X) (i : ℕ) → slice_get (xs ++ ys) (length xs + i) ≡ slice_get ys i
get_behind [] ys i = ap (slice_get ys) (omega arith)
get_behind (x ∷ xs) ys i =
    let shift : suc (length xs) + i ≡ suc (length xs + i) = omega arith in
    ap (slice_get (x ∷ (xs ++ ys))) shift ∙ get_behind xs ys i

-- an item that isn't in front is behind
pub get_past : {X : Type 0} (xs ys : List X) (n : ℕ) (x : X) → slice_get xs n ≡ None → slice_get (xs ++ ys) n ≡ Some x
    → (i : ℕ) × (slice_get ys i ≡ Some x)
get_past [] ys n x none at = (n, at)
get_past (z ∷ xs) ys zero x none at = cc
get_past (z ∷ xs) ys (suc n) x none at = get_past xs ys n x none at

pub any_found : {X : Type 0} (p : X → Bool) (xs : List X) → list_any p xs ≡ true
    → (n : ℕ) × (x : X) × (slice_get xs n ≡ Some x) × (p x ≡ true)
any_found p [] h = cc
any_found p (x ∷ xs) h =
    elim (cases_Bool (p x)) [
      | inl is ↦ (0, x, refl, is)
      | inr other ↦ let (n, y, at, is) = any_found p xs (rw other at h) in (suc n, y, at, is)
    ]

pub filtered_from : {X : Type 0} (keep : X → Bool) (xs : List X) (i : ℕ) (x : X) → slice_get (filter keep xs) i ≡ Some x
    → (n : ℕ) × (slice_get xs n ≡ Some x) × (keep x ≡ true)
filtered_from keep [] i x at = cc
filtered_from keep (y ∷ xs) i x at =
    elim (cases_Bool (keep y)) [
      | inl is ↦ first keep y xs i x is (filtered_from keep xs) (rw is at at)
      | inr other ↦ let (n, from, kept) = filtered_from keep xs i x (rw other at at) in (suc n, from, kept)
    ]
  where
    first : {X : Type 0} (keep : X → Bool) (y : X) (xs : List X) (i : ℕ) (x : X) → keep y ≡ true
        → ((i : ℕ) (x : X) → slice_get (filter keep xs) i ≡ Some x → (n : ℕ) × (slice_get xs n ≡ Some x) × (keep x ≡ true))
        → slice_get (y ∷ filter keep xs) i ≡ Some x → (n : ℕ) × (slice_get (y ∷ xs) n ≡ Some x) × (keep x ≡ true)
    first keep y xs zero x is f at = (0, at, subst (λ z. keep z ≡ true) (same_Some y x at) is)
    first keep y xs (suc i) x is f at = let (n, from, kept) = f i x at in (suc n, from, kept)

pub filtered_to : {X : Type 0} (keep : X → Bool) (xs : List X) (n : ℕ) (x : X) → slice_get xs n ≡ Some x → keep x ≡ true
    → (i : ℕ) × (slice_get (filter keep xs) i ≡ Some x)
filtered_to keep [] n x at is = cc
filtered_to keep (y ∷ xs) zero x at is =
    let e : y ≡ x = same_Some y x at in
    let kept : keep y ≡ true = ap keep e ∙ is in
    (0, rw kept (ap Some e))
filtered_to keep (y ∷ xs) (suc n) x at is =
    let (i, there) = filtered_to keep xs n x at is in
    elim (cases_Bool (keep y)) [ inl kept ↦ (suc i, rw kept there) | inr other ↦ (i, rw other there) ]

-- ---- SIDs whose titles are numbered anew

-- the same SID but for the number of its title, and the title's text is the same
pub record Renumbered (titles texts : List (List ℕ)) (s t : SidEntry) : Type 0 where
  pub is : s ≡ record t { title = s.title }
  pub text : title_text titles s ≡ title_text texts t

text_at : (titles front rest : List (List ℕ)) (u : List ℕ) → titles ≡ front ++ u ∷ rest → slice_get titles (length front) ≡ Some u
text_at titles front rest u e = rw e (get_seam front u rest)

one_title : (u : List ℕ) (front rest titles : List (List ℕ)) → titles ≡ front ++ u ∷ rest → titles ≡ (front ++ u ∷ []) ++ rest
one_title u front rest titles e = e ∙ sym (append_assoc front (u ∷ []) rest)

abbrev IsNumberedAt : List (List ℕ) → List (List ℕ) → List SidEntry → ℕ → SidEntry → Type 0
IsNumberedAt titles texts ss i t = (s : SidEntry) × (slice_get ss i ≡ Some s) × Renumbered titles texts s t

pub renumbered_at : (texts titles front : List (List ℕ)) (ss : List SidEntry) (i : ℕ) (t : SidEntry)
    → titles ≡ front ++ filter_map (title_text texts) ss → slice_get ss i ≡ Some t
    → IsNumberedAt titles texts (numbered texts (length front) ss) i t
renumbered_at texts titles front [] i t e at = cc
renumbered_at texts titles front (x ∷ ss) zero t e at =
    subst (IsNumberedAt titles texts (numbered texts (length front) (x ∷ ss)) 0) (same_Some x t at)
    (elim (title_text texts x) as (λ o. title_text texts x ≡ o → titles ≡ front ++ cons_option o (filter_map (title_text texts) ss)
    → IsNumberedAt titles texts (numbered_beside o (length front) x (λ m. numbered texts m ss)) 0 x) [
      | None ↦ λ is f. (record x { title = None }, refl, record { is = refl; text = sym is })
      | Some u ↦ λ is f. (
        record x { title = Some (length front) },
        refl,
        record { is = refl; text = text_at titles front (filter_map (title_text texts) ss) u f ∙ sym is },
      )
    ] refl e)
renumbered_at texts titles front (x ∷ ss) (suc i) t e at =
    elim (title_text texts x) as (λ o. titles ≡ front ++ cons_option o (filter_map (title_text texts) ss)
    → IsNumberedAt titles texts (numbered_beside o (length front) x (λ m. numbered texts m ss)) (suc i) t) [
      | None ↦ λ f. renumbered_at texts titles front ss i t f at
      | Some u ↦ λ f. subst (λ m. IsNumberedAt titles texts (numbered texts m ss) i t) (length-append front (u ∷ []))
          (renumbered_at texts titles (front ++ u ∷ []) ss i t (one_title u front (filter_map (title_text texts) ss) titles f) at)
    ] e

-- none is numbered where none is there
pub none_renumbered_at : (texts : List (List ℕ)) (c : ℕ) (ss : List SidEntry) (i : ℕ) → slice_get ss i ≡ None
    → slice_get (numbered texts c ss) i ≡ None
none_renumbered_at texts c [] i none = none
none_renumbered_at texts c (x ∷ ss) zero none = cc
none_renumbered_at texts c (x ∷ ss) (suc i) none =
    elim (title_text texts x) as (λ o. slice_get (numbered_beside o c x (λ m. numbered texts m ss)) (suc i) ≡ None) [
      | None ↦ none_renumbered_at texts c ss i none
      | Some u ↦ none_renumbered_at texts (c + 1) ss i none
    ]

pub renumbered_same : (a b : Network) (s t : SidEntry) → Renumbered a.titles b.titles s t → SameSid a b s t
renumbered_same a b s t r = record {
  node = ap (λ x. x.node) r.is;
  prefix = ap (λ x. x.prefix) r.is;
  behaviour = ap (λ x. x.behaviour) r.is;
  csid = ap (λ x. x.csid) r.is;
  block_len = ap (λ x. x.block_len) r.is;
  psp = ap (λ x. x.psp) r.is;
  usp = ap (λ x. x.usp) r.is;
  usd = ap (λ x. x.usd) r.is;
  links = ap (λ x. x.links) r.is;
  title = r.text;
}

-- a title of the old list has its text in a longer one
pub text_front : (titles more : List (List ℕ)) (o : Option ℕ) → IsTitleOf (length titles) o
    → option_and_then (slice_get (titles ++ more)) o ≡ option_and_then (slice_get titles) o
text_front titles more None h = refl
text_front titles more (Some k) h = get_more titles more k h
