-- Where no entries are in conflict, what is added agrees with nothing that was there.
use Rattle.std.proofs.Common.{◌≡◌, ℕ, Bool, false, ◌||◌, not, List, [], ◌∷◌, Option, Some, None, refl, sym, ap, ◌∙◌, subst}
use Rattle.std.specs.List.{filter_map, cons_option, list_any}
use Rattle.srv6_rules.specs.declared.sid.SidEntry.{SidEntry}
use Rattle.net_model.specs.declared.parts.Route.{Route}
use Rattle.net_model.specs.Network.{Network}
use Rattle.net_model.specs.NetworkRules.{same_bytes, same_route, same_sid}
use Rattle.net_model.specs.NetworkJudging.{title_text, same_text}
use Rattle.update_spec.specs.Joined.{is_old_route, is_new_route, is_old_sid, is_new_sid, added_routes, added_sids, added_titles}
use Rattle.update_spec.specs.Planning.{Item, items_from, route_item, sid_item, old_items, new_items, conflict}
use Rattle.update_theory.proofs.PlanLists.{none_parts}
use Rattle.update_theory.proofs.Apart.{routes_apart, SidsApart, sids_apart, none_let_through, none_of_all}

-- no two entries are in conflict
abbrev pub AllApart : Network → Network → Type 0
AllApart old new = list_any (λ a. list_any (conflict a) (new_items old new)) (old_items old new) ≡ false

pub routes_across : (old new : Network) → AllApart old new
    → list_any (λ q. list_any (same_route q) (added_routes old new)) old.routes ≡ false
routes_across old new h =
    let old_item : ℕ → Route → Item = route_item (is_new_route new) in
    let new_item : ℕ → Route → Item = route_item (is_old_route old) in
    let keep : Route → Bool = λ r. not (is_old_route old r) in
    none_of_all old_item (λ a. list_any (conflict a) (new_items old new)) (λ q. list_any (same_route q) (added_routes old new))
    (λ n q e. none_let_through new_item (conflict (old_item n q)) keep (same_route q)
    (λ m r is_added f. routes_apart (is_new_route new) n q (is_old_route old) m r is_added f) 0 new.routes
    (none_parts (conflict (old_item n q)) (items_from new_item 0 new.routes) _ e).0)
    0 old.routes (none_parts _ (items_from old_item 0 old.routes) _ h).0

-- what is so of each old SID with those that are added
sids_over : (old new : Network) (p : SidEntry → Bool) (q : SidEntry → SidEntry → Bool)
    → ((s t : SidEntry) → SidsApart old.titles new.titles s t → q s t ≡ false)
    → ((s : SidEntry) → list_any (q s) (added_sids old new) ≡ false → p s ≡ false) → AllApart old new → list_any p old.sids ≡ false
sids_over old new p q f g h =
    let old_item : ℕ → SidEntry → Item = sid_item old.titles (is_new_sid old new) in
    let new_item : ℕ → SidEntry → Item = sid_item new.titles (is_old_sid old new) in
    let keep : SidEntry → Bool = λ t. not (is_old_sid old new t) in
    let olds = (none_parts _ (items_from (route_item (is_new_route new)) 0 old.routes) _ h).1 in
    none_of_all old_item (λ a. list_any (conflict a) (new_items old new)) p
    (λ n s e.
    let news = (none_parts (conflict (old_item n s)) (items_from (route_item (is_old_route old)) 0 new.routes) _ e).1 in
    g s (none_let_through new_item (conflict (old_item n s)) keep (q s)
    (λ m t is_added k. f s t (sids_apart old.titles new.titles (is_new_sid old new) n s (is_old_sid old new) m t is_added k)) 0 new.sids
    (none_parts (conflict (old_item n s)) (items_from new_item 0 new.sids) _ news).0))
    0 old.sids (none_parts _ (items_from old_item 0 old.sids) _ olds).0

pub sids_across : (old new : Network) → AllApart old new
    → list_any (λ s. list_any (same_sid s) (added_sids old new)) old.sids ≡ false
sids_across old new h =
    sids_over old new (λ s. list_any (same_sid s) (added_sids old new)) same_sid (λ s t parts. parts.places) (λ s e. e) h

-- ---- titles

-- the text is there and passes
abbrev text_passes : (List ℕ → Bool) → Option (List ℕ) → Bool
text_passes p None = false
text_passes p (Some t) = p t

none_of_texts : (f : SidEntry → Option (List ℕ)) (p : List ℕ → Bool) (ss : List SidEntry)
    → list_any (λ s. text_passes p (f s)) ss ≡ list_any p (filter_map f ss)
none_of_texts f p [] = refl
none_of_texts f p (s ∷ ss) =
    elim (f s) as (λ o. (text_passes p o || list_any (λ s. text_passes p (f s)) ss) ≡ list_any p (cons_option o (filter_map f ss)))
    [ None ↦ none_of_texts f p ss | Some t ↦ ap (λ b. p t || b) (none_of_texts f p ss) ]

some_same : (f : SidEntry → Option (List ℕ)) (u : List ℕ) (ss : List SidEntry)
    → list_any (λ s. same_text (Some u) (f s)) ss ≡ list_any (same_bytes u) (filter_map f ss)
some_same f u [] = refl
some_same f u (s ∷ ss) =
    elim (f s) as (λ o. (same_text (Some u) o || list_any (λ s. same_text (Some u) (f s)) ss)
    ≡ list_any (same_bytes u) (cons_option o (filter_map f ss)))
    [ None ↦ some_same f u ss | Some t ↦ ap (λ b. same_bytes u t || b) (some_same f u ss) ]

text_across : (f : SidEntry → Option (List ℕ)) (ts : List SidEntry) (o : Option (List ℕ)) → list_any (λ t. same_text o (f t)) ts ≡ false
    → text_passes (λ u. list_any (same_bytes u) (filter_map f ts)) o ≡ false
text_across f ts None h = refl
text_across f ts (Some u) h = sym (some_same f u ts) ∙ h

pub titles_across : (old new : Network) → filter_map (title_text old.titles) old.sids ≡ old.titles → AllApart old new
    → list_any (λ u. list_any (same_bytes u) (added_titles old new)) old.titles ≡ false
titles_across old new texts h =
    let among : List ℕ → Bool = λ u. list_any (same_bytes u) (added_titles old new) in
    let none = sids_over old new (λ s. text_passes among (title_text old.titles s))
    (λ s t. same_text (title_text old.titles s) (title_text new.titles t)) (λ s t parts. parts.titles)
    (λ s e. text_across (title_text new.titles) (added_sids old new) (title_text old.titles s) e) h in
    subst (λ ts. list_any among ts ≡ false) texts (sym (none_of_texts (title_text old.titles) among old.sids) ∙ none)
