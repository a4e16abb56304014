-- Where no entry meets an old one, and none has its title, none is in conflict with it.
use Rattle.std.proofs.Common.{◌≡◌, ℕ, Bool, true, false, ◌||◌, cond, List, [], ◌∷◌, map, find, Option, Some, None, All, refl, sym, ap, ◌∙◌}
use Rattle.std.proofs.lemmas.Bool.{or_parts, or_from, and_right}
use Rattle.std.proofs.lemmas.List.Elements.{All-head, All-tail}
use Rattle.std.specs.Prelude.{is_some}
use Rattle.std.specs.List.{list_any, filter}
use Rattle.net_model.specs.NetworkJudging.{same_text}
use Rattle.update_spec.specs.Planning.{conflict}
use Rattle.update_joined.specs.declared.entry.PlanEntry.{PlanEntry}
use Rattle.update_joined.specs.declared.prefix_index.PrefixIndex.{PrefixIndex}
use Rattle.update_joined.specs.JoinedEntries.{text_of, item_of, have_one_title}
use Rattle.update_joined.specs.PrefixKeys.{are_meeting, is_titled, IsIndexed}

-- ---- titles

no_text : (text : Option (List ℕ)) → same_text text None ≡ false
no_text None = refl
no_text (Some t) = refl

untitled : (titles : List (List ℕ)) (text : Option (List ℕ)) (title : Option ℕ) → is_some title ≡ false
    → same_text text (text_of titles title) ≡ false
untitled titles text None h = no_text text
untitled titles text (Some n) h = cc

pub none_without_title : (before after : List (List ℕ)) (a : PlanEntry) (es : List PlanEntry) → a.title ≡ None
    → list_any (have_one_title before after a) es ≡ false
none_without_title before after a [] none = refl
none_without_title before after a (e ∷ es) none =
    or_from _ _ (ap (λ (o : Option ℕ). same_text (text_of before o) (text_of after e.title)) none)
    (none_without_title before after a es none)

passed_by : (p : PlanEntry → Bool) (e : PlanEntry) (fs es : List PlanEntry) (b : Bool) → (b ≡ false → p e ≡ false)
    → (list_any p fs ≡ false → list_any p es ≡ false) → list_any p (cond b (e ∷ fs) fs) ≡ false → list_any p (e ∷ es) ≡ false
passed_by p e fs es true f rest h = let parts = or_parts _ _ h in or_from _ _ parts.0 (rest parts.1)
passed_by p e fs es false f rest h = or_from _ _ (f refl) (rest h)

none_has_title : (before after : List (List ℕ)) (a : PlanEntry) (es : List PlanEntry)
    → list_any (have_one_title before after a) (filter is_titled es) ≡ false → list_any (have_one_title before after a) es ≡ false
none_has_title before after a [] h = refl
none_has_title before after a (e ∷ es) h =
    passed_by (have_one_title before after a) e (filter is_titled es) es (is_titled e)
    (untitled after (text_of before a.title) e.title) (none_has_title before after a es) h

-- ---- conflicts

none_found : (before after : List (List ℕ)) (a : PlanEntry) (index : PrefixIndex) (es : List PlanEntry) → All (IsIndexed index) es
    → ((b : PlanEntry) → IsIndexed index b → are_meeting a b ≡ false) → list_any (have_one_title before after a) es ≡ false
    → find (conflict (item_of before a)) (map (item_of after) es) ≡ None
none_found before after a index [] indexed meets titles = refl
none_found before after a index (e ∷ es) indexed meets titles =
    let parts = or_parts _ _ titles in
    let none : conflict (item_of before a) (item_of after e) ≡ false =
    and_right _ _ (or_from _ _ (meets e (All-head (IsIndexed index) e es indexed)) parts.0) in
    ap (λ b. cond b (Some (item_of after e)) (find (conflict (item_of before a)) (map (item_of after) es))) none
    ∙ none_found before after a index es (All-tail (IsIndexed index) e es indexed) meets parts.1

pub quiet : (before after : List (List ℕ)) (a : PlanEntry) (index : PrefixIndex) (es titled : List PlanEntry)
    → titled ≡ filter is_titled es → All (IsIndexed index) es → ((b : PlanEntry) → IsIndexed index b → are_meeting a b ≡ false)
    → list_any (have_one_title before after a) titled ≡ false → find (conflict (item_of before a)) (map (item_of after) es) ≡ None
quiet before after a index es titled are indexed meets none =
    none_found before after a index es indexed meets
    (none_has_title before after a es (ap (list_any (have_one_title before after a)) (sym are) ∙ none))
