-- what the writers of texts stand on
use Rattle.std.proofs.Common.{◌≡◌, ℕ, ◌+◌, ◌<◌, ◌≤◌, List, [], ◌∷◌, ◌++◌, length, take, drop, sym, ◌∙◌, ap, arith, append_assoc}
use Rattle.std.specs.Prelude.{flat_map}
use Rattle.std.proofs.lemmas.List.{append-nil}
use Rattle.std.proofs.lemmas.List.Concat.{flat_map-cons}
use Rattle.std.proofs.lemmas.Bool.{cond-true, cond-false, le-leb, lt-leb}
use Rattle.v6_addr.specs.Address.{PrefixValue}
use Rattle.v6_addr.specs.Text.{groups_of, group_text, groups_text, longest_run, text_with_run, address_text, length_text, prefix_text}

pub groups_text_cons : (first : ℕ) (rest : List ℕ) → groups_text (first ∷ rest) ≡ group_text first ++ flat_map (λ g. 58 ∷ group_text g) rest
unfolding groups_text
groups_text_cons first [] = sym (append-nil (group_text first))
groups_text_cons first (next ∷ rest) =
    ap (λ t. group_text first ++ (58 ∷ t)) (groups_text_cons next rest)
    ∙ ap (λ t. group_text first ++ t) (sym (flat_map-cons (λ g. 58 ∷ group_text g) next rest))

pub pushed_groups : (old middle new groups rest : List ℕ) (first : ℕ) → groups ≡ first ∷ rest → middle ≡ old ++ group_text first
    → new ≡ middle ++ flat_map (λ g. 58 ∷ group_text g) rest → new ≡ old ++ groups_text groups
pushed_groups old middle new groups rest first is_groups is_middle is_new =
    is_new ∙ ap (λ t. t ++ flat_map (λ g. 58 ∷ group_text g) rest) is_middle
    ∙ append_assoc old (group_text first) (flat_map (λ g. 58 ∷ group_text g) rest)
    ∙ ap (λ t. old ++ t) (sym (groups_text_cons first rest) ∙ ap groups_text (sym is_groups))

pub pushed_nothing : (old groups : List ℕ) → length groups ≡ 0 → old ≡ old ++ groups_text groups
unfolding groups_text
pushed_nothing old [] none = sym (append-nil old)
pushed_nothing old (g ∷ gs) none = absurd (omega arith)

pub written_out : (a start count : ℕ) (groups old new : List ℕ) → groups ≡ groups_of a
    → record { start = start; count = count } ≡ longest_run groups → count < 2
    → old ≡ [] → new ≡ old ++ groups_text groups → new ≡ address_text a
unfolding text_with_run address_text
written_out a start count groups old new is_groups is_run short empty is_new =
    is_new ∙ ap (λ t. t ++ groups_text groups) empty
    ∙ sym (cond-false _ _ _ (lt-leb 2 count short))
    ∙ ap (text_with_run groups) is_run
    ∙ ap (λ gs. text_with_run gs (longest_run gs)) is_groups

pub written_short : (a start count : ℕ) (groups front back old one two three new : List ℕ) → groups ≡ groups_of a
    → record { start = start; count = count } ≡ longest_run groups
    → 2 ≤ count → front ≡ take start groups → back ≡ drop (start + count) groups → old ≡ [] → one ≡ old ++ groups_text front
    → two ≡ one ++ 58 ∷ [] → three ≡ two ++ 58 ∷ []
    → new ≡ three ++ groups_text back → new ≡ address_text a
unfolding text_with_run address_text
written_short a start count groups front back old one two three new is_groups is_run long is_front is_back empty is_one is_two is_three
    is_new =
    let before : one ≡ groups_text (take start groups) = is_one ∙ ap (λ t. t ++ groups_text front) empty ∙ ap groups_text is_front in
    let colons : three ≡ groups_text (take start groups) ++ (58 ∷ 58 ∷ []) =
    is_three ∙ ap (λ t. t ++ 58 ∷ []) (is_two ∙ ap (λ t. t ++ 58 ∷ []) before)
    ∙ append_assoc (groups_text (take start groups)) (58 ∷ []) (58 ∷ []) in
    is_new ∙ ap (λ t. t ++ groups_text back) colons ∙ append_assoc (groups_text (take start groups)) (58 ∷ 58 ∷ []) (groups_text back)
    ∙ ap (λ t. groups_text (take start groups) ++ (58 ∷ 58 ∷ groups_text t)) is_back
    ∙ sym (cond-true _ _ _ (le-leb 2 count long))
    ∙ ap (text_with_run groups) is_run
    ∙ ap (λ gs. text_with_run gs (longest_run gs)) is_groups

pub written_prefix : (p : PrefixValue) (value len : ℕ) (address old one two new : List ℕ) → value ≡ p.value → len ≡ p.len
    → address ≡ address_text value → old ≡ [] → one ≡ old ++ address
    → two ≡ one ++ 47 ∷ [] → new ≡ two ++ length_text len → new ≡ prefix_text p
unfolding prefix_text
written_prefix p value len address old one two new is_value is_len is_address empty is_one is_two is_new =
    let before : one ≡ address_text p.value = is_one ∙ ap (λ t. t ++ address) empty ∙ is_address ∙ ap address_text is_value in
    is_new ∙ ap (λ t. t ++ length_text len) (is_two ∙ ap (λ t. t ++ 47 ∷ []) before)
    ∙ append_assoc (address_text p.value) (47 ∷ []) (length_text len)
    ∙ ap (λ n. address_text p.value ++ (47 ∷ length_text n)) is_len
