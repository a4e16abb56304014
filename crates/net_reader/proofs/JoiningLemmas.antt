-- Items joined one after another.
use Rattle.std.proofs.Common.{◌≡◌, ℕ, ◌+◌, ◌<◌, List, [], ◌∷◌, ◌++◌, length, take, map, get_or, sym, ap, ◌∙◌}
use Rattle.std.proofs.lemmas.List.{map_more}

-- one more
pub joined_more : {X Y : Type 0} (of : X → Y) (items : List X) (i : ℕ) (d : X) (parts : List Y) (part : Y)
    → parts ≡ map of (take i items) → i < length items → part ≡ of (get_or items i d)
    → parts ++ part ∷ [] ≡ map of (take (i + 1) items)
joined_more of items i d parts part so_far within is =
    ap (λ front. front ++ part ∷ []) so_far ∙ ap (λ last. map of (take i items) ++ last ∷ []) is ∙ sym (map_more of items i d within)
