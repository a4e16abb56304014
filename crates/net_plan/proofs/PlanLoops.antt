-- Lists that loops make, one step on.
use Rattle.std.proofs.Common.{◌≡◌, List, [], ◌∷◌, ◌++◌, ap, ◌∙◌, append_assoc}

-- one more at the end, and then the rest
pub pushed_one : {X : Type 0} (xs ys zs ws : List X) (x y : X) → y ≡ x → ys ≡ xs ++ y ∷ [] → xs ++ (x ∷ zs) ≡ ws → ys ++ zs ≡ ws
pushed_one xs ys zs ws x y same e h =
    ap (λ l. l ++ zs) (e ∙ ap (λ z. xs ++ z ∷ []) same) ∙ (append_assoc xs (x ∷ []) zs ∙ h)
