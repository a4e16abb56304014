-- Flags say which links are up.
use Rattle.std.proofs.Common.{◌≡◌, ℕ, zero, suc, ◌+◌, Bool, List, [], ◌∷◌, Result, Ok, Err, IfOk, refl, sym, ap, ◌∙◌, zero-add, arith}
use Rattle.std.specs.List.{slice_get}
use mathlib.Core.Path.{fun_ext}
use Rattle.net_model.specs.declared.parts.Link.{Link}
use Rattle.net_model.specs.declared.net.Hit.{Hit}
use Rattle.net_model.specs.Network.{Network}
use Rattle.net_without.specs.Without.{is_up_link, is_up_there, is_up, network_left, without_of}
use Rattle.net_without.specs.WithoutTerms.{up_from, flag_at}

pub flags_say : (links nodes : List ℕ) (k : ℕ) (ls : List Link) (n : ℕ) → flag_at (up_from links nodes k ls) n ≡ is_up_there links nodes (k + n) (slice_get ls n)
flags_say links nodes k [] n = refl
flags_say links nodes k (l ∷ ls) zero = let e : k ≡ k + 0 = omega arith in ap (λ n. is_up_link links nodes n l) e
flags_say links nodes k (l ∷ ls) (suc n) =
    let e : k + 1 + n ≡ k + suc n = omega arith in
    flags_say links nodes (k + 1) ls n ∙ ap (λ m. is_up_there links nodes m (slice_get ls n)) e

-- parts that are a network's, by flags that say which links are up
pub left_is : (net copy : Network) (links nodes : List ℕ) (flags : List Bool) → copy ≡ net → flags ≡ up_from links nodes 0 copy.links
    → network_left (flag_at flags) copy ≡ without_of net links nodes
left_is net copy links nodes flags same say =
    let each : (n : ℕ) → flag_at flags n ≡ is_up net links nodes n =
    λ n. ap (λ (fs : List Bool). flag_at fs n) (say ∙ ap (λ (c : Network). up_from links nodes 0 c.links) same)
    ∙ flags_say links nodes 0 net.links n ∙ ap (λ m. is_up_there links nodes m (slice_get net.links n)) (zero-add n) in
    ap (λ (c : Network). network_left (flag_at flags) c) same ∙ ap (λ (up : ℕ → Bool). network_left up net) (fun_ext each)

-- a copy of parts of which nothing is hidden
pub whole_copy : (copy net : Network) → record copy { hidden = net.hidden } ≡ net → net.hidden ≡ [] → record copy { hidden = [] } ≡ net
whole_copy copy net same whole = ap (λ (h : List Hit). let n : Network = record copy { hidden = h } in n) (sym whole) ∙ same

pub if_ok_is : {X E : Type 0} (result : Result X E) (x y : X) → IfOk result (λ z. z ≡ x) → x ≡ y → IfOk result (λ z. z ≡ y)
if_ok_is (Ok z) x y is same = is ∙ same
if_ok_is (Err e) x y is same = tt
