-- Reading the items of an array one after another.
use Rattle.std.proofs.Common.{◌≡◌, ℕ, ◌+◌, ◌<◌, ◌≤◌, List, [], ◌∷◌, ◌++◌, length, get_or, drop, map, Option, None, Some, option_map, refl, sym, ap, ◌∙◌, append_assoc, append-nil, arith}
use Rattle.std.proofs.Math.ListN.{drop_of_length-le}
use Rattle.std.proofs.lemmas.List.{drop_more}
use Rattle.serde_json.specs.Data.{Data}
use Rattle.serde_json.specs.View.{view, items_view}
use Rattle.serde_json.specs.declared.value.Value.{Value}
use Rattle.pce_protocol.specs.Kinds.{data_of, each_of}

-- the first i of the items are read as done, and what is left gives the rest
pub record HasRead {X : Type 0} (kind : Data → Option X) (vs : List Value) (i : ℕ) (done : List X) : Type 0 where
  pub same : option_map (λ rest. done ++ rest) (each_of kind (map view (drop i vs))) ≡ each_of kind (map view vs)

same_list : {X : Type 0} (r : Option (List X)) → option_map (λ rest. [] ++ rest) r ≡ r
same_list None = refl
same_list (Some xs) = refl

pub reads_start : {X : Type 0} (kind : Data → Option X) (vs : List Value) → HasRead kind vs 0 []
reads_start kind vs = record { same = same_list (each_of kind (map view vs)) }

front_moves : {X : Type 0} (done : List X) (x : X) (r : Option (List X))
    → option_map (λ rest. done ++ rest) (option_map (λ xs. x ∷ xs) r) ≡ option_map (λ rest. (done ++ x ∷ []) ++ rest) r
front_moves done x None = refl
front_moves done x (Some rest) = ap Some (sym (append_assoc done (x ∷ []) rest))

next_given : {X : Type 0} (kind : Data → Option X) (vs : List Value) (i : ℕ) (v : Value) (x : X)
    → i < length vs → v ≡ get_or vs i v → kind (view v) ≡ Some x
    → each_of kind (map view (drop i vs)) ≡ option_map (λ xs. x ∷ xs) (each_of kind (map view (drop (i + 1) vs)))
next_given kind vs i v x within is gives = rw (drop_more vs i v within, ← is, gives) refl

next_refused : {X : Type 0} (kind : Data → Option X) (vs : List Value) (i : ℕ) (v : Value)
    → i < length vs → v ≡ get_or vs i v → kind (view v) ≡ None → each_of kind (map view (drop i vs)) ≡ None
next_refused kind vs i v within is refused = rw (drop_more vs i v within, ← is, refused) refl

pub reads_more : {X : Type 0} (kind : Data → Option X) (vs : List Value) (i : ℕ) (done : List X) (v : Value) (x : X)
    → HasRead kind vs i done → i < length vs → v ≡ get_or vs i v → Some x ≡ kind (view v) → HasRead kind vs (i + 1) (done ++ x ∷ [])
reads_more kind vs i done v x so_far within is gives = record {
  same =
      let turn = next_given kind vs i v x within is (sym gives) in
      sym (front_moves done x (each_of kind (map view (drop (i + 1) vs)))) ∙ rw (← turn) so_far.same;
}

pub reads_stop : {X : Type 0} (kind : Data → Option X) (vs : List Value) (i : ℕ) (done : List X) (v : Value)
    → HasRead kind vs i done → i < length vs → v ≡ get_or vs i v → None ≡ kind (view v) → None ≡ each_of kind (map view vs)
reads_stop kind vs i done v so_far within is refused =
    let turn = next_refused kind vs i v within is (sym refused) in rw turn at so_far.same

pub reads_end : {X : Type 0} (kind : Data → Option X) (vs : List Value) (i : ℕ) (done : List X)
    → HasRead kind vs i done → length vs ≤ i → Some done ≡ each_of kind (map view vs)
reads_end kind vs i done so_far past =
    ap Some (sym (append-nil done)) ∙ rw (drop_of_length-le vs past) at so_far.same

pub ruleset reading = (reads_start, reads_more, reads_stop, reads_end)

-- an array's items as a list
pub data_of_items : (vs : List Value) → data_of (items_view vs) ≡ map view vs
data_of_items [] = refl
data_of_items (v ∷ vs) = ap (λ ds. view v ∷ ds) (data_of_items vs)

pub ruleset arrays = (data_of_items)
