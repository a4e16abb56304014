-- Reading the items of a list one after another, and the lists that the tree's items are.
use Rattle.std.proofs.Common.{◌≡◌, ℕ, suc, ◌+◌, ◌<◌, ◌≤◌, List, [], ◌∷◌, ◌++◌, length, get_or, drop, map, String, Global, string_bytes, refl, sym, ap, ◌∙◌, append_assoc, append-nil, zero-add, arith}
use Rattle.std.proofs.Math.ListN.{drop_of_length-le}
use Rattle.std.proofs.lemmas.List.{drop_more, length-map}
use Rattle.std.specs.Prelude.{Result, Ok, Err}
use Rattle.std.specs.List.{list_any, list_all}
use Rattle.std.specs.Map.{keys_of}
use Rattle.std.specs.Str.{bytes_eq}
use Rattle.toml.specs.View.{view, items_view, members_view}
use Rattle.toml.specs.declared.value.Value.{Value}
use Rattle.plan_syntax.specs.declared.plan_places.PlanKey.{PlanKey}
use Rattle.plan_syntax.specs.declared.plan_faults.PlanFault.{PlanFault}
use Rattle.plan_syntax.specs.PlanWords.{plan_key_text}
use Rattle.toml_reader.specs.TomlReading.{◌>>=◌, read_map}
use Rattle.toml_reader.specs.Tree.{data_of}
use Rattle.plan_syntax.specs.PlanTree.{each_from, has_only}

-- the first i of the items are read as done, and what is left gives the rest
pub record HasRead {V X Y : Type 0} (read : ℕ → X → Result Y PlanFault) (see : V → X) (start : ℕ) (vs : List V) (i : ℕ) (done : List Y)
    : Type 0 where
  pub same : read_map (λ rest. done ++ rest) (each_from read (i + start) (map see (drop i vs))) ≡ each_from read start (map see vs)

pub same_list : {F Y : Type 0} (r : Result (List Y) F) → read_map (λ rest. [] ++ rest) r ≡ r
same_list (Ok ys) = refl
same_list (Err fault) = refl

pub reads_start : {V X Y : Type 0} (read : ℕ → X → Result Y PlanFault) (see : V → X) (start : ℕ) (vs : List V)
    → HasRead read see start vs 0 []
reads_start read see start vs = record { same = rw zero-add (same_list (each_from read start (map see vs))) }

pub front_moves : {F Y : Type 0} (done : List Y) (y : Y) (r : Result (List Y) F)
    → read_map (λ rest. done ++ rest) (◌>>=◌ r (λ ys. Ok (y ∷ ys))) ≡ read_map (λ rest. (done ++ y ∷ []) ++ rest) r
front_moves done y (Ok rest) = ap Ok (sym (append_assoc done (y ∷ []) rest))
front_moves done y (Err fault) = refl

-- what is left begins with the next item
next_given : {V X Y : Type 0} (read : ℕ → X → Result Y PlanFault) (see : V → X) (n : ℕ) (vs : List V) (i : ℕ) (x : V) (y : Y)
    → i < length vs → x ≡ get_or vs i x → read n (see x) ≡ Ok y
    → each_from read n (map see (drop i vs)) ≡ ◌>>=◌ (each_from read (suc n) (map see (drop (i + 1) vs))) (λ ys. Ok (y ∷ ys))
next_given read see n vs i x y within is gives = rw (drop_more vs i x within, ← is, gives) refl

next_refused : {V X Y : Type 0} (read : ℕ → X → Result Y PlanFault) (see : V → X) (n : ℕ) (vs : List V) (i : ℕ) (x : V) (fault : PlanFault)
    → i < length vs → x ≡ get_or vs i x → read n (see x) ≡ Err fault → each_from read n (map see (drop i vs)) ≡ Err fault
next_refused read see n vs i x fault within is refused = rw (drop_more vs i x within, ← is, refused) refl

pub reads_more : {V X Y : Type 0} (read : ℕ → X → Result Y PlanFault) (see : V → X) (start : ℕ) (vs : List V) (i : ℕ) (done : List Y)
    (x : V)
    (y : Y) → HasRead read see start vs i done → i < length vs → x ≡ get_or vs i x → read (i + start) (see x) ≡ Ok y
    → HasRead read see start vs (i + 1) (done ++ y ∷ [])
reads_more read see start vs i done x y so_far within is gives = record {
  same =
      let step : i + 1 + start ≡ suc (i + start) = omega arith in
      let turn = next_given read see (i + start) vs i x y within is gives in
      rw step (sym (front_moves done y (each_from read (suc (i + start)) (map see (drop (i + 1) vs)))) ∙ rw (← turn) so_far.same);
}

map_more : {W Y : Type 0} (out : W → Y) (done : List W) (w : W) → map out (done ++ w ∷ []) ≡ map out done ++ out w ∷ []
map_more out [] w = refl
map_more out (x ∷ xs) w = ap (λ ys. out x ∷ ys) (map_more out xs w)

-- the same where what is read is kept as something else
pub kept_more : {V W X Y : Type 0} (read : ℕ → X → Result Y PlanFault) (see : V → X) (out : W → Y) (start : ℕ) (vs : List V) (i : ℕ)
    (done : List W) (x : V) (w : W) → HasRead read see start vs i (map out done) → i < length vs → x ≡ get_or vs i x
    → read (i + start) (see x) ≡ Ok (out w) → HasRead read see start vs (i + 1) (map out (done ++ w ∷ []))
kept_more read see out start vs i done x w so_far within is gives =
    rw (map_more out done w) (reads_more read see start vs i (map out done) x (out w) so_far within is gives)

pub reads_stop : {V X Y : Type 0} (read : ℕ → X → Result Y PlanFault) (see : V → X) (start : ℕ) (vs : List V) (i : ℕ) (done : List Y)
    (x : V)
    (fault : PlanFault) → HasRead read see start vs i done → i < length vs → x ≡ get_or vs i x → read (i + start) (see x) ≡ Err fault
    → each_from read start (map see vs) ≡ Err fault
reads_stop read see start vs i done x fault so_far within is refused =
    let turn = next_refused read see (i + start) vs i x fault within is refused in
    sym (rw turn at so_far.same)

pub reads_end : {V X Y : Type 0} (read : ℕ → X → Result Y PlanFault) (see : V → X) (start : ℕ) (vs : List V) (i : ℕ) (done : List Y)
    → HasRead read see start vs i done → length vs ≤ i → each_from read start (map see vs) ≡ Ok done
reads_end read see start vs i done so_far past =
    sym (rw (drop_of_length-le vs past) at so_far.same) ∙ ap Ok (append-nil done)

pub ruleset reading = (reads_start, reads_more, reads_stop, reads_end)

pub ruleset keeping = (reads_start, kept_more, reads_stop, reads_end)

pub ruleset counts = (length-map)

-- an array's items as a list
pub data_of_items : (vs : List Value) → data_of (items_view vs) ≡ map view vs
data_of_items [] = refl
data_of_items (v ∷ vs) = ap (λ ds. view v ∷ ds) (data_of_items vs)

pub ruleset arrays = (data_of_items)

-- the test of a table's keys, as a test of the keys of its map
pub has_only_keys : (keys : List PlanKey) (es : List (String Global × Value))
    → has_only keys (members_view es) ≡ list_all (λ k. list_any (λ known. bytes_eq (plan_key_text known) (string_bytes k)) keys) (keys_of es)
has_only_keys keys [] = refl
has_only_keys keys (e ∷ es) = rw (has_only_keys keys es) refl

pub ruleset only_keys = (has_only_keys)
