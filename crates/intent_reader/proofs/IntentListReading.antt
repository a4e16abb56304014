-- Reading the items of a list one after another, and a step's items each from where the one before it ended.
use Rattle.std.proofs.Common.{◌≡◌, ℕ, suc, ◌+◌, ◌<◌, ◌≤◌, List, [], ◌∷◌, ◌++◌, length, get_or, drop, refl, sym, ap, ◌∙◌, append-nil, add-one}
use Rattle.std.proofs.Math.ListN.{drop_of_length-le}
use Rattle.std.proofs.lemmas.List.{drop_more}
use Rattle.std.specs.Prelude.{Result, Ok, Err}
use Rattle.net_model.specs.Network.{Network}
use Rattle.toml_reader.specs.TomlReading.{◌>>=◌, read_map, or_fault}
use Rattle.toml_reader.proofs.TomlListReading.{same_list, front_moves}
use Rattle.net_syntax.specs.declared.step_table.DescribedStep.{DescribedStep}
use Rattle.intent_reader.specs.declared.intent.Step.{Step}
use Rattle.intent_reader.specs.declared.fault.IntentFault.{IntentFault}
use Rattle.intent_reader.specs.IntentReading.{each_of}
use Rattle.intent_reader.specs.IntentRules.{node_after}
use Rattle.intent_reader.specs.IntentJudging.{step_named, astray, steps_from}

-- ---- items one after another

-- the first i of the items are read as done, and what is left gives the rest
pub record HasRead {X Y : Type 0} (read : X → Result Y IntentFault) (xs : List X) (i : ℕ) (done : List Y) : Type 0 where
  pub same : read_map (λ rest. done ++ rest) (each_of read (drop i xs)) ≡ each_of read xs

pub reads_start : {X Y : Type 0} (read : X → Result Y IntentFault) (xs : List X) → HasRead read xs 0 []
reads_start read xs = record { same = same_list (each_of read xs) }

next_given : {X Y : Type 0} (read : X → Result Y IntentFault) (xs : List X) (i : ℕ) (x : X) (y : Y) → i < length xs → x ≡ get_or xs i x
    → read x ≡ Ok y → each_of read (drop i xs) ≡ ◌>>=◌ (each_of read (drop (i + 1) xs)) (λ ys. Ok (y ∷ ys))
next_given read xs i x y within is gives = rw (drop_more xs i x within, ← is, gives) refl

next_refused : {X Y : Type 0} (read : X → Result Y IntentFault) (xs : List X) (i : ℕ) (x : X) (fault : IntentFault) → i < length xs
    → x ≡ get_or xs i x → read x ≡ Err fault → each_of read (drop i xs) ≡ Err fault
next_refused read xs i x fault within is refused = rw (drop_more xs i x within, ← is, refused) refl

pub reads_more : {X Y : Type 0} (read : X → Result Y IntentFault) (xs : List X) (i : ℕ) (done : List Y) (x : X) (y : Y)
    → HasRead read xs i done → i < length xs → x ≡ get_or xs i x → read x ≡ Ok y → HasRead read xs (i + 1) (done ++ y ∷ [])
reads_more read xs i done x y so_far within is gives = record {
  same =
      let turn = next_given read xs i x y within is gives in
      sym (front_moves done y (each_of read (drop (i + 1) xs))) ∙ rw (← turn) so_far.same;
}

pub reads_stop : {X Y : Type 0} (read : X → Result Y IntentFault) (xs : List X) (i : ℕ) (done : List Y) (x : X) (fault : IntentFault)
    → HasRead read xs i done → i < length xs → x ≡ get_or xs i x → read x ≡ Err fault → each_of read xs ≡ Err fault
reads_stop read xs i done x fault so_far within is refused =
    let turn = next_refused read xs i x fault within is refused in
    sym (rw turn at so_far.same)

pub reads_end : {X Y : Type 0} (read : X → Result Y IntentFault) (xs : List X) (i : ℕ) (done : List Y) → HasRead read xs i done
    → length xs ≤ i → each_of read xs ≡ Ok done
reads_end read xs i done so_far past = sym (rw (drop_of_length-le xs past) at so_far.same) ∙ ap Ok (append-nil done)

pub ruleset reading = (reads_start, reads_more, reads_stop, reads_end)

-- ---- steps

-- the first i of the steps are taken as done and end at the node, and what is left gives the rest
pub record HasTaken (net : Network) (headend : ℕ) (ds : List DescribedStep) (i node : ℕ) (done : List Step) : Type 0 where
  pub same : read_map (λ rest. done ++ rest) (steps_from net (suc i) node (drop i ds)) ≡ steps_from net 1 headend ds

pub takes_start : (net : Network) (headend : ℕ) (ds : List DescribedStep) → HasTaken net headend ds 0 headend []
takes_start net headend ds = record { same = same_list (steps_from net 1 headend ds) }

taken_next : (net : Network) (k : ℕ) (ds : List DescribedStep) (i node : ℕ) (d : DescribedStep) (s : Step) (next : ℕ)
    → i < length ds → d ≡ get_or ds i d → step_named net k d ≡ Ok s → or_fault (astray k s) (node_after net node s) ≡ Ok next
    → steps_from net k node (drop i ds) ≡ ◌>>=◌ (steps_from net (suc k) next (drop (i + 1) ds)) (λ ss. Ok (s ∷ ss))
taken_next net k ds i node d s next within is named leads = rw (drop_more ds i d within, ← is, named, leads) refl

pub takes_more : (net : Network) (headend : ℕ) (ds : List DescribedStep) (i node : ℕ) (done : List Step) (d : DescribedStep) (s : Step)
    (next : ℕ) → HasTaken net headend ds i node done → i < length ds → d ≡ get_or ds i d → step_named net (i + 1) d ≡ Ok s
    → or_fault (astray (i + 1) s) (node_after net node s) ≡ Ok next → HasTaken net headend ds (i + 1) next (done ++ s ∷ [])
takes_more net headend ds i node done d s next so_far within is named leads = record {
  same =
      let turn = taken_next net (suc i) ds i node d s next within is (rw add-one at named) (rw add-one at leads) in
      let moved = front_moves done s (steps_from net (suc (suc i)) next (drop (i + 1) ds)) in
      let whole : read_map (λ rest. (done ++ s ∷ []) ++ rest) (steps_from net (suc (suc i)) next (drop (i + 1) ds))
      ≡ steps_from net 1 headend ds = sym moved ∙ rw (← turn) so_far.same in
      rw add-one (rw add-one at whole);
}

unnamed : (net : Network) (k : ℕ) (ds : List DescribedStep) (i node : ℕ) (d : DescribedStep) (fault : IntentFault) → i < length ds
    → d ≡ get_or ds i d → step_named net k d ≡ Err fault → steps_from net k node (drop i ds) ≡ Err fault
unnamed net k ds i node d fault within is refused = rw (drop_more ds i d within, ← is, refused) refl

pub takes_no_name : (net : Network) (headend : ℕ) (ds : List DescribedStep) (i node : ℕ) (done : List Step) (d : DescribedStep)
    (fault : IntentFault) → HasTaken net headend ds i node done → i < length ds → d ≡ get_or ds i d
    → step_named net (i + 1) d ≡ Err fault → steps_from net 1 headend ds ≡ Err fault
takes_no_name net headend ds i node done d fault so_far within is refused =
    let turn = unnamed net (suc i) ds i node d fault within is (rw add-one at refused) in
    sym (rw turn at so_far.same)

led_astray : (net : Network) (k : ℕ) (ds : List DescribedStep) (i node : ℕ) (d : DescribedStep) (s : Step) (fault : IntentFault)
    → i < length ds → d ≡ get_or ds i d → step_named net k d ≡ Ok s → or_fault (astray k s) (node_after net node s) ≡ Err fault
    → steps_from net k node (drop i ds) ≡ Err fault
led_astray net k ds i node d s fault within is named refused = rw (drop_more ds i d within, ← is, named, refused) refl

pub takes_no_end : (net : Network) (headend : ℕ) (ds : List DescribedStep) (i node : ℕ) (done : List Step) (d : DescribedStep) (s : Step)
    (fault : IntentFault) → HasTaken net headend ds i node done → i < length ds → d ≡ get_or ds i d → step_named net (i + 1) d ≡ Ok s
    → or_fault (astray (i + 1) s) (node_after net node s) ≡ Err fault → steps_from net 1 headend ds ≡ Err fault
takes_no_end net headend ds i node done d s fault so_far within is named refused =
    let turn = led_astray net (suc i) ds i node d s fault within is (rw add-one at named) (rw add-one at refused) in
    sym (rw turn at so_far.same)

pub takes_end : (net : Network) (headend : ℕ) (ds : List DescribedStep) (i node : ℕ) (done : List Step)
    → HasTaken net headend ds i node done → length ds ≤ i → steps_from net 1 headend ds ≡ Ok done
takes_end net headend ds i node done so_far past = sym (rw (drop_of_length-le ds past) at so_far.same) ∙ ap Ok (append-nil done)

pub ruleset stepping = (takes_start, takes_more, takes_no_name, takes_no_end, takes_end)
