-- What a schedule gives each packet, whatever its entries are.
use Rattle.std.proofs.Common.{◌≡◌, ℕ, suc, ◌+◌, Bool, true, false, if◌then◌else◌, nat_eq, List, [], ◌∷◌, ◌++◌, length, map, drop, refl, sym, ap, ap₂, ◌∙◌, arith, subst, length-append}
use Rattle.std.specs.List.{flat_map, sum_by, IsDistinct, AllByRecursion}
use Rattle.std.proofs.lemmas.Bool.{eqb-true, eq-eqb}
use Rattle.std.proofs.lemmas.List.{map-append}
use Rattle.std.proofs.lemmas.List.Elements.{filter-append}
use Rattle.std.proofs.lemmas.List.Sums.{sum_by-cons}
use Rattle.std.proofs.lemmas.Map.Keys.{IsDistinct-head, IsDistinct-tail}
use Rattle.walk_rules.specs.Walk.{Stage}
use Rattle.packet_walk.specs.Schedule.{Coming, Taken, steps_of, without_first, first_of, all_of, one_by_one, scheduled, stages_of}
use Rattle.packet_walk.specs.ScheduleTerms.{steps_in}

pub by_test : (b : Bool) (P : Type 0) → (b ≡ true → P) → (b ≡ false → P) → P
by_test true P holds fails = holds refl
by_test false P holds fails = fails refl

pub if_true : {X : Type 0} (b : Bool) (x y : X) → b ≡ true → (if b then x else y) ≡ x
if_true b x y is = ap (λ c. if c then x else y) is

pub if_false : {X : Type 0} (b : Bool) (x y : X) → b ≡ false → (if b then x else y) ≡ y
if_false b x y is = ap (λ c. if c then x else y) is

nil_append : {X : Type 0} (xs : List X) → xs ++ [] ≡ xs
nil_append [] = refl
nil_append (x ∷ xs) = ap (λ ys. x ∷ ys) (nil_append xs)

abbrev numbers_of : List Coming → List ℕ
numbers_of comings = map (λ c. c.number) comings

-- a packet's own stages are all of the stages of its number, and none of another's

stages_all : (number : ℕ) (steps : List Stage) → stages_of number (all_of number steps) ≡ all_of number steps
stages_all number [] = refl
stages_all number (s ∷ behind) =
    let t : Taken = record { number = number; step = s; behind = behind } in
    if_true (nat_eq number number) (t ∷ stages_of number (all_of number behind)) (stages_of number (all_of number behind))
    (eq-eqb number number refl)
    ∙ ap (λ ts. t ∷ ts) (stages_all number behind)

stages_same : (number other : ℕ) (steps : List Stage) → number ≡ other → stages_of number (all_of other steps) ≡ all_of number steps
stages_same number other steps same =
    subst (λ m. stages_of number (all_of m steps) ≡ all_of number steps) same (stages_all number steps)

stages_other : (number other : ℕ) (steps : List Stage) → nat_eq number other ≡ false → stages_of number (all_of other steps) ≡ []
stages_other number other [] apart = refl
stages_other number other (s ∷ behind) apart =
    let t : Taken = record { number = other; step = s; behind = behind } in
    if_false (nat_eq number other) (t ∷ stages_of number (all_of other behind)) (stages_of number (all_of other behind)) apart
    ∙ stages_other number other behind apart

-- packets one after the other

stages_cons : (number : ℕ) (c : Coming) (more : List Coming)
    → stages_of number (one_by_one (c ∷ more)) ≡ stages_of number (all_of c.number c.steps) ++ stages_of number (one_by_one more)
stages_cons number c more = filter-append (λ t. nat_eq number t.number) (all_of c.number c.steps) (one_by_one more)

stages_none : (number : ℕ) (comings : List Coming) → AllByRecursion (λ y. nat_eq number y ≡ false) (numbers_of comings)
    → stages_of number (one_by_one comings) ≡ []
stages_none number [] apart = refl
stages_none number (c ∷ more) apart =
    stages_cons number c more
    ∙ (ap (λ ts. ts ++ stages_of number (one_by_one more)) (stages_other number c.number c.steps apart.0)
    ∙ stages_none number more apart.1)

stages_out : (number : ℕ) (comings : List Coming) → IsDistinct nat_eq (numbers_of comings)
    → stages_of number (one_by_one comings) ≡ all_of number (steps_of number comings)
stages_out number [] distinct = refl
stages_out number (c ∷ more) distinct =
    by_test (nat_eq number c.number)
    (stages_of number (one_by_one (c ∷ more)) ≡ all_of number (steps_of number (c ∷ more)))
    (λ is. let same : number ≡ c.number = eqb-true number c.number is in
    let head : AllByRecursion (λ y. nat_eq c.number y ≡ false) (numbers_of more) =
    IsDistinct-head nat_eq c.number (numbers_of more) distinct in
    stages_cons number c more
    ∙ (ap₂ (λ ts us. ts ++ us) (stages_same number c.number c.steps same)
    (stages_none number more (subst (λ m. AllByRecursion (λ y. nat_eq m y ≡ false) (numbers_of more)) (sym same) head))
    ∙ (nil_append (all_of number c.steps)
    ∙ ap (all_of number) (sym (if_true (nat_eq number c.number) c.steps (steps_of number more) is)))))
    (λ is. stages_cons number c more
    ∙ (ap (λ ts. ts ++ stages_of number (one_by_one more)) (stages_other number c.number c.steps is)
    ∙ (stages_out number more (IsDistinct-tail nat_eq c.number (numbers_of more) distinct)
    ∙ ap (all_of number) (sym (if_false (nat_eq number c.number) c.steps (steps_of number more) is)))))

-- an entry of a packet, and one of another

stages_first : (number : ℕ) (steps : List Stage) → stages_of number (first_of number steps) ≡ first_of number steps
stages_first number [] = refl
stages_first number (s ∷ behind) =
    if_true (nat_eq number number) (record { number = number; step = s; behind = behind } ∷ []) [] (eq-eqb number number refl)

first_same : (number entry : ℕ) (steps : List Stage) → number ≡ entry → stages_of number (first_of entry steps) ≡ first_of number steps
first_same number entry steps same =
    subst (λ m. stages_of number (first_of m steps) ≡ first_of number steps) same (stages_first number steps)

first_other : (number entry : ℕ) (steps : List Stage) → nat_eq number entry ≡ false → stages_of number (first_of entry steps) ≡ []
first_other number entry [] apart = refl
first_other number entry (s ∷ behind) apart =
    if_false (nat_eq number entry) (record { number = entry; step = s; behind = behind } ∷ []) [] apart

first_rest : (number : ℕ) (steps : List Stage) → first_of number steps ++ all_of number (drop 1 steps) ≡ all_of number steps
first_rest number [] = refl
first_rest number (s ∷ behind) = refl

-- what is to come after an entry

abbrev after_first : Coming → Coming
after_first c = record { number = c.number; steps = drop 1 c.steps }

pub without_head : (entry : ℕ) (c : Coming) (more : List Coming) → nat_eq entry c.number ≡ true
    → without_first entry (c ∷ more) ≡ after_first c ∷ more
without_head entry c more is = if_true (nat_eq entry c.number) (after_first c ∷ more) (c ∷ without_first entry more) is

pub without_tail : (entry : ℕ) (c : Coming) (more : List Coming) → nat_eq entry c.number ≡ false
    → without_first entry (c ∷ more) ≡ c ∷ without_first entry more
without_tail entry c more is = if_false (nat_eq entry c.number) (after_first c ∷ more) (c ∷ without_first entry more) is

pub steps_head : (number : ℕ) (c : Coming) (more : List Coming) → nat_eq number c.number ≡ true → steps_of number (c ∷ more) ≡ c.steps
steps_head number c more is = if_true (nat_eq number c.number) c.steps (steps_of number more) is

pub steps_tail : (number : ℕ) (c : Coming) (more : List Coming) → nat_eq number c.number ≡ false
    → steps_of number (c ∷ more) ≡ steps_of number more
steps_tail number c more is = if_false (nat_eq number c.number) c.steps (steps_of number more) is

steps_mine : (number : ℕ) (comings : List Coming) → steps_of number (without_first number comings) ≡ drop 1 (steps_of number comings)
steps_mine number [] = refl
steps_mine number (c ∷ more) =
    by_test (nat_eq number c.number) (steps_of number (without_first number (c ∷ more)) ≡ drop 1 (steps_of number (c ∷ more)))
    (λ is. ap (steps_of number) (without_head number c more is)
    ∙ (steps_head number (after_first c) more is ∙ ap (drop 1) (sym (steps_head number c more is))))
    (λ is. ap (steps_of number) (without_tail number c more is)
    ∙ (steps_tail number c (without_first number more) is
    ∙ (steps_mine number more ∙ ap (drop 1) (sym (steps_tail number c more is)))))

steps_other : (number entry : ℕ) (comings : List Coming) → nat_eq number entry ≡ false
    → steps_of number (without_first entry comings) ≡ steps_of number comings
steps_other number entry [] apart = refl
steps_other number entry (c ∷ more) apart =
    by_test (nat_eq entry c.number) (steps_of number (without_first entry (c ∷ more)) ≡ steps_of number (c ∷ more))
    (λ is. let differs : nat_eq number c.number ≡ false =
    subst (λ m. nat_eq number m ≡ false) (eqb-true entry c.number is) apart in
    ap (steps_of number) (without_head entry c more is)
    ∙ (steps_tail number (after_first c) more differs ∙ sym (steps_tail number c more differs)))
    (λ is. ap (steps_of number) (without_tail entry c more is)
    ∙ ap (λ steps. if nat_eq number c.number then c.steps else steps) (steps_other number entry more apart))

pub numbers_kept : (entry : ℕ) (comings : List Coming) → numbers_of (without_first entry comings) ≡ numbers_of comings
numbers_kept entry [] = refl
numbers_kept entry (c ∷ more) =
    by_test (nat_eq entry c.number) (numbers_of (without_first entry (c ∷ more)) ≡ numbers_of (c ∷ more))
    (λ is. ap numbers_of (without_head entry c more is))
    (λ is. ap numbers_of (without_tail entry c more is) ∙ ap (λ ns. c.number ∷ ns) (numbers_kept entry more))

-- an entry of no packet in flight changes nothing
pub without_none : (entry : ℕ) (comings : List Coming) → steps_of entry comings ≡ [] → without_first entry comings ≡ comings
without_none entry [] none = refl
without_none entry (c ∷ more) none =
    by_test (nat_eq entry c.number) (without_first entry (c ∷ more) ≡ c ∷ more)
    (λ is. let gone : c.steps ≡ [] = sym (steps_head entry c more is) ∙ none in
    without_head entry c more is
    ∙ ap (λ (steps : List Stage). record { number = c.number; steps = steps } ∷ more) (ap (drop 1) gone ∙ sym gone))
    (λ is. without_tail entry c more is
    ∙ ap (λ cs. c ∷ cs) (without_none entry more (sym (steps_tail entry c more is) ∙ none)))

pub entry_none : (entry : ℕ) (schedule : List ℕ) (comings : List Coming) → steps_of entry comings ≡ []
    → scheduled (entry ∷ schedule) comings ≡ scheduled schedule comings
entry_none entry schedule comings none =
    ap₂ (λ steps cs. first_of entry steps ++ scheduled schedule cs) none (without_none entry comings none)

-- each packet takes all its steps, in their order

pub stages_scheduled : (number : ℕ) (schedule : List ℕ) (comings : List Coming) → IsDistinct nat_eq (numbers_of comings)
    → stages_of number (scheduled schedule comings) ≡ all_of number (steps_of number comings)
stages_scheduled number [] comings distinct = stages_out number comings distinct
stages_scheduled number (entry ∷ schedule) comings distinct =
    let next : List Coming = without_first entry comings in
    let distinct_next : IsDistinct nat_eq (numbers_of next) = subst (IsDistinct nat_eq) (sym (numbers_kept entry comings)) distinct in
    let later : stages_of number (scheduled schedule next) ≡ all_of number (steps_of number next) =
    stages_scheduled number schedule next distinct_next in
    filter-append (λ t. nat_eq number t.number) (first_of entry (steps_of entry comings)) (scheduled schedule next)
    ∙ by_test (nat_eq number entry)
    (stages_of number (first_of entry (steps_of entry comings)) ++ stages_of number (scheduled schedule next)
    ≡ all_of number (steps_of number comings))
    (λ is. let same : number ≡ entry = eqb-true number entry is in
    ap₂ (λ ts us. ts ++ us) (first_same number entry (steps_of entry comings) same) later
    ∙ (ap₂ (λ steps after. first_of number steps ++ all_of number after)
    (ap (λ m. steps_of m comings) (sym same))
    (ap (λ m. steps_of number (without_first m comings)) (sym same) ∙ steps_mine number comings)
    ∙ first_rest number (steps_of number comings)))
    (λ is. ap₂ (λ ts us. ts ++ us) (first_other number entry (steps_of entry comings) is) later
    ∙ ap (all_of number) (steps_other number entry comings is))

pub step_all : (number : ℕ) (steps : List Stage) → map (λ (t : Taken). t.step) (all_of number steps) ≡ steps
step_all number [] = refl
step_all number (s ∷ behind) = ap (λ steps. s ∷ steps) (step_all number behind)

pub steps_scheduled : (number : ℕ) (schedule : List ℕ) (comings : List Coming) → IsDistinct nat_eq (numbers_of comings)
    → steps_in number (scheduled schedule comings) ≡ steps_of number comings
steps_scheduled number schedule comings distinct =
    ap (map (λ (t : Taken). t.step)) (stages_scheduled number schedule comings distinct) ∙ step_all number (steps_of number comings)

-- with no entry they take them one after the other
pub steps_out : (comings : List Coming) → map (λ (t : Taken). t.step) (one_by_one comings) ≡ flat_map (λ (c : Coming). c.steps) comings
steps_out [] = refl
steps_out (c ∷ more) =
    map-append (λ (t : Taken). t.step) (all_of c.number c.steps) (one_by_one more)
    ∙ ap₂ (λ ss rs. ss ++ rs) (step_all c.number c.steps) (steps_out more)

-- there are as many stages as steps

abbrev steps_count : List Coming → ℕ
steps_count comings = sum_by (λ (c : Coming). length c.steps) comings

count_cons : (c : Coming) (more : List Coming) → steps_count (c ∷ more) ≡ length c.steps + steps_count more
count_cons c more = sum_by-cons (λ (c : Coming). length c.steps) c more

length_all : (number : ℕ) (steps : List Stage) → length (all_of number steps) ≡ length steps
length_all number [] = refl
length_all number (s ∷ behind) = ap suc (length_all number behind)

length_first : (number : ℕ) (steps : List Stage) → length (first_of number steps) + length (drop 1 steps) ≡ length steps
length_first number [] = refl
length_first number (s ∷ behind) = omega arith

count_out : (comings : List Coming) → length (one_by_one comings) ≡ steps_count comings
count_out [] = refl
count_out (c ∷ more) =
    length-append (all_of c.number c.steps) (one_by_one more)
    ∙ (ap₂ (λ m n. m + n) (length_all c.number c.steps) (count_out more) ∙ sym (count_cons c more))

count_entry : (entry : ℕ) (comings : List Coming)
    → length (first_of entry (steps_of entry comings)) + steps_count (without_first entry comings) ≡ steps_count comings
count_entry entry [] = refl
count_entry entry (c ∷ more) =
    by_test (nat_eq entry c.number)
    (length (first_of entry (steps_of entry (c ∷ more))) + steps_count (without_first entry (c ∷ more)) ≡ steps_count (c ∷ more))
    (λ is. let one : length (first_of entry (steps_of entry (c ∷ more))) ≡ length (first_of entry c.steps) =
    ap (λ steps. length (first_of entry steps)) (steps_head entry c more is) in
    let others : steps_count (without_first entry (c ∷ more)) ≡ length (drop 1 c.steps) + steps_count more =
    ap steps_count (without_head entry c more is) ∙ count_cons (after_first c) more in
    let both : length (first_of entry c.steps) + length (drop 1 c.steps) ≡ length c.steps = length_first entry c.steps in
    let all : steps_count (c ∷ more) ≡ length c.steps + steps_count more = count_cons c more in
    omega (arith, one, others, both, all))
    (λ is. let one : length (first_of entry (steps_of entry (c ∷ more))) ≡ length (first_of entry (steps_of entry more)) =
    ap (λ steps. length (first_of entry steps)) (steps_tail entry c more is) in
    let others : steps_count (without_first entry (c ∷ more)) ≡ length c.steps + steps_count (without_first entry more) =
    ap steps_count (without_tail entry c more is) ∙ count_cons c (without_first entry more) in
    let later : length (first_of entry (steps_of entry more)) + steps_count (without_first entry more) ≡ steps_count more =
    count_entry entry more in
    let all : steps_count (c ∷ more) ≡ length c.steps + steps_count more = count_cons c more in
    omega (arith, one, others, later, all))

pub count_scheduled : (schedule : List ℕ) (comings : List Coming) → length (scheduled schedule comings) ≡ steps_count comings
count_scheduled [] comings = count_out comings
count_scheduled (entry ∷ schedule) comings =
    let parts : length (scheduled (entry ∷ schedule) comings)
    ≡ length (first_of entry (steps_of entry comings)) + length (scheduled schedule (without_first entry comings)) =
    length-append (first_of entry (steps_of entry comings)) (scheduled schedule (without_first entry comings)) in
    let later : length (scheduled schedule (without_first entry comings)) ≡ steps_count (without_first entry comings) =
    count_scheduled schedule (without_first entry comings) in
    parts ∙ (ap (λ n. length (first_of entry (steps_of entry comings)) + n) later ∙ count_entry entry comings)
