-- What reading a plan gives, where it gives something, has a property.
use Rattle.std.proofs.Common.{◌≡◌, ◌∙◌, ℕ, suc, Bool, true, false, not, ◌&&◌, nat_le, List, [], ◌∷◌, length, Option, Some, None, refl, ap, subst}
use Rattle.std.specs.Prelude.{Result, Ok, Err, if◌then◌else◌}
use Rattle.std.specs.List.{list_all}
use Rattle.std.proofs.lemmas.Bool.{and_from}
use Rattle.toml.specs.Data.{Data, Members, get_member}
use Rattle.text_faults.specs.declared.fault.TextFault.{TextFault}
use Rattle.net_model.specs.NetworkJudgingTerms as judging_terms
use Rattle.toml_reader.specs.TomlReading.{◌>>=◌, read_map, or_fault}
use Rattle.net_syntax.specs.declared.family_prefix.FamilyPrefix.{FamilyPrefix}
use Rattle.net_reader.proofs.YieldLemmas as texts
use Rattle.net_reader.proofs.DescribedLemmas.{yields_family}
use Rattle.plan_syntax.specs.declared.plan_places.PlanTable.{PlanTable}
use Rattle.plan_syntax.specs.declared.plan_places.PlanKey.{PlanKey}
use Rattle.plan_syntax.specs.declared.plan_places.PlanPlace.{PlanPlace}
use Rattle.plan_syntax.specs.declared.plan_faults.PlanFault.{PlanFault}
use Rattle.plan_syntax.specs.declared.plan_faults.PlanFaultKind.TheVariants as kinds
use Rattle.plan_syntax.specs.PlanFaults.{plan_fault_at}
use Rattle.plan_syntax.specs.PlanWords.{plan_key_text}
use Rattle.plan_syntax.specs.PlanTree.{told_at, any_place, any_key, prefix_in, number_in, given, array_in, count_in, few, some_of, each_from, list_in, needed, or_default, optional, tables_in, items_at}
use Rattle.net_plan.specs.PlanRanges.{prefix_fits}

-- what is given has the property; a fault says nothing
abbrev pub Yields : {X F : Type 0} → (X → Type 0) → Result X F → Type 0
Yields P (Ok x) = P x
Yields P (Err fault) = Unit {0}

pub yielded : {X F : Type 0} (P : X → Type 0) (r : Result X F) (x : X) → Yields P r → r ≡ Ok x → P x
yielded {F = F} P r x holds is = let Q : Result _ F → Type 0 = λ q. Yields P q in subst Q is holds

pub yields_next : {X Y F : Type 0} (K : X → Type 0) (P : Y → Type 0) (r : Result X F) (next : X → Result Y F) → Yields K r
    → ((x : X) → K x → Yields P (next x)) → Yields P (◌>>=◌ r next)
yields_next K P (Ok x) next known goes_on = goes_on x known
yields_next K P (Err fault) next known goes_on = tt

-- nothing is known of what comes first
pub yields_behind : {X Y F : Type 0} (P : Y → Type 0) (r : Result X F) (next : X → Result Y F) → ((x : X) → Yields P (next x))
    → Yields P (◌>>=◌ r next)
yields_behind P (Ok x) next goes_on = goes_on x
yields_behind P (Err fault) next goes_on = tt

pub yields_if : {X F : Type 0} (P : X → Type 0) (b : Bool) (x : X) (fault : F) → (b ≡ true → P x)
    → Yields P (if b then Ok x else Err fault)
yields_if P true x fault holds = holds refl
yields_if P false x fault holds = tt

pub yields_unless : {X F : Type 0} (P : X → Type 0) (b : Bool) (fault : F) (r : Result X F) → (b ≡ true → Yields P r)
    → Yields P (if not b then Err fault else r)
yields_unless P true fault r holds = holds refl
yields_unless P false fault r holds = tt

-- ---- values

told_yields : {X : Type 0} (P : X → Type 0) (p : PlanPlace) (k : PlanKey) (r : Result X TextFault) → texts.Yields P r → Yields P (told_at p k r)
told_yields P p k (Ok x) holds = holds
told_yields P p k (Err fault) holds = tt

pub yields_number : (least most : ℕ) (p : PlanPlace) (k : PlanKey) (d : Data)
    → Yields (λ n. (nat_le least n && nat_le n most) ≡ true) (number_in least most p k d)
yields_number least most p k d = told_yields (texts.IsWithin least most) p k _ (texts.yields_number least most any_place any_key d)

pub yields_prefix : (p : PlanPlace) (k : PlanKey) (d : Data) → Yields (λ q. prefix_fits q ≡ true) (prefix_in p k d)
yields_prefix p k d = told_yields (λ (q : FamilyPrefix). prefix_fits q ≡ true) p k _ (yields_family any_place any_key d)

-- what may be absent has the property where it is there
abbrev pub IfGiven : {X : Type 0} → (X → Type 0) → Option X → Type 0
IfGiven P None = Unit {0}
IfGiven P (Some x) = P x

given_if : {X F : Type 0} (P : X → Type 0) (r : Result X F) → Yields P r → Yields (IfGiven P) (read_map Some r)
given_if P (Ok x) holds = holds
given_if P (Err fault) holds = tt

pub yields_given : {X : Type 0} (P : X → Type 0) (kind : PlanPlace → PlanKey → Data → Result X PlanFault)
    → ((p : PlanPlace) (k : PlanKey) (d : Data) → Yields P (kind p k d)) → (p : PlanPlace) (k : PlanKey) (d : Data)
    → Yields (IfGiven P) (given kind p k d)
yields_given P kind each p k d = given_if P (kind p k d) (each p k d)

-- ---- lists

-- not more than so many, each of which passes a test
abbrev pub AreFew : {X : Type 0} → ℕ → (X → Bool) → List X → Type 0
AreFew most test xs = judging_terms.few most test xs ≡ true

abbrev Each : {X Y : Type 0} → (Y → Bool) → List X → List Y → Type 0
Each test xs ys = (length ys ≡ length xs) × (list_all test ys ≡ true)

yields_each : {X Y : Type 0} (test : Y → Bool) (read : ℕ → X → Result Y PlanFault) (n : ℕ) (xs : List X)
    → ((n : ℕ) (x : X) → Yields (λ y. test y ≡ true) (read n x)) → Yields (Each test xs) (each_from read n xs)
yields_each test read n [] each = (refl, refl)
yields_each test read n (x ∷ xs) each =
    yields_next (λ y. test y ≡ true) (Each test (x ∷ xs)) (read n x) _ (each n x)
    (λ y passes. yields_next (Each test xs) (Each test (x ∷ xs)) (each_from read (suc n) xs) _ (yields_each test read (suc n) xs each)
    (λ ys rest. (ap suc rest.0, and_from _ _ passes rest.1)))

yields_count : (p : PlanPlace) (k : PlanKey) (most count : ℕ) → Yields (λ n. nat_le count most ≡ true) (count_in p k most count)
yields_count p k most count = yields_if (λ n. nat_le count most ≡ true) (nat_le count most) count _ (λ e. e)

yields_few : {X : Type 0} (p : PlanPlace) (k : PlanKey) (most : ℕ) (xs : List X)
    → Yields (λ ys. nat_le (length ys) most ≡ true) (few p k most xs)
yields_few p k most xs =
    yields_next (λ n. nat_le (length xs) most ≡ true) (λ ys. nat_le (length ys) most ≡ true) (count_in p k most (length xs)) _
    (yields_count p k most (length xs)) (λ n short. short)

-- few items, one after another
few_each : {X Y : Type 0} (most : ℕ) (test : Y → Bool) (read : ℕ → X → Result Y PlanFault) (n : ℕ) (xs : List X)
    → nat_le (length xs) most ≡ true → ((n : ℕ) (x : X) → Yields (λ y. test y ≡ true) (read n x))
    → Yields (AreFew most test) (each_from read n xs)
few_each {Y = Y} most test read n xs short each =
    weaker (each_from read n xs) (yields_each test read n xs each)
  where
    weaker : (r : Result (List Y) PlanFault) → Yields (Each test xs) r → Yields (AreFew most test) r
    weaker (Ok ys) h = and_from _ _ (ap (λ count. nat_le count most) h.0 ∙ short) h.1
    weaker (Err fault) h = tt

pub yields_list : {X : Type 0} (most : ℕ) (test : X → Bool) (kind : PlanPlace → PlanKey → Data → Result X PlanFault)
    → ((p : PlanPlace) (k : PlanKey) (d : Data) → Yields (λ x. test x ≡ true) (kind p k d)) → (p : PlanPlace) (k : PlanKey) (d : Data)
    → Yields (AreFew most test) (list_in most kind p k d)
yields_list most test kind each p k d =
    yields_behind (AreFew most test) (array_in p k d) _
    (λ ds. yields_next (λ ms. nat_le (length ms) most ≡ true) (AreFew most test) (few p k most ds) _ (yields_few p k most ds)
    (λ ms short. few_each most test (λ n. kind p k) 0 ms short (λ n x. each p k x)))

-- of a list of any members its length
true_any : {X F : Type 0} (r : Result X F) → Yields (λ x. true ≡ true) r
true_any (Ok x) = refl
true_any (Err fault) = tt

pub yields_some : {X : Type 0} (P : List X → Type 0) (p : PlanPlace) (k : PlanKey) (xs : List X) → P xs → Yields P (some_of p k xs)
yields_some P p k xs holds = yields_if P (nat_le 1 (length xs)) xs _ (λ e. holds)

pub yields_length : {X : Type 0} (most : ℕ) (kind : PlanPlace → PlanKey → Data → Result X PlanFault) (p : PlanPlace) (k : PlanKey) (d : Data)
    → Yields (AreFew most (λ (x : X). true)) (list_in most kind p k d)
yields_length {X = X} most kind p k d = yields_list most (λ (x : X). true) kind (λ p k d. true_any (kind p k d)) p k d

-- ---- keys and tables

pub yields_needed : {X : Type 0} (P : X → Type 0) (kind : PlanPlace → PlanKey → Data → Result X PlanFault)
    → ((p : PlanPlace) (k : PlanKey) (d : Data) → Yields P (kind p k d)) → (p : PlanPlace) (t : Members) (k : PlanKey)
    → Yields P (needed kind p t k)
yields_needed P kind each p t k =
    yields_behind P (or_fault (plan_fault_at p (kinds.MissingKey k)) (get_member (plan_key_text k) t)) _ (λ d. each p k d)

or_default_yields : {X : Type 0} (P : X → Type 0) (kind : PlanPlace → PlanKey → Data → Result X PlanFault) (default : X)
    → ((p : PlanPlace) (k : PlanKey) (d : Data) → Yields P (kind p k d)) → P default → (p : PlanPlace) (k : PlanKey) (o : Option Data)
    → Yields P (or_default kind default p k o)
or_default_yields P kind default each holds p k None = holds
or_default_yields P kind default each holds p k (Some d) = each p k d

pub yields_optional : {X : Type 0} (P : X → Type 0) (kind : PlanPlace → PlanKey → Data → Result X PlanFault) (default : X)
    → ((p : PlanPlace) (k : PlanKey) (d : Data) → Yields P (kind p k d)) → P default → (p : PlanPlace) (t : Members) (k : PlanKey)
    → Yields P (optional kind default p t k)
yields_optional P kind default each holds p t k = or_default_yields P kind default each holds p k (get_member (plan_key_text k) t)

pub yields_items : {X : Type 0} (kind : PlanTable) (k : PlanKey) (most : ℕ) (test : X → Bool)
    (read : PlanPlace → Members → Result X PlanFault) → ((p : PlanPlace) (t : Members) → Yields (λ x. test x ≡ true) (read p t))
    → (root : Members) → Yields (AreFew most test) (items_at kind k most read root)
yields_items kind k most test read each root =
    let p : PlanPlace = record { table = kind; item = 0 } in
    yields_behind (AreFew most test) (optional tables_in [] p root k) _
    (λ all. yields_next (λ ts. nat_le (length ts) most ≡ true) (AreFew most test) (few p k most all) _ (yields_few p k most all)
    (λ ts short. few_each most test (λ n. read (record { table = kind; item = n })) 1 ts short
    (λ n t. each (record { table = kind; item = n }) t)))
