-- What reading gives, where it gives something, has a property.
use Rattle.std.proofs.Common.{◌≡◌, ◌∙◌, ℕ, suc, Bool, true, false, ◌&&◌, nat_le, List, [], ◌∷◌, length, Option, Some, None, refl, ap, subst}
use Rattle.std.specs.Prelude.{ℤ, pos, negsuc, Result, Ok, Err, if◌then◌else◌}
use Rattle.std.specs.List.{list_all}
use Rattle.std.proofs.lemmas.Bool.{and_from}
use Rattle.toml.specs.Data.{Data, Members, get_member}
use Rattle.text_faults.specs.declared.text_place.TableKind.{TableKind}
use Rattle.text_faults.specs.declared.text_place.Key.{Key}
use Rattle.text_faults.specs.declared.text_place.FaultPlace.{FaultPlace}
use Rattle.text_faults.specs.declared.fault.TextFault.{TextFault}
use Rattle.text_faults.specs.declared.fault_kind.FaultKind.TheVariants as kinds
use Rattle.text_faults.specs.TextFaults.{fault_at}
use Rattle.text_faults.specs.Keys.{key_text}
use Rattle.net_model.specs.NetworkJudgingTerms as judging_terms
use Rattle.toml_reader.specs.TomlReading.{◌>>=◌, read_map, or_fault}
use Rattle.toml_reader.specs.Tree.{integer_in, number_within, number_in, given, array_in, count_in, few, each_from, list_in, needed, or_default, optional, tables_in, items_at}

-- what is given has the property; a fault says nothing
abbrev pub Yields : {X : Type 0} → (X → Type 0) → Result X TextFault → Type 0
Yields P (Ok x) = P x
Yields P (Err fault) = Unit {0}

pub yielded : {X : Type 0} (P : X → Type 0) (r : Result X TextFault) (x : X) → Yields P r → r ≡ Ok x → P x
yielded P r x holds is = let Q : Result _ TextFault → Type 0 = λ q. Yields P q in subst Q is holds

pub yields_next : {X Y : Type 0} (K : X → Type 0) (P : Y → Type 0) (r : Result X TextFault) (next : X → Result Y TextFault) → Yields K r
    → ((x : X) → K x → Yields P (next x)) → Yields P (◌>>=◌ r next)
yields_next K P (Ok x) next known goes_on = goes_on x known
yields_next K P (Err fault) next known goes_on = tt

-- nothing is known of what comes first
pub yields_behind : {X Y : Type 0} (P : Y → Type 0) (r : Result X TextFault) (next : X → Result Y TextFault)
    → ((x : X) → Yields P (next x)) → Yields P (◌>>=◌ r next)
yields_behind P (Ok x) next goes_on = goes_on x
yields_behind P (Err fault) next goes_on = tt

pub yields_or_fault : {X : Type 0} (P : X → Type 0) (fault : TextFault) (o : Option X) → ((x : X) → o ≡ Some x → P x)
    → Yields P (or_fault fault o)
yields_or_fault P fault None holds = tt
yields_or_fault P fault (Some x) holds = holds x refl

pub yields_if : {X : Type 0} (P : X → Type 0) (b : Bool) (x : X) (fault : TextFault) → (b ≡ true → P x)
    → Yields P (if b then Ok x else Err fault)
yields_if P true x fault holds = holds refl
yields_if P false x fault holds = tt

-- ---- values

abbrev pub IsWithin : ℕ → ℕ → ℕ → Type 0
IsWithin least most n = (nat_le least n && nat_le n most) ≡ true

within : (p : FaultPlace) (k : Key) (least most : ℕ) (z : ℤ) → Yields (IsWithin least most) (number_within p k least most z)
within p k least most (pos n) = yields_if (IsWithin least most) (nat_le least n && nat_le n most) n _ (λ e. e)
within p k least most (negsuc n) = tt

pub yields_number : (least most : ℕ) (p : FaultPlace) (k : Key) (d : Data) → Yields (IsWithin least most) (number_in least most p k d)
yields_number least most p k d = yields_behind (IsWithin least most) (integer_in p d) _ (λ z. within p k least most z)

-- what may be absent has the property where it is there
abbrev pub IfGiven : {X : Type 0} → (X → Type 0) → Option X → Type 0
IfGiven P None = Unit {0}
IfGiven P (Some x) = P x

given_if : {X : Type 0} (P : X → Type 0) (r : Result X TextFault) → Yields P r → Yields (IfGiven P) (read_map Some r)
given_if P (Ok x) holds = holds
given_if P (Err fault) holds = tt

pub yields_given : {X : Type 0} (P : X → Type 0) (kind : FaultPlace → Key → Data → Result X TextFault)
    → ((p : FaultPlace) (k : Key) (d : Data) → Yields P (kind p k d)) → (p : FaultPlace) (k : Key) (d : Data)
    → Yields (IfGiven P) (given kind p k d)
yields_given P kind each p k d = given_if P (kind p k d) (each p k d)

-- ---- lists

-- not more than so many, each of which passes a test
abbrev pub AreFew : {X : Type 0} → ℕ → (X → Bool) → List X → Type 0
AreFew most test xs = judging_terms.few most test xs ≡ true

abbrev Each : {X Y : Type 0} → (Y → Bool) → List X → List Y → Type 0
Each test xs ys = (length ys ≡ length xs) × (list_all test ys ≡ true)

yields_each : {X Y : Type 0} (test : Y → Bool) (read : ℕ → X → Result Y TextFault) (n : ℕ) (xs : List X)
    → ((n : ℕ) (x : X) → Yields (λ y. test y ≡ true) (read n x)) → Yields (Each test xs) (each_from read n xs)
yields_each test read n [] each = (refl, refl)
yields_each test read n (x ∷ xs) each =
    yields_next (λ y. test y ≡ true) (Each test (x ∷ xs)) (read n x) _ (each n x)
    (λ y passes. yields_next (Each test xs) (Each test (x ∷ xs)) (each_from read (suc n) xs) _ (yields_each test read (suc n) xs each)
    (λ ys rest. (ap suc rest.0, and_from _ _ passes rest.1)))

yields_count : (p : FaultPlace) (k : Key) (most count : ℕ) → Yields (λ n. nat_le count most ≡ true) (count_in p k most count)
yields_count p k most count = yields_if (λ n. nat_le count most ≡ true) (nat_le count most) count _ (λ e. e)

yields_few : {X : Type 0} (p : FaultPlace) (k : Key) (most : ℕ) (xs : List X)
    → Yields (λ ys. nat_le (length ys) most ≡ true) (few p k most xs)
yields_few p k most xs =
    yields_next (λ n. nat_le (length xs) most ≡ true) (λ ys. nat_le (length ys) most ≡ true) (count_in p k most (length xs)) _
    (yields_count p k most (length xs)) (λ n short. short)

-- few items, one after another
few_each : {X Y : Type 0} (most : ℕ) (test : Y → Bool) (read : ℕ → X → Result Y TextFault) (n : ℕ) (xs : List X)
    → nat_le (length xs) most ≡ true → ((n : ℕ) (x : X) → Yields (λ y. test y ≡ true) (read n x))
    → Yields (AreFew most test) (each_from read n xs)
few_each {Y = Y} most test read n xs short each =
    weaker (each_from read n xs) (yields_each test read n xs each)
  where
    weaker : (r : Result (List Y) TextFault) → Yields (Each test xs) r → Yields (AreFew most test) r
    weaker (Ok ys) h = and_from _ _ (ap (λ count. nat_le count most) h.0 ∙ short) h.1
    weaker (Err fault) h = tt

pub yields_list : {X : Type 0} (most : ℕ) (test : X → Bool) (kind : FaultPlace → Key → Data → Result X TextFault)
    → ((p : FaultPlace) (k : Key) (d : Data) → Yields (λ x. test x ≡ true) (kind p k d)) → (p : FaultPlace) (k : Key) (d : Data)
    → Yields (AreFew most test) (list_in most kind p k d)
yields_list most test kind each p k d =
    yields_behind (AreFew most test) (array_in p d) _
    (λ ds. yields_next (λ ms. nat_le (length ms) most ≡ true) (AreFew most test) (few p k most ds) _ (yields_few p k most ds)
    (λ ms short. few_each most test (λ n. kind p k) 0 ms short (λ n x. each p k x)))

-- ---- keys and tables

pub yields_needed : {X : Type 0} (P : X → Type 0) (kind : FaultPlace → Key → Data → Result X TextFault)
    → ((p : FaultPlace) (k : Key) (d : Data) → Yields P (kind p k d)) → (p : FaultPlace) (t : Members) (k : Key)
    → Yields P (needed kind p t k)
yields_needed P kind each p t k =
    yields_behind P (or_fault (fault_at p (kinds.MissingKey k)) (get_member (key_text k) t)) _ (λ d. each p k d)

or_default_yields : {X : Type 0} (P : X → Type 0) (kind : FaultPlace → Key → Data → Result X TextFault) (default : X)
    → ((p : FaultPlace) (k : Key) (d : Data) → Yields P (kind p k d)) → P default → (p : FaultPlace) (k : Key) (o : Option Data)
    → Yields P (or_default kind default p k o)
or_default_yields P kind default each holds p k None = holds
or_default_yields P kind default each holds p k (Some d) = each p k d

pub yields_optional : {X : Type 0} (P : X → Type 0) (kind : FaultPlace → Key → Data → Result X TextFault) (default : X)
    → ((p : FaultPlace) (k : Key) (d : Data) → Yields P (kind p k d)) → P default → (p : FaultPlace) (t : Members) (k : Key)
    → Yields P (optional kind default p t k)
yields_optional P kind default each holds p t k = or_default_yields P kind default each holds p k (get_member (key_text k) t)

pub yields_items : {X : Type 0} (kind : TableKind) (k : Key) (most : ℕ) (test : X → Bool)
    (read : FaultPlace → Members → Result X TextFault) → ((p : FaultPlace) (t : Members) → Yields (λ x. test x ≡ true) (read p t))
    → (root : Members) → Yields (AreFew most test) (items_at kind k most read root)
yields_items kind k most test read each root =
    let p : FaultPlace = record { table = kind; item = 0 } in
    yields_behind (AreFew most test) (optional tables_in [] p root k) _
    (λ all. yields_next (λ ts. nat_le (length ts) most ≡ true) (AreFew most test) (few p k most all) _ (yields_few p k most all)
    (λ ts short. few_each most test (λ n. read (record { table = kind; item = n })) 1 ts short
    (λ n t. each (record { table = kind; item = n }) t)))
