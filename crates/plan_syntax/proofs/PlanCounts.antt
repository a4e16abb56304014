-- Lists and arrays of tables, by their counts and then by their members.
use Rattle.std.proofs.Common.{◌≡◌, ℕ, List, [], length, map, refl}
use Rattle.std.proofs.lemmas.List.{length-map}
use Rattle.std.specs.Prelude.{Result, Ok, Err}
use Rattle.toml.specs.Data.{Data, Members}
use Rattle.toml.specs.View.{view}
use Rattle.toml.specs.declared.value.Value.{Value}
use Rattle.plan_syntax.specs.declared.plan_places.PlanTable.{PlanTable}
use Rattle.plan_syntax.specs.declared.plan_places.PlanPlace.{PlanPlace}
use Rattle.plan_syntax.specs.declared.plan_places.PlanKey.{PlanKey}
use Rattle.plan_syntax.specs.declared.plan_faults.PlanFault.{PlanFault}
use Rattle.plan_syntax.specs.PlanTree.{array_in, count_in, each_from, list_in, optional, tables_in, items_at}

-- a list of too many members
pub list_long : {X : Type 0} (most : ℕ) (kind : PlanPlace → PlanKey → Data → Result X PlanFault) (p : PlanPlace) (k : PlanKey) (d : Data)
    (vs : List Value) (fault : PlanFault) → Ok (map view vs) ≡ array_in p k d → Err fault ≡ count_in p k most (length vs)
    → list_in most kind p k d ≡ Err fault
list_long most kind p k d vs fault is long = rw (← is, length-map vs view, ← long) refl

-- a list of not too many gives what its members give
pub list_read : {X : Type 0} (most : ℕ) (kind : PlanPlace → PlanKey → Data → Result X PlanFault) (p : PlanPlace) (k : PlanKey) (d : Data)
    (vs : List Value) (r : Result (List X) PlanFault) → Ok (map view vs) ≡ array_in p k d → Ok (length vs) ≡ count_in p k most (length vs)
    → each_from (λ n. kind p k) 0 (map view vs) ≡ r → list_in most kind p k d ≡ r
list_read most kind p k d vs r is short each = rw (← is, length-map vs view, ← short) each

-- tables that are not too many give what each of them gives
pub items_read : {V X : Type 0} (kind : PlanTable) (k : PlanKey) (most : ℕ) (read : PlanPlace → Members → Result X PlanFault) (root : Members)
    (see : V → Members) (ts : List V) (r : Result (List X) PlanFault)
    → optional tables_in [] (record { table = kind; item = 0 }) root k ≡ Ok (map see ts)
    → Ok (length ts) ≡ count_in (record { table = kind; item = 0 }) k most (length ts)
    → each_from (λ n. read (record { table = kind; item = n })) 1 (map see ts) ≡ r → items_at kind k most read root ≡ r
items_read kind k most read root see ts r are short each = rw (are, length-map ts see, ← short) each
