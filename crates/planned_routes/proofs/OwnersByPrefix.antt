-- Owners by their prefixes.
use Rattle.std.proofs.Common.{◌≡◌, ℕ, true, false, ◌⊎◌, inl, inr, List, [], ◌∷◌, ◌++◌, Contains, refl, sym, ◌∙◌, ap, subst}
use Rattle.std.proofs.lemmas.Bool.{cases_Bool, and_parts, and_from, eqb-true, eq-eqb}
use Rattle.std.proofs.lemmas.List.Elements.{Contains-push_cases}
use Rattle.std.proofs.lemmas.List.Folds.{Any-from_list_any}
use Rattle.v6_addr.specs.Address.{PrefixValue}
use Rattle.net_model.specs.NetworkJudging.{stands_before}
use Rattle.net_model.proofs.PublicLaws.{same_family_from, same_prefix_value, contains_none, contains_cases, contains_first, contains_later}
use Rattle.planned_routes.specs.declared.destination.Destination.{Destination}
use Rattle.planned_routes.specs.declared.owners.Owner.{Owner}
use Rattle.planned_routes.specs.PlannedRoutes.{Has, AreNodesWith}
use Rattle.planned_routes.specs.Owners.{same_key}
use Rattle.planned_routes.specs.Grouping.{nodes_with, destination_of, grouped}
use Rattle.planned_routes.proofs.SameRoutes.{family_means}

-- ---- keys

pub key_means : (a b : Owner) → same_key a b ≡ true → Has b a.table a.family a.prefix
key_means a b e =
    let table = and_parts _ _ e in
    let family = and_parts _ _ table.1 in
    let prefix = and_parts _ _ family.1 in
    record {
      table = sym (eqb-true _ _ table.0);
      family = sym (family_means _ _ family.0);
      prefix = sym (same_prefix_value _ _ (eqb-true _ _ prefix.0) (eqb-true _ _ prefix.1));
    }

pub key_from : (a b : Owner) → Has b a.table a.family a.prefix → same_key a b ≡ true
key_from a b has =
    and_from _ _ (eq-eqb _ _ (sym has.table)) (and_from _ _ (same_family_from _ _ (sym has.family))
    (and_from _ _ (eq-eqb _ _ (ap (λ (p : PrefixValue). p.value) (sym has.prefix)))
    (eq-eqb _ _ (ap (λ (p : PrefixValue). p.len) (sym has.prefix)))))

-- ---- the nodes with a prefix

abbrev Owns : List Owner → Owner → ℕ → Type 0
Owns owners key node = (o : Owner) × Contains owners o × Has o key.table key.family key.prefix × (o.node ≡ node)

owns_later : (x : Owner) (owners : List Owner) (key : Owner) (node : ℕ) → Owns owners key node → Owns (x ∷ owners) key node
owns_later x owners key node owns = (owns.0, contains_later x owners owns.0 owns.1, owns.2, owns.3)

nodes_own : (owners : List Owner) (key : Owner) (node : ℕ) → Contains (nodes_with owners key) node → Owns owners key node
nodes_own [] key node c = absurd (contains_none node c)
nodes_own (x ∷ owners) key node c = elim (cases_Bool (same_key key x)) [
  | inl same ↦ elim (contains_cases x.node (nodes_with owners key) node (rw same at c)) [
    | inl is ↦ (x, contains_first x owners, key_means key x same, is)
    | inr later ↦ owns_later x owners key node (nodes_own owners key node later)
  ]
  | inr apart ↦ owns_later x owners key node (nodes_own owners key node (rw apart at c))
]

own_nodes : (owners : List Owner) (key o : Owner) → Contains owners o → same_key key o ≡ true
    → Contains (nodes_with owners key) o.node
own_nodes [] key o c same = absurd (contains_none o c)
own_nodes (x ∷ owners) key o c same = elim (contains_cases x owners o c) [
  | inl is ↦
      let at_x : same_key key x ≡ true = ap (same_key key) is ∙ same in
      subst (λ (y : Owner). Contains (nodes_with (x ∷ owners) key) y.node) is (rw at_x (contains_first x.node (nodes_with owners key)))
  | inr later ↦
      let more = own_nodes owners key o later same in
      elim (cases_Bool (same_key key x)) [
        | inl mine ↦ rw mine (contains_later x.node (nodes_with owners key) o.node more)
        | inr apart ↦ rw apart more
      ]
]

pub are_nodes_with : (owners : List Owner) (key : Owner) → AreNodesWith owners key.table key.family key.prefix (nodes_with owners key)
are_nodes_with owners key node = (
  nodes_own owners key node,
  λ owns. subst (λ (n : ℕ). Contains (nodes_with owners key) n) owns.3
      (own_nodes owners key owns.0 owns.1 (key_from key owns.0 owns.2)),
)

-- ---- groups

pub group_means : (owners before rest : List Owner) (d : Destination) → Contains (grouped owners before rest) d
    → (o : Owner) × Contains rest o × (destination_of owners o ≡ d)
group_means owners before [] d c = absurd (contains_none d c)
group_means owners before (x ∷ rest) d c = elim (cases_Bool (stands_before same_key before x)) [
  | inl stood ↦
      let more = group_means owners (before ++ x ∷ []) rest d (rw stood at c) in
      (more.0, contains_later x rest more.0 more.1, more.2)
  | inr new ↦ elim (contains_cases (destination_of owners x) (grouped owners (before ++ x ∷ []) rest) d (rw new at c)) [
    | inl is ↦ (x, contains_first x rest, is)
    | inr later ↦
        let more = group_means owners (before ++ x ∷ []) rest d later in
        (more.0, contains_later x rest more.0 more.1, more.2)
  ]
]

-- an owner's prefix is that of an owner before, or of a group
abbrev IsGrouped : List Owner → List Owner → List Owner → Owner → Type 0
IsGrouped owners before rest o =
    (first : Owner) × Has o first.table first.family first.prefix
    × (Contains before first ⊎ Contains (grouped owners before rest) (destination_of owners first))

has_via : (a b o : Owner) → Has b a.table a.family a.prefix → Has o b.table b.family b.prefix → Has o a.table a.family a.prefix
has_via a b o first then = record {
  table = then.table ∙ first.table;
  family = then.family ∙ first.family;
  prefix = then.prefix ∙ first.prefix;
}

-- one with a prefix that stands before
stood_is : (owners before rest : List Owner) (x o : Owner) → stands_before same_key before x ≡ true
    → Has o x.table x.family x.prefix → IsGrouped owners before rest o
stood_is owners before rest x o stood has =
    let any = Any-from_list_any (λ s. same_key s x) before stood in
    (any.1, has_via any.1 x o (key_means any.1 x any.4) has, inl (any.0, any.2, any.3))

pub all_grouped : (owners before rest : List Owner) (o : Owner) → Contains rest o → IsGrouped owners before rest o
all_grouped owners before [] o c = absurd (contains_none o c)
all_grouped owners before (x ∷ rest) o c = elim (cases_Bool (stands_before same_key before x)) [
  | inl stood ↦ elim (contains_cases x rest o c) [
    | inl is ↦ stood_is owners before (x ∷ rest) x o stood (subst (λ (y : Owner). Has y x.table x.family x.prefix) is self)
    | inr later ↦
        let more = all_grouped owners (before ++ x ∷ []) rest o later in
        elim more.2 [
          | inl early ↦ elim (Contains-push_cases before x more.0 early) [
            | inl old ↦ (more.0, more.1, inl old)
            | inr is ↦ stood_is owners before (x ∷ rest) x o stood
                (subst (λ (y : Owner). Has o y.table y.family y.prefix) (sym is) more.1)
          ]
          | inr among ↦ (more.0, more.1, inr (rw stood among))
        ]
  ]
  | inr new ↦ elim (contains_cases x rest o c) [
    | inl is ↦ (x, subst (λ (y : Owner). Has y x.table x.family x.prefix) is self, inr (here new))
    | inr later ↦
        let more = all_grouped owners (before ++ x ∷ []) rest o later in
        elim more.2 [
          | inl early ↦ elim (Contains-push_cases before x more.0 early) [
            | inl old ↦ (more.0, more.1, inl old)
            | inr is ↦ (x, subst (λ (y : Owner). Has o y.table y.family y.prefix) (sym is) more.1, inr (here new))
          ]
          | inr among ↦ (
            more.0,
            more.1,
            inr (rw new (contains_later (destination_of owners x) (grouped owners (before ++ x ∷ []) rest)
                (destination_of owners more.0) among)),
          )
        ]
  ]
]
  where
    self : Has x x.table x.family x.prefix
    self = record { table = refl; family = refl; prefix = refl }

    here : stands_before same_key before x ≡ false → Contains (grouped owners before (x ∷ rest)) (destination_of owners x)
    here new = rw new (contains_first (destination_of owners x) (grouped owners (before ++ x ∷ []) rest))
