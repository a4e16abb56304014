-- Links by the node that they lead to: one more, and all.
use Rattle.std.proofs.Common.{◌≡◌, ℕ, zero, suc, ◌+◌, ◌-◌, ◌<◌, inl, inr, List, [], ◌∷◌, ◌++◌, length, set, get_or, Some, None, slice_get, Contains, Vec, Global, refl, sym, ◌∙◌, ap, subst, arith, length-append}
use Rattle.std.proofs.lemmas.Bool.{cases_eq}
use Rattle.std.proofs.lemmas.List.{length-set}
use Rattle.std.proofs.lemmas.Option.{slice_get_read}
use Rattle.std.proofs.lemmas.List.Elements.{Contains-append_left, Contains-push, Contains-push_cases}
use Rattle.shortest_paths.specs.declared.links.Link.{Link}
use Rattle.shortest_paths.specs.Incoming.{Groups, IsIn, AreEmpty, PutsLink, PutsLinks, AreIncoming}
use Rattle.shortest_paths.proofs.Lists.{some_same, none_some, get_set_same, get_set_other, append_cases, contains_none}

module _ (groups : Groups) (link : Link) (far : ℕ) (to : link.to ≡ Some far) (group more : Vec Link Global)
    (within : far < length groups) (here : slice_get groups far ≡ Some group) (items : more.items ≡ group.items ++ link ∷ []) where
  put_now : slice_get (set groups far more) far ≡ Some more
  put_now = get_set_same groups far more within

  put_kept : (node : ℕ) (other : Link) → IsIn groups node other → IsIn (set groups far more) node other
  put_kept node other is = elim (cases_eq node far) [
    | inl same ↦
        let one : is.0 ≡ group = some_same is.0 group (sym is.1 ∙ ap (slice_get groups) same ∙ here) in
        let among : Contains group.items other = subst (λ (g : Vec Link Global). Contains g.items other) one is.2 in (
          more,
          ap (slice_get (set groups far more)) same ∙ put_now,
          subst (λ (xs : List Link). Contains xs other) (sym items) (Contains-append_left group.items (link ∷ []) other among),
        )
    | inr apart ↦ (is.0, get_set_other groups far node more apart ∙ is.1, is.2)
  ]

  put_in : IsIn (set groups far more) far link
  put_in = (more, put_now, subst (λ (xs : List Link). Contains xs link) (sym items) (Contains-push group.items link))

  pub puts_one : PutsLink groups (set groups far more) link
  puts_one = record {
    long = length-set groups far more;
    kept = put_kept;
    put = λ other is. subst (λ (n : ℕ). IsIn (set groups far more) n link) (some_same far other (sym to ∙ is)) put_in;
    only = λ node other is. elim (cases_eq node far) [
      | inl same ↦
          let one : is.0 ≡ more = some_same is.0 more (sym is.1 ∙ ap (slice_get (set groups far more)) same ∙ put_now) in
          let among : Contains (group.items ++ link ∷ []) other =
          subst (λ (xs : List Link). Contains xs other) items (subst (λ (g : Vec Link Global). Contains g.items other) one is.2) in
          elim (Contains-push_cases group.items link other among) [
            | inl old ↦ inl (group, ap (slice_get groups) same ∙ here, old)
            | inr new ↦ inr (new, to ∙ ap (λ (n : ℕ). Some n) (sym same))
          ]
      | inr apart ↦ inl (is.0, sym (get_set_other groups far node more apart) ∙ is.1, is.2)
    ];
  }

-- a link out of the network goes to no group
pub puts_out : (groups : Groups) (link : Link) → link.to ≡ None → PutsLink groups groups link
puts_out groups link out = record {
  long = refl;
  kept = λ node other is. is;
  put = λ far to. absurd (none_some far (sym out ∙ to));
  only = λ node other is. inl is;
}

pub puts_none : (groups : Groups) → PutsLinks groups [] groups
puts_none groups = record { long = refl; put = λ link among far to. absurd (contains_none link among); only = λ node link is. inl is }

pub puts_more : (g0 g g1 : Groups) (links : List Link) (link : Link) → PutsLinks g0 links g → PutsLink g g1 link
    → PutsLinks g0 (links ++ link ∷ []) g1
puts_more g0 g g1 links link so more = record {
  long = more.long ∙ so.long;
  put = λ other among far to. elim (Contains-push_cases links link other among) [
    | inl old ↦ more.kept far other (so.put other old far to)
    | inr new ↦ subst (λ (l : Link). IsIn g1 far l) new (more.put far (ap (λ (l : Link). l.to) new ∙ to))
  ];
  only = λ node other is. elim (more.only node other is) [
    | inl was ↦ elim (so.only node other was) [
      | inl first ↦ inl first
      | inr listed ↦ inr (Contains-append_left links (link ∷ []) other listed.0, listed.1)
    ]
    | inr new ↦ inr (
      subst (λ (l : Link). Contains (links ++ link ∷ []) l) new.0 (Contains-push links link),
      sym (ap (λ (l : Link). l.to) new.0) ∙ new.1,
    )
  ];
}

pub empty_more : (n : ℕ) (groups : Groups) (group : Vec Link Global) → group.items ≡ [] → AreEmpty n groups
    → AreEmpty (n + 1) (groups ++ group ∷ [])
empty_more n groups group none are = (
  long_more groups group n are.0,
  λ node link is. elim (append_cases groups (group ∷ []) node is.0 is.1) [
    | inl old ↦ are.1 node link (is.0, old.1, is.2)
    | inr new ↦ last (node - length groups) is.0 link new is.2
  ],
)
  where
    long_more : (xs : Groups) (x : Vec Link Global) (n : ℕ) → length xs ≡ n → length (xs ++ x ∷ []) ≡ n + 1
    long_more xs x n h = omega (arith, length-append xs (x ∷ []), h)

    last : (k : ℕ) (g : Vec Link Global) (link : Link) → slice_get (group ∷ []) k ≡ Some g → Contains g.items link → ⊥
    last zero g link e c =
        let one : group ≡ g = some_same group g e in
        contains_none link (subst (λ (xs : List Link). Contains xs link) (ap (λ (x : Vec Link Global). x.items) (sym one)
        ∙ none) c)
    last (suc k) g link e c = none_some g e

pub are_incoming : (g0 g : Groups) (links : List Link) (count : ℕ) → AreEmpty count g0 → PutsLinks g0 links g
    → AreIncoming links count g
are_incoming g0 g links count empty puts = record {
  long = puts.long ∙ empty.0;
  each = puts.put;
  only = λ node link is. elim (puts.only node link is) [
    | inl was ↦ absurd (empty.1 node link was)
    | inr listed ↦ listed
  ];
}

-- the group of a node has exactly the links that lead to it
module _ (links : List Link) (count : ℕ) (groups : Groups) (node : ℕ) (group : Vec Link Global) (into : List Link)
    (incoming : AreIncoming links count groups) (within : node < count) (read : group ≡ get_or groups node group)
    (into_is : into ≡ group.items) where
  group_here : slice_get groups node ≡ Some group
  group_here = slice_get_read groups count node group (sym incoming.long) within read

  pub each_into : (link : Link) → Contains into link → Contains links link × (link.to ≡ Some node)
  each_into link among =
      incoming.only node link (group, group_here, subst (λ (xs : List Link). Contains xs link) into_is among)

  pub all_into : (link : Link) → Contains links link → link.to ≡ Some node → Contains into link
  all_into link among same =
      let is = incoming.each link among node same in
      let one : is.0 ≡ group = some_same is.0 group (sym is.1 ∙ group_here) in
      subst (λ (xs : List Link). Contains xs link) (sym into_is) (subst (λ (g : Vec Link Global). Contains g.items link) one is.2)
