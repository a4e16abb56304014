-- Items that are equal in all fields are equal, and so are lists that differ nowhere.
use Rattle.std.proofs.Common.{◌≡◌, ℕ, suc, ◌+◌, Bool, true, false, if◌then◌else◌, List, [], ◌∷◌, length, Option, Some, None, refl, ap, ap₂, ◌∙◌}
use Rattle.std.proofs.lemmas.Bool.{and_parts, eqb-true}
use Rattle.v6_addr.specs.Address.{PrefixValue}
use Rattle.v6_addr.specs.declared.address.Addr.{Addr}
use Rattle.srv6_rules.specs.declared.family.Family.{Family}
use Rattle.srv6_rules.specs.declared.family.Family.TheVariants as families
use Rattle.net_model.specs.declared.parts.Block.{Block}
use Rattle.net_model.specs.declared.parts.BlockKind.{BlockKind}
use Rattle.net_model.specs.declared.parts.BlockKind.TheVariants as kinds
use Rattle.net_model.specs.declared.parts.Node.{Node}
use Rattle.net_model.specs.declared.parts.Link.{Link}
use Rattle.net_model.specs.NetworkRules.{same_bytes, same_family, same_number, same_prefix}
use Rattle.update_spec.specs.Equal.{equal_options, equal_kinds, equal_block, equal_node, equal_link}
use Rattle.update_spec.specs.Planning.{first_difference}

pub same_bytes_are : (xs ys : List ℕ) → same_bytes xs ys ≡ true → xs ≡ ys
same_bytes_are [] [] h = refl
same_bytes_are [] (y ∷ ys) h = cc
same_bytes_are (x ∷ xs) [] h = cc
same_bytes_are (x ∷ xs) (y ∷ ys) h =
    let parts = and_parts _ _ h in
    ap₂ (λ z zs. z ∷ zs) (eqb-true _ _ parts.0) (same_bytes_are xs ys parts.1)

pub options_are : {X : Type 0} (equal : X → X → Bool) → ((x y : X) → equal x y ≡ true → x ≡ y) → (o p : Option X)
    → equal_options equal o p ≡ true → o ≡ p
options_are equal f None None h = refl
options_are equal f None (Some y) h = cc
options_are equal f (Some x) None h = cc
options_are equal f (Some x) (Some y) h = ap Some (f x y h)

abbrev prefix_with : ℕ → ℕ → PrefixValue
prefix_with value len = record { value = value; len = len }

pub same_prefix_are : (p q : PrefixValue) → same_prefix p q ≡ true → p ≡ q
same_prefix_are p q h =
    let parts = and_parts _ _ h in
    ap₂ prefix_with (eqb-true _ _ parts.0) (eqb-true _ _ parts.1)

kinds_are : (k l : BlockKind) → equal_kinds k l ≡ true → k ≡ l
kinds_are kinds.Next kinds.Next h = refl
kinds_are kinds.Next kinds.Replace h = cc
kinds_are kinds.Replace kinds.Next h = cc
kinds_are kinds.Replace kinds.Replace h = refl

abbrev block_with : PrefixValue → BlockKind → ℕ → Block
block_with p k c = record { prefix = p; kind = k; csid = c }

pub blocks_are : (a b : Block) → equal_block a b ≡ true → a ≡ b
blocks_are a b h =
    let prefix = and_parts _ _ h in
    let rest = and_parts _ _ prefix.1 in
    let e : a.prefix ≡ b.prefix = same_prefix_are a.prefix b.prefix prefix.0 in
    let f : a.kind ≡ b.kind = kinds_are a.kind b.kind rest.0 in
    let g : a.csid ≡ b.csid = eqb-true a.csid b.csid rest.1 in
    ap₂ (λ p k. block_with p k a.csid) e f ∙ ap (block_with b.prefix b.kind) g

abbrev address_with : ℕ → Addr
address_with v = record { value = v }

abbrev node_with : List ℕ → Addr → List ℕ → Node
node_with name address allow = record { name = name; address = address; allow = allow }

pub nodes_are : (m n : Node) → equal_node m n ≡ true → m ≡ n
nodes_are m n h =
    let name = and_parts _ _ h in
    let rest = and_parts _ _ name.1 in
    let e : m.name ≡ n.name = same_bytes_are m.name n.name name.0 in
    let f : m.address ≡ n.address = ap address_with (eqb-true m.address.value n.address.value rest.0) in
    let g : m.allow ≡ n.allow = same_bytes_are m.allow n.allow rest.1 in
    ap₂ (λ x a. node_with x a m.allow) e f ∙ ap (node_with n.name n.address) g

abbrev link_with : List ℕ → ℕ → Option ℕ → ℕ → Link
link_with name from to mtu = record { name = name; from = from; to = to; mtu = mtu }

pub links_are : (l m : Link) → equal_link l m ≡ true → l ≡ m
links_are l m h =
    let name = and_parts _ _ h in
    let rest = and_parts _ _ name.1 in
    let e : l.name ≡ m.name = same_bytes_are l.name m.name name.0 in
    let f : l.from ≡ m.from = eqb-true l.from m.from rest.0 in
    let ends = and_parts _ _ rest.1 in
    let g : l.to ≡ m.to = options_are same_number (λ x y k. eqb-true x y k) l.to m.to ends.0 in
    let k : l.mtu ≡ m.mtu = eqb-true l.mtu m.mtu ends.1 in
    ap₂ (λ x n. link_with x n l.to l.mtu) e f ∙ ap₂ (link_with m.name m.from) g k

-- ---- lists that differ nowhere

agreed : {X : Type 0} (equal : X → X → Bool) (n : ℕ) (x y : X) (xs ys : List X) → first_difference equal n (x ∷ xs) (y ∷ ys) ≡ None
    → (equal x y ≡ true) × (first_difference equal (n + 1) xs ys ≡ None)
agreed equal n x y xs ys h =
    elim (equal x y) as (λ b. (if b then first_difference equal (n + 1) xs ys else Some n) ≡ None
    → (b ≡ true) × (first_difference equal (n + 1) xs ys ≡ None))
    [ true ↦ λ k. (refl, k) | false ↦ λ k. cc ] h

pub lists_are : {X : Type 0} (equal : X → X → Bool) → ((x y : X) → equal x y ≡ true → x ≡ y) → (n : ℕ) (xs ys : List X)
    → first_difference equal n xs ys ≡ None → xs ≡ ys
lists_are equal f n [] [] h = refl
lists_are equal f n [] (y ∷ ys) h = cc
lists_are equal f n (x ∷ xs) [] h = cc
lists_are equal f n (x ∷ xs) (y ∷ ys) h =
    let parts = agreed equal n x y xs ys h in
    ap₂ (λ z zs. z ∷ zs) (f x y parts.0) (lists_are equal f (n + 1) xs ys parts.1)

pub as_many : {X : Type 0} (equal : X → X → Bool) (n : ℕ) (xs ys : List X) → first_difference equal n xs ys ≡ None
    → length xs ≡ length ys
as_many equal n [] [] h = refl
as_many equal n [] (y ∷ ys) h = cc
as_many equal n (x ∷ xs) [] h = cc
as_many equal n (x ∷ xs) (y ∷ ys) h = ap suc (as_many equal (n + 1) xs ys (agreed equal n x y xs ys h).1)

-- ---- families

pub families_are : (f g : Family) → same_family f g ≡ true → f ≡ g
families_are families.V6 families.V6 h = refl
families_are families.V6 families.V4 h = cc
families_are families.V4 families.V6 h = cc
families_are families.V4 families.V4 h = refl
