-- A table but SIDs has no fault exactly where it keeps its rules, where it is in range.
use Rattle.std.proofs.Common.{◌≡◌, ℕ, Bool, true, false, ◌==◌, ◌&&◌, ◌||◌, not, List, [], ◌∷◌, length, Option, Some, None, refl, sym, ap, ◌∙◌, arith}
use Rattle.std.proofs.lemmas.Bool.{and_parts, and_right, lt-ltb}
use Rattle.std.proofs.lemmas.Bool.Decides.{nat_tests}
use Rattle.std.proofs.lemmas.Option.{slice_get_within}
use Rattle.std.specs.Prelude.{nat_lt, nat_le}
use Rattle.std.specs.List.{list_any, list_all, slice_get}
use Rattle.std.specs.Result.{is_ok}
use Rattle.net_model.specs.declared.limits.TheConstants.{MAX_BLOCKS, MAX_NODES, MAX_LINKS, MAX_ROUTES, MAX_POLICIES, MAX_LINKS_OF_SET}
use Rattle.text_faults.specs.declared.text_place.TableKind.TheVariants as tables
use Rattle.text_faults.specs.declared.fault.TextFault.{TextFault}
use Rattle.net_model.specs.declared.parts.Block.{Block}
use Rattle.net_model.specs.declared.parts.NamedPolicy.{NamedPolicy}
use Rattle.net_model.specs.declared.parts.Node.{Node}
use Rattle.net_model.specs.declared.parts.Link.{Link}
use Rattle.net_model.specs.declared.parts.Route.{Route}
use Rattle.net_model.specs.NetworkRules.{are_distinct, is_block_len, overlap, same_node_name, same_node_address, same_link_name, starts_at_node, starts_at, is_link_set, same_route, same_policy_name}
use Rattle.net_model.specs.NetworkRulesTerms.{keeps_block, keeps_blocks, keeps_node, keeps_nodes, ends_elsewhere, keeps_link, keeps_links, keeps_route, keeps_routes, keeps_policy, keeps_policies}
use Rattle.net_model.specs.NetworkJudging.{first_of, judged, stands_before, judge_block, judge_node, is_unknown, is_unknown_end, ends_at, judge_link, is_set_of, judge_route, judge_policy}
use Rattle.net_model.specs.NetworkJudgingTerms.{few, block_in_range, link_in_range, route_in_range, policy_in_range}
use Rattle.net_model.proofs.PassesLemmas.{passes, judged_passes, passes_both, passes_distinct, judged_table, list_all_within, left_out, left_out_behind}

-- ---- blocks

rows_of_block : (a d : Bool) (f g : TextFault) → is_ok (first_of ((not a, f) ∷ (d, g) ∷ [])) ≡ (a && not d)
rows_of_block true true f g = refl
rows_of_block true false f g = refl
rows_of_block false d f g = refl

block_within : (b : Block) → block_in_range b ≡ true → keeps_block b ≡ is_block_len b.prefix.len
block_within b h =
    let parts = and_parts _ _ h in
    left_out _ _ parts.0 ∙ left_out_behind _ _ parts.1

pub blocks_law : (blocks : List Block) → few MAX_BLOCKS block_in_range blocks ≡ true
    → is_ok (judged tables.Block judge_block [] blocks) ≡ keeps_blocks blocks
blocks_law blocks h =
    let range = and_parts _ _ h in
    judged_table tables.Block judge_block (λ b. is_block_len b.prefix.len) overlap
    (λ before p b. rows_of_block (is_block_len b.prefix.len) (stands_before overlap before b) _ _) blocks
    ∙ sym (left_out _ _ range.0
    ∙ ap (λ b. b && are_distinct overlap blocks) (list_all_within block_in_range keeps_block (λ b. is_block_len b.prefix.len) block_within
    blocks range.1))

-- ---- nodes

rows_of_node : (d e : Bool) (f g : TextFault) → is_ok (first_of ((d, f) ∷ (e, g) ∷ [])) ≡ (not d && not e)
rows_of_node true e f g = refl
rows_of_node false true f g = refl
rows_of_node false false f g = refl

pub nodes_law : (nodes : List Node) → few MAX_NODES keeps_node nodes ≡ true
    → is_ok (judged tables.Node judge_node [] nodes) ≡ keeps_nodes nodes
nodes_law nodes h =
    let range = and_parts _ _ h in
    let by_name : List Node → Node → Bool = λ before n. not (stands_before same_node_name before n) in
    let by_address : List Node → Node → Bool = λ before n. not (stands_before same_node_address before n) in
    judged_passes tables.Node judge_node (λ before n. by_name before n && by_address before n)
    (λ before p n. rows_of_node (stands_before same_node_name before n) (stands_before same_node_address before n) _ _) [] nodes
    ∙ (passes_both by_name by_address [] nodes
    ∙ (ap (λ b. b && passes by_address [] nodes) (passes_distinct same_node_name nodes)
    ∙ (ap (λ b. are_distinct same_node_name nodes && b) (passes_distinct same_node_address nodes)
    ∙ sym (left_out _ _ range.0 ∙ left_out _ _ range.1))))

-- ---- links

rows_of_link : (d a u e : Bool) (f g h i : TextFault)
    → is_ok (first_of ((d, f) ∷ (not a, g) ∷ (u, h) ∷ (e, i) ∷ [])) ≡ ((a && (not u && not e)) && not d)
rows_of_link true a u e f g h i = sym (and_right _ false refl)
rows_of_link false true true e f g h i = refl
rows_of_link false true false true f g h i = refl
rows_of_link false true false false f g h i = refl
rows_of_link false false u e f g h i = refl

known_end : (known same : Bool) → (not (not known) && not same) ≡ (known && not same)
known_end true same = refl
known_end false same = refl

ends_law : (node_count from : ℕ) (to : Option ℕ)
    → (not (is_unknown_end node_count to) && not (ends_at from to)) ≡ ends_elsewhere node_count from to
ends_law node_count from None = refl
ends_law node_count from (Some to) = known_end (nat_lt to node_count) (to == from)

pub links_law : (node_count : ℕ) (links : List Link) → few MAX_LINKS link_in_range links ≡ true
    → is_ok (judged tables.Link (judge_link node_count) [] links) ≡ keeps_links node_count links
links_law node_count links h =
    let range = and_parts _ _ h in
    let test : Link → Bool = λ l. nat_lt l.from node_count && ends_elsewhere node_count l.from l.to in
    judged_table tables.Link (judge_link node_count) test same_link_name
    (λ before p l. rows_of_link (stands_before same_link_name before l) (nat_lt l.from node_count) (is_unknown_end node_count l.to)
    (ends_at l.from l.to) _ _ _ _
    ∙ ap (λ b. (nat_lt l.from node_count && b) && not (stands_before same_link_name before l)) (ends_law node_count l.from l.to))
    links
    ∙ sym (left_out _ _ range.0
    ∙ ap (λ b. b && are_distinct same_link_name links) (list_all_within link_in_range (keeps_link node_count) test
    (λ l named. left_out _ _ named) links range.1))

-- ---- sets of links

start_known : (links : List Link) (node n : ℕ) (o : Option Link) → slice_get links n ≡ o → starts_at_node node o ≡ true
    → is_unknown (length links) n ≡ false
start_known links node n None e h = cc
start_known links node n (Some l) e h = ap not (lt-ltb _ _ (slice_get_within links n l e))

starts_known : (links : List Link) (node : ℕ) (set : List ℕ) → list_all (starts_at links node) set ≡ true
    → list_any (is_unknown (length links)) set ≡ false
starts_known links node [] h = refl
starts_known links node (n ∷ ns) h =
    let parts = and_parts _ _ h in
    ap (λ b. b || list_any (is_unknown (length links)) ns) (start_known links node n (slice_get links n) refl parts.0)
    ∙ starts_known links node ns parts.1

-- the links of a set are known
pub set_known : (links : List Link) (node : ℕ) (set : List ℕ) → is_set_of links node set ≡ true
    → list_any (is_unknown (length links)) set ≡ false
set_known links node set h = starts_known links node set (and_parts _ _ (and_parts _ _ h).1).1

known_set : (u s : Bool) → (s ≡ true → u ≡ false) → (not u && s) ≡ s
known_set true true h = absurd (cc (h refl))
known_set true false h = refl
known_set false s h = refl

pub set_law : (links : List Link) (node : ℕ) (set : List ℕ) → nat_le (length set) MAX_LINKS_OF_SET ≡ true
    → is_link_set links node set ≡ is_set_of links node set
set_law links node set h = ap (λ b. nat_le 1 (length set) && b) (left_out _ _ h)

-- ---- routes

rows_of_route : (a u s d : Bool) (f g h i : TextFault)
    → is_ok (first_of ((not a, f) ∷ (u, g) ∷ (not s, h) ∷ (d, i) ∷ [])) ≡ ((a && (not u && s)) && not d)
rows_of_route true true s d f g h i = refl
rows_of_route true false true true f g h i = refl
rows_of_route true false true false f g h i = refl
rows_of_route true false false d f g h i = refl
rows_of_route false u s d f g h i = refl

route_within : (node_count : ℕ) (links : List Link) (r : Route) → route_in_range r ≡ true
    → keeps_route node_count links r ≡ (nat_lt r.node node_count && is_set_of links r.node r.via)
route_within node_count links r h =
    let table = and_parts _ _ h in
    let prefix = and_parts _ _ table.1 in
    ap (λ b. nat_lt r.node node_count && b) (left_out _ _ table.0 ∙ (left_out _ _ prefix.0 ∙ set_law links r.node r.via prefix.1))

pub routes_law : (node_count : ℕ) (links : List Link) (routes : List Route) → few MAX_ROUTES route_in_range routes ≡ true
    → is_ok (judged tables.Route (judge_route node_count links) [] routes) ≡ keeps_routes node_count links routes
routes_law node_count links routes h =
    let range = and_parts _ _ h in
    let test : Route → Bool = λ r. nat_lt r.node node_count && is_set_of links r.node r.via in
    judged_table tables.Route (judge_route node_count links) test same_route
    (λ before p r. rows_of_route (nat_lt r.node node_count) (list_any (is_unknown (length links)) r.via) (is_set_of links r.node r.via)
    (stands_before same_route before r) _ _ _ _
    ∙ ap (λ b. (nat_lt r.node node_count && b) && not (stands_before same_route before r))
    (known_set _ _ (set_known links r.node r.via)))
    routes
    ∙ sym (left_out _ _ range.0
    ∙ ap (λ b. b && are_distinct same_route routes) (list_all_within route_in_range (keeps_route node_count links) test
    (route_within node_count links) routes range.1))

-- ---- policies

rows_of_policy : (d e : Bool) (f g : TextFault) → is_ok (first_of ((d, f) ∷ (e, g) ∷ [])) ≡ (not e && not d)
rows_of_policy true true f g = refl
rows_of_policy true false f g = refl
rows_of_policy false true f g = refl
rows_of_policy false false f g = refl

some_law : {X : Type 0} (xs : List X) → not (length xs == 0) ≡ nat_le 1 (length xs)
some_law xs = grind (arith, nat_tests)

policy_within : (p : NamedPolicy) → policy_in_range p ≡ true → keeps_policy p ≡ not (length p.policy.segments == 0)
policy_within p h =
    let name = and_parts _ _ h in
    let source = and_parts _ _ name.1 in
    let rest = and_parts _ _ source.1 in
    let some = nat_le 1 (length p.policy.segments) in
    left_out _ _ name.0 ∙ (left_out _ _ source.0 ∙ (left_out_behind _ _ rest.1
    ∙ (left_out_behind some _ rest.0 ∙ sym (some_law p.policy.segments))))

pub policies_law : (policies : List NamedPolicy) → few MAX_POLICIES policy_in_range policies ≡ true
    → is_ok (judged tables.Policy judge_policy [] policies) ≡ keeps_policies policies
policies_law policies h =
    let range = and_parts _ _ h in
    let test : NamedPolicy → Bool = λ p. not (length p.policy.segments == 0) in
    judged_table tables.Policy judge_policy test same_policy_name
    (λ before p q. rows_of_policy (stands_before same_policy_name before q) (length q.policy.segments == 0) _ _) policies
    ∙ sym (left_out _ _ range.0
    ∙ ap (λ b. b && are_distinct same_policy_name policies) (list_all_within policy_in_range keeps_policy test policy_within policies
    range.1))
