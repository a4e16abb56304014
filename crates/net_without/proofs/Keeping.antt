-- A network without parts keeps all rules of networks, and is in range.
use Rattle.std.proofs.Common.{◌≡◌, ℕ, suc, ◌+◌, ◌≤◌, Bool, true, false, cond, ◌==◌, nat_le, nat_lt, List, [], ◌∷◌, length, Option, Some, None, refl, sym, ap, ◌∙◌, subst, zero-add, arith}
use Rattle.std.proofs.lemmas.Bool.{and_parts, and_from, both_ways, le-leb, leb-true, eqb-true}
use Rattle.std.proofs.lemmas.List.Sums.{length-filter}
use Rattle.std.specs.List.{filter, filter_map, list_any, list_all, count_by}
use Rattle.srv6_rules.specs.declared.sid.SidEntry.{SidEntry}
use Rattle.srv6_rules.specs.Behaviours.{behaviour_takes_links, behaviour_table, behaviour_policy}
use Rattle.net_model.specs.declared.limits.TheConstants.{MAX_ROUTES, MAX_SIDS, MAX_SIDS_OF_NODE, MAX_LINKS_OF_SET}
use Rattle.net_model.specs.declared.parts.Block.{Block}
use Rattle.net_model.specs.declared.parts.Link.{Link}
use Rattle.net_model.specs.declared.parts.Route.{Route}
use Rattle.net_model.specs.Network.{Network}
use Rattle.net_model.specs.NetworkRules.{are_distinct, same_bytes, same_number, is_name, starts_at, is_link_set, same_route, same_sid, is_sid_of, has_room, block_of}
use Rattle.net_model.specs.NetworkRulesTerms.{keeps_blocks, keeps_nodes, keeps_links, keeps_route, keeps_routes, keeps_policies, keeps_titles, keeps_behaviour, keeps_compression, keeps_sid, keeps_sids, suits_links, suits_table, suits_policy, is_table, is_prefix, is_prefix_of, title_of, is_network, IsNetwork}
use Rattle.net_model.specs.NetworkJudging.{title_text}
use Rattle.net_model.specs.NetworkJudgingTerms.{route_in_range, sid_in_range, are_numbers, InRange}
use Rattle.update_spec.specs.Joined.{numbered_beside, numbered}
use Rattle.update_theory.proofs.PlanLists.{all_filter, distinct_filter, distinct_given, all_given}
use Rattle.update_theory.proofs.PlanNumbers.{numbers_apart, titles_are_texts, numbered_numbers, numbered_all, numbered_distinct}
use Rattle.update_theory.proofs.Grounds.{SameGround, keep_elsewhere, range_elsewhere}
use Rattle.net_without.specs.Without.{is_left, is_left_route, is_left_sid, cut_route, cut_sid, left_routes, left_sids, network_left}
use Rattle.net_without.proofs.Cuts.{filter_le, cut_le, some_left, all_cut, distinct_cut, given_cut, count_cut}

-- ---- sets

-- a set that isn't empty and stays has a link that is up
up_there : (up : ℕ → Bool) (set : List ℕ) → 1 ≤ length set → is_left up set ≡ true → list_any up set ≡ true
up_there up [] some left = absurd (omega (arith, some))
up_there up (n ∷ set) some left = left

set_left : (links : List Link) (node : ℕ) (up : ℕ → Bool) (set : List ℕ) → is_link_set links node set ≡ true → is_left up set ≡ true
    → is_link_set links node (filter up set) ≡ true
set_left links node up set h left =
    let some = and_parts (nat_le 1 (length set)) _ h in
    let most = and_parts (nat_le (length set) MAX_LINKS_OF_SET) _ some.1 in
    let once = and_parts (are_distinct same_number set) _ most.1 in
    let le = filter_le up set in
    let few : length set ≤ MAX_LINKS_OF_SET = leb-true (length set) MAX_LINKS_OF_SET most.0 in
    and_from _ _ (le-leb 1 (length (filter up set)) (some_left up set (up_there up set (leb-true 1 (length set) some.0) left)))
    (and_from _ _ (le-leb (length (filter up set)) MAX_LINKS_OF_SET (omega (arith, le, few)))
    (and_from _ _ (distinct_filter same_number up set once.0) (all_filter (starts_at links node) up set once.1)))

-- ---- routes

route_left : (node_count : ℕ) (links : List Link) (up : ℕ → Bool) (r : Route) → keeps_route node_count links r ≡ true → is_left_route up r ≡ true
    → keeps_route node_count links (cut_route up r) ≡ true
route_left node_count links up r h left =
    let node = and_parts (nat_lt r.node node_count) _ h in
    let table = and_parts (is_table r.table) _ node.1 in
    let prefix = and_parts (is_prefix_of r.family r.prefix) _ table.1 in
    and_from _ _ node.0 (and_from _ _ table.0 (and_from _ _ prefix.0 (set_left links r.node up r.via prefix.1 left)))

routes_kept : (node_count : ℕ) (links : List Link) (up : ℕ → Bool) (routes : List Route) → keeps_routes node_count links routes ≡ true
    → keeps_routes node_count links (left_routes up routes) ≡ true
routes_kept node_count links up routes h =
    let few = and_parts (nat_le (length routes) MAX_ROUTES) _ h in
    let each = and_parts (list_all (keeps_route node_count links) routes) _ few.1 in
    let le = cut_le (cut_route up) (is_left_route up) routes in
    let most : length routes ≤ MAX_ROUTES = leb-true (length routes) MAX_ROUTES few.0 in
    and_from _ _ (le-leb (length (left_routes up routes)) MAX_ROUTES (omega (arith, le, most)))
    (and_from _ _ (all_cut (keeps_route node_count links) (is_left_route up) (keeps_route node_count links) (cut_route up) (route_left node_count links up) routes each.0)
    (distinct_cut same_route (cut_route up) (λ q r. refl) (filter (is_left_route up) routes) ∙ distinct_filter same_route (is_left_route up) routes each.1))

route_range : (up : ℕ → Bool) (r : Route) → route_in_range r ≡ true → route_in_range (cut_route up r) ≡ true
route_range up r h =
    let table = and_parts (is_table r.table) _ h in
    let prefix = and_parts (is_prefix_of r.family r.prefix) _ table.1 in
    let le = filter_le up r.via in
    let most : length r.via ≤ MAX_LINKS_OF_SET = leb-true (length r.via) MAX_LINKS_OF_SET prefix.1 in
    and_from _ _ table.0 (and_from _ _ prefix.0 (le-leb (length (filter up r.via)) MAX_LINKS_OF_SET (omega (arith, le, most))))

-- ---- titles

-- the texts of the titles that stay
texts_left : (titles : List (List ℕ)) (up : ℕ → Bool) (sids : List SidEntry)
    → filter_map (title_text titles) (left_sids up sids) ≡ filter_map (title_text titles) (filter (is_left_sid up) sids)
texts_left titles up sids = given_cut (title_text titles) (cut_sid up) (λ s. refl) (filter (is_left_sid up) sids)

titles_named : (net : Network) (up : ℕ → Bool) → InRange net → list_all is_name (network_left up net).titles ≡ true
titles_named net up range =
    let texts = subst (λ ts. list_all is_name ts ≡ true) (sym (titles_are_texts net.titles net.sids range.title_numbers)) range.titles in
    subst (λ ts. list_all is_name ts ≡ true) (sym (texts_left net.titles up net.sids)) (all_given (title_text net.titles) is_name (is_left_sid up) net.sids texts)

titles_kept : (net : Network) (up : ℕ → Bool) → InRange net → keeps_titles net.titles ≡ true → keeps_titles (network_left up net).titles ≡ true
titles_kept net up range h =
    let texts = subst (λ ts. are_distinct same_bytes ts ≡ true) (sym (titles_are_texts net.titles net.sids range.title_numbers)) (and_parts (list_all is_name net.titles) _ h).1 in
    and_from _ _ (titles_named net up range)
    (subst (λ ts. are_distinct same_bytes ts ≡ true) (sym (texts_left net.titles up net.sids)) (distinct_given (title_text net.titles) same_bytes (is_left_sid up) net.sids texts))

-- ---- SIDs

-- a SID that takes links has a set that stays, and another has none
links_left : (links : List Link) (node : ℕ) (up : ℕ → Bool) (takes : Bool) (set : List ℕ) → suits_links links node takes set ≡ true → is_left up set ≡ true
    → suits_links links node takes (filter up set) ≡ true
links_left links node up true set h left = set_left links node up set h left
links_left links node up false [] h left = refl
links_left links node up false (n ∷ set) h left = absurd (no_items n set h)
  where
    no_items : (n : ℕ) (set : List ℕ) → (length (n ∷ set) == 0) ≡ true → ⊥
    no_items n set e = let none = eqb-true (length (n ∷ set)) 0 e in omega (arith, none)

sid_left : (net : Network) (up : ℕ → Bool) (s : SidEntry) → keeps_sid net s ≡ true → is_left_sid up s ≡ true → keeps_sid net (cut_sid up s) ≡ true
sid_left net up s h left =
    let node = and_parts (nat_lt s.node (length net.nodes)) _ h in
    let len = and_parts (nat_le 1 s.prefix.len) _ node.1 in
    let prefix = and_parts (is_prefix s.prefix) _ len.1 in
    let behaviour = and_parts (keeps_behaviour net s) _ prefix.1 in
    let rest = and_parts (keeps_compression (block_of net.blocks s.prefix) s) _ behaviour.1 in
    let table = and_parts (suits_table (behaviour_table s.behaviour)) _ behaviour.0 in
    let policy = and_parts (suits_policy (length net.policies) (behaviour_policy s.behaviour)) _ table.1 in
    let links = and_parts (suits_links net.links s.node (behaviour_takes_links s.behaviour) s.links) _ policy.1 in
    let cut : keeps_behaviour net (cut_sid up s) ≡ true =
    and_from _ _ table.0 (and_from _ _ policy.0 (and_from _ _ (links_left net.links s.node up (behaviour_takes_links s.behaviour) s.links links.0 left) links.1)) in
    and_from _ _ node.0 (and_from _ _ len.0 (and_from _ _ prefix.0 (and_from _ _ cut (and_from _ _ (compressed (block_of net.blocks s.prefix) rest.0) rest.1))))
  where
    compressed : (block : Option Block) → keeps_compression block s ≡ true → keeps_compression block (cut_sid up s) ≡ true
    compressed None e = e
    compressed (Some b) e = e

ground : (net : Network) (up : ℕ → Bool) → SameGround net (network_left up net)
ground net up = record { blocks = refl; nodes = refl; links = refl; policies = refl }

fit : (net : Network) (up : ℕ → Bool) → 0 + length (filter_map (title_text net.titles) (left_sids up net.sids)) ≤ length (network_left up net).titles
fit net up = omega arith

each_kept : (net : Network) (up : ℕ → Bool) → list_all (keeps_sid net) net.sids ≡ true → list_all (keeps_sid (network_left up net)) (network_left up net).sids ≡ true
each_kept net up all =
    numbered_all (keeps_sid net) (keeps_sid (network_left up net)) (length (network_left up net).titles)
    (λ s o h k. keep_elsewhere net (network_left up net) s o (ground net up) h k) net.titles 0 (left_sids up net.sids) (fit net up)
    (all_cut (keeps_sid net) (is_left_sid up) (keeps_sid net) (cut_sid up) (sid_left net up) net.sids all)

distinct_kept : (net : Network) (up : ℕ → Bool) → are_distinct same_sid net.sids ≡ true → are_distinct same_sid (network_left up net).sids ≡ true
distinct_kept net up h =
    numbered_distinct net.titles 0 (left_sids up net.sids)
    ∙ distinct_cut same_sid (cut_sid up) (λ s t. refl) (filter (is_left_sid up) net.sids)
    ∙ distinct_filter same_sid (is_left_sid up) net.sids h

-- ---- room

same_more : {X : Type 0} (b c : Bool) (y x : X) (ys xs : List X) → b ≡ c → length ys ≡ length xs → length (cond b (y ∷ ys) ys) ≡ length (cond c (x ∷ xs) xs)
same_more true true y x ys xs same e = ap (λ n. suc n) e
same_more false false y x ys xs same e = e
same_more true false y x ys xs same e = absurd (both_ways true same refl)
same_more false true y x ys xs same e = absurd (both_ways false refl same)

numbered_passing : (p : SidEntry → Bool) → ((s : SidEntry) (o : Option ℕ) → p (record s { title = o }) ≡ p s) → (titles : List (List ℕ)) (n : ℕ) (ss : List SidEntry)
    → length (filter p (numbered titles n ss)) ≡ length (filter p ss)
numbered_passing p same titles n [] = refl
numbered_passing p same titles n (s ∷ ss) =
    elim (title_text titles s) as (λ o. length (filter p (numbered_beside o n s (λ m. numbered titles m ss))) ≡ length (filter p (s ∷ ss))) [
      | None ↦ same_more (p (record s { title = None })) (p s) (record s { title = None }) s (filter p (numbered titles n ss)) (filter p ss) (same s None)
          (numbered_passing p same titles n ss)
      | Some t ↦ same_more (p (record s { title = Some n })) (p s) (record s { title = Some n }) s (filter p (numbered titles (n + 1) ss)) (filter p ss) (same s (Some n))
          (numbered_passing p same titles (n + 1) ss)
    ]

numbered_length : (titles : List (List ℕ)) (n : ℕ) (ss : List SidEntry) → length (numbered titles n ss) ≡ length ss
numbered_length titles n [] = refl
numbered_length titles n (s ∷ ss) =
    elim (title_text titles s) as (λ o. length (numbered_beside o n s (λ m. numbered titles m ss)) ≡ length (s ∷ ss)) [
      | None ↦ ap (λ n. suc n) (numbered_length titles n ss)
      | Some t ↦ ap (λ n. suc n) (numbered_length titles (n + 1) ss)
    ]

fewer_sids : (net : Network) (up : ℕ → Bool) (node : ℕ) → count_by (is_sid_of node) (network_left up net).sids ≤ count_by (is_sid_of node) net.sids
fewer_sids net up node =
    let here = length-filter (is_sid_of node) (network_left up net).sids in
    let left = length-filter (is_sid_of node) (left_sids up net.sids) in
    let same = numbered_passing (is_sid_of node) (λ s o. refl) net.titles 0 (left_sids up net.sids) in
    let le = count_cut (is_sid_of node) (is_left_sid up) (cut_sid up) (λ s. refl) net.sids in
    omega (arith, here, left, same, le)

room_more : (net : Network) (up : ℕ → Bool) (s : SidEntry) → has_room net.sids s ≡ true → has_room (network_left up net).sids s ≡ true
room_more net up s h =
    let le = fewer_sids net up s.node in
    let most : count_by (is_sid_of s.node) net.sids ≤ MAX_SIDS_OF_NODE = leb-true (count_by (is_sid_of s.node) net.sids) MAX_SIDS_OF_NODE h in
    le-leb (count_by (is_sid_of s.node) (network_left up net).sids) MAX_SIDS_OF_NODE (omega (arith, le, most))

room_kept : (net : Network) (up : ℕ → Bool) → list_all (has_room net.sids) net.sids ≡ true → list_all (has_room (network_left up net).sids) (network_left up net).sids ≡ true
room_kept net up all =
    numbered_all (has_room net.sids) (has_room (network_left up net).sids) (length (network_left up net).titles)
    (λ s o h k. room_more net up s h) net.titles 0 (left_sids up net.sids) (fit net up)
    (all_cut (has_room net.sids) (is_left_sid up) (has_room net.sids) (cut_sid up) (λ s h left. h) net.sids all)

titles_numbered : (net : Network) (up : ℕ → Bool) → are_numbers 0 (length (network_left up net).titles) (filter_map title_of (network_left up net).sids) ≡ true
titles_numbered net up =
    numbered_numbers net.titles 0 (length (network_left up net).titles) (left_sids up net.sids) (sym (zero-add (length (network_left up net).titles)))

few_sids : (net : Network) (up : ℕ → Bool) → nat_le (length net.sids) MAX_SIDS ≡ true → nat_le (length (network_left up net).sids) MAX_SIDS ≡ true
few_sids net up h =
    let same = numbered_length net.titles 0 (left_sids up net.sids) in
    let le = cut_le (cut_sid up) (is_left_sid up) net.sids in
    let most : length net.sids ≤ MAX_SIDS = leb-true (length net.sids) MAX_SIDS h in
    le-leb (length (network_left up net).sids) MAX_SIDS (omega (arith, same, le, most))

sids_kept : (net : Network) (up : ℕ → Bool) → keeps_sids net ≡ true → keeps_sids (network_left up net) ≡ true
sids_kept net up h =
    let few = and_parts (nat_le (length net.sids) MAX_SIDS) _ h in
    let each = and_parts (list_all (keeps_sid net) net.sids) _ few.1 in
    let distinct = and_parts (are_distinct same_sid net.sids) _ each.1 in
    let room = and_parts (list_all (has_room net.sids) net.sids) _ distinct.1 in
    and_from _ _ (few_sids net up few.0) (and_from _ _ (each_kept net up each.0) (and_from _ _ (distinct_kept net up distinct.0)
    (and_from _ _ (room_kept net up room.0) (numbers_apart 0 (length (network_left up net).titles) (filter_map title_of (network_left up net).sids) (titles_numbered net up)))))

-- ---- the whole

pub left_rules : (net : Network) (up : ℕ → Bool) → IsNetwork net → InRange net → IsNetwork (network_left up net)
unfolding is_network
left_rules net up h range =
    let blocks = and_parts (keeps_blocks net.blocks) _ h in
    let nodes = and_parts (keeps_nodes net.nodes) _ blocks.1 in
    let links = and_parts (keeps_links (length net.nodes) net.links) _ nodes.1 in
    let routes = and_parts (keeps_routes (length net.nodes) net.links net.routes) _ links.1 in
    let policies = and_parts (keeps_policies net.policies) _ routes.1 in
    let titles = and_parts (keeps_titles net.titles) _ policies.1 in
    and_from _ _ blocks.0 (and_from _ _ nodes.0 (and_from _ _ links.0 (and_from _ _ (routes_kept (length net.nodes) net.links up net.routes routes.0)
    (and_from _ _ policies.0 (and_from _ _ (titles_kept net up range titles.0) (sids_kept net up titles.1))))))

sid_range : (net : Network) (up : ℕ → Bool) (s : SidEntry) → sid_in_range net.blocks (length net.titles) s ≡ true → sid_in_range net.blocks (length net.titles) (cut_sid up s) ≡ true
sid_range net up s h =
    let len = and_parts (nat_le 1 s.prefix.len) _ h in
    let prefix = and_parts (is_prefix s.prefix) _ len.1 in
    let table = and_parts (suits_table (behaviour_table s.behaviour)) _ prefix.1 in
    let links = and_parts (nat_le (length s.links) MAX_LINKS_OF_SET) _ table.1 in
    let le = filter_le up s.links in
    let most : length s.links ≤ MAX_LINKS_OF_SET = leb-true (length s.links) MAX_LINKS_OF_SET links.0 in
    and_from _ _ len.0 (and_from _ _ prefix.0 (and_from _ _ table.0 (and_from _ _ (le-leb (length (filter up s.links)) MAX_LINKS_OF_SET (omega (arith, le, most))) links.1)))

pub left_range : (net : Network) (up : ℕ → Bool) → InRange net → InRange (network_left up net)
left_range net up range =
    let routes = and_parts (nat_le (length net.routes) MAX_ROUTES) _ range.routes in
    let sids = and_parts (nat_le (length net.sids) MAX_SIDS) _ range.sids in
    let le = cut_le (cut_route up) (is_left_route up) net.routes in
    let most : length net.routes ≤ MAX_ROUTES = leb-true (length net.routes) MAX_ROUTES routes.0 in
    record {
      blocks = range.blocks;
      nodes = range.nodes;
      links = range.links;
      routes = and_from _ _ (le-leb (length (left_routes up net.routes)) MAX_ROUTES (omega (arith, le, most)))
          (all_cut route_in_range (is_left_route up) route_in_range (cut_route up) (λ r h left. route_range up r h) net.routes routes.1);
      policies = range.policies;
      titles = titles_named net up range;
      title_numbers = titles_numbered net up;
      sids = and_from _ _ (few_sids net up sids.0)
          (numbered_all (sid_in_range net.blocks (length net.titles)) (sid_in_range net.blocks (length (network_left up net).titles)) (length (network_left up net).titles)
          (λ s o h k. range_elsewhere net.blocks (length net.titles) (length (network_left up net).titles) s o h k) net.titles 0 (left_sids up net.sids) (fit net up)
          (all_cut (sid_in_range net.blocks (length net.titles)) (is_left_sid up) (sid_in_range net.blocks (length net.titles)) (cut_sid up) (λ s h left. sid_range net up s h) net.sids sids.1));
    }
