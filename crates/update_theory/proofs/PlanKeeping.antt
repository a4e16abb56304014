-- The joined network keeps all rules of networks, and is in range.
use Rattle.std.proofs.Common.{◌≡◌, ℕ, ◌+◌, ◌≤◌, Bool, true, false, not, List, [], ◌∷◌, length, Ok, refl, sym, ap, ◌∙◌, subst, subst₂, le_of_eq, arith}
use Rattle.std.proofs.lemmas.Bool.{and_parts, and_from, or_parts, or_from}
use Rattle.std.proofs.lemmas.List.{length-append}
use Rattle.std.proofs.lemmas.List.Elements.{filter_map-append}
use Rattle.std.specs.List.{filter_map, list_any, list_all}
use Rattle.srv6_rules.specs.declared.sid.SidEntry.{SidEntry}
use Rattle.net_model.specs.declared.parts.Route.{Route}
use Rattle.net_model.specs.Network.{Network}
use Rattle.net_model.specs.NetworkRules.{are_distinct, same_bytes, is_name, same_route, same_sid}
use Rattle.net_model.specs.NetworkRulesTerms.{keeps_blocks, keeps_nodes, keeps_links, keeps_route, keeps_routes, keeps_policies, keeps_sid, title_of, keeps_sids, keeps_titles, is_network, IsNetwork}
use Rattle.net_model.specs.NetworkJudging.{title_text}
use Rattle.net_model.specs.NetworkJudgingTerms.{route_in_range, sid_in_range, are_numbers, InRange}
use Rattle.update_spec.specs.Joined.{is_old_route, is_old_sid, added_routes, added_sids, added_titles, numbered, joined_of}
use Rattle.update_spec.specs.Planning.{planning}
use Rattle.update_theory.proofs.PlanLists.{all_append, all_more, all_filter, distinct_filter, distinct_append, distinct_given, all_given}
use Rattle.update_theory.proofs.PlanNumbers.{numbers_append, numbers_apart, titles_are_texts, numbered_numbers, numbered_all, numbered_any, numbered_distinct}
use Rattle.update_theory.proofs.PlanParts.{HasNoFault, no_fault}
use Rattle.update_theory.proofs.Across.{routes_across, sids_across, titles_across}
use Rattle.update_theory.proofs.Grounds.{SameGround, more_titles, keep_elsewhere, its_title, range_elsewhere, title_in_range}

-- the rules of a network, one by one
record Ruled (net : Network) : Type 0 where
  blocks : keeps_blocks net.blocks ≡ true
  nodes : keeps_nodes net.nodes ≡ true
  links : keeps_links (length net.nodes) net.links ≡ true
  routes : keeps_routes (length net.nodes) net.links net.routes ≡ true
  policies : keeps_policies net.policies ≡ true
  titles : keeps_titles net.titles ≡ true
  sids : keeps_sids net ≡ true

ruled : (net : Network) → IsNetwork net → Ruled net
unfolding is_network
ruled net h =
    let blocks = and_parts _ _ h in
    let nodes = and_parts _ _ blocks.1 in
    let links = and_parts _ _ nodes.1 in
    let routes = and_parts _ _ links.1 in
    let policies = and_parts _ _ routes.1 in
    let titles = and_parts _ _ policies.1 in
    record {
      blocks = blocks.0;
      nodes = nodes.0;
      links = links.0;
      routes = routes.0;
      policies = policies.0;
      titles = titles.0;
      sids = titles.1;
    }

pub distinct_routes : (net : Network) → IsNetwork net → are_distinct same_route net.routes ≡ true
distinct_routes net h = (and_parts _ _ (and_parts _ _ (ruled net h).routes).1).1

network_from : (net : Network) → Ruled net → IsNetwork net
unfolding is_network
network_from net r =
    and_from _ _ r.blocks (and_from _ _ r.nodes (and_from _ _ r.links (and_from _ _ r.routes (and_from _ _ r.policies
    (and_from _ _ r.titles r.sids)))))

-- all that the proof stands on
record Grounds (old new : Network) : Type 0 where
  olds : Ruled old
  news : Ruled new
  old_range : InRange old
  new_range : InRange new
  fine : HasNoFault old new

-- ---- routes

routes_kept : (old new : Network) → Grounds old new → keeps_routes (length old.nodes) old.links (joined_of old new).routes ≡ true
routes_kept old new g =
    let keep : Route → Bool = λ r. not (is_old_route old r) in
    let olds = and_parts _ _ (and_parts _ _ g.olds.routes).1 in
    let news = and_parts _ _ (and_parts _ _ g.news.routes).1 in
    let moved = subst₂ (λ ns ls. list_all (keeps_route (length ns) ls) new.routes ≡ true) (sym g.fine.nodes) (sym g.fine.links) news.0 in
    and_from _ _ g.fine.few_routes
    (and_from _ _ (all_append (keeps_route (length old.nodes) old.links) old.routes (added_routes old new) olds.0
    (all_filter (keeps_route (length old.nodes) old.links) keep new.routes moved))
    (distinct_append same_route old.routes (added_routes old new) olds.1 (distinct_filter same_route keep new.routes news.1)
    (routes_across old new g.fine.apart)))

-- ---- titles

old_texts : (net : Network) → InRange net → filter_map (title_text net.titles) net.sids ≡ net.titles
old_texts net range = titles_are_texts net.titles net.sids range.title_numbers

titles_named : (old new : Network) → Grounds old new → list_all is_name (joined_of old new).titles ≡ true
titles_named old new g =
    let keep : SidEntry → Bool = λ t. not (is_old_sid old new t) in
    let texts = subst (λ ts. list_all is_name ts ≡ true) (sym (old_texts new g.new_range)) g.new_range.titles in
    all_append is_name old.titles (added_titles old new) g.old_range.titles (all_given (title_text new.titles) is_name keep new.sids texts)

titles_kept : (old new : Network) → Grounds old new → keeps_titles (joined_of old new).titles ≡ true
titles_kept old new g =
    let keep : SidEntry → Bool = λ t. not (is_old_sid old new t) in
    let texts = subst (λ ts. are_distinct same_bytes ts ≡ true) (sym (old_texts new g.new_range)) (and_parts _ _ g.news.titles).1 in
    and_from _ _ (titles_named old new g)
    (distinct_append same_bytes old.titles (added_titles old new) (and_parts _ _ g.olds.titles).1
    (distinct_given (title_text new.titles) same_bytes keep new.sids texts)
    (titles_across old new (old_texts old g.old_range) g.fine.apart))

title_count : (old new : Network) → length (joined_of old new).titles ≡ length old.titles + length (added_titles old new)
title_count old new = length-append old.titles (added_titles old new)

titles_numbered : (old new : Network) → InRange old
    → are_numbers 0 (length (joined_of old new).titles) (filter_map title_of (joined_of old new).sids) ≡ true
titles_numbered old new range =
    let added = numbered new.titles (length old.titles) (added_sids old new) in
    let count = length (joined_of old new).titles in
    subst (λ ns. are_numbers 0 count ns ≡ true) (sym (filter_map-append title_of old.sids added))
    (numbers_append 0 (length old.titles) count (filter_map title_of old.sids) (filter_map title_of added) range.title_numbers
    (numbered_numbers new.titles (length old.titles) count (added_sids old new) (title_count old new)))

-- ---- SIDs

old_ground : (old new : Network) → SameGround old (joined_of old new)
old_ground old new = record { blocks = refl; nodes = refl; links = refl; policies = refl }

new_ground : (old new : Network) → HasNoFault old new → SameGround new (joined_of old new)
new_ground old new fine = record {
  blocks = sym fine.blocks;
  nodes = ap length (sym fine.nodes);
  links = sym fine.links;
  policies = sym fine.policies;
}

more : (old new : Network) → length old.titles ≤ length (joined_of old new).titles
more old new = omega (arith, title_count old new)

added_fit : (old new : Network)
    → length old.titles + length (filter_map (title_text new.titles) (added_sids old new)) ≤ length (joined_of old new).titles
added_fit old new = le_of_eq (sym (title_count old new))

each_sid_kept : (old new : Network) → Grounds old new → list_all (keeps_sid (joined_of old new)) (joined_of old new).sids ≡ true
each_sid_kept old new g =
    let joined = joined_of old new in
    let keep : SidEntry → Bool = λ t. not (is_old_sid old new t) in
    let olds = (and_parts _ _ (and_parts _ _ g.olds.sids).1).0 in
    let news = (and_parts _ _ (and_parts _ _ g.news.sids).1).0 in
    all_append (keeps_sid joined) old.sids (numbered new.titles (length old.titles) (added_sids old new))
    (all_more (keeps_sid old) (keeps_sid joined) (λ s h. keep_elsewhere old joined s s.title (old_ground old new) h
    (more_titles _ _ s.title (more old new) (its_title old s h))) old.sids olds)
    (numbered_all (keeps_sid new) (keeps_sid joined) (length joined.titles)
    (λ s o h k. keep_elsewhere new joined s o (new_ground old new g.fine) h k) new.titles (length old.titles) (added_sids old new)
    (added_fit old new) (all_filter (keeps_sid new) keep new.sids news))

-- numbering titles anew makes no SIDs agree
none_renumbered : (titles : List (List ℕ)) (n : ℕ) (ts ss : List SidEntry) → list_any (λ s. list_any (same_sid s) ts) ss ≡ false
    → list_any (λ s. list_any (same_sid s) (numbered titles n ts)) ss ≡ false
none_renumbered titles n ts [] h = refl
none_renumbered titles n ts (s ∷ ss) h =
    let parts = or_parts _ _ h in
    or_from _ _ (numbered_any titles n s ts ∙ parts.0) (none_renumbered titles n ts ss parts.1)

sids_distinct : (old new : Network) → Grounds old new → are_distinct same_sid (joined_of old new).sids ≡ true
sids_distinct old new g =
    let keep : SidEntry → Bool = λ t. not (is_old_sid old new t) in
    let added = added_sids old new in
    let olds = (and_parts _ _ (and_parts _ _ (and_parts _ _ g.olds.sids).1).1).0 in
    let news = (and_parts _ _ (and_parts _ _ (and_parts _ _ g.news.sids).1).1).0 in
    distinct_append same_sid old.sids (numbered new.titles (length old.titles) added) olds
    (numbered_distinct new.titles (length old.titles) added ∙ distinct_filter same_sid keep new.sids news)
    (none_renumbered new.titles (length old.titles) added old.sids (sids_across old new g.fine.apart))

sids_kept : (old new : Network) → Grounds old new → keeps_sids (joined_of old new) ≡ true
sids_kept old new g =
    and_from _ _ g.fine.few_sids (and_from _ _ (each_sid_kept old new g) (and_from _ _ (sids_distinct old new g)
    (and_from _ _ g.fine.room (numbers_apart 0 (length (joined_of old new).titles) (filter_map title_of (joined_of old new).sids)
    (titles_numbered old new g.old_range)))))

-- ---- the whole

grounds : (old new : Network) → IsNetwork old → IsNetwork new → InRange old → InRange new → planning old new ≡ Ok tt → Grounds old new
grounds old new o n p q h = record {
  olds = ruled old o;
  news = ruled new n;
  old_range = p;
  new_range = q;
  fine = no_fault old new h;
}

pub joined_rules : (old new : Network) → IsNetwork old → IsNetwork new → InRange old → InRange new → planning old new ≡ Ok tt
    → IsNetwork (joined_of old new)
joined_rules old new o n p q h =
    let g = grounds old new o n p q h in
    network_from (joined_of old new) (record {
      blocks = g.olds.blocks;
      nodes = g.olds.nodes;
      links = g.olds.links;
      routes = routes_kept old new g;
      policies = g.olds.policies;
      titles = titles_kept old new g;
      sids = sids_kept old new g;
    })

routes_in_range : (old new : Network) → Grounds old new → list_all route_in_range (joined_of old new).routes ≡ true
routes_in_range old new g =
    let keep : Route → Bool = λ r. not (is_old_route old r) in
    all_append route_in_range old.routes (added_routes old new) (and_parts _ _ g.old_range.routes).1
    (all_filter route_in_range keep new.routes (and_parts _ _ g.new_range.routes).1)

sids_in_range : (old new : Network) → Grounds old new
    → list_all (sid_in_range old.blocks (length (joined_of old new).titles)) (joined_of old new).sids ≡ true
sids_in_range old new g =
    let count = length (joined_of old new).titles in
    let keep : SidEntry → Bool = λ t. not (is_old_sid old new t) in
    let olds = (and_parts _ _ g.old_range.sids).1 in
    let news = subst (λ bs. list_all (sid_in_range bs (length new.titles)) new.sids ≡ true) (sym g.fine.blocks)
    (and_parts _ _ g.new_range.sids).1 in
    all_append (sid_in_range old.blocks count) old.sids (numbered new.titles (length old.titles) (added_sids old new))
    (all_more (sid_in_range old.blocks (length old.titles)) (sid_in_range old.blocks count)
    (λ s h. range_elsewhere old.blocks (length old.titles) count s s.title h
    (more_titles _ _ s.title (more old new) (title_in_range old.blocks (length old.titles) s h))) old.sids olds)
    (numbered_all (sid_in_range old.blocks (length new.titles)) (sid_in_range old.blocks count) count
    (λ s o h k. range_elsewhere old.blocks (length new.titles) count s o h k) new.titles (length old.titles) (added_sids old new)
    (added_fit old new) (all_filter (sid_in_range old.blocks (length new.titles)) keep new.sids news))

pub joined_range : (old new : Network) → IsNetwork old → IsNetwork new → InRange old → InRange new → planning old new ≡ Ok tt
    → InRange (joined_of old new)
joined_range old new o n p q h =
    let g = grounds old new o n p q h in
    record {
      blocks = p.blocks;
      nodes = p.nodes;
      links = p.links;
      routes = and_from _ _ g.fine.few_routes (routes_in_range old new g);
      policies = p.policies;
      titles = titles_named old new g;
      title_numbers = titles_numbered old new p;
      sids = and_from _ _ g.fine.few_sids (sids_in_range old new g);
    }
