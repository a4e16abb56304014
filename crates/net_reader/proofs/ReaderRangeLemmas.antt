-- The parts of what a description says are in range.
use Rattle.std.proofs.Common.{◌≡◌, ◌∙◌, ℕ, suc, ◌+◌, ◌<◌, Bool, true, ◌&&◌, nat_le, List, [], ◌∷◌, length, map, Option, Some, None, refl, ap, arith}
use Rattle.std.specs.Prelude.{Ok}
use Rattle.std.specs.List.{list_all, filter_map, cons_option}
use Rattle.std.proofs.lemmas.Bool.{and_from, and_parts, lt-ltb, eq-eqb}
use Rattle.std.proofs.lemmas.List.{length-map}
use Rattle.toml.specs.Data.{Members}
use Rattle.srv6_rules.specs.Behaviours.{behaviour_table}
use Rattle.net_model.specs.declared.limits.TheConstants.{MAX_LINKS_OF_SET, MAX_SIDS}
use Rattle.net_model.specs.declared.parts.Block.{Block}
use Rattle.net_model.specs.NetworkRules.{is_name, block_of, block_len_of}
use Rattle.net_model.specs.NetworkRulesTerms.{is_prefix, is_table, is_title, suits_table, title_of}
use Rattle.net_model.specs.NetworkJudgingTerms.{few, link_in_range, route_in_range, sid_in_range, are_numbers, InRange}
use Rattle.net_syntax.specs.declared.route_table.DescribedRoute.{DescribedRoute}
use Rattle.net_syntax.specs.declared.sid_table.DescribedSid.{DescribedSid}
use Rattle.net_syntax.specs.declared.sid_table.BehaviourWord.{BehaviourWord}
use Rattle.net_syntax.specs.declared.sid_table.BehaviourWord.TheVariants as words
use Rattle.net_syntax.specs.declared.description.Description.{Description}
use Rattle.net_syntax.specs.DescriptionText.{description_of}
use Rattle.net_reader.specs.Numbering.{number_of}
use Rattle.net_reader.specs.Joining.{node_names, link_names, policy_names, joined_block, joined_node, joined_link, joined_route, joined_policy, or_zero, or_none, behaviour_with, title_number, behind_title, title_in, joined_sid, joined_sids, joined}
use Rattle.net_reader.proofs.YieldLemmas.{yielded}
use Rattle.net_reader.proofs.DescribedLemmas.{route_fits, table_fits, links_fit, title_fits, sid_fits, Fits, description_fits}

-- ---- items that are joined one by one

all_joined : {X Y : Type 0} (fits : X → Bool) (test : Y → Bool) (f : X → Y) → ((x : X) → fits x ≡ true → test (f x) ≡ true)
    → (xs : List X) → list_all fits xs ≡ true → list_all test (map f xs) ≡ true
all_joined fits test f each [] h = refl
all_joined fits test f each (x ∷ xs) h =
    let parts = and_parts _ _ h in
    and_from _ _ (each x parts.0) (all_joined fits test f each xs parts.1)

few_joined : {X Y : Type 0} (most : ℕ) (fits : X → Bool) (test : Y → Bool) (f : X → Y)
    → ((x : X) → fits x ≡ true → test (f x) ≡ true) → (xs : List X) → few most fits xs ≡ true → few most test (map f xs) ≡ true
few_joined most fits test f each xs h =
    let parts = and_parts _ _ h in
    and_from _ _ (ap (λ n. nat_le n most) (length-map xs f) ∙ parts.0) (all_joined fits test f each xs parts.1)

route_joined : (nodes links : List (List ℕ)) (r : DescribedRoute) → route_fits r ≡ true → route_in_range (joined_route nodes links r) ≡ true
route_joined nodes links r h =
    let parts = and_parts _ _ h in
    let rest = and_parts _ _ parts.1 in
    let count = ap (λ n. nat_le n MAX_LINKS_OF_SET) (length-map r.via (number_of links)) in
    and_from _ _ parts.0 (and_from _ _ rest.0 (count ∙ rest.1))

-- ---- titles

named : (title : Option (List ℕ)) (titles : List (List ℕ)) → title_fits title ≡ true → list_all is_name titles ≡ true
    → list_all is_name (cons_option title titles) ≡ true
named None titles is rest = rest
named (Some title) titles is rest = and_from _ _ is rest

title_fitting : (s : DescribedSid) → sid_fits s ≡ true → title_fits s.title ≡ true
title_fitting s h =
    let links_on = links_fit s.links && title_fits s.title in
    let table_on = table_fits s.table && links_on in
    let prefix = and_parts (nat_le 1 s.prefix.len) (is_prefix s.prefix && table_on) h in
    let table = and_parts (is_prefix s.prefix) table_on prefix.1 in
    let links = and_parts (table_fits s.table) links_on table.1 in
    (and_parts (links_fit s.links) (title_fits s.title) links.1).1

titles_named : (sids : List DescribedSid) → list_all sid_fits sids ≡ true → list_all is_name (filter_map title_in sids) ≡ true
titles_named [] h = refl
titles_named (s ∷ ss) h =
    let parts = and_parts (sid_fits s) (list_all sid_fits ss) h in
    named s.title (filter_map title_in ss) (title_fitting s parts.0) (titles_named ss parts.1)

behind : (n : ℕ) (title : Option (List ℕ)) (titles : List (List ℕ)) (count : ℕ) → n + length (cons_option title titles) ≡ count
    → behind_title n title + length titles ≡ count
behind n None titles count e = e
behind n (Some title) titles count e = omega (arith, e)

is_there : (n : ℕ) (title : Option (List ℕ)) (titles : List (List ℕ)) (count : ℕ) → n + length (cons_option title titles) ≡ count
    → is_title count (title_number n title) ≡ true
is_there n None titles count e = refl
is_there n (Some title) titles count e = let below : n < count = omega (arith, e) in lt-ltb n count below

-- ---- SIDs

table_suits : (word : BehaviourWord) (table policy : ℕ) → is_table table ≡ true
    → suits_table (behaviour_table (behaviour_with word table policy)) ≡ true
table_suits words.End table policy h = refl
table_suits words.EndX table policy h = refl
table_suits words.EndT table policy h = h
table_suits words.Dx6 table policy h = refl
table_suits words.Dx4 table policy h = refl
table_suits words.Dt6 table policy h = h
table_suits words.Dt4 table policy h = h
table_suits words.Dt46 table policy h = h
table_suits words.B6 table policy h = refl
table_suits words.B6Red table policy h = refl

table_or_zero : (table : Option ℕ) → table_fits table ≡ true → is_table (or_zero table) ≡ true
table_or_zero None h = refl
table_or_zero (Some table) h = h

links_few : (links : List (List ℕ)) (given : Option (List (List ℕ))) → links_fit given ≡ true
    → nat_le (length (map (number_of links) (or_none given))) MAX_LINKS_OF_SET ≡ true
links_few links None h = refl
links_few links (Some given) h = ap (λ n. nat_le n MAX_LINKS_OF_SET) (length-map given (number_of links)) ∙ h

module _ (nodes links policies : List (List ℕ)) (blocks : List Block) where
  sid_joined : (n count : ℕ) (s : DescribedSid) (titles : List (List ℕ)) → n + length (cons_option s.title titles) ≡ count
      → sid_fits s ≡ true → sid_in_range blocks count (joined_sid nodes links policies blocks n s) ≡ true
  sid_joined n count s titles e h =
      let long = and_parts _ _ h in
      let prefix = and_parts _ _ long.1 in
      let table = and_parts _ _ prefix.1 in
      let rest = and_parts _ _ table.1 in
      and_from _ _ long.0 (and_from _ _ prefix.0 (and_from _ _ (table_suits s.behaviour _ _ (table_or_zero s.table table.0))
      (and_from _ _ (links_few links s.links rest.0) (and_from _ _ (eq-eqb (block_len_of (block_of blocks s.prefix)) _ refl)
      (is_there n s.title titles count e)))))

  sids_joined : (n count : ℕ) (ss : List DescribedSid) → n + length (filter_map title_in ss) ≡ count → list_all sid_fits ss ≡ true
      → list_all (sid_in_range blocks count) (joined_sids nodes links policies blocks n ss) ≡ true
  sids_joined n count [] e h = refl
  sids_joined n count (s ∷ ss) e h =
      let parts = and_parts _ _ h in
      let titles = filter_map title_in ss in
      and_from _ _ (sid_joined n count s titles e parts.0)
      (sids_joined (behind_title n s.title) count ss (behind n s.title titles count e) parts.1)

  pub as_many : (n : ℕ) (ss : List DescribedSid) → length (joined_sids nodes links policies blocks n ss) ≡ length ss
  as_many n [] = refl
  as_many n (s ∷ ss) = ap suc (as_many (behind_title n s.title) ss)

  turn : (title : Option (List ℕ)) (n : ℕ) (ss : List DescribedSid) (count : ℕ)
      → ((m : ℕ) → m + length (filter_map title_in ss) ≡ count
      → are_numbers m count (filter_map title_of (joined_sids nodes links policies blocks m ss)) ≡ true)
      → n + length (cons_option title (filter_map title_in ss)) ≡ count
      → are_numbers n count (cons_option (title_number n title)
      (filter_map title_of (joined_sids nodes links policies blocks (behind_title n title) ss))) ≡ true
  turn None n ss count next e = next n e
  turn (Some title) n ss count next e =
      and_from _ _ (eq-eqb n n refl) (next (n + 1) (behind n (Some title) (filter_map title_in ss) count e))

  titles_numbered : (n count : ℕ) (ss : List DescribedSid) → n + length (filter_map title_in ss) ≡ count
      → are_numbers n count (filter_map title_of (joined_sids nodes links policies blocks n ss)) ≡ true
  titles_numbered n count [] e = let same : n ≡ count = omega (arith, e) in eq-eqb n count same
  titles_numbered n count (s ∷ ss) e = turn s.title n ss count (λ m f. titles_numbered m count ss f) e

-- ---- the whole

pub in_range : (said : Description) → Fits said → InRange (joined said)
in_range said fits =
    let nodes = node_names said in
    let links = link_names said in
    let policies = policy_names said in
    let blocks = map joined_block said.blocks in
    let count = length (filter_map title_in said.sids) in
    let all : 0 + count ≡ count = omega arith in
    let sids = and_parts _ _ fits.sids in
    record {
      blocks = few_joined _ _ _ joined_block (λ b h. h) said.blocks fits.blocks;
      nodes = few_joined _ _ _ joined_node (λ n h. h) said.nodes fits.nodes;
      links = few_joined _ _ link_in_range (joined_link nodes) (λ l h. h) said.links fits.links;
      routes = few_joined _ _ route_in_range (joined_route nodes links) (route_joined nodes links) said.routes fits.routes;
      policies = few_joined _ _ _ joined_policy (λ p h. h) said.policies fits.policies;
      titles = titles_named said.sids sids.1;
      title_numbers = titles_numbered nodes links policies blocks 0 count said.sids all;
      sids = and_from _ _ (ap (λ n. nat_le n MAX_SIDS) (as_many nodes links policies blocks 0 said.sids) ∙ sids.0)
          (sids_joined nodes links policies blocks 0 count said.sids all sids.1);
    }

pub parts_in_range : (root : Members) (said : Description) → description_of root ≡ Ok said → InRange (joined said)
parts_in_range root said is = in_range said (yielded Fits (description_of root) said (description_fits root) is)
