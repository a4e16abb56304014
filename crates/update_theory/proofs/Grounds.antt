-- A SID that keeps the rules in one network keeps them in another with the same ground, with another title that is there.
use Rattle.std.proofs.Common.{◌≡◌, ℕ, ◌≤◌, true, ◌==◌, List, length, Option, Some, None, refl, subst, arith}
use Rattle.std.specs.Prelude.{nat_lt, nat_le}
use Rattle.std.proofs.lemmas.Bool.{and_parts, and_from, ltb-true, lt-ltb}
use Rattle.srv6_rules.specs.declared.sid.SidEntry.{SidEntry}
use Rattle.srv6_rules.specs.Behaviours.{behaviour_takes_links, behaviour_table, behaviour_policy}
use Rattle.net_model.specs.declared.limits.TheConstants.{MAX_LINKS_OF_SET}
use Rattle.net_model.specs.declared.parts.Block.{Block}
use Rattle.net_model.specs.Network.{Network}
use Rattle.net_model.specs.NetworkRules.{block_of, block_len_of}
use Rattle.net_model.specs.NetworkRulesTerms.{is_prefix, suits_links, suits_table, suits_policy, keeps_behaviour, keeps_compression, is_title, keeps_sid}
use Rattle.net_model.specs.NetworkJudgingTerms.{sid_in_range}

-- what a SID names but its title
pub record SameGround (a b : Network) : Type 0 where
  pub blocks : a.blocks ≡ b.blocks
  pub nodes : length a.nodes ≡ length b.nodes
  pub links : a.links ≡ b.links
  pub policies : length a.policies ≡ length b.policies

pub more_titles : (n m : ℕ) (o : Option ℕ) → n ≤ m → is_title n o ≡ true → is_title m o ≡ true
more_titles n m None h e = refl
more_titles n m (Some t) h e = lt-ltb _ _ (omega (arith, h, ltb-true _ _ e))

behaviour_elsewhere : (a b : Network) (s : SidEntry) (o : Option ℕ) → SameGround a b → keeps_behaviour a s ≡ true
    → keeps_behaviour b (record s { title = o }) ≡ true
behaviour_elsewhere a b s o ground h =
    let table = and_parts _ _ h in
    let policy = and_parts _ _ table.1 in
    let links = and_parts _ _ policy.1 in
    and_from _ _ table.0
    (and_from _ _ (subst (λ n. suits_policy n (behaviour_policy s.behaviour) ≡ true) ground.policies policy.0)
    (and_from _ _ (subst (λ ls. suits_links ls s.node (behaviour_takes_links s.behaviour) s.links ≡ true) ground.links links.0) links.1))

compression_elsewhere : (block : Option Block) (s : SidEntry) (o : Option ℕ) → keeps_compression block s ≡ true
    → keeps_compression block (record s { title = o }) ≡ true
compression_elsewhere None s o h = h
compression_elsewhere (Some b) s o h = h

pub keep_elsewhere : (a b : Network) (s : SidEntry) (o : Option ℕ) → SameGround a b → keeps_sid a s ≡ true
    → is_title (length b.titles) o ≡ true → keeps_sid b (record s { title = o }) ≡ true
keep_elsewhere a b s o ground h title =
    let node = and_parts _ _ h in
    let len = and_parts _ _ node.1 in
    let prefix = and_parts _ _ len.1 in
    let behaviour = and_parts _ _ prefix.1 in
    let rest = and_parts _ _ behaviour.1 in
    let compression = subst (λ bs. keeps_compression (block_of bs s.prefix) s ≡ true) ground.blocks rest.0 in
    and_from _ _ (subst (λ n. nat_lt s.node n ≡ true) ground.nodes node.0)
    (and_from _ _ len.0 (and_from _ _ prefix.0 (and_from _ _ (behaviour_elsewhere a b s o ground behaviour.0)
    (and_from _ _ (compression_elsewhere (block_of b.blocks s.prefix) s o compression) title))))

pub its_title : (net : Network) (s : SidEntry) → keeps_sid net s ≡ true → is_title (length net.titles) s.title ≡ true
its_title net s h =
    let node = and_parts (nat_lt s.node (length net.nodes)) _ h in
    let len = and_parts (nat_le 1 s.prefix.len) _ node.1 in
    let prefix = and_parts (is_prefix s.prefix) _ len.1 in
    let behaviour = and_parts (keeps_behaviour net s) _ prefix.1 in
    (and_parts (keeps_compression (block_of net.blocks s.prefix) s) _ behaviour.1).1

pub range_elsewhere : (blocks : List Block) (count most : ℕ) (s : SidEntry) (o : Option ℕ) → sid_in_range blocks count s ≡ true
    → is_title most o ≡ true → sid_in_range blocks most (record s { title = o }) ≡ true
range_elsewhere blocks count most s o h title =
    let len = and_parts (nat_le 1 s.prefix.len) _ h in
    let prefix = and_parts (is_prefix s.prefix) _ len.1 in
    let table = and_parts (suits_table (behaviour_table s.behaviour)) _ prefix.1 in
    let links = and_parts (nat_le (length s.links) MAX_LINKS_OF_SET) _ table.1 in
    let rest = and_parts (s.block_len == block_len_of (block_of blocks s.prefix)) (is_title count s.title) links.1 in
    and_from _ _ len.0 (and_from _ _ prefix.0 (and_from _ _ table.0 (and_from _ _ links.0 (and_from _ _ rest.0 title))))

pub title_in_range : (blocks : List Block) (count : ℕ) (s : SidEntry) → sid_in_range blocks count s ≡ true → is_title count s.title ≡ true
title_in_range blocks count s h =
    let len = and_parts (nat_le 1 s.prefix.len) _ h in
    let prefix = and_parts (is_prefix s.prefix) _ len.1 in
    let table = and_parts (suits_table (behaviour_table s.behaviour)) _ prefix.1 in
    let links = and_parts (nat_le (length s.links) MAX_LINKS_OF_SET) _ table.1 in
    (and_parts (s.block_len == block_len_of (block_of blocks s.prefix)) _ links.1).1
