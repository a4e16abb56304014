-- The tables before all edits look up as the old description, and those after all of them as the new one.
use Rattle.std.proofs.Common.{◌≡◌, ℕ, [], length, map, Ok, refl, sym, subst}
use Rattle.net_model.specs.declared.net.Hit.{Hit}
use Rattle.net_model.specs.declared.net.Hit.TheVariants as hits
use Rattle.net_model.specs.Best.{lookup_of}
use Rattle.net_model.specs.Network.{Network, hit_of_entry}
use Rattle.net_model.specs.NetworkRulesTerms.{IsNetwork}
use Rattle.walk_rules.specs.WayTerms.{IsThere}
use Rattle.walk_rules.proofs.PublicLaws.{lookup_there}
use Rattle.update_spec.specs.Changes.{added_entries, removed_entries}
use Rattle.update_spec.specs.Joined.{joined_of}
use Rattle.update_spec.specs.Lookups.{SameHit}
use Rattle.update_spec.specs.Planning.{planning}
use Rattle.update_theory.proofs.PublicLaws.{old_routes, old_sids, no_fault}
use Rattle.update_flight.specs.Planned.{hidden_after}
use Rattle.update_flight.specs.Transition.{edits}
use Rattle.update_plan.specs.UpdateStateTerms.{tables_between}
use Rattle.update_plan.proofs.PublicLaws.{between_new, between_old}
use Rattle.update_walks_theory.specs.AlikeTerms.{LooksAs}
use Rattle.update_walks_theory.proofs.BetweenPolicies.{planned_policies}
use Rattle.update_walks_theory.proofs.Same.{hit_veiled}

module _ (old new : Network) (rules : IsNetwork old) where
  hit_old : (node : ℕ) (h : Hit) → IsThere old node h → SameHit (tables_between old new 0) old h h
  hit_old node (hits.Sid n) there =
      let s = there.sid in
      let at = old_sids old new n s rules there.is_there in (
        s,
        s,
        at.0,
        there.is_there,
        record {
          node = refl;
          prefix = refl;
          behaviour = refl;
          csid = refl;
          block_len = refl;
          psp = refl;
          usp = refl;
          usd = refl;
          links = refl;
          title = at.1;
        },
      )
  hit_old node hits.Address there = tt
  hit_old node (hits.Route n) there = (there.route, old_routes old new n there.route there.is_there, there.is_there)
  hit_old node hits.Nothing there = tt

  pub first_looks : old.hidden ≡ [] → LooksAs (tables_between old new 0) old
  first_looks whole = record {
    nodes = refl;
    links = refl;
    policies = λ n. refl;
    finds = λ node table family a.
        subst (λ (h : Hit). SameHit (tables_between old new 0) old h (lookup_of old node table family a))
        (sym (between_old old new node table family a whole))
        (hit_old node (lookup_of old node table family a) (lookup_there old node table family a));
  }

  pub last_looks : IsNetwork new → new.hidden ≡ [] → planning old new ≡ Ok tt
      → LooksAs (tables_between old new (length (edits (added_entries old new) (removed_entries old new)))) new
  last_looks new_rules whole accepted =
      let last : ℕ = length (edits (added_entries old new) (removed_entries old new)) in
      let parts = no_fault old new accepted in
      record {
        nodes = parts.nodes;
        links = parts.links;
        policies = planned_policies old new accepted;
        finds = λ node table family a.
            hit_veiled (joined_of old new) new (map hit_of_entry (hidden_after (added_entries old new) (removed_entries old new) last))
            (lookup_of (tables_between old new last) node table family a) (lookup_of new node table family a)
            (between_new old new node table family a rules new_rules whole accepted);
      }
