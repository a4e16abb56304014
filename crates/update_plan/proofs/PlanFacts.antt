-- What is so of a plan, from what its parts are.
use Rattle.std.proofs.Common.{◌≡◌, ℕ, ◌+◌, ◌^◌, ◌<◌, List, [], ◌++◌, length, drop, Ok, sym, ap, ◌∙◌, subst}
use Rattle.net_model.specs.declared.net.EntryId.{EntryId}
use Rattle.net_model.specs.declared.net.EntryId.TheVariants as ids
use Rattle.net_model.specs.declared.net.Hit.{Hit}
use Rattle.net_model.specs.Network.{Network}
use Rattle.net_model.specs.NetworkRulesTerms.{IsNetwork}
use Rattle.update_spec.specs.Changes.{added_entries, named_from, removed_entries}
use Rattle.update_spec.specs.Joined.{joined_of}
use Rattle.update_spec.specs.Planning.{planning}
use Rattle.update_flight.specs.Interleaving.{PassOver}
use Rattle.update_plan.specs.UpdateState.{plan_of, tables_after}
use Rattle.update_plan.specs.UpdateStateTerms.{AreHideable, IsPlan, ShowsWithout, whole}
use Rattle.update_plan.proofs.UpdateBetween.{between_pass}
use Rattle.update_plan.proofs.Hideable.{added_hideable, behind_added, few_entries, removed_hideable}

-- the parts of a network of which nothing is hidden are the network
pub whole_parts : (net parts : Network) → record parts { hidden = net.hidden } ≡ net → parts.hidden ≡ [] → net.hidden ≡ [] → parts ≡ net
whole_parts net parts same none whole =
    ap (λ (hidden : List Hit). record parts { hidden = hidden }) (none ∙ sym whole) ∙ same

-- what stands behind the old entries
pub added_by : (old new parts : Network) (routes sids : ℕ) → parts ≡ joined_of old new → routes ≡ length old.routes → sids ≡ length old.sids
    → named_from ids.Route routes (drop routes parts.routes) ++ named_from ids.Sid sids (drop sids parts.sids) ≡ added_entries old new
added_by old new parts routes sids same one other =
    (λ i. named_from ids.Route (one i) (drop (one i) (same i).routes) ++ named_from ids.Sid (other i) (drop (other i) (same i).sids))
    ∙ behind_added old new

module _ (old new net : Network) (added removed : List EntryId) (joined : net ≡ joined_of old new) (a : added ≡ added_entries old new)
    (r : removed ≡ removed_entries old new) where
  pub added_there_law : AreHideable net added
  added_there_law =
      subst (λ (n : Network). AreHideable n added) (sym joined)
      (subst (λ (l : List EntryId). AreHideable (joined_of old new) l) (sym a) (added_hideable old new))

  removed_there_law : AreHideable net removed
  removed_there_law =
      subst (λ (n : Network). AreHideable n removed) (sym joined)
      (subst (λ (l : List EntryId). AreHideable (joined_of old new) l) (sym r) (removed_hideable old new))

  module _ (now : Network) (same : now ≡ record net { hidden = now.hidden }) where
    joined_is : whole now ≡ joined_of old new
    joined_is = ap whole same ∙ ap whole joined

    pub plan_is : record { joined = whole now; added = added; removed = removed } ≡ plan_of old new
    plan_is = λ i. record { joined = joined_is i; added = a i; removed = r i }

    pub plan_kept : ShowsWithout now added → IsNetwork net → IsNetwork old → planning old new ≡ Ok tt → IsPlan now added removed
    plan_kept shows rules old_rules accepted = record {
      shows = shows;
      added_there = subst (λ (n : Network). AreHideable n added) (sym same) added_there_law;
      removed_there = subst (λ (n : Network). AreHideable n removed) (sym same) removed_there_law;
      few = subst (λ (l : List EntryId). length l + length removed + 1 < 2 ^ 32) (sym a)
          (subst (λ (l : List EntryId). length (added_entries old new) + length l + 1 < 2 ^ 32) (sym r)
          (few_entries old new (subst IsNetwork joined rules)));
      pass = subst (λ (n : Network). PassOver (tables_after n added removed) added removed) (sym joined_is)
          (subst (λ (l : List EntryId). PassOver (tables_after (joined_of old new) l removed) l removed) (sym a)
          (subst (λ (l : List EntryId). PassOver (tables_after (joined_of old new) (added_entries old new) l) (added_entries old new) l)
          (sym r)
          (between_pass old new old_rules accepted)));
    }
