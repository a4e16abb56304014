-- What no fault of a plan says, part by part.
use Rattle.std.proofs.Common.{◌≡◌, ℕ, Bool, true, false, ◌||◌, cond, List, [], ◌∷◌, length, Option, Some, None, Result, Ok, Err, refl}
use Rattle.std.specs.Prelude.{find, nat_le}
use Rattle.std.specs.List.{list_any, list_all}
use Rattle.std.proofs.lemmas.Bool.{and_parts, or_from}
use Rattle.text_faults.specs.declared.text_place.TableKind.{TableKind}
use Rattle.text_faults.specs.declared.text_place.TableKind.TheVariants as tables
use Rattle.net_model.specs.declared.limits.TheConstants.{MAX_ROUTES, MAX_SIDS}
use Rattle.net_model.specs.Network.{Network}
use Rattle.net_model.specs.NetworkRules.{has_room}
use Rattle.update_spec.specs.declared.plan_fault.PlanFault.{PlanFault}
use Rattle.update_spec.specs.Equal.{equal_block, equal_node, equal_link, equal_policy}
use Rattle.update_spec.specs.Joined.{joined_of}
use Rattle.update_spec.specs.Planning.{differs_at, Item, old_items, new_items, conflict, conflict_or, conflicting, limit_unless, has_few_sids, and_then, planning}
use Rattle.update_theory.proofs.Equals.{blocks_are, nodes_are, links_are, lists_are, as_many}

then_parts : (r next : Result (Unit {0}) PlanFault) → and_then r next ≡ Ok tt → (r ≡ Ok tt) × (next ≡ Ok tt)
then_parts (Ok u) next h = (refl, h)
then_parts (Err fault) next h = cc

no_place : (kind : TableKind) (o : Option ℕ) → differs_at kind o ≡ Ok tt → o ≡ None
no_place kind None h = refl
no_place kind (Some item) h = cc

fits_from : (kind : TableKind) (fits : Bool) → limit_unless kind fits ≡ Ok tt → fits ≡ true
fits_from kind true h = refl
fits_from kind false h = cc

none_found : {X : Type 0} (p : X → Bool) (xs : List X) → find p xs ≡ None → list_any p xs ≡ false
none_found p [] h = refl
none_found p (x ∷ xs) h =
    elim (p x) as (λ b. cond b (Some x) (find p xs) ≡ None → (b || list_any p xs) ≡ false)
    [ true ↦ λ k. cc | false ↦ λ k. none_found p xs k ] h

no_conflict : (a : Item) (o : Option Item) (next : Result (Unit {0}) PlanFault) → conflict_or a o next ≡ Ok tt
    → (o ≡ None) × (next ≡ Ok tt)
no_conflict a None next h = (refl, h)
no_conflict a (Some b) next h = cc

none_conflicting : (news olds : List Item) → conflicting news olds ≡ Ok tt → list_any (λ a. list_any (conflict a) news) olds ≡ false
none_conflicting news [] h = refl
none_conflicting news (a ∷ olds) h =
    let parts = no_conflict a (find (conflict a) news) (conflicting news olds) h in
    or_from _ _ (none_found (conflict a) news parts.0) (none_conflicting news olds parts.1)

-- what no fault says
pub record HasNoFault (old new : Network) : Type 0 where
  pub blocks : old.blocks ≡ new.blocks
  pub nodes : old.nodes ≡ new.nodes
  pub links : old.links ≡ new.links
  pub policies : length old.policies ≡ length new.policies
  pub apart : list_any (λ a. list_any (conflict a) (new_items old new)) (old_items old new) ≡ false
  pub few_routes : nat_le (length (joined_of old new).routes) MAX_ROUTES ≡ true
  pub few_sids : nat_le (length (joined_of old new).sids) MAX_SIDS ≡ true
  pub room : list_all (has_room (joined_of old new).sids) (joined_of old new).sids ≡ true

pub no_fault : (old new : Network) → planning old new ≡ Ok tt → HasNoFault old new
unfolding planning
no_fault old new h =
    let blocks = then_parts _ _ h in
    let nodes = then_parts _ _ blocks.1 in
    let links = then_parts _ _ nodes.1 in
    let policies = then_parts _ _ links.1 in
    let entries = then_parts _ _ policies.1 in
    let routes = then_parts _ _ entries.1 in
    let sids = and_parts _ _ (fits_from tables.Sid (has_few_sids (joined_of old new)) routes.1) in
    record {
      blocks = lists_are equal_block blocks_are 1 old.blocks new.blocks (no_place tables.Block _ blocks.0);
      nodes = lists_are equal_node nodes_are 1 old.nodes new.nodes (no_place tables.Node _ nodes.0);
      links = lists_are equal_link links_are 1 old.links new.links (no_place tables.Link _ links.0);
      policies = as_many equal_policy 1 old.policies new.policies (no_place tables.Policy _ policies.0);
      apart = none_conflicting (new_items old new) (old_items old new) entries.0;
      few_routes = fits_from tables.Route _ routes.0;
      few_sids = sids.0;
      room = sids.1;
    }
