-- The parts of a plan, put together.
use Rattle.std.proofs.Common.{◌≡◌, ◌≢◌, ℕ, ◌+◌, ◌-◌, ◌≤◌, ◌<◌, ◌^◌, Bool, true, ◌==◌, not, List, [], ◌∷◌, ◌++◌, map, length, Option, Some, None, Result, Ok, Err, refl, sym, ap, ap₂, ◌∙◌, arith}
use Rattle.std.proofs.lemmas.Bool.{and_parts, eqb-true}
use Rattle.std.specs.Result.{IsErrAnd}
use Rattle.std.specs.List.{filter, filter_map, cons_option}
use Rattle.srv6_rules.specs.declared.sid.SidEntry.{SidEntry}
use Rattle.net_model.specs.declared.parts.Route.{Route}
use Rattle.net_model.specs.Network.{Network}
use Rattle.net_model.specs.NetworkRulesTerms.{title_of, IsNetwork}
use Rattle.net_model.specs.NetworkJudging.{title_text}
use Rattle.net_model.specs.NetworkJudgingTerms.{are_numbers, InRange}
use Rattle.net_model.proofs.PublicLaws.{keeps_from_network}
use Rattle.update_joined.specs.declared.entry.PlanEntry.{PlanEntry}
use Rattle.update_spec.specs.declared.plan_fault.PlanFault.{PlanFault}
use Rattle.update_spec.specs.declared.plan_fault.PlanFault.TheVariants as faults
use Rattle.text_faults.specs.declared.text_place.TableKind.TheVariants as tables
use Rattle.update_spec.specs.Equal.{equal_block, equal_node, equal_link, equal_policy}
use Rattle.update_spec.specs.Joined.{is_old_route, is_new_route, is_old_sid, is_new_sid, numbered, joined_of}
use Rattle.update_spec.specs.Planning.{differing, and_then, conflicting, old_items, new_items, limited, planning}
use Rattle.update_joined.specs.JoinedEntries.{item_of, entries_of, AreFew, differences, Answers}
use Rattle.update_theory.proofs.PublicLaws.{old_is_new_route, old_is_new_sid, items_back}
use Rattle.update_joined.proofs.Meant.{meant}

-- ---- what the rules give

pub few_from : (net : Network) → IsNetwork net → AreFew net
few_from net rules =
    let keeps = keeps_from_network net rules in
    record {
      blocks = omega (arith, keeps.block_count);
      nodes = omega (arith, keeps.node_count);
      links = omega (arith, keeps.link_count);
      routes = omega (arith, keeps.route_count);
      policies = omega (arith, keeps.policy_count);
      sids = omega (arith, keeps.sid_count);
    }

-- numbers of titles, one for each of some SIDs
counted : (from to : ℕ) (ns : List ℕ) → are_numbers from to ns ≡ true → to ≡ from + length ns
counted from to [] h = omega (arith, eqb-true from to h)
counted from to (n ∷ ns) h =
    let rest = counted (from + 1) to ns (and_parts (n == from) _ h).1 in
    omega (arith, rest)

no_more : {X Y : Type 0} (f : X → Option Y) (xs : List X) → length (filter_map f xs) ≤ length xs
no_more f [] = omega arith
no_more f (x ∷ xs) =
    let rest = no_more f xs in
    elim (f x) as (λ o. length (cons_option o (filter_map f xs)) ≤ length (x ∷ xs))
    [ None ↦ omega (arith, rest) | Some y ↦ omega (arith, rest) ]

pub few_titles : (old new : Network) → IsNetwork old → IsNetwork new → InRange old → length old.titles + length new.sids < 2 ^ 32 - 1
few_titles old new o n range =
    let olds = keeps_from_network old o in
    let news = keeps_from_network new n in
    let numbers = counted 0 (length old.titles) (filter_map title_of old.sids) range.title_numbers in
    let most = no_more title_of old.sids in
    omega (arith, olds.sid_count, news.sid_count, numbers, most)

-- ---- conflicts

pub answers_from : (r : Result (Unit {0}) PlanFault) (wanted : Result (Unit {0}) PlanFault) → r ≡ wanted → Answers r wanted
answers_from (Ok u) wanted e = sym e
answers_from (Err fault) wanted e = λ _. sym e

-- an error that is another one's, and one that is want of memory
pub answers_err : {X : Type 0} (r : Result X PlanFault) (e : PlanFault) (wanted : Result (Unit {0}) PlanFault) → IsErrAnd r (λ f. f ≡ e)
    → (e ≢ faults.NoMemory → wanted ≡ Err e) → Answers r wanted
answers_err (Ok x) e wanted h k = absurd h
answers_err (Err f) e wanted h k = λ other. k (λ is. other (h ∙ is)) ∙ ap (λ (g : PlanFault). Err g) (sym h)

pub answers_none : {X : Type 0} (r : Result X PlanFault) (wanted : Result (Unit {0}) PlanFault) → IsErrAnd r (λ f. f ≡ faults.NoMemory)
    → Answers r wanted
answers_none (Ok x) wanted h = absurd h
answers_none (Err f) wanted h = λ other. absurd (other h)

pub entries_conflict : (old new : Network) (olds news : List PlanEntry) → olds ≡ entries_of (is_new_route new) (is_new_sid old new) old
    → news ≡ entries_of (is_new_route old) (is_new_sid new old) new
    → conflicting (map (item_of new.titles) news) (map (item_of old.titles) olds) ≡ conflicting (new_items old new) (old_items old new)
entries_conflict old new olds news e f =
    ap₂ conflicting (ap (map (item_of new.titles)) f ∙ (meant new old ∙ items_back old new))
    (ap (map (item_of old.titles)) e ∙ meant old new)

-- ---- the joined network

filter_same : {X : Type 0} (p q : X → Bool) → ((x : X) → p x ≡ q x) → (xs : List X) → filter p xs ≡ filter q xs
filter_same p q e xs = ap (λ f. filter f xs) (λ i x. e x i)

pub joined_from : (old new : Network) (rs : List Route) (ts : List (List ℕ)) (ss : List SidEntry)
    → rs ≡ old.routes ++ filter (λ r. not (is_new_route old r)) new.routes
    → ts ≡ old.titles ++ filter_map (title_text new.titles) (filter (λ t. not (is_new_sid new old t)) new.sids)
    → ss ≡ old.sids ++ numbered new.titles (length old.titles) (filter (λ t. not (is_new_sid new old t)) new.sids)
    → record old { routes = rs; titles = ts; sids = ss; hidden = [] } ≡ joined_of old new
joined_from old new rs ts ss e f g =
    let routes = filter_same (λ r. not (is_new_route old r)) (λ r. not (is_old_route old r))
    (λ r. ap not (old_is_new_route old r)) new.routes in
    let sids = filter_same (λ t. not (is_new_sid new old t)) (λ t. not (is_old_sid old new t))
    (λ t. ap not (old_is_new_sid old new t)) new.sids in
    let all_routes = e ∙ ap (λ l. old.routes ++ l) routes in
    let all_titles = f ∙ ap (λ l. old.titles ++ filter_map (title_text new.titles) l) sids in
    let all_sids = g ∙ ap (λ l. old.sids ++ numbered new.titles (length old.titles) l) sids in
    λ i. record old { routes = all_routes i; titles = all_titles i; sids = all_sids i; hidden = [] }

-- ---- the whole

two_first : (c d x : Result (Unit {0}) PlanFault) → and_then c (and_then d x) ≡ and_then (and_then c d) x
two_first (Ok u) d x = refl
two_first (Err fault) d x = refl

three_first : (b c d x : Result (Unit {0}) PlanFault) → and_then b (and_then c (and_then d x)) ≡ and_then (and_then b (and_then c d)) x
three_first (Ok u) c d x = two_first c d x
three_first (Err fault) c d x = refl

four_first : (a b c d x : Result (Unit {0}) PlanFault)
    → and_then a (and_then b (and_then c (and_then d x))) ≡ and_then (and_then a (and_then b (and_then c d))) x
four_first (Ok u) b c d x = three_first b c d x
four_first (Err fault) b c d x = refl

pub planned : (old new : Network) → planning old new
    ≡ and_then (differences old new) (and_then (conflicting (new_items old new) (old_items old new)) (limited (joined_of old new)))
unfolding planning
planned old new =
    four_first (differing tables.Block equal_block old.blocks new.blocks) (differing tables.Node equal_node old.nodes new.nodes)
    (differing tables.Link equal_link old.links new.links) (differing tables.Policy equal_policy old.policies new.policies)
    (and_then (conflicting (new_items old new) (old_items old new)) (limited (joined_of old new)))

pub differences_fault : (old new : Network) (fault : PlanFault) → differences old new ≡ Err fault → planning old new ≡ Err fault
differences_fault old new fault e =
    planned old new ∙ ap (λ r. and_then r (and_then (conflicting (new_items old new) (old_items old new)) (limited (joined_of old new)))) e

pub conflicts_fault : (old new : Network) (fault : PlanFault) → differences old new ≡ Ok tt
    → conflicting (new_items old new) (old_items old new) ≡ Err fault → planning old new ≡ Err fault
conflicts_fault old new fault e f =
    planned old new
    ∙ (ap (λ r. and_then r (and_then (conflicting (new_items old new) (old_items old new)) (limited (joined_of old new)))) e
    ∙ ap (λ r. and_then r (limited (joined_of old new))) f)

pub limits_answer : (old new joined : Network) (r : Result (Unit {0}) PlanFault) → differences old new ≡ Ok tt
    → conflicting (new_items old new) (old_items old new) ≡ Ok tt → joined ≡ joined_of old new → r ≡ limited joined → planning old new ≡ r
limits_answer old new joined r e f same h =
    planned old new
    ∙ (ap (λ q. and_then q (and_then (conflicting (new_items old new) (old_items old new)) (limited (joined_of old new)))) e
    ∙ (ap (λ q. and_then q (limited (joined_of old new))) f ∙ (ap limited (sym same) ∙ sym h)))
