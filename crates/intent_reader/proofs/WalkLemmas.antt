-- Walks over steps: what a step means, and where the walk stands before and after each.
use Rattle.std.proofs.Common.{◌≡◌, ℕ, zero, suc, ◌+◌, true, List, [], ◌∷◌, length, get_or, take, Option, Some, None, refl, sym, ap, subst, add-one, arith}
use Rattle.std.specs.List.{slice_get, list_all}
use Rattle.std.specs.Option.{option_and_then, is_some}
use Rattle.std.proofs.lemmas.Bool.{and_parts, eqb-true, eqb-false, ltb-true, not-true}
use Rattle.std.proofs.lemmas.Option.{same_Some, cond_some}
use Rattle.std.proofs.lemmas.List.Sums.{AllPass-from_list_all}
use Rattle.std.proofs.lemmas.List.Elements.{All-contains}
use Rattle.srv6_rules.specs.declared.sid.SidEntry.{SidEntry}
use Rattle.net_model.specs.declared.parts.Link.{Link}
use Rattle.net_model.specs.Network.{Network}
use Rattle.net_model.specs.NetworkKeeps.{IsLinkSet}
use Rattle.net_model.proofs.PublicLaws.{link_set_from}
use Rattle.intent_reader.specs.declared.intent.Step.{Step}
use Rattle.intent_reader.specs.declared.intent.Step.TheVariants.{Links, Function, Reach}
use Rattle.intent_reader.specs.IntentRules.{end_of_link, is_at, ends_at, far_node, first_end, function_node, reached_node, node_after, stand_after, is_function, ends_in_function}
use Rattle.intent_reader.specs.IntentKeeps.{Leads, Steps, Stands, IsTaken}

-- the last step

pub is_last : (steps : List Step) (i : ℕ) (s : Step) → i + 1 ≡ length steps → s ≡ get_or steps i s → is_function s ≡ ends_in_function steps
is_last [] i s h e = absurd (omega arith)
is_last (t ∷ []) zero s h e = ap is_function e
is_last (t ∷ []) (suc i) s h e = absurd (omega arith)
is_last (t ∷ u ∷ steps) zero s h e = absurd (omega arith)
is_last (t ∷ u ∷ steps) (suc i) s h e = is_last (u ∷ steps) i s (omega arith) e

a_function : (s : Step) → is_function s ≡ true → (sid : ℕ) × (s ≡ Function sid)
a_function (Links set) h = cc
a_function (Function sid) h = (sid, refl)
a_function (Reach reached) h = cc

pub last_is_function : (steps : List Step) (i : ℕ) → i + 1 ≡ length steps → ends_in_function steps ≡ true
    → (sid : ℕ) × (slice_get steps i ≡ Some (Function sid))
last_is_function [] i h e = absurd (omega arith)
last_is_function (t ∷ []) zero h e = let f = a_function t e in (f.0, ap Some f.1)
last_is_function (t ∷ []) (suc i) h e = absurd (omega arith)
last_is_function (t ∷ u ∷ steps) zero h e = absurd (omega arith)
last_is_function (t ∷ u ∷ steps) (suc i) h e = last_is_function (u ∷ steps) i (omega arith) e

-- what a step means

end_from : (node : ℕ) (to : Option ℕ) → is_at node to ≡ true → to ≡ Some node
end_from node None h = cc
end_from node (Some to) h = ap Some (eqb-true _ _ h)

leads_from : (net : Network) (node next link : ℕ) → (l : Link) × (slice_get net.links link ≡ Some l) × (l.from ≡ node)
    → ends_at net next link ≡ true → Leads net node next link
leads_from net node next link found h =
    let to : end_of_link (slice_get net.links link) ≡ Some next = end_from next _ h in
    (found.0, found.1, found.2, rw found.1 at to)

links_mean : (net : Network) (node : ℕ) (set : List ℕ) (first : Option ℕ) (next : ℕ) → far_node net node set first ≡ Some next
    → Steps net node (Links set) next
links_mean net node set None next h = cc
links_mean net node set (Some to) next h =
    let kept = cond_some _ to next h in
    let parts = and_parts _ _ kept.0 in
    let whole : IsLinkSet net.links node set = link_set_from net.links node set parts.0 in
    let ends : list_all (ends_at net next) set ≡ true = subst (λ n. list_all (ends_at net n) set ≡ true) kept.1 parts.1 in (
      whole,
      λ link c. leads_from net node next link (whole.each link c)
          (All-contains (λ n. ends_at net next n ≡ true) set link (AllPass-from_list_all (ends_at net next) set ends) c),
    )

title_from : (o : Option ℕ) → is_some o ≡ true → (title : ℕ) × (o ≡ Some title)
title_from None h = cc
title_from (Some title) h = (title, refl)

function_means : (node : ℕ) (o : Option SidEntry) (next : ℕ) → function_node node o ≡ Some next
    → (s : SidEntry) × (title : ℕ) × (o ≡ Some s) × (s.node ≡ node) × (s.title ≡ Some title) × (next ≡ node)
function_means node None next h = cc
function_means node (Some s) next h =
    let kept = cond_some _ node next h in
    let parts = and_parts _ _ kept.0 in
    let titled = title_from s.title parts.1 in
    (s, titled.0, refl, eqb-true _ _ parts.0, titled.1, sym kept.1)

reach_means : (net : Network) (node reached next : ℕ) → reached_node net node reached ≡ Some next → Steps net node (Reach reached) next
reach_means net node reached next h =
    let kept = cond_some _ reached next h in
    let parts = and_parts _ _ kept.0 in
    (ltb-true _ _ parts.0, eqb-false _ _ (not-true _ parts.1), sym kept.1)

pub step_means : (net : Network) (node : ℕ) (s : Step) (next : ℕ) → node_after net node s ≡ Some next → Steps net node s next
step_means net node (Links set) next h = links_mean net node set (first_end net set) next h
step_means net node (Function sid) next h = function_means node (slice_get net.sids sid) next h
step_means net node (Reach reached) next h = reach_means net node reached next h

-- where the walk stands

pub then_some : {X Y : Type 0} (f : X → Option Y) (o : Option X) (y : Y) → option_and_then f o ≡ Some y
    → (x : X) × (o ≡ Some x) × (f x ≡ Some y)
then_some f None y h = cc
then_some f (Some x) y h = (x, refl, h)

stands_next : (net : Network) (node : ℕ) (s : Step) (steps : List Step) (k next : ℕ) → node_after net node s ≡ Some next
    → Stands net next (take k steps) → Stands net node (take (suc k) (s ∷ steps))
stands_next net node s steps k next leads rest = (rest.0, rw leads rest.1)

pub stands_before : (net : Network) (node : ℕ) (steps : List Step) (end k : ℕ) → stand_after net node steps ≡ Some end
    → Stands net node (take k steps)
stands_before net node [] end zero h = (node, refl)
stands_before net node [] end (suc k) h = (node, refl)
stands_before net node (s ∷ steps) end zero h = (node, refl)
stands_before net node (s ∷ steps) end (suc k) h =
    let first = then_some (λ next. stand_after net next steps) (node_after net node s) end h in
    stands_next net node s steps k first.0 first.1 (stands_before net first.0 steps end k first.2)

taken_first : (net : Network) (node : ℕ) (s : Step) (steps : List Step) (next : ℕ) → node_after net node s ≡ Some next
    → IsTaken net node (s ∷ steps) 0 s
taken_first net node s steps next leads =
    record { at = node; next = next; before = refl; step = leads; meaning = step_means net node s next leads; after = rw leads }

taken_same : (net : Network) (node : ℕ) (steps : List Step) (k : ℕ) (s t : Step) → t ≡ s → IsTaken net node steps k t
    → IsTaken net node steps k s
taken_same net node steps k s t same taken = subst (λ u. IsTaken net node steps k u) same taken

taken_next : (net : Network) (node : ℕ) (t : Step) (steps : List Step) (k : ℕ) (s : Step) (next : ℕ) → node_after net node t ≡ Some next
    → IsTaken net next steps k s → IsTaken net node (t ∷ steps) (suc k) s
taken_next net node t steps k s next leads rest =
    let after : stand_after net next (take (suc k) steps) ≡ Some rest.next = rw (← add-one) rest.after in
    record {
      at = rest.at;
      next = rest.next;
      before = rw leads rest.before;
      step = rest.step;
      meaning = rest.meaning;
      after = rw (add-one, leads) after;
    }

pub is_taken : (net : Network) (node : ℕ) (steps : List Step) (end k : ℕ) (s : Step) → stand_after net node steps ≡ Some end
    → slice_get steps k ≡ Some s → IsTaken net node steps k s
is_taken net node [] end k s h e = absurd (let no : None ≡ Some s = e in cc)
is_taken net node (t ∷ steps) end zero s h e =
    let first = then_some (λ next. stand_after net next steps) (node_after net node t) end h in
    taken_same net node (t ∷ steps) 0 s t (same_Some t s e) (taken_first net node t steps first.0 first.1)
is_taken net node (t ∷ steps) end (suc k) s h e =
    let first = then_some (λ next. stand_after net next steps) (node_after net node t) end h in
    taken_next net node t steps k s first.0 first.1 (is_taken net first.0 steps end k s first.2 e)
