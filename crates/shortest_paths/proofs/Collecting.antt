-- The next hops among the first links.
use Rattle.std.proofs.Common.{◌≡◌, ℕ, ◌+◌, ◌<◌, ◌≤◌, inl, inr, List, [], ◌∷◌, ◌++◌, length, get_or, Option, Some, slice_get, Contains, sym, ◌∙◌, ap, subst, arith}
use Rattle.std.specs.List.Sorted.{IsStrictlyIncreasing}
use Rattle.std.proofs.lemmas.Bool.{cases_lt}
use Rattle.std.proofs.lemmas.List.{length_push, get_or_append_left, get_or_push}
use Rattle.std.proofs.lemmas.List.Elements.{Contains-append_left, Contains-push, Contains-push_cases}
use Rattle.std.proofs.lemmas.Option.{slice_get_within}
use Rattle.shortest_paths.specs.declared.links.Link.{Link}
use Rattle.shortest_paths.specs.NextHops.{LeadsOn, IsNextHop, AreNextHops}
use Rattle.shortest_paths.proofs.Lists.{some_same, contains_none}
use Rattle.shortest_paths.proofs.Lowering.{contains_at}

-- exactly the next hops whose numbers are below a count
pub record AreHopsBelow (links : List Link) (distances : List (Option ℕ)) (node count : ℕ) (hops : List ℕ) : Type 0 where
  pub ascending : IsStrictlyIncreasing hops
  pub early : (number : ℕ) → Contains hops number → number < count
  pub sound : (number : ℕ) → Contains hops number → IsNextHop links distances node number
  pub complete : (number : ℕ) → number < count → IsNextHop links distances node number → Contains hops number

rises_push : (xs : List ℕ) (y : ℕ) → IsStrictlyIncreasing xs → ((x : ℕ) → Contains xs x → x < y) → IsStrictlyIncreasing (xs ++ y ∷ [])
rises_push xs y rises low k within =
    let long : length (xs ++ y ∷ []) ≡ length xs + 1 = length_push xs y in
    let here : k < length xs = omega (arith, within, long) in
    let first : get_or (xs ++ y ∷ []) k 0 ≡ get_or xs k 0 = get_or_append_left xs (y ∷ []) 0 k here in
    elim (cases_lt (k + 1) (length xs)) [
      | inl less ↦
          let next : get_or (xs ++ y ∷ []) (k + 1) 0 ≡ get_or xs (k + 1) 0 = get_or_append_left xs (y ∷ []) 0 (k + 1) less in
          let was : get_or xs k 0 < get_or xs (k + 1) 0 = rises k less in
          omega (arith, first, next, was)
      | inr more ↦
          let last : length xs ≡ k + 1 = omega (arith, here, more) in
          let next : get_or (xs ++ y ∷ []) (k + 1) 0 ≡ y = get_or_push xs y 0 (k + 1) last in
          let below : get_or xs k 0 < y = low (get_or xs k 0) (contains_at xs k 0 here) in
          omega (arith, first, next, below)
    ]

module _ (links : List Link) (distances : List (Option ℕ)) (node : ℕ) where
  pub collects_none : AreHopsBelow links distances node 0 []
  collects_none = record {
    ascending = λ k within. absurd (omega (arith, within));
    early = λ number among. absurd (contains_none number among);
    sound = λ number among. absurd (contains_none number among);
    complete = λ number low is. absurd (omega (arith, low));
  }

  pub collects_all : (count : ℕ) (hops : List ℕ) → length links ≤ count → AreHopsBelow links distances node count hops
      → AreNextHops links distances node hops
  collects_all count hops all so = record {
    ascending = so.ascending;
    exact = λ number. (
      so.sound number,
      λ is. (let within = slice_get_within links number is.0 is.1 in so.complete number (omega (arith, within, all)) is),
    );
  }

  module _ (count : ℕ) (link : Link) (hops : List ℕ) (here : slice_get links count ≡ Some link)
      (so : AreHopsBelow links distances node count hops) where
    pub collects_yes : LeadsOn distances node link → AreHopsBelow links distances node (count + 1) (hops ++ count ∷ [])
    collects_yes leads = record {
      ascending = rises_push hops count so.ascending so.early;
      early = λ number among. elim (Contains-push_cases hops count number among) [
        | inl old ↦ let low = so.early number old in omega (arith, low)
        | inr new ↦ omega (arith, new)
      ];
      sound = λ number among. elim (Contains-push_cases hops count number among) [
        | inl old ↦ so.sound number old
        | inr new ↦ subst (λ (n : ℕ). IsNextHop links distances node n) new (link, here, leads)
      ];
      complete = λ number low is. elim (cases_lt number count) [
        | inl less ↦ Contains-append_left hops (count ∷ []) number (so.complete number less is)
        | inr more ↦
            let same : count ≡ number = omega (arith, low, more) in
            subst (λ (n : ℕ). Contains (hops ++ count ∷ []) n) same (Contains-push hops count)
      ];
    }

    pub collects_no : ¬ LeadsOn distances node link → AreHopsBelow links distances node (count + 1) hops
    collects_no apart = record {
      ascending = so.ascending;
      early = λ number among. (let low = so.early number among in omega (arith, low));
      sound = so.sound;
      complete = λ number low is. elim (cases_lt number count) [
        | inl less ↦ so.complete number less is
        | inr more ↦
            let same : count ≡ number = omega (arith, low, more) in
            let one : is.0 ≡ link = some_same is.0 link (sym is.1 ∙ (ap (slice_get links) (sym same) ∙ here)) in
            absurd (apart (subst (λ (l : Link). LeadsOn distances node l) one is.2))
      ];
    }
