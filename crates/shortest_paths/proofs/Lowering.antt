-- Entries that are lowered by one link after the other.
use Rattle.std.proofs.Common.{ℕ, ◌+◌, ◌<◌, ◌≤◌, inl, inr, List, [], ◌∷◌, ◌++◌, length, get_or, Contains, refl, ◌∙◌, subst, arith}
use Rattle.std.proofs.lemmas.List.{get_or_default}
use Rattle.std.proofs.lemmas.List.Elements.{Contains-append_left, Contains-push, Contains-push_cases}
use Rattle.shortest_paths.specs.declared.links.Link.{Link}
use Rattle.shortest_paths.specs.Walks.{at}
use Rattle.shortest_paths.specs.Settling.{Entries, AtMost, Relaxes}
use Rattle.shortest_paths.proofs.Lists.{contains_none, contains_one}

pub contains_at : {X : Type 0} (xs : List X) (i : ℕ) (d : X) → i < length xs → Contains xs (get_or xs i d)
contains_at xs i d l = (i, l, get_or_default xs i (get_or xs i d) d l)

pub at_most : (after : Entries) (node m n : ℕ) → m ≤ n → AtMost (at after node) m → AtMost (at after node) n
at_most after node m n l a = let low = a.low in record { value = a.value; is = a.is; low = omega (arith, low) }

-- what is known stays as low
pub still : (xs : List Link) (distance : ℕ) (before after : Entries) → Relaxes xs distance before after → (node n : ℕ)
    → AtMost (at before node) n
    → AtMost (at after node) n
still xs distance before after relaxes node n a = at_most after node a.value n a.low (relaxes.falls node a.value a.is)

pub relaxes_none : (distance : ℕ) (entries : Entries) → Relaxes [] distance entries entries
relaxes_none distance entries = record {
  long = refl;
  falls = λ node d e. record { value = d; is = e; low = omega arith };
  takes = λ link among. absurd (contains_none link among);
  only = λ node d e. inl e;
}

pub relaxes_more : (xs : List Link) (link : Link) (distance : ℕ) (t0 t t1 : Entries) → Relaxes xs distance t0 t
    → Relaxes (link ∷ []) distance t t1
    → Relaxes (xs ++ link ∷ []) distance t0 t1
relaxes_more xs link distance t0 t t1 so more = record {
  long = more.long ∙ so.long;
  falls = λ node d e. still (link ∷ []) distance t t1 more node d (so.falls node d e);
  takes = λ other among. elim (Contains-push_cases xs link other among) [
    | inl old ↦ still (link ∷ []) distance t t1 more other.from (other.metric + distance) (so.takes other old)
    | inr new ↦ more.takes other (subst (λ (l : Link). Contains (link ∷ []) l) new (Contains-push {X = Link} [] link))
  ];
  only = λ node d e. elim (more.only node d e) [
    | inl was ↦ elim (so.only node d was) [
      | inl first ↦ inl first
      | inr by ↦ inr (by.0, Contains-append_left xs (link ∷ []) by.0 by.1, by.2, by.3)
    ]
    | inr by ↦ inr (
      by.0,
      subst (λ (l : Link). Contains (xs ++ link ∷ []) l) (contains_one link by.0 by.1) (Contains-push xs link),
      by.2,
      by.3,
    )
  ];
}
