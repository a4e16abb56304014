-- What a verdict shows, and the verdict on the certificate of a solution.
use Rattle.std.proofs.Common.{◌≡◌, ℕ, zero, suc, ◌+◌, ◌<◌, List, [], ◌∷◌, length, Option, Some, None, slice_get, Contains, get_or, refl, sym, ◌∙◌, ap, subst, arith}
use Rattle.std.specs.Prelude.{All, AllPairs, is_some}
use Rattle.std.proofs.lemmas.Option.{none-some, same_Some, slice_get_within, slice_get-get_or, get_or_from_slice_get}
use Rattle.list_pack.specs.declared.types.Cost.{Cost}
use Rattle.list_pack.specs.declared.types.State.{State}
use Rattle.list_pack.specs.declared.types.PathStep.{PathStep}
use Rattle.list_pack.specs.declared.types.Potential.{Potential}
use Rattle.list_pack.specs.declared.types.Solution.{Solution}
use Rattle.list_pack.specs.LegsValue.{LegsValue}
use Rattle.list_pack.specs.LegsValueTerms.{KeepsLaws}
use Rattle.list_pack.specs.Costs.{Move, AtMost, cost_of, Under, start, IsState}
use Rattle.list_pack.specs.Least.{IsLeast, IsBefore, IsListing, IsPath, IsPathOrNone, IsSolution}
use Rattle.list_pack.proofs.PublicLaws.{at_most_both}
use Rattle.list_pack.proofs.Leasts.{tight_least, unlisted_none, least_good}
use Rattle.list_certificate.specs.declared.certificate_types.PotentialLine.{PotentialLine}
use Rattle.list_certificate.specs.declared.certificate_types.Cert.{Cert}
use Rattle.list_certificate.specs.declared.certificate_types.Verdict.{Verdict}
use Rattle.list_certificate.specs.declared.certificate_types.Verdict.TheVariants.{Least, NoList, No}
use Rattle.list_certificate.specs.Certs.{potential_at}
use Rattle.list_certificate.specs.CertsTerms.{IsWritten, IsCert, potential_lines, path_lines, none_line, certificate_of}
use Rattle.list_certificate.specs.Verdicts.{AllPass, steps_of, IsTight, IsVerdict}
use Rattle.list_certificate.specs.CertificateLaws.{Shows, IsAcceptedBy}
use Rattle.list_certificate.proofs.Listed.{found, not_listed}

-- the start is a state
pub is_start : (v : LegsValue) → IsState v start
is_start v = (refl, refl)

pub shows : (v : LegsValue) (c : Cert) (verdict : Verdict) → KeepsLaws v → IsVerdict v c verdict → Shows v verdict
shows v c (Least containers sids hops) laws h =
    tight_least v (potential_at c.potentials) start h.1.costs.moves (record { containers = containers; sids = sids; hops = hops }) laws h.0
    (is_start v)
    h.1.same
    h.1.costs.cost_is
shows v c NoList laws h =
    record {
      attains = tt;
      least = λ moves.
          subst (λ (o : Option Cost). Under None o)
          (sym (unlisted_none v (potential_at c.potentials) start moves laws h.0 (is_start v) h.2)) tt;
    }
shows v c (No line why) laws h = tt

-- the lines of potentials
pub line_potential : (n : ℕ) (qs : List Potential) (i : ℕ) (l : PotentialLine) → slice_get (potential_lines n qs) i ≡ Some l
    → slice_get qs i ≡ Some l.potential
line_potential n [] i l h = absurd (none-some l h)
line_potential n (q ∷ qs) zero l h =
    ap (λ (x : PotentialLine). Some x.potential) (same_Some (record { potential = q; line = n }) l h)
line_potential n (q ∷ qs) (suc i) l h = line_potential (n + 1) qs i l h

pub potential_line : (n : ℕ) (qs : List Potential) (i : ℕ) (q : Potential) → slice_get qs i ≡ Some q
    → (l : PotentialLine) × (slice_get (potential_lines n qs) i ≡ Some l) × (l.potential ≡ q)
potential_line n [] i q h = absurd (none-some q h)
potential_line n (x ∷ qs) zero q h = (record { potential = x; line = n }, refl, same_Some x q h)
potential_line n (x ∷ qs) (suc i) q h = potential_line (n + 1) qs i q h

pub steps_lines : (n : ℕ) (ps : List PathStep) → steps_of (path_lines n ps) ≡ ps
steps_lines n [] = refl
steps_lines n (p ∷ ps) = ap (λ (xs : List PathStep). p ∷ xs) (steps_lines (n + 1) ps)

contained : (qs : List Potential) (i : ℕ) (q : Potential) → slice_get qs i ≡ Some q → Contains qs q
contained qs i q h = (i, slice_get_within qs i q h, get_or_from_slice_get qs i q q h)

module _ (v : LegsValue) (s : Solution) (head : ℕ) (is : IsListing v s.potentials) where
  abbrev lines : List PotentialLine
  lines = potential_lines (head + 1) s.potentials

  listed_least : (t : State) (c : Cost) → potential_at lines t ≡ Some c → IsLeast v t (Some c)
  listed_least t c h =
      let f = found lines t c h in
      let here = line_potential (head + 1) s.potentials f.place f.line f.here in
      let exact = is.exact f.line.potential (contained s.potentials f.place f.line.potential here) in
      subst (λ (x : State). IsLeast v x (Some c)) f.state_is
      (subst (λ (x : Cost). IsLeast v f.line.potential.state (Some x)) f.cost_is exact.1)

  no_path : (t : State) (moves : List Move) (c : Cost) → IsState v t → potential_at lines t ≡ None → cost_of v t moves ≡ Some c → ⊥
  no_path t moves c is_t none h =
      let of = is.listed t moves c is_t h in
      let q : Potential = record { state = t; cost = of.0 } in
      let here : slice_get s.potentials of.1.0 ≡ Some q =
      slice_get-get_or s.potentials of.1.0 q of.1.1 ∙ ap (λ (x : Potential). Some x) of.1.2 in
      let line = potential_line (head + 1) s.potentials of.1.0 q here in
      not_listed lines t none of.1.0 line.0 line.1 (ap (λ (x : Potential). x.state) line.2)

  unlisted_least : (t : State) → IsState v t → potential_at lines t ≡ None → IsLeast v t None
  unlisted_least t is_t none = record { attains = tt; least = λ moves. by moves (cost_of v t moves) refl }
    where
      by : (moves : List Move) (o : Option Cost) → cost_of v t moves ≡ o → Under None o
      by moves None h = tt
      by moves (Some c) h = no_path t moves c is_t none h

  all_least : (t : State) → IsState v t → IsLeast v t (potential_at lines t)
  all_least t is_t = by (potential_at lines t) refl
    where
      by : (o : Option Cost) → potential_at lines t ≡ o → IsLeast v t o
      by None h = unlisted_least t is_t h
      by (Some c) h = listed_least t c h

  line_is : (k : ℕ) (d : PotentialLine) → k < length lines → slice_get s.potentials k ≡ Some (get_or lines k d).potential
  line_is k d h = line_potential (head + 1) s.potentials k (get_or lines k d) (slice_get-get_or lines k d h)

  pub solution_states : All (λ (l : PotentialLine). IsState v l.potential.state) lines
  solution_states k d h =
      (is.exact (get_or lines k d).potential (contained s.potentials k (get_or lines k d).potential (line_is k d h))).0

  pub solution_order : AllPairs (λ (l m : PotentialLine). IsBefore v l.potential.state m.potential.state) lines
  solution_order i j d h k =
      let one = line_is i d (omega (arith, h, k)) in
      let two = line_is j d k in
      let q : Potential = (get_or lines i d).potential in
      let order = is.order i j q h (slice_get_within s.potentials j (get_or lines j d).potential two) in
      subst (λ (x : Potential). IsBefore v x.state (get_or lines j d).potential.state) (get_or_from_slice_get s.potentials i q q one)
      (subst (λ (x : Potential). IsBefore v (get_or s.potentials i q).state x.state)
      (get_or_from_slice_get s.potentials j (get_or lines j d).potential q two) order)

written : (line n : ℕ) (path : List PathStep) → IsWritten (none_line line path) (path_lines n path)
written line n [] = refl
written line n (p ∷ ps) = omega arith

pub solution_cert : (v : LegsValue) (head : ℕ) (s : Solution) → IsSolution v s → IsCert v (certificate_of head s)
solution_cert v head s is =
    record {
      states = solution_states v s head is.potentials;
      order = solution_order v s head is.potentials;
      written = written (head + 1 + length s.potentials) (head + 1 + length s.potentials) s.path;
    }

module _ (v : LegsValue) (head : ℕ) (s : Solution) (laws : KeepsLaws v) (is : IsSolution v s) where
  all_pass_law : AllPass v (certificate_of head s)
  all_pass_law t is_t = least_good v (potential_at (certificate_of head s).potentials) t laws (all_least v s head is.potentials) is_t

  start_none : ((moves : List Move) → cost_of v start moves ≡ None) → (o : Option Cost)
      → potential_at (certificate_of head s).potentials start ≡ o → o ≡ None
  start_none h None e = refl
  start_none h (Some c) e =
      let attains = (listed_least v s head is.potentials start c e).attains in
      absurd (none-some c (sym (h attains.0) ∙ attains.1))

  start_cost : (path : List PathStep) (p : IsPath v path) (o : Option Cost) → potential_at (certificate_of head s).potentials start ≡ o
      → o ≡ Some p.cost
  start_cost path p None e = absurd (no_path v s head is.potentials start p.moves p.cost (is_start v) e p.first.cost)
  start_cost path p (Some d) e =
      let least = listed_least v s head is.potentials start d e in
      let below : AtMost d p.cost = subst (λ (o : Option Cost). Under (Some d) o) p.first.cost (least.least p.moves) in
      let above : AtMost p.cost d = subst (λ (o : Option Cost). Under (Some p.cost) o) least.attains.1 (p.first.least least.attains.0) in
      ap (λ (x : Cost). Some x) (at_most_both d p.cost below above)

  accepted_by : (path : List PathStep) → s.path ≡ path → IsPathOrNone v path → IsAcceptedBy v head s path
  accepted_by [] e h = (
    all_pass_law,
    ap (λ (ps : List PathStep). is_some (none_line (head + 1 + length s.potentials) ps)) e,
    start_none h (potential_at (certificate_of head s).potentials start) refl,
  )
  accepted_by (p ∷ ps) e h =
      let same : potential_at (certificate_of head s).potentials start ≡ Some h.cost =
      start_cost (p ∷ ps) h (potential_at (certificate_of head s).potentials start) refl in
      let tight : IsTight v (certificate_of head s) h.cost =
      record {
        written = ap (none_line (head + 1 + length s.potentials)) e;
        costs =
            record {
              moves = h.moves;
              steps_are = sym h.is_path ∙ sym e ∙ sym (steps_lines (head + 1 + length s.potentials) s.path);
              cost_is = h.first.cost;
            };
        same = same;
      } in
      (h.cost, record { least = listed_least v s head is.potentials start h.cost same; verdict = (all_pass_law, tight) })

  pub solution_accepted : IsAcceptedBy v head s s.path
  solution_accepted = accepted_by s.path refl is.path
