-- Where no line and no other state fails, all states pass.
use Rattle.std.proofs.Common.{◌≡◌, ℕ, true, List, Option, Some, None, refl, sym, subst}
use Rattle.std.specs.Prelude.{is_some}
use Rattle.std.proofs.lemmas.Option.{slice_get_within}
use Rattle.list_pack.specs.declared.types.Cost.{Cost}
use Rattle.list_pack.specs.declared.types.State.{State}
use Rattle.list_pack.specs.LegsValue.{LegsValue}
use Rattle.list_pack.specs.Costs.{start, IsState}
use Rattle.list_pack.specs.Least.{IsGoodAt}
use Rattle.list_certificate.specs.declared.certificate_types.PotentialLine.{PotentialLine}
use Rattle.list_certificate.specs.declared.certificate_types.Cert.{Cert}
use Rattle.list_certificate.specs.Certs.{potential_at}
use Rattle.list_certificate.specs.Verdicts.{ListedPass, AllPass, IsBadWay}
use Rattle.list_certificate.specs.Tests.{BadLine, FirstFailure, PassAmong, OfAll}
use Rattle.list_certificate.proofs.Listed.{found}

pub listed_pass : (v : LegsValue) (c : Cert) (lines : List PotentialLine) (o : Option ℕ) → lines ≡ c.potentials → BadLine v lines o
    → o ≡ None
    → ListedPass v c
listed_pass v c lines o e bad none i l here =
    let pass : BadLine v c.potentials None =
    subst (λ (xs : List PotentialLine). BadLine v xs None) e (subst (BadLine v lines) none bad) in
    pass i l (slice_get_within c.potentials i l here) here

all_by : (v : LegsValue) (c : Cert) → ListedPass v c → FirstFailure v c.potentials OfAll None → (s : State) → IsState v s
    → (o : Option Cost) → potential_at c.potentials s ≡ o
    → IsGoodAt v (potential_at c.potentials) s
all_by v c pass none s is_s None e = none s is_s tt e
all_by v c pass none s is_s (Some d) e =
    let f = found c.potentials s d e in
    subst (λ (x : State). IsGoodAt v (potential_at c.potentials) x) f.state_is (pass f.place f.line f.here)

pub all_pass_law : (v : LegsValue) (c : Cert) (lines : List PotentialLine) (o : Option ℕ) (p : Option State) → lines ≡ c.potentials
    → BadLine v lines o
    → o ≡ None → FirstFailure v lines OfAll p → p ≡ None → AllPass v c
all_pass_law v c lines o p e bad no_line failure no_state s is_s =
    all_by v c (listed_pass v c lines o e bad no_line)
    (subst (λ (xs : List PotentialLine). FirstFailure v xs OfAll None) e (subst (FirstFailure v lines OfAll) no_state failure)) s is_s
    (potential_at c.potentials s)
    refl

-- where a test assures it
pub all_assured : (v : LegsValue) (c : Cert) (lines : List PotentialLine) → lines ≡ c.potentials → PassAmong v lines OfAll → AllPass v c
all_assured v c lines e pass s is_s =
    subst (λ (xs : List PotentialLine). IsGoodAt v (potential_at xs) s) e (pass s is_s tt)

pub bad_way : (v : LegsValue) (c : Cert) (none : Option ℕ) (line : ℕ) → none ≡ Some line → is_some (potential_at c.potentials start) ≡ true
    → IsBadWay v c none line
bad_way v c none line e some = subst (λ (o : Option ℕ). IsBadWay v c o line) (sym e) (some, refl)
