-- What is so of each pair of same outcomes.
use Rattle.std.proofs.Common.{ℕ, Bool, subst}
use Rattle.srv6_rules.specs.declared.family.Family.{Family}
use Rattle.srv6_rules.specs.declared.reason.Reason.{Reason}
use Rattle.net_model.specs.Network.{Network}
use Rattle.walk_rules.specs.declared.place.How.{How}
use Rattle.walk_rules.specs.declared.place.Outcome.{Outcome}
use Rattle.walk_rules.specs.declared.place.Outcome.TheVariants as outcomes
use Rattle.update_spec.specs.Alike.{SameHow, SameOutcome, SameSidAt}

pub record EachSame (a b : Network) (P : Outcome → Outcome → Type 0) : Type 0 where
  pub again : (m n : ℕ) (how on : How) → SameSidAt a b m n → SameHow a b how on → P (outcomes.Again m how) (outcomes.Again n on)
  pub hand : (m n : ℕ) (how on : How) (family : Family) → SameSidAt a b m n → SameHow a b how on
      → P (outcomes.Hand m how family) (outcomes.Hand n on family)
  pub send : (link : ℕ) → P (outcomes.Send link) (outcomes.Send link)
  pub local_ : P outcomes.Local outcomes.Local
  pub drop_ : (reason : Reason) (told : Bool) → P (outcomes.Drop reason told) (outcomes.Drop reason told)

module _ (a b : Network) (P : Outcome → Outcome → Type 0) (each : EachSame a b P) where
  pub same_each : (x y : Outcome) → SameOutcome a b x y → P x y
  same_each (outcomes.Again m how) (outcomes.Again n on) h = each.again m n how on h.0 h.1
  same_each (outcomes.Again m how) (outcomes.Hand n on other) h = absurd h
  same_each (outcomes.Again m how) (outcomes.Send road) h = absurd h
  same_each (outcomes.Again m how) outcomes.Local h = absurd h
  same_each (outcomes.Again m how) (outcomes.Drop cause tells) h = absurd h
  same_each (outcomes.Hand m how family) (outcomes.Again n on) h = absurd h
  same_each (outcomes.Hand m how family) (outcomes.Hand n on other) h =
      subst (λ (f : Family). P (outcomes.Hand m how family) (outcomes.Hand n on f)) h.2 (each.hand m n how on family h.0 h.1)
  same_each (outcomes.Hand m how family) (outcomes.Send road) h = absurd h
  same_each (outcomes.Hand m how family) outcomes.Local h = absurd h
  same_each (outcomes.Hand m how family) (outcomes.Drop cause tells) h = absurd h
  same_each (outcomes.Send link) (outcomes.Again n on) h = absurd h
  same_each (outcomes.Send link) (outcomes.Hand n on other) h = absurd h
  same_each (outcomes.Send link) (outcomes.Send road) h = subst (λ (k : ℕ). P (outcomes.Send link) (outcomes.Send k)) h (each.send link)
  same_each (outcomes.Send link) outcomes.Local h = absurd h
  same_each (outcomes.Send link) (outcomes.Drop cause tells) h = absurd h
  same_each outcomes.Local (outcomes.Again n on) h = absurd h
  same_each outcomes.Local (outcomes.Hand n on other) h = absurd h
  same_each outcomes.Local (outcomes.Send road) h = absurd h
  same_each outcomes.Local outcomes.Local h = each.local_
  same_each outcomes.Local (outcomes.Drop cause tells) h = absurd h
  same_each (outcomes.Drop reason told) (outcomes.Again n on) h = absurd h
  same_each (outcomes.Drop reason told) (outcomes.Hand n on other) h = absurd h
  same_each (outcomes.Drop reason told) (outcomes.Send road) h = absurd h
  same_each (outcomes.Drop reason told) outcomes.Local h = absurd h
  same_each (outcomes.Drop reason told) (outcomes.Drop cause tells) h =
      subst (λ (r : Reason). P (outcomes.Drop reason told) (outcomes.Drop r tells)) h.0
      (subst (λ (t : Bool). P (outcomes.Drop reason told) (outcomes.Drop reason t)) h.1 (each.drop_ reason told))
