-- Answers at all hop limits that have one course, and how they are put together.
use Rattle.std.proofs.Common.{◌≡◌, ℕ, ◌-◌, Bool, true, false, nat_le, if◌then◌else◌, List, Option, Some, None, refl, sym, ◌∙◌, ap, subst, inl, inr}
use Rattle.std.proofs.lemmas.Bool.{cases_Bool}
use Rattle.srv6_rules.specs.declared.family.Family.{Family}
use Rattle.srv6_rules.specs.declared.reason.Reason.{Reason}
use Rattle.srv6_rules.specs.declared.reason.Reason.TheVariants as reasons
use Rattle.srv6_rules.specs.Packet.{Packet}
use Rattle.srv6_rules.specs.Areas.{Fault}
use Rattle.srv6_rules.specs.Chain.{Header, is_first, without}
use Rattle.srv6_rules.specs.Endpoint.{Endpoint, Onward, Exposed, Delivered, Refused, unless_fault, as_in, outcome_without}
use Rattle.outer_header_theory.specs.HopLimits.{Course, GoesOn, IsShown, EndsThere, IsEnd, Takes, at_hop}

-- answers at all hop limits have one course
pub record Alike (f : ℕ → Endpoint) : Type 0 where
  pub course : Course
  pub takes : (hop : ℕ) → Takes course hop (f hop)

-- a test that does not look at the hop limit
pub alike_if : (b : Bool) (f g : ℕ → Endpoint) → Alike f → Alike g → Alike (λ hop. if b then f hop else g hop)
alike_if true f g one other = one
alike_if false f g one other = other

pub alike_same : (f g : ℕ → Endpoint) → ((hop : ℕ) → f hop ≡ g hop) → Alike g → Alike f
alike_same f g same r =
    record { course = r.course; takes = λ hop. subst (λ e. Takes r.course hop e) (sym (same hop)) (r.takes hop) }

pub alike_refused : (reason : Reason) (at : ℕ) → Alike (λ hop. Refused reason at)
alike_refused reason at = record { course = EndsThere; takes = λ hop. tt }

pub alike_shown : (family : Family) (bytes : List ℕ) → Alike (λ hop. Exposed family bytes)
alike_shown family bytes = record { course = IsShown family bytes; takes = λ hop. refl }

pub alike_delivered : (q : ℕ → Packet) → Alike (λ hop. Delivered (q hop))
alike_delivered q = record { course = EndsThere; takes = λ hop. tt }

pub alike_unless : (o : Option Fault) (f : ℕ → Endpoint) → Alike f → Alike (λ hop. unless_fault o (f hop))
alike_unless None f same = same
alike_unless (Some fault) f same = alike_refused fault.reason fault.at

-- a packet that goes on from above 1
pub alike_above : (q : Packet) → Alike (λ hop. if nat_le hop 1 then Refused reasons.HopLimit 0 else Onward (at_hop (hop - 1) q))
alike_above q = record { course = GoesOn q; takes = λ hop. refl }

ends_if : (b : Bool) (reason : Reason) (at : ℕ) → IsEnd (if b then Refused reasons.HopLimit 0 else Refused reason at)
ends_if true reason at = tt
ends_if false reason at = tt

-- and one that is refused for another reason there
pub alike_low : (reason : Reason) (at : ℕ) → Alike (λ hop. if nat_le hop 1 then Refused reasons.HopLimit 0 else Refused reason at)
alike_low reason at = record { course = EndsThere; takes = λ hop. ends_if (nat_le hop 1) reason at }

-- ---- a header that is taken out

without_hop : (hop : ℕ) (q : Packet) (h : Header) → without (at_hop hop q) h ≡ at_hop hop (without q h)
without_hop hop q h = elim (cases_Bool (is_first h.place)) [
  | inl first ↦ rw first refl
  | inr later ↦ rw later refl
]

out_if : (h : Header) (b : Bool) (x : Packet)
    → outcome_without h (if b then Refused reasons.HopLimit 0 else Onward x)
    ≡ (if b then Refused reasons.HopLimit 0 else Onward (without x (as_in x h)))
out_if h true x = refl
out_if h false x = refl

out_end : (h : Header) (e : Endpoint) → IsEnd e → IsEnd (outcome_without h e)
out_end h (Onward q) is = is
out_end h (Exposed family bytes) is = is
out_end h (Delivered q) is = tt
out_end h (Refused reason at) is = tt

course_without : Header → Course → Course
course_without h (GoesOn q) = GoesOn (without q (as_in q h))
course_without h (IsShown family bytes) = IsShown family bytes
course_without h EndsThere = EndsThere

takes_without : (h : Header) (course : Course) (hop : ℕ) (e : Endpoint) → Takes course hop e
    → Takes (course_without h course) hop (outcome_without h e)
unfolding course_without
takes_without h (GoesOn q) hop e is =
    ap (outcome_without h) is ∙ out_if h (nat_le hop 1) (at_hop (hop - 1) q)
    ∙ ap (λ x. if nat_le hop 1 then Refused reasons.HopLimit 0 else Onward x) (without_hop (hop - 1) q (as_in q h))
takes_without h (IsShown family bytes) hop e is = ap (outcome_without h) is
takes_without h EndsThere hop e is = out_end h e is

pub alike_out : (b : Bool) (h : Header) (f : ℕ → Endpoint) → Alike f → Alike (λ hop. if b then outcome_without h (f hop) else f hop)
alike_out true h f r =
    record { course = course_without h r.course; takes = λ hop. takes_without h r.course hop (f hop) (r.takes hop) }
alike_out false h f r = r
