-- Answers of bytes that are one fate, and how they are put together.
use Rattle.std.proofs.Common.{◌≡◌, ℕ, Bool, true, false, if◌then◌else◌, List, Option, Some, None, refl, ◌∙◌}
use Rattle.srv6_rules.specs.declared.family.Family.TheVariants.{V6}
use Rattle.srv6_rules.specs.declared.reason.Reason.{Reason}
use Rattle.srv6_rules.specs.Packet.{Packet}
use Rattle.srv6_rules.specs.Srh.{Srh}
use Rattle.srv6_rules.specs.Areas.{Fault}
use Rattle.srv6_rules.specs.Endpoint.{Endpoint, Onward, Exposed, Delivered, Refused, unless_fault}
use Rattle.outer_header_theory.specs.HeaderFronts.{Fate, GoesOn, IsTakenOff, IsDelivered, IsDropped, IsFate, AreFront, endpoint_of, filled}

-- what is left of the segment routing header is of a kind
abbrev pub IsKept : (Option Srh → Type 0) → Fate → Type 0
IsKept F (GoesOn p o) = F o
IsKept F IsTakenOff = Unit {0}
IsKept F (IsDelivered p o) = F o
IsKept F (IsDropped reason at) = Unit {0}

-- an answer of bytes is one fate for all bytes
pub record Framed (F : Option Srh → Type 0) (f : List ℕ → Endpoint) : Type 0 where
  pub fate : Fate
  pub kept : IsKept F fate
  pub same : (bytes : List ℕ) → f bytes ≡ endpoint_of fate bytes

kept_more : (F G : Option Srh → Type 0) → ((o : Option Srh) → F o → G o) → (fate : Fate) → IsKept F fate → IsKept G fate
kept_more F G more (GoesOn p o) is = more o is
kept_more F G more IsTakenOff is = tt
kept_more F G more (IsDelivered p o) is = more o is
kept_more F G more (IsDropped reason at) is = tt

pub kept_fate : (fate : Fate) → IsKept AreFront fate → IsFate fate
kept_fate (GoesOn p o) is = is
kept_fate IsTakenOff is = tt
kept_fate (IsDelivered p o) is = is
kept_fate (IsDropped reason at) is = tt

pub framed_more : (F G : Option Srh → Type 0) (f : List ℕ → Endpoint) → ((o : Option Srh) → F o → G o) → Framed F f → Framed G f
framed_more F G f more framed =
    record { fate = framed.fate; kept = kept_more F G more framed.fate framed.kept; same = framed.same }

module _ (F : Option Srh → Type 0) where
  pub framed_onward : (p : Packet) (o : Option Srh) → F o → Framed F (λ bytes. Onward (filled p o bytes))
  framed_onward p o is = record { fate = GoesOn p o; kept = is; same = λ bytes. refl }

  pub framed_exposed : Framed F (λ bytes. Exposed V6 bytes)
  framed_exposed = record { fate = IsTakenOff; kept = tt; same = λ bytes. refl }

  pub framed_delivered : (p : Packet) (o : Option Srh) → F o → Framed F (λ bytes. Delivered (filled p o bytes))
  framed_delivered p o is = record { fate = IsDelivered p o; kept = is; same = λ bytes. refl }

  pub framed_refused : (reason : Reason) (at : ℕ) → Framed F (λ bytes. Refused reason at)
  framed_refused reason at = record { fate = IsDropped reason at; kept = tt; same = λ bytes. refl }

  pub framed_same : (f g : List ℕ → Endpoint) → ((bytes : List ℕ) → f bytes ≡ g bytes) → Framed F g → Framed F f
  framed_same f g same framed =
      record { fate = framed.fate; kept = framed.kept; same = λ bytes. same bytes ∙ framed.same bytes }

  -- a test that does not look at the bytes
  pub framed_if : (b : Bool) (f g : List ℕ → Endpoint) → Framed F f → Framed F g → Framed F (λ bytes. if b then f bytes else g bytes)
  framed_if true f g one other = one
  framed_if false f g one other = other

  pub framed_unless : (x : Option Fault) (f : List ℕ → Endpoint) → Framed F f → Framed F (λ bytes. unless_fault x (f bytes))
  framed_unless None f framed = framed
  framed_unless (Some fault) f framed = framed_refused fault.reason fault.at
