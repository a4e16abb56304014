-- The segment routing header of a pushed header taken out.
use Rattle.std.proofs.Common.{◌≡◌, ℕ, ◌+◌, List, ◌++◌, length, take, drop, Option, Some, None, refl, ap, ◌∙◌, arith}
use Rattle.std.proofs.lemmas.List.{drop_at, take_at}
use Rattle.srv6_rules.specs.declared.numbers.TheConstants.{NEXT_HEADER_AT}
use Rattle.srv6_rules.specs.Packet.{Packet, header_len}
use Rattle.srv6_rules.specs.Srh.{Srh, srh_spelling}
use Rattle.srv6_rules.specs.Chain.{Header, routing, without}
use Rattle.srv6_rules.specs.Endpoint.{Endpoint, Onward, Delivered, as_in, outcome_without}
use Rattle.srv6_rules.proofs.Headers.{length_srh_spelling}
use Rattle.outer_header_theory.specs.HeaderFronts.{Fate, GoesOn, IsTakenOff, IsDelivered, IsDropped, IsFrontOf, AreFront, endpoint_of, filled}
use Rattle.outer_header_theory.proofs.Framing.{IsKept, Framed}

-- the segment routing header in a packet: it stands directly behind the IPv6 header
abbrev pub head_of : Srh → Header
head_of t = record { place = record { at = header_len; kind = routing; named_at = NEXT_HEADER_AT }; bytes = srh_spelling t }

-- a segment routing header in front of an IPv6 packet that is as long as another
abbrev pub IsLike : Srh → Option Srh → Type 0
IsLike t None = ⊥
IsLike t (Some u) = IsFrontOf u × (length u.body ≡ length t.body)

pub like_front : (t : Srh) (o : Option Srh) → IsLike t o → AreFront o
like_front t None is = absurd is
like_front t (Some u) is = is.0

-- the same bytes stand behind the IPv6 header alone then
without_head : (t u : Srh) (p : Packet) (bytes : List ℕ) → IsLike t (Some u)
    → without (filled p (Some u) bytes) (as_in (filled p (Some u) bytes) (head_of t)) ≡ filled p None bytes
without_head t u p bytes is =
    let q : Packet = filled p (Some u) bytes in
    let long = length_srh_spelling t in
    let as_long = length_srh_spelling u in
    let same = is.1 in
    let front : take (length (srh_spelling t)) (srh_spelling u ++ bytes) ≡ srh_spelling u =
    take_at (srh_spelling u) bytes (length (srh_spelling t)) (omega arith) in
    let behind : drop (0 + length (srh_spelling u)) (srh_spelling u ++ bytes) ≡ bytes =
    drop_at (srh_spelling u) bytes (0 + length (srh_spelling u)) (omega arith) in
    ap (λ xs. without q (record { place = (head_of t).place; bytes = xs })) front
    ∙ ap (λ xs. record q { next_header = u.next_header; payload = xs }) behind
    ∙ ap (λ n. record q { next_header = n; payload = bytes }) is.0.0

-- the fate without the segment routing header
abbrev fate_without : Fate → Fate
fate_without (GoesOn p o) = GoesOn p None
fate_without IsTakenOff = IsTakenOff
fate_without (IsDelivered p o) = IsDelivered p None
fate_without (IsDropped reason at) = IsDropped reason at

kept_without : (t : Srh) (fate : Fate) → IsKept AreFront (fate_without fate)
kept_without t (GoesOn p o) = tt
kept_without t IsTakenOff = tt
kept_without t (IsDelivered p o) = tt
kept_without t (IsDropped reason at) = tt

same_without : (t : Srh) (fate : Fate) → IsKept (IsLike t) fate → (bytes : List ℕ)
    → outcome_without (head_of t) (endpoint_of fate bytes) ≡ endpoint_of (fate_without fate) bytes
same_without t (GoesOn p None) is bytes = absurd is
same_without t (GoesOn p (Some u)) is bytes = ap Onward (without_head t u p bytes is)
same_without t IsTakenOff is bytes = refl
same_without t (IsDelivered p None) is bytes = absurd is
same_without t (IsDelivered p (Some u)) is bytes = ap Delivered (without_head t u p bytes is)
same_without t (IsDropped reason at) is bytes = refl

pub framed_out : (t : Srh) (f : List ℕ → Endpoint) → Framed (IsLike t) f → Framed AreFront (λ bytes. outcome_without (head_of t) (f bytes))
framed_out t f framed =
    record {
      fate = fate_without framed.fate;
      kept = kept_without t framed.fate;
      same = λ bytes. ap (outcome_without (head_of t)) (framed.same bytes) ∙ same_without t framed.fate framed.kept bytes;
    }
