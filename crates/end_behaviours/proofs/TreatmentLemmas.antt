-- What comes of a packet once it is found, in its bytes.
use Rattle.std.proofs.Common.{◌≡◌, ℕ, ◌+◌, ◌-◌, ◌<◌, ◌≤◌, List, length, drop, sym, ap, subst, ◌∙◌, arith}
use Rattle.srv6_rules.specs.declared.family.Family.{Family}
use Rattle.srv6_rules.specs.declared.sid.SidEntry.{SidEntry}
use Rattle.srv6_rules.specs.Packet.{Packet, header_len, packet_at}
use Rattle.srv6_rules.specs.Chain.{ChainPlace, from_place, start_of}
use Rattle.srv6_rules.specs.ChainTerms.{chain_at}
use Rattle.srv6_rules.specs.Endpoint.{Endpoint, Exposed, at_end, at_header, at_sid}
use Rattle.srv6_rules.specs.EndpointTerms.{over_chain}
use Rattle.srv6_rules.proofs.PublicLaws.{chain_of_start}
use Rattle.ip6_headers.specs.ChainStepping.{first_place}
use Rattle.endpoint_chain.specs.Outcomes.{HoldsAlone}
use Rattle.endpoint_chain.specs.declared.outcome.EndOutcome.{EndOutcome}
use Rattle.endpoint_chain.proofs.PublicLaws.{alone_length}
use Rattle.end_behaviours.specs.declared.end_headers.Decision.{Decision}
use Rattle.end_behaviours.specs.declared.end_headers.Found.{Found}
use Rattle.end_behaviours.specs.HeaderFinding.{IsDecided, IsFound, IsLast, at_sid_from}
use Rattle.end_behaviours.specs.SrhStepping.{Remains}
use Rattle.end_behaviours.proofs.AloneLemmas.{alone_from}

-- what is found in bytes that are these is found in these
pub found_in : (s : SidEntry) (allow seen old : List ℕ) (first : ℕ) (place : ChainPlace) (found : Found) → seen ≡ old
    → IsFound s (packet_at seen) first (at_sid_from s allow (packet_at seen)) (at_sid_from s allow (packet_at seen) place) found
    → IsFound s (packet_at old) first (at_sid_from s allow (packet_at old)) (at_sid_from s allow (packet_at old) place) found
found_in s allow seen old first place found same is =
    let P : List ℕ → Type 0 =
    λ xs. IsFound s (packet_at xs) first (at_sid_from s allow (packet_at xs)) (at_sid_from s allow (packet_at xs) place) found in
    subst P same is

-- a decision that is this one
pub decided_as : (s : SidEntry) (p : Packet) (first : ℕ) (e : Endpoint) (decision same : Decision) → decision ≡ same
    → IsDecided s p first e decision → IsDecided s p first e same
decided_as s p first e decision same is decided = let P : Decision → Type 0 = λ d. IsDecided s p first e d in subst P is decided

-- where a header that is taken out ends
pub record Ends (bytes : List ℕ) (place next : ChainPlace) : Type 0 where
  pub some : 1 ≤ next.at - place.at
  pub sum : place.at + (next.at - place.at) ≡ next.at
  pub before : place.at < next.at
  pub within : place.at < length bytes

pub last_ends : (bytes : List ℕ) (first : ℕ) (rest : ChainPlace → Endpoint) (e : Endpoint) (place next : ChainPlace) → HoldsAlone bytes
    → IsLast (packet_at bytes) first rest e place next → Ends bytes place next
last_ends bytes first rest e place next alone last =
    let least = last.header.lies.least in
    let long = last.header.long in
    let within = last.header.lies.within in
    let all = alone_length bytes alone in
    record { some = omega arith; sum = omega arith; before = omega arith; within = omega arith }

pub remains_at : (n m : ℕ) (bytes : List ℕ) (outcome : EndOutcome) → n ≡ m → Remains n bytes outcome → Remains m bytes outcome
remains_at n m bytes outcome same left = let P : ℕ → Type 0 = λ k. Remains k bytes outcome in subst P same left

-- what is exposed
pub exposed_bytes : (e : Endpoint) (family : Family) (bytes : List ℕ) (at : ℕ) → HoldsAlone bytes → header_len ≤ at
    → e ≡ Exposed family (from_place (packet_at bytes) at) → e ≡ Exposed family (drop at bytes)
exposed_bytes e family bytes at alone behind is = is ∙ ap (Exposed family) (alone_from bytes at alone behind)

-- the whole chain
pub sid_from : (s : SidEntry) (allow : List ℕ) (p : Packet) (place : ChainPlace) → place ≡ start_of p
    → at_sid s allow p ≡ at_sid_from s allow p place
sid_from s allow p place is =
    ap (over_chain (at_header s p) (at_end s allow p)) (chain_of_start p ∙ ap (chain_at p) (sym is))

-- where it starts, in bytes that are these
pub starts : (old seen : List ℕ) (kind : ℕ) (place : ChainPlace) → place ≡ first_place kind → kind ≡ (packet_at old).next_header
    → seen ≡ old → place ≡ start_of (packet_at seen)
starts old seen kind place first named same =
    first ∙ ap first_place (named ∙ ap (λ xs. (packet_at xs).next_header) (sym same))
