-- A header taken out of a packet's bytes, and what comes of the packet without it.
use Rattle.std.proofs.Common.{◌≡◌, ◌⊎◌, ℕ, ◌+◌, ◌-◌, ◌≤◌, Bool, true, false, if◌then◌else◌, List, length, take, drop, slice_index, slice_set, refl, sym, ap, subst, ◌∙◌, arith, inl, inr, length-append, length-drop}
use Rattle.std.proofs.lemmas.Bool.{cases_Bool}
use Rattle.std.proofs.lemmas.List.{length-set, length-take-le}
use Rattle.srv6_rules.specs.declared.family.Family.{Family}
use Rattle.srv6_rules.specs.declared.reason.Reason.{Reason}
use Rattle.srv6_rules.specs.Packet.{Packet, header_len, packet_at}
use Rattle.srv6_rules.specs.PacketTerms.{Spells}
use Rattle.srv6_rules.specs.Chain.{ChainPlace, Header, cut_out, is_first, without}
use Rattle.srv6_rules.specs.Endpoint.{Endpoint, Onward, Delivered, as_in, outcome_without}
use Rattle.srv6_rules.proofs.PublicLaws.{length_spelling}
use Rattle.endpoint_chain.specs.Outcomes.{ComesOf, HoldsAlone, Leaves}
use Rattle.endpoint_chain.specs.declared.outcome.EndOutcome.{EndOutcome}
use Rattle.endpoint_chain.specs.declared.outcome.EndOutcome.TheVariants.{On, Hand, Local, Drop}
use Rattle.endpoint_chain.proofs.PublicLaws.{alone_length}
use Rattle.end_behaviours.specs.HeaderFinding.{header_of}
use Rattle.end_behaviours.specs.SrhStepping.{Reaches, Remains}
use Rattle.end_behaviours.proofs.AloneLemmas.{spelled_alone, alone_spells, alone_from}

-- ---- how long the packet is without a header

cut_long : (a n : ℕ) (xs : List ℕ) → a + n ≤ length xs → length (cut_out a n xs) + n ≡ length xs
cut_long a n xs within =
    let front = length-take-le a xs (omega arith) in
    let back = length-drop (a + n) xs in
    let whole = length-append (take a xs) (drop (a + n) xs) in
    omega arith

pub without_long : (p : Packet) (h : Header) → header_len ≤ h.place.at → h.place.at + length h.bytes ≤ header_len + length p.payload
    → length (without p h).payload + length h.bytes ≡ length p.payload
without_long p h start within = elim (cases_Bool (is_first h.place)) [
  | inl first ↦ rw first (cut_long (h.place.at - header_len) (length h.bytes) p.payload (omega arith))
  | inr later ↦
      let named : List ℕ = slice_set p.payload (h.place.named_at - header_len) (slice_index h.bytes 0) in
      let same : length named ≡ length p.payload = length-set p.payload (h.place.named_at - header_len) (slice_index h.bytes 0) in
      rw later (cut_long (h.place.at - header_len) (length h.bytes) named (omega arith) ∙ same)
]

-- what is exposed or dropped neither goes on nor is handed over
hand_stays : (family : Family) → (Hand family ≡ On) ⊎ (Hand family ≡ Local) → ⊥
hand_stays family (inl e) = cc
hand_stays family (inr e) = cc

drop_stays : (reason : Reason) (at : ℕ) → (Drop reason at ≡ On) ⊎ (Drop reason at ≡ Local) → ⊥
drop_stays reason at (inl e) = cc
drop_stays reason at (inr e) = cc

module _ (bytes new : List ℕ) (place : ChainPlace) (len : ℕ) (alone : HoldsAlone bytes) (start : header_len ≤ place.at)
    (within : place.at + len ≤ length bytes) where
  abbrev taken_from : Header
  taken_from = record { place = place; bytes = take len (drop place.at bytes) }

  -- the bytes reach to where the header stood
  pub out_reaches : Spells new (without (packet_at bytes) taken_from) → place.at ≤ length new
  out_reaches out =
      let p : Packet = packet_at bytes in
      let len_of = length-take-le len (drop place.at bytes) (omega (arith, length-drop place.at bytes)) in
      let all = alone_length bytes alone in
      let rest = without_long p taken_from start (omega arith) in
      let long : length new ≡ 40 + length (without p taken_from).payload =
      ap length out.1 ∙ length_spelling (without p taken_from) in
      omega arith

  same_header : taken_from ≡ header_of (packet_at bytes) place len
  same_header = ap (λ xs. record { place = place; bytes = take len xs }) (sym (alone_from bytes place.at alone start))

  pub out_spelled : (taken : Bool) → taken ≡ true → Spells new (without (packet_at bytes) taken_from)
      → Spells new (if taken then without (packet_at bytes) (header_of (packet_at bytes) place len) else packet_at bytes)
  out_spelled true is out =
      let P : Header → Type 0 = λ h. Spells new (without (packet_at bytes) h) in
      subst P same_header out
  out_spelled false is out = cc

  -- what comes of the packet without a header of that length
  out_leaves : (by : Packet → Endpoint) (e : Endpoint) (h : Header) → h.place ≡ place → length h.bytes ≡ len
      → ((q : Packet) → outcome_without h (by q) ≡ by (without q (as_in q h)))
      → Leaves e by bytes → Spells new (without (packet_at bytes) taken_from) → Leaves (outcome_without h e) by new
  out_leaves by e h at long passes left out =
      let q : Packet = left.packet in
      let value : packet_at bytes ≡ q = (spelled_alone bytes q left.spelled).1 in
      let P : Header → Type 0 = λ x. Spells new (without (packet_at bytes) x) in
      let there = subst P same_header out in
      let Q : ChainPlace → Type 0 = λ k. Spells new (without (packet_at bytes) (header_of (packet_at bytes) k len)) in
      let R : ℕ → Type 0 = λ n. Spells new (without (packet_at bytes) (header_of (packet_at bytes) h.place n)) in
      let S : Packet → Type 0 = λ x. Spells new (without x (as_in x h)) in
      record {
        packet = without q (as_in q h);
        is = ap (outcome_without h) left.is ∙ passes q;
        spelled = subst S value (subst R (sym long) (subst Q (sym at) there));
      }

  pub out_comes : (outcome : EndOutcome) → (outcome ≡ On) ⊎ (outcome ≡ Local)
      → Spells new (without (packet_at bytes) taken_from)
      → (e : Endpoint) (first : List ℕ) (h : Header) → h.place ≡ place → length h.bytes ≡ len → ComesOf e first bytes outcome
      → ComesOf (outcome_without h e) first new outcome
  out_comes On is out e first h at long comes = out_leaves Onward e h at long (λ q. refl) comes out
  out_comes (Hand family) is out e first h at long comes = absurd (hand_stays family is)
  out_comes Local is out e first h at long comes = out_leaves Delivered e h at long (λ q. refl) comes out
  out_comes (Drop reason fault_at) is out e first h at long comes = absurd (drop_stays reason fault_at is)

pub stay_spelled : (bytes : List ℕ) (q : Packet) (taken : Bool) → taken ≡ false → HoldsAlone bytes
    → Spells bytes (if taken then q else packet_at bytes)
stay_spelled bytes q true is alone = cc
stay_spelled bytes q false is alone = alone_spells bytes alone

-- ---- what is left of a packet stands alone

pub left_remains : (e : Endpoint) (at : ℕ) (old new : List ℕ) (outcome : EndOutcome) → ComesOf e old new outcome
    → Reaches at new outcome → Remains at new outcome
left_remains e at old new On comes reaches = ((spelled_alone new comes.packet comes.spelled).0, reaches)
left_remains e at old new (Hand family) comes reaches = tt
left_remains e at old new Local comes reaches = ((spelled_alone new comes.packet comes.spelled).0, reaches)
left_remains e at old new (Drop reason place) comes reaches = tt

pub remains_alone : (at : ℕ) (bytes : List ℕ) (outcome : EndOutcome) → (outcome ≡ On) ⊎ (outcome ≡ Local) → Remains at bytes outcome
    → HoldsAlone bytes
remains_alone at bytes On is left = left.0
remains_alone at bytes (Hand family) is left = absurd (hand_stays family is)
remains_alone at bytes Local is left = left.0
remains_alone at bytes (Drop reason place) is left = absurd (drop_stays reason place is)

pub remains_within : (at : ℕ) (bytes : List ℕ) (outcome : EndOutcome) → (outcome ≡ On) ⊎ (outcome ≡ Local) → Remains at bytes outcome
    → at ≤ length bytes
remains_within at bytes On is left = left.1
remains_within at bytes (Hand family) is left = absurd (hand_stays family is)
remains_within at bytes Local is left = left.1
remains_within at bytes (Drop reason place) is left = absurd (drop_stays reason place is)

pub out_reaches_by : (outcome : EndOutcome) (at : ℕ) (bytes : List ℕ) → at ≤ length bytes → Reaches at bytes outcome
out_reaches_by On at bytes within = within
out_reaches_by (Hand family) at bytes within = tt
out_reaches_by Local at bytes within = within
out_reaches_by (Drop reason place) at bytes within = tt
