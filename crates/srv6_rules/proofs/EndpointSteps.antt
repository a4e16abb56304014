-- What an endpoint keeps of a packet in a step, in what it exposes and delivers, and at an address.
use Rattle.std.proofs.Common.{◌≡◌, ℕ, ◌&&◌, ◌+◌, ◌-◌, ◌*◌, ◌^◌, ◌<◌, ◌≤◌, Bool, true, false, ◌==◌, ◌≢◌, if◌then◌else◌, List, ◌++◌, length, take, drop, slice_index, All, refl, sym, ap, subst, ◌∙◌, arith}
use Rattle.std.proofs.lemmas.List.{get_or-set_other, get_or-set_same, length-set}
use Rattle.std.proofs.lemmas.List.Elements.{All-drop, All-take}
use Rattle.srv6_rules.specs.declared.family.Family.{Family}
use Rattle.srv6_rules.specs.declared.reason.Reason.{Reason}
use Rattle.srv6_rules.specs.declared.reason.Reason.TheVariants as reasons
use Rattle.srv6_rules.specs.declared.sid.SidEntry.{SidEntry}
use Rattle.srv6_rules.specs.Packet4.{Packet4, spelling4}
use Rattle.srv6_rules.specs.Packet.{Packet, V6, V4, IsSpellable, header_len, spelling, read_as, bytes_of}
use Rattle.srv6_rules.specs.PacketTerms.{IsContent}
use Rattle.srv6_rules.specs.Srh.{srh_of, entry_of, segments_left_at, routing_type_at}
use Rattle.srv6_rules.specs.Chain.{Header, ChainEnd, Upper, Cut, without, segments_left, start_of, chain_of}
use Rattle.srv6_rules.specs.ChainTerms.{LiesIn, StandsIn, place_of, chain_at}
use Rattle.srv6_rules.specs.CompressedSteps.{compression_of, is_replace, shifted}
use Rattle.srv6_rules.specs.Endpoint.{Endpoint, Onward, Exposed, Delivered, Refused, as_in, shifts_at, unknown_routing, at_sid, at_address_header, at_address_end, at_address}
use Rattle.srv6_rules.specs.EndpointTerms.{StepsTo, StepsWithPsp, MovesWithPsp, TakesWhole, ChangesFewBytes, ExposesFrom, IsPassed, IsReached}
use Rattle.srv6_rules.proofs.Bytes.{address_number_below}
use Rattle.srv6_rules.proofs.PacketPackets.{length_spelling, spelling_agrees, spelling_hop_limit, spelling_payload}
use Rattle.srv6_rules.proofs.PacketContents.{read_as_is_content, read_as_bytes_of, read_as_spelled, read_as_spelled4}
use Rattle.srv6_rules.proofs.Chains.{start_stands, lies_at}
use Rattle.srv6_rules.proofs.PacketReached.{over_reached, reached_lies, reached_stands}
use Rattle.srv6_rules.proofs.Treatments.{by_kind}
use Rattle.srv6_rules.proofs.Endpoints.{GoesOn, AtSid, end_stands, at_sid_is}

-- ---- the step

-- what is so of a packet that goes on
onward_so : (s : SidEntry) (allow : List ℕ) (p q : Packet) → at_sid s allow p ≡ Onward q → GoesOn s p q
onward_so s allow p q e = let P : Endpoint → Type 0 = λ x. AtSid s p x in subst P e (at_sid_is s p allow)

-- from a SID without USP that takes whole segments it has taken the step, with PSP to the end
pub at_sid_steps_psp : (s : SidEntry) (allow : List ℕ) (p q : Packet) → TakesWhole s p → s.usp ≡ false → at_sid s allow p ≡ Onward q
    → StepsWithPsp s p q
at_sid_steps_psp s allow p q takes no_usp e = (onward_so s allow p q e).whole takes no_usp

-- from a SID of REPLACE-CSID without USP it has moved on
pub at_sid_moves : (s : SidEntry) (allow : List ℕ) (p q : Packet) → is_replace s.csid ≡ true → s.usp ≡ false → at_sid s allow p ≡ Onward q
    → MovesWithPsp s p q
at_sid_moves s allow p q packed no_usp e = (onward_so s allow p q e).packed packed no_usp

-- where the SID shifts it is shifted
pub at_sid_shifted : (s : SidEntry) (allow : List ℕ) (p q : Packet) → shifts_at s p ≡ true → at_sid s allow p ≡ Onward q
    → q ≡ shifted (compression_of s) p
at_sid_shifted s allow p q shifts e = (onward_so s allow p q e).shift shifts

not_popped : (psp none : Bool) (x y : Packet) → psp ≡ false → (if psp && none then x else y) ≡ y
not_popped psp none x y e = rw e refl

pub at_sid_steps : (s : SidEntry) (allow : List ℕ) (p q : Packet) → TakesWhole s p → s.psp ≡ false → s.usp ≡ false
    → at_sid s allow p ≡ Onward q → StepsTo s p q
at_sid_steps s allow p q takes no_psp no_usp e =
    let steps = at_sid_steps_psp s allow p q takes no_usp e in
    let out : Packet = without steps.stepped (as_in steps.stepped steps.step.header) in
    let same : q ≡ steps.stepped = steps.popped ∙ not_popped s.psp (steps.step.left == 0) out steps.stepped no_psp in
    let P : Packet → Type 0 = λ x. StepsTo s p x in
    subst P (sym same) steps.step

pub entry_of_below : (h : Header) (i : ℕ) → All (λ b. b < 2 ^ 8) h.bytes → entry_of (srh_of h.bytes) i < 2 ^ 128
entry_of_below h i all =
    let P : ℕ → Type 0 = λ b. b < 2 ^ 8 in
    let n : ℕ = 8 * slice_index h.bytes 1 in
    address_number_below (drop (16 * i) (take n (drop 8 h.bytes)))
    (All-drop P (16 * i) (take n (drop 8 h.bytes)) (All-take P n (drop 8 h.bytes) (All-drop P 8 h.bytes all)))

module _ (s : SidEntry) (p q : Packet) (step : StepsTo s p q) where
  step_length : length q.payload ≡ length p.payload
  step_length = ap length step.payload ∙ length-set p.payload (step.header.place.at + segments_left_at - header_len) step.left

  -- ---- the bytes before and after the step

  payload_same : (k : ℕ) → k ≢ step.header.place.at + 3 → 40 ≤ k → slice_index q.payload (k - 40) ≡ slice_index p.payload (k - 40)
  payload_same k other far =
      let start = step.lies.behind_header in
      let n : ℕ = step.header.place.at + segments_left_at - header_len in
      let apart : k - 40 ≡ n → ⊥ = λ e. other (omega arith) in
      ap (λ xs. slice_index xs (k - 40)) step.payload ∙ get_or-set_other p.payload n (k - 40) step.left 0 apart

  payload_stepped : slice_index p.payload (step.header.place.at + segments_left_at - header_len)
      ≡ slice_index q.payload (step.header.place.at + segments_left_at - header_len) + 1
  payload_stepped =
      let start = step.lies.behind_header in
      let within = step.lies.within in
      let least = step.lies.least in
      let n : ℕ = step.header.place.at + segments_left_at - header_len in
      let set : slice_index q.payload n ≡ step.left =
      ap (λ xs. slice_index xs n) step.payload ∙ get_or-set_same p.payload n step.left 0 (omega arith) in
      sym (lies_at p step.header 3 step.lies (omega arith)) ∙ step.was_left ∙ ap (λ k. k + 1) (sym set)

  bytes_stepped : slice_index (spelling p) (step.header.place.at + segments_left_at)
      ≡ slice_index (spelling q) (step.header.place.at + segments_left_at) + 1
  bytes_stepped =
      let start = step.lies.behind_header in
      let n : ℕ = step.header.place.at + segments_left_at - header_len in
      let sum : 40 + n ≡ step.header.place.at + segments_left_at = omega arith in
      ap (slice_index (spelling p)) (sym sum) ∙ spelling_payload p n ∙ payload_stepped
      ∙ ap (λ k. k + 1) (sym (spelling_payload q n) ∙ ap (slice_index (spelling q)) sum)

  steps_bytes : ChangesFewBytes (spelling p) (spelling q)
  steps_bytes =
      let class : q.traffic_class ≡ p.traffic_class = ap (λ (x : Packet). x.traffic_class) step.others in
      let label : q.flow_label ≡ p.flow_label = ap (λ (x : Packet). x.flow_label) step.others in
      let next : q.next_header ≡ p.next_header = ap (λ (x : Packet). x.next_header) step.others in
      let source : q.source ≡ p.source = ap (λ (x : Packet). x.source) step.others in
      let len = step_length in
      let start = step.lies.behind_header in
      let within = step.lies.within in
      let least = step.lies.least in
      let before = length_spelling p in
      let after = length_spelling q in
      record {
        place = step.header.place.at + segments_left_at;
        behind_header = omega arith;
        within = omega arith;
        same_length = after ∙ ap (λ n. 40 + n) len ∙ sym before;
        hop_limit = spelling_hop_limit p ∙ step.hop_limit ∙ ap (λ n. n + 1) (sym (spelling_hop_limit q));
        segments_left = bytes_stepped;
        same = λ k not_seven not_there side. spelling_agrees p q class label next source len k not_seven side
            (payload_same k not_there);
      }

-- but for the hop limit, Segments Left and the destination all bytes are as they were
pub at_sid_bytes : (s : SidEntry) (allow : List ℕ) (p q : Packet) → TakesWhole s p → s.psp ≡ false → s.usp ≡ false
    → at_sid s allow p ≡ Onward q → ChangesFewBytes (spelling p) (spelling q)
at_sid_bytes s allow p q takes no_psp no_usp e = steps_bytes s p q (at_sid_steps s allow p q takes no_psp no_usp e)

-- ---- what is exposed

-- what a SID exposes stands in the payload at the upper layer
pub at_sid_exposes : (s : SidEntry) (allow : List ℕ) (p : Packet) (family : Family) (bytes : List ℕ)
    → at_sid s allow p ≡ Exposed family bytes → ExposesFrom s p family bytes
at_sid_exposes s allow p family bytes e = let P : Endpoint → Type 0 = λ x. AtSid s p x in subst P e (at_sid_is s p allow)

-- its bytes are bytes of the packet
pub at_sid_exposed_bytes : (s : SidEntry) (allow : List ℕ) (p : Packet) (family : Family) (bytes : List ℕ) → IsSpellable p
    → at_sid s allow p ≡ Exposed family bytes → All (λ b. b < 2 ^ 8) bytes
at_sid_exposed_bytes s allow p family bytes ok e =
    let x = at_sid_exposes s allow p family bytes e in
    let Q : List ℕ → Type 0 = λ xs. All (λ b. b < 2 ^ 8) xs in
    subst Q (sym x.inside) (All-drop (λ b. b < 2 ^ 8) (x.place.at - header_len) p.payload ok.payload)

pub at_sid_content : (s : SidEntry) (allow : List ℕ) (p : Packet) (family : Family) (bytes : List ℕ) → IsSpellable p
    → at_sid s allow p ≡ Exposed family bytes → IsContent (read_as family bytes)
at_sid_content s allow p family bytes ok e = read_as_is_content family bytes (at_sid_exposed_bytes s allow p family bytes ok e)

pub at_sid_exposed_packet : (s : SidEntry) (allow : List ℕ) (p q : Packet) (family : Family) (bytes : List ℕ) → IsSpellable p
    → at_sid s allow p ≡ Exposed family bytes → read_as family bytes ≡ V6 q → bytes ≡ spelling q ++ drop (length (spelling q)) bytes
at_sid_exposed_packet s allow p q family bytes ok e reads =
    read_as_spelled family bytes q (at_sid_exposed_bytes s allow p family bytes ok e) reads

pub at_sid_exposed_packet4 : (s : SidEntry) (allow : List ℕ) (p : Packet) (q : Packet4) (family : Family) (bytes : List ℕ) → IsSpellable p
    → at_sid s allow p ≡ Exposed family bytes → read_as family bytes ≡ V4 q → bytes ≡ spelling4 q ++ drop (length (spelling4 q)) bytes
at_sid_exposed_packet4 s allow p q family bytes ok e reads =
    read_as_spelled4 family bytes q (at_sid_exposed_bytes s allow p family bytes ok e) reads

pub at_sid_exposed_back : (s : SidEntry) (allow : List ℕ) (p : Packet) (family : Family) (bytes : List ℕ) → IsSpellable p
    → at_sid s allow p ≡ Exposed family bytes → read_as family (bytes_of (read_as family bytes)) ≡ read_as family bytes
at_sid_exposed_back s allow p family bytes ok e = read_as_bytes_of family bytes (at_sid_exposed_bytes s allow p family bytes ok e)

-- ---- what is delivered, and the place of a fault

-- a packet that is delivered by a SID without USP is as it was
pub at_sid_delivered : (s : SidEntry) (allow : List ℕ) (p q : Packet) → s.usp ≡ false → at_sid s allow p ≡ Delivered q → q ≡ p
at_sid_delivered s allow p q no_usp e = let P : Endpoint → Type 0 = λ x. AtSid s p x in subst P e (at_sid_is s p allow) no_usp

-- the place of a fault lies in the packet or at its end
pub at_sid_place : (s : SidEntry) (allow : List ℕ) (p : Packet) (reason : Reason) (at : ℕ) → at_sid s allow p ≡ Refused reason at
    → at ≤ header_len + length p.payload
at_sid_place s allow p reason at e = let P : Endpoint → Type 0 = λ x. AtSid s p x in subst P e (at_sid_is s p allow)

-- ---- what is so of each outcome at an address

abbrev AtAddress : Packet → Endpoint → Type 0
AtAddress p (Onward q) = ⊥
AtAddress p (Exposed family bytes) = ⊥
AtAddress p (Delivered q) = q ≡ p
AtAddress p (Refused reason at) = at ≤ header_len + length p.payload

module _ (p : Packet) where
  address_routing_by : (h : Header) → LiesIn p h → (rest : Endpoint) → (IsPassed unknown_routing h → AtAddress p rest) → (none : Bool)
      → (segments_left h == 0) ≡ none
      → AtAddress p (if none then rest else Refused reasons.UnknownRouting (h.place.at + routing_type_at))
  address_routing_by h lies rest more true en = more (λ x. rw en refl)
  address_routing_by h lies rest more false en =
      let within = lies.within in
      let least = lies.least in
      omega arith

  address_header_is : (h : Header) → IsReached (IsPassed at_address_header) (chain_of p).headers h → (rest : Endpoint)
      → (IsPassed at_address_header h → AtAddress p rest) → AtAddress p (at_address_header h rest)
  unfolding chain_at
  address_header_is h reached rest more =
      let lies = reached_lies (IsPassed at_address_header) p (start_of p) h (omega arith) reached in
      let stands = reached_stands (IsPassed at_address_header) p (start_of p) h (start_stands p) reached in
      let within = lies.within in
      by_kind unknown_routing h p (AtAddress p) rest lies stands more (λ reason at below. omega arith)
      (λ other same. address_routing_by h lies rest (λ passed. more (λ x. same x ∙ passed x)) (segments_left h == 0) refl)

  address_end_is : (end : ChainEnd) → StandsIn p (place_of end) → AtAddress p (at_address_end p end)
  address_end_is (Upper place) stands = refl
  address_end_is (Cut place) stands = stands.within

  at_address_is : AtAddress p (at_address p)
  at_address_is =
      over_reached at_address_header (IsPassed at_address_header) (AtAddress p) (chain_of p).headers (at_address_end p (chain_of p).end)
      (λ passed. address_end_is (chain_of p).end (end_stands p))
      (λ h rest reached more. address_header_is h reached rest more)

pub at_address_delivered : (p q : Packet) → at_address p ≡ Delivered q → q ≡ p
at_address_delivered p q e = let P : Endpoint → Type 0 = λ x. AtAddress p x in subst P e (at_address_is p)

pub at_address_place : (p : Packet) (reason : Reason) (at : ℕ) → at_address p ≡ Refused reason at → at ≤ header_len + length p.payload
at_address_place p reason at e = let P : Endpoint → Type 0 = λ x. AtAddress p x in subst P e (at_address_is p)

-- at an address no packet goes on, and none is exposed
pub at_address_not_onward : (p q : Packet) → at_address p ≡ Onward q → ⊥
at_address_not_onward p q e = let P : Endpoint → Type 0 = λ x. AtAddress p x in subst P e (at_address_is p)

pub at_address_not_exposed : (p : Packet) (family : Family) (bytes : List ℕ) → at_address p ≡ Exposed family bytes → ⊥
at_address_not_exposed p family bytes e = let P : Endpoint → Type 0 = λ x. AtAddress p x in subst P e (at_address_is p)
