-- Headers put in front of what a buffer holds.
use Rattle.std.proofs.Common.{◌≡◌, ℕ, ◌+◌, ◌-◌, ◌*◌, Bool, false, ◌==◌, List, [], ◌∷◌, ◌++◌, length, map, reverse, slice_index, sym, ap, ◌∙◌, arith, length-append}
use Rattle.std.proofs.lemmas.Bool.{eqb-false}
use Rattle.std.proofs.lemmas.List.{append_assoc}
use Rattle.v6_addr.specs.declared.address.Addr.{Addr}
use Rattle.srv6_rules.specs.declared.policy.Policy.{Policy}
use Rattle.srv6_rules.specs.declared.family.Family.{Family}
use Rattle.srv6_rules.specs.Packet.{Packet, header_spelling, spelling, first_word, two_bytes, four_bytes, address_bytes}
use Rattle.srv6_rules.specs.Srh.{srh_spelling}
use Rattle.srv6_rules.specs.Chain.{routing}
use Rattle.srv6_rules.specs.Policies.{inner_kind, outer_by}
use Rattle.srv6_rules.proofs.PublicLaws.{length_two_bytes, length_four_bytes, length_address_bytes}
use Rattle.srh_codec.specs.Writing.{numbers_of, header_over}
use Rattle.pkt_buf.specs.BufferView.{Buffer}
use Rattle.pkt_buf.proofs.PublicLaws.{same_buffer}
use Rattle.policy_encap.specs.PolicyHeaders.{listed, framed}
use Rattle.policy_encap.proofs.RoundLemmas.{round_routed}

-- a buffer with bytes put in front of its own
abbrev pub put : List ℕ → Buffer → Buffer
put bytes b = record { bytes = bytes ++ b.bytes; front = b.front - length bytes }

put_put : (first second : List ℕ) (b : Buffer) → put first (put second b) ≡ put (first ++ second) b
put_put first second b =
    same_buffer (put (first ++ second) b) (first ++ (second ++ b.bytes)) (b.front - length second - length first)
    (sym (append_assoc first second b.bytes)) (omega (arith, length-append first second))

-- an outer header, field by field from the last
pub outer_put : (policy : Policy) (next_header len word to : ℕ) (old b1 b2 b3 b4 b5 : Buffer) (four two one other : List ℕ)
    → length old.bytes ≡ len
    → word ≡ 1610612736 + policy.traffic_class * 1048576 + policy.flow_label
    → to ≡ slice_index (map (λ (a : Addr). a.value) policy.segments) 0
    → other ≡ address_bytes to → b1 ≡ put other old
    → one ≡ address_bytes policy.source.value → b2 ≡ put one b1
    → b3 ≡ put (next_header ∷ policy.hop_limit ∷ []) b2
    → two ≡ two_bytes len → b4 ≡ put two b3
    → four ≡ four_bytes word → b5 ≡ put four b4
    → b5 ≡ record { bytes = spelling (framed policy next_header old.bytes); front = old.front - 40 }
unfolding header_spelling first_word
outer_put policy next_header len word to old b1 b2 b3 b4 b5 four two one other long w t f1 e1 f2 e2 e3 f4 e4 f5 e5 =
    let kinds : List ℕ = next_header ∷ policy.hop_limit ∷ [] in
    let header : List ℕ = four ++ (two ++ (kinds ++ (one ++ other))) in
    let laid : b5 ≡ put header old =
    e5 ∙ ap (put four) (e4 ∙ ap (put two) (e3 ∙ ap (put kinds) (e2 ∙ ap (put one) e1 ∙ put_put one other old)
    ∙ put_put kinds (one ++ other) old) ∙ put_put two (kinds ++ (one ++ other)) old)
    ∙ put_put four (two ++ (kinds ++ (one ++ other))) old in
    let number : ℕ = 1610612736 + policy.traffic_class * 1048576 + policy.flow_label in
    let bytes : ℕ → ℕ → ℕ → List ℕ = λ n k a. four_bytes n ++ (two_bytes k ++ (next_header ∷ policy.hop_limit ∷
    (address_bytes policy.source.value ++ address_bytes a))) in
    let fields : header ≡ bytes word len to = cc in
    let is : header ≡ header_spelling (framed policy next_header old.bytes) =
    fields ∙ ap (λ n. bytes n len to) w ∙ ap (λ k. bytes number k to) (sym long) ∙ ap (bytes number (length old.bytes)) t in
    let size : length header ≡ 40 =
    ap length fields ∙ simp (length-append, length_four_bytes, length_two_bytes, length_address_bytes) in
    laid
    ∙ same_buffer (record { bytes = spelling (framed policy next_header old.bytes); front = old.front - 40 })
    (header ++ old.bytes) (old.front - length header) (ap (λ xs. xs ++ old.bytes) is) (ap (λ n. old.front - n) size)

-- the segment routing header of a policy, and what it is put in front of, are the outer packet's payload
pub routed : (policy : Policy) (reduced : Bool) (inner : Family) (bytes : List ℕ) (kind left : ℕ) (list segments : List Addr)
    → list ≡ listed policy reduced → (length list == 0) ≡ false → kind ≡ inner_kind inner
    → segments ≡ policy.segments → left ≡ length segments - 1
    → framed policy routing (srh_spelling (header_over kind left (reverse (numbers_of list))) ++ bytes)
    ≡ outer_by policy reduced inner bytes
routed policy reduced inner bytes kind left list segments is some kinds all lefts =
    let more = eqb-false (length list) 0 some in
    let count : length list ≡ length (listed policy reduced) = ap length is in
    let round : ℕ → ℕ → List Addr → Packet =
    λ k l xs. framed policy routing (srh_spelling (header_over k l (reverse (numbers_of xs))) ++ bytes) in
    ap (λ k. round k left list) kinds
    ∙ ap (λ n. round (inner_kind inner) n list) (lefts ∙ ap (λ (xs : List Addr). length xs - 1) all)
    ∙ ap (round (inner_kind inner) (length policy.segments - 1)) is
    ∙ sym (round_routed policy reduced inner bytes (omega arith))
