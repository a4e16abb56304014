-- A generated packet written part by part
use Rattle.std.proofs.Common.{◌≡◌, ℕ, ◌+◌, ◌%◌, ◌^◌, ◌<◌, List, [], ◌∷◌, ◌++◌, length, sym, ap, ◌∙◌, arith, append_assoc}
use Rattle.std.specs.Prelude.{replicate}
use Rattle.std.proofs.lemmas.List.{length-replicate}
use Rattle.std.proofs.lemmas.List.Elements.{All-replicate}
use Rattle.srv6_rules.specs.Packet.{IsSpellable, spelling, header_spelling, first_word, two_bytes, four_bytes, address_bytes}
use Rattle.net_generator.specs.GeneratedPackets.{generated_packet}

pub packet_written : (k : ℕ) (slot o1 o2 o3 o4 o5 o6 two one other zeros : List ℕ)
    → slot ≡ [] → o1 ≡ slot ++ 96 ∷ 0 ∷ 0 ∷ 0 ∷ []
    → two ≡ two_bytes (k % 64) → o2 ≡ o1 ++ two
    → o3 ≡ o2 ++ 59 ∷ 64 ∷ []
    → one ≡ address_bytes (0x2001_0db8_0001_0000_0000_0000_0000_0000 + k) → o4 ≡ o3 ++ one
    → other ≡ address_bytes 0x2001_0db8_0002_0000_0000_0000_0000_0001 → o5 ≡ o4 ++ other
    → zeros ≡ replicate (k % 64) 0 → o6 ≡ o5 ++ zeros
    → o6 ≡ spelling (generated_packet k)
unfolding generated_packet header_spelling four_bytes first_word
packet_written k slot o1 o2 o3 o4 o5 o6 two one other zeros e0 e1 f2 e2 e3 f4 e4 f5 e5 f6 e6 =
    let from = address_bytes (0x2001_0db8_0001_0000_0000_0000_0000_0000 + k) in
    let to = address_bytes 0x2001_0db8_0002_0000_0000_0000_0000_0001 in
    let payload : List ℕ = replicate (k % 64) 0 in
    let parts : o6 ≡ (((((([] ++ 96 ∷ 0 ∷ 0 ∷ 0 ∷ []) ++ two_bytes (k % 64)) ++ 59 ∷ 64 ∷ []) ++ from) ++ to) ++ payload) = cc in
    let joined : (((((([] ++ 96 ∷ 0 ∷ 0 ∷ 0 ∷ []) ++ two_bytes (k % 64)) ++ 59 ∷ 64 ∷ []) ++ from) ++ to) ++ payload)
    ≡ (96 ∷ 0 ∷ 0 ∷ 0 ∷ (two_bytes (k % 64) ++ (59 ∷ 64 ∷ (from ++ to)))) ++ payload = simp append_assoc in
    parts ∙ joined
    ∙ ap (λ n. (96 ∷ 0 ∷ 0 ∷ 0 ∷ (two_bytes n ++ (59 ∷ 64 ∷ (from ++ to)))) ++ payload) (sym (length-replicate (k % 64) 0))

pub packet_spellable : (k : ℕ) → k < 2 ^ 16 → IsSpellable (generated_packet k)
unfolding generated_packet
packet_spellable k small =
    let len : length {A = ℕ} (replicate (k % 64) 0) ≡ k % 64 = length-replicate (k % 64) 0 in
    record {
      traffic_class = omega arith;
      flow_label = omega arith;
      next_header = omega arith;
      hop_limit = omega arith;
      source = omega arith;
      destination = omega arith;
      payload_len = omega arith;
      payload = All-replicate (λ b. b < 2 ^ 8) (k % 64) 0 (omega arith);
    }
