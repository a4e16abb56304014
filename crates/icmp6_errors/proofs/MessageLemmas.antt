-- An error written part by part.
use Rattle.std.proofs.Common.{◌≡◌, ℕ, ◌+◌, ◌-◌, true, false, List, [], ◌∷◌, ◌++◌, length, Some, None, refl, sym, ap, ◌∙◌, arith}
use Rattle.std.proofs.lemmas.List.{append_assoc, length-append}
use Rattle.srv6_rules.specs.declared.icmp.IcmpKind.{IcmpKind}
use Rattle.srv6_rules.specs.Packet.{Packet, IsSpellable, spelling, header_spelling, first_word, two_bytes, four_bytes, address_bytes}
use Rattle.srv6_rules.specs.Checksum.{all_ones, pseudo_header}
use Rattle.srv6_rules.specs.ChecksumTerms.{word_sum, carried}
use Rattle.srv6_rules.specs.Errors.{last_word_of, is_unanswered, message_head, quote_of, icmp_packet, error_checksum, error_about, error_packet}
use Rattle.srv6_rules.specs.ErrorsTerms.{IsKind}
use Rattle.srv6_rules.proofs.PublicLaws.{length_two_bytes, length_four_bytes, error_checksum_parts}

-- ---- the IPv6 header

pub header_written : (out o1 o2 o3 o4 o5 two one other message : List ℕ) (source destination len : ℕ) → length message ≡ len
    → o1 ≡ out ++ 96 ∷ 0 ∷ 0 ∷ 0 ∷ []
    → two ≡ two_bytes len → o2 ≡ o1 ++ two
    → o3 ≡ o2 ++ 58 ∷ 64 ∷ []
    → one ≡ address_bytes source → o4 ≡ o3 ++ one
    → other ≡ address_bytes destination → o5 ≡ o4 ++ other
    → o5 ≡ out ++ header_spelling (icmp_packet source destination message)
unfolding header_spelling four_bytes first_word
header_written out o1 o2 o3 o4 o5 two one other message source destination len long e1 f2 e2 e3 f4 e4 f5 e5 =
    let parts : o5 ≡ ((((out ++ 96 ∷ 0 ∷ 0 ∷ 0 ∷ []) ++ two_bytes len) ++ 58 ∷ 64 ∷ []) ++ address_bytes source)
    ++ address_bytes destination = cc in
    let joined : ((((out ++ 96 ∷ 0 ∷ 0 ∷ 0 ∷ []) ++ two_bytes len) ++ 58 ∷ 64 ∷ []) ++ address_bytes source)
    ++ address_bytes destination
    ≡ out ++ (96 ∷ 0 ∷ 0 ∷ 0 ∷ (two_bytes len ++ (58 ∷ 64 ∷ (address_bytes source ++ address_bytes destination)))) =
    simp append_assoc in
    parts ∙ joined
    ∙ ap (λ n. out ++ (96 ∷ 0 ∷ 0 ∷ 0 ∷ (two_bytes n ++ (58 ∷ 64 ∷ (address_bytes source ++ address_bytes destination)))))
    (sym long)

-- ---- the message

pub length_head : (kind : IcmpKind) (checksum : ℕ) → length (message_head kind checksum) ≡ 8
length_head kind checksum =
    let two = length_two_bytes checksum in
    let four = length_four_bytes (last_word_of kind) in
    let both = length-append (two_bytes checksum) (four_bytes (last_word_of kind)) in
    omega arith

pub length_message : (kind : IcmpKind) (checksum : ℕ) (quote : List ℕ) → length (message_head kind checksum ++ quote) ≡ 8 + length quote
length_message kind checksum quote =
    let head = length_head kind checksum in
    let both = length-append (message_head kind checksum) quote in
    omega arith

module _ (p : Packet) (kind : IcmpKind) (from : ℕ) (h : IsSpellable p) (fits : IsKind kind)
    (quote : List ℕ) (quoted : quote ≡ quote_of p) where
  pub checksum_written : (checksum len sum : ℕ) → len ≡ 8 + length quote
      → sum ≡ word_sum (pseudo_header from p.source len 58) + word_sum (message_head kind 0) + word_sum quote
      → checksum ≡ all_ones - carried sum → checksum ≡ error_checksum p kind from
  checksum_written checksum len sum long summed is =
      let lens : len ≡ 8 + length (quote_of p) = long ∙ ap (λ xs. 8 + length xs) quoted in
      let pseudo : word_sum (pseudo_header from p.source len 58)
      ≡ word_sum (pseudo_header from p.source (8 + length (quote_of p)) 58) =
      ap (λ n. word_sum (pseudo_header from p.source n 58)) lens in
      let words : word_sum quote ≡ word_sum (quote_of p) = ap word_sum quoted in
      let total : sum ≡ word_sum (pseudo_header from p.source (8 + length (quote_of p)) 58)
      + (word_sum (message_head kind 0) + word_sum (quote_of p)) = omega arith in
      is ∙ ap (λ n. all_ones - carried n) total ∙ sym (error_checksum_parts p kind from h fits)

  pub error_written : (out o1 o2 o3 : List ℕ) (checksum len : ℕ) → checksum ≡ error_checksum p kind from → len ≡ 8 + length quote
      → out ≡ []
      → ((message : List ℕ) → length message ≡ len → o1 ≡ out ++ header_spelling (icmp_packet from p.source message))
      → o2 ≡ o1 ++ message_head kind checksum → o3 ≡ o2 ++ quote → o3 ≡ spelling (error_about p kind from)
  unfolding error_about
  error_written out o1 o2 o3 checksum len is long empty headed e2 e3 =
      let message : List ℕ = message_head kind checksum ++ quote in
      let header : List ℕ = header_spelling (icmp_packet from p.source message) in
      let first : o1 ≡ header = headed message (length_message kind checksum quote ∙ sym long) ∙ ap (λ xs. xs ++ header) empty in
      let same : message ≡ message_head kind (error_checksum p kind from) ++ quote_of p =
      ap (λ n. message_head kind n ++ quote) is ∙ ap (λ xs. message_head kind (error_checksum p kind from) ++ xs) quoted in
      e3 ∙ ap (λ xs. xs ++ quote) (e2 ∙ ap (λ xs. xs ++ message_head kind checksum) first)
      ∙ append_assoc header (message_head kind checksum) quote
      ∙ ap (λ xs. header_spelling (icmp_packet from p.source xs) ++ xs) same

-- ---- whether it is made

pub error_absent : (p : Packet) (kind : IcmpKind) (from : ℕ) → is_unanswered p kind ≡ true → error_packet p kind from ≡ None
unfolding error_packet
error_absent p kind from is = rw is refl

pub error_present : (p : Packet) (kind : IcmpKind) (from : ℕ) → is_unanswered p kind ≡ false
    → error_packet p kind from ≡ Some (error_about p kind from)
unfolding error_packet
error_present p kind from is = rw is refl
