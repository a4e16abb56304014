-- A segment routing header written over its entries.
use Rattle.std.proofs.Common.{◌≡◌, ℕ, ◌+◌, ◌-◌, ◌*◌, ◌/◌, ◌^◌, ◌<◌, ◌≤◌, List, [], ◌∷◌, ◌++◌, length, take, drop, slice_index, get_or, All, flat_map, sym, ap, subst, ◌∙◌, arith}
use Rattle.std.proofs.lemmas.List.{append-nil, append_assoc, length-append, length-take-le, take_at, drop_all, reverse-reverse, map_more, flat_map_more}
use Rattle.v6_addr.specs.declared.address.Addr.{Addr}
use Rattle.srv6_rules.specs.Behaviours.{ipv6_inside}
use Rattle.srv6_rules.specs.Packet.{two_bytes, address_bytes, address_number}
use Rattle.srv6_rules.specs.Srh.{Srh, srh_spelling, entries_of, entry_of, tlv_bytes}
use Rattle.srv6_rules.specs.SrhTerms.{IsSrhSpellable}
use Rattle.srv6_rules.specs.Encapsulation.{Encapsulation, segment_list, segment_routing_of}
use Rattle.srv6_rules.proofs.PublicLaws.{length_address_bytes, all_address_bytes, entry_at, length_entries}
use Rattle.std.proofs.lemmas.List.Elements.{All-nil, All-append}
use Rattle.srh_codec.specs.Writing.{numbers_of, header_over}

-- the header over entries, field by field
abbrev over : ℕ → ℕ → List ℕ → Srh
over next_header left entries =
    record {
      next_header = next_header;
      extension_len = 2 * length entries;
      segments_left = left;
      last_entry = length entries - 1;
      flags = 0;
      tag = 0;
      body = flat_map address_bytes entries;
    }

header_over_law : (next_header left : ℕ) (entries : List ℕ) → header_over next_header left entries ≡ over next_header left entries
header_over_law next_header left entries = ap (over next_header left) (reverse-reverse entries)

pub header_bytes_law : (next_header left : ℕ) (entries : List ℕ)
    → srh_spelling (header_over next_header left entries)
    ≡ next_header ∷ (2 * length entries) ∷ 4 ∷ left ∷ (length entries - 1) ∷ 0 ∷ 0 ∷ 0 ∷ flat_map address_bytes entries
unfolding two_bytes
header_bytes_law next_header left entries = ap srh_spelling (header_over_law next_header left entries)

pub header_entries : (next_header left : ℕ) (entries : List ℕ) → entries_of (header_over next_header left entries) ≡ length entries
header_entries next_header left entries =
    let half : 2 * length entries / 2 ≡ length entries = omega arith in
    ap entries_of (header_over_law next_header left entries) ∙ half

pub header_entry : (next_header left : ℕ) (entries : List ℕ) (i : ℕ) → i < length entries → All (λ a. a < 2 ^ 128) entries
    → entry_of (header_over next_header left entries) i ≡ slice_index entries i
header_entry next_header left entries i below all =
    ap (λ s. entry_of s i) (header_over_law next_header left entries)
    ∙ ap (λ xs. address_number (drop (16 * i) xs)) (sym (append-nil (flat_map address_bytes entries)))
    ∙ entry_at entries [] i below all

pub header_tlvs : (next_header left : ℕ) (entries : List ℕ) → 0 < length entries → tlv_bytes (header_over next_header left entries) ≡ []
header_tlvs next_header left entries some =
    ap tlv_bytes (header_over_law next_header left entries)
    ∙ drop_all (16 * (length entries - 1 + 1)) (flat_map address_bytes entries) (omega (arith, length_entries entries))

pub header_encapsulation : (e : Encapsulation) (left : ℕ) → header_over ipv6_inside left (segment_list e) ≡ segment_routing_of e left
header_encapsulation e left = header_over_law ipv6_inside left (segment_list e)

all_entries : (entries : List ℕ) → All (λ b. b < 2 ^ 8) (flat_map address_bytes entries)
all_entries [] = All-nil (λ b. b < 2 ^ 8)
all_entries (a ∷ entries) =
    All-append (λ b. b < 2 ^ 8) (address_bytes a) (flat_map address_bytes entries) (all_address_bytes a) (all_entries entries)

pub header_spellable : (next_header left : ℕ) (entries : List ℕ) → next_header < 2 ^ 8 → left < 2 ^ 8 → length entries ≤ 127
    → IsSrhSpellable (header_over next_header left entries)
header_spellable next_header left entries next small most =
    let P : Srh → Type 0 = λ s. IsSrhSpellable s in
    let len : length (flat_map address_bytes entries) ≡ 8 * (2 * length entries) = omega (arith, length_entries entries) in
    let fields : IsSrhSpellable (over next_header left entries) = record {
      next_header = next;
      extension_len = omega arith;
      segments_left = small;
      last_entry = omega arith;
      flags = omega arith;
      tag = omega arith;
      body_len = len;
      body = all_entries entries;
    } in
    subst P (sym (header_over_law next_header left entries)) fields

-- ---- entries written one after the other

-- one entry more is written
pub entries_more : (at k : ℕ) (out buf post rest : List ℕ) (entries : List Addr) (d : Addr) → at + 16 ≤ length out
    → take at out ≡ flat_map address_bytes (numbers_of (take k entries))
    → buf ≡ address_bytes (get_or entries k d).value ++ rest → k < length entries
    → take (at + 16) (take at out ++ (buf ++ post)) ≡ flat_map address_bytes (numbers_of (take (k + 1) entries))
entries_more at k out buf post rest entries d room done is below =
    let front : List ℕ = take at out in
    let v : ℕ = (get_or entries k d).value in
    let one : List ℕ = address_bytes v in
    let long : length (front ++ one) ≡ at + 16 =
    omega (arith, length-append front one, length-take-le at out (omega arith), length_address_bytes v) in
    let laid : front ++ (buf ++ post) ≡ (front ++ one) ++ (rest ++ post) =
    ap (λ xs. front ++ (xs ++ post)) is ∙ ap (λ xs. front ++ xs) (append_assoc one rest post)
    ∙ sym (append_assoc front one (rest ++ post)) in
    let more : numbers_of (take (k + 1) entries) ≡ numbers_of (take k entries) ++ v ∷ [] =
    map_more (λ (a : Addr). a.value) entries k d below in
    ap (take (at + 16)) laid
    ∙ take_at (front ++ one) (rest ++ post) (at + 16) long
    ∙ ap (λ xs. xs ++ one) done
    ∙ flat_map_more address_bytes [] (numbers_of (take k entries)) v
    ∙ ap (flat_map address_bytes) (sym more)
