-- What stands at the front of bytes that are a block of good form, by its type and its body.
use Rattle.std.proofs.Common.{◌≡◌, ◌⊎◌, ℕ, ◌+◌, ◌*◌, ◌/◌, ◌%◌, ◌-◌, ◌^◌, ◌<◌, ◌≤◌, Bool, List, [], ◌∷◌, ◌++◌, length, take, drop, refl, sym, ap, subst, ◌∙◌, arith, length-drop, inl, inr}
use Rattle.std.proofs.lemmas.Bool.{cases_eq, cases_lt}
use Rattle.std.proofs.lemmas.List.{take-append-drop, length-take-le}
use Rattle.pcap_io.specs.Numbers.{number_of, number_bytes}
use Rattle.pcap_io.proofs.CaptureNumberLemmas.{number_of_below}
use Rattle.pcap_io.proofs.FrameLemmas.{piece, piece_at}
use Rattle.pcapng_theory.specs.NgBlocks.{bytes_of_block, FitsBlock, section_header_block, interface_description_block, simple_packet_block, enhanced_packet_block, byte_order_magic, SectionHeader, section_header_body, section_header_bytes, FitsSectionHeader, InterfaceDescription, interface_description_body, IsPadded, enhanced_packet_fields, EnhancedPacket, enhanced_packet_body, FitsEnhancedPacket, SimplePacket, simple_packet_body, FitsSimplePacket, captured_length, Block, Interface, Enhanced, Simple, block_bytes, IsOfFirst, Fits}
use Rattle.pcapng_theory.specs.NgEndings.{Ending, BadBlock, BadVersion, NoInterface, TooManyPackets, HoldsBlock, IsPacket, EndsAs}
use Rattle.pcapng_theory.proofs.Fronts.{AreBytes, bytes_behind, number_below}

-- ---- the cases

pub record AtSection (bytes : List ℕ) : Type 0 where
  pub header : SectionHeader
  pub fits : FitsSectionHeader header
  pub version : header.major ≡ 1
  pub rest : List ℕ
  pub spelled : bytes ≡ section_header_bytes header ++ rest

pub record AtBlock (little : Bool) (interfaces : List InterfaceDescription) (packets : ℕ) (bytes : List ℕ) : Type 0 where
  pub block : Block
  pub fits : Fits little interfaces block
  pub few : IsPacket block → packets < 65536
  pub rest : List ℕ
  pub spelled : bytes ≡ block_bytes little block ++ rest

pub record AtEnd (little : Bool) (interfaces : List InterfaceDescription) (packets : ℕ) (bytes : List ℕ) : Type 0 where
  pub ending : Ending
  pub ends : EndsAs little interfaces packets bytes ending

abbrev pub FrontCase : Bool → List InterfaceDescription → ℕ → List ℕ → Type 0
FrontCase little interfaces packets bytes =
    AtSection bytes ⊎ (AtBlock little interfaces packets bytes ⊎ AtEnd little interfaces packets bytes)

-- ---- numbers in a body

two_below : (little : Bool) (at : ℕ) (bytes : List ℕ) → AreBytes bytes → number_of little 2 (drop at bytes) < 2 ^ 16
two_below little at bytes all = number_of_below little 2 (drop at bytes) (bytes_behind at bytes all)

eight_below : (little : Bool) (at : ℕ) (bytes : List ℕ) → AreBytes bytes → number_of little 8 (drop at bytes) < 2 ^ 64
eight_below little at bytes all = number_of_below little 8 (drop at bytes) (bytes_behind at bytes all)

-- a body by another name
fits_as : (kind : ℕ) (body other : List ℕ) → body ≡ other → FitsBlock kind body → FitsBlock kind other
fits_as kind body other is fits = subst (λ b. FitsBlock kind b) is fits

spelled_as : (little : Bool) (kind : ℕ) (body other rest bytes : List ℕ) → body ≡ other
    → bytes ≡ bytes_of_block little kind body ++ rest → bytes ≡ bytes_of_block little kind other ++ rest
spelled_as little kind body other rest bytes is spelled =
    subst (λ b. bytes ≡ bytes_of_block little kind b ++ rest) is spelled

holds_as : (little : Bool) (kind : ℕ) (body other bytes : List ℕ) → body ≡ other → HoldsBlock little kind body bytes
    → HoldsBlock little kind other bytes
holds_as little kind body other bytes is holds = subst (λ b. HoldsBlock little kind b bytes) is holds

-- ---- a section's header

abbrev header_of : Bool → List ℕ → SectionHeader
header_of little body =
    record {
      little = little;
      major = number_of little 2 (drop 4 body);
      minor = number_of little 2 (drop 6 body);
      section_length = number_of little 8 (drop 8 body);
      options = drop 16 body;
    }

header_body : (little : Bool) (body : List ℕ) → 16 ≤ length body → AreBytes body
    → take 4 body ≡ number_bytes little 4 byte_order_magic → body ≡ section_header_body (header_of little body)
header_body little body long all magic =
    let m = number_bytes little 4 byte_order_magic in
    let a = number_bytes little 2 (number_of little 2 (drop 4 body)) in
    let b = number_bytes little 2 (number_of little 2 (drop 6 body)) in
    sym (take-append-drop 4 body)
    ∙ ap (λ front. front ++ drop 4 body) magic
    ∙ ap (λ r. m ++ r) (piece_at little 4 2 body (omega arith) all)
    ∙ ap (λ r. m ++ (a ++ r)) (piece_at little 6 2 body (omega arith) all)
    ∙ ap (λ r. m ++ (a ++ (b ++ r))) (piece_at little 8 8 body (omega arith) all)

pub section_case : (little own : Bool) (interfaces : List InterfaceDescription) (packets : ℕ) (body bytes : List ℕ) → 16 ≤ length body
    → AreBytes body → take 4 body ≡ number_bytes own 4 byte_order_magic → HoldsBlock own section_header_block body bytes
    → FrontCase little interfaces packets bytes
section_case little own interfaces packets body bytes long all magic holds =
    let header = header_of own body in
    let is = header_body own body long all magic in
    let fits : FitsSectionHeader header = record {
      major = two_below own 4 body all;
      minor = two_below own 6 body all;
      section_length = eight_below own 8 body all;
      block = fits_as section_header_block body (section_header_body header) is holds.fits;
    } in
    let spelled = spelled_as own section_header_block body (section_header_body header) holds.behind bytes is holds.spelled in
    elim (cases_eq header.major 1) [
      | inl one ↦ inl (record { header = header; fits = fits; version = one; rest = holds.behind; spelled = spelled })
      | inr other ↦ inr (inr (record {
        ending = BadVersion;
        ends = record { header = header; fits = fits; other = other; behind = holds.behind; spelled = spelled };
      }))
    ]

-- ---- an interface description

abbrev description_of : Bool → List ℕ → InterfaceDescription
description_of little body =
    record {
      link_type = number_of little 2 body;
      reserved = number_of little 2 (drop 2 body);
      snap_len = number_of little 4 (drop 4 body);
      options = drop 8 body;
    }

description_body : (little : Bool) (body : List ℕ) → 8 ≤ length body → AreBytes body
    → body ≡ interface_description_body little (description_of little body)
description_body little body long all =
    let a = number_bytes little 2 (number_of little 2 body) in
    let b = number_bytes little 2 (number_of little 2 (drop 2 body)) in
    piece little 2 body (omega arith) all
    ∙ ap (λ r. a ++ r) (piece_at little 2 2 body (omega arith) all)
    ∙ ap (λ r. a ++ (b ++ r)) (piece_at little 4 4 body (omega arith) all)

pub interface_no_packet : (d : InterfaceDescription) → IsPacket (Interface d) → ⊥
interface_no_packet d (inl p) = let is = p.1 in cc
interface_no_packet d (inr p) = let is = p.1 in cc

pub description_case : (little : Bool) (interfaces : List InterfaceDescription) (packets : ℕ) (body bytes : List ℕ) → 8 ≤ length body
    → AreBytes body → HoldsBlock little interface_description_block body bytes → FrontCase little interfaces packets bytes
description_case little interfaces packets body bytes long all holds =
    let d = description_of little body in
    let is = description_body little body long all in
    inr (inl (record {
      block = Interface d;
      fits = record {
        link_type = two_below little 0 body all;
        reserved = two_below little 2 body all;
        snap_len = number_below little 4 body all;
        block = fits_as interface_description_block body (interface_description_body little d) is holds.fits;
      };
      few = λ packet. absurd (interface_no_packet d packet);
      rest = holds.behind;
      spelled = spelled_as little interface_description_block body (interface_description_body little d) holds.behind bytes is holds.spelled;
    }))

-- ---- packets

-- a length filled up to a multiple of 4
abbrev pub padded_length : ℕ → ℕ
padded_length n = (n + 3) / 4 * 4

padded_enough : (n len : ℕ) → n ≤ len → len % 4 ≡ 0 → padded_length n ≤ len
padded_enough n len enough whole = omega arith

-- bytes of packet data, what pads them, and what is behind: where all of these are there
module _ (captured : ℕ) (tail : List ℕ) (there : padded_length captured ≤ length tail) where
  abbrev packet_data_of : List ℕ
  packet_data_of = take captured tail

  abbrev padding_of : List ℕ
  padding_of = take (padded_length captured - captured) (drop captured tail)

  abbrev options_of : List ℕ
  options_of = drop (padded_length captured - captured) (drop captured tail)

  data_len : length packet_data_of ≡ captured
  data_len = length-take-le captured tail (omega arith)

  data_padded : IsPadded packet_data_of padding_of
  data_padded =
      let len = length-drop captured tail in
      let count = data_len in
      let pad : length padding_of ≡ padded_length captured - captured =
      length-take-le (padded_length captured - captured) (drop captured tail) (omega (arith, len)) in
      record { whole = omega arith; few = omega arith }

  data_joined : tail ≡ packet_data_of ++ (padding_of ++ options_of)
  data_joined =
      sym (take-append-drop captured tail)
      ∙ ap (λ r. packet_data_of ++ r) (sym (take-append-drop (padded_length captured - captured) (drop captured tail)))

-- a packet that may stand there, or one too many
packet_case : (little : Bool) (interfaces : List InterfaceDescription) (packets : ℕ) (bytes : List ℕ) (block : Block) (rest : List ℕ)
    → packets ≤ 65536 → IsPacket block → Fits little interfaces block → bytes ≡ block_bytes little block ++ rest
    → FrontCase little interfaces packets bytes
packet_case little interfaces packets bytes block rest within packet fits spelled = elim (cases_eq packets 65536) [
  | inl many ↦ inr (inr (record {
    ending = TooManyPackets;
    ends = record { many = many; block = block; packet = packet; fits = fits; behind = rest; spelled = spelled };
  }))
  | inr few ↦ inr (inl (record { block = block; fits = fits; few = λ is. omega arith; rest = rest; spelled = spelled }))
]

fields_body : (little : Bool) (body : List ℕ) → 20 ≤ length body → AreBytes body
    → body ≡ enhanced_packet_fields little (number_of little 4 body) (number_of little 4 (drop 4 body)) (number_of little 4 (drop 8 body))
    (number_of little 4 (drop 12 body)) (number_of little 4 (drop 16 body)) (drop 20 body)
fields_body little body long all =
    let a = number_bytes little 4 (number_of little 4 body) in
    let b = number_bytes little 4 (number_of little 4 (drop 4 body)) in
    let c = number_bytes little 4 (number_of little 4 (drop 8 body)) in
    let d = number_bytes little 4 (number_of little 4 (drop 12 body)) in
    piece little 4 body (omega arith) all
    ∙ ap (λ r. a ++ r) (piece_at little 4 4 body (omega arith) all)
    ∙ ap (λ r. a ++ (b ++ r)) (piece_at little 8 4 body (omega arith) all)
    ∙ ap (λ r. a ++ (b ++ (c ++ r))) (piece_at little 12 4 body (omega arith) all)
    ∙ ap (λ r. a ++ (b ++ (c ++ (d ++ r)))) (piece_at little 16 4 body (omega arith) all)

module _ (little : Bool) (interfaces : List InterfaceDescription) (packets : ℕ) (body bytes : List ℕ) (within : packets ≤ 65536)
    (all : AreBytes body) where
  module _ (long : 20 ≤ length body) (holds : HoldsBlock little enhanced_packet_block body bytes)
      (there : padded_length (number_of little 4 (drop 12 body)) ≤ length (drop 20 body)) where
    abbrev enhanced : EnhancedPacket
    enhanced =
        record {
          interface = number_of little 4 body;
          upper = number_of little 4 (drop 4 body);
          lower = number_of little 4 (drop 8 body);
          original = number_of little 4 (drop 16 body);
          packet_data = packet_data_of (number_of little 4 (drop 12 body)) (drop 20 body) there;
          padding = padding_of (number_of little 4 (drop 12 body)) (drop 20 body) there;
          options = options_of (number_of little 4 (drop 12 body)) (drop 20 body) there;
        }

    enhanced_body : body ≡ enhanced_packet_body little enhanced
    enhanced_body =
        let captured = number_of little 4 (drop 12 body) in
        let fields = enhanced_packet_fields little (number_of little 4 body) (number_of little 4 (drop 4 body))
        (number_of little 4 (drop 8 body)) in
        let original = number_of little 4 (drop 16 body) in
        fields_body little body long all
        ∙ ap (λ n. fields n original (drop 20 body)) (sym (data_len captured (drop 20 body) there))
        ∙ ap (λ tail. fields (length enhanced.packet_data) original tail) (data_joined captured (drop 20 body) there)

    enhanced_fits : FitsEnhancedPacket little enhanced
    enhanced_fits =
        record {
          interface = number_below little 0 body all;
          upper = number_below little 4 body all;
          lower = number_below little 8 body all;
          original = number_below little 16 body all;
          padding = data_padded (number_of little 4 (drop 12 body)) (drop 20 body) there;
          block = fits_as enhanced_packet_block body (enhanced_packet_body little enhanced) enhanced_body holds.fits;
        }

    enhanced_whole : FrontCase little interfaces packets bytes
    enhanced_whole =
        let spelled =
        spelled_as little enhanced_packet_block body (enhanced_packet_body little enhanced) holds.behind bytes enhanced_body holds.spelled in
        elim (cases_lt enhanced.interface (length interfaces)) [
          | inl known ↦
              packet_case little interfaces packets bytes (Enhanced enhanced) holds.behind within (inl (enhanced, refl))
              (enhanced_fits, known) spelled
          | inr unknown ↦ inr (inr (record {
            ending = NoInterface;
            ends = inl (record {
              packet = enhanced;
              fits = enhanced_fits;
              unknown = unknown;
              behind = holds.behind;
              spelled = spelled;
            });
          }))
        ]

  pub enhanced_case : 20 ≤ length body → HoldsBlock little enhanced_packet_block body bytes → FrontCase little interfaces packets bytes
  enhanced_case long holds =
      let captured = number_of little 4 (drop 12 body) in
      let len = length-drop 20 body in
      let padded = holds.fits.padded in
      elim (cases_lt (length (drop 20 body)) captured) [
        | inl past ↦ inr (inr (record {
          ending = BadBlock;
          ends = inr (inl (record {
            interface = number_of little 4 body;
            upper = number_of little 4 (drop 4 body);
            lower = number_of little 4 (drop 8 body);
            captured = captured;
            original = number_of little 4 (drop 16 body);
            rest = drop 20 body;
            captured_fits = number_below little 12 body all;
            block = holds_as little enhanced_packet_block body _ bytes (fields_body little body long all) holds;
            long = past;
          }));
        }))
        | inr enough ↦ enhanced_whole long holds (padded_enough captured (length (drop 20 body)) enough (omega (arith, len, padded)))
      ]

  -- a simple packet

  abbrev original_at : ℕ
  original_at = number_of little 4 body

  module _ (first : InterfaceDescription) (others : List InterfaceDescription) (described : interfaces ≡ first ∷ others)
      (long : 4 ≤ length body) (holds : HoldsBlock little simple_packet_block body bytes)
      (there : padded_length (captured_length first.snap_len original_at) ≤ length (drop 4 body)) where
    abbrev captured_at : ℕ
    captured_at = captured_length first.snap_len original_at

    abbrev simple : SimplePacket
    simple =
        record {
          original = original_at;
          packet_data = packet_data_of captured_at (drop 4 body) there;
          padding = padding_of captured_at (drop 4 body) there;
          unread = options_of captured_at (drop 4 body) there;
        }

    simple_body : body ≡ simple_packet_body little simple
    simple_body =
        piece little 4 body long all
        ∙ ap (λ tail. number_bytes little 4 original_at ++ tail) (data_joined captured_at (drop 4 body) there)

    simple_fits : FitsSimplePacket little simple
    simple_fits =
        record {
          original = number_below little 0 body all;
          padding = data_padded captured_at (drop 4 body) there;
          block = fits_as simple_packet_block body (simple_packet_body little simple) simple_body holds.fits;
        }

    simple_whole : FrontCase little interfaces packets bytes
    simple_whole =
        let first_is : IsOfFirst interfaces simple =
        subst (λ (ds : List InterfaceDescription). IsOfFirst ds simple) (sym described) (data_len captured_at (drop 4 body) there) in
        packet_case little interfaces packets bytes (Simple simple) holds.behind within (inr (simple, refl)) (simple_fits, first_is)
        (spelled_as little simple_packet_block body (simple_packet_body little simple) holds.behind bytes simple_body holds.spelled)

  pub simple_by : (ds : List InterfaceDescription) → interfaces ≡ ds → 4 ≤ length body → HoldsBlock little simple_packet_block body bytes
      → FrontCase little interfaces packets bytes
  simple_by [] none long holds = inr (inr (record {
    ending = NoInterface;
    ends = inr (record {
      none = none;
      original = original_at;
      rest = drop 4 body;
      original_fits = number_below little 0 body all;
      block = holds_as little simple_packet_block body _ bytes (piece little 4 body long all) holds;
    });
  }))
  simple_by (first ∷ others) described long holds =
      let captured = captured_length first.snap_len original_at in
      let len = length-drop 4 body in
      let padded = holds.fits.padded in
      elim (cases_lt (length (drop 4 body)) captured) [
        | inl past ↦ inr (inr (record {
          ending = BadBlock;
          ends = inr (inr (record {
            first = first;
            others = others;
            described = described;
            original = original_at;
            rest = drop 4 body;
            original_fits = number_below little 0 body all;
            block = holds_as little simple_packet_block body _ bytes (piece little 4 body long all) holds;
            long = past;
          }));
        }))
        | inr enough ↦
            simple_whole first others described long holds
            (padded_enough captured (length (drop 4 body)) enough (omega (arith, len, padded)))
      ]
