-- What stands at the front of any bytes: a section's header, a block that may stand there, or their end.
use Rattle.std.proofs.Common.{◌≡◌, ℕ, ◌+◌, ◌<◌, ◌≤◌, Bool, List, [], ◌∷◌, ◌++◌, length, take, refl, sym, ap, subst, ◌∙◌, arith, inl, inr}
use Rattle.std.proofs.lemmas.Bool.{cases_eq, cases_lt}
use Rattle.std.proofs.lemmas.List.{take-append-le}
use Rattle.pcap_io.specs.Numbers.{number_bytes}
use Rattle.pcapng_theory.specs.NgBlocks.{bytes_of_block, FitsBlock, section_header_block, interface_description_block, obsolete_packet_block, simple_packet_block, enhanced_packet_block, byte_order_magic, InterfaceDescription, Other, IsOther}
use Rattle.pcapng_theory.specs.NgEndings.{EndOfBytes, Cut, BadMagic, BadBlock, ObsoleteBlock, Front, BeginsWith, HoldsBlock, IsPacket, least_total}
use Rattle.pcapng_theory.proofs.BlockCases.{FrontCase, section_case, description_case, enhanced_case, simple_by}
use Rattle.pcapng_theory.proofs.Fronts.{AreBytes, front_there, Shaped, formed_or_not}

-- ---- any block

pub other_no_packet : (kind : ℕ) (body : List ℕ) → IsPacket (Other kind body) → ⊥
other_no_packet kind body (inl p) = let is = p.1 in cc
other_no_packet kind body (inr p) = let is = p.1 in cc

other_case : (little : Bool) (interfaces : List InterfaceDescription) (packets kind : ℕ) (body bytes : List ℕ) → IsOther kind
    → HoldsBlock little kind body bytes → FrontCase little interfaces packets bytes
other_case little interfaces packets kind body bytes other holds = inr (inl (record {
  block = Other kind body;
  fits = (other, holds.fits);
  few = λ packet. absurd (other_no_packet kind body packet);
  rest = holds.behind;
  spelled = holds.spelled;
}))

-- the least of each type
least_section : least_total section_header_block ≡ 28
least_section = refl

least_description : least_total interface_description_block ≡ 20
least_description = refl

least_enhanced : least_total enhanced_packet_block ≡ 32
least_enhanced = refl

least_simple : least_total simple_packet_block ≡ 16
least_simple = refl

module _ (little : Bool) (interfaces : List InterfaceDescription) (packets : ℕ) (bytes : List ℕ) (within : packets ≤ 65536)
    (f : Front) (b : BeginsWith little bytes f) (s : Shaped bytes f) where
  -- the block, by its type, in the order of its section
  held_as : (kind : ℕ) → f.kind ≡ kind → (f.kind ≡ section_header_block → ⊥) → HoldsBlock little kind s.body bytes
  held_as kind is other = elim b.order [
    | inl section ↦ absurd (other section.0)
    | inr same ↦ record {
      fits = subst (λ k. FitsBlock k s.body) is s.fits;
      behind = s.rest;
      spelled = subst (λ k. bytes ≡ bytes_of_block little k s.body ++ s.rest) is
          (subst (λ own. bytes ≡ bytes_of_block own f.kind s.body ++ s.rest) same.1 s.spelled);
    }
  ]

  least_as : (kind least : ℕ) → f.kind ≡ kind → least_total kind ≡ least → least ≤ length s.body + 12
  least_as kind least is known =
      let h = s.least in
      let same : least_total f.kind ≡ least = ap (λ k. least_total k) is ∙ known in
      omega arith

  section_shaped : f.kind ≡ section_header_block → FrontCase little interfaces packets bytes
  section_shaped is = elim b.order [
    | inr other ↦ absurd (other.0 is)
    | inl section ↦
        let least = least_as section_header_block 28 is least_section in
        let magic : take 4 s.body ≡ number_bytes f.little 4 byte_order_magic =
        sym (take-append-le 4 s.body s.last (omega arith)) ∙ ap (take 4) (sym s.behind) ∙ section.1 in
        section_case little f.little interfaces packets s.body bytes (omega arith) s.all_bytes magic (record {
          fits = subst (λ k. FitsBlock k s.body) is s.fits;
          behind = s.rest;
          spelled = subst (λ k. bytes ≡ bytes_of_block f.little k s.body ++ s.rest) is s.spelled;
        })
  ]

  block_case : FrontCase little interfaces packets bytes
  block_case = elim (cases_eq f.kind section_header_block) [
    | inl is ↦ section_shaped is
    | inr a ↦ elim (cases_eq f.kind interface_description_block) [
      | inl is ↦
          let least = least_as interface_description_block 20 is least_description in
          description_case little interfaces packets s.body bytes (omega arith) s.all_bytes (held_as interface_description_block is a)
      | inr c ↦ elim (cases_eq f.kind enhanced_packet_block) [
        | inl is ↦
            let least = least_as enhanced_packet_block 32 is least_enhanced in
            enhanced_case little interfaces packets s.body bytes within s.all_bytes (omega arith) (held_as enhanced_packet_block is a)
        | inr d ↦ elim (cases_eq f.kind simple_packet_block) [
          | inl is ↦
              let least = least_as simple_packet_block 16 is least_simple in
              simple_by little interfaces packets s.body bytes within s.all_bytes interfaces refl (omega arith)
              (held_as simple_packet_block is a)
          | inr e ↦ elim (cases_eq f.kind obsolete_packet_block) [
            | inl is ↦ inr (inr (record { ending = ObsoleteBlock; ends = (s.body, held_as obsolete_packet_block is a) }))
            | inr g ↦
                other_case little interfaces packets f.kind s.body bytes (record {
                  no_section_header = a;
                  no_interface_description = c;
                  no_obsolete_packet = g;
                  no_simple_packet = e;
                  no_enhanced_packet = d;
                }) (held_as f.kind refl a)
          ]
        ]
      ]
    ]
  ]

begun_case : (little : Bool) (interfaces : List InterfaceDescription) (packets : ℕ) (bytes : List ℕ) → packets ≤ 65536 → AreBytes bytes
    → (f : Front) → BeginsWith little bytes f → FrontCase little interfaces packets bytes
begun_case little interfaces packets bytes within all f b = elim (cases_lt (length bytes) f.total) [
  | inl cut ↦ inr (inr (record { ending = Cut; ends = inr (f, b, cut) }))
  | inr there ↦ elim (formed_or_not little bytes f b all there) [
    | inl bad ↦ inr (inr (record { ending = BadBlock; ends = inl bad }))
    | inr s ↦ block_case little interfaces packets bytes within f b s
  ]
]

front_by : (little : Bool) (interfaces : List InterfaceDescription) (packets : ℕ) (bytes : List ℕ) → packets ≤ 65536 → AreBytes bytes
    → 0 < length bytes → FrontCase little interfaces packets bytes
front_by little interfaces packets bytes within all some = elim (cases_lt (length bytes) 12) [
  | inl short ↦ inr (inr (record { ending = Cut; ends = inl (some, short) }))
  | inr long ↦ elim (front_there little bytes long all) [
    | inl begun ↦ begun_case little interfaces packets bytes within all begun.0 begun.1
    | inr bad ↦ inr (inr (record { ending = BadMagic; ends = bad }))
  ]
]

pub front_case : (little : Bool) (interfaces : List InterfaceDescription) (packets : ℕ) (bytes : List ℕ) → packets ≤ 65536 → AreBytes bytes
    → FrontCase little interfaces packets bytes
front_case little interfaces packets [] within all = inr (inr (record { ending = EndOfBytes; ends = refl }))
front_case little interfaces packets (b ∷ more) within all = front_by little interfaces packets (b ∷ more) within all (omega arith)
