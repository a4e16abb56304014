-- The front of bytes: the type and the total length of a block, in the byte order that it has.
use Rattle.std.proofs.Common.{◌≡◌, ◌⊎◌, ℕ, ◌+◌, ◌-◌, ◌%◌, ◌^◌, ◌<◌, ◌≤◌, ◌==◌, Bool, true, false, List, [], ◌++◌, length, take, drop, All, refl, sym, ap, subst, ◌∙◌, arith, length-append, length-drop, inl, inr}
use Rattle.std.proofs.lemmas.Bool.{cases_eq, cases_lt, cases_Bool}
use Rattle.std.proofs.lemmas.List.{append_assoc, append-nil, drop_at, drop-drop, take-append-drop, length-take-le}
use Rattle.std.proofs.lemmas.List.Elements.{All-take, All-drop}
use Rattle.pcap_io.specs.Numbers.{number_of, number_bytes}
use Rattle.pcap_io.proofs.CaptureNumberLemmas.{number_of_below, number_of_bytes, number_bytes_length, number_bytes_of, number_of_take}
use Rattle.pcap_io.proofs.FrameLemmas.{piece, piece_at}
use Rattle.pcapng_theory.specs.NgBlocks.{bytes_of_block, FitsBlock, section_header_block, interface_description_block, simple_packet_block, enhanced_packet_block, byte_order_magic}
use Rattle.pcapng_theory.specs.NgEndings.{Front, HasOrder, BeginsWith, HasBadMagic, least_total, IsMisshapen, HasBadForm}

abbrev pub AreBytes : List ℕ → Type 0
AreBytes bytes = All (λ b. b < 2 ^ 8) bytes

-- ---- numbers

pub bytes_behind : (n : ℕ) (bytes : List ℕ) → AreBytes bytes → AreBytes (drop n bytes)
bytes_behind n bytes all = All-drop (λ b. b < 2 ^ 8) n bytes all

pub number_below : (little : Bool) (at : ℕ) (bytes : List ℕ) → AreBytes bytes → number_of little 4 (drop at bytes) < 2 ^ 32
number_below little at bytes all = number_of_below little 4 (drop at bytes) (bytes_behind at bytes all)

pub number_alone : (little : Bool) (n x : ℕ) → x < 256 ^ n → number_of little n (number_bytes little n x) ≡ x
number_alone little n x small =
    ap (number_of little n) (sym (append-nil (number_bytes little n x))) ∙ number_of_bytes little n x [] small

-- 4 bytes that are a number, and the number that they are

pub number_there : (little : Bool) (bytes : List ℕ) (x : ℕ) → 4 ≤ length bytes → AreBytes bytes → number_of little 4 bytes ≡ x
    → take 4 bytes ≡ number_bytes little 4 x
number_there little bytes x long all is = sym (number_bytes_of little 4 bytes long all) ∙ ap (number_bytes little 4) is

pub number_back : (little : Bool) (bytes : List ℕ) (x : ℕ) → x < 2 ^ 32 → take 4 bytes ≡ number_bytes little 4 x
    → number_of little 4 bytes ≡ x
number_back little bytes x small is =
    sym (number_of_take little 4 bytes) ∙ ap (number_of little 4) is ∙ number_alone little 4 x small

-- the bytes of a section's type are the same in either order
pub section_type : (a b : Bool) → number_bytes a 4 section_header_block ≡ number_bytes b 4 section_header_block
unfolding number_bytes
section_type true true = refl
section_type true false = refl
section_type false true = refl
section_type false false = refl

pub section_either : (a b : Bool) (bytes : List ℕ) → 4 ≤ length bytes → AreBytes bytes → number_of a 4 bytes ≡ section_header_block
    → number_of b 4 bytes ≡ section_header_block
section_either a b bytes long all is =
    number_back b bytes section_header_block (omega arith)
    (number_there a bytes section_header_block long all is ∙ section_type a b)

-- ---- the type and the total length

two_numbers : (little : Bool) (bytes : List ℕ) → 8 ≤ length bytes → AreBytes bytes
    → bytes ≡ number_bytes little 4 (number_of little 4 bytes) ++ (number_bytes little 4 (number_of little 4 (drop 4 bytes)) ++ drop 8 bytes)
two_numbers little bytes long all =
    piece little 4 bytes (omega arith) all
    ∙ ap (λ r. number_bytes little 4 (number_of little 4 bytes) ++ r) (piece_at little 4 4 bytes (omega arith) all)

abbrev front_of : Bool → List ℕ → Front
front_of little bytes =
    record { little = little; kind = number_of little 4 bytes; total = number_of little 4 (drop 4 bytes); behind = drop 8 bytes }

begins_as : (little own : Bool) (bytes : List ℕ) → 12 ≤ length bytes → AreBytes bytes → HasOrder little (front_of own bytes)
    → BeginsWith little bytes (front_of own bytes)
begins_as little own bytes long all order =
    let len = length-drop 8 bytes in
    record {
      spelled = two_numbers own bytes (omega arith) all;
      kind = number_below own 0 bytes all;
      total = number_below own 4 bytes all;
      long = omega (arith, len);
      order = order;
    }

bad_magic : (bytes : List ℕ) → 12 ≤ length bytes → AreBytes bytes → number_of false 4 bytes ≡ section_header_block
    → (number_of true 4 (drop 8 bytes) ≡ byte_order_magic → ⊥) → (number_of false 4 (drop 8 bytes) ≡ byte_order_magic → ⊥)
    → HasBadMagic bytes
bad_magic bytes long all section low high =
    let four = length-drop 4 bytes in
    let eight = length-drop 8 bytes in
    let type = number_bytes false 4 section_header_block in
    let total = take 4 (drop 4 bytes) in
    record {
      total = total;
      magic = take 4 (drop 8 bytes);
      behind = drop 12 bytes;
      spelled = piece false 4 bytes (omega arith) all
          ∙ ap (λ n. number_bytes false 4 n ++ drop 4 bytes) section
          ∙ ap (λ r. type ++ r) (sym (take-append-drop 4 (drop 4 bytes)))
          ∙ ap (λ r. type ++ (total ++ r)) (drop-drop 4 4 bytes ∙ sym (take-append-drop 4 (drop 8 bytes)))
          ∙ ap (λ r. type ++ (total ++ (take 4 (drop 8 bytes) ++ r))) (drop-drop 4 8 bytes);
      total_len = length-take-le 4 (drop 4 bytes) (omega (arith, four));
      magic_len = length-take-le 4 (drop 8 bytes) (omega (arith, eight));
      not_little = λ is. low (number_back true (drop 8 bytes) byte_order_magic (omega arith) is);
      not_big = λ is. high (number_back false (drop 8 bytes) byte_order_magic (omega arith) is);
    }

-- bytes of a front begin with a block's, or with a section whose magic is none
pub front_there : (little : Bool) (bytes : List ℕ) → 12 ≤ length bytes → AreBytes bytes
    → ((f : Front) × BeginsWith little bytes f) ⊎ HasBadMagic bytes
front_there little bytes long all =
    let eight = length-drop 8 bytes in
    let magic = λ (own : Bool). number_there own (drop 8 bytes) byte_order_magic (omega (arith, eight)) (bytes_behind 8 bytes all) in
    elim (cases_eq (number_of little 4 bytes) section_header_block) [
      | inr other ↦ inl (front_of little bytes, begins_as little little bytes long all (inr (other, refl)))
      | inl section ↦
          let either = λ (own : Bool). section_either little own bytes (omega arith) all section in
          elim (cases_eq (number_of true 4 (drop 8 bytes)) byte_order_magic) [
            | inl is ↦ inl (front_of true bytes, begins_as little true bytes long all (inl (either true, magic true is)))
            | inr low ↦ elim (cases_eq (number_of false 4 (drop 8 bytes)) byte_order_magic) [
              | inl is ↦ inl (front_of false bytes, begins_as little false bytes long all (inl (either false, magic false is)))
              | inr high ↦ inr (bad_magic bytes long all (either false) low high)
            ]
          ]
    ]

-- ---- a front and the bytes

pub drop_two : (a b r : List ℕ) → length a ≡ 4 → length b ≡ 4 → drop 8 (a ++ (b ++ r)) ≡ r
drop_two a b r la lb =
    sym (drop-drop 4 4 (a ++ (b ++ r))) ∙ ap (drop 4) (drop_at a (b ++ r) 4 la) ∙ drop_at b r 4 lb

regroup : (k t body u rest : List ℕ) → (k ++ (t ++ (body ++ u))) ++ rest ≡ k ++ (t ++ (body ++ (u ++ rest)))
regroup k t body u rest = simp append_assoc refl

pub block_spelled : (little : Bool) (kind : ℕ) (body rest : List ℕ) → bytes_of_block little kind body ++ rest
    ≡ number_bytes little 4 kind ++ (number_bytes little 4 (length body + 12) ++
    (body ++ (number_bytes little 4 (length body + 12) ++ rest)))
block_spelled little kind body rest =
    let total = number_bytes little 4 (length body + 12) in
    regroup (number_bytes little 4 kind) total body total rest

pub block_length : (little : Bool) (kind : ℕ) (body : List ℕ) → length (bytes_of_block little kind body) ≡ length body + 12
block_length little kind body =
    let a = number_bytes_length little 4 kind in
    let b = number_bytes_length little 4 (length body + 12) in
    simp length-append (omega (arith, a, b))

pub least_some : (kind : ℕ) → 12 ≤ least_total kind
least_some kind = elim (cases_Bool (kind == section_header_block)) [
  | inl a ↦ rw a (omega arith)
  | inr a ↦ rw a elim (cases_Bool (kind == interface_description_block)) [
    | inl b ↦ rw b (omega arith)
    | inr b ↦ rw b elim (cases_Bool (kind == enhanced_packet_block)) [
      | inl c ↦ rw c (omega arith)
      | inr c ↦ rw c elim (cases_Bool (kind == simple_packet_block)) [
        | inl d ↦ rw d (omega arith)
        | inr d ↦ rw d (omega arith)
      ]
    ]
  ]
]

-- a block of good form: its type and its body, and what is behind it
pub record Shaped (bytes : List ℕ) (f : Front) : Type 0 where
  pub body : List ℕ
  pub rest : List ℕ
  pub fits : FitsBlock f.kind body
  pub total : length body + 12 ≡ f.total
  pub least : least_total f.kind ≤ length body + 12
  pub spelled : bytes ≡ bytes_of_block f.little f.kind body ++ rest
  pub all_bytes : AreBytes body
  pub last : List ℕ
  pub behind : f.behind ≡ body ++ last

module _ (little : Bool) (bytes : List ℕ) (f : Front) (b : BeginsWith little bytes f) where
  pub front_len : length bytes ≡ 8 + length f.behind
  front_len =
      let k = number_bytes_length f.little 4 f.kind in
      let t = number_bytes_length f.little 4 f.total in
      ap length b.spelled ∙ simp length-append (omega (arith, k, t))

  pub front_behind : drop 8 bytes ≡ f.behind
  front_behind =
      ap (drop 8) b.spelled
      ∙ drop_two (number_bytes f.little 4 f.kind) (number_bytes f.little 4 f.total) f.behind
      (number_bytes_length f.little 4 f.kind) (number_bytes_length f.little 4 f.total)

  module _ (all : AreBytes bytes) (there : f.total ≤ length bytes) where
    abbrev last_four : List ℕ
    last_four = drop (f.total - 4) bytes

    shaped : f.total % 4 ≡ 0 → least_total f.kind ≤ f.total → take 4 last_four ≡ number_bytes f.little 4 f.total → Shaped bytes f
    shaped whole least last =
        let some = least_some f.kind in
        let len = front_len in
        let body = take (f.total - 12) f.behind in
        let rest = drop 4 (drop (f.total - 12) f.behind) in
        let total = number_bytes f.little 4 f.total in
        let kind = number_bytes f.little 4 f.kind in
        let body_len : length body ≡ f.total - 12 = length-take-le (f.total - 12) f.behind (omega arith) in
        let counts : length body + 12 ≡ f.total = omega arith in
        let below = b.total in
        let same : 8 + (f.total - 12) ≡ f.total - 4 = omega arith in
        let at_last : drop (f.total - 12) f.behind ≡ last_four =
        ap (drop (f.total - 12)) (sym front_behind) ∙ drop-drop (f.total - 12) 8 bytes ∙ ap (λ n. drop n bytes) same in
        let behind_body : f.behind ≡ body ++ drop (f.total - 12) f.behind = sym (take-append-drop (f.total - 12) f.behind) in
        let last_is : drop (f.total - 12) f.behind ≡ total ++ rest =
        sym (take-append-drop 4 (drop (f.total - 12) f.behind)) ∙ ap (λ t. t ++ rest) (ap (take 4) at_last ∙ last) in
        let joined : bytes ≡ kind ++ (total ++ (body ++ (total ++ rest))) =
        b.spelled ∙ ap (λ r. kind ++ (total ++ r)) (behind_body ∙ ap (λ r. body ++ r) last_is) in
        let all_behind : AreBytes f.behind = subst AreBytes front_behind (bytes_behind 8 bytes all) in
        record {
          body = body;
          rest = rest;
          fits = record { kind = b.kind; padded = omega arith; short = omega arith };
          total = counts;
          least = omega arith;
          spelled = joined
              ∙ ap (λ n. kind ++ (number_bytes f.little 4 n ++ (body ++ (number_bytes f.little 4 n ++ rest)))) (sym counts)
              ∙ sym (block_spelled f.little f.kind body rest);
          all_bytes = All-take (λ b. b < 2 ^ 8) (f.total - 12) f.behind all_behind;
          last = drop (f.total - 12) f.behind;
          behind = behind_body;
        }

    misshapen : IsMisshapen f bytes → HasBadForm little bytes
    misshapen bad = record { front = f; begins = b; there = there; misshapen = bad }

    -- a block that is there is of good form or not
    pub formed_or_not : HasBadForm little bytes ⊎ Shaped bytes f
    formed_or_not = elim (cases_eq (f.total % 4) 0) [
      | inr part ↦ inl (misshapen (inl part))
      | inl whole ↦ elim (cases_lt f.total (least_total f.kind)) [
        | inl short ↦ inl (misshapen (inr (inl short)))
        | inr least ↦
            let some = least_some f.kind in
            let len = length-drop (f.total - 4) bytes in
            elim (cases_eq (number_of f.little 4 last_four) f.total) [
              | inl same ↦
                  inr (shaped whole least (number_there f.little last_four f.total (omega (arith, len))
                  (bytes_behind (f.total - 4) bytes all) same))
              | inr other ↦ inl (misshapen (inr (inr (λ is. other (number_back f.little last_four f.total b.total is)))))
            ]
      ]
    ]
