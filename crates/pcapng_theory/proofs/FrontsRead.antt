-- The reader at the front of bytes: where it finds a block cut, its magic or its form bad, and which block of good form it finds.
use Rattle.std.proofs.Common.{◌≡◌, ◌⊎◌, ℕ, ◌+◌, ◌-◌, ◌%◌, ◌<◌, ◌≤◌, ◌==◌, Bool, true, false, List, [], ◌++◌, length, take, drop, Some, None, Ok, refl, sym, ap, ◌∙◌, arith, length-append, length-drop, inl, inr}
use Rattle.std.proofs.lemmas.Bool.{cases_lt, cases_Bool, lt-ltb, le-ltb, le-leb, lt-leb, eq-eqb, ne_eqb, and_from, and_left, and_right}
use Rattle.std.proofs.lemmas.List.{append_assoc, take_at, drop_at, drop-drop, take-append-drop, length-take-le, drop-take}
use Rattle.pcap_io.specs.Numbers.{number_of, number_bytes}
use Rattle.pcap_io.proofs.CaptureNumberLemmas.{number_of_bytes, number_bytes_length, number_bytes_all, number_of_take}
use Rattle.pcapng_io.specs.declared.end.NgEnd.TheVariants as ends
use Rattle.pcapng_io.specs.declared.fault.NgFault.TheVariants as ng
use Rattle.pcapng_io.specs.Blocks.{order_of, type_of, total_at, least_of, has_form, interface_in, held, with_total, formed, whole_at, block_at}
use Rattle.pcapng_io.specs.NgReading.{NgPlace, Ends, step_with, step}
use Rattle.pcapng_io.proofs.NgSteps.{step_front}
use Rattle.pcapng_theory.specs.NgBlocks.{bytes_of_block, FitsBlock, section_header_block, interface_description_block, obsolete_packet_block, simple_packet_block, enhanced_packet_block, byte_order_magic}
use Rattle.pcapng_theory.specs.NgEndings.{Front, BeginsWith, HasBadMagic, least_total, IsMisshapen}
use Rattle.pcapng_theory.proofs.Fronts.{AreBytes, bytes_behind, number_alone, number_there, number_back, section_type, section_either, front_len, front_behind, block_spelled, block_length, least_some}

-- ---- types of the reader that it keeps to itself, named by values of them

abbrev TypeOf : {A : Type 0} → A → Type 0
TypeOf {A = A} value = A

-- what it keeps of an interface
abbrev pub Seen : Type 0
Seen = TypeOf (interface_in false [])

-- the types of blocks that it tells apart
abbrev Kind : Type 0
Kind = TypeOf (type_of 0)

-- ---- the types of blocks

pub least_same : (kind : ℕ) → least_of (type_of kind) ≡ least_total kind
unfolding type_of
least_same kind = elim (cases_Bool (kind == section_header_block)) [
  | inl a ↦ rw a refl
  | inr a ↦ rw a elim (cases_Bool (kind == interface_description_block)) [
    | inl b ↦ rw b refl
    | inr b ↦ rw b elim (cases_Bool (kind == enhanced_packet_block)) [
      | inl c ↦ rw c refl
      | inr c ↦ rw c elim (cases_Bool (kind == simple_packet_block)) [
        | inl d ↦ rw d refl
        | inr d ↦ rw d elim (cases_Bool (kind == obsolete_packet_block)) [
          | inl e ↦ rw e refl
          | inr e ↦ rw e refl
        ]
      ]
    ]
  ]
]

-- ---- a front

module _ (little : Bool) (bytes : List ℕ) (f : Front) (b : BeginsWith little bytes f) where
  kind_is : number_of f.little 4 bytes ≡ f.kind
  kind_is = ap (number_of f.little 4) b.spelled ∙ number_of_bytes f.little 4 f.kind _ b.kind

  total_is : total_at f.little bytes ≡ f.total
  total_is =
      let behind = number_bytes f.little 4 f.total ++ f.behind in
      ap (λ bs. number_of f.little 4 (drop 4 bs)) b.spelled
      ∙ ap (number_of f.little 4) (drop_at (number_bytes f.little 4 f.kind) behind 4 (number_bytes_length f.little 4 f.kind))
      ∙ number_of_bytes f.little 4 f.total f.behind b.total

  front_long : 12 ≤ length bytes
  front_long = let len = front_len little bytes f b in let h = b.long in omega arith

  first_four : take 4 bytes ≡ number_bytes f.little 4 f.kind
  first_four =
      let behind = number_bytes f.little 4 f.total ++ f.behind in
      ap (take 4) b.spelled ∙ take_at (number_bytes f.little 4 f.kind) behind 4 (number_bytes_length f.little 4 f.kind)

  -- a section
  section_begins : f.kind ≡ section_header_block → number_of false 4 bytes ≡ section_header_block
  section_begins is =
      number_back false bytes section_header_block (omega arith)
      (first_four ∙ ap (number_bytes f.little 4) is ∙ section_type f.little false)

  -- and another block
  other_begins : (f.kind ≡ section_header_block → ⊥) → (number_of false 4 bytes == section_header_block) ≡ false
  other_begins other =
      let own = number_bytes f.little 4 f.kind in
      let len = number_bytes_length f.little 4 f.kind in
      ne_eqb (number_of false 4 bytes) section_header_block (λ is.
      let first : number_of false 4 own ≡ section_header_block =
      ap (number_of false 4) (sym first_four) ∙ number_of_take false 4 bytes ∙ is in
      other (sym (number_alone f.little 4 f.kind b.kind)
      ∙ section_either false f.little own (omega arith) (number_bytes_all f.little 4 f.kind) first))

order_spelled : (little : Bool) (bytes more : List ℕ) → drop 8 bytes ≡ number_bytes little 4 byte_order_magic ++ more
    → order_of bytes ≡ Some little
unfolding order_of number_of number_bytes
order_spelled true bytes more is = rw is refl
order_spelled false bytes more is = rw is refl

-- what the reader takes the front for: a section in the order of its magic, or a block of the section in the section's order
pub section_front : (little : Bool) (interfaces : List Seen) (bytes : List ℕ) (f : Front) → BeginsWith little bytes f
    → f.kind ≡ section_header_block → take 4 f.behind ≡ number_bytes f.little 4 byte_order_magic
    → block_at little interfaces bytes ≡ whole_at f.little [] (type_of section_header_block) bytes
unfolding block_at type_of
section_front little interfaces bytes f b is magic =
    let order : order_of bytes ≡ Some f.little =
    order_spelled f.little bytes (drop 4 f.behind)
    (front_behind little bytes f b ∙ sym (take-append-drop 4 f.behind) ∙ ap (λ m. m ++ drop 4 f.behind) magic) in
    rw (le-ltb (length bytes) 12 (front_long little bytes f b), section_begins little bytes f b is, order) refl

pub other_front : (little : Bool) (interfaces : List Seen) (bytes : List ℕ) (f : Front) → BeginsWith little bytes f
    → (f.kind ≡ section_header_block → ⊥) → f.little ≡ little
    → block_at little interfaces bytes ≡ whole_at f.little interfaces (type_of f.kind) bytes
unfolding block_at
other_front little interfaces bytes f b other own =
    let kind : number_of little 4 bytes ≡ f.kind = ap (λ o. number_of o 4 bytes) (sym own) ∙ kind_is little bytes f b in
    rw (le-ltb (length bytes) 12 (front_long little bytes f b), other_begins little bytes f b other, kind)
    (ap (λ o. whole_at o interfaces (type_of f.kind) bytes) (sym own))

-- either way it reads a block of that type, with some interfaces
pub some_front : (little : Bool) (interfaces : List Seen) (bytes : List ℕ) (f : Front) → BeginsWith little bytes f
    → (ints : List Seen) × (block_at little interfaces bytes ≡ whole_at f.little ints (type_of f.kind) bytes)
some_front little interfaces bytes f b = elim b.order [
  | inl section ↦ (
    [],
    section_front little interfaces bytes f b section.0 section.1
        ∙ ap (λ (k : ℕ). whole_at f.little [] (type_of k) bytes) (sym section.0),
  )
  | inr other ↦ (interfaces, other_front little interfaces bytes f b other.0 other.1)
]

-- ---- a block that is cut

pub short_cut : (little : Bool) (interfaces : List Seen) (bytes : List ℕ) → length bytes < 12 → block_at little interfaces bytes ≡ Ok None
unfolding block_at
short_cut little interfaces bytes short = rw (lt-ltb (length bytes) 12 short) refl

whole_cut : (little : Bool) (bytes : List ℕ) (f : Front) → BeginsWith little bytes f → (ints : List Seen) (type : Kind)
    → length bytes < f.total → whole_at f.little ints type bytes ≡ Ok None
unfolding whole_at
whole_cut little bytes f b ints type cut = rw (total_is little bytes f b, lt-ltb (length bytes) f.total cut) refl

pub front_cut : (little : Bool) (interfaces : List Seen) (bytes : List ℕ) (f : Front) → BeginsWith little bytes f
    → length bytes < f.total → block_at little interfaces bytes ≡ Ok None
front_cut little interfaces bytes f b cut =
    let some = some_front little interfaces bytes f b in
    some.1 ∙ whole_cut little bytes f b some.0 (type_of f.kind) cut

-- ---- a magic that is none

no_order : (bytes : List ℕ) → (number_of true 4 (drop 8 bytes) ≡ byte_order_magic → ⊥)
    → (number_of false 4 (drop 8 bytes) ≡ byte_order_magic → ⊥) → order_of bytes ≡ None
unfolding order_of
no_order bytes low high =
    rw (ne_eqb (number_of true 4 (drop 8 bytes)) byte_order_magic low, ne_eqb (number_of false 4 (drop 8 bytes)) byte_order_magic high) refl

magic_front : (p : NgPlace) (bytes : List ℕ) → 12 ≤ length bytes → number_of false 4 bytes ≡ section_header_block → order_of bytes ≡ None
    → step p bytes ≡ Ends (ends.Faulty (ng.NgMagic (p.blocks + 1)))
unfolding step block_at
magic_front p bytes long section none = rw (le-ltb (length bytes) 12 long, section, none) refl

pub bad_magic_read : (p : NgPlace) (bytes : List ℕ) → AreBytes bytes → HasBadMagic bytes
    → step p bytes ≡ Ends (ends.Faulty (ng.NgMagic (p.blocks + 1)))
bad_magic_read p bytes all m =
    let type = number_bytes false 4 section_header_block in
    let type_len = number_bytes_length false 4 section_header_block in
    let total_len = m.total_len in
    let magic_len = m.magic_len in
    let first : take 4 bytes ≡ type = ap (take 4) m.spelled ∙ take_at type (m.total ++ (m.magic ++ m.behind)) 4 type_len in
    let at_total : drop 4 bytes ≡ m.total ++ (m.magic ++ m.behind) =
    ap (drop 4) m.spelled ∙ drop_at type (m.total ++ (m.magic ++ m.behind)) 4 type_len in
    let at_magic : drop 8 bytes ≡ m.magic ++ m.behind =
    sym (drop-drop 4 4 bytes) ∙ ap (drop 4) at_total ∙ drop_at m.total (m.magic ++ m.behind) 4 total_len in
    let magic_is : take 4 (drop 8 bytes) ≡ m.magic = ap (take 4) at_magic ∙ take_at m.magic m.behind 4 magic_len in
    let len : length bytes ≡ 12 + length m.behind = ap length m.spelled ∙ simp length-append (omega (arith, type_len, total_len, magic_len)) in
    let eight = length-drop 8 bytes in
    let there = λ (own : Bool). number_there own (drop 8 bytes) byte_order_magic (omega (arith, eight, len)) (bytes_behind 8 bytes all) in
    magic_front p bytes (omega (arith, len)) (number_back false bytes section_header_block (omega arith) first)
    (no_order bytes (λ is. m.not_little (sym magic_is ∙ there true is)) (λ is. m.not_big (sym magic_is ∙ there false is)))

-- ---- a block whose form is bad

last_same : (total : ℕ) (bytes : List ℕ) → 4 ≤ total → drop (total - 4) (take total bytes) ≡ take 4 (drop (total - 4) bytes)
last_same total bytes some =
    let split : total ≡ (total - 4) + 4 = omega arith in
    ap (λ n. drop (total - 4) (take n bytes)) split ∙ drop-take (total - 4) 4 bytes

too_short : (own : Bool) (kind total : ℕ) (bytes : List ℕ) → total ≤ length bytes → total < least_total kind
    → has_form own (least_total kind) (take total bytes) ≡ false
unfolding has_form
too_short own kind total bytes there short =
    let len = length-take-le total bytes there in
    rw len (and_left _ _ (and_right _ _ (lt-leb (least_total kind) total short)))

bad_form : (own : Bool) (kind total : ℕ) (bytes : List ℕ) → AreBytes bytes → total ≤ length bytes
    → (total % 4 ≡ 0 → ⊥) ⊎ ((total < least_total kind) ⊎ (take 4 (drop (total - 4) bytes) ≡ number_bytes own 4 total → ⊥))
    → has_form own (least_total kind) (take total bytes) ≡ false
unfolding has_form
bad_form own kind total bytes all there (inl part) =
    let len = length-take-le total bytes there in
    rw len (and_left _ _ (and_left _ _ (ne_eqb (total % 4) 0 part)))
bad_form own kind total bytes all there (inr (inl short)) = too_short own kind total bytes there short
bad_form own kind total bytes all there (inr (inr other)) = elim (cases_lt total (least_total kind)) [
  | inl short ↦ too_short own kind total bytes there short
  | inr enough ↦
      let len = length-take-le total bytes there in
      let some = least_some kind in
      let after = length-drop (total - 4) bytes in
      let last : number_of own 4 (drop (total - 4) (take total bytes)) ≡ number_of own 4 (drop (total - 4) bytes) =
      ap (number_of own 4) (last_same total bytes (omega arith)) ∙ number_of_take own 4 (drop (total - 4) bytes) in
      rw len (and_right _ _ (ne_eqb (number_of own 4 (drop (total - 4) (take total bytes))) total (λ is.
      other (number_there own (drop (total - 4) bytes) total (omega (arith, after)) (bytes_behind (total - 4) bytes all) (sym last ∙ is)))))
]

formed_bad : (p : NgPlace) (own : Bool) (ints : List Seen) (type : Kind) (block bytes : List ℕ)
    → has_form own (least_of type) block ≡ false
    → step_with p bytes (formed own ints type block) ≡ Ends (ends.Faulty (ng.NgBlock (p.blocks + 1)))
unfolding formed
formed_bad p own ints type block bytes bad = rw bad refl

whole_there : (little : Bool) (bytes : List ℕ) (f : Front) → BeginsWith little bytes f → (ints : List Seen) (type : Kind)
    → f.total ≤ length bytes → whole_at f.little ints type bytes ≡ formed f.little ints type (take f.total bytes)
unfolding whole_at
whole_there little bytes f b ints type there = rw (total_is little bytes f b, le-ltb (length bytes) f.total there) refl

pub misshapen_read : (p : NgPlace) (bytes : List ℕ) (f : Front) → AreBytes bytes → BeginsWith p.little bytes f
    → f.total ≤ length bytes → IsMisshapen f bytes → step p bytes ≡ Ends (ends.Faulty (ng.NgBlock (p.blocks + 1)))
misshapen_read p bytes f all b there bad =
    let some = some_front p.little p.interfaces bytes f b in
    step_front p bytes _ (some.1 ∙ whole_there p.little bytes f b some.0 (type_of f.kind) there)
    ∙ formed_bad p f.little some.0 (type_of f.kind) (take f.total bytes) bytes
    (ap (λ (least : ℕ). has_form f.little least (take f.total bytes)) (least_same f.kind)
    ∙ bad_form f.little f.kind f.total bytes all there bad)

-- ---- a block of good form

abbrev pub spelled_front : Bool → ℕ → List ℕ → List ℕ → Front
spelled_front little kind body rest =
    record {
      little = little;
      kind = kind;
      total = length body + 12;
      behind = body ++ (number_bytes little 4 (length body + 12) ++ rest);
    }

module _ (own : Bool) (kind : ℕ) (body rest : List ℕ) (fits : FitsBlock kind body) where
  abbrev bytes_here : List ℕ
  bytes_here = bytes_of_block own kind body ++ rest

  behind_long : 4 ≤ length (body ++ (number_bytes own 4 (length body + 12) ++ rest))
  behind_long =
      let t = number_bytes_length own 4 (length body + 12) in
      let a = length-append body (number_bytes own 4 (length body + 12) ++ rest) in
      let b = length-append (number_bytes own 4 (length body + 12)) rest in
      omega (arith, t, a, b)

  pub begins_other : (kind ≡ section_header_block → ⊥) → BeginsWith own bytes_here (spelled_front own kind body rest)
  begins_other other =
      record {
        spelled = block_spelled own kind body rest;
        kind = fits.kind;
        total = fits.short;
        long = behind_long;
        order = inr (other, refl);
      }

  pub begins_own : (little : Bool) → kind ≡ section_header_block
      → take 4 (body ++ (number_bytes own 4 (length body + 12) ++ rest)) ≡ number_bytes own 4 byte_order_magic
      → BeginsWith little bytes_here (spelled_front own kind body rest)
  begins_own little is magic =
      record {
        spelled = block_spelled own kind body rest;
        kind = fits.kind;
        total = fits.short;
        long = behind_long;
        order = inl (is, magic);
      }

  there_whole : length body + 12 ≤ length bytes_here
  there_whole =
      let a = length-append (bytes_of_block own kind body) rest in
      let b = block_length own kind body in
      omega (arith, a, b)

  pub block_first : take (length body + 12) bytes_here ≡ bytes_of_block own kind body
  block_first = take_at (bytes_of_block own kind body) rest (length body + 12) (block_length own kind body)

  pub block_behind : drop (length body + 12) bytes_here ≡ rest
  block_behind = drop_at (bytes_of_block own kind body) rest (length body + 12) (block_length own kind body)

  last_total : number_of own 4 (drop (length body + 12 - 4) (bytes_of_block own kind body)) ≡ length body + 12
  last_total =
      let k = number_bytes own 4 kind in
      let t = number_bytes own 4 (length body + 12) in
      let a = number_bytes_length own 4 kind in
      let b = number_bytes_length own 4 (length body + 12) in
      let front = k ++ (t ++ body) in
      let split : bytes_of_block own kind body ≡ front ++ t = simp append_assoc refl in
      let count : length front ≡ length body + 12 - 4 = simp length-append (omega (arith, a, b)) in
      ap (λ bs. number_of own 4 (drop (length body + 12 - 4) bs)) split
      ∙ ap (number_of own 4) (drop_at front t (length body + 12 - 4) count)
      ∙ number_alone own 4 (length body + 12) fits.short

  good_form : (least : ℕ) → least ≤ length body + 12 → has_form own least (bytes_of_block own kind body) ≡ true
  unfolding has_form
  good_form least enough =
      let padded = fits.padded in
      rw (block_length own kind body)
      (and_from _ _ (and_from _ _ (eq-eqb ((length body + 12) % 4) 0 (omega arith)) (le-leb least (length body + 12) enough))
      (eq-eqb _ _ last_total))

  formed_good : (ints : List Seen) (type : Kind) → least_of type ≤ length body + 12
      → formed own ints type (bytes_of_block own kind body)
      ≡ with_total (length body + 12) (held own ints type (bytes_of_block own kind body))
  unfolding formed
  formed_good ints type enough =
      rw (good_form (least_of type) enough)
      (ap (λ n. with_total n (held own ints type (bytes_of_block own kind body))) (block_length own kind body))

  -- what is found is what the block holds
  whole_good : (little : Bool) → BeginsWith little bytes_here (spelled_front own kind body rest) → (ints : List Seen) (type : Kind)
      → least_of type ≤ length body + 12
      → whole_at own ints type bytes_here ≡ with_total (length body + 12) (held own ints type (bytes_of_block own kind body))
  whole_good little b ints type enough =
      whole_there little bytes_here (spelled_front own kind body rest) b ints type there_whole
      ∙ ap (λ block. formed own ints type block) block_first
      ∙ formed_good ints type enough

  pub section_found : (little : Bool) (interfaces : List Seen) → kind ≡ section_header_block
      → take 4 (body ++ (number_bytes own 4 (length body + 12) ++ rest)) ≡ number_bytes own 4 byte_order_magic
      → 16 ≤ length body → block_at little interfaces bytes_here
      ≡ with_total (length body + 12) (held own [] (type_of section_header_block) (bytes_of_block own kind body))
  section_found little interfaces is magic enough =
      let b = begins_own little is magic in
      let least = least_same section_header_block in
      section_front little interfaces bytes_here (spelled_front own kind body rest) b is magic
      ∙ whole_good little b [] (type_of section_header_block) (omega (arith, least))

  pub other_found : (interfaces : List Seen) → (kind ≡ section_header_block → ⊥) → least_total kind ≤ length body + 12
      → block_at own interfaces bytes_here
      ≡ with_total (length body + 12) (held own interfaces (type_of kind) (bytes_of_block own kind body))
  other_found interfaces other enough =
      let b = begins_other other in
      let least = least_same kind in
      other_front own interfaces bytes_here (spelled_front own kind body rest) b other refl
      ∙ whole_good own b interfaces (type_of kind) (omega (arith, least))
