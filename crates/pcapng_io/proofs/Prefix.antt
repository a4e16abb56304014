-- What stands at the front of bytes is the same where more bytes follow, and a block lies within its length.
use Rattle.std.proofs.Common.{◌≡◌, ℕ, ◌+◌, ◌%◌, ◌≤◌, ◌==◌, ◌&&◌, nat_le, Bool, true, false, cond, List, [], ◌++◌, length, take, drop, slice_get, Option, Some, None, Result, Ok, Err, refl, sym, ap, ◌∙◌, arith, length-append, length-drop, inl, inr}
use Rattle.std.proofs.lemmas.Bool.{cases_lt, cases_Bool, lt-ltb, le-ltb, leb-true, and_parts}
use Rattle.std.proofs.lemmas.List.{take-append-le, drop-append-le, length-take-le}
use Rattle.pcap_io.specs.Numbers.{number_of}
use Rattle.pcap_io.proofs.CaptureNumberLemmas.{number_of_take}
use Rattle.pcapng_io.specs.declared.ng_block.BlockContent.{BlockContent}
use Rattle.pcapng_io.specs.declared.ng_block.BlockContent.TheVariants as blocks
use Rattle.pcapng_io.specs.declared.ng_block.BlockPacket.{BlockPacket}
use Rattle.pcapng_io.specs.declared.ng_block.BlockType.{BlockType}
use Rattle.pcapng_io.specs.declared.ng_block.BlockType.TheVariants as types
use Rattle.pcapng_io.specs.declared.ng_block.Interface.{Interface}
use Rattle.pcapng_io.specs.declared.ng_block.WholeBlock.{WholeBlock}
use Rattle.pcapng_io.specs.declared.fault.BlockFault.{BlockFault}
use Rattle.pcapng_io.specs.declared.numbers.TheConstants.{MIN_BLOCK, MIN_ENHANCED, MIN_SIMPLE, ENHANCED_START, SIMPLE_START, MAJOR}
use Rattle.pcapng_io.specs.Blocks.{begins_section, order_of, type_of, total_at, least_of, has_form, filled, kept, packet_of, section_in, enhanced_in, simple_of, held, with_total, formed, whole_at, section_at, block_at}

-- ---- more bytes

-- a number that lies within bytes
pub number_at_more : (little : Bool) (at n : ℕ) (xs more : List ℕ) → at + n ≤ length xs
    → number_of little n (drop at (xs ++ more)) ≡ number_of little n (drop at xs)
number_at_more little at n xs more h =
    let len = length-drop at xs in
    ap (number_of little n) (drop-append-le at xs more (omega arith))
    ∙ sym (number_of_take little n (drop at xs ++ more))
    ∙ ap (number_of little n) (take-append-le n (drop at xs) more (omega (arith, len)))
    ∙ number_of_take little n (drop at xs)

order_of_more : (xs more : List ℕ) → MIN_BLOCK ≤ length xs → order_of (xs ++ more) ≡ order_of xs
unfolding order_of
order_of_more xs more h =
    rw (number_at_more true 8 4 xs more (omega arith), number_at_more false 8 4 xs more (omega arith)) refl

whole_at_more : (little : Bool) (interfaces : List Interface) (kind : BlockType) (xs more : List ℕ) → MIN_BLOCK ≤ length xs
    → (whole_at little interfaces kind xs ≡ Ok None → ⊥)
    → whole_at little interfaces kind (xs ++ more) ≡ whole_at little interfaces kind xs
unfolding whole_at
whole_at_more little interfaces kind xs more h some = elim (cases_lt (length xs) (total_at little xs)) [
  | inl cut ↦ absurd (some (rw (lt-ltb (length xs) (total_at little xs) cut) refl))
  | inr whole ↦
      let len = length-append xs more in
      let same = number_at_more little 4 4 xs more (omega arith) in
      let longer : total_at little xs ≤ length (xs ++ more) = omega (arith, len) in
      rw (
        same,
        le-ltb (length (xs ++ more)) (total_at little xs) longer,
        le-ltb (length xs) (total_at little xs) whole,
        take-append-le (total_at little xs) xs more whole,
      ) refl
]

section_at_more : (order : Option Bool) (xs more : List ℕ) → MIN_BLOCK ≤ length xs → (section_at order xs ≡ Ok None → ⊥)
    → section_at order (xs ++ more) ≡ section_at order xs
section_at_more (Some little) xs more h some = whole_at_more little [] types.Section xs more h some
section_at_more None xs more h some = refl

front_more : (begins : Bool) (order : Option Bool) (little : Bool) (interfaces : List Interface) (kind : BlockType) (xs more : List ℕ)
    → MIN_BLOCK ≤ length xs → (cond begins (section_at order xs) (whole_at little interfaces kind xs) ≡ Ok None → ⊥)
    → cond begins (section_at order (xs ++ more)) (whole_at little interfaces kind (xs ++ more))
    ≡ cond begins (section_at order xs) (whole_at little interfaces kind xs)
front_more true order little interfaces kind xs more h some = section_at_more order xs more h some
front_more false order little interfaces kind xs more h some = whole_at_more little interfaces kind xs more h some

-- a block that is whole, or faulty, is so whatever follows
pub block_at_more : (little : Bool) (interfaces : List Interface) (xs more : List ℕ) → (block_at little interfaces xs ≡ Ok None → ⊥)
    → block_at little interfaces (xs ++ more) ≡ block_at little interfaces xs
unfolding block_at
block_at_more little interfaces xs more some = elim (cases_lt (length xs) MIN_BLOCK) [
  | inl short ↦ absurd (some (rw (lt-ltb (length xs) MIN_BLOCK short) refl))
  | inr h ↦
      let len = length-append xs more in
      let longer : MIN_BLOCK ≤ length (xs ++ more) = omega (arith, len) in
      let begins = number_at_more false 0 4 xs more (omega arith) in
      let number = number_at_more little 0 4 xs more (omega arith) in
      let there = λ (is : cond (begins_section xs) (section_at (order_of xs) xs)
      (whole_at little interfaces (type_of (number_of little 4 xs)) xs) ≡ Ok None). some (rw (le-ltb (length xs) MIN_BLOCK h) is) in
      rw (le-ltb (length (xs ++ more)) MIN_BLOCK longer, le-ltb (length xs) MIN_BLOCK h, begins, number, order_of_more xs more h)
      (front_more (begins_section xs) (order_of xs) little interfaces (type_of (number_of little 4 xs)) xs more h there)
]

-- ---- within its length

least_some : (kind : BlockType) → MIN_BLOCK ≤ least_of kind
least_some types.Section = omega arith
least_some types.Interface = omega arith
least_some types.EnhancedPacket = omega arith
least_some types.SimplePacket = omega arith
least_some types.OldPacket = omega arith
least_some types.Other = omega arith

pub has_form_least : (little : Bool) (least : ℕ) (block : List ℕ) → has_form little least block ≡ true → least ≤ length block
unfolding has_form
has_form_least little least block is =
    let front = and_parts ((length block % 4 == 0) && nat_le least (length block)) _ is in
    let both = and_parts (length block % 4 == 0) (nat_le least (length block)) front.0 in
    leb-true least (length block) both.1

-- the packet of a block lies in its bytes
abbrev pub PacketWithin : ℕ → BlockContent → Type 0
PacketWithin len (blocks.Section little) = Unit {0}
PacketWithin len (blocks.Interface i) = Unit {0}
PacketWithin len (blocks.Packet p) = p.start + p.captured ≤ len
PacketWithin len blocks.Skipped = Unit {0}

packet_of_within : (o : Option Interface) (start captured original len : ℕ) (b : BlockContent) → start + captured ≤ len
    → packet_of o start captured original ≡ Ok b → PacketWithin len b
packet_of_within None start captured original len b h is = absurd (cc)
packet_of_within (Some i) start captured original len (blocks.Section little) h is = tt
packet_of_within (Some i) start captured original len (blocks.Interface j) h is = tt
packet_of_within (Some i) start captured original len blocks.Skipped h is = tt
packet_of_within (Some i) start captured original len (blocks.Packet p) h is =
    let made : BlockPacket = record { link = i.link; start = start; captured = captured; original = original } in
    let same : made ≡ p = cc in
    let at = ap (λ (q : BlockPacket). q.start) same in
    let count = ap (λ (q : BlockPacket). q.captured) same in
    omega (arith, at, count)

enhanced_within : (little : Bool) (interfaces : List Interface) (block : List ℕ) (b : BlockContent)
    → enhanced_in little interfaces block ≡ Ok b → PacketWithin (length block) b
unfolding enhanced_in
enhanced_within little interfaces block b is =
    let n = number_of little 4 (drop 20 block) in
    elim (cases_Bool (nat_le (MIN_ENHANCED + filled n) (length block))) [
      | inl fits ↦
          let found = rw fits at is in
          let room = leb-true (MIN_ENHANCED + filled n) (length block) fits in
          packet_of_within (slice_get interfaces (number_of little 4 (drop 8 block))) ENHANCED_START n
          (number_of little 4 (drop 24 block)) (length block) b (omega arith) found
      | inr none ↦ absurd (let found = rw none at is in cc)
    ]

simple_within : (o : Option Interface) (original : ℕ) (block : List ℕ) (b : BlockContent)
    → simple_of o original block ≡ Ok b → PacketWithin (length block) b
unfolding simple_of
simple_within None original block b is = absurd (cc)
simple_within (Some i) original block b is =
    let n = kept i.snaplen original in
    elim (cases_Bool (nat_le (MIN_SIMPLE + filled n) (length block))) [
      | inl fits ↦
          let found = rw fits at is in
          let room = leb-true (MIN_SIMPLE + filled n) (length block) fits in
          packet_of_within (Some i) SIMPLE_START n original (length block) b (omega arith) found
      | inr none ↦ absurd (let found = rw none at is in cc)
    ]

section_within : (little : Bool) (block : List ℕ) (b : BlockContent) → section_in little block ≡ Ok b → PacketWithin (length block) b
unfolding section_in
section_within little block (blocks.Section order) is = tt
section_within little block (blocks.Interface i) is = tt
section_within little block blocks.Skipped is = tt
section_within little block (blocks.Packet p) is = elim (cases_Bool (number_of little 2 (drop 12 block) == MAJOR)) [
  | inl so ↦ absurd (let found = rw so at is in cc)
  | inr other ↦ absurd (let found = rw other at is in cc)
]

interface_within : (len : ℕ) (i : Interface) (b : BlockContent) (r : Result BlockContent BlockFault) → r ≡ Ok (blocks.Interface i)
    → r ≡ Ok b → PacketWithin len b
interface_within len i (blocks.Section order) r made is = tt
interface_within len i (blocks.Interface j) r made is = tt
interface_within len i blocks.Skipped r made is = tt
interface_within len i (blocks.Packet p) r made is = absurd (cc)

skipped_within : (len : ℕ) (b : BlockContent) (r : Result BlockContent BlockFault) → r ≡ Ok blocks.Skipped → r ≡ Ok b → PacketWithin len b
skipped_within len (blocks.Section order) r made is = tt
skipped_within len (blocks.Interface j) r made is = tt
skipped_within len blocks.Skipped r made is = tt
skipped_within len (blocks.Packet p) r made is = absurd (cc)

held_within : (little : Bool) (interfaces : List Interface) (kind : BlockType) (block : List ℕ) (b : BlockContent)
    → held little interfaces kind block ≡ Ok b → PacketWithin (length block) b
held_within little interfaces types.Section block b is = section_within little block b is
held_within little interfaces types.Interface block b is = interface_within (length block) _ b _ refl is
held_within little interfaces types.EnhancedPacket block b is = enhanced_within little interfaces block b is
held_within little interfaces types.SimplePacket block b is =
    simple_within (slice_get interfaces 0) (number_of little 4 (drop 8 block)) block b is
held_within little interfaces types.OldPacket block b is = absurd (cc)
held_within little interfaces types.Other block b is = skipped_within (length block) b _ refl is

-- a whole block lies in bytes, and its packet in it
pub record Within (bytes : List ℕ) (whole : WholeBlock) : Type 0 where
  pub some : MIN_BLOCK ≤ whole.total
  pub there : whole.total ≤ length bytes
  pub packet : PacketWithin whole.total whole.block

with_total_within : (r : Result BlockContent BlockFault) (bytes : List ℕ) (whole : WholeBlock) (total : ℕ) → MIN_BLOCK ≤ total
    → total ≤ length bytes → ((b : BlockContent) → r ≡ Ok b → PacketWithin total b) → with_total total r ≡ Ok (Some whole)
    → Within bytes whole
with_total_within (Err fault) bytes whole total some there within is = absurd (cc)
with_total_within (Ok block) bytes whole total some there within is =
    let made : WholeBlock = record { total = total; block = block } in
    let same : made ≡ whole = cc in
    rw (← same) (record { some = some; there = there; packet = within block refl })

formed_within : (little : Bool) (interfaces : List Interface) (kind : BlockType) (bytes block : List ℕ) (whole : WholeBlock)
    → length block ≤ length bytes → formed little interfaces kind block ≡ Ok (Some whole) → Within bytes whole
unfolding formed
formed_within little interfaces kind bytes block whole there is =
    elim (cases_Bool (has_form little (least_of kind) block)) [
      | inl so ↦
          let found = rw so at is in
          let least = has_form_least little (least_of kind) block so in
          let some = least_some kind in
          with_total_within (held little interfaces kind block) bytes whole (length block) (omega arith) there
          (λ b h. held_within little interfaces kind block b h) found
      | inr other ↦ absurd (let found = rw other at is in cc)
    ]

whole_at_within : (little : Bool) (interfaces : List Interface) (kind : BlockType) (bytes : List ℕ) (whole : WholeBlock)
    → whole_at little interfaces kind bytes ≡ Ok (Some whole) → Within bytes whole
unfolding whole_at
whole_at_within little interfaces kind bytes whole is = elim (cases_lt (length bytes) (total_at little bytes)) [
  | inl cut ↦ absurd (let found = rw (lt-ltb (length bytes) (total_at little bytes) cut) at is in cc)
  | inr there ↦
      let found = rw (le-ltb (length bytes) (total_at little bytes) there) at is in
      let len = length-take-le (total_at little bytes) bytes there in
      formed_within little interfaces kind bytes (take (total_at little bytes) bytes) whole (omega arith) found
]

section_at_within : (order : Option Bool) (bytes : List ℕ) (whole : WholeBlock) → section_at order bytes ≡ Ok (Some whole)
    → Within bytes whole
section_at_within (Some little) bytes whole is = whole_at_within little [] types.Section bytes whole is
section_at_within None bytes whole is = absurd (cc)

pub block_at_within : (little : Bool) (interfaces : List Interface) (bytes : List ℕ) (whole : WholeBlock)
    → block_at little interfaces bytes ≡ Ok (Some whole) → Within bytes whole
unfolding block_at
block_at_within little interfaces bytes whole is = elim (cases_lt (length bytes) MIN_BLOCK) [
  | inl short ↦ absurd (let found = rw (lt-ltb (length bytes) MIN_BLOCK short) at is in cc)
  | inr h ↦
      let found = rw (le-ltb (length bytes) MIN_BLOCK h) at is in
      elim (cases_Bool (begins_section bytes)) [
        | inl so ↦ section_at_within (order_of bytes) bytes whole (rw so at found)
        | inr other ↦ whole_at_within little interfaces (type_of (number_of little 4 bytes)) bytes whole (rw other at found)
      ]
]
