-- Blocks one after the other: a step at the front is the same whatever follows, and what bytes come to goes on from it.
use Rattle.std.proofs.Common.{◌≡◌, ℕ, zero, suc, ◌+◌, ◌<◌, ◌≤◌, ◌==◌, List, [], ◌++◌, length, drop, Option, Some, None, Result, Ok, Err, refl, sym, ap, ◌∙◌, arith, length-drop, inl, inr}
use Rattle.std.proofs.lemmas.Bool.{cases_Bool}
use Rattle.std.proofs.lemmas.List.{take-append-le, drop-append-le}
use Rattle.pcap_io.specs.declared.frame.Frame.{Frame}
use Rattle.pcap_io.specs.declared.numbers.TheConstants.{MAX_FRAMES}
use Rattle.pcapng_io.specs.declared.ng_block.BlockContent.{BlockContent}
use Rattle.pcapng_io.specs.declared.ng_block.BlockContent.TheVariants as blocks
use Rattle.pcapng_io.specs.declared.ng_block.BlockPacket.{BlockPacket}
use Rattle.pcapng_io.specs.declared.ng_block.WholeBlock.{WholeBlock}
use Rattle.pcapng_io.specs.declared.fault.BlockFault.{BlockFault}
use Rattle.pcapng_io.specs.declared.fault.NgFault.{NgFault}
use Rattle.pcapng_io.specs.declared.numbers.TheConstants.{MIN_BLOCK}
use Rattle.pcapng_io.specs.Blocks.{block_at}
use Rattle.pcapng_io.specs.declared.end.NgEnd.{NgEnd}
use Rattle.pcapng_io.specs.declared.end.NgEnd.TheVariants.{Faulty}
use Rattle.pcapng_io.specs.NgReading.{NgPlace, NgStep, Ends, Goes, fault_in, after, step_over, step_with, step, start, start_end, end_at, end_at_start, ng_capture_of, with_front, ended, blocks_of, reading}
use Rattle.pcapng_io.proofs.Prefix.{block_at_more, block_at_within}

-- ---- one step

-- the block at the front, as a place reads it
abbrev pub front_of : NgPlace → List ℕ → Result (Option WholeBlock) BlockFault
front_of p bytes = block_at p.little p.interfaces bytes

pub step_front : (p : NgPlace) (bytes : List ℕ) (r : Result (Option WholeBlock) BlockFault) → front_of p bytes ≡ r
    → step p bytes ≡ step_with p bytes r
unfolding step
step_front p bytes r is = ap (step_with p bytes) is

step_over_more : (p : NgPlace) (bytes more : List ℕ) (total : ℕ) (b : BlockContent) → total ≤ length bytes
    → step_over p (bytes ++ more) total b ≡ step_over p bytes total b
step_over_more p bytes more total (blocks.Section little) h = refl
step_over_more p bytes more total (blocks.Interface i) h = refl
step_over_more p bytes more total (blocks.Packet packet) h = rw (take-append-le total bytes more h) refl
step_over_more p bytes more total blocks.Skipped h = refl

step_with_more : (p : NgPlace) (bytes more : List ℕ) (r : Result (Option WholeBlock) BlockFault) → front_of p bytes ≡ r
    → (r ≡ Ok None → ⊥) → step p (bytes ++ more) ≡ step p bytes
step_with_more p bytes more (Ok None) is some = absurd (some refl)
step_with_more p bytes more (Ok (Some whole)) is some =
    let same = block_at_more p.little p.interfaces bytes more (λ none. some (sym is ∙ none)) in
    let within = block_at_within p.little p.interfaces bytes whole is in
    step_front p (bytes ++ more) (Ok (Some whole)) (same ∙ is)
    ∙ step_over_more p bytes more whole.total whole.block within.there
    ∙ sym (step_front p bytes (Ok (Some whole)) is)
step_with_more p bytes more (Err fault) is some =
    let same = block_at_more p.little p.interfaces bytes more (λ none. some (sym is ∙ none)) in
    step_front p (bytes ++ more) (Err fault) (same ∙ is) ∙ sym (step_front p bytes (Err fault) is)

-- a step is the same whatever follows, but for a block that is cut
step_more : (p : NgPlace) (bytes more : List ℕ) → (front_of p bytes ≡ Ok None → ⊥) → step p (bytes ++ more) ≡ step p bytes
step_more p bytes more some = step_with_more p bytes more (front_of p bytes) refl some

end_at_no_fault : (p : NgPlace) (bytes : List ℕ) (fault : NgFault) → end_at p bytes ≡ Faulty fault → ⊥
end_at_no_fault p bytes fault is = elim (cases_Bool (length bytes == 0)) [
  | inl none ↦ let found = rw none at is in cc
  | inr some ↦ let found = rw some at is in cc
]

fault_some : (p : NgPlace) (bytes : List ℕ) (fault : NgFault) → step p bytes ≡ Ends (Faulty fault) → front_of p bytes ≡ Ok None → ⊥
fault_some p bytes fault is none =
    let ends : Ends (end_at p bytes) ≡ Ends (Faulty fault) = sym (step_front p bytes (Ok None) none) ∙ is in
    let same : end_at p bytes ≡ Faulty fault = cc in
    end_at_no_fault p bytes fault same

goes_some : (p next : NgPlace) (bytes : List ℕ) (frames : List Frame) (total : ℕ) → step p bytes ≡ Goes frames next total
    → front_of p bytes ≡ Ok None → ⊥
goes_some p next bytes frames total is none =
    let ends : Ends (end_at p bytes) ≡ Goes frames next total = sym (step_front p bytes (Ok None) none) ∙ is in
    cc

step_over_total : (p next : NgPlace) (bytes : List ℕ) (total n : ℕ) (b : BlockContent) (frames : List Frame)
    → step_over p bytes total b ≡ Goes frames next n → n ≡ total
step_over_total p next bytes total n (blocks.Section little) frames is = cc
step_over_total p next bytes total n (blocks.Interface i) frames is = cc
step_over_total p next bytes total n blocks.Skipped frames is = cc
step_over_total p next bytes total n (blocks.Packet packet) frames is = elim (cases_Bool (p.packets == MAX_FRAMES)) [
  | inl many ↦ absurd (let found = rw many at is in cc)
  | inr few ↦ let found = rw few at is in cc
]

goes_within : (p next : NgPlace) (bytes : List ℕ) (frames : List Frame) (total : ℕ) (r : Result (Option WholeBlock) BlockFault)
    → front_of p bytes ≡ r → step p bytes ≡ Goes frames next total → (MIN_BLOCK ≤ total) × (total ≤ length bytes)
goes_within p next bytes frames total (Ok None) is goes = absurd (goes_some p next bytes frames total goes is)
goes_within p next bytes frames total (Err fault) is goes =
    let ends : Ends (Faulty (fault_in (p.blocks + 1) fault)) ≡ Goes frames next total = sym (step_front p bytes (Err fault) is) ∙ goes in
    absurd (cc)
goes_within p next bytes frames total (Ok (Some whole)) is goes =
    let within = block_at_within p.little p.interfaces bytes whole is in
    let over = sym (step_front p bytes (Ok (Some whole)) is) ∙ goes in
    let same = step_over_total p next bytes whole.total total whole.block frames over in
    let some = within.some in
    let there = within.there in
    (omega (arith, same), omega (arith, same))

-- a step over a block that is no packet
pub step_over_other : (p : NgPlace) (bytes : List ℕ) (total : ℕ) (b : BlockContent)
    → ((packet : BlockPacket) → b ≡ blocks.Packet packet → ⊥) → step_over p bytes total b ≡ Goes [] (after p b) total
step_over_other p bytes total (blocks.Section little) other = refl
step_over_other p bytes total (blocks.Interface i) other = refl
step_over_other p bytes total blocks.Skipped other = refl
step_over_other p bytes total (blocks.Packet packet) other = absurd (other packet refl)

-- ---- many steps

pub blocks_of_ends : (most : ℕ) (p : NgPlace) (bytes : List ℕ) (end : NgEnd) → step p bytes ≡ Ends end
    → blocks_of (suc most) p bytes ≡ ended end
unfolding blocks_of
blocks_of_ends most p bytes end is = rw (is, blocks_of) refl

pub blocks_of_goes : (most : ℕ) (p next : NgPlace) (bytes : List ℕ) (frames : List Frame) (total : ℕ) → step p bytes
    ≡ Goes frames next total
    → blocks_of (suc most) p bytes ≡ with_front frames (blocks_of most next (drop total bytes))
unfolding blocks_of
blocks_of_goes most p next bytes frames total is = rw (is, blocks_of) refl

enough_step : (m n : ℕ) (p : NgPlace) (bytes : List ℕ) (s : NgStep) → step p bytes ≡ s → length bytes < suc m → length bytes < suc n
    → ((q : NgPlace) (rest : List ℕ) → length rest < m → length rest < n → blocks_of m q rest ≡ blocks_of n q rest)
    → blocks_of (suc m) p bytes ≡ blocks_of (suc n) p bytes
enough_step m n p bytes (Ends end) is hm hn again = blocks_of_ends m p bytes end is ∙ sym (blocks_of_ends n p bytes end is)
enough_step m n p bytes (Goes frames next total) is hm hn again =
    let within = goes_within p next bytes frames total (front_of p bytes) refl is in
    let some = within.0 in
    let there = within.1 in
    let len = length-drop total bytes in
    blocks_of_goes m p next bytes frames total is
    ∙ ap (with_front frames) (again next (drop total bytes) (omega (arith, len)) (omega (arith, len)))
    ∙ sym (blocks_of_goes n p next bytes frames total is)

-- any number above that of the bytes is enough
blocks_of_enough : (m n : ℕ) (p : NgPlace) (bytes : List ℕ) → length bytes < m → length bytes < n → blocks_of m p bytes
    ≡ blocks_of n p bytes
blocks_of_enough zero n p bytes hm hn = absurd (omega arith)
blocks_of_enough (suc m) zero p bytes hm hn = absurd (omega arith)
blocks_of_enough (suc m) (suc n) p bytes hm hn =
    enough_step m n p bytes (step p bytes) refl hm hn (λ q rest a b. blocks_of_enough m n q rest a b)

pub reading_ends : (p : NgPlace) (bytes : List ℕ) (end : NgEnd) → step p bytes ≡ Ends end → reading p bytes ≡ ended end
unfolding reading
reading_ends p bytes end is = blocks_of_ends (length bytes) p bytes end is

pub reading_goes : (p next : NgPlace) (bytes : List ℕ) (frames : List Frame) (total : ℕ) → step p bytes ≡ Goes frames next total
    → reading p bytes ≡ with_front frames (reading next (drop total bytes))
unfolding reading
reading_goes p next bytes frames total is =
    let within = goes_within p next bytes frames total (front_of p bytes) refl is in
    let some = within.0 in
    let there = within.1 in
    let len = length-drop total bytes in
    blocks_of_goes (length bytes) p next bytes frames total is
    ∙ ap (with_front frames) (blocks_of_enough (length bytes) (suc (length (drop total bytes))) next (drop total bytes)
    (omega (arith, len)) (omega arith))

-- a first block that is cut or faulty is the end
start_with : (bytes : List ℕ) (end : NgEnd) (s : NgStep) → step start bytes ≡ s → start_end s ≡ Some end
    → ng_capture_of bytes ≡ record { frames = []; end = end }
start_with bytes end (Ends last) is some = let same : last ≡ end = cc in reading_ends start bytes last is ∙ ap ended same
start_with bytes end (Goes frames next total) is some = absurd (cc)

pub start_ended : (bytes : List ℕ) (end : NgEnd) → end_at_start bytes ≡ Some end → ng_capture_of bytes ≡ record { frames = []; end = end }
start_ended bytes end some = start_with bytes end (step start bytes) refl some

-- ---- whatever follows

-- what comes after a step, of these bytes and of any that follow
pub goes_more : (p next : NgPlace) (bytes : List ℕ) (frames : List Frame) (total : ℕ) → step p bytes ≡ Goes frames next total
    → (more : List ℕ) → reading p (bytes ++ more) ≡ with_front frames (reading next (drop total bytes ++ more))
goes_more p next bytes frames total is more =
    let within = goes_within p next bytes frames total (front_of p bytes) refl is in
    reading_goes p next (bytes ++ more) frames total
    (step_more p bytes more (goes_some p next bytes frames total is) ∙ is)
    ∙ ap (λ rest. with_front frames (reading next rest)) (drop-append-le total bytes more within.1)

-- a fault comes whatever follows
pub fault_more : (p : NgPlace) (bytes : List ℕ) (fault : NgFault) → step p bytes ≡ Ends (Faulty fault)
    → (more : List ℕ) → reading p (bytes ++ more) ≡ ended (Faulty fault)
fault_more p bytes fault is more =
    reading_ends p (bytes ++ more) (Faulty fault) (step_more p bytes more (fault_some p bytes fault is) ∙ is)
