-- Blocks that a cursor passes.
use Rattle.std.proofs.Common.{◌≡◌, ℕ, ◌+◌, ◌-◌, ◌*◌, ◌<◌, ◌≤◌, List, [], ◌∷◌, ◌++◌, length, take, drop, Option, Some, None, Result, Ok, Err, refl, sym, ap, subst, ◌∙◌, arith, length-drop, length-take}
use Rattle.std.proofs.lemmas.Bool.{eq-eqb, ne_eqb}
use Rattle.std.proofs.lemmas.List.{drop-drop, take-take}
use Rattle.pcap_io.specs.declared.frame.Body.{Body}
use Rattle.pcap_io.specs.declared.frame.Frame.{Frame}
use Rattle.pcap_io.specs.declared.numbers.TheConstants.{MAX_FRAMES}
use Rattle.pcapng_io.specs.declared.ng_block.BlockContent.{BlockContent}
use Rattle.pcapng_io.specs.declared.ng_block.BlockContent.TheVariants as blocks
use Rattle.pcapng_io.specs.declared.ng_block.BlockPacket.{BlockPacket}
use Rattle.pcapng_io.specs.declared.ng_block.Interface.{Interface}
use Rattle.pcapng_io.specs.declared.ng_block.WholeBlock.{WholeBlock}
use Rattle.pcapng_io.specs.declared.fault.BlockFault.{BlockFault}
use Rattle.pcapng_io.specs.declared.fault.BlockFault.TheVariants as faults
use Rattle.pcapng_io.specs.declared.fault.NgFault.{NgFault}
use Rattle.pcapng_io.specs.declared.fault.NgFault.TheVariants as ng
use Rattle.pcapng_io.specs.declared.fault.NgFault.TheVariants.{FrameLimit}
use Rattle.pcapng_io.specs.declared.cursor.NgCursor.{NgCursor}
use Rattle.pcapng_io.specs.declared.cursor.PacketBlock.{PacketBlock}
use Rattle.pcapng_io.specs.Blocks.{block_at, body_of}
use Rattle.pcapng_io.specs.declared.end.NgEnd.TheVariants.{Faulty}
use Rattle.pcapng_io.specs.NgReading.{NgPlace, Goes, fault_in, after, frame_of, step_over, with_front, ended, reading}
use Rattle.pcapng_io.specs.Taking.{NgSeen, ByFault, Refused, coming_with, coming}
use Rattle.pcapng_io.specs.Passing.{place_of, Lies, IsRoom, Passes, BlocksPassed, IsEnd, IsFault, IsPacket, PassesTo, TakesOver}
use Rattle.pcapng_io.proofs.Prefix.{Within, block_at_within}
use Rattle.pcapng_io.proofs.NgSteps.{step_front, step_over_other, goes_more, fault_more}

-- the whole block at a cursor
abbrev pub IsWhole : List ℕ → NgCursor → List Interface → WholeBlock → Type 0
IsWhole input m described whole = block_at m.little (drop m.first described) (drop m.at input) ≡ Ok (Some whole)

pub whole_within : (input : List ℕ) (m : NgCursor) (described : List Interface) (whole : WholeBlock) → IsWhole input m described whole
    → Within (drop m.at input) whole
whole_within input m described whole is = block_at_within m.little (drop m.first described) (drop m.at input) whole is

pub whole_room : (input : List ℕ) (m : NgCursor) (described : List Interface) (whole : WholeBlock) → Lies m described input
    → IsWhole input m described whole → IsRoom m described whole
whole_room input m described whole lies is =
    let within = whole_within input m described whole is in
    let there = within.there in
    let some = within.some in
    let len = length-drop m.at input in
    record {
      at = omega (arith, len);
      first = lies.first;
      blocks = omega (arith, len);
      packets = lies.packets;
    }

blocks_counted : (p : NgPlace) (b : BlockContent) → (after p b).blocks ≡ p.blocks + 1
blocks_counted p (blocks.Section little) = refl
blocks_counted p (blocks.Interface i) = refl
blocks_counted p (blocks.Packet packet) = refl
blocks_counted p blocks.Skipped = refl

abbrev frames_count : BlockContent → ℕ
frames_count (blocks.Section little) = 0
frames_count (blocks.Interface i) = 0
frames_count (blocks.Packet packet) = 1
frames_count blocks.Skipped = 0

packets_counted : (p : NgPlace) (b : BlockContent) → (after p b).packets ≡ p.packets + frames_count b
packets_counted p (blocks.Section little) = omega arith
packets_counted p (blocks.Interface i) = omega arith
packets_counted p (blocks.Packet packet) = refl
packets_counted p blocks.Skipped = omega arith

-- a step over the block at a cursor, whatever follows the input
passes_step : (input : List ℕ) (old new : NgCursor) (olds news : List Interface) (whole : WholeBlock) (frames : List Frame)
    → IsWhole input old olds whole → Passes old new olds news whole
    → step_over (place_of old olds) (drop old.at input) whole.total whole.block
    ≡ Goes frames (after (place_of old olds) whole.block) whole.total
    → (more : List ℕ) → reading (place_of old olds) (drop old.at input ++ more)
    ≡ with_front frames (reading (place_of new news) (drop new.at input ++ more))
passes_step input old new olds news whole frames is p over more =
    let place = place_of old olds in
    goes_more place (after place whole.block) (drop old.at input) frames whole.total
    (step_front place (drop old.at input) (Ok (Some whole)) is ∙ over) more
    ∙ ap (λ q. with_front frames (reading q (drop whole.total (drop old.at input) ++ more))) (sym p.place)
    ∙ ap (λ rest. with_front frames (reading (place_of new news) (rest ++ more))) (drop-drop whole.total old.at input)
    ∙ ap (λ at. with_front frames (reading (place_of new news) (drop at input ++ more))) (sym p.at)

-- the cursor still lies in the input, and one block was counted
passes_lies : (input : List ℕ) (old new : NgCursor) (olds news : List Interface) (whole : WholeBlock) → Lies old olds input
    → IsWhole input old olds whole → Passes old new olds news whole → old.packets + frames_count whole.block ≤ MAX_FRAMES
    → Lies new news input × (12 * new.blocks + old.at ≤ 12 * old.blocks + new.at)
    × (new.packets ≡ old.packets + frames_count whole.block)
passes_lies input old new olds news whole lies is p few =
    let within = whole_within input old olds whole is in
    let there = within.there in
    let some = within.some in
    let len = length-drop old.at input in
    let at = p.at in
    let count : new.blocks ≡ old.blocks + 1 = ap (λ (q : NgPlace). q.blocks) p.place ∙ blocks_counted (place_of old olds) whole.block in
    let packets : new.packets ≡ old.packets + frames_count whole.block =
    ap (λ (q : NgPlace). q.packets) p.place ∙ packets_counted (place_of old olds) whole.block in
    let lies_at = lies.at in
    let lies_blocks = lies.blocks in (
      record {
        at = omega (arith, len);
        first = p.first;
        most = lies.most;
        blocks = omega (arith, len);
        packets = omega (arith, packets);
      },
      omega (arith, len),
      packets,
    )

frames_count_other : (b : BlockContent) → ((packet : BlockPacket) → b ≡ blocks.Packet packet → ⊥) → frames_count b ≡ 0
frames_count_other (blocks.Section little) other = refl
frames_count_other (blocks.Interface i) other = refl
frames_count_other (blocks.Packet packet) other = absurd (other packet refl)
frames_count_other blocks.Skipped other = refl

-- one more block that is no packet
pub passed_other : (input : List ℕ) (start old new : NgCursor) (starts olds news : List Interface) (whole : WholeBlock)
    → BlocksPassed input start old starts olds [] → IsWhole input old olds whole → Passes old new olds news whole
    → ((packet : BlockPacket) → whole.block ≡ blocks.Packet packet → ⊥) → BlocksPassed input start new starts news []
passed_other input start old new starts olds news whole passed is p other =
    let none = frames_count_other whole.block other in
    let lies = passed.lies in
    let few = lies.packets in
    let next = passes_lies input old new olds news whole lies is p (omega (arith, none)) in
    let before = passed.packets in
    let counted = passed.blocks in
    let one = next.1 in
    let packets = next.2 in
    record {
      lies = next.0;
      blocks = omega arith;
      packets = omega (arith, none);
      same = λ more. passed.same more
          ∙ passes_step input old new olds news whole [] is p
          (step_over_other (place_of old olds) (drop old.at input) whole.total whole.block other) more;
    }

-- ---- what stands at a cursor

abbrev pub IsFront : List ℕ → NgCursor → List Interface → Result (Option WholeBlock) BlockFault → Type 0
IsFront input m described r = block_at m.little (drop m.first described) (drop m.at input) ≡ r

pub end_at : (input : List ℕ) (m : NgCursor) (described : List Interface) → IsFront input m described (Ok None) → IsEnd input m described
end_at input m described is = step_front (place_of m described) (drop m.at input) (Ok None) is

pub fault_at : (input : List ℕ) (m : NgCursor) (described : List Interface) (found : BlockFault) (fault : NgFault)
    → IsFront input m described (Err found) → fault ≡ fault_in (m.blocks + 1) found → IsFault input m described fault
fault_at input m described found fault is same =
    rw same (step_front (place_of m described) (drop m.at input) (Err found) is)

pub limit_at : (input : List ℕ) (m : NgCursor) (described : List Interface) (found : PacketBlock) → IsPacket input m described found
    → m.packets ≡ MAX_FRAMES → IsFault input m described FrameLimit
limit_at input m described found is many =
    step_front (place_of m described) (drop m.at input) _ is ∙ rw (eq-eqb m.packets MAX_FRAMES many) refl

pub passes_shorter : (input : List ℕ) (old new : NgCursor) (olds news : List Interface) (whole : WholeBlock) → IsWhole input old olds whole
    → Passes old new olds news whole → length input - new.at < length input - old.at
passes_shorter input old new olds news whole is p =
    let within = whole_within input old olds whole is in
    let there = within.there in
    let some = within.some in
    let at = p.at in
    let len = length-drop old.at input in
    omega (arith, len)

-- a claim of each fault of the bytes
pub by_block_fault : (found : BlockFault) (n : ℕ) (fault : NgFault) (P Q : Type 0) → fault ≡ fault_in n found → Q → ByFault fault P Q
by_block_fault faults.Magic n fault P Q is q = rw is q
by_block_fault faults.Form n fault P Q is q = rw is q
by_block_fault faults.Version n fault P Q is q = rw is q
by_block_fault faults.OldBlock n fault P Q is q = rw is q
by_block_fault faults.Interface n fault P Q is q = rw is q

-- interfaces that are kept over two calls
pub kept_both : (xs ys zs : List Interface) → take (length xs) ys ≡ xs → take (length ys) zs ≡ ys → take (length xs) zs ≡ xs
kept_both xs ys zs first second =
    let len = length-take (length xs) ys in
    let same = ap length first in
    let below : length xs ≤ length ys = omega (arith, len, same) in
    sym (take-take (length xs) (length ys) zs below) ∙ ap (take (length xs)) second ∙ first

-- ---- the packet at a cursor

pub passes_some : (input : List ℕ) (old new : NgCursor) (olds news : List Interface) (gave : Option PacketBlock) (found : PacketBlock)
    → PassesTo input old new olds news (Ok gave) → gave ≡ Some found → PassesTo input old new olds news (Ok (Some found))
passes_some input old new olds news gave found passed is = subst (λ o. PassesTo input old new olds news (Ok o)) is passed

abbrev pub block_of : PacketBlock → WholeBlock
block_of found = record { total = found.total; block = blocks.Packet found.packet }

pub packet_within : (input : List ℕ) (m : NgCursor) (described : List Interface) (found : PacketBlock) → IsPacket input m described found
    → (found.total ≤ length (drop m.at input)) × (found.packet.start + found.packet.captured ≤ found.total)
packet_within input m described found is =
    let within = whole_within input m described (block_of found) is in (within.there, within.packet)

abbrev pub cursor_after : NgCursor → ℕ → NgCursor
cursor_after m total =
    record { at = m.at + total; little = m.little; first = m.first; blocks = m.blocks + 1; packets = m.packets + 1 }

packet_over : (p : NgPlace) (bytes : List ℕ) (found : PacketBlock) → (p.packets ≡ MAX_FRAMES → ⊥)
    → step_over p bytes found.total (blocks.Packet found.packet)
    ≡ Goes (frame_of p found.packet (take found.total bytes) ∷ []) (after p (blocks.Packet found.packet)) found.total
packet_over p bytes found few = rw (ne_eqb p.packets MAX_FRAMES few) refl

-- one more block, with a packet
pub passed_packet : (input : List ℕ) (start old : NgCursor) (starts olds : List Interface) (found : PacketBlock) (body : Body)
    → BlocksPassed input start old starts olds [] → IsPacket input old olds found → (old.packets ≡ MAX_FRAMES → ⊥)
    → body ≡ body_of found.packet (take found.total (drop old.at input))
    → BlocksPassed input start (cursor_after old found.total) starts olds (record { number = old.packets + 1; body = body } ∷ [])
passed_packet input start old starts olds found body passed is few same =
    let whole = block_of found in
    let new = cursor_after old found.total in
    let lies = passed.lies in
    let most = lies.packets in
    let p : Passes old new olds olds whole = record { at = refl; first = lies.first; place = refl } in
    let next = passes_lies input old new olds olds whole lies is p (omega arith) in
    let counted = passed.blocks in
    let before = passed.packets in
    let one = next.1 in
    let frame : Frame = record { number = old.packets + 1; body = body } in
    record {
      lies = next.0;
      blocks = omega arith;
      packets = omega arith;
      same = λ more. passed.same more
          ∙ rw same (passes_step input old new olds olds whole (frame_of (place_of old olds) found.packet
          (take found.total (drop old.at input)) ∷ []) is p
          (packet_over (place_of old olds) (drop old.at input) found few) more);
    }

-- ---- what `take` gives of a fault

pub by_fault : (fault : NgFault) (P Q : Type 0) → (fault ≡ ng.NoMemory → ⊥) → Q → ByFault fault P Q
by_fault ng.NoMemory P Q not q = absurd (not refl)
by_fault (ng.NgMagic n) P Q not q = q
by_fault (ng.NgBlock n) P Q not q = q
by_fault (ng.NgVersion n) P Q not q = q
by_fault (ng.NgOldBlock n) P Q not q = q
by_fault (ng.NgInterface n) P Q not q = q
by_fault ng.FrameLimit P Q not q = q

pub from_fault : (fault : NgFault) (P Q : Type 0) → (fault ≡ ng.NoMemory → ⊥) → ByFault fault P Q → Q
from_fault ng.NoMemory P Q not q = absurd (not refl)
from_fault (ng.NgMagic n) P Q not q = q
from_fault (ng.NgBlock n) P Q not q = q
from_fault (ng.NgVersion n) P Q not q = q
from_fault (ng.NgOldBlock n) P Q not q = q
from_fault (ng.NgInterface n) P Q not q = q
from_fault ng.FrameLimit P Q not q = q

-- a fault that was met after blocks were passed
pub refused_after : (input : List ℕ) (old new : NgCursor) (olds news : List Interface) (fault : NgFault) (more : List ℕ)
    → BlocksPassed input old new olds news [] → IsFault input new news fault
    → reading (place_of old olds) (drop old.at input ++ more) ≡ ended (Faulty fault)
refused_after input old new olds news fault more passed is =
    passed.same more ∙ fault_more (place_of new news) (drop new.at input) fault is more

pub none_from : (o : Option NgFault) → ((fault : NgFault) → o ≡ Some fault → ⊥) → o ≡ None
none_from None not = refl
none_from (Some fault) not = absurd (not fault refl)

-- the same of a reader that stands at the first cursor
pub refused_coming : (r : NgSeen) (input : List ℕ) (old new : NgCursor) (olds news : List Interface) (fault : NgFault) (more : List ℕ)
    → r.fault ≡ None → r.place ≡ place_of old olds → r.rest ≡ drop old.at input
    → BlocksPassed input old new olds news [] → IsFault input new news fault → coming r more ≡ ended (Faulty fault)
refused_coming r input old new olds news fault more none place rest passed is =
    ap (λ f. coming_with f r.place (r.rest ++ more)) none
    ∙ ap (λ p. reading p (r.rest ++ more)) place
    ∙ ap (λ bytes. reading (place_of old olds) (bytes ++ more)) rest
    ∙ refused_after input old new olds news fault more passed is

-- a reader that stood at the first cursor met a fault
pub refused_met : (old new : NgSeen) (input : List ℕ) (first last : NgCursor) (olds news : List Interface) (fault : NgFault)
    → old.fault ≡ None → old.place ≡ place_of first olds → old.rest ≡ drop first.at input → new.fed ≡ old.fed → new.fault ≡ Some fault
    → (fault ≡ ng.NoMemory → ⊥) → TakesOver input first last olds news (Err fault) → ByFault fault (new ≡ old) (Refused old new fault)
refused_met old new input first last olds news fault none place rest fed met not took =
    let passed = from_fault fault (Unit {0}) (BlocksPassed input first last olds news [] × IsFault input last news fault) not took in
    by_fault fault (new ≡ old) (Refused old new fault) not (record {
      fed = fed;
      met = met;
      comes = λ more. refused_coming old input first last olds news fault more none place rest passed.0 passed.1;
    })
