-- A file that goes on in a section: what stands behind some of its interfaces, and behind some packets.
use Rattle.std.proofs.Common.{◌≡◌, ℕ, zero, suc, ◌+◌, ◌<◌, ◌≤◌, Bool, false, List, [], ◌∷◌, ◌++◌, length, drop, All, refl, sym, ap, subst, ◌∙◌, arith, length-append, inl, inr}
use Rattle.std.specs.List.{flat_map}
use Rattle.std.proofs.lemmas.List.{append_assoc, append-nil, drop_at}
use Rattle.std.proofs.lemmas.List.Elements.{All-nil, All-cons, All-head, All-tail}
use Rattle.std.proofs.lemmas.Option.{slice_get-get_or}
use Rattle.pcapng_theory.specs.NgBlocks.{SectionHeader, section_header_body, section_header_block, section_header_bytes, FitsSectionHeader, InterfaceDescription, interface_description_block, interface_description_body, enhanced_packet_block, enhanced_packet_body, simple_packet_block, simple_packet_body, Block, Interface, Enhanced, Simple, Other, block_bytes, described_by, interfaces_in, Fits, Packet, packet_of, packets_by}
use Rattle.pcapng_theory.specs.NgEndings.{Ending, IsPacket, EndsAs}
use Rattle.pcapng_theory.specs.NgFiles.{Section, section_bytes, FitsSection, section_packets, File, file_packets, order_at_end, blocks_at_end, Spells}
use Rattle.pcapng_theory.proofs.Fronts.{AreBytes, bytes_behind, block_length}
use Rattle.pcapng_theory.proofs.BlockCases.{FrontCase}
use Rattle.pcapng_theory.proofs.FrontCases.{front_case}

abbrev pub file_of : List Block → List Section → List ℕ → Ending → File
file_of blocks sections rest ending = record { before_sections = blocks; sections = sections; rest = rest; ending = ending }

-- ---- blocks behind interfaces

abbrev pub packets_behind : List InterfaceDescription → List Block → List Packet
packets_behind before blocks = flat_map (packets_by (before ++ interfaces_in blocks)) blocks

abbrev pub FitBehind : Bool → List InterfaceDescription → List Block → Type 0
FitBehind little before blocks =
    (front : List Block) (block : Block) (behind : List Block) → blocks ≡ front ++ (block ∷ behind)
    → Fits little (before ++ interfaces_in front) block

abbrev pub interfaces_at_end : List InterfaceDescription → List Block → List Section → List InterfaceDescription
interfaces_at_end before blocks [] = before ++ interfaces_in blocks
interfaces_at_end before blocks (s ∷ more) = interfaces_at_end [] s.blocks more

abbrev pub all_packets : List InterfaceDescription → List Block → List Section → List Packet
all_packets before blocks sections = packets_behind before blocks ++ flat_map section_packets sections

pub record SpellsBehind (little : Bool) (before : List InterfaceDescription) (packets : ℕ) (bytes : List ℕ) (f : File) : Type 0 where
  pub whole : bytes ≡ flat_map (block_bytes little) f.before_sections ++ (flat_map section_bytes f.sections ++ f.rest)
  pub blocks : FitBehind little before f.before_sections
  pub sections : All FitsSection f.sections
  pub few : packets + length (all_packets before f.before_sections f.sections) ≤ 65536
  pub ends : EndsAs (order_at_end little f.sections) (interfaces_at_end before f.before_sections f.sections)
      (packets + length (all_packets before f.before_sections f.sections)) f.rest f.ending

-- ---- a file as a whole

at_end_same : (blocks : List Block) (sections : List Section) → interfaces_in (blocks_at_end blocks sections)
    ≡ interfaces_at_end [] blocks sections
at_end_same blocks [] = refl
at_end_same blocks (s ∷ more) = at_end_same s.blocks more

none_before : (n : ℕ) → n ≡ 0 + n
none_before n = omega arith

pub spelled_behind : (bytes : List ℕ) (f : File) → Spells bytes f → SpellsBehind false [] 0 bytes f
spelled_behind bytes f s =
    record {
      whole = s.whole;
      blocks = s.before_sections;
      sections = s.sections;
      few = let h = s.packets in omega arith;
      ends = subst (λ (n : ℕ). EndsAs (order_at_end false f.sections) (interfaces_at_end [] f.before_sections f.sections) n f.rest f.ending)
          (none_before (length (file_packets f)))
          (subst (λ (ds : List InterfaceDescription). EndsAs (order_at_end false f.sections) ds (length (file_packets f)) f.rest f.ending)
          (at_end_same f.before_sections f.sections) s.ends);
    }

pub spelled_whole : (bytes : List ℕ) (f : File) → AreBytes bytes → SpellsBehind false [] 0 bytes f → Spells bytes f
spelled_whole bytes f all s =
    record {
      are_bytes = all;
      whole = s.whole;
      before_sections = s.blocks;
      sections = s.sections;
      packets = let h = s.few in omega arith;
      ends = subst (λ (n : ℕ). EndsAs (order_at_end false f.sections) (interfaces_in (blocks_at_end f.before_sections f.sections)) n f.rest f.ending)
          (sym (none_before (length (file_packets f))))
          (subst (λ (ds : List InterfaceDescription). EndsAs (order_at_end false f.sections) ds (0 + length (file_packets f)) f.rest f.ending)
          (sym (at_end_same f.before_sections f.sections)) s.ends);
    }

-- ---- nothing more

pub no_block : (front : List Block) (block : Block) (behind : List Block) → [] ≡ front ++ (block ∷ behind) → ⊥
no_block front block behind is =
    let counts : 0 ≡ length (front ++ (block ∷ behind)) = ap length is in
    let all = length-append front (block ∷ behind) in
    omega arith

pub behind_end : (little : Bool) (before : List InterfaceDescription) (packets : ℕ) (bytes : List ℕ) (e : Ending) → packets ≤ 65536
    → EndsAs little before packets bytes e
    → SpellsBehind little before packets bytes (record { before_sections = []; sections = []; rest = bytes; ending = e })
behind_end little before packets bytes e within ends =
    let none : packets ≡ packets + 0 = omega arith in
    record {
      whole = refl;
      blocks = λ front block behind is. absurd (no_block front block behind is);
      sections = All-nil FitsSection;
      few = omega arith;
      ends = subst (λ (n : ℕ). EndsAs little (before ++ []) n bytes e) none
          (subst (λ (ds : List InterfaceDescription). EndsAs little ds packets bytes e) (sym (append-nil before)) ends);
    }

-- ---- one block more

abbrev pub packet_count : Block → ℕ
packet_count (Interface d) = 0
packet_count (Enhanced p) = 1
packet_count (Simple p) = 1
packet_count (Other kind body) = 0

abbrev pub no_description : InterfaceDescription
no_description = record { link_type = 0; reserved = 0; snap_len = 0; options = [] }

-- the packets in a block that may stand there are those that its place says
pub count_is : (little : Bool) (before more : List InterfaceDescription) (block : Block) → Fits little before block
    → length (packets_by (before ++ more) block) ≡ packet_count block
count_is little before more (Interface d) fits = refl
count_is little before more (Enhanced p) fits =
    let h = fits.1 in
    let all = length-append before more in
    let within : p.interface < length (before ++ more) = omega arith in
    ap (λ d. length (packet_of d p.original p.packet_data)) (slice_get-get_or (before ++ more) p.interface no_description within)
count_is little [] more (Simple p) fits = absurd (fits.1)
count_is little (first ∷ others) more (Simple p) fits = refl
count_is little before more (Other kind body) fits = refl

pub behind_cons : (before : List InterfaceDescription) (block : Block) (blocks : List Block) → packets_behind before (block ∷ blocks)
    ≡ packets_by (before ++ (described_by block ++ interfaces_in blocks)) block ++ packets_behind (before ++ described_by block) blocks
behind_cons before block blocks =
    ap (λ (all : List InterfaceDescription). packets_by (before ++ (described_by block ++ interfaces_in blocks)) block
    ++ flat_map (packets_by all) blocks) (sym (append_assoc before (described_by block) (interfaces_in blocks)))

pub count_cons : (little : Bool) (before : List InterfaceDescription) (block : Block) (blocks : List Block) (sections : List Section)
    → Fits little before block → length (all_packets before (block ∷ blocks) sections)
    ≡ packet_count block + length (all_packets (before ++ described_by block) blocks sections)
count_cons little before block blocks sections fits =
    let more = described_by block ++ interfaces_in blocks in
    let one = count_is little before more block fits in
    let own = packets_by (before ++ more) block in
    let later = packets_behind (before ++ described_by block) blocks in
    let behind = flat_map section_packets sections in
    let a = length-append (own ++ later) behind in
    let b = length-append own later in
    let c = length-append later behind in
    ap (λ (ps : List Packet). length (ps ++ behind)) (behind_cons before block blocks) ∙ omega (arith, one, a, b, c)

pub interfaces_cons : (before : List InterfaceDescription) (block : Block) (blocks : List Block) (sections : List Section)
    → interfaces_at_end before (block ∷ blocks) sections ≡ interfaces_at_end (before ++ described_by block) blocks sections
interfaces_cons before block blocks [] = sym (append_assoc before (described_by block) (interfaces_in blocks))
interfaces_cons before block blocks (s ∷ more) = refl

fit_cons : (little : Bool) (before : List InterfaceDescription) (first : Block) (blocks : List Block) → Fits little before first
    → FitBehind little (before ++ described_by first) blocks → FitBehind little before (first ∷ blocks)
fit_cons little before first blocks fits later [] block behind is =
    let same : first ≡ block = cc in
    subst (λ (ds : List InterfaceDescription). Fits little ds block) (sym (append-nil before))
    (subst (λ (b : Block). Fits little before b) same fits)
fit_cons little before first blocks fits later (x ∷ front) block behind is =
    let same : first ≡ x = cc in
    let more : blocks ≡ front ++ (block ∷ behind) = cc in
    subst (λ (ds : List InterfaceDescription). Fits little ds block)
    (append_assoc before (described_by first) (interfaces_in front)
    ∙ ap (λ (b : Block). before ++ (described_by b ++ interfaces_in front)) same)
    (later front block behind more)

pub fit_head : (little : Bool) (before : List InterfaceDescription) (first : Block) (blocks : List Block)
    → FitBehind little before (first ∷ blocks) → Fits little before first
fit_head little before first blocks fit =
    subst (λ (ds : List InterfaceDescription). Fits little ds first) (append-nil before) (fit [] first blocks refl)

pub fit_tail : (little : Bool) (before : List InterfaceDescription) (first : Block) (blocks : List Block)
    → FitBehind little before (first ∷ blocks) → FitBehind little (before ++ described_by first) blocks
fit_tail little before first blocks fit front block behind is =
    subst (λ (ds : List InterfaceDescription). Fits little ds block)
    (sym (append_assoc before (described_by first) (interfaces_in front)))
    (fit (first ∷ front) block behind (ap (λ (bs : List Block). first ∷ bs) is))

abbrev pub with_block : Block → File → File
with_block block f =
    record { before_sections = block ∷ f.before_sections; sections = f.sections; rest = f.rest; ending = f.ending }

count_moves : (n a b c : ℕ) → c ≡ a + b → (n + a) + b ≡ n + c
count_moves n a b c is = omega arith

pub behind_block : (little : Bool) (before : List InterfaceDescription) (packets : ℕ) (block : Block) (bytes rest : List ℕ) (f : File)
    → Fits little before block → bytes ≡ block_bytes little block ++ rest
    → SpellsBehind little (before ++ described_by block) (packets + packet_count block) rest f
    → SpellsBehind little before packets bytes (with_block block f)
behind_block little before packets block bytes rest f fits spelled s =
    let own = block_bytes little block in
    let blocks = flat_map (block_bytes little) f.before_sections in
    let later = flat_map section_bytes f.sections ++ f.rest in
    let count = count_cons little before block f.before_sections f.sections fits in
    let n = length (all_packets before (block ∷ f.before_sections) f.sections) in
    let m = length (all_packets (before ++ described_by block) f.before_sections f.sections) in
    let moved : (packets + packet_count block) + m ≡ packets + n = count_moves packets (packet_count block) m n count in
    record {
      whole = spelled ∙ ap (λ r. own ++ r) s.whole ∙ sym (append_assoc own blocks later);
      blocks = fit_cons little before block f.before_sections fits s.blocks;
      sections = s.sections;
      few = let h = s.few in omega arith;
      ends = subst (λ (k : ℕ). EndsAs (order_at_end little f.sections) (interfaces_at_end before (block ∷ f.before_sections) f.sections) k
          f.rest f.ending) moved
          (subst (λ (ds : List InterfaceDescription). EndsAs (order_at_end little f.sections) ds ((packets + packet_count block) + m)
          f.rest f.ending) (sym (interfaces_cons before block f.before_sections f.sections)) s.ends);
    }

-- the bytes of a file that goes on in a section of a byte order
abbrev pub later_bytes : Bool → File → List ℕ
later_bytes little f = flat_map (block_bytes little) f.before_sections ++ (flat_map section_bytes f.sections ++ f.rest)

count_back : (n a b c : ℕ) → c ≡ a + b → n + c ≡ (n + a) + b
count_back n a b c is = omega arith

-- and without its first block
pub behind_first : (little : Bool) (before : List InterfaceDescription) (packets : ℕ) (block : Block) (bytes : List ℕ) (f : File)
    → SpellsBehind little before packets bytes (with_block block f)
    → SpellsBehind little (before ++ described_by block) (packets + packet_count block) (later_bytes little f) f
behind_first little before packets block bytes f s =
    let fits = fit_head little before block f.before_sections s.blocks in
    let count = count_cons little before block f.before_sections f.sections fits in
    let n = length (all_packets before (block ∷ f.before_sections) f.sections) in
    let m = length (all_packets (before ++ described_by block) f.before_sections f.sections) in
    let moved : packets + n ≡ (packets + packet_count block) + m = count_back packets (packet_count block) m n count in
    record {
      whole = refl;
      blocks = fit_tail little before block f.before_sections s.blocks;
      sections = s.sections;
      few = let h = s.few in omega arith;
      ends = subst (λ (k : ℕ). EndsAs (order_at_end little f.sections)
          (interfaces_at_end (before ++ described_by block) f.before_sections f.sections) k f.rest f.ending) moved
          (subst (λ (ds : List InterfaceDescription). EndsAs (order_at_end little f.sections) ds (packets + n) f.rest f.ending)
          (interfaces_cons before block f.before_sections f.sections) s.ends);
    }

-- ---- one section more

abbrev pub with_section : SectionHeader → File → File
with_section header f =
    record {
      before_sections = [];
      sections = record { header = header; blocks = f.before_sections } ∷ f.sections;
      rest = f.rest;
      ending = f.ending;
    }

pub behind_section : (little : Bool) (before : List InterfaceDescription) (packets : ℕ) (header : SectionHeader) (bytes rest : List ℕ)
    (f : File) → FitsSectionHeader header → header.major ≡ 1 → bytes ≡ section_header_bytes header ++ rest
    → SpellsBehind header.little [] packets rest f → SpellsBehind little before packets bytes (with_section header f)
behind_section little before packets header bytes rest f fits version spelled s =
    let own = section_header_bytes header in
    let blocks = flat_map (block_bytes header.little) f.before_sections in
    let sections = flat_map section_bytes f.sections in
    let section : Section = record { header = header; blocks = f.before_sections } in
    record {
      whole = spelled ∙ ap (λ r. own ++ r) (s.whole ∙ sym (append_assoc blocks sections f.rest))
          ∙ sym (append_assoc own (blocks ++ sections) f.rest)
          ∙ ap (λ r. r ++ f.rest) (sym (append_assoc own blocks sections));
      blocks = λ front block behind is. absurd (no_block front block behind is);
      sections = All-cons FitsSection section f.sections (record { header = fits; version = version; blocks = s.blocks }) s.sections;
      few = s.few;
      ends = s.ends;
    }

-- the file from a section's first block on
abbrev pub from_section : Section → List Section → List ℕ → Ending → File
from_section s more rest ending = record { before_sections = s.blocks; sections = more; rest = rest; ending = ending }

abbrev pub at_section : Section → List Section → List ℕ → Ending → File
at_section s more rest ending = record { before_sections = []; sections = s ∷ more; rest = rest; ending = ending }

pub behind_header : (little : Bool) (before : List InterfaceDescription) (packets : ℕ) (s : Section) (more : List Section)
    (rest bytes : List ℕ) (ending : Ending) → SpellsBehind little before packets bytes (at_section s more rest ending)
    → SpellsBehind s.header.little [] packets (later_bytes s.header.little (from_section s more rest ending))
    (from_section s more rest ending)
behind_header little before packets s more rest bytes ending b =
    record {
      whole = refl;
      blocks = (All-head FitsSection s more b.sections).blocks;
      sections = All-tail FitsSection s more b.sections;
      few = b.few;
      ends = b.ends;
    }

-- ---- any bytes

pub rest_bytes : (front rest bytes : List ℕ) → bytes ≡ front ++ rest → AreBytes bytes → AreBytes rest
rest_bytes front rest bytes is all =
    subst AreBytes (ap (drop (length front)) is ∙ drop_at front rest (length front) refl) (bytes_behind (length front) bytes all)

pub some_block : (little : Bool) (block : Block) → 12 ≤ length (block_bytes little block)
some_block little (Interface d) =
    let e = block_length little interface_description_block (interface_description_body little d) in omega (arith, e)
some_block little (Enhanced p) =
    let e = block_length little enhanced_packet_block (enhanced_packet_body little p) in omega (arith, e)
some_block little (Simple p) = let e = block_length little simple_packet_block (simple_packet_body little p) in omega (arith, e)
some_block little (Other kind body) = let e = block_length little kind body in omega (arith, e)

pub some_header : (header : SectionHeader) → 12 ≤ length (section_header_bytes header)
some_header header = let e = block_length header.little section_header_block (section_header_body header) in omega (arith, e)

pub rest_less : (front rest bytes : List ℕ) → bytes ≡ front ++ rest → 12 ≤ length front → length rest < length bytes
rest_less front rest bytes is some =
    let all : length bytes ≡ length (front ++ rest) = ap length is in
    let e = length-append front rest in
    omega (arith, all, e)

count_few : (packets : ℕ) (block : Block) → (IsPacket block → packets < 65536) → packets ≤ 65536 → packets + packet_count block ≤ 65536
count_few packets (Interface d) few within = omega arith
count_few packets (Enhanced p) few within = let h = few (inl (p, refl)) in omega arith
count_few packets (Simple p) few within = let h = few (inr (p, refl)) in omega arith
count_few packets (Other kind body) few within = omega arith

abbrev HasFile : Bool → List InterfaceDescription → ℕ → List ℕ → Type 0
HasFile little before packets bytes = (f : File) × SpellsBehind little before packets bytes f

from_front : (most : ℕ) (little : Bool) (before : List InterfaceDescription) (packets : ℕ) (bytes : List ℕ) → packets ≤ 65536
    → AreBytes bytes → length bytes < suc most → FrontCase little before packets bytes
    → ((own : Bool) (ds : List InterfaceDescription) (n : ℕ) (rest : List ℕ) → n ≤ 65536 → AreBytes rest → length rest < most
    → HasFile own ds n rest)
    → HasFile little before packets bytes
from_front most little before packets bytes within all short (inl s) again =
    let less = rest_less (section_header_bytes s.header) s.rest bytes s.spelled (some_header s.header) in
    let later = again s.header.little [] packets s.rest within (rest_bytes (section_header_bytes s.header) s.rest bytes s.spelled all)
    (omega arith) in (
      with_section s.header later.0,
      behind_section little before packets s.header bytes s.rest later.0 s.fits s.version s.spelled later.1,
    )
from_front most little before packets bytes within all short (inr (inl b)) again =
    let less = rest_less (block_bytes little b.block) b.rest bytes b.spelled (some_block little b.block) in
    let later = again little (before ++ described_by b.block) (packets + packet_count b.block) b.rest
    (count_few packets b.block b.few within) (rest_bytes (block_bytes little b.block) b.rest bytes b.spelled all) (omega arith) in
    (with_block b.block later.0, behind_block little before packets b.block bytes b.rest later.0 b.fits b.spelled later.1)
from_front most little before packets bytes within all short (inr (inr e)) again = (
  record { before_sections = []; sections = []; rest = bytes; ending = e.ending },
  behind_end little before packets bytes e.ending within e.ends,
)

file_behind : (most : ℕ) (little : Bool) (before : List InterfaceDescription) (packets : ℕ) (bytes : List ℕ) → packets ≤ 65536
    → AreBytes bytes → length bytes < most → HasFile little before packets bytes
file_behind zero little before packets bytes within all short = absurd (omega arith)
file_behind (suc most) little before packets bytes within all short =
    from_front most little before packets bytes within all short (front_case little before packets bytes within all)
    (λ own ds n rest w a s. file_behind most own ds n rest w a s)

pub file_spelled : (bytes : List ℕ) → AreBytes bytes → (f : File) × Spells bytes f
file_spelled bytes all =
    let found = file_behind (suc (length bytes)) false [] 0 bytes (omega arith) all (omega arith) in
    (found.0, spelled_whole bytes found.0 all found.1)
