-- Bytes are spelled by one header or one block at most.
use Rattle.std.proofs.Common.{◌≡◌, ℕ, ◌+◌, ◌^◌, ◌<◌, Bool, true, false, List, [], ◌∷◌, ◌++◌, length, take, drop, slice_index, refl, sym, ap, ◌∙◌, arith, length-append}
use Rattle.std.proofs.lemmas.List.{append_assoc, take_at, drop_at}
use Rattle.pcap_io.specs.Numbers.{number_of, number_bytes}
use Rattle.pcap_io.proofs.CaptureNumberLemmas.{number_bytes_length}
use Rattle.pcapng_theory.specs.NgBlocks.{bytes_of_block, FitsBlock, section_header_block, interface_description_block, simple_packet_block, enhanced_packet_block, byte_order_magic, SectionHeader, section_header_body, section_header_bytes, FitsSectionHeader, InterfaceDescription, interface_description_body, FitsInterfaceDescription, IsPadded, EnhancedPacket, enhanced_packet_body, FitsEnhancedPacket, SimplePacket, simple_packet_body, FitsSimplePacket, captured_length, Block, Interface, Enhanced, Simple, Other, block_bytes, IsOfFirst, Fits}
use Rattle.pcapng_theory.proofs.Fronts.{number_alone, section_type, block_spelled}

-- ---- lists and numbers

append_same : (xs ys rs ss : List ℕ) → length xs ≡ length ys → xs ++ rs ≡ ys ++ ss → (xs ≡ ys) × (rs ≡ ss)
append_same xs ys rs ss len is = (
  sym (take_at xs rs (length ys) len) ∙ ap (take (length ys)) is ∙ take_at ys ss (length ys) refl,
  sym (drop_at xs rs (length ys) len) ∙ ap (drop (length ys)) is ∙ drop_at ys ss (length ys) refl,
)

number_same : (little : Bool) (n x y : ℕ) → x < 256 ^ n → y < 256 ^ n → number_bytes little n x ≡ number_bytes little n y → x ≡ y
number_same little n x y hx hy is =
    sym (number_alone little n x hx) ∙ ap (number_of little n) is ∙ number_alone little n y hy

field_same : (little : Bool) (n x y : ℕ) (rs ss : List ℕ) → x < 256 ^ n → y < 256 ^ n
    → number_bytes little n x ++ rs ≡ number_bytes little n y ++ ss → (x ≡ y) × (rs ≡ ss)
field_same little n x y rs ss hx hy is =
    let both =
    append_same (number_bytes little n x) (number_bytes little n y) rs ss
    (number_bytes_length little n x ∙ sym (number_bytes_length little n y)) is in
    (number_same little n x y hx hy both.0, both.1)

-- ---- blocks

bodies_same : (little : Bool) (k l : ℕ) (body other rs ss : List ℕ) → FitsBlock k body → FitsBlock l other
    → bytes_of_block little k body ++ rs ≡ bytes_of_block little l other ++ ss → (k ≡ l) × (body ≡ other) × (rs ≡ ss)
bodies_same little k l body other rs ss f g is =
    let t = number_bytes little 4 (length body + 12) in
    let u = number_bytes little 4 (length other + 12) in
    let spelled = sym (block_spelled little k body rs) ∙ is ∙ block_spelled little l other ss in
    let kinds = field_same little 4 k l (t ++ (body ++ (t ++ rs))) (u ++ (other ++ (u ++ ss))) f.kind g.kind spelled in
    let totals =
    field_same little 4 (length body + 12) (length other + 12) (body ++ (t ++ rs)) (other ++ (u ++ ss)) f.short g.short kinds.1 in
    let count = totals.0 in
    let bodies = append_same body other (t ++ rs) (u ++ ss) (omega arith) totals.1 in
    let rests = field_same little 4 (length body + 12) (length other + 12) rs ss f.short g.short bodies.1 in
    (kinds.0, bodies.0, rests.1)

abbrev pub kind_of : Block → ℕ
kind_of (Interface d) = interface_description_block
kind_of (Enhanced p) = enhanced_packet_block
kind_of (Simple p) = simple_packet_block
kind_of (Other kind body) = kind

abbrev pub body_of : Bool → Block → List ℕ
body_of little (Interface d) = interface_description_body little d
body_of little (Enhanced p) = enhanced_packet_body little p
body_of little (Simple p) = simple_packet_body little p
body_of little (Other kind body) = body

pub block_is : (little : Bool) (b : Block) → block_bytes little b ≡ bytes_of_block little (kind_of b) (body_of little b)
block_is little (Interface d) = refl
block_is little (Enhanced p) = refl
block_is little (Simple p) = refl
block_is little (Other kind body) = refl

pub block_fits : (little : Bool) (before : List InterfaceDescription) (b : Block) → Fits little before b
    → FitsBlock (kind_of b) (body_of little b)
block_fits little before (Interface d) fits = fits.block
block_fits little before (Enhanced p) fits = fits.0.block
block_fits little before (Simple p) fits = fits.0.block
block_fits little before (Other kind body) fits = fits.1

pub no_section : (little : Bool) (before : List InterfaceDescription) (b : Block) → Fits little before b
    → kind_of b ≡ section_header_block → ⊥
no_section little before (Interface d) fits is = absurd (omega arith)
no_section little before (Enhanced p) fits is = absurd (omega arith)
no_section little before (Simple p) fits is = absurd (omega arith)
no_section little before (Other kind body) fits is = fits.0.no_section_header is

-- ---- records of the same fields

abbrev description : ℕ → ℕ → ℕ → List ℕ → InterfaceDescription
description link_type reserved snap_len options =
    record { link_type = link_type; reserved = reserved; snap_len = snap_len; options = options }

description_made : (d e : InterfaceDescription) → d.link_type ≡ e.link_type → d.reserved ≡ e.reserved → d.snap_len ≡ e.snap_len
    → d.options ≡ e.options → d ≡ e
description_made d e a b c o =
    ap (λ (x : ℕ). description x d.reserved d.snap_len d.options) a
    ∙ ap (λ (x : ℕ). description e.link_type x d.snap_len d.options) b
    ∙ ap (λ (x : ℕ). description e.link_type e.reserved x d.options) c
    ∙ ap (λ (x : List ℕ). description e.link_type e.reserved e.snap_len x) o

abbrev enhanced : ℕ → ℕ → ℕ → ℕ → List ℕ → List ℕ → List ℕ → EnhancedPacket
enhanced interface upper lower original packet_data padding options =
    record {
      interface = interface;
      upper = upper;
      lower = lower;
      original = original;
      packet_data = packet_data;
      padding = padding;
      options = options;
    }

enhanced_made : (p q : EnhancedPacket) → p.interface ≡ q.interface → p.upper ≡ q.upper → p.lower ≡ q.lower → p.original ≡ q.original
    → p.packet_data ≡ q.packet_data → p.padding ≡ q.padding → p.options ≡ q.options → p ≡ q
enhanced_made p q a b c d e f g =
    ap (λ (x : ℕ). enhanced x p.upper p.lower p.original p.packet_data p.padding p.options) a
    ∙ ap (λ (x : ℕ). enhanced q.interface x p.lower p.original p.packet_data p.padding p.options) b
    ∙ ap (λ (x : ℕ). enhanced q.interface q.upper x p.original p.packet_data p.padding p.options) c
    ∙ ap (λ (x : ℕ). enhanced q.interface q.upper q.lower x p.packet_data p.padding p.options) d
    ∙ ap (λ (x : List ℕ). enhanced q.interface q.upper q.lower q.original x p.padding p.options) e
    ∙ ap (λ (x : List ℕ). enhanced q.interface q.upper q.lower q.original q.packet_data x p.options) f
    ∙ ap (λ (x : List ℕ). enhanced q.interface q.upper q.lower q.original q.packet_data q.padding x) g

abbrev simple : ℕ → List ℕ → List ℕ → List ℕ → SimplePacket
simple original packet_data padding unread =
    record { original = original; packet_data = packet_data; padding = padding; unread = unread }

simple_made : (p q : SimplePacket) → p.original ≡ q.original → p.packet_data ≡ q.packet_data → p.padding ≡ q.padding
    → p.unread ≡ q.unread → p ≡ q
simple_made p q a b c d =
    ap (λ (x : ℕ). simple x p.packet_data p.padding p.unread) a
    ∙ ap (λ (x : List ℕ). simple q.original x p.padding p.unread) b
    ∙ ap (λ (x : List ℕ). simple q.original q.packet_data x p.unread) c
    ∙ ap (λ (x : List ℕ). simple q.original q.packet_data q.padding x) d

abbrev header : Bool → ℕ → ℕ → ℕ → List ℕ → SectionHeader
header little major minor section_length options =
    record { little = little; major = major; minor = minor; section_length = section_length; options = options }

header_made : (h k : SectionHeader) → h.little ≡ k.little → h.major ≡ k.major → h.minor ≡ k.minor → h.section_length ≡ k.section_length
    → h.options ≡ k.options → h ≡ k
header_made h k a b c d e =
    ap (λ (x : Bool). header x h.major h.minor h.section_length h.options) a
    ∙ ap (λ (x : ℕ). header k.little x h.minor h.section_length h.options) b
    ∙ ap (λ (x : ℕ). header k.little k.major x h.section_length h.options) c
    ∙ ap (λ (x : ℕ). header k.little k.major k.minor x h.options) d
    ∙ ap (λ (x : List ℕ). header k.little k.major k.minor k.section_length x) e

-- ---- fields

descriptions_same : (little : Bool) (d e : InterfaceDescription) → FitsInterfaceDescription little d → FitsInterfaceDescription little e
    → interface_description_body little d ≡ interface_description_body little e → d ≡ e
descriptions_same little d e f g is =
    let a = field_same little 2 d.link_type e.link_type _ _ f.link_type g.link_type is in
    let b = field_same little 2 d.reserved e.reserved _ _ f.reserved g.reserved a.1 in
    let c = field_same little 4 d.snap_len e.snap_len d.options e.options f.snap_len g.snap_len b.1 in
    description_made d e a.0 b.0 c.0 c.1

data_same : (a b p q r s : List ℕ) → length a ≡ length b → IsPadded a p → IsPadded b q → a ++ (p ++ r) ≡ b ++ (q ++ s)
    → (a ≡ b) × (p ≡ q) × (r ≡ s)
data_same a b p q r s len f g is =
    let first = append_same a b (p ++ r) (q ++ s) len is in
    let x = f.whole in
    let y = f.few in
    let z = g.whole in
    let w = g.few in
    let count : length p ≡ length q = omega (arith, len, x, y, z, w) in
    let second = append_same p q r s count first.1 in
    (first.0, second.0, second.1)

pub enhanced_small : (little : Bool) (p : EnhancedPacket) → FitsEnhancedPacket little p → length p.packet_data < 2 ^ 32
enhanced_small little p f =
    let a = number_bytes_length little 4 p.interface in
    let b = number_bytes_length little 4 p.upper in
    let c = number_bytes_length little 4 p.lower in
    let d = number_bytes_length little 4 (length p.packet_data) in
    let e = number_bytes_length little 4 p.original in
    let all : length (enhanced_packet_body little p) ≡ 20 + (length p.packet_data + (length p.padding + length p.options)) =
    simp length-append (omega (arith, a, b, c, d, e)) in
    let short = f.block.short in
    omega (arith, all, short)

enhanced_same : (little : Bool) (p q : EnhancedPacket) → FitsEnhancedPacket little p → FitsEnhancedPacket little q
    → enhanced_packet_body little p ≡ enhanced_packet_body little q → p ≡ q
enhanced_same little p q f g is =
    let a = field_same little 4 p.interface q.interface _ _ f.interface g.interface is in
    let b = field_same little 4 p.upper q.upper _ _ f.upper g.upper a.1 in
    let c = field_same little 4 p.lower q.lower _ _ f.lower g.lower b.1 in
    let d =
    field_same little 4 (length p.packet_data) (length q.packet_data) _ _ (enhanced_small little p f) (enhanced_small little q g) c.1 in
    let e = field_same little 4 p.original q.original _ _ f.original g.original d.1 in
    let h = data_same p.packet_data q.packet_data p.padding q.padding p.options q.options d.0 f.padding g.padding e.1 in
    enhanced_made p q a.0 b.0 c.0 e.0 h.0 h.1 h.2

first_same : (before : List InterfaceDescription) (p q : SimplePacket) → IsOfFirst before p → IsOfFirst before q → p.original ≡ q.original
    → length p.packet_data ≡ length q.packet_data
first_same [] p q f g is = absurd f
first_same (first ∷ others) p q f g is = f ∙ ap (captured_length first.snap_len) is ∙ sym g

simple_same : (little : Bool) (before : List InterfaceDescription) (p q : SimplePacket) → FitsSimplePacket little p
    → FitsSimplePacket little q → IsOfFirst before p → IsOfFirst before q → simple_packet_body little p ≡ simple_packet_body little q → p ≡ q
simple_same little before p q f g first other is =
    let a = field_same little 4 p.original q.original _ _ f.original g.original is in
    let h =
    data_same p.packet_data q.packet_data p.padding q.padding p.unread q.unread (first_same before p q first other a.0) f.padding g.padding
    a.1 in
    simple_made p q a.0 h.0 h.1 h.2

headers_same : (h k : SectionHeader) → h.little ≡ k.little → FitsSectionHeader h → FitsSectionHeader k
    → section_header_body h ≡ section_header_body k → h ≡ k
headers_same h k order f g is =
    let same : section_header_body h ≡ number_bytes h.little 4 byte_order_magic ++ (number_bytes h.little 2 k.major ++
    (number_bytes h.little 2 k.minor ++ (number_bytes h.little 8 k.section_length ++ k.options))) =
    is ∙ ap (λ (o : Bool). number_bytes o 4 byte_order_magic ++ (number_bytes o 2 k.major ++ (number_bytes o 2 k.minor ++
    (number_bytes o 8 k.section_length ++ k.options)))) (sym order) in
    let small : byte_order_magic < 256 ^ 4 = omega arith in
    let m = field_same h.little 4 byte_order_magic byte_order_magic _ _ small small same in
    let a = field_same h.little 2 h.major k.major _ _ f.major g.major m.1 in
    let b = field_same h.little 2 h.minor k.minor _ _ f.minor g.minor a.1 in
    let c = field_same h.little 8 h.section_length k.section_length h.options k.options f.section_length g.section_length b.1 in
    header_made h k order a.0 b.0 c.0 c.1

-- two blocks that may stand there are one
block_same_by : (little : Bool) (before : List InterfaceDescription) (b c : Block) → Fits little before b → Fits little before c
    → kind_of b ≡ kind_of c → body_of little b ≡ body_of little c → b ≡ c
block_same_by little before (Interface d) (Interface e) f g kind is = ap Interface (descriptions_same little d e f g is)
block_same_by little before (Interface d) (Enhanced q) f g kind is = absurd (omega arith)
block_same_by little before (Interface d) (Simple q) f g kind is = absurd (omega arith)
block_same_by little before (Interface d) (Other l other) f g kind is = absurd (g.0.no_interface_description (sym kind))
block_same_by little before (Enhanced p) (Interface e) f g kind is = absurd (omega arith)
block_same_by little before (Enhanced p) (Enhanced q) f g kind is = ap Enhanced (enhanced_same little p q f.0 g.0 is)
block_same_by little before (Enhanced p) (Simple q) f g kind is = absurd (omega arith)
block_same_by little before (Enhanced p) (Other l other) f g kind is = absurd (g.0.no_enhanced_packet (sym kind))
block_same_by little before (Simple p) (Interface e) f g kind is = absurd (omega arith)
block_same_by little before (Simple p) (Enhanced q) f g kind is = absurd (omega arith)
block_same_by little before (Simple p) (Simple q) f g kind is = ap Simple (simple_same little before p q f.0 g.0 f.1 g.1 is)
block_same_by little before (Simple p) (Other l other) f g kind is = absurd (g.0.no_simple_packet (sym kind))
block_same_by little before (Other k body) (Interface e) f g kind is = absurd (f.0.no_interface_description kind)
block_same_by little before (Other k body) (Enhanced q) f g kind is = absurd (f.0.no_enhanced_packet kind)
block_same_by little before (Other k body) (Simple q) f g kind is = absurd (f.0.no_simple_packet kind)
block_same_by little before (Other k body) (Other l other) f g kind is = ap (λ n. Other n body) kind ∙ ap (Other l) is

pub block_same : (little : Bool) (before : List InterfaceDescription) (b c : Block) (rs ss : List ℕ) → Fits little before b
    → Fits little before c → block_bytes little b ++ rs ≡ block_bytes little c ++ ss → (b ≡ c) × (rs ≡ ss)
block_same little before b c rs ss f g is =
    let spelled = ap (λ bs. bs ++ rs) (sym (block_is little b)) ∙ is ∙ ap (λ bs. bs ++ ss) (block_is little c) in
    let all =
    bodies_same little (kind_of b) (kind_of c) (body_of little b) (body_of little c) rs ss (block_fits little before b f)
    (block_fits little before c g) spelled in
    (block_same_by little before b c f g all.0 all.1, all.2)

-- ---- headers

-- the first byte of the magic tells its order
low_first : slice_index (number_bytes true 4 byte_order_magic) 0 ≡ 0x4d
unfolding number_bytes
low_first = refl

high_first : slice_index (number_bytes false 4 byte_order_magic) 0 ≡ 0x1a
unfolding number_bytes
high_first = refl

apart : (x y : ℕ) → x ≡ 0x4d → y ≡ 0x1a → x ≡ y → ⊥
apart x y low high same = omega arith

orders_apart : number_bytes true 4 byte_order_magic ≡ number_bytes false 4 byte_order_magic → ⊥
orders_apart is =
    apart (slice_index (number_bytes true 4 byte_order_magic) 0) (slice_index (number_bytes false 4 byte_order_magic) 0) low_first high_first
    (ap (λ (bytes : List ℕ). slice_index bytes 0) is)

order_same : (a b : Bool) → number_bytes a 4 byte_order_magic ≡ number_bytes b 4 byte_order_magic → a ≡ b
order_same true true is = refl
order_same false false is = refl
order_same true false is = absurd (orders_apart is)
order_same false true is = absurd (orders_apart (sym is))

pub header_same : (h k : SectionHeader) (rs ss : List ℕ) → FitsSectionHeader h → FitsSectionHeader k
    → section_header_bytes h ++ rs ≡ section_header_bytes k ++ ss → (h ≡ k) × (rs ≡ ss)
header_same h k rs ss f g is =
    let hb = section_header_body h in
    let kb = section_header_body k in
    let t = number_bytes h.little 4 (length hb + 12) in
    let u = number_bytes k.little 4 (length kb + 12) in
    let type = number_bytes h.little 4 section_header_block in
    let other = number_bytes k.little 4 section_header_block in
    let spelled =
    sym (block_spelled h.little section_header_block hb rs) ∙ is ∙ block_spelled k.little section_header_block kb ss in
    let types =
    append_same type other (t ++ (hb ++ (t ++ rs))) (u ++ (kb ++ (u ++ ss)))
    (number_bytes_length h.little 4 section_header_block ∙ sym (number_bytes_length k.little 4 section_header_block)) spelled in
    let totals =
    append_same t u (hb ++ (t ++ rs)) (kb ++ (u ++ ss))
    (number_bytes_length h.little 4 (length hb + 12) ∙ sym (number_bytes_length k.little 4 (length kb + 12))) types.1 in
    let magics =
    append_same (number_bytes h.little 4 byte_order_magic) (number_bytes k.little 4 byte_order_magic) _ _
    (number_bytes_length h.little 4 byte_order_magic ∙ sym (number_bytes_length k.little 4 byte_order_magic))
    (sym (append_assoc (number_bytes h.little 4 byte_order_magic) _ (t ++ rs)) ∙ totals.1
    ∙ append_assoc (number_bytes k.little 4 byte_order_magic) _ (u ++ ss)) in
    let order = order_same h.little k.little magics.0 in
    let blocks = is ∙ ap (λ (o : Bool). bytes_of_block o section_header_block kb ++ ss) (sym order) in
    let all = bodies_same h.little section_header_block section_header_block hb kb rs ss f.block g.block blocks in
    (headers_same h k order f g all.1, all.2)

-- a header is no other block
pub header_no_block : (little : Bool) (before : List InterfaceDescription) (h : SectionHeader) (b : Block) (rs ss : List ℕ)
    → FitsSectionHeader h → Fits little before b → section_header_bytes h ++ rs ≡ block_bytes little b ++ ss → ⊥
header_no_block little before h b rs ss f g is =
    let kb = body_of little b in
    let fits = block_fits little before b g in
    let spelled =
    sym (block_spelled h.little section_header_block (section_header_body h) rs) ∙ is ∙ ap (λ bs. bs ++ ss) (block_is little b)
    ∙ block_spelled little (kind_of b) kb ss in
    let types =
    append_same (number_bytes h.little 4 section_header_block) (number_bytes little 4 (kind_of b)) _ _
    (number_bytes_length h.little 4 section_header_block ∙ sym (number_bytes_length little 4 (kind_of b))) spelled in
    let same =
    number_same little 4 section_header_block (kind_of b) (omega arith) fits.kind (section_type little h.little ∙ types.0) in
    no_section little before b g (sym same)
