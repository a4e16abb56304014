-- The spelling of heads read back, and what is read as a head spelled.
use Rattle.std.proofs.Common.{◌≡◌, ℕ, ◌+◌, ◌*◌, ◌/◌, ◌%◌, ◌^◌, ◌<◌, ◌≤◌, ◌==◌, ◌&&◌, Bool, true, false, cond, nat_lt, List, ◌++◌, length, drop, Option, Some, None, Result, Ok, Err, All, refl, sym, ap, subst, ◌∙◌, arith, length-append}
use Rattle.std.proofs.Math.Nat.{div-add-mod', mod-eq_of_lt, mul-add-mod_self_right}
use Rattle.std.proofs.lemmas.Bool.{eqb-true, le-ltb, ltb-false}
use Rattle.std.proofs.lemmas.List.{append_assoc, drop_at, drop-drop}
use Rattle.std.proofs.lemmas.List.Elements.{All-drop}
use Rattle.pcap_io.specs.declared.fault.CaptureFault.{CaptureFault}
use Rattle.pcap_io.specs.declared.fault.CaptureFault.TheVariants.{CutHead, PcapNg, BadVersion}
use Rattle.pcap_io.specs.declared.capture_head.CaptureHead.{CaptureHead}
use Rattle.pcap_io.specs.declared.capture_head.LinkType.{LinkType}
use Rattle.pcap_io.specs.declared.capture_head.LinkType.TheVariants as links
use Rattle.pcap_io.specs.declared.capture_head.Magic.{Magic}
use Rattle.pcap_io.specs.declared.numbers.TheConstants.{HEAD_LEN, MICROS_MAGIC, NANOS_MAGIC, PCAPNG_MAGIC, MAJOR, MINOR, ETHERNET, RAW_IP, IPV6}
use Rattle.pcap_io.specs.Numbers.{number_of, number_bytes}
use Rattle.pcap_io.specs.Head.{Unread, magic_number, link_number, head_bytes, magic_of, link_of, is_version, link_type_at, with_link, head_behind, head_of}
use Rattle.pcap_io.specs.HeadTerms.{FitsHead}
use Rattle.pcap_io.proofs.CaptureNumberLemmas.{number_of_below, number_of_bytes, number_bytes_length}
use Rattle.pcap_io.proofs.FrameLemmas.{piece, piece_at}

-- ---- what is spelled is read

magic_spelled : (little nanos : Bool) (rest : List ℕ)
    → magic_of (number_bytes little 4 (magic_number nanos) ++ rest) ≡ Some (record { little = little; nanos = nanos })
unfolding magic_of number_of number_bytes
magic_spelled true true rest = refl
magic_spelled true false rest = refl
magic_spelled false true rest = refl
magic_spelled false false rest = refl

-- no magic is that of pcapng
other_spelled : (little nanos : Bool) (rest : List ℕ)
    → (number_of false 4 (number_bytes little 4 (magic_number nanos) ++ rest) == PCAPNG_MAGIC) ≡ false
unfolding number_of number_bytes
other_spelled true true rest = refl
other_spelled true false rest = refl
other_spelled false true rest = refl
other_spelled false false rest = refl

link_spelled : (link : LinkType) → link_of (link_number link) ≡ Ok link
link_spelled links.Ethernet = refl
link_spelled links.Raw = refl
link_spelled links.Ipv6 = refl

link_number_below : (link : LinkType) → link_number link < 65536
link_number_below links.Ethernet = omega arith
link_number_below links.Raw = omega arith
link_number_below links.Ipv6 = omega arith

-- the head that bytes with these parts begin with
pub head_of_parts : (bytes : List ℕ) (little nanos : Bool) (link : LinkType) → 24 ≤ length bytes
    → (number_of false 4 bytes == PCAPNG_MAGIC) ≡ false
    → magic_of bytes ≡ Some (record { little = little; nanos = nanos })
    → is_version little bytes ≡ true
    → link_of (link_type_at little bytes) ≡ Ok link
    → head_of bytes ≡ Ok (record { little = little; nanos = nanos; link = link })
unfolding head_of
head_of_parts bytes little nanos link len other magic version kind =
    let some : nat_lt (length bytes) 4 ≡ false = le-ltb (length bytes) 4 (omega arith) in
    let enough : nat_lt (length bytes) 24 ≡ false = le-ltb (length bytes) 24 len in
    let behind : head_behind (Some (record { little = little; nanos = nanos })) bytes
    ≡ Ok (record { little = little; nanos = nanos; link = link }) =
    rw (enough, version, kind) refl in
    rw (some, other, magic, head_of) behind

-- the number with the link type in its low half
abbrev last_number : CaptureHead → Unread → ℕ
last_number head u = u.high * 65536 + link_number head.link

-- a head and more, from a place on
abbrev from20 : CaptureHead → Unread → List ℕ → List ℕ
from20 head u rest = number_bytes head.little 4 (last_number head u) ++ rest

abbrev from16 : CaptureHead → Unread → List ℕ → List ℕ
from16 head u rest = number_bytes head.little 4 u.snaplen ++ from20 head u rest

abbrev from12 : CaptureHead → Unread → List ℕ → List ℕ
from12 head u rest = number_bytes head.little 4 u.sigfigs ++ from16 head u rest

abbrev from8 : CaptureHead → Unread → List ℕ → List ℕ
from8 head u rest = number_bytes head.little 4 u.zone ++ from12 head u rest

abbrev from6 : CaptureHead → Unread → List ℕ → List ℕ
from6 head u rest = number_bytes head.little 2 MINOR ++ from8 head u rest

abbrev from4 : CaptureHead → Unread → List ℕ → List ℕ
from4 head u rest = number_bytes head.little 2 MAJOR ++ from6 head u rest

abbrev parts : CaptureHead → Unread → List ℕ → List ℕ
parts head u rest = number_bytes head.little 4 (magic_number head.nanos) ++ from4 head u rest

regroup : (a b c d e f g r : List ℕ) → (a ++ (b ++ (c ++ (d ++ (e ++ (f ++ g)))))) ++ r ≡ a ++ (b ++ (c ++ (d ++ (e ++ (f ++ (g ++ r))))))
regroup a b c d e f g r = simp append_assoc refl

pub head_bytes_parts : (head : CaptureHead) (u : Unread) (rest : List ℕ) → head_bytes head u ++ rest ≡ parts head u rest
unfolding head_bytes
head_bytes_parts head u rest =
    regroup (number_bytes head.little 4 (magic_number head.nanos)) (number_bytes head.little 2 MAJOR) (number_bytes head.little 2 MINOR)
    (number_bytes head.little 4 u.zone) (number_bytes head.little 4 u.sigfigs) (number_bytes head.little 4 u.snaplen)
    (number_bytes head.little 4 (last_number head u)) rest

drop_number : (little : Bool) (n x : ℕ) (rest : List ℕ) → drop n (number_bytes little n x ++ rest) ≡ rest
drop_number little n x rest = drop_at (number_bytes little n x) rest n (number_bytes_length little n x)

module _ (head : CaptureHead) (u : Unread) (rest : List ℕ) where
  parts4 : drop 4 (parts head u rest) ≡ from4 head u rest
  parts4 = drop_number head.little 4 (magic_number head.nanos) (from4 head u rest)

  parts6 : drop 6 (parts head u rest) ≡ from6 head u rest
  parts6 = sym (drop-drop 2 4 (parts head u rest)) ∙ ap (drop 2) parts4 ∙ drop_number head.little 2 MAJOR (from6 head u rest)

  parts8 : drop 8 (parts head u rest) ≡ from8 head u rest
  parts8 = sym (drop-drop 2 6 (parts head u rest)) ∙ ap (drop 2) parts6 ∙ drop_number head.little 2 MINOR (from8 head u rest)

  parts12 : drop 12 (parts head u rest) ≡ from12 head u rest
  parts12 = sym (drop-drop 4 8 (parts head u rest)) ∙ ap (drop 4) parts8 ∙ drop_number head.little 4 u.zone (from12 head u rest)

  parts16 : drop 16 (parts head u rest) ≡ from16 head u rest
  parts16 = sym (drop-drop 4 12 (parts head u rest)) ∙ ap (drop 4) parts12 ∙ drop_number head.little 4 u.sigfigs (from16 head u rest)

  parts20 : drop 20 (parts head u rest) ≡ from20 head u rest
  parts20 = sym (drop-drop 4 16 (parts head u rest)) ∙ ap (drop 4) parts16 ∙ drop_number head.little 4 u.snaplen (from20 head u rest)

  -- what is after a head
  pub behind_parts : drop 24 (parts head u rest) ≡ rest
  behind_parts = sym (drop-drop 4 20 (parts head u rest)) ∙ ap (drop 4) parts20 ∙ drop_number head.little 4 (last_number head u) rest

  parts_length : 24 ≤ length (parts head u rest)
  parts_length =
      let a = number_bytes_length head.little 4 (magic_number head.nanos) in
      let b = number_bytes_length head.little 2 MAJOR in
      let c = number_bytes_length head.little 2 MINOR in
      let d = number_bytes_length head.little 4 u.zone in
      let e = number_bytes_length head.little 4 u.sigfigs in
      let f = number_bytes_length head.little 4 u.snaplen in
      let g = number_bytes_length head.little 4 (last_number head u) in
      simp length-append (omega (arith, a, b, c, d, e, f, g))

  parts_version : is_version head.little (parts head u rest) ≡ true
  parts_version =
      let major : number_of head.little 2 (drop 4 (parts head u rest)) ≡ MAJOR =
      ap (number_of head.little 2) parts4 ∙ number_of_bytes head.little 2 MAJOR (from6 head u rest) (omega arith) in
      let minor : number_of head.little 2 (drop 6 (parts head u rest)) ≡ MINOR =
      ap (number_of head.little 2) parts6 ∙ number_of_bytes head.little 2 MINOR (from8 head u rest) (omega arith) in
      rw (major, minor) refl

  parts_link : FitsHead u → link_of (link_type_at head.little (parts head u rest)) ≡ Ok head.link
  parts_link fits =
      let below = link_number_below head.link in
      let high = fits.high in
      let last : number_of head.little 4 (drop 20 (parts head u rest)) ≡ last_number head u =
      ap (number_of head.little 4) parts20 ∙ number_of_bytes head.little 4 (last_number head u) rest (omega arith) in
      let low : last_number head u % 65536 ≡ link_number head.link =
      mul-add-mod_self_right u.high 65536 (link_number head.link) ∙ mod-eq_of_lt below in
      ap (λ n. link_of (n % 65536)) last ∙ ap link_of low ∙ link_spelled head.link

-- a head that is spelled is read
pub head_read : (head : CaptureHead) (u : Unread) (rest : List ℕ) → FitsHead u → head_of (head_bytes head u ++ rest) ≡ Ok head
head_read head u rest fits =
    ap head_of (head_bytes_parts head u rest)
    ∙ head_of_parts (parts head u rest) head.little head.nanos head.link (parts_length head u rest)
    (other_spelled head.little head.nanos (from4 head u rest)) (magic_spelled head.little head.nanos (from4 head u rest))
    (parts_version head u rest) (parts_link head u rest fits)

-- what is after a head that is spelled
pub behind_head : (head : CaptureHead) (u : Unread) (rest : List ℕ) → drop HEAD_LEN (head_bytes head u ++ rest) ≡ rest
behind_head head u rest = ap (drop 24) (head_bytes_parts head u rest) ∙ behind_parts head u rest

-- ---- what is read was spelled

-- after a test whose fault does not come
guard_ok : {X : Type 0} (b : Bool) (fault : CaptureFault) (r : Result X CaptureFault) (x : X) → cond b (Err fault) r ≡ Ok x
    → (b ≡ false) × (r ≡ Ok x)
guard_ok true fault r x is = absurd (cc is)
guard_ok false fault r x is = (refl, is)

guard_then : {X : Type 0} (b : Bool) (fault : CaptureFault) (r : Result X CaptureFault) (x : X) → cond b r (Err fault) ≡ Ok x
    → (b ≡ true) × (r ≡ Ok x)
guard_then true fault r x is = (refl, is)
guard_then false fault r x is = absurd (cc is)

both_true : (a b : Bool) → (a && b) ≡ true → (a ≡ true) × (b ≡ true)
both_true true b is = (refl, is)
both_true false b is = absurd (cc is)

-- the first of some choices, or one of the rest
some_first : (b : Bool) (a m : Magic) (rest : Option Magic) (P : Magic → Type 0) → cond b (Some a) rest ≡ Some m → (b ≡ true → P a)
    → (rest ≡ Some m → P m) → P m
some_first true a m rest P is here later = let e : a ≡ m = cc is in subst P e (here refl)
some_first false a m rest P is here later = later is

ok_first : (b : Bool) (a link : LinkType) (rest : Result LinkType CaptureFault) (P : LinkType → Type 0) → cond b (Ok a) rest ≡ Ok link
    → (b ≡ true → P a) → (rest ≡ Ok link → P link) → P link
ok_first true a link rest P is here later = let e : a ≡ link = cc is in subst P e (here refl)
ok_first false a link rest P is here later = later is

-- a magic that is read is a magic
magic_read : (bytes : List ℕ) (m : Magic) → magic_of bytes ≡ Some m → number_of m.little 4 bytes ≡ magic_number m.nanos
unfolding magic_of
magic_read bytes m is =
    let P : Magic → Type 0 = λ k. number_of k.little 4 bytes ≡ magic_number k.nanos in
    let low = number_of true 4 bytes in
    let high = number_of false 4 bytes in
    some_first (low == MICROS_MAGIC) _ m _ P is (eqb-true low MICROS_MAGIC)
    (λ is2. some_first (low == NANOS_MAGIC) _ m _ P is2 (eqb-true low NANOS_MAGIC)
    (λ is3. some_first (high == MICROS_MAGIC) _ m _ P is3 (eqb-true high MICROS_MAGIC)
    (λ is4. some_first (high == NANOS_MAGIC) _ m _ P is4 (eqb-true high NANOS_MAGIC) (λ is5. absurd (cc is5)))))

-- a link type that is read is that link type's number
link_read : (n : ℕ) (link : LinkType) → link_of n ≡ Ok link → n ≡ link_number link
link_read n link is =
    let P : LinkType → Type 0 = λ k. n ≡ link_number k in
    ok_first (n == ETHERNET) _ link _ P is (eqb-true n ETHERNET)
    (λ is2. ok_first (n == RAW_IP) _ link _ P is2 (eqb-true n RAW_IP)
    (λ is3. ok_first (n == IPV6) _ link _ P is3 (eqb-true n IPV6) (λ is4. absurd (cc is4))))

-- what holds of bytes from which a head was read
record IsHeadOf (bytes : List ℕ) (head : CaptureHead) : Type 0 where
  len : 24 ≤ length bytes
  magic : number_of head.little 4 bytes ≡ magic_number head.nanos
  major : number_of head.little 2 (drop 4 bytes) ≡ MAJOR
  minor : number_of head.little 2 (drop 6 bytes) ≡ MINOR
  link : link_type_at head.little bytes ≡ link_number head.link

with_link_ok : (m : Magic) (r : Result LinkType CaptureFault) (head : CaptureHead) → with_link m r ≡ Ok head
    → (link : LinkType) × (r ≡ Ok link) × (head ≡ record { little = m.little; nanos = m.nanos; link = link })
with_link_ok m (Ok link) head is = (link, refl, cc is)
with_link_ok m (Err fault) head is = absurd (cc is)

is_head : (bytes : List ℕ) (m : Magic) (link : LinkType) → magic_of bytes ≡ Some m → nat_lt (length bytes) 24 ≡ false
    → is_version m.little bytes ≡ true → link_of (link_type_at m.little bytes) ≡ Ok link
    → IsHeadOf bytes (record { little = m.little; nanos = m.nanos; link = link })
is_head bytes m link magic enough version kind =
    let both = both_true (number_of m.little 2 (drop 4 bytes) == MAJOR) (number_of m.little 2 (drop 6 bytes) == MINOR) version in
    record {
      len = ltb-false (length bytes) 24 enough;
      magic = magic_read bytes m magic;
      major = eqb-true (number_of m.little 2 (drop 4 bytes)) MAJOR both.0;
      minor = eqb-true (number_of m.little 2 (drop 6 bytes)) MINOR both.1;
      link = link_read (link_type_at m.little bytes) link kind;
    }

head_behind_ok : (bytes : List ℕ) (found : Option Magic) (head : CaptureHead) → magic_of bytes ≡ found → head_behind found bytes ≡ Ok head
    → IsHeadOf bytes head
head_behind_ok bytes None head magic is = absurd (cc is)
head_behind_ok bytes (Some m) head magic is =
    let kind = link_of (link_type_at m.little bytes) in
    let enough = guard_ok (nat_lt (length bytes) 24) CutHead _ head is in
    let version = guard_then (is_version m.little bytes) BadVersion (with_link m kind) head enough.1 in
    let link = with_link_ok m kind head version.1 in
    subst (IsHeadOf bytes) (sym link.2) (is_head bytes m link.0 magic enough.0 version.0 link.1)

head_of_ok : (bytes : List ℕ) (head : CaptureHead) → head_of bytes ≡ Ok head → IsHeadOf bytes head
unfolding head_of
head_of_ok bytes head is =
    let some = guard_ok (nat_lt (length bytes) 4) CutHead _ head is in
    let other = guard_ok (number_of false 4 bytes == PCAPNG_MAGIC) PcapNg (head_behind (magic_of bytes) bytes) head some.1 in
    head_behind_ok bytes (magic_of bytes) head refl other.1

module _ (bytes : List ℕ) (head : CaptureHead) (all : All (λ b. b < 2 ^ 8) bytes) (h : IsHeadOf bytes head) where
  below : (at : ℕ) → number_of head.little 4 (drop at bytes) < 256 ^ 4
  below at = number_of_below head.little 4 (drop at bytes) (All-drop (λ b. b < 2 ^ 8) at bytes all)

  abbrev unread : Unread
  unread = record {
    zone = number_of head.little 4 (drop 8 bytes);
    sigfigs = number_of head.little 4 (drop 12 bytes);
    snaplen = number_of head.little 4 (drop 16 bytes);
    high = number_of head.little 4 (drop 20 bytes) / 65536;
  }

  unread_fits : FitsHead unread
  unread_fits = let high = below 20 in record {
    zone = below 8;
    sigfigs = below 12;
    snaplen = below 16;
    high = omega (arith, high);
  }

  last_read : number_of head.little 4 (drop 20 bytes) ≡ last_number head unread
  last_read =
      let n = number_of head.little 4 (drop 20 bytes) in
      sym (div-add-mod' n 65536) ∙ ap (λ k. n / 65536 * 65536 + k) h.link

  spelled20 : drop 20 bytes ≡ from20 head unread (drop 24 bytes)
  spelled20 = let len = h.len in
      piece_at head.little 20 4 bytes (omega arith) all ∙ ap (λ x. number_bytes head.little 4 x ++ drop 24 bytes) last_read

  spelled16 : drop 16 bytes ≡ from16 head unread (drop 24 bytes)
  spelled16 = let len = h.len in
      piece_at head.little 16 4 bytes (omega arith) all ∙ ap (λ r. number_bytes head.little 4 unread.snaplen ++ r) spelled20

  spelled12 : drop 12 bytes ≡ from12 head unread (drop 24 bytes)
  spelled12 = let len = h.len in
      piece_at head.little 12 4 bytes (omega arith) all ∙ ap (λ r. number_bytes head.little 4 unread.sigfigs ++ r) spelled16

  spelled8 : drop 8 bytes ≡ from8 head unread (drop 24 bytes)
  spelled8 = let len = h.len in
      piece_at head.little 8 4 bytes (omega arith) all ∙ ap (λ r. number_bytes head.little 4 unread.zone ++ r) spelled12

  spelled6 : drop 6 bytes ≡ from6 head unread (drop 24 bytes)
  spelled6 = let len = h.len in
      piece_at head.little 6 2 bytes (omega arith) all ∙ ap (λ x. number_bytes head.little 2 x ++ drop 8 bytes) h.minor
      ∙ ap (λ r. number_bytes head.little 2 MINOR ++ r) spelled8

  spelled4 : drop 4 bytes ≡ from4 head unread (drop 24 bytes)
  spelled4 = let len = h.len in
      piece_at head.little 4 2 bytes (omega arith) all ∙ ap (λ x. number_bytes head.little 2 x ++ drop 6 bytes) h.major
      ∙ ap (λ r. number_bytes head.little 2 MAJOR ++ r) spelled6

  spelled : bytes ≡ parts head unread (drop 24 bytes)
  spelled = let len = h.len in
      piece head.little 4 bytes (omega arith) all ∙ ap (λ x. number_bytes head.little 4 x ++ drop 4 bytes) h.magic
      ∙ ap (λ r. number_bytes head.little 4 (magic_number head.nanos) ++ r) spelled4

-- what is read as a head was spelled
pub head_spelled : (bytes : List ℕ) (head : CaptureHead) → All (λ b. b < 2 ^ 8) bytes → head_of bytes ≡ Ok head
    → (u : Unread) × FitsHead u × (bytes ≡ head_bytes head u ++ drop HEAD_LEN bytes)
head_spelled bytes head all is =
    let h = head_of_ok bytes head is in
    let u = unread bytes head all h in
    (u, unread_fits bytes head all h, spelled bytes head all h ∙ sym (head_bytes_parts head u (drop 24 bytes)))
