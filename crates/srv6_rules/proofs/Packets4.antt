-- IPv4 packets: a spelling read back, and what reads spelled.
use Rattle.std.proofs.Common.{◌≡◌, ℕ, ◌+◌, ◌-◌, ◌*◌, ◌/◌, ◌%◌, ◌^◌, ◌<◌, ◌≤◌, ◌≢◌, Bool, true, false, ◌==◌, ◌||◌, nat_lt, if◌then◌else◌, List, [], ◌∷◌, ◌++◌, length, take, drop, slice_index, All, refl, sym, ap, subst, ◌∙◌, arith, inl, inr, append_assoc, length-append, length-drop}
use Rattle.std.proofs.lemmas.Bool.{cases_Bool, eq-eqb, ne_eqb, eqb-true, le-ltb, lt-ltb, ltb-false}
use Rattle.std.proofs.lemmas.List.{append-nil, drop_at, drop-append-le, take_at, take-append-drop, length-take-le, get_or_append_left}
use Rattle.std.proofs.lemmas.List.Elements.{All-take, All-drop}
use Rattle.std.proofs.Math.Seq.{take-add}
use Rattle.std.specs.Prelude.{Result, Ok, Err}
use Rattle.byteorder.specs.Endian.{big_number}
use Rattle.srv6_rules.specs.declared.reason.Reason.{Reason}
use Rattle.srv6_rules.specs.declared.reason.Reason.TheVariants.{Truncated, BadVersion}
use Rattle.srv6_rules.specs.Packet.{two_number}
use Rattle.srv6_rules.specs.Packet4.{Packet4, IsSpellable4, spelling4, read4, is_cut4, packet4_at, stated_header_len, total_len, header_checksum}
use Rattle.srv6_rules.specs.Packet4Terms.{Spells4}
use Rattle.srv6_rules.proofs.Bytes.{two_number_append}

-- ---- how bytes are judged

module _ (bytes : List ℕ) (version : slice_index bytes 0 / 16 ≡ 4) where
  is_four : ((slice_index bytes 0 / 16) == 4) ≡ true
  is_four = eq-eqb (slice_index bytes 0 / 16) 4 version

  -- of no bytes the first half byte is no 4
  some : (length bytes == 0) ≡ false
  some = elim (cases_Bool (length bytes == 0)) [
    | inl none ↦ absurd (empty bytes (eqb-true (length bytes) 0 none) version)
    | inr e ↦ e
  ]
    where
      empty : (xs : List ℕ) → length xs ≡ 0 → slice_index xs 0 / 16 ≡ 4 → ⊥
      empty [] e v = cc
      empty (x ∷ xs) e v = omega arith

  pub read4_short : length bytes < 20 → read4 bytes ≡ Err Truncated
  read4_short short = rw (some, is_four, lt-ltb (length bytes) 20 short) refl

  read4_by : (short : Bool) → nat_lt (length bytes) 20 ≡ short → is_cut4 bytes ≡ true → read4 bytes ≡ Err Truncated
  read4_by true e cut = rw (some, is_four, e) refl
  read4_by false e cut = rw (some, is_four, e, cut) refl

  pub read4_header : stated_header_len bytes < 20 → read4 bytes ≡ Err Truncated
  read4_header small = read4_by (nat_lt (length bytes) 20) refl (rw (lt-ltb (stated_header_len bytes) 20 small) refl)

  cut_by : (small below cut : Bool) → below ≡ true → (small || (below || cut)) ≡ true
  cut_by true below cut e = refl
  cut_by false below cut e = rw e refl

  cut_last : (small below cut : Bool) → cut ≡ true → (small || (below || cut)) ≡ true
  cut_last true below cut e = refl
  cut_last false true cut e = refl
  cut_last false false cut e = e

  pub read4_total : total_len bytes < stated_header_len bytes → read4 bytes ≡ Err Truncated
  read4_total below = read4_by (nat_lt (length bytes) 20) refl
      (cut_by (nat_lt (stated_header_len bytes) 20) (nat_lt (total_len bytes) (stated_header_len bytes))
      (nat_lt (length bytes) (total_len bytes))
      (lt-ltb (total_len bytes) (stated_header_len bytes) below))

  pub read4_cut : length bytes < total_len bytes → read4 bytes ≡ Err Truncated
  read4_cut cut = read4_by (nat_lt (length bytes) 20) refl
      (cut_last (nat_lt (stated_header_len bytes) 20) (nat_lt (total_len bytes) (stated_header_len bytes))
      (nat_lt (length bytes) (total_len bytes))
      (lt-ltb (length bytes) (total_len bytes) cut))

  pub read4_whole : 20 ≤ length bytes → 20 ≤ stated_header_len bytes → stated_header_len bytes ≤ total_len bytes
      → total_len bytes ≤ length bytes → read4 bytes ≡ Ok (packet4_at bytes)
  read4_whole long least header whole =
      rw (
        some,
        is_four,
        le-ltb (length bytes) 20 long,
        le-ltb (stated_header_len bytes) 20 least,
        le-ltb (total_len bytes) (stated_header_len bytes) header,
        le-ltb (length bytes) (total_len bytes) whole,
      ) refl

pub read4_version : (bytes : List ℕ) → 0 < length bytes → slice_index bytes 0 / 16 ≢ 4 → read4 bytes ≡ Err BadVersion
read4_version bytes some other =
    rw (ne_eqb (length bytes) 0 (omega arith), ne_eqb (slice_index bytes 0 / 16) 4 other) refl

-- bytes that read hold what their header states, and the packet is what stands there
pub record Reads4 (bytes : List ℕ) (p : Packet4) : Type 0 where
  pub version : slice_index bytes 0 / 16 ≡ 4
  pub long : 20 ≤ length bytes
  pub least : 20 ≤ stated_header_len bytes
  pub header : stated_header_len bytes ≤ total_len bytes
  pub whole : total_len bytes ≤ length bytes
  pub packet : packet4_at bytes ≡ p

reads4_by_tests : (bytes : List ℕ) (p : Packet4) (empty four short small below cut : Bool)
    → (length bytes == 0) ≡ empty → ((slice_index bytes 0 / 16) == 4) ≡ four → nat_lt (length bytes) 20 ≡ short
    → nat_lt (stated_header_len bytes) 20 ≡ small → nat_lt (total_len bytes) (stated_header_len bytes) ≡ below
    → nat_lt (length bytes) (total_len bytes) ≡ cut
    → ◌≡◌ {A = Result Packet4 Reason}
    (if empty then Err Truncated else if four then (if short then Err Truncated
    else if small || (below || cut) then Err Truncated else Ok (packet4_at bytes)) else Err BadVersion) (Ok p)
    → Reads4 bytes p
reads4_by_tests bytes p true four short small below cut e1 e2 e3 e4 e5 e6 e = cc
reads4_by_tests bytes p false false short small below cut e1 e2 e3 e4 e5 e6 e = cc
reads4_by_tests bytes p false true true small below cut e1 e2 e3 e4 e5 e6 e = cc
reads4_by_tests bytes p false true false true below cut e1 e2 e3 e4 e5 e6 e = cc
reads4_by_tests bytes p false true false false true cut e1 e2 e3 e4 e5 e6 e = cc
reads4_by_tests bytes p false true false false false true e1 e2 e3 e4 e5 e6 e = cc
reads4_by_tests bytes p false true false false false false e1 e2 e3 e4 e5 e6 e =
    record {
      version = eqb-true (slice_index bytes 0 / 16) 4 e2;
      long = ltb-false (length bytes) 20 e3;
      least = ltb-false (stated_header_len bytes) 20 e4;
      header = ltb-false (total_len bytes) (stated_header_len bytes) e5;
      whole = ltb-false (length bytes) (total_len bytes) e6;
      packet = cc;
    }

pub reads4 : (bytes : List ℕ) (p : Packet4) → read4 bytes ≡ Ok p → Reads4 bytes p
reads4 bytes p e =
    reads4_by_tests bytes p (length bytes == 0) ((slice_index bytes 0 / 16) == 4) (nat_lt (length bytes) 20)
    (nat_lt (stated_header_len bytes) 20) (nat_lt (total_len bytes) (stated_header_len bytes)) (nat_lt (length bytes) (total_len bytes))
    refl refl refl refl refl refl e

-- ---- what stands after a header makes no difference to its fields

number_front : (n at : ℕ) (h rest : List ℕ) → n ≡ 2 → at + 2 ≤ length h → big_number n (drop at (h ++ rest)) ≡ big_number n (drop at h)
unfolding two_number
number_front n at h rest two fits =
    ap (big_number n) (drop-append-le at h rest (omega arith))
    ∙ ap (λ k. big_number k (drop at h ++ rest)) two
    ∙ two_number_append (drop at h) rest (omega (arith, length-drop at h))
    ∙ ap (λ k. big_number k (drop at h)) (sym two)

module _ (h rest : List ℕ) (long : 12 ≤ length h) where
  first_front : slice_index (h ++ rest) 0 ≡ slice_index h 0
  first_front = get_or_append_left h rest 0 0 (omega arith)

  pub stated_front : stated_header_len (h ++ rest) ≡ stated_header_len h
  unfolding stated_header_len
  stated_front = ap (λ b. 4 * (b % 16)) first_front

  pub total_front : total_len (h ++ rest) ≡ total_len h
  unfolding total_len
  total_front = number_front 2 2 h rest refl (omega arith)

  pub checksum_front : header_checksum (h ++ rest) ≡ header_checksum h
  unfolding header_checksum
  checksum_front = number_front 2 10 h rest refl (omega arith)

pub total_first8 : (xs : List ℕ) → 8 ≤ length xs → total_len xs ≡ total_len (take 8 xs)
unfolding total_len
total_first8 xs long =
    ap (λ ys. big_number 2 (drop 2 ys)) (sym (take-append-drop 8 xs))
    ∙ number_front 2 2 (take 8 xs) (drop 8 xs) refl (omega (arith, length-take-le 8 xs long))

-- ---- reading what was spelled

module _ (p : Packet4) (rest : List ℕ) (ok : IsSpellable4 p) where
  spelled4 : (p.header ++ p.payload) ++ rest ≡ p.header ++ (p.payload ++ rest)
  spelled4 = append_assoc p.header p.payload rest

  stated_spelled : stated_header_len (spelling4 p ++ rest) ≡ length p.header
  stated_spelled = let least = ok.least in
      ap stated_header_len spelled4 ∙ stated_front p.header (p.payload ++ rest) (omega arith) ∙ sym ok.header_len

  total_spelled : total_len (spelling4 p ++ rest) ≡ length p.header + length p.payload
  total_spelled = let least = ok.least in
      ap total_len spelled4 ∙ total_front p.header (p.payload ++ rest) (omega arith) ∙ ok.total

  packet4_spelled : packet4_at (spelling4 p ++ rest) ≡ p
  unfolding packet4_at
  packet4_spelled =
      let header : take (length p.header) (spelling4 p ++ rest) ≡ p.header =
      ap (take (length p.header)) spelled4 ∙ take_at p.header (p.payload ++ rest) (length p.header) refl in
      let behind : drop (length p.header) (spelling4 p ++ rest) ≡ p.payload ++ rest =
      ap (drop (length p.header)) spelled4 ∙ drop_at p.header (p.payload ++ rest) (length p.header) refl in
      let left : length p.header + length p.payload - length p.header ≡ length p.payload = omega arith in
      rw (stated_spelled, total_spelled, header, behind, left, take_at p.payload rest (length p.payload) refl) refl

  pub read4_spelling : read4 (spelling4 p ++ rest) ≡ Ok p
  read4_spelling =
      let least = ok.least in
      let stated = stated_spelled in
      let total = total_spelled in
      let len = length-append (p.header ++ p.payload) rest in
      let both = length-append p.header p.payload in
      let version : slice_index (spelling4 p ++ rest) 0 / 16 ≡ 4 =
      ap (λ xs. slice_index xs 0 / 16) spelled4 ∙ ap (λ b. b / 16) (first_front p.header (p.payload ++ rest) (omega arith)) ∙ ok.version in
      read4_whole (spelling4 p ++ rest) version (omega arith) (omega arith) (omega arith) (omega arith)
      ∙ ap (λ q. Ok q) packet4_spelled

pub read4_alone : (p : Packet4) → IsSpellable4 p → read4 (spelling4 p) ≡ Ok p
read4_alone p ok = ap read4 (sym (append-nil (spelling4 p))) ∙ read4_spelling p [] ok

pub spells4_value : (p q : Packet4) (bytes : List ℕ) → Spells4 bytes p → Spells4 bytes q → p ≡ q
spells4_value p q bytes one two =
    let first : read4 bytes ≡ Ok p = ap read4 one.1 ∙ read4_alone p one.0 in
    let second : read4 bytes ≡ Ok q = ap read4 two.1 ∙ read4_alone q two.0 in
    let same : ◌≡◌ {A = Result Packet4 Reason} (Ok p) (Ok q) = sym first ∙ second in
    cc

-- ---- what reads was spelled

module _ (bytes : List ℕ) (p : Packet4) (e : read4 bytes ≡ Ok p) where
  header_read : p.header ≡ take (stated_header_len bytes) bytes
  unfolding packet4_at
  header_read = ap (λ (q : Packet4). q.header) (sym (reads4 bytes p e).packet)

  payload_read : p.payload ≡ take (total_len bytes - stated_header_len bytes) (drop (stated_header_len bytes) bytes)
  unfolding packet4_at
  payload_read = ap (λ (q : Packet4). q.payload) (sym (reads4 bytes p e).packet)

  header_length : length p.header ≡ stated_header_len bytes
  header_length =
      let r = reads4 bytes p e in let whole = r.whole in let header = r.header in
      ap length header_read ∙ length-take-le (stated_header_len bytes) bytes (omega arith)

  payload_length : length p.payload ≡ total_len bytes - stated_header_len bytes
  payload_length =
      let r = reads4 bytes p e in let whole = r.whole in let header = r.header in
      ap length payload_read
      ∙ length-take-le (total_len bytes - stated_header_len bytes) (drop (stated_header_len bytes) bytes)
      (omega (arith, length-drop (stated_header_len bytes) bytes))

  spelling4_read : spelling4 p ≡ take (total_len bytes) bytes
  spelling4_read =
      let header = (reads4 bytes p e).header in
      let sum : stated_header_len bytes + (total_len bytes - stated_header_len bytes) ≡ total_len bytes = omega arith in
      rw (header_read, payload_read)
      (sym (take-add (stated_header_len bytes) (total_len bytes - stated_header_len bytes) bytes) ∙ ap (λ k. take k bytes) sum)

  spelling4_length : length (spelling4 p) ≡ total_len bytes
  spelling4_length = ap length spelling4_read ∙ length-take-le (total_len bytes) bytes (reads4 bytes p e).whole

  pub reads4_spelled : bytes ≡ spelling4 p ++ drop (length (spelling4 p)) bytes
  reads4_spelled =
      sym (take-append-drop (total_len bytes) bytes)
      ∙ ap (λ xs. xs ++ drop (total_len bytes) bytes) (sym spelling4_read)
      ∙ ap (λ k. spelling4 p ++ drop k bytes) (sym spelling4_length)

  -- the header's fields are those of the bytes
  front_read : bytes ≡ p.header ++ drop (stated_header_len bytes) bytes
  front_read = sym (take-append-drop (stated_header_len bytes) bytes)
      ∙ ap (λ xs. xs ++ drop (stated_header_len bytes) bytes) (sym header_read)

  pub reads4_spellable : All (λ b. b < 2 ^ 8) bytes → IsSpellable4 p
  reads4_spellable all =
      let P : ℕ → Type 0 = λ b. b < 2 ^ 8 in
      let Q : List ℕ → Type 0 = λ xs. All P xs in
      let r = reads4 bytes p e in
      let least = r.least in
      let under = r.header in
      let len = header_length in
      let more = payload_length in
      let back : List ℕ = drop (stated_header_len bytes) bytes in
      let stated : stated_header_len bytes ≡ stated_header_len p.header =
      ap stated_header_len front_read ∙ stated_front p.header back (omega arith) in
      let total : total_len bytes ≡ total_len p.header = ap total_len front_read ∙ total_front p.header back (omega arith) in
      record {
        version = ap (λ b. b / 16) (sym (ap (λ xs. slice_index xs 0) front_read ∙ first_front p.header back (omega arith))) ∙ r.version;
        least = omega arith;
        header_len = len ∙ stated;
        total = omega arith;
        header = subst Q (sym header_read) (All-take P (stated_header_len bytes) bytes all);
        payload = subst Q (sym payload_read)
            (All-take P (total_len bytes - stated_header_len bytes) (drop (stated_header_len bytes) bytes)
            (All-drop P (stated_header_len bytes) bytes all));
      }
