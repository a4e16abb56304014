-- Areas of items: how the first fault is looked for item by item, and where it stands.
use Rattle.std.proofs.Common.{◌≡◌, ℕ, zero, suc, ◌+◌, ◌-◌, ◌*◌, ◌<◌, ◌≤◌, Bool, true, false, List, [], ◌∷◌, length, take, drop, slice_index, refl, sym, ap, ◌∙◌, arith, ◌⊎◌, inl, inr, if◌then◌else◌, length-drop}
use Rattle.std.proofs.lemmas.Bool.{cases_Bool, lt-ltb, le-ltb, eq-eqb, ne_eqb, eqb-true}
use Rattle.std.proofs.Math.Bool.{or-true}
use Rattle.std.proofs.lemmas.List.{length-take}
use Rattle.std.specs.Prelude.{◌≢◌, ◌/◌, ◌==◌, nat_lt, Option, Some, None}
use Rattle.srv6_rules.specs.declared.reason.Reason.TheVariants as reasons
use Rattle.srv6_rules.specs.declared.numbers.TheConstants.{PAD1, PADN, HMAC}
use Rattle.srv6_rules.specs.Packet.{Packet}
use Rattle.srv6_rules.specs.Srh.{srh_of, tlv_bytes}
use Rattle.srv6_rules.specs.Chain.{Header}
use Rattle.srv6_rules.specs.ChainTerms.{LiesIn}
use Rattle.srv6_rules.specs.Areas.{Fault, item_bytes, passes_end, first_of, area_fault, unknown_option, option_fault, options_fault, tlv_fault, tlvs_fault}

-- ---- item by item

area_fault_skip : (judge : ℕ → List ℕ → Option Fault) (n at : ℕ) (bytes : List ℕ)
    → area_fault judge n at bytes ≡ area_fault judge 0 (at + n) (drop n bytes)
area_fault_skip judge zero at bytes = let sum : at ≡ at + 0 = omega arith in ap (λ k. area_fault judge 0 k bytes) sum
area_fault_skip judge (suc n) at [] = refl
area_fault_skip judge (suc n) at (b ∷ bytes) =
    let sum : at + 1 + n ≡ at + suc n = omega arith in
    area_fault_skip judge n (at + 1) bytes ∙ ap (λ k. area_fault judge 0 k (drop n bytes)) sum

-- an area of no bytes has no fault
pub area_fault_empty : (judge : ℕ → List ℕ → Option Fault) (at : ℕ) → area_fault judge 0 at [] ≡ None
area_fault_empty judge at = refl

-- the first fault of an area is that of its first item, or else that of the area after it
pub area_fault_item : (judge : ℕ → List ℕ → Option Fault) (at : ℕ) (item : List ℕ) → 0 < length item
    → area_fault judge 0 at item ≡ first_of (judge at item) (area_fault judge 0 (at + item_bytes item) (drop (item_bytes item) item))
area_fault_item judge at [] some = absurd (omega arith)
area_fault_item judge at (b ∷ bytes) some =
    let n : ℕ = item_bytes (b ∷ bytes) in
    let least : 1 ≤ n = elim (cases_Bool (b == PAD1)) [ inl pad ↦ rw pad (omega arith) | inr other ↦ rw other (omega arith) ] in
    let sum : suc (n - 1) ≡ n = omega arith in
    let place : at + 1 + (n - 1) ≡ at + n = omega arith in
    ap (first_of (judge at (b ∷ bytes)))
    (area_fault_skip judge (n - 1) (at + 1) bytes
    ∙ ap (λ k. area_fault judge 0 k (drop (n - 1) bytes)) place
    ∙ ap (λ k. area_fault judge 0 (at + n) (drop k (b ∷ bytes))) sum)

-- ---- where a fault stands

first_of_either : (one two : Option Fault) (f : Fault) → first_of one two ≡ Some f → (one ≡ Some f) ⊎ (two ≡ Some f)
first_of_either (Some x) two f e = inl e
first_of_either None two f e = inr e

module _ (judge : ℕ → List ℕ → Option Fault) (own : (at : ℕ) (item : List ℕ) (f : Fault) → judge at item ≡ Some f → f.at ≡ at) where
  pub area_fault_within : (skip at : ℕ) (bytes : List ℕ) (f : Fault) → area_fault judge skip at bytes ≡ Some f
      → (at ≤ f.at) × (f.at < at + length bytes)
  area_fault_within skip at [] f e = cc
  area_fault_within (suc skip) at (b ∷ bytes) f e =
      let rest = area_fault_within skip (at + 1) bytes f e in
      (omega arith, omega arith)
  area_fault_within zero at (b ∷ bytes) f e =
      elim (first_of_either (judge at (b ∷ bytes)) (area_fault judge (item_bytes (b ∷ bytes) - 1) (at + 1) bytes) f e) [
        | inl here ↦ let is = own at (b ∷ bytes) f here in (omega arith, omega arith)
        | inr later ↦
            let rest = area_fault_within (item_bytes (b ∷ bytes) - 1) (at + 1) bytes f later in
            (omega arith, omega arith)
      ]

place_in : Option Fault → ℕ
place_in (Some f) = f.at
place_in None = 0

option_own_by : (at : ℕ) (f : Fault) (bad pad padn skips discards : Bool)
    → (if bad then Some (record { reason = reasons.BadChain; at = at })
    else if pad then None
    else if padn then None
    else if skips then None
    else if discards then Some (record { reason = reasons.OptionDiscard; at = at })
    else Some (record { reason = reasons.OptionUnknown; at = at })) ≡ Some f → f.at ≡ at
unfolding place_in
option_own_by at f true pad padn skips discards e = sym (ap place_in e)
option_own_by at f false true padn skips discards e = cc
option_own_by at f false false true skips discards e = cc
option_own_by at f false false false true discards e = cc
option_own_by at f false false false false true e = sym (ap place_in e)
option_own_by at f false false false false false e = sym (ap place_in e)

-- the fault of an option has the option's place
pub option_own : (at : ℕ) (item : List ℕ) (f : Fault) → option_fault at item ≡ Some f → f.at ≡ at
option_own at item f e =
    option_own_by at f (passes_end item) (slice_index item 0 == PAD1) (slice_index item 0 == PADN)
    ((slice_index item 0 / 64) == 0) ((slice_index item 0 / 64) == 1) e

tlv_own_by : (at : ℕ) (f : Fault) (hmac bad : Bool)
    → (if hmac then Some (record { reason = reasons.HmacTlv; at = at })
    else if bad then Some (record { reason = reasons.BadTlv; at = at }) else None) ≡ Some f → f.at ≡ at
unfolding place_in
tlv_own_by at f true bad e = sym (ap place_in e)
tlv_own_by at f false true e = sym (ap place_in e)
tlv_own_by at f false false e = cc

-- the fault of an item of a type-length-value area has the item's place
pub tlv_own : (at : ℕ) (item : List ℕ) (f : Fault) → tlv_fault at item ≡ Some f → f.at ≡ at
tlv_own at item f e = tlv_own_by at f (slice_index item 0 == HMAC) (passes_end item) e

-- the fault of a header's options stands in the header, after its first two bytes
pub options_fault_within : (p : Packet) (h : Header) (f : Fault) → LiesIn p h → options_fault h ≡ Some f
    → (h.place.at + 2 ≤ f.at) × (f.at < h.place.at + length h.bytes)
options_fault_within p h f lies e =
    let least = lies.least in
    let rest = length-drop 2 h.bytes in
    let is = area_fault_within option_fault option_own 0 (h.place.at + 2) (drop 2 h.bytes) f e in
    (is.0, omega arith)

-- the fault of a segment routing header's area stands in the header, after the entry at Last Entry
pub tlvs_fault_within : (p : Packet) (h : Header) (f : Fault) → LiesIn p h → tlvs_fault h.place.at (srh_of h.bytes) ≡ Some f
    → (h.place.at + 8 + 16 * ((srh_of h.bytes).last_entry + 1) ≤ f.at) × (f.at < h.place.at + length h.bytes)
tlvs_fault_within p h f lies e =
    let least = lies.least in
    let n : ℕ = 8 * slice_index h.bytes 1 in
    let m : ℕ = 16 * ((srh_of h.bytes).last_entry + 1) in
    let behind = length-drop 8 h.bytes in
    let body = length-take n (drop 8 h.bytes) in
    let rest = length-drop m (take n (drop 8 h.bytes)) in
    let is = area_fault_within tlv_fault tlv_own 0 (h.place.at + 8 + m) (tlv_bytes (srh_of h.bytes)) f e in
    (is.0, omega arith)

-- ---- single items

module _ (item : List ℕ) where
  pad_fits : 0 < length item → (slice_index item 0 == PAD1) ≡ true → passes_end item ≡ false
  pad_fits some pad =
      let here : nat_lt (length item) 1 ≡ false = le-ltb (length item) 1 (omega arith) in
      rw (pad, here) refl

  item_fits : (slice_index item 0 == PAD1) ≡ false → 2 + slice_index item 1 ≤ length item → passes_end item ≡ false
  item_fits other fits =
      let two : nat_lt (length item) 2 ≡ false = le-ltb (length item) 2 (omega arith) in
      let all : nat_lt (length item) (2 + slice_index item 1) ≡ false = le-ltb (length item) (2 + slice_index item 1) (omega arith) in
      rw (other, two, all) refl

  item_passes : (slice_index item 0 == PAD1) ≡ false → length item < 2 + slice_index item 1 → passes_end item ≡ true
  item_passes other short =
      let all : nat_lt (length item) (2 + slice_index item 1) ≡ true = lt-ltb (length item) (2 + slice_index item 1) (omega arith) in
      rw (other, all) (or-true (nat_lt (length item) 2))

  no_pad : slice_index item 0 ≢ PAD1 → (slice_index item 0 == PAD1) ≡ false
  no_pad not = ne_eqb (slice_index item 0) PAD1 not

  -- Pad1 is skipped
  pub pad1_skipped : (at : ℕ) → 0 < length item → slice_index item 0 ≡ PAD1 → option_fault at item ≡ None
  pad1_skipped at some is =
      let pad : (slice_index item 0 == PAD1) ≡ true = eq-eqb (slice_index item 0) PAD1 is in
      let fits : passes_end item ≡ false = pad_fits some pad in
      rw (fits, pad) refl

  -- PadN and each option of a type whose two highest bits are 00 are skipped
  pub option_skipped : (at : ℕ) → 2 + slice_index item 1 ≤ length item → slice_index item 0 < 64 → option_fault at item ≡ None
  option_skipped at fits low = elim (cases_Bool (slice_index item 0 == PAD1)) [
    | inl pad ↦ pad1_skipped at (omega arith) (eqb-true (slice_index item 0) PAD1 pad)
    | inr other ↦
        let whole : passes_end item ≡ false = item_fits other fits in
        elim (cases_Bool (slice_index item 0 == PADN)) [
          | inl padn ↦ rw (whole, other, padn) refl
          | inr known ↦
              let bits : ((slice_index item 0 / 64) == 0) ≡ true = eq-eqb (slice_index item 0 / 64) 0 (omega arith) in
              rw (whole, other, known, bits) refl
        ]
  ]

  -- an unknown option: what its type's two highest bits say
  option_unknown : (at : ℕ) → 2 + slice_index item 1 ≤ length item → 64 ≤ slice_index item 0
      → option_fault at item ≡ unknown_option at (slice_index item 0)
  option_unknown at fits high =
      let other : (slice_index item 0 == PAD1) ≡ false = ne_eqb (slice_index item 0) PAD1 (λ e. omega arith) in
      let known : (slice_index item 0 == PADN) ≡ false = ne_eqb (slice_index item 0) PADN (λ e. omega arith) in
      let whole : passes_end item ≡ false = item_fits other fits in
      rw (whole, other, known) refl

  pub option_discarded : (at : ℕ) → 2 + slice_index item 1 ≤ length item → 64 ≤ slice_index item 0 → slice_index item 0 < 128
      → option_fault at item ≡ Some (record { reason = reasons.OptionDiscard; at = at })
  option_discarded at fits high low =
      let zero : ((slice_index item 0 / 64) == 0) ≡ false = ne_eqb (slice_index item 0 / 64) 0 (λ e. omega arith) in
      let one : ((slice_index item 0 / 64) == 1) ≡ true = eq-eqb (slice_index item 0 / 64) 1 (omega arith) in
      option_unknown at fits high ∙ rw (zero, one) refl

  pub option_told : (at : ℕ) → 2 + slice_index item 1 ≤ length item → 128 ≤ slice_index item 0
      → option_fault at item ≡ Some (record { reason = reasons.OptionUnknown; at = at })
  option_told at fits high =
      let zero : ((slice_index item 0 / 64) == 0) ≡ false = ne_eqb (slice_index item 0 / 64) 0 (λ e. omega arith) in
      let one : ((slice_index item 0 / 64) == 1) ≡ false = ne_eqb (slice_index item 0 / 64) 1 (λ e. omega arith) in
      option_unknown at fits (omega arith) ∙ rw (zero, one) refl

  -- an option that passes its header's end makes the chain bad
  pub option_bad : (at : ℕ) → slice_index item 0 ≢ PAD1 → length item < 2 + slice_index item 1
      → option_fault at item ≡ Some (record { reason = reasons.BadChain; at = at })
  option_bad at not short = let bad : passes_end item ≡ true = item_passes (no_pad not) short in rw bad refl

  -- an HMAC is refused, whether it passes the area's end or not
  pub tlv_hmac : (at : ℕ) → slice_index item 0 ≡ HMAC → tlv_fault at item ≡ Some (record { reason = reasons.HmacTlv; at = at })
  tlv_hmac at is = let hmac : (slice_index item 0 == HMAC) ≡ true = eq-eqb (slice_index item 0) HMAC is in rw hmac refl

  pub tlv_bad : (at : ℕ) → slice_index item 0 ≢ PAD1 → slice_index item 0 ≢ HMAC → length item < 2 + slice_index item 1
      → tlv_fault at item ≡ Some (record { reason = reasons.BadTlv; at = at })
  tlv_bad at not other short =
      let no : (slice_index item 0 == HMAC) ≡ false = ne_eqb (slice_index item 0) HMAC other in
      let bad : passes_end item ≡ true = item_passes (no_pad not) short in
      rw (no, bad) refl

  pub tlv_pad1 : (at : ℕ) → 0 < length item → slice_index item 0 ≡ PAD1 → tlv_fault at item ≡ None
  tlv_pad1 at some is =
      let no : (slice_index item 0 == HMAC) ≡ false = ne_eqb (slice_index item 0) HMAC (λ e. omega arith) in
      let fits : passes_end item ≡ false = pad_fits some (eq-eqb (slice_index item 0) PAD1 is) in
      rw (no, fits) refl

  pub tlv_skipped : (at : ℕ) → slice_index item 0 ≢ HMAC → 2 + slice_index item 1 ≤ length item → tlv_fault at item ≡ None
  tlv_skipped at other fits = elim (cases_Bool (slice_index item 0 == PAD1)) [
    | inl pad ↦ tlv_pad1 at (omega arith) (eqb-true (slice_index item 0) PAD1 pad)
    | inr not ↦
        let no : (slice_index item 0 == HMAC) ≡ false = ne_eqb (slice_index item 0) HMAC other in
        let whole : passes_end item ≡ false = item_fits not fits in
        rw (no, whole) refl
  ]
