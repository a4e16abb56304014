-- Packets after the steps of compressed SIDs.
use Rattle.std.proofs.Common.{◌≡◌, ◌⊎◌, inl, inr, ℕ, ◌+◌, ◌-◌, ◌*◌, ◌/◌, ◌%◌, ◌^◌, ◌<◌, ◌≤◌, Bool, true, false, cond, ◌==◌, ◌&&◌, not, nat_le, length, drop, All, Option, Some, None, refl, sym, ◌∙◌, ap, subst, arith}
use Rattle.std.proofs.lemmas.Bool.{leb-false, eqb-true}
use Rattle.std.proofs.lemmas.Nat.{shr_below, shl_below, mul-add-lt, mod_below, pow_pos, pow-add}
use Rattle.std.proofs.lemmas.List.{length-set}
use Rattle.std.proofs.lemmas.List.Elements.{All-set, All-drop}
use Rattle.v6_addr.specs.Address.{field_of, with_field_of}
use Rattle.v6_addr.proofs.PublicLaws.{with_field_of_bound}
use Rattle.srv6_rules.specs.declared.compression.Compression.{Compression}
use Rattle.srv6_rules.specs.Packet.{Packet, IsSpellable, header_len}
use Rattle.srv6_rules.specs.declared.reason.Reason.TheVariants.{HopLimit}
use Rattle.srv6_rules.specs.Srh.{Srh, srh_of, entry_of, segments_left_at}
use Rattle.srv6_rules.specs.Chain.{Header}
use Rattle.srv6_rules.specs.ChainTerms.{LiesIn}
use Rattle.srv6_rules.specs.Areas.{Fault, tlvs_fault}
use Rattle.srv6_rules.specs.Compressed.{argument_of, shift_of, csid_count, index_of, csid_at, with_index, replace_of}
use Rattle.srv6_rules.specs.CompressedSteps.{Move, Moved, AtEnd, Dropped, csid_len_of, shifted, index_in, listed_csid, is_ended, lacks_entry, has_bad_list, to_csid, to_entry, move_of, moved, unless_dropped, ReplaceStep, segments_fault, replace_step, is_at_end}
use Rattle.srv6_rules.specs.CompressedStepsTerms.{IsNext, IsReplace}
use Rattle.srv6_rules.proofs.Bytes.{address_number_below}
use Rattle.srv6_rules.proofs.AreaItems.{tlvs_fault_within}
use Rattle.srv6_rules.proofs.PackedEntries.{count_is, count_some}

-- ---- destinations are addresses

high_and_low : (d k b v : ℕ) → d < 2 ^ (b + k) → v < 2 ^ k → d / 2 ^ k * 2 ^ k + v < 2 ^ (b + k)
high_and_low d k b v below fits =
    let turned : k + b ≡ b + k = omega arith in
    let P : ℕ → Type 0 = λ n. d / 2 ^ k * 2 ^ k + v < n in
    subst P (sym (pow-add 2 k b) ∙ ap (λ n. 2 ^ n) turned) (mul-add-lt (d / 2 ^ k) (2 ^ k) v (2 ^ b) (shr_below d b k below) fits)

shift_address : (d block len : ℕ) → block < len → len ≤ 128 → d < 2 ^ 128 → shift_of d block len < 2 ^ 128
unfolding shift_of argument_of
shift_address d block len longer within below =
    let m : ℕ = 128 - len in
    let w : ℕ = len - block in
    let k : ℕ = 128 - block in
    let sum : m + w ≡ k = omega arith in
    let all : block + k ≡ 128 = omega arith in
    let P : ℕ → Type 0 = λ n. d % 2 ^ m * 2 ^ w < 2 ^ n in
    let Q : ℕ → Type 0 = λ n. d < 2 ^ n in
    let R : ℕ → Type 0 = λ n. d / 2 ^ k * 2 ^ k + d % 2 ^ m * 2 ^ w < 2 ^ n in
    let fits = subst P sum (shl_below (d % 2 ^ m) m w (mod_below d (2 ^ m) (pow_pos m))) in
    subst R all (high_and_low d k block (d % 2 ^ m * 2 ^ w) (subst Q (sym all) below) fits)

index_address : (x j count : ℕ) → (count ≡ 8) ⊎ (count ≡ 4) → x < 2 ^ 128 → j < count → x / count * count + j < 2 ^ 128
index_address x j count (inl e) below fits =
    let P : ℕ → Type 0 = λ n. j < n → x / n * n + j < 2 ^ 128 in
    let at : j < 8 → x / 8 * 8 + j < 2 ^ 128 = λ h. mul-add-lt (x / 8) 8 j (2 ^ 125) (shr_below x 125 3 below) h in
    subst P (sym e) at fits
index_address x j count (inr e) below fits =
    let P : ℕ → Type 0 = λ n. j < n → x / n * n + j < 2 ^ 128 in
    let at : j < 4 → x / 4 * 4 + j < 2 ^ 128 = λ h. mul-add-lt (x / 4) 4 j (2 ^ 126) (shr_below x 126 2 below) h in
    subst P (sym e) at fits

csid_fits : (w entry index : ℕ) → csid_at w entry index < 2 ^ w
unfolding csid_at field_of
csid_fits w entry index = mod_below (entry / 2 ^ (128 - index * w - w)) (2 ^ w) (pow_pos w)

replace_address : (c : Compression) (d csid index : ℕ) → IsReplace c → d < 2 ^ 128 → csid < 2 ^ csid_len_of c
    → index < csid_count (csid_len_of c) → replace_of d c.block_len (csid_len_of c) csid index < 2 ^ 128
unfolding replace_of with_index
replace_address c d csid index is below fits index_fits =
    let longer = is.longer in
    let within = is.within in
    let w : ℕ = csid_len_of c in
    index_address (with_field_of d c.block_len w csid) index (csid_count w) (count_is w is.csid_len).cases
    (with_field_of_bound d c.block_len w csid (omega arith) below fits) index_fits

entry_below : (srh : Srh) (i : ℕ) → All (λ b. b < 2 ^ 8) srh.body → entry_of srh i < 2 ^ 128
entry_below srh i all =
    let P : ℕ → Type 0 = λ b. b < 2 ^ 8 in
    address_number_below (drop (16 * i) srh.body) (All-drop P (16 * i) srh.body all)

-- ---- moves

record IsFit (m : Move) : Type 0 where
  segments_left : m.segments_left < 2 ^ 8
  destination : m.destination < 2 ^ 128

either_move : (zero none : Bool) (x y z : Move) → IsFit x → IsFit y → IsFit z → IsFit (cond zero x (cond none y z))
either_move true none x y z fit_x fit_y fit_z = fit_x
either_move false true x y z fit_x fit_y fit_z = fit_y
either_move false false x y z fit_x fit_y fit_z = fit_z

csid_fit : (c : Compression) (srh : Srh) (d left index : ℕ) → IsReplace c → d < 2 ^ 128 → left < 2 ^ 8
    → index < csid_count (csid_len_of c) → IsFit (to_csid c srh d left index)
csid_fit c srh d left index is below small fits = record {
  segments_left = small;
  destination = replace_address c d (listed_csid c srh left index) index is below
      (csid_fits (csid_len_of c) (entry_of srh left) index) fits;
}

move_fit : (c : Compression) (srh : Srh) (d : ℕ) → IsReplace c → d < 2 ^ 128 → srh.segments_left < 2 ^ 8
    → All (λ b. b < 2 ^ 8) srh.body → IsFit (move_of c srh d)
unfolding index_of
move_fit c srh d is below small all =
    let k : ℕ = csid_count (csid_len_of c) in
    let left : ℕ = srh.segments_left in
    let index : ℕ = index_in c d in
    let some = count_some (csid_len_of c) is.csid_len in
    let least : index < k = mod_below d k some in
    let entry : IsFit (to_entry srh) = record { segments_left = omega arith; destination = entry_below srh (left - 1) all } in
    either_move (index == 0) (listed_csid c srh left (index - 1) == 0) (to_csid c srh d (left - 1) (k - 1)) (to_entry srh)
    (to_csid c srh d left (index - 1)) (csid_fit c srh d (left - 1) (k - 1) is below (omega arith) (omega arith)) entry
    (csid_fit c srh d left (index - 1) is below small (omega arith))

moved_spellable : (p : Packet) (at : ℕ) (m : Move) → IsSpellable p → IsFit m → IsSpellable (moved p at m)
moved_spellable p at m ok fit =
    let hop = ok.hop_limit in
    let k : ℕ = at + segments_left_at - header_len in
    record {
      traffic_class = ok.traffic_class;
      flow_label = ok.flow_label;
      next_header = ok.next_header;
      hop_limit = omega arith;
      source = ok.source;
      destination = fit.destination;
      payload_len = subst (λ n. n < 2 ^ 16) (sym (length-set p.payload k m.segments_left)) ok.payload_len;
      payload = All-set (λ b. b < 2 ^ 8) p.payload k m.segments_left fit.segments_left ok.payload;
    }

pub shifted_spellable : (c : Compression) (p : Packet) → IsNext c → IsSpellable p → IsSpellable (shifted c p)
shifted_spellable c p is ok =
    let hop = ok.hop_limit in
    record {
      traffic_class = ok.traffic_class;
      flow_label = ok.flow_label;
      next_header = ok.next_header;
      hop_limit = omega arith;
      source = ok.source;
      destination = shift_address p.destination c.block_len c.prefix_len is.longer is.within ok.destination;
      payload_len = ok.payload_len;
      payload = ok.payload;
    }

-- ---- a step that moves

-- what holds where it does
pub record StepMoves (c : Compression) (p : Packet) (at : ℕ) (srh : Srh) (q : Packet) (ended : Bool) : Type 0 where
  pub going_on : is_ended c srh srh.segments_left p.destination ≡ false
  pub low : nat_le p.hop_limit 1 ≡ false
  pub list : has_bad_list c srh p.destination ≡ false
  pub no_fault : tlvs_fault at srh ≡ None
  pub packet : moved p at (move_of c srh p.destination) ≡ q
  pub is_ended : (move_of c srh p.destination).ended ≡ ended

moves_by : (c : Compression) (p : Packet) (at : ℕ) (srh : Srh) (q : Packet) (ended : Bool) (lacks end low bad : Bool) (tlv : Option Fault)
    (fault hop : Fault)
    → is_ended c srh srh.segments_left p.destination ≡ end → nat_le p.hop_limit 1 ≡ low → has_bad_list c srh p.destination ≡ bad
    → tlvs_fault at srh ≡ tlv
    → cond lacks (Dropped fault)
    (cond end AtEnd
    (unless_dropped (cond low (Some hop) None)
    (cond bad (Dropped fault)
    (unless_dropped tlv (Moved (moved p at (move_of c srh p.destination)) (move_of c srh p.destination).ended))))) ≡ Moved q ended
    → StepMoves c p at srh q ended
moves_by c p at srh q ended true end low bad tlv fault hop e1 e2 e3 e4 e = cc
moves_by c p at srh q ended false true low bad tlv fault hop e1 e2 e3 e4 e = cc
moves_by c p at srh q ended false false true bad tlv fault hop e1 e2 e3 e4 e = cc
moves_by c p at srh q ended false false false true tlv fault hop e1 e2 e3 e4 e = cc
moves_by c p at srh q ended false false false false (Some found) fault hop e1 e2 e3 e4 e = cc
moves_by c p at srh q ended false false false false None fault hop e1 e2 e3 e4 e =
    record { going_on = e1; low = e2; list = e3; no_fault = e4; packet = cc; is_ended = cc }

pub step_moves : (c : Compression) (p : Packet) (at : ℕ) (srh : Srh) (q : Packet) (ended : Bool)
    → replace_step c p at srh ≡ Moved q ended → StepMoves c p at srh q ended
step_moves c p at srh q ended e =
    moves_by c p at srh q ended (lacks_entry c srh p.destination) (is_ended c srh srh.segments_left p.destination)
    (nat_le p.hop_limit 1) (has_bad_list c srh p.destination) (tlvs_fault at srh) (segments_fault at) _ refl refl refl refl e

pub step_spellable : (c : Compression) (p q : Packet) (at : ℕ) (srh : Srh) (ended : Bool) → IsReplace c → IsSpellable p
    → srh.segments_left < 2 ^ 8 → All (λ b. b < 2 ^ 8) srh.body → replace_step c p at srh ≡ Moved q ended → IsSpellable q
step_spellable c p q at srh ended is ok small all e =
    let P : Packet → Type 0 = λ x. IsSpellable x in
    subst P (step_moves c p at srh q ended e).packet
    (moved_spellable p at (move_of c srh p.destination) ok (move_fit c srh p.destination is ok.destination small all))

pub step_hop_limit : (c : Compression) (p q : Packet) (at : ℕ) (srh : Srh) (ended : Bool) → replace_step c p at srh ≡ Moved q ended
    → p.hop_limit ≡ q.hop_limit + 1
step_hop_limit c p q at srh ended e =
    let step = step_moves c p at srh q ended e in
    let above : 1 < p.hop_limit = leb-false p.hop_limit 1 step.low in
    let lowered : p.hop_limit - 1 ≡ q.hop_limit = ap (λ (x : Packet). x.hop_limit) step.packet in
    omega arith

-- ---- a header at its end

ends_by : (c : Compression) (p : Packet) (at : ℕ) (srh : Srh) (lacks end low bad : Bool) (tlv : Option Fault) (fault hop : Fault)
    → cond lacks (Dropped fault)
    (cond end AtEnd
    (unless_dropped (cond low (Some hop) None)
    (cond bad (Dropped fault)
    (unless_dropped tlv (Moved (moved p at (move_of c srh p.destination)) (move_of c srh p.destination).ended))))) ≡ AtEnd
    → (not lacks && end) ≡ true
ends_by c p at srh true end low bad tlv fault hop e = cc
ends_by c p at srh false true low bad tlv fault hop e = refl
ends_by c p at srh false false true bad tlv fault hop e = cc
ends_by c p at srh false false false true tlv fault hop e = cc
ends_by c p at srh false false false false (Some found) fault hop e = cc
ends_by c p at srh false false false false None fault hop e = cc

-- the step passes over a header that is at its end
pub step_at_end : (c : Compression) (p : Packet) (at : ℕ) (srh : Srh) → replace_step c p at srh ≡ AtEnd
    → is_at_end c srh p.destination ≡ true
step_at_end c p at srh e =
    ends_by c p at srh (lacks_entry c srh p.destination) (is_ended c srh srh.segments_left p.destination)
    (nat_le p.hop_limit 1) (has_bad_list c srh p.destination) (tlvs_fault at srh) (segments_fault at) _ e

none_left : (lacks : Bool) (left : ℕ) (b : Bool) → (not lacks && ((left == 0) && b)) ≡ true → left ≡ 0
none_left false left b e = eqb-true left 0 (and_first (left == 0) b e)
  where
    and_first : (x y : Bool) → (x && y) ≡ true → x ≡ true
    and_first true y e = refl
    and_first false y e = cc
none_left true left b e = cc

-- where no segment is left
pub at_end_none : (c : Compression) (srh : Srh) (d : ℕ) → is_at_end c srh d ≡ true → srh.segments_left ≡ 0
at_end_none c srh d e = none_left (lacks_entry c srh d) srh.segments_left _ e

-- ---- the place of a fault

abbrev AtPlace : Packet → ReplaceStep → Type 0
AtPlace p (Moved q ended) = Unit {0}
AtPlace p AtEnd = Unit {0}
AtPlace p (Dropped fault) = fault.at ≤ header_len + length p.payload

step_placed : (c : Compression) (p : Packet) (h : Header) → LiesIn p h → (lacks end low bad : Bool)
    → AtPlace p (cond lacks (Dropped (segments_fault h.place.at))
    (cond end AtEnd
    (unless_dropped (cond low (Some (record { reason = HopLimit; at = 0 })) None)
    (cond bad (Dropped (segments_fault h.place.at))
    (unless_dropped (tlvs_fault h.place.at (srh_of h.bytes))
    (Moved (moved p h.place.at (move_of c (srh_of h.bytes) p.destination)) (move_of c (srh_of h.bytes) p.destination).ended))))))
step_placed c p h lies true end low bad = let within = lies.within in let least = lies.least in omega arith
step_placed c p h lies false true low bad = tt
step_placed c p h lies false false true bad = omega arith
step_placed c p h lies false false false true = let within = lies.within in let least = lies.least in omega arith
step_placed c p h lies false false false false =
    let m : Move = move_of c (srh_of h.bytes) p.destination in
    let P : Option Fault → Type 0 = λ f. AtPlace p (unless_dropped f (Moved (moved p h.place.at m) m.ended)) in
    placed (tlvs_fault h.place.at (srh_of h.bytes)) refl
  where
    placed : (f : Option Fault) → tlvs_fault h.place.at (srh_of h.bytes) ≡ f
        → AtPlace p (unless_dropped f (Moved (moved p h.place.at (move_of c (srh_of h.bytes) p.destination))
        (move_of c (srh_of h.bytes) p.destination).ended))
    placed None e = tt
    placed (Some fault) e =
        let within = lies.within in
        let near = tlvs_fault_within p h fault lies e in
        omega arith

pub step_place : (c : Compression) (p : Packet) (h : Header) → LiesIn p h → (fault : Fault)
    → replace_step c p h.place.at (srh_of h.bytes) ≡ Dropped fault → fault.at ≤ header_len + length p.payload
step_place c p h lies fault e =
    let P : ReplaceStep → Type 0 = λ x. AtPlace p x in
    subst P e (step_placed c p h lies (lacks_entry c (srh_of h.bytes) p.destination)
    (is_ended c (srh_of h.bytes) (srh_of h.bytes).segments_left p.destination)
    (nat_le p.hop_limit 1) (has_bad_list c (srh_of h.bytes) p.destination))
