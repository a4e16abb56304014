-- A header of a packet's chain taken out: the payload, and the chain that is left.
use Rattle.std.proofs.Common.{◌≡◌, ℕ, ◌+◌, ◌-◌, ◌*◌, ◌^◌, ◌<◌, ◌≤◌, false, ◌==◌, if◌then◌else◌, List, [], ◌∷◌, ◌++◌, length, take, drop, slice_index, slice_set, All, refl, sym, ap, subst, ◌∙◌, arith, inl, inr, append_assoc}
use Rattle.std.proofs.lemmas.List.{drop-take, length-set, get_or-set_same, get_or-set_other, drop-set-lt, drop-set-add, take-set-le}
use Rattle.std.proofs.Math.Seq.{take-set-lt}
use Rattle.std.proofs.lemmas.List.Elements.{All-nil, All-cons, All-head, All-tail, All-append, All-take, All-drop, All-set}
use Rattle.std.proofs.lemmas.Bool.{cases_Bool, ne_eqb}
use Rattle.srv6_rules.specs.declared.numbers.TheConstants.{NEXT_HEADER_AT}
use Rattle.srv6_rules.specs.Packet.{Packet, IsSpellable, header_len}
use Rattle.srv6_rules.specs.Chain.{ChainPlace, Header, Chain, behind, is_first, start_of, chain_of, from_place, cut_out, without}
use Rattle.srv6_rules.specs.ChainTerms.{LiesIn, StandsIn, Follow, place_of, place_behind, chain_at, lowered_to, lowered, renamed, in_front}
use Rattle.srv6_rules.proofs.Bytes.{byte_below}
use Rattle.srv6_rules.proofs.Chains.{lies_bytes, chain_at_follow, follow_chain}
use Rattle.srv6_rules.proofs.CutPackets.{length_cut, take_front, take_cut, without_first, without_later, chain_at_split, chain_at_lowered, cut_from, headers_lie, follow_split, follow_join, follow_below, all_split}

-- ---- headers in front of the one that is taken out

-- a header lies in a packet that has the same bytes up to its end
lies_front : (p q : Packet) (m : ℕ) (x : Header) → take (m - header_len) q.payload ≡ take (m - header_len) p.payload
    → header_len ≤ m → m ≤ header_len + length q.payload → LiesIn p x → x.place.at + length x.bytes ≤ m → LiesIn q x
lies_front p q m x same above room lies near =
    let start = lies.behind_header in
    let l : ℕ = length x.bytes in
    let a : ℕ = x.place.at - header_len in
    let j : ℕ = m - header_len in
    record {
      extension = lies.extension;
      behind_header = start;
      within = omega arith;
      bytes = lies.bytes ∙ sym (drop-take a l p.payload)
          ∙ ap (drop a) (sym (take_front (a + l) j p.payload (omega arith)) ∙ ap (take (a + l)) (sym same)
          ∙ take_front (a + l) j q.payload (omega arith)) ∙ drop-take a l q.payload;
      least = lies.least;
      stated = lies.stated;
    }

all_front : (p q : Packet) (m : ℕ) (xs : List Header) → take (m - header_len) q.payload ≡ take (m - header_len) p.payload
    → header_len ≤ m → m ≤ header_len + length q.payload → All (LiesIn p) xs → All (λ x. x.place.at + length x.bytes ≤ m) xs
    → All (LiesIn q) xs
all_front p q m [] same above room lies near = All-nil (LiesIn q)
all_front p q m (x ∷ xs) same above room lies near =
    All-cons (LiesIn q) x xs
    (lies_front p q m x same above room (All-head (LiesIn p) x xs lies) (All-head (λ y. y.place.at + length y.bytes ≤ m) x xs near))
    (all_front p q m xs same above room (All-tail (LiesIn p) x xs lies) (All-tail (λ y. y.place.at + length y.bytes ≤ m) x xs near))

-- the header that named the one that is taken out lies in the packet, with another first byte
renamed_lies : (p q : Packet) (g : Header) (v : ℕ) → LiesIn p g → g.place.at + length g.bytes ≤ header_len + length q.payload
    → take (g.place.at - header_len + length g.bytes) q.payload
    ≡ take (g.place.at - header_len + length g.bytes) (slice_set p.payload (g.place.at - header_len) v)
    → LiesIn q (renamed v g)
renamed_lies p q g v lies room same =
    let least = lies.least in
    let l : ℕ = length g.bytes in
    let a : ℕ = g.place.at - header_len in
    let len : length (slice_set g.bytes 0 v) ≡ l = length-set g.bytes 0 v in
    let zero_on : a + 0 ≡ a = omega arith in
    let second : slice_index (slice_set g.bytes 0 v) 1 ≡ slice_index g.bytes 1 = get_or-set_other g.bytes 0 1 v 0 (omega arith) in
    let set : take l (drop a q.payload) ≡ slice_set g.bytes 0 v =
    sym (drop-take a l q.payload) ∙ ap (drop a) same ∙ drop-take a l (slice_set p.payload a v)
    ∙ ap (λ i. take l (drop a (slice_set p.payload i v))) (sym zero_on)
    ∙ ap (take l) (drop-set-add a p.payload 0 v)
    ∙ take-set-lt l (drop a p.payload) 0 v (omega arith)
    ∙ ap (λ xs. slice_set xs 0 v) (sym lies.bytes) in
    record {
      extension = lies.extension;
      behind_header = lies.behind_header;
      within = omega arith;
      bytes = sym set ∙ ap (λ k. take k (drop a q.payload)) (sym len);
      least = omega arith;
      stated = len ∙ lies.stated
          ∙ ap (λ b. if g.place.kind == 44 then 8 else 8 * (b + 1)) (sym second);
    }

-- ---- a later header taken out

module _ (p : Packet) (before after : List Header) (g h : Header) (split : (chain_of p).headers ≡ before ++ g ∷ h ∷ after) where
  later_follow : (mid : ChainPlace) × Follow (start_of p) before mid × Follow mid (g ∷ h ∷ after) (place_of (chain_of p).end)
  unfolding chain_at
  later_follow =
      let Q : List Header → Type 0 = λ hs. Follow (start_of p) hs (place_of (chain_of p).end) in
      follow_split (start_of p) before (g ∷ h ∷ after) (place_of (chain_of p).end)
      (subst Q split (chain_at_follow p (start_of p) (omega arith)))

  later_place : h.place ≡ place_behind g
  later_place = later_follow.2.1.0

  later_front : Follow (start_of p) before g.place
  later_front =
      let Q : ChainPlace → Type 0 = λ x. Follow (start_of p) before x in
      subst Q (sym later_follow.2.0) later_follow.1

  later_lie : All (LiesIn p) before × LiesIn p g × LiesIn p h
  later_lie =
      let Q : List Header → Type 0 = λ hs. All (LiesIn p) hs in
      let all = all_split (LiesIn p) before (g ∷ h ∷ after) (subst Q split (headers_lie p)) in
      let tail = All-tail (LiesIn p) g (h ∷ after) all.1 in
      (all.0, All-head (LiesIn p) g (h ∷ after) all.1, All-head (LiesIn p) h after tail)

  later_names : h.place.named_at ≡ g.place.at
  later_names = ap (λ (x : ChainPlace). x.named_at) later_place

  later_at : h.place.at ≡ g.place.at + length g.bytes
  later_at = ap (λ (x : ChainPlace). x.at) later_place

  pub later_not_first : is_first h.place ≡ false
  later_not_first =
      let lie = later_lie in
      let start = lie.1.behind_header in
      let named = later_names in
      ne_eqb h.place.named_at NEXT_HEADER_AT (λ e. omega arith)

  -- the packet without the header
  left_over : Packet
  left_over =
      record p {
        payload = cut_out (h.place.at - header_len) (length h.bytes)
            (slice_set p.payload (h.place.named_at - header_len) (slice_index h.bytes 0));
      }

  left_over_room : h.place.at - header_len + length h.bytes
      ≤ length (slice_set p.payload (h.place.named_at - header_len) (slice_index h.bytes 0))
  left_over_room =
      let lie = later_lie in
      let start = lie.2.behind_header in
      let within = lie.2.within in
      let len = length-set p.payload (h.place.named_at - header_len) (slice_index h.bytes 0) in
      omega arith

  left_over_length : length left_over.payload + length h.bytes ≡ length p.payload
  unfolding left_over
  left_over_length =
      length_cut (h.place.at - header_len) (length h.bytes)
      (slice_set p.payload (h.place.named_at - header_len) (slice_index h.bytes 0)) left_over_room
      ∙ length-set p.payload (h.place.named_at - header_len) (slice_index h.bytes 0)

  left_over_before : All (LiesIn left_over) before
  unfolding left_over
  left_over_before =
      let lie = later_lie in
      let start = lie.1.behind_header in
      let within = lie.2.within in
      let at = later_at in
      let named = later_names in
      let len = left_over_length in
      let ys : List ℕ = slice_set p.payload (h.place.named_at - header_len) (slice_index h.bytes 0) in
      let same : take (g.place.at - header_len) left_over.payload ≡ take (g.place.at - header_len) p.payload =
      take_cut (h.place.at - header_len) (length h.bytes) (g.place.at - header_len) ys left_over_room (omega arith)
      ∙ take-set-le (g.place.at - header_len) p.payload (h.place.named_at - header_len) (slice_index h.bytes 0) (omega arith) in
      all_front p left_over g.place.at before same start (omega arith) lie.0 (follow_below (start_of p) before g.place later_front)

  left_over_named : LiesIn left_over (renamed (slice_index h.bytes 0) g)
  unfolding left_over
  left_over_named =
      let lie = later_lie in
      let start = lie.1.behind_header in
      let within = lie.2.within in
      let at = later_at in
      let len = left_over_length in
      let v : ℕ = slice_index h.bytes 0 in
      let j : ℕ = g.place.at - header_len + length g.bytes in
      let same : take j left_over.payload ≡ take j (slice_set p.payload (g.place.at - header_len) v) =
      take_cut (h.place.at - header_len) (length h.bytes) j (slice_set p.payload (h.place.named_at - header_len) v) left_over_room
      (omega arith)
      ∙ ap (λ i. take j (slice_set p.payload (i - header_len) v)) later_names in
      renamed_lies p left_over g v lie.1 (omega arith) same

  left_over_place : place_behind (renamed (slice_index h.bytes 0) g) ≡ lowered_to (length h.bytes) g.place.at (place_behind h)
  left_over_place =
      let lie = later_lie in
      let least = lie.1.least in
      let v : ℕ = slice_index h.bytes 0 in
      let len = length-set g.bytes 0 v in
      let at = later_at in
      let first : slice_index (slice_set g.bytes 0 v) 0 ≡ v = get_or-set_same g.bytes 0 v 0 (omega arith) in
      let sum : g.place.at + length (slice_set g.bytes 0 v) ≡ h.place.at + length h.bytes - length h.bytes = omega arith in
      let one : ChainPlace = record {
        at = h.place.at + length h.bytes - length h.bytes;
        kind = slice_index (slice_set g.bytes 0 v) 0;
        named_at = g.place.at;
      } in
      let same : place_behind (renamed v g) ≡ one =
      ap (λ i. record { at = i; kind = slice_index (slice_set g.bytes 0 v) 0; named_at = g.place.at }) sum in
      same ∙ ap (λ k. record { at = h.place.at + length h.bytes - length h.bytes; kind = k; named_at = g.place.at }) first

  left_over_behind : chain_at left_over (place_behind (renamed (slice_index h.bytes 0) g))
      ≡ lowered (length h.bytes) g.place.at after (chain_of p).end
  unfolding left_over chain_at
  left_over_behind =
      let lie = later_lie in
      let start = lie.2.behind_header in
      let room = lie.1.least in
      let at = later_at in
      let named = later_names in
      let n : ℕ = length h.bytes in
      let m : ℕ = h.place.named_at - header_len in
      let v : ℕ = slice_index h.bytes 0 in
      ap (chain_at left_over) left_over_place
      ∙ chain_at_lowered p left_over n (h.place.at + n) (omega arith)
      (cut_from p left_over h (slice_set p.payload m v) lie.2 refl (length-set p.payload m v)
      (λ k far. drop-set-lt k p.payload m v (omega arith))) (place_behind h) (omega arith) g.place.at
      ∙ ap (λ (c : Chain). lowered n g.place.at c.headers c.end)
      (chain_at_split p (start_of p) (omega arith) (before ++ g ∷ []) after h (split ∙ sym (append_assoc before (g ∷ []) (h ∷ after))))

  -- the chain of the packet without a later header is the chain without that header: the header in front of it names what
  -- stood after it
  pub without_later_chain : chain_of (without p h)
      ≡ in_front before (behind (renamed (slice_index h.bytes 0) g) (lowered (length h.bytes) g.place.at after (chain_of p).end))
  unfolding left_over chain_at
  without_later_chain =
      let r : Header = renamed (slice_index h.bytes 0) g in
      let tail : Chain = chain_at left_over (place_behind r) in
      ap (λ x. chain_of x) (without_later p h later_not_first)
      ∙ follow_chain left_over (start_of p) (before ++ r ∷ []) (place_behind r)
      (follow_join (start_of p) before (r ∷ []) g.place (place_behind r) later_front (refl, refl))
      (All-append (LiesIn left_over) before (r ∷ []) left_over_before (All-cons (LiesIn left_over) r [] left_over_named
      (All-nil (LiesIn left_over))))
      ∙ ap (λ hs. record { headers = hs; end = tail.end }) (append_assoc before (r ∷ []) tail.headers)
      ∙ ap (λ c. in_front before (behind r c)) left_over_behind

-- ---- any header taken out

-- nothing but the field that named the header and the payload changes
pub without_others : (p : Packet) (h : Header)
    → without p h ≡ record p { next_header = (without p h).next_header; payload = (without p h).payload }
without_others p h = elim (cases_Bool (is_first h.place)) [
  | inl first ↦ rw first refl
  | inr later ↦ rw later refl
]

-- the payload is shorter by the header, of which the bytes are there
pub without_room : (p : Packet) (h : Header) → header_len ≤ h.place.at → h.place.at + length h.bytes ≤ header_len + length p.payload
    → length (without p h).payload + length h.bytes ≡ length p.payload
without_room p h start within =
    let a : ℕ = h.place.at - header_len in
    let n : ℕ = length h.bytes in
    elim (cases_Bool (is_first h.place)) [
      | inl first ↦ ap (λ (x : Packet). length x.payload + n) (without_first p h first) ∙ length_cut a n p.payload (omega arith)
      | inr later ↦
          let ys : List ℕ = slice_set p.payload (h.place.named_at - header_len) (slice_index h.bytes 0) in
          let len = length-set p.payload (h.place.named_at - header_len) (slice_index h.bytes 0) in
          ap (λ (x : Packet). length x.payload + n) (without_later p h later) ∙ length_cut a n ys (omega arith) ∙ len
    ]

pub without_length : (p : Packet) (h : Header) → LiesIn p h → length (without p h).payload + length h.bytes ≡ length p.payload
without_length p h lies = without_room p h lies.behind_header lies.within

-- the bytes after the header are those of the packet, so many places lower
pub without_behind : (p : Packet) (h : Header) → LiesIn p h → StandsIn p h.place → (at : ℕ) → h.place.at + length h.bytes ≤ at
    → from_place (without p h) (at - length h.bytes) ≡ from_place p at
without_behind p h lies stands at far =
    let start = lies.behind_header in
    let earlier = stands.earlier in
    let least = lies.least in
    elim (cases_Bool (is_first h.place)) [
      | inl first ↦ cut_from p (without p h) h p.payload lies (ap (λ (x : Packet). x.payload) (without_first p h first)) refl
          (λ k near. refl) at far
      | inr later ↦
          let m : ℕ = h.place.named_at - header_len in
          let v : ℕ = slice_index h.bytes 0 in
          cut_from p (without p h) h (slice_set p.payload m v) lies (ap (λ (x : Packet). x.payload) (without_later p h later))
          (length-set p.payload m v) (λ k near. drop-set-lt k p.payload m v (omega arith)) at far
    ]

-- the bytes in front of the field that named the header are as they were
pub without_front : (p : Packet) (h : Header) (at : ℕ) → LiesIn p h → StandsIn p h.place → header_len ≤ at
    → at ≤ (if is_first h.place then h.place.at else h.place.named_at)
    → take (at - header_len) (without p h).payload ≡ take (at - header_len) p.payload
without_front p h at lies stands above near =
    let start = lies.behind_header in
    let within = lies.within in
    let earlier = stands.earlier in
    let a : ℕ = h.place.at - header_len in
    let n : ℕ = length h.bytes in
    elim (cases_Bool (is_first h.place)) [
      | inl first ↦
          let up_to : at ≤ h.place.at = rw first at near in
          ap (λ (x : Packet). take (at - header_len) x.payload) (without_first p h first)
          ∙ take_cut a n (at - header_len) p.payload (omega arith) (omega arith)
      | inr later ↦
          let up_to : at ≤ h.place.named_at = rw later at near in
          let m : ℕ = h.place.named_at - header_len in
          let v : ℕ = slice_index h.bytes 0 in
          let len = length-set p.payload m v in
          ap (λ (x : Packet). take (at - header_len) x.payload) (without_later p h later)
          ∙ take_cut a n (at - header_len) (slice_set p.payload m v) (omega arith) (omega arith)
          ∙ take-set-le (at - header_len) p.payload m v (omega arith)
    ]

spellable_cut : (p : Packet) (next a n : ℕ) (ys : List ℕ) → IsSpellable p → next < 2 ^ 8 → All (λ b. b < 2 ^ 8) ys
    → a + n ≤ length ys → length ys ≡ length p.payload
    → IsSpellable (record p { next_header = next; payload = cut_out a n ys })
spellable_cut p next a n ys ok below all within len =
    let P : ℕ → Type 0 = λ b. b < 2 ^ 8 in
    let short : length p.payload < 2 ^ 16 = ok.payload_len in
    let cut = length_cut a n ys within in
    record {
      traffic_class = ok.traffic_class;
      flow_label = ok.flow_label;
      next_header = below;
      hop_limit = ok.hop_limit;
      source = ok.source;
      destination = ok.destination;
      payload_len = omega arith;
      payload = All-append P (take a ys) (drop (a + n) ys) (All-take P a ys all) (All-drop P (a + n) ys all);
    }

-- bytes can spell a packet without a header of bytes at a place of it
pub without_bytes : (p : Packet) (h : Header) → IsSpellable p → header_len ≤ h.place.at
    → h.place.at + length h.bytes ≤ header_len + length p.payload → All (λ b. b < 2 ^ 8) h.bytes → IsSpellable (without p h)
without_bytes p h ok start within bytes =
    let P : ℕ → Type 0 = λ b. b < 2 ^ 8 in
    let S : Packet → Type 0 = λ x. IsSpellable x in
    let a : ℕ = h.place.at - header_len in
    let n : ℕ = length h.bytes in
    let v : ℕ = slice_index h.bytes 0 in
    let below : v < 2 ^ 8 = byte_below h.bytes 0 bytes in
    elim (cases_Bool (is_first h.place)) [
      | inl first ↦ subst S (sym (without_first p h first)) (spellable_cut p v a n p.payload ok below ok.payload (omega arith) refl)
      | inr later ↦
          let m : ℕ = h.place.named_at - header_len in
          let len = length-set p.payload m v in
          subst S (sym (without_later p h later))
          (spellable_cut p p.next_header a n (slice_set p.payload m v) ok ok.next_header (All-set P p.payload m v below ok.payload)
          (omega arith) len)
    ]

pub without_spellable : (p : Packet) (h : Header) → IsSpellable p → LiesIn p h → IsSpellable (without p h)
without_spellable p h ok lies = without_bytes p h ok lies.behind_header lies.within (lies_bytes p h lies ok.payload)
