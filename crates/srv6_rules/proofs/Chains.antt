-- The chain of extension headers: how it goes on from each place, and where its headers lie.
use Rattle.std.proofs.Common.{◌≡◌, ℕ, zero, suc, ◌+◌, ◌-◌, ◌*◌, ◌^◌, ◌<◌, ◌≤◌, Bool, true, false, ◌==◌, nat_le, if◌then◌else◌, List, [], ◌∷◌, ◌++◌, length, take, drop, slice_index, All, refl, sym, ap, subst, ◌∙◌, arith, ◌⊎◌, ◌||◌, inl, inr, length-drop}
use Rattle.std.proofs.lemmas.List.{drop-drop, get_or-drop, get_or-take, length-append, length-take-le, take_at}
use Rattle.std.proofs.lemmas.List.Elements.{All-nil, All-cons, All-head, All-tail, All-take, All-drop}
use Rattle.std.proofs.lemmas.Bool.{cases_Bool, or_cases, and_parts, and_from, eqb-true, leb-true, le-leb}
use Rattle.srv6_rules.specs.Packet.{Packet, header_len, spelling}
use Rattle.srv6_rules.specs.Srh.{Srh, srh_spelling}
use Rattle.srv6_rules.specs.Chain.{ChainPlace, Header, ChainEnd, Upper, Cut, Chain, hop_by_hop, routing, fragment, destination_options, is_extension, extension_bytes, is_whole, header_in, behind_in, behind, chain_from, start_of, chain_of, from_place}
use Rattle.srv6_rules.specs.ChainTerms.{LiesIn, StandsIn, EndsIn, Follow, place_of, place_behind, chain_at}
use Rattle.srv6_rules.proofs.PacketPackets.{spelling_payload}
use Rattle.srv6_rules.proofs.PacketEdits.{spelling_next_header}
use Rattle.srv6_rules.proofs.Headers.{length_srh_spelling}

-- ---- one header and what follows

-- the values that name extension headers
pub extension_kinds : (kind : ℕ) → is_extension kind ≡ true → (kind ≡ 0) ⊎ ((kind ≡ 43) ⊎ ((kind ≡ 44) ⊎ (kind ≡ 60)))
extension_kinds kind e = elim (or_cases (kind == hop_by_hop)
    ((kind == routing) || ((kind == fragment) || (kind == destination_options))) e) [
      | inl options ↦ inl (eqb-true kind 0 options)
      | inr others ↦ elim (or_cases (kind == routing) ((kind == fragment) || (kind == destination_options)) others) [
        | inl route ↦ inr (inl (eqb-true kind 43 route))
        | inr two ↦ elim (or_cases (kind == fragment) (kind == destination_options) two) [
          | inl part ↦ inr (inr (inl (eqb-true kind 44 part)))
          | inr last ↦ inr (inr (inr (eqb-true kind 60 last)))
        ]
      ]
    ]

-- an extension header has at least 8 bytes
pub extension_bytes_least : (kind : ℕ) (bytes : List ℕ) → 8 ≤ extension_bytes kind bytes
extension_bytes_least kind bytes = elim (cases_Bool (kind == fragment)) [
  | inl same ↦ rw same (omega arith)
  | inr other ↦ rw other (omega arith)
]

is_whole_parts : (kind : ℕ) (bytes : List ℕ) → is_whole kind bytes ≡ true → (8 ≤ length bytes) × (extension_bytes kind bytes ≤ length bytes)
is_whole_parts kind bytes e =
    let both = and_parts (nat_le 8 (length bytes)) (nat_le (extension_bytes kind bytes) (length bytes)) e in
    (leb-true 8 (length bytes) both.0, leb-true (extension_bytes kind bytes) (length bytes) both.1)

is_whole_from : (kind : ℕ) (bytes : List ℕ) → extension_bytes kind bytes ≤ length bytes → is_whole kind bytes ≡ true
is_whole_from kind bytes h =
    let least = extension_bytes_least kind bytes in
    and_from (nat_le 8 (length bytes)) (nat_le (extension_bytes kind bytes) (length bytes))
    (le-leb 8 (length bytes) (omega arith)) (le-leb (extension_bytes kind bytes) (length bytes) h)

-- the chain after so many bytes is the chain of those that are left
chain_from_skip : (n : ℕ) (q : ChainPlace) (bytes : List ℕ) → chain_from n q bytes ≡ chain_from 0 q (drop n bytes)
unfolding chain_from
chain_from_skip zero q bytes = refl
chain_from_skip (suc n) q [] = refl
chain_from_skip (suc n) q (b ∷ bytes) = chain_from_skip n q bytes

-- the chain where a header may stand, by the two tests, the header and the chain after it
went_on : Bool → Bool → ChainPlace → Header → Chain → Chain
went_on ext whole q h tail =
    if ext then (if whole then behind h tail else record { headers = []; end = Cut q }) else record { headers = []; end = Upper q }

went_on_ended : (ext : Bool) (q : ChainPlace) (h : Header) (tail : Chain)
    → record { headers = []; end = if ext then Cut q else Upper q } ≡ went_on ext false q h tail
unfolding went_on
went_on_ended true q h tail = refl
went_on_ended false q h tail = refl

chain_from_went_on : (q : ChainPlace) (bytes : List ℕ)
    → chain_from 0 q bytes
    ≡ went_on (is_extension q.kind) (is_whole q.kind bytes) q (header_in q bytes)
    (chain_from 0 (behind_in q bytes) (drop (extension_bytes q.kind bytes) bytes))
unfolding chain_from went_on
chain_from_went_on q [] =
    went_on_ended (is_extension q.kind) q (header_in q [])
    (chain_from 0 (behind_in q []) (drop (extension_bytes q.kind []) []))
chain_from_went_on q (b ∷ bytes) =
    let n : ℕ = extension_bytes q.kind (b ∷ bytes) in
    let least = extension_bytes_least q.kind (b ∷ bytes) in
    let sum : suc (n - 1) ≡ n = omega arith in
    let tail : chain_from (n - 1) (behind_in q (b ∷ bytes)) bytes ≡ chain_from 0 (behind_in q (b ∷ bytes)) (drop n (b ∷ bytes)) =
    chain_from_skip (n - 1) (behind_in q (b ∷ bytes)) bytes
    ∙ ap (λ k. chain_from 0 (behind_in q (b ∷ bytes)) (drop k (b ∷ bytes))) sum in
    ap (went_on (is_extension q.kind) (is_whole q.kind (b ∷ bytes)) q (header_in q (b ∷ bytes))) tail

-- what stands a header's length after a place of a packet
from_place_behind : (p : Packet) (at n : ℕ) → header_len ≤ at → drop n (from_place p at) ≡ from_place p (at + n)
from_place_behind p at n start =
    let sum : at - header_len + n ≡ at + n - header_len = omega arith in
    drop-drop n (at - header_len) p.payload ∙ ap (λ k. drop k p.payload) sum

chain_at_went_on : (p : Packet) (q : ChainPlace) → header_len ≤ q.at
    → chain_at p q
    ≡ went_on (is_extension q.kind) (is_whole q.kind (from_place p q.at)) q (header_in q (from_place p q.at))
    (chain_at p (behind_in q (from_place p q.at)))
unfolding chain_at
chain_at_went_on p q start =
    let bytes : List ℕ = from_place p q.at in
    chain_from_went_on q bytes
    ∙ ap (λ xs. went_on (is_extension q.kind) (is_whole q.kind bytes) q (header_in q bytes) (chain_from 0 (behind_in q bytes) xs))
    (from_place_behind p q.at (extension_bytes q.kind bytes) start)

-- one equation for all cases
pub chain_at_goes_on : (p : Packet) (q : ChainPlace) → header_len ≤ q.at
    → chain_at p q
    ≡ (if is_extension q.kind
    then (if is_whole q.kind (from_place p q.at)
    then behind (header_in q (from_place p q.at)) (chain_at p (behind_in q (from_place p q.at)))
    else record { headers = []; end = Cut q })
    else record { headers = []; end = Upper q })
unfolding went_on
chain_at_goes_on p q start = chain_at_went_on p q start

-- a chain ends at an upper layer
pub chain_at_upper : (p : Packet) (q : ChainPlace) → header_len ≤ q.at → is_extension q.kind ≡ false
    → chain_at p q ≡ record { headers = []; end = Upper q }
chain_at_upper p q start e = chain_at_goes_on p q start ∙ rw e refl

-- a chain ends at a header that is cut
pub chain_at_cut : (p : Packet) (q : ChainPlace) → header_len ≤ q.at → is_extension q.kind ≡ true
    → is_whole q.kind (from_place p q.at) ≡ false → chain_at p q ≡ record { headers = []; end = Cut q }
chain_at_cut p q start e w = chain_at_goes_on p q start ∙ rw (e, w) refl

-- a chain goes on after a whole header
pub chain_at_header : (p : Packet) (q : ChainPlace) → header_len ≤ q.at → is_extension q.kind ≡ true
    → is_whole q.kind (from_place p q.at) ≡ true
    → chain_at p q ≡ behind (header_in q (from_place p q.at)) (chain_at p (behind_in q (from_place p q.at)))
chain_at_header p q start e w = chain_at_goes_on p q start ∙ rw (e, w) refl

-- a packet's chain starts after its IPv6 header
pub chain_of_start : (p : Packet) → chain_of p ≡ chain_at p (start_of p)
unfolding chain_at
chain_of_start p = refl

-- ---- what is so of each chain

-- what holds at an upper layer and at a header that is cut, and in front of each whole header if it holds after it,
-- holds of the chain of a packet from each place
module _ (p : Packet) (P : ChainPlace → Chain → Type 0)
    (cut : (q : ChainPlace) → is_extension q.kind ≡ true → is_whole q.kind (from_place p q.at) ≡ false
    → P q (record { headers = []; end = Cut q }))
    (upper : (q : ChainPlace) → is_extension q.kind ≡ false → P q (record { headers = []; end = Upper q }))
    (more : (q : ChainPlace) (c : Chain) → header_len ≤ q.at → is_extension q.kind ≡ true
    → is_whole q.kind (from_place p q.at) ≡ true → P (behind_in q (from_place p q.at)) c
    → P q (behind (header_in q (from_place p q.at)) c)) where
  went_on_by : (q : ChainPlace) (tail : Chain) (ext whole : Bool) → header_len ≤ q.at → is_extension q.kind ≡ ext
      → is_whole q.kind (from_place p q.at) ≡ whole → (whole ≡ true → P (behind_in q (from_place p q.at)) tail)
      → P q (went_on ext whole q (header_in q (from_place p q.at)) tail)
  unfolding went_on
  went_on_by q tail true true start e w rest = more q tail start e w (rest refl)
  went_on_by q tail true false start e w rest = cut q e w
  went_on_by q tail false whole start e w rest = upper q e

  by_length : (n : ℕ) (q : ChainPlace) → header_len ≤ q.at → length (from_place p q.at) ≤ n → P q (chain_at p q)
  by_length zero q start short =
      let Q : Chain → Type 0 = λ c. P q c in
      let bytes : List ℕ = from_place p q.at in
      subst Q (sym (chain_at_went_on p q start))
      (went_on_by q (chain_at p (behind_in q bytes)) (is_extension q.kind) (is_whole q.kind bytes) start refl refl
      (λ w. let parts = is_whole_parts q.kind bytes w in absurd (omega arith)))
  by_length (suc n) q start short =
      let Q : Chain → Type 0 = λ c. P q c in
      let bytes : List ℕ = from_place p q.at in
      let k : ℕ = extension_bytes q.kind bytes in
      let least = extension_bytes_least q.kind bytes in
      let len : length (from_place p (q.at + k)) ≡ length bytes - k = ap length (sym (from_place_behind p q.at k start))
      ∙ length-drop k bytes in
      subst Q (sym (chain_at_went_on p q start))
      (went_on_by q (chain_at p (behind_in q bytes)) (is_extension q.kind) (is_whole q.kind bytes) start refl refl
      (λ w. let parts = is_whole_parts q.kind bytes w in by_length n (behind_in q bytes) (omega arith) (omega arith)))

  pub chain_at_by : (q : ChainPlace) → header_len ≤ q.at → P q (chain_at p q)
  chain_at_by q start = by_length (length (from_place p q.at)) q start (omega arith)

-- ---- where headers lie

-- a header's length is stated in its own bytes
extension_bytes_take : (kind n : ℕ) (bytes : List ℕ) → 1 < n → extension_bytes kind (take n bytes) ≡ extension_bytes kind bytes
extension_bytes_take kind n bytes h = rw (get_or-take n bytes 1 0 h) refl

-- a whole header at a place lies in the packet
pub header_in_lies : (p : Packet) (q : ChainPlace) → header_len ≤ q.at → is_extension q.kind ≡ true
    → is_whole q.kind (from_place p q.at) ≡ true → LiesIn p (header_in q (from_place p q.at))
header_in_lies p q start e w =
    let bytes : List ℕ = from_place p q.at in
    let n : ℕ = extension_bytes q.kind bytes in
    let parts = is_whole_parts q.kind bytes w in
    let least = extension_bytes_least q.kind bytes in
    let len : length (take n bytes) ≡ n = length-take-le n bytes parts.1 in
    let all = length-drop (q.at - header_len) p.payload in
    record {
      extension = e;
      behind_header = start;
      within = omega arith;
      bytes = ap (λ k. take k bytes) (sym len);
      least = omega arith;
      stated = len ∙ sym (extension_bytes_take q.kind n bytes (omega arith));
    }

-- each header of a chain lies in the packet
pub chain_at_lies : (p : Packet) (q : ChainPlace) → header_len ≤ q.at → All (LiesIn p) (chain_at p q).headers
chain_at_lies p q start =
    chain_at_by p (λ k c. All (LiesIn p) c.headers) (λ k e w. All-nil (LiesIn p)) (λ k e. All-nil (LiesIn p))
    (λ k c from e w rest. All-cons (LiesIn p) (header_in k (from_place p k.at)) c.headers (header_in_lies p k from e w) rest) q start

-- each byte of a header is one of the payload
pub lies_bytes : (p : Packet) (h : Header) → LiesIn p h → All (λ b. b < 2 ^ 8) p.payload → All (λ b. b < 2 ^ 8) h.bytes
lies_bytes p h lies all =
    let P : ℕ → Type 0 = λ b. b < 2 ^ 8 in
    let Q : List ℕ → Type 0 = λ xs. All P xs in
    let n : ℕ = h.place.at - header_len in
    subst Q (sym lies.bytes) (All-take P (length h.bytes) (drop n p.payload) (All-drop P n p.payload all))

-- a byte of a header is the payload's at its place
pub lies_at : (p : Packet) (h : Header) (k : ℕ) → LiesIn p h → k < length h.bytes
    → slice_index h.bytes k ≡ slice_index p.payload (h.place.at + k - header_len)
lies_at p h k lies below =
    let n : ℕ = h.place.at - header_len in
    let start = lies.behind_header in
    let sum : n + k ≡ h.place.at + k - header_len = omega arith in
    ap (λ xs. slice_index xs k) lies.bytes ∙ get_or-take (length h.bytes) (drop n p.payload) k 0 below ∙ get_or-drop n p.payload k 0
    ∙ ap (slice_index p.payload) sum

-- and the packet's
pub lies_spelled : (p : Packet) (h : Header) (k : ℕ) → LiesIn p h → k < length h.bytes
    → slice_index h.bytes k ≡ slice_index (spelling p) (h.place.at + k)
lies_spelled p h k lies below =
    let start = lies.behind_header in
    let sum : 40 + (h.place.at + k - header_len) ≡ h.place.at + k = omega arith in
    lies_at p h k lies below ∙ sym (spelling_payload p (h.place.at + k - header_len)) ∙ ap (slice_index (spelling p)) sum

-- a header's length is stated where it stands in the packet
pub lies_stated : (p : Packet) (h : Header) → LiesIn p h → length h.bytes ≡ extension_bytes h.place.kind (from_place p h.place.at)
lies_stated p h lies =
    let least = lies.least in
    lies.stated
    ∙ ap (λ xs. extension_bytes h.place.kind xs) lies.bytes
    ∙ extension_bytes_take h.place.kind (length h.bytes) (from_place p h.place.at) (omega arith)

-- ---- how places follow one another

-- where a chain goes on after a whole header
pub behind_header_in : (q : ChainPlace) (bytes : List ℕ) → is_whole q.kind bytes ≡ true
    → place_behind (header_in q bytes) ≡ behind_in q bytes
behind_header_in q bytes w =
    let n : ℕ = extension_bytes q.kind bytes in
    let parts = is_whole_parts q.kind bytes w in
    let least = extension_bytes_least q.kind bytes in
    let len : length (take n bytes) ≡ n = length-take-le n bytes parts.1 in
    let first : slice_index (take n bytes) 0 ≡ slice_index bytes 0 = get_or-take n bytes 0 0 (omega arith) in
    let one : ChainPlace = record { at = q.at + n; kind = slice_index (take n bytes) 0; named_at = q.at } in
    let same_at : place_behind (header_in q bytes) ≡ one =
    ap (λ k. record { at = q.at + k; kind = slice_index (take n bytes) 0; named_at = q.at }) len in
    same_at ∙ ap (λ k. record { at = q.at + n; kind = k; named_at = q.at }) first

-- the headers of a chain follow one another from its place to its end
pub chain_at_follow : (p : Packet) (q : ChainPlace) → header_len ≤ q.at → Follow q (chain_at p q).headers (place_of (chain_at p q).end)
chain_at_follow p q start =
    chain_at_by p (λ k c. Follow k c.headers (place_of c.end)) (λ k e w. refl) (λ k e. refl)
    (λ k c from e w rest.
    let Q : ChainPlace → Type 0 = λ x. Follow x c.headers (place_of c.end) in
    (refl, subst Q (sym (behind_header_in k (from_place p k.at) w)) rest)) q start

-- places ascend
pub follow_ascends : (q : ChainPlace) (hs : List Header) (last : ChainPlace) → Follow q hs last
    → All (λ h. q.at ≤ h.place.at) hs × (q.at ≤ last.at)
follow_ascends q [] last same =
    let at : q.at ≡ last.at = ap (λ (x : ChainPlace). x.at) same in
    (All-nil (λ h. q.at ≤ h.place.at), omega arith)
follow_ascends q (h ∷ hs) last both =
    let at : h.place.at ≡ q.at = ap (λ (x : ChainPlace). x.at) both.0 in
    let rest = follow_ascends (place_behind h) hs last both.1 in
    let behind = rest.1 in (
      All-cons (λ x. q.at ≤ x.place.at) h hs (omega arith)
          (λ k d below. let later = rest.0 k d below in omega arith),
      omega arith,
    )

-- ---- where headers and ends stand

-- a chain starts at a place of the packet
pub start_stands : (p : Packet) → StandsIn p (start_of p)
start_stands p =
    record {
      behind_header = omega arith;
      within = omega arith;
      earlier = omega arith;
      field = inl refl;
      named = spelling_next_header p;
    }

-- and goes on at one
pub behind_stands : (p : Packet) (q : ChainPlace) → StandsIn p q → is_whole q.kind (from_place p q.at) ≡ true
    → StandsIn p (behind_in q (from_place p q.at))
behind_stands p q s w =
    let bytes : List ℕ = from_place p q.at in
    let parts = is_whole_parts q.kind bytes w in
    let least = extension_bytes_least q.kind bytes in
    let start = s.behind_header in
    let all = length-drop (q.at - header_len) p.payload in
    let sum : 40 + (q.at - header_len + 0) ≡ q.at = omega arith in
    let named : slice_index bytes 0 ≡ slice_index (spelling p) q.at =
    get_or-drop (q.at - header_len) p.payload 0 0 ∙ sym (spelling_payload p (q.at - header_len + 0)) ∙ ap (slice_index (spelling p)) sum in
    record {
      behind_header = omega arith;
      within = omega arith;
      earlier = omega arith;
      field = inr start;
      named = sym named;
    }

-- each header of a chain and its end stand at places of the packet
pub chain_at_stand : (p : Packet) (q : ChainPlace) → StandsIn p q
    → All (λ h. StandsIn p h.place) (chain_at p q).headers × StandsIn p (place_of (chain_at p q).end)
chain_at_stand p q s =
    chain_at_by p (λ k c. StandsIn p k → All (λ h. StandsIn p h.place) c.headers × StandsIn p (place_of c.end))
    (λ k e w is. (All-nil (λ h. StandsIn p h.place), is)) (λ k e is. (All-nil (λ h. StandsIn p h.place), is))
    (λ k c from e w rest is.
    let more = rest (behind_stands p k is w) in
    (All-cons (λ h. StandsIn p h.place) (header_in k (from_place p k.at)) c.headers is more.0, more.1)) q s.behind_header s

-- what stands where a chain ends
pub chain_at_ends : (p : Packet) (q : ChainPlace) → header_len ≤ q.at → EndsIn p (chain_at p q).end
chain_at_ends p q start = chain_at_by p (λ k c. EndsIn p c.end) (λ k e w. (e, w)) (λ k e. e) (λ k c from e w rest. rest) q start

-- the upper layer of a chain that starts in the packet stands in the packet or at its end
pub chain_at_upper_stands : (p : Packet) (q k : ChainPlace) → StandsIn p q → (chain_at p q).end ≡ Upper k
    → (is_extension k.kind ≡ false) × (q.at ≤ k.at) × (k.at ≤ header_len + length p.payload)
chain_at_upper_stands p q k s is =
    let E : ChainEnd → Type 0 = λ e. EndsIn p e in
    let F : ChainEnd → Type 0 = λ e. q.at ≤ (place_of e).at in
    let S : ChainEnd → Type 0 = λ e. StandsIn p (place_of e) in
    let order = (follow_ascends q (chain_at p q).headers (place_of (chain_at p q).end) (chain_at_follow p q s.behind_header)).1 in
    let stands = subst S is (chain_at_stand p q s).1 in
    (subst E is (chain_at_ends p q s.behind_header), subst F is order, stands.within)

-- ---- headers that follow one another are the chain

-- a header that lies in a packet is what its chain has at its place
lies_whole : (p : Packet) (h : Header) → LiesIn p h → is_whole h.place.kind (from_place p h.place.at) ≡ true
lies_whole p h lies =
    let stated = lies_stated p h lies in
    let start = lies.behind_header in
    let within = lies.within in
    let all = length-drop (h.place.at - header_len) p.payload in
    is_whole_from h.place.kind (from_place p h.place.at) (omega arith)

lies_header_in : (p : Packet) (h : Header) → LiesIn p h → header_in h.place (from_place p h.place.at) ≡ h
lies_header_in p h lies =
    let bytes : take (extension_bytes h.place.kind (from_place p h.place.at)) (from_place p h.place.at) ≡ h.bytes =
    ap (λ n. take n (from_place p h.place.at)) (sym (lies_stated p h lies)) ∙ sym lies.bytes in
    ap (λ xs. record { place = h.place; bytes = xs }) bytes

-- the chain from the place of a header that lies in the packet
pub lies_chain : (p : Packet) (h : Header) → LiesIn p h → chain_at p h.place ≡ behind h (chain_at p (place_behind h))
lies_chain p h lies =
    let bytes : List ℕ = from_place p h.place.at in
    let w = lies_whole p h lies in
    let same = lies_header_in p h lies in
    chain_at_header p h.place lies.behind_header lies.extension w
    ∙ ap (λ q. behind (header_in h.place bytes) (chain_at p q)) (sym (behind_header_in h.place bytes w))
    ∙ ap (λ x. behind x (chain_at p (place_behind x))) same

-- headers that lie in the packet and follow one another from a place are those that the chain has from there
pub follow_chain : (p : Packet) (q : ChainPlace) (hs : List Header) (last : ChainPlace) → Follow q hs last → All (LiesIn p) hs
    → chain_at p q ≡ record { headers = hs ++ (chain_at p last).headers; end = (chain_at p last).end }
follow_chain p q [] last same all = ap (chain_at p) same
follow_chain p q (h ∷ hs) last both all =
    ap (chain_at p) (sym both.0)
    ∙ lies_chain p h (All-head (LiesIn p) h hs all)
    ∙ ap (behind h) (follow_chain p (place_behind h) hs last both.1 (All-tail (LiesIn p) h hs all))

-- ---- a header that was spelled

-- the chain from a place where a segment routing header was spelled
pub chain_at_spelled : (p : Packet) (at named_at : ℕ) (s : Srh) (rest : List ℕ) → header_len ≤ at → length s.body ≡ 8 * s.extension_len
    → from_place p at ≡ srh_spelling s ++ rest
    → chain_at p (record { at = at; kind = routing; named_at = named_at })
    ≡ behind (record { place = record { at = at; kind = routing; named_at = named_at }; bytes = srh_spelling s })
    (chain_at p (record { at = at + length (srh_spelling s); kind = s.next_header; named_at = at }))
chain_at_spelled p at named_at s rest start body there =
    let len = length_srh_spelling s in
    let parts = length-append (srh_spelling s) rest in
    let n : ℕ = length (srh_spelling s) in
    let all : length (from_place p at) ≡ n + length rest = ap length there ∙ parts in
    let room = length-drop (at - header_len) p.payload in
    let h : Header = record { place = record { at = at; kind = routing; named_at = named_at }; bytes = srh_spelling s } in
    let front : srh_spelling s ≡ take n (from_place p at) = sym (ap (take n) there ∙ take_at (srh_spelling s) rest n refl) in
    lies_chain p h (record {
      extension = refl;
      behind_header = start;
      within = omega arith;
      bytes = front;
      least = omega arith;
      stated = len ∙ omega arith;
    })
