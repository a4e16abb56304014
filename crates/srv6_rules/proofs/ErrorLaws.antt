-- ICMPv6 errors: where none is made, their lengths, their spelling and their checksums.
use Rattle.std.proofs.Common.{◌≡◌, ℕ, ◌+◌, ◌-◌, ◌%◌, ◌^◌, ◌<◌, ◌≤◌, ◌⊎◌, inl, inr, Bool, true, false, not, ◌&&◌, ◌||◌, cond, List, [], ◌∷◌, ◌++◌, length, All, Some, None, refl, sym, ap, subst, ◌∙◌, arith, length-append}
use Rattle.std.proofs.lemmas.Bool.{or_right, eqb-true}
use Rattle.std.proofs.lemmas.List.{length-take, take_all}
use Rattle.std.proofs.lemmas.List.Elements.{All-nil, All-cons, All-append, All-take}
use Rattle.std.specs.List.{list_any}
use Rattle.v6_addr.specs.AddressKinds.{is_unspecified, is_multicast}
use Rattle.srv6_rules.specs.declared.icmp.IcmpKind.{IcmpKind}
use Rattle.srv6_rules.specs.declared.icmp.IcmpKind.TheVariants.{Unreachable, PacketTooBig, TimeExceeded, Parameter}
use Rattle.srv6_rules.specs.declared.reason.Reason.{Reason}
use Rattle.srv6_rules.specs.declared.reason.Reason.TheVariants as reasons
use Rattle.srv6_rules.specs.Packet.{Packet, IsSpellable, spelling, header_len, address_bytes, two_bytes, four_bytes}
use Rattle.srv6_rules.specs.Chain.{ChainPlace, Header, Upper, Cut, Chain, is_extension, is_whole, header_in, behind_in, behind, start_of, from_place, chain_from}
use Rattle.srv6_rules.specs.ChainTerms.{chain_at}
use Rattle.srv6_rules.specs.Checksum.{all_ones, pseudo_header, upper_layer_sum, checksum_of}
use Rattle.srv6_rules.specs.ChecksumTerms.{word_sum, carried, Verifies}
use Rattle.srv6_rules.specs.Errors.{kind_of, type_of, code_of, last_word_of, is_later_fragment, ends_in_error, leads_to_error, is_error_message, may_answer_multicast, is_unanswered, message_head, quote_of, error_checksum, error_about, error_packet}
use Rattle.srv6_rules.specs.ErrorsTerms.{IsKind}
use Rattle.srv6_rules.proofs.Bytes.{length_two_bytes, length_four_bytes, length_address_bytes, all_two_bytes, all_four_bytes, all_address_bytes}
use Rattle.srv6_rules.proofs.PacketPackets.{length_spelling, all_spelling}
use Rattle.srv6_rules.proofs.Chains.{chain_of_start, chain_at_goes_on}
use Rattle.srv6_rules.proofs.Checksums.{carried_complement, word_sum_append, ones_sum_carried}

-- ---- whether a packet is an error

pub error_start : (p : Packet) → is_error_message p ≡ leads_to_error p (chain_at p (start_of p))
unfolding is_error_message
error_start p = ap (leads_to_error p) (chain_of_start p)

neither : (a b e : Bool) → (not (a || b) && e) ≡ (not a && (not b && e))
neither true b e = refl
neither false b e = refl

pub error_behind : (p : Packet) (h : Header) (c : Chain) → leads_to_error p (behind h c) ≡ (not (is_later_fragment h) && leads_to_error p c)
error_behind p h c = neither (is_later_fragment h) (list_any is_later_fragment c.headers) (ends_in_error p c.end)

goes_on_by : (p : Packet) (q : ChainPlace) (h : Header) (c : Chain) (extension whole : Bool)
    → leads_to_error p
    (cond extension (cond whole (behind h c) (record { headers = []; end = Cut q })) (record { headers = []; end = Upper q }))
    ≡ cond extension (cond whole (not (is_later_fragment h) && leads_to_error p c) false) (ends_in_error p (Upper q))
goes_on_by p q h c true true = error_behind p h c
goes_on_by p q h c true false = refl
goes_on_by p q h c false whole = refl

pub error_goes_on : (p : Packet) (q : ChainPlace) → header_len ≤ q.at
    → leads_to_error p (chain_at p q)
    ≡ cond (is_extension q.kind)
    (cond (is_whole q.kind (from_place p q.at))
    (not (is_later_fragment (header_in q (from_place p q.at))) && leads_to_error p (chain_at p (behind_in q (from_place p q.at)))) false)
    (ends_in_error p (Upper q))
error_goes_on p q start =
    ap (leads_to_error p) (chain_at_goes_on p q start)
    ∙ goes_on_by p q (header_in q (from_place p q.at)) (chain_at p (behind_in q (from_place p q.at))) (is_extension q.kind)
    (is_whole q.kind (from_place p q.at))

-- ---- no error is answered

if_some : {A : Type 0} (b : Bool) (x y : A) → cond b None (Some x) ≡ Some y → x ≡ y
if_some true x y e = cc
if_some false x y e = cc

-- the error that is made
pub error_made : (p q : Packet) (kind : IcmpKind) (from : ℕ) → error_packet p kind from ≡ Some q → error_about p kind from ≡ q
unfolding error_packet
error_made p q kind from made = if_some (is_unanswered p kind) (error_about p kind from) q made

unanswered_error : (p : Packet) (kind : IcmpKind) → is_error_message p ≡ true → is_unanswered p kind ≡ true
unfolding is_unanswered
unanswered_error p kind is =
    let to_many : Bool = is_multicast p.destination && not (may_answer_multicast kind) in
    let third : (to_many || is_error_message p) ≡ true = or_right to_many (is_error_message p) is in
    let second : (is_multicast p.source || (to_many || is_error_message p)) ≡ true =
    or_right (is_multicast p.source) (to_many || is_error_message p) third in
    or_right (is_unspecified p.source) (is_multicast p.source || (to_many || is_error_message p)) second

pub error_none : (p : Packet) (kind : IcmpKind) (from : ℕ) → is_error_message p ≡ true → error_packet p kind from ≡ None
unfolding error_packet
error_none p kind from is = rw (unanswered_error p kind is) refl

-- a kind that is made about a packet to a multicast destination
many_kinds : (kind : IcmpKind) → may_answer_multicast kind ≡ true
    → ((mtu : ℕ) × (kind ≡ PacketTooBig mtu)) ⊎ ((at : ℕ) × (kind ≡ Parameter 2 at))
many_kinds Unreachable e = cc
many_kinds (PacketTooBig mtu) e = inl (mtu, refl)
many_kinds TimeExceeded e = cc
many_kinds (Parameter code at) e = inr (at, ap (λ c. Parameter c at) (eqb-true code 2 e))

answered_many : (one two many about error : Bool) → many ≡ true → (one || (two || ((many && not about) || error))) ≡ false → about ≡ true
answered_many one two many true error m e = refl
answered_many true two many false error m e = cc
answered_many false true many false error m e = cc
answered_many false false true false error m e = cc
answered_many false false false false error m e = cc

if_answered : {A : Type 0} (b : Bool) (x y : A) → cond b None (Some x) ≡ Some y → b ≡ false
if_answered true x y e = cc
if_answered false x y e = refl

pub error_many : (p q : Packet) (kind : IcmpKind) (from : ℕ) → is_multicast p.destination ≡ true → error_packet p kind from ≡ Some q
    → ((mtu : ℕ) × (kind ≡ PacketTooBig mtu)) ⊎ ((at : ℕ) × (kind ≡ Parameter 2 at))
unfolding error_packet is_unanswered
error_many p q kind from many made =
    many_kinds kind (answered_many (is_unspecified p.source) (is_multicast p.source) (is_multicast p.destination)
    (may_answer_multicast kind) (is_error_message p) many
    (if_answered (is_unanswered p kind) (error_about p kind from) q made))

about_error : (p : Packet) (kind : IcmpKind) (from : ℕ) → is_error_message (error_about p kind from) ≡ true
unfolding error_about is_error_message chain_from
about_error p Unreachable from = refl
about_error p (PacketTooBig mtu) from = refl
about_error p TimeExceeded from = refl
about_error p (Parameter code at) from = refl

pub error_is_error : (p q : Packet) (kind : IcmpKind) (from : ℕ) → error_packet p kind from ≡ Some q → is_error_message q ≡ true
error_is_error p q kind from made = ap is_error_message (sym (error_made p q kind from made)) ∙ about_error p kind from

pub error_once : (p q : Packet) (kind other : IcmpKind) (from again : ℕ) → error_packet p kind from ≡ Some q
    → error_packet q other again ≡ None
error_once p q kind other from again made = error_none q other again (error_is_error p q kind from made)

-- ---- lengths

length_message_head : (kind : IcmpKind) (checksum : ℕ) → length (message_head kind checksum) ≡ 8
length_message_head kind checksum =
    let two = length_two_bytes checksum in
    let four = length_four_bytes (last_word_of kind) in
    let both = length-append (two_bytes checksum) (four_bytes (last_word_of kind)) in
    omega arith

length_message : (p : Packet) (kind : IcmpKind) (checksum : ℕ)
    → length (message_head kind checksum ++ quote_of p) ≡ 8 + length (quote_of p)
length_message p kind checksum =
    let head = length_message_head kind checksum in
    let both = length-append (message_head kind checksum) (quote_of p) in
    omega arith

quote_most : (p : Packet) → length (quote_of p) ≤ 1232
quote_most p = omega (arith, length-take 1232 (spelling p))

pub quote_short : (p : Packet) → length (spelling p) ≤ 1232 → quote_of p ≡ spelling p
quote_short p short = take_all 1232 (spelling p) short

about_length : (p : Packet) (kind : IcmpKind) (from : ℕ) → length (spelling (error_about p kind from)) ≡ 48 + length (quote_of p)
unfolding error_about
about_length p kind from =
    let whole = length_spelling (error_about p kind from) in
    let message = length_message p kind (error_checksum p kind from) in
    omega arith

pub error_length : (p q : Packet) (kind : IcmpKind) (from : ℕ) → error_packet p kind from ≡ Some q
    → length (spelling q) ≡ 48 + length (quote_of p)
error_length p q kind from made = ap (λ x. length (spelling x)) (sym (error_made p q kind from made)) ∙ about_length p kind from

pub error_most : (p q : Packet) (kind : IcmpKind) (from : ℕ) → error_packet p kind from ≡ Some q → length (spelling q) ≤ 1280
error_most p q kind from made = omega (arith, error_length p q kind from made, quote_most p)

-- ---- spelling

fits_along : (one kind : IcmpKind) → IsKind one → Some one ≡ Some kind → IsKind kind
fits_along one kind fits e = let same : one ≡ kind = cc in subst IsKind same fits

pub kind_of_fits : (reason : Reason) (at : ℕ) (kind : IcmpKind) → at < 2 ^ 32 → kind_of reason at ≡ Some kind → IsKind kind
kind_of_fits reasons.Truncated at kind h e = cc
kind_of_fits reasons.BadVersion at kind h e = cc
kind_of_fits reasons.Multicast at kind h e = cc
kind_of_fits reasons.NoRoute at kind h e = fits_along Unreachable kind (omega arith, omega arith) e
kind_of_fits reasons.HopLimit at kind h e = fits_along TimeExceeded kind (omega arith, omega arith) e
kind_of_fits reasons.BadChain at kind h e = cc
kind_of_fits reasons.LateHopByHop at kind h e = fits_along (Parameter 1 at) kind (omega arith, h) e
kind_of_fits reasons.OptionDiscard at kind h e = cc
kind_of_fits reasons.OptionUnknown at kind h e = fits_along (Parameter 2 at) kind (omega arith, h) e
kind_of_fits reasons.Fragment at kind h e = cc
kind_of_fits reasons.BadSegments at kind h e = fits_along (Parameter 0 at) kind (omega arith, h) e
kind_of_fits reasons.HmacTlv at kind h e = cc
kind_of_fits reasons.BadTlv at kind h e = cc
kind_of_fits reasons.UnknownRouting at kind h e = fits_along (Parameter 0 at) kind (omega arith, h) e
kind_of_fits reasons.UpperLayer at kind h e = fits_along (Parameter 4 at) kind (omega arith, h) e
kind_of_fits reasons.Ttl at kind h e = cc
kind_of_fits reasons.TooBig at kind h e = cc
kind_of_fits reasons.InnerHop at kind h e = cc
kind_of_fits reasons.MtuExceeded at kind h e = fits_along (PacketTooBig at) kind (omega arith, h) e

type_below : (kind : IcmpKind) → type_of kind < 2 ^ 8
type_below Unreachable = omega arith
type_below (PacketTooBig mtu) = omega arith
type_below TimeExceeded = omega arith
type_below (Parameter code at) = omega arith

all_message : (p : Packet) (kind : IcmpKind) (checksum : ℕ) → IsSpellable p → IsKind kind
    → All (λ b. b < 2 ^ 8) (message_head kind checksum ++ quote_of p)
all_message p kind checksum h fits =
    let P : ℕ → Type 0 = λ b. b < 2 ^ 8 in
    let numbers = All-append P (two_bytes checksum) (four_bytes (last_word_of kind)) (all_two_bytes checksum)
    (all_four_bytes (last_word_of kind)) in
    let tail : List ℕ = two_bytes checksum ++ four_bytes (last_word_of kind) in
    let code = All-cons P (code_of kind) tail fits.0 numbers in
    let head = All-cons P (type_of kind) (code_of kind ∷ tail) (type_below kind) code in
    All-append P (message_head kind checksum) (quote_of p) head (All-take P 1232 (spelling p) (all_spelling p h))

about_spellable : (p : Packet) (kind : IcmpKind) (from : ℕ) → IsSpellable p → IsKind kind → from < 2 ^ 128
    → IsSpellable (error_about p kind from)
unfolding error_about
about_spellable p kind from h fits below =
    let len = length_message p kind (error_checksum p kind from) in
    let most = quote_most p in
    record {
      traffic_class = omega arith;
      flow_label = omega arith;
      next_header = omega arith;
      hop_limit = omega arith;
      source = below;
      destination = h.source;
      payload_len = omega arith;
      payload = all_message p kind (error_checksum p kind from) h fits;
    }

pub error_spellable : (p q : Packet) (kind : IcmpKind) (from : ℕ) → IsSpellable p → IsKind kind → from < 2 ^ 128
    → error_packet p kind from ≡ Some q → IsSpellable q
error_spellable p q kind from h fits below made =
    subst IsSpellable (error_made p q kind from made) (about_spellable p kind from h fits below)

-- ---- checksums

-- the checksum's field adds the checksum to the sum of the words
raised : (kind : IcmpKind) (checksum : ℕ) (quote : List ℕ) → checksum < 2 ^ 16
    → word_sum (message_head kind checksum ++ quote) ≡ word_sum (message_head kind 0 ++ quote) + checksum
unfolding word_sum two_bytes
raised kind checksum quote below = omega arith

length_pseudo_header : (source destination len next : ℕ) → length (pseudo_header source destination len next) ≡ 40
length_pseudo_header source destination len next =
    simp (length-append, length_four_bytes, length_address_bytes)

all_pseudo_header : (source destination len next : ℕ) → next < 2 ^ 8 → All (λ b. b < 2 ^ 8) (pseudo_header source destination len next)
all_pseudo_header source destination len next below =
    let P : ℕ → Type 0 = λ b. b < 2 ^ 8 in
    let zero_below : P 0 = omega arith in
    let one = All-cons P next [] below (All-nil P) in
    let two = All-cons P 0 (next ∷ []) zero_below one in
    let three = All-cons P 0 (0 ∷ next ∷ []) zero_below two in
    let four = All-cons P 0 (0 ∷ 0 ∷ next ∷ []) zero_below three in
    let end : List ℕ = 0 ∷ 0 ∷ 0 ∷ next ∷ [] in
    let lens = All-append P (four_bytes len) end (all_four_bytes len) four in
    let more = All-append P (address_bytes destination) (four_bytes len ++ end) (all_address_bytes destination) lens in
    All-append P (address_bytes source) (address_bytes destination ++ (four_bytes len ++ end)) (all_address_bytes source) more

-- the sum over a pseudo-header and an upper layer, by the plain sums of their words
pub upper_layer_sum_carried : (source destination next : ℕ) (upper : List ℕ) → next < 2 ^ 8 → All (λ b. b < 2 ^ 8) upper
    → upper_layer_sum source destination next upper
    ≡ carried (word_sum (pseudo_header source destination (length upper) next) + word_sum upper)
upper_layer_sum_carried source destination next upper below all =
    let P : ℕ → Type 0 = λ b. b < 2 ^ 8 in
    let pseudo : List ℕ = pseudo_header source destination (length upper) next in
    let len : length pseudo ≡ 40 = length_pseudo_header source destination (length upper) next in
    let even : length pseudo % 2 ≡ 0 = rw len refl in
    ones_sum_carried (pseudo ++ upper) (All-append P pseudo upper (all_pseudo_header source destination (length upper) next below) all)
    ∙ ap carried (word_sum_append pseudo upper even)

pub error_checksum_parts : (p : Packet) (kind : IcmpKind) (from : ℕ) → IsSpellable p → IsKind kind
    → error_checksum p kind from
    ≡ all_ones - carried (word_sum (pseudo_header from p.source (8 + length (quote_of p)) 58)
    + (word_sum (message_head kind 0) + word_sum (quote_of p)))
unfolding checksum_of
error_checksum_parts p kind from h fits =
    let before : List ℕ = message_head kind 0 ++ quote_of p in
    let head : length (message_head kind 0) ≡ 8 = length_message_head kind 0 in
    let even : length (message_head kind 0) % 2 ≡ 0 = rw head refl in
    let parts : word_sum before ≡ word_sum (message_head kind 0) + word_sum (quote_of p) =
    word_sum_append (message_head kind 0) (quote_of p) even in
    ap (λ n. all_ones - n) (upper_layer_sum_carried from p.source 58 before (omega arith) (all_message p kind 0 h fits))
    ∙ ap (λ n. all_ones - carried (word_sum (pseudo_header from p.source n 58) + word_sum before)) (length_message p kind 0)
    ∙ ap (λ n. all_ones - carried (word_sum (pseudo_header from p.source (8 + length (quote_of p)) 58) + n)) parts

about_verifies : (p : Packet) (kind : IcmpKind) (from : ℕ) → IsSpellable p → IsKind kind → Verifies (error_about p kind from)
unfolding error_about checksum_of
about_verifies p kind from h fits =
    let checksum : ℕ = error_checksum p kind from in
    let quote : List ℕ = quote_of p in
    let before : List ℕ = message_head kind 0 ++ quote in
    let message : List ℕ = message_head kind checksum ++ quote in
    let same : length message ≡ length before = length_message p kind checksum ∙ sym (length_message p kind 0) in
    let words : ℕ = word_sum (pseudo_header from p.source (length before) 58) + word_sum before in
    let sum : upper_layer_sum from p.source 58 before ≡ carried words =
    upper_layer_sum_carried from p.source 58 before (omega arith) (all_message p kind 0 h fits) in
    let is : checksum ≡ 65535 - carried words = ap (λ n. 65535 - n) sum in
    let more : word_sum message ≡ word_sum before + checksum = raised kind checksum quote (omega arith) in
    let pseudo : word_sum (pseudo_header from p.source (length message) 58) ≡ word_sum (pseudo_header from p.source (length before) 58) =
    ap (λ n. word_sum (pseudo_header from p.source n 58)) same in
    let total : word_sum (pseudo_header from p.source (length message) 58) + word_sum message ≡ words + (65535 - carried words) =
    omega arith in
    upper_layer_sum_carried from p.source 58 message (omega arith) (all_message p kind checksum h fits)
    ∙ ap carried total
    ∙ carried_complement words

pub error_verifies : (p q : Packet) (kind : IcmpKind) (from : ℕ) → IsSpellable p → IsKind kind → from < 2 ^ 128
    → error_packet p kind from ≡ Some q → Verifies q
error_verifies p q kind from h fits below made = subst Verifies (error_made p q kind from made) (about_verifies p kind from h fits)
