-- What bytes of a family read as, and what enters a node.
use Rattle.std.proofs.Common.{◌≡◌, ℕ, ◌^◌, ◌<◌, ◌+◌, Bool, true, false, cond, ◌==◌, ◌/◌, nat_lt, List, ◌++◌, length, take, drop, slice_index, All, refl, sym, ap, subst, ◌∙◌}
use Rattle.std.proofs.lemmas.List.Elements.{All-take}
use Rattle.std.specs.Prelude.{Result, Ok, Err}
use Rattle.srv6_rules.specs.declared.family.Family.{Family}
use Rattle.srv6_rules.specs.declared.family.Family.TheVariants as families
use Rattle.srv6_rules.specs.declared.reason.Reason.{Reason}
use Rattle.srv6_rules.specs.declared.reason.Reason.TheVariants.{Truncated, BadVersion}
use Rattle.srv6_rules.specs.Packet4.{Packet4, spelling4, read4}
use Rattle.srv6_rules.specs.Packet.{Packet, Content, V6, V4, Unreadable, spelling, stated_len, packet_at, content_of, content4_by, read_as, entered, bytes_of, most_len}
use Rattle.srv6_rules.specs.PacketTerms.{IsContent}
use Rattle.srv6_rules.proofs.PacketPackets.{content_of_spelling_alone, reads_spellable, reads_spelled, unreadable}
use Rattle.srv6_rules.proofs.Packets4.{read4_alone, reads4_spellable, reads4_spelled}

-- ---- IPv6

-- what reads as IPv6 is no IPv4 packet
never4_by_tests : (bytes : List ℕ) (q : Packet4) (empty six short cut : Bool)
    → cond empty (Unreadable bytes Truncated)
    (cond six (cond short (Unreadable bytes Truncated) (cond cut (Unreadable bytes Truncated) (V6 (packet_at bytes))))
    (Unreadable bytes BadVersion)) ≡ V4 q
    → ⊥
never4_by_tests bytes q true six short cut e = cc
never4_by_tests bytes q false false short cut e = cc
never4_by_tests bytes q false true true cut e = cc
never4_by_tests bytes q false true false true e = cc
never4_by_tests bytes q false true false false e = cc

pub content_of_never4 : (bytes : List ℕ) (q : Packet4) → content_of bytes ≡ V4 q → ⊥
content_of_never4 bytes q e = never4_by_tests bytes q (length bytes == 0) ((slice_index bytes 0 / 16) == 6)
    (nat_lt (length bytes) 40) (nat_lt (length bytes) (40 + stated_len bytes)) e

is_content : (bytes : List ℕ) (c : Content) → All (λ b. b < 2 ^ 8) bytes → content_of bytes ≡ c → IsContent c
is_content bytes (V6 p) all e = reads_spellable bytes p all e
is_content bytes (V4 p) all e = absurd (content_of_never4 bytes p e)
is_content bytes (Unreadable kept why) all e =
    let Q : List ℕ → Type 0 = λ xs. All (λ b. b < 2 ^ 8) xs in
    subst Q (unreadable bytes kept why e) all

back : (bytes : List ℕ) (c : Content) → All (λ b. b < 2 ^ 8) bytes → content_of bytes ≡ c → content_of (bytes_of c) ≡ c
back bytes (V6 p) all e = content_of_spelling_alone p (reads_spellable bytes p all e)
back bytes (V4 p) all e = absurd (content_of_never4 bytes p e)
back bytes (Unreadable kept why) all e = ap content_of (sym (unreadable bytes kept why e)) ∙ e

-- a content's bytes read as that content
pub content_of_bytes_of : (bytes : List ℕ) → All (λ b. b < 2 ^ 8) bytes → content_of (bytes_of (content_of bytes)) ≡ content_of bytes
content_of_bytes_of bytes all = back bytes (content_of bytes) all refl

-- ---- IPv4

is_content4 : (bytes : List ℕ) (r : Result Packet4 Reason) → All (λ b. b < 2 ^ 8) bytes → read4 bytes ≡ r → IsContent (content4_by bytes r)
is_content4 bytes (Ok p) all e = reads4_spellable bytes p e all
is_content4 bytes (Err why) all e = all

back4 : (bytes : List ℕ) (r : Result Packet4 Reason) → All (λ b. b < 2 ^ 8) bytes → read4 bytes ≡ r
    → read_as families.V4 (bytes_of (content4_by bytes r)) ≡ content4_by bytes r
back4 bytes (Ok p) all e = ap (content4_by (spelling4 p)) (read4_alone p (reads4_spellable bytes p e all))
back4 bytes (Err why) all e = ap (content4_by bytes) e

reads4 : (bytes : List ℕ) (r : Result Packet4 Reason) (p : Packet4) → content4_by bytes r ≡ V4 p → r ≡ Ok p
reads4 bytes (Ok q) p e = cc
reads4 bytes (Err why) p e = cc

kept4 : (bytes kept : List ℕ) (r : Result Packet4 Reason) (why : Reason) → content4_by bytes r ≡ Unreadable kept why → bytes ≡ kept
kept4 bytes kept (Ok p) why e = cc
kept4 bytes kept (Err reason) why e = cc

never6 : (bytes : List ℕ) (r : Result Packet4 Reason) (p : Packet) → content4_by bytes r ≡ V6 p → ⊥
never6 bytes (Ok q) p e = cc
never6 bytes (Err why) p e = cc

-- ---- of either family

-- what bytes of a family read as is a content that bytes can spell
pub read_as_is_content : (family : Family) (bytes : List ℕ) → All (λ b. b < 2 ^ 8) bytes → IsContent (read_as family bytes)
read_as_is_content families.V6 bytes all = is_content bytes (content_of bytes) all refl
read_as_is_content families.V4 bytes all = is_content4 bytes (read4 bytes) all refl

-- and its bytes read as it again
pub read_as_bytes_of : (family : Family) (bytes : List ℕ) → All (λ b. b < 2 ^ 8) bytes
    → read_as family (bytes_of (read_as family bytes)) ≡ read_as family bytes
read_as_bytes_of families.V6 bytes all = content_of_bytes_of bytes all
read_as_bytes_of families.V4 bytes all = back4 bytes (read4 bytes) all refl

-- bytes that read as a packet begin with its spelling
pub read_as_spelled : (family : Family) (bytes : List ℕ) (q : Packet) → All (λ b. b < 2 ^ 8) bytes → read_as family bytes ≡ V6 q
    → bytes ≡ spelling q ++ drop (length (spelling q)) bytes
read_as_spelled families.V6 bytes q all e = reads_spelled bytes q all e
read_as_spelled families.V4 bytes q all e = absurd (never6 bytes (read4 bytes) q e)

pub read_as_spelled4 : (family : Family) (bytes : List ℕ) (q : Packet4) → All (λ b. b < 2 ^ 8) bytes → read_as family bytes ≡ V4 q
    → bytes ≡ spelling4 q ++ drop (length (spelling4 q)) bytes
read_as_spelled4 families.V6 bytes q all e = absurd (content_of_never4 bytes q e)
read_as_spelled4 families.V4 bytes q all e = reads4_spelled bytes q (reads4 bytes (read4 bytes) q e)

-- bytes that do not read are kept as they are
pub read_as_unreadable : (family : Family) (bytes kept : List ℕ) (why : Reason) → read_as family bytes ≡ Unreadable kept why → bytes ≡ kept
read_as_unreadable families.V6 bytes kept why e = unreadable bytes kept why e
read_as_unreadable families.V4 bytes kept why e = kept4 bytes kept (read4 bytes) why e

-- the bytes of a packet of a family, of which nothing else is V4 or V6
pub read_as_family6 : (family : Family) (bytes : List ℕ) (p : Packet) → read_as family bytes ≡ V6 p → family ≡ families.V6
read_as_family6 families.V6 bytes p e = refl
read_as_family6 families.V4 bytes p e = absurd (never6 bytes (read4 bytes) p e)

pub read_as_family4 : (family : Family) (bytes : List ℕ) (p : Packet4) → read_as family bytes ≡ V4 p → family ≡ families.V4
read_as_family4 families.V6 bytes p e = absurd (content_of_never4 bytes p e)
read_as_family4 families.V4 bytes p e = refl

pub entered_is_content : (family : Family) (bytes : List ℕ) → All (λ b. b < 2 ^ 8) bytes → IsContent (entered family bytes)
entered_is_content family bytes all = read_as_is_content family (take most_len bytes) (All-take (λ b. b < 2 ^ 8) most_len bytes all)

pub entered_back : (family : Family) (bytes : List ℕ) → All (λ b. b < 2 ^ 8) bytes
    → read_as family (bytes_of (entered family bytes)) ≡ entered family bytes
entered_back family bytes all = read_as_bytes_of family (take most_len bytes) (All-take (λ b. b < 2 ^ 8) most_len bytes all)
