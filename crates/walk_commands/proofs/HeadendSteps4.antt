-- What enters the headend as IPv4, up to its end, and what it makes of it.
use Rattle.std.proofs.Common.{◌≡◌, ℕ, ◌^◌, ◌<◌, ◌≤◌, Bool, true, false, List, length, take, refl, sym, ap, ◌∙◌, subst, arith}
use Rattle.std.specs.Prelude.{◌==◌, ◌/◌, ◌||◌, nat_lt, slice_index, if◌then◌else◌, Result, Ok, Err}
use Rattle.std.proofs.lemmas.Bool.{ltb-false}
use Rattle.std.proofs.lemmas.List.{length-take-le}
use Rattle.std.proofs.lemmas.List.Elements.{All-append}
use Rattle.srv6_rules.specs.declared.numbers.TheConstants.{IPV4_VERSION, IPV4_HEADER_LEN}
use Rattle.srv6_rules.specs.declared.policy.Policy.{Policy}
use Rattle.srv6_rules.specs.declared.family.Family.TheVariants as families
use Rattle.srv6_rules.specs.declared.reason.Reason.{Reason}
use Rattle.srv6_rules.specs.declared.reason.Reason.TheVariants.{Truncated, BadVersion}
use Rattle.srv6_rules.specs.Packet.{Unreadable, content4_by, most_len}
use Rattle.srv6_rules.specs.Packet4.{Packet4, IsSpellable4, ttl, spelling4, read4, packet4_at, stated_header_len, total_len, lowered4}
use Rattle.srv6_rules.specs.Policies.{headend_by}
use Rattle.srv6_rules.specs.PoliciesTerms.{encapsulated_by}
use Rattle.srv6_rules.proofs.PublicLaws.{read4_alone}
use Rattle.ip6_headers.specs.declared.faults.ReadFault.{ReadFault}
use Rattle.ip6_headers.specs.declared.faults.ReadFault.TheVariants as faults
use Rattle.ip6_headers.specs.Ip6Reading.{unreadable}
use Rattle.ip6_headers.specs.Ip4Reading.{HoldsPacket4, reason_of}
use Rattle.ip6_headers.proofs.PublicLaws.{holds4_spellable, holds4_length, holds4_front}
use Rattle.policy_encap.specs.Inner.{HoldsInner}
use Rattle.walk_commands.specs.WalkCommand.{Dropped, of_content, of_encapsulating}
use Rattle.walk_commands.specs.Headend.{IsInnerOf}

-- bytes that read as a packet hold it

reads_inside : (a b c d e f : Bool) (p q : Packet4)
    → ◌≡◌ {A = Result Packet4 Reason} (if a then Err Truncated
    else if b then (if c then Err Truncated else if d || (e || f) then Err Truncated else Ok q)
    else Err BadVersion) (Ok p)
    → (d ≡ false) × (e ≡ false) × (f ≡ false) × (q ≡ p)
reads_inside true b c d e f p q is = absurd (cc)
reads_inside false false c d e f p q is = absurd (cc)
reads_inside false true true d e f p q is = absurd (cc)
reads_inside false true false true e f p q is = absurd (cc)
reads_inside false true false false true f p q is = absurd (cc)
reads_inside false true false false false true p q is = absurd (cc)
reads_inside false true false false false false p q is = (refl, refl, refl, cc)

reads_whole : (bytes : List ℕ) (p : Packet4) → read4 bytes ≡ Ok p
    → (nat_lt (stated_header_len bytes) IPV4_HEADER_LEN ≡ false) × (nat_lt (total_len bytes) (stated_header_len bytes) ≡ false)
    × (nat_lt (length bytes) (total_len bytes) ≡ false) × (packet4_at bytes ≡ p)
reads_whole bytes p e =
    reads_inside (length bytes == 0) ((slice_index bytes 0 / 16) == IPV4_VERSION) (nat_lt (length bytes) IPV4_HEADER_LEN)
    (nat_lt (stated_header_len bytes) IPV4_HEADER_LEN) (nat_lt (total_len bytes) (stated_header_len bytes))
    (nat_lt (length bytes) (total_len bytes)) p (packet4_at bytes) e

spelling_holds : (p : Packet4) → IsSpellable4 p → HoldsPacket4 (spelling4 p) × (packet4_at (spelling4 p) ≡ p)
spelling_holds p ok =
    let reads = read4_alone p ok in
    let got = reads_whole (spelling4 p) p reads in (
      record {
        reads = reads ∙ ap ok_packet (sym got.3);
        least = ltb-false (stated_header_len (spelling4 p)) IPV4_HEADER_LEN got.0;
        header = ltb-false (total_len (spelling4 p)) (stated_header_len (spelling4 p)) got.1;
        whole = ltb-false (length (spelling4 p)) (total_len (spelling4 p)) got.2;
        in_range = All-append (λ b. b < 2 ^ 8) p.header p.payload ok.header ok.payload;
      },
      got.3,
    )
  where
    ok_packet : Packet4 → Result Packet4 Reason
    ok_packet q = Ok q

v4_same : {p q : Packet4} → ◌≡◌ {A = Result Packet4 Reason} (Ok p) (Ok q) → p ≡ q
v4_same e = cc

-- bytes that do not read are dropped, for that reason
pub dropped4 : (policy : Policy) (bytes : List ℕ) (fault : ReadFault) (reason : Reason)
    → ((bytes : List ℕ) → Unreadable bytes reason ≡ unreadable bytes fault) → read4 bytes ≡ Err (reason_of fault)
    → Dropped reason ≡ of_content policy (content4_by bytes (read4 bytes))
dropped4 policy bytes faults.Truncated reason same reads =
    ap (of_content policy) (same bytes) ∙ ap (λ (r : Result Packet4 Reason). of_content policy (content4_by bytes r)) (sym reads)
dropped4 policy bytes faults.BadVersion reason same reads =
    ap (of_content policy) (same bytes) ∙ ap (λ (r : Result Packet4 Reason). of_content policy (content4_by bytes r)) (sym reads)

-- bytes that hold a packet
module _ (bytes : List ℕ) (view : Packet4) (n : ℕ) (holds : HoldsPacket4 bytes) (content : read4 bytes ≡ Ok view)
    (end : n ≡ length (spelling4 view)) where
  view_is : view ≡ packet4_at bytes
  view_is = v4_same (sym content ∙ holds.reads)

  end_is : n ≡ total_len bytes
  end_is = end ∙ (ap (λ (p : Packet4). length (spelling4 p)) view_is ∙ holds4_length bytes holds)

  -- its end is within them
  pub end_within4 : n ≤ length bytes
  end_within4 = let is = end_is in let whole = holds.whole in omega (arith, is, whole)

  -- they are cut there
  module _ (cut : List ℕ) (is : cut ≡ take n bytes) where
    cut_spelled : cut ≡ spelling4 (packet4_at bytes)
    cut_spelled = is ∙ (ap (λ (k : ℕ). take k bytes) end_is ∙ holds4_front bytes holds)

    cut_packet : packet4_at cut ≡ packet4_at bytes
    cut_packet = ap packet4_at cut_spelled ∙ (spelling_holds (packet4_at bytes) (holds4_spellable bytes holds)).1

    cut_holds : HoldsPacket4 cut
    cut_holds = subst HoldsPacket4 (sym cut_spelled) (spelling_holds (packet4_at bytes) (holds4_spellable bytes holds)).0

    cut_inner4_law : HoldsInner families.V4 cut
    cut_inner4_law =
        let len : length cut ≡ total_len cut =
        ap length (cut_spelled ∙ ap spelling4 (sym cut_packet)) ∙ holds4_length cut cut_holds in
        (cut_holds, len)

    cut_enters4 : (policy : Policy)
        → of_encapsulating (encapsulated_by policy families.V4 cut) ≡ of_content policy (content4_by bytes (read4 bytes))
    cut_enters4 policy =
        ap (λ (p : Packet4). of_encapsulating (headend_by policy families.V4 (ttl p) (spelling4 (lowered4 p)))) cut_packet
        ∙ ap (λ (r : Result Packet4 Reason). of_content policy (content4_by bytes r)) (sym holds.reads)

    cut_short4 : length bytes ≤ most_len → length cut ≤ most_len
    cut_short4 short =
        let within = end_within4 in
        let len : length cut ≡ n = ap length is ∙ length-take-le n bytes end_within4 in
        omega (arith, within, len, short)

    -- the cut is the packet alone, of all bytes of which these are the most that may be one
    pub cut_inner4 : (all : List ℕ) → bytes ≡ take most_len all → length bytes ≤ most_len → IsInnerOf families.V4 cut all
    cut_inner4 all most short = record {
      holds = cut_inner4_law;
      short = cut_short4 short;
      same = λ policy. cut_enters4 policy ∙ ap (λ (xs : List ℕ). of_content policy (content4_by xs (read4 xs))) most;
    }
