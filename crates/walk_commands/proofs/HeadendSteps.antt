-- What enters the headend, up to its end, and what it makes of it.
use Rattle.std.proofs.Common.{◌≡◌, ℕ, ◌+◌, ◌≤◌, Bool, true, false, List, length, take, refl, sym, ap, ap₂, ◌∙◌, subst, arith, take_all}
use Rattle.std.specs.Prelude.{◌==◌, ◌/◌, nat_lt, slice_index, if◌then◌else◌}
use Rattle.std.proofs.lemmas.Bool.{ltb-false}
use Rattle.std.proofs.lemmas.List.{length-take-le}
use Rattle.srv6_rules.specs.declared.numbers.TheConstants.{IPV6_VERSION}
use Rattle.srv6_rules.specs.declared.policy.Policy.{Policy}
use Rattle.srv6_rules.specs.declared.family.Family.TheVariants as families
use Rattle.srv6_rules.specs.declared.reason.Reason.TheVariants.{Truncated, BadVersion}
use Rattle.srv6_rules.specs.Encapsulation.{inner_lowered}
use Rattle.srv6_rules.specs.Packet.{Content, Packet, V6, Unreadable, IsSpellable, header_len, most_len, spelling, content_of, packet_at, stated_len, entered}
use Rattle.srv6_rules.specs.Policies.{Encapsulating, headend_by}
use Rattle.srv6_rules.specs.PoliciesTerms.{encapsulated_by}
use Rattle.srv6_rules.proofs.PublicLaws.{content_of_spelling_alone, length_spelling, all_spelling}
use Rattle.ip6_headers.specs.Ip6Reading.{HoldsPacket}
use Rattle.ip6_headers.proofs.PublicLaws.{holds_spellable, holds_payload_len, holds_front}
use Rattle.policy_encap.specs.Inner.{HoldsInner}
use Rattle.policy_encap.specs.EncapAnswers.{Makes}
use Rattle.walk_rules.specs.declared.place.Place.{Place}
use Rattle.run_commands.specs.Admission.{Admitted, entrant_of}
use Rattle.walk_commands.specs.declared.headend.Headend.{Headend}
use Rattle.walk_commands.specs.WalkCommand.{AtHeadend, Enters, admission_of, of_content, of_encapsulating, submitted_at}
use Rattle.walk_commands.specs.Headend.{IsInnerOf, admission_alone}

made_enters : (wanted : Encapsulating) (bytes : List ℕ) → Makes wanted bytes → Enters (entered families.V6 bytes) ≡ of_encapsulating wanted
made_enters wanted bytes m =
    let fits = m.spelled.0.payload_len in
    let len = length_spelling m.packet in
    let short : length (spelling m.packet) ≤ most_len = omega (arith, fits, len) in
    let is : entered families.V6 bytes ≡ V6 m.packet =
    ap (entered families.V6) m.spelled.1
    ∙ (ap content_of (take_all most_len (spelling m.packet) short) ∙ content_of_spelling_alone m.packet m.spelled.0) in
    ap Enters is ∙ ap of_encapsulating (sym m.outer)

-- so what is made enters there
pub comes_made : (h : Headend) (inner : List ℕ) (place : Place) (content : Content) (bytes : List ℕ) → place ≡ submitted_at h.node
    → content ≡ entered families.V6 bytes → Makes (encapsulated_by h.policy h.inner inner) bytes
    → entrant_of (Admitted (record { place = place; content = content })) ≡ entrant_of (admission_alone h inner)
comes_made h inner place content bytes there is made =
    ap₂ (λ (p : Place) (c : Content). entrant_of (Admitted (record { place = p; content = c }))) there is
    ∙ ap (λ (at : AtHeadend). entrant_of (admission_of h.node at)) (made_enters (encapsulated_by h.policy h.inner inner) bytes made)

-- bytes that read as a packet hold it

reads_inside : (a b c d : Bool) (bytes : List ℕ) (p q : Packet)
    → (if a then Unreadable bytes Truncated
    else if b then (if c then Unreadable bytes Truncated else if d then Unreadable bytes Truncated else V6 q)
    else Unreadable bytes BadVersion) ≡ V6 p
    → (d ≡ false) × (q ≡ p)
reads_inside true b c d bytes p q e = absurd (cc)
reads_inside false true true d bytes p q e = absurd (cc)
reads_inside false true false true bytes p q e = absurd (cc)
reads_inside false true false false bytes p q e = (refl, cc)
reads_inside false false c d bytes p q e = absurd (cc)

reads_whole : (bytes : List ℕ) (p : Packet) → content_of bytes ≡ V6 p
    → (nat_lt (length bytes) (header_len + stated_len bytes) ≡ false) × (packet_at bytes ≡ p)
reads_whole bytes p e = reads_inside (length bytes == 0) ((slice_index bytes 0 / 16) == IPV6_VERSION) (nat_lt (length bytes) header_len)
    (nat_lt (length bytes) (header_len + stated_len bytes)) bytes p (packet_at bytes) e

spelling_holds : (p : Packet) → IsSpellable p → HoldsPacket (spelling p) × (packet_at (spelling p) ≡ p)
spelling_holds p ok =
    let reads = content_of_spelling_alone p ok in
    let got = reads_whole (spelling p) p reads in (
      record {
        reads = reads ∙ ap V6 (sym got.1);
        whole = ltb-false (length (spelling p)) (header_len + stated_len (spelling p)) got.0;
        in_range = all_spelling p ok;
      },
      got.1,
    )

v6_same : {p q : Packet} → V6 p ≡ V6 q → p ≡ q
v6_same e = cc

-- bytes that hold a packet
module _ (bytes : List ℕ) (view : Packet) (n : ℕ) (holds : HoldsPacket bytes) (content : content_of bytes ≡ V6 view)
    (end : n ≡ header_len + length view.payload) where
  view_is : view ≡ packet_at bytes
  view_is = v6_same (sym content ∙ holds.reads)

  end_is : n ≡ header_len + stated_len bytes
  end_is = end ∙ (ap (λ (p : Packet). header_len + length p.payload) view_is
      ∙ ap (λ (k : ℕ). header_len + k) (holds_payload_len bytes holds))

  -- its end is within them
  pub end_within : n ≤ length bytes
  end_within = let is = end_is in let whole = holds.whole in omega (arith, is, whole)

  -- they are cut there
  module _ (cut : List ℕ) (is : cut ≡ take n bytes) where
    cut_spelled : cut ≡ spelling (packet_at bytes)
    cut_spelled = is ∙ (ap (λ (k : ℕ). take k bytes) end_is ∙ holds_front bytes holds)

    cut_packet : packet_at cut ≡ packet_at bytes
    cut_packet = ap packet_at cut_spelled ∙ (spelling_holds (packet_at bytes) (holds_spellable bytes holds)).1

    cut_holds : HoldsPacket cut
    cut_holds = subst HoldsPacket (sym cut_spelled) (spelling_holds (packet_at bytes) (holds_spellable bytes holds)).0

    cut_inner_law : HoldsInner families.V6 cut
    cut_inner_law =
        let payload = holds_payload_len cut cut_holds in
        let len : length cut ≡ 40 + length (packet_at cut).payload =
        ap length cut_spelled ∙ (length_spelling (packet_at bytes)
        ∙ ap (λ (p : Packet). 40 + length p.payload) (sym cut_packet)) in
        (cut_holds, len ∙ ap (λ (k : ℕ). 40 + k) payload)

    cut_enters : (policy : Policy) → of_encapsulating (encapsulated_by policy families.V6 cut) ≡ of_content policy (content_of bytes)
    cut_enters policy =
        ap (λ (p : Packet). of_encapsulating (headend_by policy families.V6 p.hop_limit (spelling (inner_lowered p)))) cut_packet
        ∙ ap (of_content policy) (sym holds.reads)

    cut_short : length bytes ≤ most_len → length cut ≤ most_len
    cut_short short =
        let within = end_within in
        let len : length cut ≡ n = ap length is ∙ length-take-le n bytes end_within in
        omega (arith, within, len, short)

    -- the cut is the packet alone, of all bytes of which these are the most that may be one
    pub cut_inner : (all : List ℕ) → bytes ≡ take most_len all → length bytes ≤ most_len → IsInnerOf families.V6 cut all
    cut_inner all most short = record {
      holds = cut_inner_law;
      short = cut_short short;
      same = λ policy. cut_enters policy ∙ ap (λ (xs : List ℕ). of_content policy (content_of xs)) most;
    }
