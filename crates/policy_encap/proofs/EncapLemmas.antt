-- An IPv6 packet that is encapsulated, in bytes.
use Rattle.std.proofs.Common.{◌≡◌, ℕ, ◌+◌, ◌-◌, ◌^◌, ◌<◌, ◌≤◌, Bool, List, length, drop, slice_index, slice_set, All, refl, sym, ap, subst, ◌∙◌, arith}
use Rattle.std.proofs.lemmas.List.{take_all, length-set}
use Rattle.std.proofs.lemmas.List.Elements.{All-drop}
use Rattle.srv6_rules.specs.declared.policy.Policy.{Policy}
use Rattle.srv6_rules.specs.declared.family.Family.{Family}
use Rattle.srv6_rules.specs.declared.family.Family.TheVariants.{V6, V4}
use Rattle.srv6_rules.specs.Packet.{Packet, IsSpellable, header_len, most_len, stated_len, packet_at, spelling, two_number}
use Rattle.srv6_rules.specs.PacketTerms.{Spells}
use Rattle.srv6_rules.specs.Packet4.{total_len, packet4_at, spelling4, ttl_lowered}
use Rattle.srv6_rules.specs.Policies.{encapsulation_by, outer_by, pushed_by, TooBig}
use Rattle.srv6_rules.specs.PoliciesTerms.{IsPolicy, inner_hop, inner_lowered_bytes, encapsulated_by}
use Rattle.srv6_rules.proofs.PublicLaws.{two_number_below, spelling_behind, lowered_spelling, lowered4_spelling, ttl_lowered_length, round_next_header, made_fits, made_big, headend_high}
use Rattle.policy_encap.specs.Inner.{HoldsInner}
use Rattle.ip6_headers.proofs.PublicLaws.{holds_spellable, holds_payload_len, holds_front, holds4_spellable, holds4_byte, holds4_front}
use Rattle.policy_encap.specs.PolicyHeaders.{FitsOuter}
use Rattle.policy_encap.specs.EncapAnswers.{Makes, Wants, Refuses}

module _ (policy : Policy) (reduced : Bool) (inner : Family) (bytes : List ℕ) where
  abbrev whole : Packet
  whole = outer_by policy reduced inner bytes

  made_spells : (out : List ℕ) → IsPolicy policy → FitsOuter policy → length whole.payload ≤ 65535 → All (λ b. b < 2 ^ 8) out
      → out ≡ spelling whole → Spells out whole
  made_spells out is fits short all spelled =
      let P : List ℕ → Type 0 = λ xs. All (λ b. b < 2 ^ 8) xs in
      let behind : drop 40 out ≡ whole.payload = ap (drop 40) spelled ∙ spelling_behind whole in
      let ok : IsSpellable whole = record {
        traffic_class = fits.traffic_class;
        flow_label = is.flow_label;
        next_header = round_next_header (encapsulation_by policy reduced) inner bytes policy.hop_limit;
        hop_limit = fits.hop_limit;
        source = fits.source;
        destination = fits.destination;
        payload_len = omega arith;
        payload = subst P behind (All-drop (λ b. b < 2 ^ 8) 40 out all);
      } in
      (ok, spelled)

  pub push_makes : (out : List ℕ) → IsPolicy policy → FitsOuter policy → length whole.payload ≤ 65535 → All (λ b. b < 2 ^ 8) out
      → out ≡ spelling whole → Makes (pushed_by policy reduced inner bytes) out
  push_makes out is fits short all spelled =
      record { packet = whole; outer = made_fits whole short; spelled = made_spells out is fits short all spelled }

  pub push_wants : (old : List ℕ) → length whole.payload ≤ 65535 → Wants (pushed_by policy reduced inner bytes) old old
  push_wants old short = record { packet = whole; outer = made_fits whole short; same = refl }

  pub push_refuses : (old : List ℕ) (n : ℕ) → n ≡ length whole.payload → 65535 < n
      → Refuses (pushed_by policy reduced inner bytes) (TooBig n) old old
  push_refuses old n is big = record { told_so = made_big whole (omega arith) ∙ ap TooBig (sym is); same = refl }

-- ---- a packet of a family

whole_6 : (bytes : List ℕ) → HoldsInner V6 bytes → bytes ≡ spelling (packet_at bytes)
whole_6 bytes h =
    let end = h.1 in
    sym (take_all (header_len + stated_len bytes) bytes (omega arith)) ∙ holds_front bytes h.0

whole_4 : (bytes : List ℕ) → HoldsInner V4 bytes → bytes ≡ spelling4 (packet4_at bytes)
whole_4 bytes h = let end = h.1 in sym (take_all (total_len bytes) bytes (omega arith)) ∙ holds4_front bytes h.0

pub inner_short : (inner : Family) (bytes : List ℕ) → HoldsInner inner bytes → length bytes ≤ most_len
unfolding total_len two_number
inner_short V6 bytes h =
    let len = holds_payload_len bytes h.0 in
    let most : length (packet_at bytes).payload < 2 ^ 16 = (holds_spellable bytes h.0).payload_len in
    let end = h.1 in
    omega arith
inner_short V4 bytes h =
    let end : length bytes ≡ two_number (drop 2 bytes) = h.1 in
    let all = h.0.in_range in
    let most : two_number (drop 2 bytes) < 2 ^ 16 = two_number_below (drop 2 bytes) (All-drop (λ b. b < 2 ^ 8) 2 bytes all) in
    omega arith

-- the place of its hop limit or TTL
pub hop_6 : (inner : Family) (bytes : List ℕ) → inner ≡ V6 → slice_index bytes 7 ≡ inner_hop inner bytes
unfolding packet_at
hop_6 V6 bytes is = refl
hop_6 V4 bytes is = cc

pub hop_4 : (inner : Family) (bytes : List ℕ) → inner ≡ V4 → HoldsInner inner bytes → slice_index bytes 8 ≡ inner_hop inner bytes
hop_4 V6 bytes is h = cc
hop_4 V4 bytes is h = sym (holds4_byte bytes 8 h.0 (omega arith))

-- it is lowered in its bytes
pub lowered_6 : (inner : Family) (bytes : List ℕ) → inner ≡ V6 → HoldsInner inner bytes
    → slice_set bytes 7 (slice_index bytes 7 - 1) ≡ inner_lowered_bytes inner bytes
lowered_6 V4 bytes is h = cc
lowered_6 V6 bytes is h =
    let v : ℕ = (packet_at bytes).hop_limit - 1 in
    ap (λ n. slice_set bytes 7 (n - 1)) (hop_6 V6 bytes refl)
    ∙ ap (λ xs. slice_set xs 7 v) (whole_6 bytes h) ∙ sym (lowered_spelling (packet_at bytes))

pub lowered_4 : (inner : Family) (bytes : List ℕ) → inner ≡ V4 → HoldsInner inner bytes
    → ttl_lowered bytes ≡ inner_lowered_bytes inner bytes
lowered_4 V6 bytes is h = cc
lowered_4 V4 bytes is h =
    ap ttl_lowered (whole_4 bytes h) ∙ sym (lowered4_spelling (packet4_at bytes) (holds4_spellable bytes h.0).least)

pub length_lowered : (inner : Family) (bytes : List ℕ) → HoldsInner inner bytes
    → length (inner_lowered_bytes inner bytes) ≡ length bytes
length_lowered V6 bytes h =
    sym (ap length (lowered_6 V6 bytes refl h)) ∙ length-set bytes 7 (slice_index bytes 7 - 1)
length_lowered V4 bytes h =
    let least = h.0.least in
    let header = h.0.header in
    let total = h.0.whole in
    sym (ap length (lowered_4 V4 bytes refl h)) ∙ ttl_lowered_length bytes (omega arith)

-- ---- what is answered

module _ (policy : Policy) (inner : Family) (bytes : List ℕ) where
  abbrev lowered : List ℕ
  lowered = inner_lowered_bytes inner bytes

  pub encap_refuses : (hop n : ℕ) → hop ≡ inner_hop inner bytes → 1 < hop
      → n ≡ length (outer_by policy policy.reduced inner lowered).payload
      → 65535 < n → Refuses (encapsulated_by policy inner bytes) (TooBig n) bytes bytes
  encap_refuses hop n is high len big =
      let told = push_refuses policy policy.reduced inner lowered bytes n len big in
      record { told_so = headend_high policy inner (inner_hop inner bytes) lowered (omega arith) ∙ told.told_so; same = refl }

  pub encap_wants : (hop : ℕ) → hop ≡ inner_hop inner bytes → 1 < hop
      → length (outer_by policy policy.reduced inner lowered).payload ≤ 65535
      → Wants (encapsulated_by policy inner bytes) bytes bytes
  encap_wants hop is high short =
      let wants = push_wants policy policy.reduced inner lowered bytes short in
      record {
        packet = wants.packet;
        outer = headend_high policy inner (inner_hop inner bytes) lowered (omega arith) ∙ wants.outer;
        same = refl;
      }

  pub encap_makes : (hop : ℕ) (out : List ℕ) → hop ≡ inner_hop inner bytes → 1 < hop → IsPolicy policy → FitsOuter policy
      → length (outer_by policy policy.reduced inner lowered).payload ≤ 65535 → All (λ b. b < 2 ^ 8) out
      → out ≡ spelling (outer_by policy policy.reduced inner lowered) → Makes (encapsulated_by policy inner bytes) out
  encap_makes hop out is high ok fits short all spelled =
      let makes = push_makes policy policy.reduced inner lowered out ok fits short all spelled in
      record {
        packet = makes.packet;
        outer = headend_high policy inner (inner_hop inner bytes) lowered (omega arith) ∙ makes.outer;
        spelled = makes.spelled;
      }
