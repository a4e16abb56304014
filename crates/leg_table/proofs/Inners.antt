-- An inner packet of each family.
use Rattle.std.proofs.Common.{◌≡◌, ℕ, ◌^◌, ◌<◌, ◌≤◌, true, List, [], ◌∷◌, refl, arith, lit<, nat_lt}
use Rattle.std.specs.List.{All, list_all}
use Rattle.std.proofs.lemmas.Bool.{and_parts, ltb-true}
use Rattle.std.proofs.lemmas.List.Elements.{All-nil, All-cons}
use Rattle.srv6_rules.specs.declared.family.Family.{Family}
use Rattle.srv6_rules.specs.declared.family.Family.TheVariants as families
use Rattle.srv6_rules.specs.Packet.{Packet, Content, V6, V4, IsSpellable}
use Rattle.srv6_rules.specs.Packet4.{Packet4, IsSpellable4, stated_header_len, total_len, ttl}
use Rattle.leg_table.specs.Realizes.{IsInner}

six : Packet
six = record { traffic_class = 0; flow_label = 0; next_header = 59; hop_limit = 2; source = 0; destination = 0; payload = [] }

six_is : IsSpellable six × (2 ≤ six.hop_limit)
unfolding six
six_is = (
  record {
    traffic_class = lit< tt;
    flow_label = lit< tt;
    next_header = lit< tt;
    hop_limit = lit< tt;
    source = lit< tt;
    destination = lit< tt;
    payload_len = lit< tt;
    payload = All-nil (λ b. b < 2 ^ 8);
  },
  omega arith,
)

-- a header of 20 bytes alone, with a time to live of 2
four_bytes : List ℕ
four_bytes = 69 ∷ 0 ∷ 0 ∷ 20 ∷ 0 ∷ 0 ∷ 0 ∷ 0 ∷ 2 ∷ 59 ∷ 0 ∷ 0 ∷ 0 ∷ 0 ∷ 0 ∷ 0 ∷ 0 ∷ 0 ∷ 0 ∷ 0 ∷ []

bytes_below : (bytes : List ℕ) → list_all (λ b. nat_lt b 256) bytes ≡ true → All (λ b. b < 2 ^ 8) bytes
bytes_below [] h = All-nil (λ b. b < 2 ^ 8)
bytes_below (b ∷ bytes) h =
    let parts = and_parts (nat_lt b 256) (list_all (λ b. nat_lt b 256) bytes) h in
    All-cons (λ b. b < 2 ^ 8) b bytes (ltb-true b 256 parts.0) (bytes_below bytes parts.1)

four : Packet4
four = record { header = four_bytes; payload = [] }

four_is : IsSpellable4 four × (2 ≤ ttl four)
unfolding four four_bytes stated_header_len total_len
four_is = (
  record {
    version = refl;
    least = omega arith;
    header_len = refl;
    total = refl;
    header = bytes_below four_bytes refl;
    payload = All-nil (λ b. b < 2 ^ 8);
  },
  omega arith,
)

pub some_inner : Family → Content
some_inner families.V6 = V6 six
some_inner families.V4 = V4 four

pub some_inner_is : (family : Family) → IsInner family (some_inner family)
unfolding some_inner
some_inner_is families.V6 = six_is
some_inner_is families.V4 = four_is
