-- Which behaviours go on, and which expose what.
use Rattle.std.proofs.Common.{◌≡◌, ℕ, Bool, true, false, ◌==◌, ◌&&◌, ◌||◌, refl, ap, ◌⊎◌, ◌↔◌, inl, inr}
use Rattle.std.proofs.lemmas.Bool.{eqb-true, or_cases}
use Rattle.srv6_rules.specs.declared.sid.Behaviour.{Behaviour}
use Rattle.srv6_rules.specs.declared.sid.Behaviour.TheVariants.{End, EndX, EndT, Dx6, Dx4, Dt6, Dt4, Dt46, B6, B6Red}
use Rattle.srv6_rules.specs.declared.family.Family.TheVariants as families
use Rattle.srv6_rules.specs.declared.sid.SidEntry.{SidEntry}
use Rattle.srv6_rules.specs.Behaviours.{behaviour_goes_on, behaviour_exposes, goes_on, exposes, ipv6_inside, ipv4_inside, family_inside, is_packet_inside}

-- ---- what goes on

abbrev GoesOn : Behaviour → Type 0
GoesOn b =
    (b ≡ End) ⊎ ((b ≡ EndX) ⊎ (((table : ℕ) × (b ≡ EndT table)) ⊎ (((policy : ℕ) × (b ≡ B6 policy)) ⊎ ((policy : ℕ) × (b ≡ B6Red policy)))))

goes_on_forth : (b : Behaviour) → behaviour_goes_on b ≡ true → GoesOn b
goes_on_forth End e = inl refl
goes_on_forth EndX e = inr (inl refl)
goes_on_forth (EndT table) e = inr (inr (inl (table, refl)))
goes_on_forth Dx6 e = cc
goes_on_forth Dx4 e = cc
goes_on_forth (Dt6 table) e = cc
goes_on_forth (Dt4 table) e = cc
goes_on_forth (Dt46 table) e = cc
goes_on_forth (B6 policy) e = inr (inr (inr (inl (policy, refl))))
goes_on_forth (B6Red policy) e = inr (inr (inr (inr (policy, refl))))

goes_on_back : (b : Behaviour) → GoesOn b → behaviour_goes_on b ≡ true
goes_on_back b (inl e) = ap behaviour_goes_on e
goes_on_back b (inr (inl e)) = ap behaviour_goes_on e
goes_on_back b (inr (inr (inl t))) = ap behaviour_goes_on t.1
goes_on_back b (inr (inr (inr (inl t)))) = ap behaviour_goes_on t.1
goes_on_back b (inr (inr (inr (inr t)))) = ap behaviour_goes_on t.1

pub goes_on_is : (s : SidEntry) → (goes_on s ≡ true) ↔ GoesOn s.behaviour
goes_on_is s = (λ e. goes_on_forth s.behaviour e, λ h. goes_on_back s.behaviour h)

-- ---- what exposes

abbrev ExposesIpv6 : Behaviour → Type 0
ExposesIpv6 b = (b ≡ Dx6) ⊎ (((table : ℕ) × (b ≡ Dt6 table)) ⊎ ((table : ℕ) × (b ≡ Dt46 table)))

ipv6_forth : (b : Behaviour) → behaviour_exposes b ipv6_inside ≡ true → ExposesIpv6 b
ipv6_forth End e = cc
ipv6_forth EndX e = cc
ipv6_forth (EndT table) e = cc
ipv6_forth Dx6 e = inl refl
ipv6_forth Dx4 e = cc
ipv6_forth (Dt6 table) e = inr (inl (table, refl))
ipv6_forth (Dt4 table) e = cc
ipv6_forth (Dt46 table) e = inr (inr (table, refl))
ipv6_forth (B6 policy) e = cc
ipv6_forth (B6Red policy) e = cc

ipv6_back : (b : Behaviour) → ExposesIpv6 b → behaviour_exposes b ipv6_inside ≡ true
ipv6_back b (inl e) = ap (λ x. behaviour_exposes x ipv6_inside) e
ipv6_back b (inr (inl t)) = ap (λ x. behaviour_exposes x ipv6_inside) t.1
ipv6_back b (inr (inr t)) = ap (λ x. behaviour_exposes x ipv6_inside) t.1

-- a behaviour exposes, or the flavour USD does
usd_forth : (a usd : Bool) → (a || (usd && true)) ≡ true → (a ≡ true) ⊎ (usd ≡ true)
usd_forth true usd e = inl refl
usd_forth false true e = inr refl
usd_forth false false e = cc

usd_back : (a usd : Bool) → (a ≡ true) ⊎ (usd ≡ true) → (a || (usd && true)) ≡ true
usd_back true usd h = refl
usd_back false usd (inl e) = cc
usd_back false usd (inr e) = rw e refl

pub exposes_ipv6 : (s : SidEntry) → (exposes s ipv6_inside ≡ true) ↔ (ExposesIpv6 s.behaviour ⊎ (s.usd ≡ true))
exposes_ipv6 s = (
  λ e. elim (usd_forth (behaviour_exposes s.behaviour ipv6_inside) s.usd e) [
    | inl b ↦ inl (ipv6_forth s.behaviour b)
    | inr usd ↦ inr usd
  ],
  λ h. usd_back (behaviour_exposes s.behaviour ipv6_inside) s.usd (elim h [
    | inl b ↦ inl (ipv6_back s.behaviour b)
    | inr usd ↦ inr usd
  ]),
)

abbrev ExposesIpv4 : Behaviour → Type 0
ExposesIpv4 b = (b ≡ Dx4) ⊎ (((table : ℕ) × (b ≡ Dt4 table)) ⊎ ((table : ℕ) × (b ≡ Dt46 table)))

ipv4_forth : (b : Behaviour) → behaviour_exposes b ipv4_inside ≡ true → ExposesIpv4 b
ipv4_forth End e = cc
ipv4_forth EndX e = cc
ipv4_forth (EndT table) e = cc
ipv4_forth Dx6 e = cc
ipv4_forth Dx4 e = inl refl
ipv4_forth (Dt6 table) e = cc
ipv4_forth (Dt4 table) e = inr (inl (table, refl))
ipv4_forth (Dt46 table) e = inr (inr (table, refl))
ipv4_forth (B6 policy) e = cc
ipv4_forth (B6Red policy) e = cc

ipv4_back : (b : Behaviour) → ExposesIpv4 b → behaviour_exposes b ipv4_inside ≡ true
ipv4_back b (inl e) = ap (λ x. behaviour_exposes x ipv4_inside) e
ipv4_back b (inr (inl t)) = ap (λ x. behaviour_exposes x ipv4_inside) t.1
ipv4_back b (inr (inr t)) = ap (λ x. behaviour_exposes x ipv4_inside) t.1

pub exposes_ipv4 : (s : SidEntry) → (exposes s ipv4_inside ≡ true) ↔ (ExposesIpv4 s.behaviour ⊎ (s.usd ≡ true))
exposes_ipv4 s = (
  λ e. elim (usd_forth (behaviour_exposes s.behaviour ipv4_inside) s.usd e) [
    | inl b ↦ inl (ipv4_forth s.behaviour b)
    | inr usd ↦ inr usd
  ],
  λ h. usd_back (behaviour_exposes s.behaviour ipv4_inside) s.usd (elim h [
    | inl b ↦ inl (ipv4_back s.behaviour b)
    | inr usd ↦ inr usd
  ]),
)

kinds_by : (b : Behaviour) (kind : ℕ) → behaviour_exposes b kind ≡ true → (kind ≡ ipv6_inside) ⊎ (kind ≡ ipv4_inside)
kinds_by End kind e = cc
kinds_by EndX kind e = cc
kinds_by (EndT table) kind e = cc
kinds_by Dx6 kind e = inl (eqb-true kind ipv6_inside e)
kinds_by Dx4 kind e = inr (eqb-true kind ipv4_inside e)
kinds_by (Dt6 table) kind e = inl (eqb-true kind ipv6_inside e)
kinds_by (Dt4 table) kind e = inr (eqb-true kind ipv4_inside e)
kinds_by (Dt46 table) kind e = elim (or_cases (kind == ipv6_inside) (kind == ipv4_inside) e) [
  | inl six ↦ inl (eqb-true kind ipv6_inside six)
  | inr four ↦ inr (eqb-true kind ipv4_inside four)
]
kinds_by (B6 policy) kind e = cc
kinds_by (B6Red policy) kind e = cc

second : (a b : Bool) → (a && b) ≡ true → b ≡ true
second true b e = e
second false b e = cc

-- a packet inside is one of IPv6 or of IPv4
pub exposes_kinds : (s : SidEntry) (kind : ℕ) → exposes s kind ≡ true → (kind ≡ ipv6_inside) ⊎ (kind ≡ ipv4_inside)
exposes_kinds s kind e = elim (or_cases (behaviour_exposes s.behaviour kind) (s.usd && is_packet_inside kind) e) [
  | inl b ↦ kinds_by s.behaviour kind b
  | inr both ↦ elim (or_cases (kind == ipv6_inside) (kind == ipv4_inside) (second s.usd (is_packet_inside kind) both)) [
    | inl six ↦ inl (eqb-true kind ipv6_inside six)
    | inr four ↦ inr (eqb-true kind ipv4_inside four)
  ]
]

-- and its kind names its family
pub exposes_family : (s : SidEntry) (kind : ℕ) → exposes s kind ≡ true
    → ((kind ≡ ipv6_inside) × (family_inside kind ≡ families.V6)) ⊎ ((kind ≡ ipv4_inside) × (family_inside kind ≡ families.V4))
exposes_family s kind e = elim (exposes_kinds s kind e) [
  | inl six ↦ inl (six, ap family_inside six)
  | inr four ↦ inr (four, ap family_inside four)
]

goes_on_exposes_by : (b : Behaviour) (kind : ℕ) → behaviour_goes_on b ≡ true → behaviour_exposes b kind ≡ false
goes_on_exposes_by End kind e = refl
goes_on_exposes_by EndX kind e = refl
goes_on_exposes_by (EndT table) kind e = refl
goes_on_exposes_by Dx6 kind e = cc
goes_on_exposes_by Dx4 kind e = cc
goes_on_exposes_by (Dt6 table) kind e = cc
goes_on_exposes_by (Dt4 table) kind e = cc
goes_on_exposes_by (Dt46 table) kind e = cc
goes_on_exposes_by (B6 policy) kind e = refl
goes_on_exposes_by (B6Red policy) kind e = refl

-- a SID that goes on exposes nothing without USD, and with it a packet of either family
pub goes_on_exposes : (s : SidEntry) (kind : ℕ) → goes_on s ≡ true → s.usd ≡ false → exposes s kind ≡ false
goes_on_exposes s kind e no_usd = rw (goes_on_exposes_by s.behaviour kind e, no_usd) refl

pub goes_on_exposes_usd : (s : SidEntry) (kind : ℕ) → goes_on s ≡ true → s.usd ≡ true → exposes s kind ≡ is_packet_inside kind
goes_on_exposes_usd s kind e usd = rw (goes_on_exposes_by s.behaviour kind e, usd) refl
