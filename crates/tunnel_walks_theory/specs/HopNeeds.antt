-- Need not be believed: helps proofs and other laws.
-- Packets that differ in their hop limit alone.
use Rattle.std.specs.Prelude.{◌≡◌, ℕ, ◌-◌, ◌<◌, nat_le, Bool, true, false, if◌then◌else◌, List, Option}
use Rattle.binding_spec.specs.TunnelPackets.{World, Look, Crosses, Executes, Pushes, Exposes, Loses}

-- what is done at a place with packets of a form, whatever their hop limit is: as with a look, where a flag says whether the hop limit is
-- lowered by one, and the packet has another form then
pub data Kind (L N P H F X : Type 0) : Type 0 where
  Crossing : Bool → L → List L → (L → Option P) → F → Kind L N P H F X
  Executing : Bool → N → P → F → Kind L N P H F X
  Pushing : Bool → N → P → H → F → Kind L N P H F X
  Exposing : N → P → X → Kind L N P H F X
  Losing : Kind L N P H F X

-- where the hop limit is lowered, a packet for which it is at most 1 is dropped (RFC 8200 section 3)
abbrev pub look_lowered : {L N P H X : Type 0} → Bool → (ℕ → Look L N P H X) → ℕ → Look L N P H X
look_lowered true look hop = if nat_le hop 1 then Loses else look (hop - 1)
look_lowered false look hop = look hop

abbrev pub look_of : {L N P H F X : Type 0} → (F → ℕ → H) → Kind L N P H F X → ℕ → Look L N P H X
look_of packet (Crossing lower first rest to form) hop = look_lowered lower (λ n. Crosses first rest to (packet form n)) hop
look_of packet (Executing lower sid place form) hop = look_lowered lower (λ n. Executes sid place (packet form n)) hop
look_of packet (Pushing lower sid place new form) hop = look_lowered lower (λ n. Pushes sid place new (packet form n)) hop
look_of packet (Exposing sid place inside) hop = Exposes sid place inside
look_of packet Losing hop = Loses

-- forms of packets, each with a packet for each hop limit; above hop limit 0 nodes look at such a packet as its form and hop limit say
pub record Forms {L E T N P H X : Type 0} (w : World L E T N P H X) (F : Type 0) : Type 0 where
  pub packet : F → ℕ → H
  pub kind : P → F → Kind L N P H F X
  pub shows : (place : P) (form : F) (hop : ℕ) → 0 < hop → w.look place (packet form hop) ≡ look_of packet (kind place form) hop
