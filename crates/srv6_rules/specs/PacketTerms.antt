-- Need not be believed: helps proofs and other laws.
-- Terms beside those of `specs/Packet.antt`.
use Rattle.std.specs.Prelude.{◌≡◌, ℕ, ◌^◌, ◌<◌, List, All}
use Rattle.srv6_rules.specs.Packet4.{IsSpellable4}
use Rattle.srv6_rules.specs.Packet.{Packet, Content, V6, V4, Unreadable, spelling, IsSpellable}

-- the bytes spell the packet: nothing stands after its end
abbrev pub Spells : List ℕ → Packet → Type 0
Spells bytes p = IsSpellable p × (bytes ≡ spelling p)

-- a content that bytes can spell
abbrev pub IsContent : Content → Type 0
IsContent (V6 p) = IsSpellable p
IsContent (V4 p) = IsSpellable4 p
IsContent (Unreadable bytes reason) = All (λ b. b < 2 ^ 8) bytes
