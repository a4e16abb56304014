-- Need not be believed: helps proofs and other laws.
-- Terms beside those of `specs/Packet4.antt`.
use Rattle.std.specs.Prelude.{◌≡◌, ℕ, ◌-◌, List}
use Rattle.srv6_rules.specs.Packet4.{Packet4, spelling4, IsSpellable4}

-- ---- spelling and reading

-- the bytes spell the packet: nothing stands after its end
abbrev pub Spells4 : List ℕ → Packet4 → Type 0
Spells4 bytes p = IsSpellable4 p × (bytes ≡ spelling4 p)
