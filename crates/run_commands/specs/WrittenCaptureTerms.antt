-- Need not be believed: helps proofs and other laws.
-- Terms beside those of `specs/WrittenCapture.antt`.
use Rattle.std.specs.Prelude.{ℕ, ◌<◌, ◌≤◌, List, length, ⊤}
use Rattle.srv6_rules.specs.Packet.{most_len}
use Rattle.net_model.specs.declared.limits.TheConstants.{MAX_LINKS}
use Rattle.walk_rules.specs.declared.place.Outcome.{Outcome}
use Rattle.walk_rules.specs.declared.place.Outcome.TheVariants as outcomes

-- what a Send names is there, and its packet is no longer than a packet can be
abbrev pub IsWritable : Outcome → List ℕ → Type 0
IsWritable (outcomes.Send link) packet = (link < MAX_LINKS) × (length packet ≤ most_len)
IsWritable (outcomes.Again sid how) packet = ⊤
IsWritable (outcomes.Hand sid how family) packet = ⊤
IsWritable outcomes.Local packet = ⊤
IsWritable (outcomes.Drop reason told) packet = ⊤
