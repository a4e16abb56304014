-- Need not be believed: helps proofs and other laws.
-- Terms beside those of `specs/Standings.antt`.
use Rattle.std.specs.Prelude.{◌≡◌, map}
use Rattle.net_model.specs.NetworkJudging.{fitting}
use Rattle.net_syntax.specs.declared.description.Description.{Description}
use Rattle.net_reader.specs.Joining.{joined}
use Rattle.net_reader.specs.Standings.{standings_of}

-- each SID has the keys that its behaviour takes, and no flavour twice
abbrev pub HaveTheirKeys : Description → Type 0
HaveTheirKeys said = standings_of said ≡ map fitting (joined said).sids
