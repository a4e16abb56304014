-- The network that the text of a description gives, or its first fault: first whether the text is TOML, then the
-- faults of shape in the order of the tables, and once there is none the faults of the parts in the order of the tables.
use Rattle.std.specs.Prelude.{ℕ, List, Result, Ok}
use Rattle.text_faults.specs.declared.fault.TextFault.{TextFault}
use Rattle.net_model.specs.Network.{Network}
use Rattle.net_model.specs.NetworkJudging.{judging}
use Rattle.toml_reader.specs.TomlReading.{◌>>=◌}
use Rattle.net_syntax.specs.declared.description.Description.{Description}
use Rattle.net_syntax.specs.DescriptionText.{description_in}
use Rattle.net_reader.specs.Joining.{joined}
use Rattle.net_reader.specs.Standings.{standings_of}

-- the network of what is described, or the first fault of its parts
abbrev pub judged_network : Description → Result Network TextFault
judged_network said = do
  fine ← judging (joined said) (standings_of said)
  Ok (joined said)

-- the network that a text gives, or its first fault
abbrev pub net_in : List ℕ → Result Network TextFault
net_in text = do
  said ← description_in text
  judged_network said
