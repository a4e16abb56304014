-- Need not be believed: neither program stands on it yet.
-- Which lists addresses spell, as the segments in the order in which they are visited.
use Rattle.std.specs.Prelude.{◌≡◌, List, map, Result, Ok, Err}
use Rattle.v6_addr.specs.declared.address.Addr.{Addr}
use Rattle.net_model.specs.Network.{Network}
use Rattle.list_pack.specs.declared.types.Container.{Container}
use Rattle.list_pack.specs.SegmentValues.{addr_value}
use Rattle.list_pack.specs.SidLists.{IsLegalList, list_values}
use Rattle.segment_reading.specs.declared.reading.ListFault.{ListFault}
use Rattle.segment_reading.specs.declared.reading.ListFault.TheVariants as faults

-- a legal list of the network has these values, container by container
pub record IsSpelled (net : Network) (segments : List Addr) (list : List Container) : Type 0 where
  pub legal : IsLegalList net list
  pub values : list_values net list ≡ map addr_value segments

-- the list that is spelled so, or that none is
abbrev pub Reads : Network → List Addr → Result (List Container) ListFault → Type 0
Reads net segments (Ok list) = IsSpelled net segments list
Reads net segments (Err faults.NotLegal) = (list : List Container) → ¬ IsSpelled net segments list
Reads net segments (Err faults.NoMemory) = Unit {0}
