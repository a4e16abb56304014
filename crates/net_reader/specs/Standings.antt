-- How the SIDs of a description stand, as far as their entries don't tell.
use Rattle.std.specs.Prelude.{Bool, true, false, ◌||◌, nat_lt, count_by, List, map, is_some}
use Rattle.net_model.specs.declared.standing.Standing.{Standing}
use Rattle.net_syntax.specs.declared.sid_table.DescribedSid.{DescribedSid}
use Rattle.net_syntax.specs.declared.sid_table.Flavour.{Flavour}
use Rattle.net_syntax.specs.declared.sid_table.Flavour.TheVariants.{Psp, Usp, Usd}
use Rattle.net_syntax.specs.declared.description.Description.{Description}

abbrev pub same_flavour : Flavour → Flavour → Bool
same_flavour Psp Psp = true
same_flavour Psp Usp = false
same_flavour Psp Usd = false
same_flavour Usp Psp = false
same_flavour Usp Usp = true
same_flavour Usp Usd = false
same_flavour Usd Psp = false
same_flavour Usd Usp = false
same_flavour Usd Usd = true

-- a flavour stands in a list more than once
abbrev pub is_twice : Flavour → List Flavour → Bool
is_twice flavour flavours = nat_lt 1 (count_by (same_flavour flavour) flavours)

abbrev pub has_double : List Flavour → Bool
has_double flavours = is_twice Psp flavours || (is_twice Usp flavours || is_twice Usd flavours)

-- which keys a SID has, and whether one of its flavours stands twice
abbrev pub standing_of : DescribedSid → Standing
standing_of s = record {
  links = is_some s.links;
  table = is_some s.table;
  policy = is_some s.policy;
  double_flavour = has_double s.flavours;
}

abbrev pub standings_of : Description → List Standing
standings_of said = map standing_of said.sids
