-- Need not be believed: helps proofs and other laws.
-- The prefixes that nodes have, by which they are grouped.
use Rattle.std.specs.Prelude.{Bool, ◌==◌, ◌&&◌}
use Rattle.net_model.specs.NetworkRules.{same_family, same_prefix}
use Rattle.planned_routes.specs.declared.owners.Owner.{Owner}

abbrev pub same_key : Owner → Owner → Bool
same_key a b = (a.table == b.table) && (same_family a.family b.family && same_prefix a.prefix b.prefix)
