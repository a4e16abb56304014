-- What the faults of the crates below become where a command passes them on.
use Rattle.std.specs.Prelude.{slice_get}
use Rattle.net_flatness.specs.declared.not_flat.NotFlat.{NotFlat}
use Rattle.net_flatness.specs.declared.not_flat.NotFlat.TheVariants as flats
use Rattle.net_model.specs.Network.{Network}
use Rattle.command_output.specs.declared.refusal.Refusal.{Refusal}
use Rattle.command_output.specs.declared.refusal.Refusal.TheVariants as refusals
use Rattle.trace_replay.specs.TraceLines.{name_of_node}

-- why a network is not flat, with the names of nodes in place of their numbers
abbrev pub flat_refusal : Network → NotFlat → Refusal
flat_refusal net (flats.Nested outer inner) = refusals.Nested outer inner
flat_refusal net (flats.ZeroCsid prefix) = refusals.ZeroCsid prefix
flat_refusal net (flats.MixedBlock block prefix) = refusals.MixedBlock block prefix
flat_refusal net (flats.Clash prefix first second) =
    refusals.Clash prefix (name_of_node (slice_get net.nodes first)) (name_of_node (slice_get net.nodes second))
