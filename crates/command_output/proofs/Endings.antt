-- The statuses of judgements.
use Rattle.std.proofs.Common.{◌≡◌, inl, inr, [], ◌∷◌, ap}
use Rattle.srx_edge.specs.CallSteps.{Whole}
use Rattle.command_output.specs.declared.status.Status.{Status}
use Rattle.command_output.specs.declared.status.Status.TheVariants as statuses
use Rattle.command_output.specs.Endings.{ending_of_status}
use Rattle.command_output.specs.CommandSpec.{IsOneOf}

-- a judgement's status is one of a whole call, and one of the command's
pub judgement_status : (status : Status) → IsOneOf (statuses.Done ∷ statuses.SaysNo ∷ []) status
    → (ending_of_status status ≡ Whole) × IsOneOf (statuses.Done ∷ statuses.Refused ∷ statuses.SaysNo ∷ []) status
judgement_status status (inl e) = (ap ending_of_status e, inl e)
judgement_status status (inr (inl e)) = (ap ending_of_status e, inr (inr (inl e)))
judgement_status status (inr (inr none)) = absurd none
