-- What is answered of a list that somebody else made, in one network that is held. (own rules)
use Rattle.std.specs.Prelude.{◌≡◌, ◌⊎◌, ℕ, List, map, Result, Ok, Err}
use Rattle.v6_addr.specs.declared.address.Addr.{Addr}
use Rattle.net_model.specs.Network.{Network}
use Rattle.net_flatness.specs.declared.not_flat.NotFlat.{NotFlat}
use Rattle.net_flatness.specs.Flat.{flatness_of}
use Rattle.intent_reader.specs.declared.intent.Intent.{Intent}
use Rattle.intent_reader.specs.declared.fault.IntentFault.{IntentFault}
use Rattle.intent_reader.specs.IntentJudging.{intent_of_text}
use Rattle.list_pack.specs.declared.types.Container.{Container}
use Rattle.list_pack.specs.SidLists.{IsLegalList, list_values}
use Rattle.list_causes.specs.declared.cause.Cause as lists
use Rattle.list_causes.specs.declared.cause.Cause.TheVariants as happens
use Rattle.list_judge.specs.declared.judgement.Judgement.{Judgement}
use Rattle.list_judge.specs.declared.judgement.Judgement.TheVariants.{Realizes, Fails}
use Rattle.list_judge.specs.Judgements.{JudgesOrRefuses}
use Rattle.command_output.specs.declared.refusal.Refusal.TheVariants as refusals
use Rattle.pce_protocol.specs.declared.reply.Cause.{Cause}
use Rattle.pce_protocol.specs.declared.reply.Cause.TheVariants as causes
use Rattle.pce_protocol.specs.declared.reply.Judged.{Judged}
use Rattle.pce_protocol.specs.declared.reply.Judged.TheVariants as judged
use Rattle.pce_protocol.specs.declared.reply.Answer.TheVariants as answers
use Rattle.pce_protocol.specs.declared.reply.ReplyError.TheVariants as errors
use Rattle.pce_answers.specs.NetAnswers.{Reply, segment, why_not_flat, why_of}

abbrev pub cause_of : lists.Cause → Cause
cause_of happens.Lost = causes.Lost
cause_of happens.Astray = causes.Astray
cause_of happens.Apart = causes.Apart
cause_of happens.Early = causes.Early
cause_of happens.Unexecuted = causes.Unexecuted

-- what is said of a legal list
abbrev pub judged_of : Judgement → Judged
judged_of (Realizes need containers sids least within) =
    judged.Realizes (record { containers = containers; least = least; need = need; sids = sids; within = within })
judged_of (Fails sid cause) = judged.No (cause_of cause) sid

-- a legal list of the network has these segments, in the order in which they are visited
abbrev pub IsSpelled : Network → List Addr → List Container → Type 0
IsSpelled net segments list = IsLegalList net list × (segments ≡ map segment (list_values net list))

-- what is said of the list that has these segments
pub record IsOfList (net : Network) (intent : Intent) (segments : List Addr) (reply : Reply) : Type 0 where
  pub list : List Container
  pub spelled : IsSpelled net segments list
  pub judgement : Judgement
  pub judges : JudgesOrRefuses net intent list (Ok judgement)
  pub told : reply ≡ Ok (answers.Judged (judged_of judgement))

-- or that no legal list has them
abbrev pub IsOfNone : Network → List Addr → Reply → Type 0
IsOfNone net segments reply = ((list : List Container) → ¬ IsSpelled net segments list) × (reply ≡ Ok (answers.Judged judged.NotLegal))

-- a network that isn't flat has no lists
abbrev pub IsSegmentsReply : Network → Intent → List Addr → Result (Unit {0}) NotFlat → Reply → Type 0
IsSegmentsReply net intent segments (Err why) reply = reply ≡ Err (errors.NotFlat (why_not_flat net why))
IsSegmentsReply net intent segments (Ok flat) reply = IsOfList net intent segments reply ⊎ IsOfNone net segments reply

-- the intent is judged first
abbrev pub IsJudgedReply : Network → List Addr → Result Intent IntentFault → Reply → Type 0
IsJudgedReply net segments (Err fault) reply = reply ≡ Err (errors.Refused (why_of (refusals.Intent fault)))
IsJudgedReply net segments (Ok intent) reply = IsSegmentsReply net intent segments (flatness_of net) reply

-- the reply to segments in the order in which they are visited; memory may be wanting in the place of any reply
abbrev pub IsJudgeReply : Network → List ℕ → List Addr → Reply → Type 0
IsJudgeReply net text segments reply = (reply ≡ Err errors.NoMemory) ⊎ IsJudgedReply net segments (intent_of_text net text) reply
