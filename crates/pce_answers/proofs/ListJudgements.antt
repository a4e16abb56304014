-- The reply to a list that is judged, by what its segments spell.
use Rattle.std.proofs.Common.{◌≡◌, ◌∙◌, inl, inr, ℕ, List, [], ◌∷◌, map, Result, Ok, Err, refl, sym, ap, subst}
use Rattle.v6_addr.specs.declared.address.Addr.{Addr}
use Rattle.net_model.specs.Network.{Network}
use Rattle.net_flatness.specs.declared.not_flat.NotFlat.{NotFlat}
use Rattle.net_flatness.specs.Flat.{flatness_of}
use Rattle.intent_reader.specs.declared.intent.Intent.{Intent}
use Rattle.intent_reader.specs.declared.fault.IntentFault.{IntentFault}
use Rattle.intent_reader.specs.IntentJudging.{intent_of_text}
use Rattle.list_pack.specs.declared.types.Container.{Container}
use Rattle.list_pack.specs.SegmentValues.{addr_value}
use Rattle.list_pack.specs.SidLists.{list_values}
use Rattle.segment_reading.specs.declared.reading.ListFault.{ListFault}
use Rattle.segment_reading.specs.declared.reading.ListFault.TheVariants as reads
use Rattle.segment_reading.specs.Spellings.{Reads}
use Rattle.segment_reading.specs.Spellings.{IsSpelled as IsRead}
use Rattle.list_judge.specs.declared.judgement.Judgement.{Judgement}
use Rattle.list_judge.specs.Judgements.{Judges}
use Rattle.command_output.specs.declared.refusal.Refusal.TheVariants as refusals
use Rattle.pce_protocol.specs.declared.reply.Judged.TheVariants as judged
use Rattle.pce_protocol.specs.declared.reply.Answer.TheVariants as answers
use Rattle.pce_protocol.specs.declared.reply.ReplyError.TheVariants as errors
use Rattle.pce_answers.specs.NetAnswers.{Reply, segment, why_not_flat, why_of}
use Rattle.pce_answers.specs.NetAnswersTerms.{IsOr}
use Rattle.pce_answers.specs.JudgeAnswers.{IsJudgeReply, IsJudgedReply, IsOfList, IsSegmentsReply, IsSpelled, judged_of}
use Rattle.pce_answers.specs.JudgeAnswersTerms.{IsReplyToList}

-- addresses are segments of their values
segments_of : (segments : List Addr) → map segment (map addr_value segments) ≡ segments
segments_of [] = refl
segments_of (a ∷ rest) = ap (λ more. a ∷ more) (segments_of rest)

values_of : (values : List ℕ) → map addr_value (map segment values) ≡ values
values_of [] = refl
values_of (v ∷ rest) = ap (λ more. v ∷ more) (values_of rest)

-- a list that is read has these segments
spelled_from : (net : Network) (segments : List Addr) (list : List Container) → IsRead net segments list → IsSpelled net segments list
spelled_from net segments list is = (is.legal, sym (ap (map segment) is.values ∙ segments_of segments))

spelled_to : (net : Network) (segments : List Addr) (list : List Container) → IsSpelled net segments list → IsRead net segments list
spelled_to net segments list is = record { legal = is.0; values = sym (ap (map addr_value) is.1 ∙ values_of (list_values net list)) }

module _ (net : Network) (intent : Intent) (segments : List Addr) where
  by_flatness : (r : Result (Unit {0}) NotFlat) → flatness_of net ≡ r → (reply : Reply) → IsSegmentsReply net intent segments r reply
      → IsReplyToList net intent segments reply
  by_flatness r e reply is =
      inr (subst (λ (x : Result (Unit {0}) NotFlat). IsSegmentsReply net intent segments x reply) (sym e) is)

  pub list_judged : (list : List Container) (judgement : Judgement) (reply : Reply) → flatness_of net ≡ Ok tt → Reads net segments (Ok list)
      → Judges net intent list judgement → IsOr (Ok (answers.Judged (judged_of judgement))) reply → IsReplyToList net intent segments reply
  list_judged list judgement reply flat read judges (inl wants) = inl wants
  list_judged list judgement reply flat read judges (inr is) =
      by_flatness (Ok tt) flat reply
      (inl (record { list = list; spelled = spelled_from net segments list read; judgement = judgement; judges = (flat, judges); told = is }))

  pub list_not_legal : flatness_of net ≡ Ok tt → Reads net segments (Err reads.NotLegal)
      → IsReplyToList net intent segments (Ok (answers.Judged judged.NotLegal))
  list_not_legal flat none =
      by_flatness (Ok tt) flat (Ok (answers.Judged judged.NotLegal))
      (inr (λ list is. none list (spelled_to net segments list is), refl))

  pub list_wants : IsReplyToList net intent segments (Err errors.NoMemory)
  list_wants = inl refl

  pub list_not_flat : (why : NotFlat) (reply : Reply) → flatness_of net ≡ Err why → IsOr (Err (errors.NotFlat (why_not_flat net why))) reply
      → IsReplyToList net intent segments reply
  list_not_flat why reply e (inl wants) = inl wants
  list_not_flat why reply e (inr is) = by_flatness (Err why) e reply is

module _ (net : Network) (text : List ℕ) (segments : List Addr) where
  pub judge_of_intent : (intent : Intent) (reply : Reply) → intent_of_text net text ≡ Ok intent → IsReplyToList net intent segments reply
      → IsJudgeReply net text segments reply
  judge_of_intent intent reply e (inl wants) = inl wants
  judge_of_intent intent reply e (inr is) =
      inr (subst (λ (read : Result Intent IntentFault). IsJudgedReply net segments read reply) (sym e) is)

  pub judge_of_fault : (fault : IntentFault) (reply : Reply) → intent_of_text net text ≡ Err fault
      → IsOr (Err (errors.Refused (why_of (refusals.Intent fault)))) reply → IsJudgeReply net text segments reply
  judge_of_fault fault reply e (inl wants) = inl wants
  judge_of_fault fault reply e (inr is) =
      inr (subst (λ (read : Result Intent IntentFault). IsJudgedReply net segments read reply) (sym e) is)

  pub judge_of_want : IsJudgeReply net text segments (Err errors.NoMemory)
  judge_of_want = inl refl

pub ruleset judging = (list_judged, list_not_legal, list_wants)

pub ruleset flatness = (list_not_flat)

pub ruleset reading = (judge_of_intent, judge_of_fault, judge_of_want)
