use Rattle.std.proofs.Common.{◌≡◌, length, ◌∙◌, ap, subst, arith}
use Rattle.std.proofs.lemmas.Result.{IfOk-weaker}
use Rattle.net_model.specs.Network.{Network}
use Rattle.intent_reader.specs.IntentRules.{has_reach}
use Rattle.list_pack.specs.Meaning.{AreSidsOf}
use Rattle.list_pack.specs.SidLists.{prefixes_in}
use Rattle.leg_table.specs.StrictTableTerms.{LegTable}
use Rattle.intent_compiler.specs.IntentLegs.{intent_legs_value}
use Rattle.list_judge_theory.specs.ListCourses.{tail_of}
use Rattle.list_judge.proofs.RealizesAlong.{fails_by, realizes_by}
use Rattle.list_judge.proofs.judging.judge_flat.Goals as goal

pub need_along-requires : goal.need_along-requires
need_along-requires c =
    record {
      sids = subst (λ (n : Network). AreSidsOf (intent_legs_value c.in_ok-legs.legs.net c.in_ok-legs.legs.intent) n)
          (ap (λ (t : LegTable). t.net) c.in_ok-legs.ensures) c.keeps_meaning.ensures.sids;
    }

pub returns-in-Some : goal.returns-in-Some
returns-in-Some c =
    let net = c.args.net.now in
    let intent = c.args.intent.now in
    let list = c.args.list.now in
    let prefixes = c.in_ok-prefixes.prefixes in
    let is_tail : c.in_ok-tail.tail ≡ tail_of (has_reach intent.steps) list
    = cc (c.in_ok-tail.ensures, c.has_reach.ensures, c.as_slice.ensures, c.as_slice-containers.ensures) in
    let are : prefixes.items ≡ prefixes_in list = cc (c.in_ok-prefixes.ensures, c.as_slice-containers.ensures) in
    let count : c.len.result ≡ length prefixes.items = omega (arith, c.len.ensures, prefixes.ok.0) in
    let realizes
    = realizes_by c.in_ok-legs.legs net intent c.in_ok-legs.ensures c.keeps_rules.ensures.network c.requires.flat c.requires.intent list
    c.requires.legal c.in_ok-tail.tail c.as_slice-2.result.now is_tail (c.as_slice-2.ensures.value ∙ are) c.in_ok-need.field-0
    c.in_ok-need.ensures c.in-Some.need c.in-Some.is in
    IfOk-weaker c.realizes.result _ _
    (λ judgement told. told list c.requires.legal (ap length c.as_slice-containers.ensures) (count ∙ ap length are) realizes)
    c.realizes.ensures

pub fails-requires-clause-fails : goal.fails-requires-clause-fails
fails-requires-clause-fails c =
    let net = c.args.net.now in
    let intent = c.args.intent.now in
    let list = c.args.list.now in
    let prefixes = c.in_ok-prefixes.prefixes in
    let is_tail : c.in_ok-tail.tail ≡ tail_of (has_reach intent.steps) list
    = cc (c.in_ok-tail.ensures, c.has_reach.ensures, c.as_slice.ensures, c.as_slice-containers.ensures) in
    let are : prefixes.items ≡ prefixes_in list = cc (c.in_ok-prefixes.ensures, c.as_slice-containers.ensures) in
    fails_by c.in_ok-legs.legs net intent c.in_ok-legs.ensures c.keeps_rules.ensures.network c.requires.flat c.requires.intent list
    c.requires.legal c.in_ok-tail.tail c.as_slice-2.result.now is_tail (c.as_slice-2.ensures.value ∙ are) c.in_ok-need.field-0
    c.in_ok-need.ensures c.in-None.is
