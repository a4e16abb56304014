use Rattle.std.proofs.Common.{rules, ◌≡◌, false, sym, nat_le, arith}
use Rattle.std.proofs.lemmas.Bool.{lt-leb}
use Rattle.srv6_rules.specs.Endpoint.{has_bad_segments}
use Rattle.ip6_headers.specs.Items.{fault_of}
use Rattle.ip6_headers.specs.ChainStepping.{header_at}
use Rattle.end_behaviours.proofs.EndStepLemmas.{judged_tlv}
use Rattle.end_behaviours.proofs.stepping.judge_step.Goals as goal

pub returns-in-Err : goal.returns-in-Err
returns-in-Err c =
    let p = c.args.packet.now in
    let h = header_at c.args.place c.args.header.now in
    let fine : has_bad_segments c.in-Ok.srh ≡ false = search rules in
    let low : nat_le p.hop_limit 1 ≡ false = lt-leb p.hop_limit 1 (omega arith) in
    judged_tlv p h c.in-Ok.srh (fault_of c.in-Err.fault) c.requires.lies c.keeps_rules.ensures.payload_len low c.in-Ok.ensures.value
    fine (sym c.in-Err.ensures)
