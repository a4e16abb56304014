use Rattle.std.proofs.Common.{rules, ◌≡◌, ◌∙◌, ap, arith}
use Rattle.std.proofs.lemmas.Grind.{common_steps}
use Rattle.srv6_rules.specs.Packet.{content_of}
use Rattle.replace_csid.specs.ReplaceJudging.{step_view}
use Rattle.replace_csid.specs.Replacing.{with_move}
use Rattle.replace_csid.proofs.ReplaceWriteLemmas.{packet_within, payload_most, write_content}
use Rattle.replace_csid.proofs.replace_step.write_step.Goals as goal

pub overflow_add-bytes : goal.overflow_add-bytes
overflow_add-bytes c =
    let most = payload_most c.args.bytes.now c.requires.packet in
    omega arith

pub bounds-bytes-at : goal.bounds-bytes-at
bounds-bytes-at c =
    let within = packet_within c.args.bytes.now c.requires.packet in
    omega arith

pub returns-clause-packet : goal.returns-clause-packet
returns-clause-packet c =
    let same : c.bytes-1.given.0 ≡ with_move c.args.bytes.now c.args.at (step_view c.args.step) =
    first_of (search rules, grind (arith, common_steps)) in
    ap content_of same
    ∙ write_content c.args.bytes.now c.args.at (step_view c.args.step) c.requires.packet c.requires.behind c.requires.within
    (omega arith) (omega arith)
