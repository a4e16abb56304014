use Rattle.list_certificate.proofs.spelling.append_sid.Goals as goal

pub node-requires : goal.node-requires
node-requires c = (c.keeps_rules.ensures.facts.sid c.args.n c.sid-sid.result.now c.sid-sid.ensures).node
