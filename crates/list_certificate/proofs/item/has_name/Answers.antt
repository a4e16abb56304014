use Rattle.list_certificate.proofs.item.has_name.Goals as goal

pub node-requires : goal.node-requires
node-requires c = (c.keeps_rules.ensures.facts.sid c.args.n c.sid-sid.result.now c.sid-sid.ensures).node
