use Rattle.srv6_cli.proofs.Carrying.{headline}
use Rattle.srv6_cli.proofs.headline.the_headline.Goals as goal

pub returns : goal.returns
returns c =
    let law = c.a_walk_keeps_to_the_intent.ensures in
    headline (λ text net is. ((c.networks_keep_the_rules.ensures text net).0 is).3)
    (λ net intent list choices network byte compiled some. record {
      small = λ inner is small. law.small net intent list choices inner network compiled some is small;
      strict = λ realizes inner is. law.strict net intent list choices inner realizes byte compiled some is;
      plain = λ none inner is. law.plain net intent list choices inner none byte compiled some is;
      loose = λ reach inner is. law.loose net intent list choices inner reach byte compiled some is;
    })
