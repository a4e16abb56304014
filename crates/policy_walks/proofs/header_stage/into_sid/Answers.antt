use Rattle.std.proofs.Common.{ℕ, sym, ap, ◌∙◌, drop}
use Rattle.std.specs.Option.{option_map}
use Rattle.net_model.proofs.PublicLaws.{sid_suits, sid_unflavoured, sid_not_next}
use Rattle.node_stage.proofs.EndpointLemmas.{not_next}
use Rattle.policy_walks.proofs.HeaderWalkPlaces.{exposed_there, onward_there, taken_there}
use Rattle.walk_rules.specs.declared.place.How.{How}
use Rattle.walk_rules.specs.Treatment.{allow_of}
use Rattle.policy_walks.proofs.HeaderWalkStages.{into_missed, into_onward}
use Rattle.policy_walks.proofs.header_stage.into_sid.Goals as goal

pub returns-in_default-clause-value : goal.returns-in_default-clause-value
returns-in_default-clause-value c = λ go.
    into_missed c.args.net.now go c.args.headers c.args.sid (drop c.args.done c.args.steps.now)
    (sym c.done_after.ensures.value ∙ ap (option_map (λ (d : ℕ). drop d c.args.steps.now)) c.in_default.is)

pub come_to-requires-clause-suits : goal.come_to-requires-clause-suits
come_to-requires-clause-suits c =
    sid_suits c.args.net.now c.args.sid c.sid-entry.result.now c.keeps_rules.ensures.facts c.sid-entry.ensures

pub come_to-requires-clause-usp : goal.come_to-requires-clause-usp
come_to-requires-clause-usp c = λ stays.
    (sid_unflavoured c.args.net.now c.args.sid c.sid-entry.result.now c.keeps_rules.ensures.facts c.sid-entry.ensures stays).usp

pub come_to-requires-clause-next : goal.come_to-requires-clause-next
come_to-requires-clause-next c = λ stays.
    not_next c.sid-entry.result.now.csid
    (sid_not_next c.args.net.now c.args.sid c.sid-entry.result.now c.keeps_rules.ensures.facts c.sid-entry.ensures stays)

pub behind_sid-requires : goal.behind_sid-requires
behind_sid-requires c =
    record { policy = (c.keeps_rules.ensures.facts.sid c.args.sid c.sid-entry.result.now c.sid-entry.ensures).behaviour.policy }

pub returns-in_ok-headers-in-On-clause-there : goal.returns-in_ok-headers-in-On-clause-there
returns-in_ok-headers-in-On-clause-there c = (
  onward_there c.args.net.now c.keeps_rules.ensures.facts c.args.headers.place c.requires.place c.args.sid c.sid-entry.result.now
      c.sid-entry.ensures c.requires.stands c.in_ok-headers-in-On.headers.place c.args.headers.place.family
      (c.in_ok-headers-in-On.ensures.place
      ∙ ap (λ how. record { node = c.args.headers.place.node; how = how; family = c.args.headers.place.family }) c.onward_from.ensures),
  c.in-Some.ensures.few,
)

pub returns-in-Off-clause-there : goal.returns-in-Off-clause-there
returns-in-Off-clause-there c =
    taken_there c.args.net.now c.args.steps.now _ _ c.in-Some.done c.taken_off.result c.taken_off.ensures
    (exposed_there c.args.net.now c.keeps_rules.ensures.facts c.args.headers.place c.requires.place c.args.sid c.sid-entry.result.now
    c.sid-entry.ensures c.requires.stands _ c.in-Off.family
    (ap (λ how. record { node = c.args.headers.place.node; how = how; family = c.in-Off.family }) c.exposed_from.ensures))
    c.in-Some.ensures.few

pub returns-in_ok-headers-in-On-clause-value : goal.returns-in_ok-headers-in-On-clause-value
returns-in_ok-headers-in-On-clause-value c = λ go.
    let h = c.args.headers in
    into_onward c.args.net.now go h c.args.sid c.sid-entry.result.now c.sid-entry.ensures c.as_slice-allow.result.now
    (c.as_slice-allow.ensures ∙ sym (ap allow_of c.node.ensures)) (drop c.args.done c.args.steps.now) c.in-On.head
    c.in_ok-headers-in-On.headers (drop c.in-Some.done c.args.steps.now) c.in-On.ensures (sym c.in-Some.ensures.value)
    (c.in_ok-headers-in-On.ensures.value c.args.sid h.place
    (ap (λ (how : How). record { node = h.place.node; how = how; family = h.place.family }) (sym c.onward_from.ensures)))
