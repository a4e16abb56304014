use Rattle.std.proofs.Common.{◌≡◌, ◌∙◌, sym, ap}
use Rattle.std.specs.Prelude.{Ok, Err}
use Rattle.std.proofs.lemmas.Result.{err_from_is_err_and}
use Rattle.net_model.specs.NetworkRules.{are_distinct, same_number}
use Rattle.intent_reader.specs.Functions.{function_numbered}
use Rattle.intent_reader.specs.IntentReading.{each_of}
use Rattle.intent_reader.specs.IntentJudging.{link_at}
use Rattle.intent_reader.proofs.IntentStepLemmas.{links_unknown, links_once, links_double, function_there, function_absent, reach_is}
use Rattle.intent_reader.proofs.steps.step_named.Goals as goal

pub returns-in_err-links-in-Links : goal.returns-in_err-links-in-Links
returns-in_err-links-in-Links c =
    let p = err_from_is_err_and c.from_residual.result c.from_residual.ensures.1 in
    rw (p.1, p.2, c.in-Links.is) (λ fault same.
    links_unknown c.args.net.now c.args.number c.in-Links.names fault
    (ap (each_of (link_at c.args.net.now c.args.number)) (sym c.as_slice.ensures) ∙ c.in_err-links-in-Links.ensures fault same))

pub returns-then-are_distinct : goal.returns-then-are_distinct
returns-then-are_distinct c =
    rw c.in-Links.is
    (links_once c.args.net.now c.args.number c.in-Links.names c.in_ok-links-in-Links.links
    (ap (each_of (link_at c.args.net.now c.args.number)) (sym c.as_slice.ensures) ∙ c.in_ok-links-in-Links.ensures)
    (ap (are_distinct same_number) (sym c.as_slice-in-Links.ensures) ∙ sym c.are_distinct.ensures ∙ c.if-are_distinct.true))

pub returns-else-are_distinct : goal.returns-else-are_distinct
returns-else-are_distinct c =
    rw c.in-Links.is (λ fault same.
    let is : c.at.result ≡ fault = cc in
    links_double c.args.net.now c.args.number c.in-Links.names c.in_ok-links-in-Links.links fault
    (ap (each_of (link_at c.args.net.now c.args.number)) (sym c.as_slice.ensures) ∙ c.in_ok-links-in-Links.ensures)
    (ap (are_distinct same_number) (sym c.as_slice-in-Links.ensures) ∙ sym c.are_distinct.ensures ∙ c.if-are_distinct.false)
    (sym c.at.ensures ∙ is))

pub returns-in-Some : goal.returns-in-Some
returns-in-Some c =
    rw c.in-Function.is
    (function_there c.args.net.now c.args.number c.in-Function.title c.in-Some.sid
    (ap (λ t. function_numbered t c.args.net.now) (sym c.as_bytes.ensures) ∙ sym c.in-Some.ensures.number))

pub returns-in-None : goal.returns-in-None
returns-in-None c =
    rw c.in-Function.is (λ fault same.
    let is : c.at-in-None.result ≡ fault = cc in
    function_absent c.args.net.now c.args.number c.in-Function.title fault
    (ap (λ t. function_numbered t c.args.net.now) (sym c.as_bytes.ensures) ∙ sym c.in-None.ensures.number)
    (sym c.at-in-None.ensures ∙ is))

pub returns-in_ok-node_at-in-Reach : goal.returns-in_ok-node_at-in-Reach
returns-in_ok-node_at-in-Reach c =
    rw c.in-Reach.is
    (reach_is c.args.net.now c.args.number c.in-Reach.name (Ok c.in_ok-node_at-in-Reach.field-0)
    (sym c.in_ok-node_at-in-Reach.ensures))

pub returns-in_err-node_at-in-Reach : goal.returns-in_err-node_at-in-Reach
returns-in_err-node_at-in-Reach c =
    let p = err_from_is_err_and c.from_residual-in_err-node_at-in-Reach.result c.from_residual-in_err-node_at-in-Reach.ensures.1 in
    rw (p.1, c.in-Reach.is) (λ fault same.
    let is : c.in_err-node_at-in-Reach.field-0.0 ≡ fault = cc (p.2, same) in
    reach_is c.args.net.now c.args.number c.in-Reach.name (Err fault)
    (sym c.in_err-node_at-in-Reach.ensures ∙ ap Err is))
