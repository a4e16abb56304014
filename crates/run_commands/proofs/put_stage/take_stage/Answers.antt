use Rattle.std.proofs.Common.{sym, subst}
use Rattle.walk_rules.specs.declared.place.Outcome.{Outcome}
use Rattle.walk_rules.specs.Treatment.{Gave, step_of}
use Rattle.trace_replay.specs.Numbered.{IsNumbered}
use Rattle.run_commands.proofs.Writable.{in_ok, gave_writable, end_within}
use Rattle.run_commands.proofs.put_stage.take_stage.Goals as goal

pub returns-clause-writable : goal.returns-clause-writable
returns-clause-writable c =
    let step : Gave = step_of c.args.net.now c.args.place.now c.args.content.now c.args.choice in
    let gave : Outcome → Gave = λ outcome. record { outcome = outcome; after = c.stage.new.content; error = step.error } in
    in_ok _ _ c.stage.result (λ outcome is.
    gave_writable c.args.net.now c.args.place.now c.args.content.now c.args.choice (gave outcome) is
    c.keeps_rules.ensures.facts c.requires c.keeps_rules-2.ensures) c.stage.ensures.function

pub returns-clause-ends : goal.returns-clause-ends
returns-clause-ends c =
    let step : Gave = step_of c.args.net.now c.args.place.now c.args.content.now c.args.choice in
    in_ok _ _ c.stage.result (λ outcome is.
    end_within c.args.net.now c.args.place.now c.args.content.now outcome c.stage.new.content step.error
    c.keeps_rules.ensures.facts c.requires is) c.stage.ensures.relation

pub returns-clause-numbered : goal.returns-clause-numbered
returns-clause-numbered c =
    let step : Gave = step_of c.args.net.now c.args.place.now c.args.content.now c.args.choice in
    in_ok _ _ c.stage.result (λ outcome is. subst (λ (g : Gave). IsNumbered c.args.net.now g.outcome) (sym is)
    (c.an_outcome_names_what_is_there.ensures c.args.net.now c.args.place.now c.args.content.now c.args.choice
    c.keeps_rules.ensures.facts c.requires)) c.stage.ensures.function
