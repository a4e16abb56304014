use Rattle.std.proofs.Common.{◌≡◌, ◌+◌, ℕ, suc, None, length, arith, ap, ◌∙◌, subst}
use Rattle.packet_walk.specs.ScheduleTerms.{Progress, EntryGives, GivesTo}
use Rattle.packet_walk.proofs.Due.{named_lost, named_ended, named_going}
use Rattle.packet_walk.proofs.schedule.Turns.named.Goals as goal

next : (place : ℕ) → place + 1 ≡ suc place
next place = omega arith

pub returns-in_default : goal.returns-in_default
returns-in_default c = subst (λ (t : Progress). EntryGives t.numbers c.args.flight.now c.args.entry None) c.self.view_is
    (named_lost c.args.flight.now c.self.inside.numbers.now c.args.entry c.in_default.field-0 c.self.invariant
    c.in_default.ensures.position)

pub returns-in-Some : goal.returns-in-Some
returns-in-Some c = subst (λ (t : Progress). EntryGives t.numbers c.args.flight.now c.args.entry None) c.self.view_is
    (named_ended c.args.flight.now c.self.inside.numbers.now c.args.entry c.in-Ok.place (c.in-Ok.place + 1) (next c.in-Ok.place)
    c.self.invariant (ap (λ (t : Progress). length t.numbers) c.self.view_is ∙ c.requires) c.in-Ok.ensures.position c.in-Some.field-0
    c.in-Some.ensures)

pub returns-in-None : goal.returns-in-None
returns-in-None c = subst (λ (t : Progress). GivesTo t.numbers c.args.flight.now c.args.entry (c.in-Ok.place + 1)) c.self.view_is
    (named_going c.args.flight.now c.self.inside.numbers.now c.args.entry c.in-Ok.place (c.in-Ok.place + 1) (next c.in-Ok.place)
    c.self.invariant (ap (λ (t : Progress). length t.numbers) c.self.view_is ∙ c.requires) c.in-Ok.ensures.position c.in-None.ensures
    c.keeps_rules.ensures.packet)
