use Rattle.std.proofs.Common.{◌≡◌, suc, ◌-◌, refl, sym, ap, ◌∙◌, arith}
use Rattle.std.proofs.lemmas.Result.{err_from_is_err_and}
use Rattle.pcap_io.specs.declared.frame.Body.{Body}
use Rattle.command_output.specs.CommandAnswers.{ending_of_step}
use Rattle.command_output.proofs.PublicLaws.{goes_kept}
use Rattle.run_commands.specs.Admission.{Admission, entrant_of, early_end_of}
use Rattle.run_commands.proofs.DriverTurning.{ok_from}
use Rattle.update_driver.specs.Moving.{Sides, side_of, sides_by}
use Rattle.update_driver.proofs.EventComing.{comes_done, comes_went, entering_is, ok_both, staying_is, stays_done}
use Rattle.update_driver.proofs.moving.Moving.put_coming.Goals as goal

pub returns-in-Some-clause-after : goal.returns-in-Some-clause-after
returns-in-Some-clause-after g c =
    let sides : Sides = sides_by (g.W.Enters.entry c.args.sides.now.old) (g.W.Enters.entry c.args.sides.now.new) in
    let e : Admission = side_of sides c.args.self.now.update c.args.frame.now.body in
    let same : g.W.Enters.entry c.side-enters.result.now c.args.frame.now.body ≡ e =
    ap (λ (f : Body → Admission). f c.args.frame.now.body) c.side-enters.ensures.entry in
    ok_from c.put_stays.result _ (stays_done sides c.args.self.now _ (c.args.frame.now.number - 1) c.in-Some.stays e
    (staying_is e c.in-Some.stays (ap early_end_of (sym same) ∙ sym c.in-Some.ensures)) c.requires.going c.requires.there
    (record { net = refl; choices = refl; seats = refl }) refl)

pub returns-in_err-comes-clause-wrote : goal.returns-in_err-comes-clause-wrote
returns-in_err-comes-clause-wrote g c =
    let p = err_from_is_err_and c.from_residual.result c.from_residual.ensures.1 in
    rw (p.1, p.2) (goes_kept _ _)

pub returns-in_err-turn-in-Some-2-clause-wrote : goal.returns-in_err-turn-in-Some-2-clause-wrote
returns-in_err-turn-in-Some-2-clause-wrote g c =
    let p = err_from_is_err_and c.from_residual-in_err-turn-in-Some-2.result c.from_residual-in_err-turn-in-Some-2.ensures.1 in
    rw (p.1, p.2) (goes_kept _ _)

pub returns-in-Some-2-clause-after : goal.returns-in-Some-2-clause-after
returns-in-Some-2-clause-after g c =
    let sides : Sides = sides_by (g.W.Enters.entry c.args.sides.now.old) (g.W.Enters.entry c.args.sides.now.new) in
    let e : Admission = side_of sides c.args.self.now.update c.args.frame.now.body in
    let same : g.W.Enters.entry c.side-enters.result.now c.args.frame.now.body ≡ e =
    ap (λ (f : Body → Admission). f c.args.frame.now.body) c.side-enters.ensures.entry in
    let turn = c.in_ok-turn-in-Some-2.turn in
    let first = c.requires.number in
    let m : c.number-number.result ≡ c.args.frame.now.number = c.number-number.ensures in
    let same_number : turn.number ≡ c.number-number.result = c.in_ok-turn-in-Some-2.ensures.number in
    let n : turn.number ≡ suc (c.args.frame.now.number - 1) = omega (arith, first, m, same_number) in
    ok_both c.put_turn.result _ _ _
    (comes_done sides c.args.self.now c.enter-in-Some-2.new.self c.put_turn.new.self (c.args.frame.now.number - 1) turn.number turn.packet
    c.in-Some-2.comes c.requires.going n c.requires.there (rw m at c.in_ok-turn-in-Some-2.ensures.entered)
    c.in_ok-turn-in-Some-2.ensures.packet c.requires.few e
    (entering_is e c.in-Some-2.comes (ap entrant_of (sym same) ∙ (sym c.in_ok-comes.ensures ∙ c.in-Some-2.is)))
    c.in_ok-turn-in-Some-2.ensures.stands) c.put_turn.ensures.stands c.put_turn.ensures.after

pub returns-in-Some-2-clause-wrote : goal.returns-in-Some-2-clause-wrote
returns-in-Some-2-clause-wrote g c =
    let sides : Sides = sides_by (g.W.Enters.entry c.args.sides.now.old) (g.W.Enters.entry c.args.sides.now.new) in
    let e : Admission = side_of sides c.args.self.now.update c.args.frame.now.body in
    let same : g.W.Enters.entry c.side-enters.result.now c.args.frame.now.body ≡ e =
    ap (λ (f : Body → Admission). f c.args.frame.now.body) c.side-enters.ensures.entry in
    let turn = c.in_ok-turn-in-Some-2.turn in
    let first = c.requires.number in
    let m : c.number-number.result ≡ c.args.frame.now.number = c.number-number.ensures in
    let same_number : turn.number ≡ c.number-number.result = c.in_ok-turn-in-Some-2.ensures.number in
    let n : turn.number ≡ suc (c.args.frame.now.number - 1) = omega (arith, first, m, same_number) in
    comes_went sides c.args.self.now c.enter-in-Some-2.new.self c.put_turn.new.self (c.args.frame.now.number - 1) turn.number turn.packet
    c.in-Some-2.comes c.requires.going n c.requires.there (rw m at c.in_ok-turn-in-Some-2.ensures.entered)
    c.in_ok-turn-in-Some-2.ensures.packet c.requires.few e
    (entering_is e c.in-Some-2.comes (ap entrant_of (sym same) ∙ (sym c.in_ok-comes.ensures ∙ c.in-Some-2.is)))
    c.in_ok-turn-in-Some-2.ensures.stands (ending_of_step c.put_turn.result) _ _ c.put_turn.ensures.wrote
