use Rattle.std.proofs.Common.{◌≡◌, ◌+◌, ◌^◌, ◌<◌, ◌≤◌, Ok, subst, sym, arith, length}
use Rattle.packet_walk.specs.Flight.{InFlight, entering}
use Rattle.update_flight.specs.Transition.{Transition}
use Rattle.update_flight.specs.TransitionTerms.{EntersAs, transition_value}
use Rattle.update_flight.proofs.PassingEntering.{late_enters, early_enters, early_kept}
use Rattle.update_flight.proofs.transition.Transition.enter_content.Goals as goal

pub invariant_of-self : goal.invariant_of-self
invariant_of-self c =
    let inside = c.self.inside in
    let t : Transition = transition_value inside.added.items inside.removed.items inside.done inside.early inside.packets in
    let behind : length inside.added.items < inside.done = omega (arith, c.if-len-self.true) in
    let room : length t.packets.packets + 1 < 2 ^ 32 =
    subst (λ (u : Transition). length u.packets.packets + 1 < 2 ^ 32) (sym c.self.view_is) c.requires.few in
    let p : InFlight = entering c.args.content c.args.place c.args.choices.now in
    (late_enters inside.passed t c.self.invariant p p c.enter_content.new.self room behind c.enter_content.result c.enter_content.ensures).1

pub returns-then-len-self : goal.returns-then-len-self
returns-then-len-self c =
    let inside = c.self.inside in
    let t : Transition = transition_value inside.added.items inside.removed.items inside.done inside.early inside.packets in
    let behind : length inside.added.items < inside.done = omega (arith, c.if-len-self.true) in
    let room : length t.packets.packets + 1 < 2 ^ 32 =
    subst (λ (u : Transition). length u.packets.packets + 1 < 2 ^ 32) (sym c.self.view_is) c.requires.few in
    let p : InFlight = entering c.args.content c.args.place c.args.choices.now in
    subst (λ (u : Transition). EntersAs u p p c.enter_content.result (record t { packets = c.enter_content.new.self })) c.self.view_is
    (late_enters inside.passed t c.self.invariant p p c.enter_content.new.self room behind c.enter_content.result c.enter_content.ensures).0

pub invariant_of-self-in-Ok : goal.invariant_of-self-in-Ok
invariant_of-self-in-Ok c =
    let inside = c.self.inside in
    let t : Transition = transition_value inside.added.items inside.removed.items inside.done inside.early inside.packets in
    let before : inside.done ≤ length inside.added.items = omega (arith, c.if-len-self.false) in
    let room : length t.packets.packets + 1 < 2 ^ 32 =
    subst (λ (u : Transition). length u.packets.packets + 1 < 2 ^ 32) (sym c.self.view_is) c.requires.few in
    let p : InFlight = entering c.args.content c.args.place c.args.choices.now in
    (early_enters inside.passed t c.self.invariant p p c.enter_content-2.new.self room before c.in-Ok.number c.in-Ok.ensures).1

pub returns-in-Ok : goal.returns-in-Ok
returns-in-Ok c =
    let inside = c.self.inside in
    let t : Transition = transition_value inside.added.items inside.removed.items inside.done inside.early inside.packets in
    let before : inside.done ≤ length inside.added.items = omega (arith, c.if-len-self.false) in
    let room : length t.packets.packets + 1 < 2 ^ 32 =
    subst (λ (u : Transition). length u.packets.packets + 1 < 2 ^ 32) (sym c.self.view_is) c.requires.few in
    let p : InFlight = entering c.args.content c.args.place c.args.choices.now in
    subst (λ (u : Transition). EntersAs u p p (Ok c.in-Ok.number)
    (record t { early = c.in-Ok.number; packets = c.enter_content-2.new.self })) c.self.view_is
    (early_enters inside.passed t c.self.invariant p p c.enter_content-2.new.self room before c.in-Ok.number c.in-Ok.ensures).0

pub invariant_of-self-in-Err : goal.invariant_of-self-in-Err
invariant_of-self-in-Err c =
    let inside = c.self.inside in
    let t : Transition = transition_value inside.added.items inside.removed.items inside.done inside.early inside.packets in
    let room : length t.packets.packets + 1 < 2 ^ 32 =
    subst (λ (u : Transition). length u.packets.packets + 1 < 2 ^ 32) (sym c.self.view_is) c.requires.few in
    let p : InFlight = entering c.args.content c.args.place c.args.choices.now in
    (early_kept inside.passed t c.self.invariant p p c.enter_content-2.new.self room c.in-Err.why c.in-Err.ensures).1

pub returns-in-Err : goal.returns-in-Err
returns-in-Err c =
    let inside = c.self.inside in
    let t : Transition = transition_value inside.added.items inside.removed.items inside.done inside.early inside.packets in
    let room : length t.packets.packets + 1 < 2 ^ 32 =
    subst (λ (u : Transition). length u.packets.packets + 1 < 2 ^ 32) (sym c.self.view_is) c.requires.few in
    let p : InFlight = entering c.args.content c.args.place c.args.choices.now in
    subst (λ (u : Transition). record t { packets = c.enter_content-2.new.self } ≡ u) c.self.view_is
    (early_kept inside.passed t c.self.invariant p p c.enter_content-2.new.self room c.in-Err.why c.in-Err.ensures).0
