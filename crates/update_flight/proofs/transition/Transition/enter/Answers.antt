use Rattle.std.proofs.Common.{◌≡◌, ◌+◌, ◌^◌, ◌<◌, ◌≤◌, Ok, subst, sym, arith, length}
use Rattle.srv6_rules.specs.Packet.{entered as entered_as}
use Rattle.node_stage.specs.Fronted.{fronted}
use Rattle.packet_walk.specs.Flight.{InFlight, entering}
use Rattle.update_flight.specs.Transition.{Transition}
use Rattle.update_flight.specs.TransitionTerms.{EntersAs, transition_value}
use Rattle.update_flight.proofs.PassingEntering.{late_enters, early_enters, early_kept}
use Rattle.update_flight.proofs.transition.Transition.enter.Goals as goal

pub invariant_of-self : goal.invariant_of-self
invariant_of-self c =
    let inside = c.self.inside in
    let t : Transition = transition_value inside.added.items inside.removed.items inside.done inside.early inside.packets in
    let behind : length inside.added.items < inside.done = omega (arith, c.if-self-len.true) in
    let room : length t.packets.packets + 1 < 2 ^ 32 =
    subst (λ (u : Transition). length u.packets.packets + 1 < 2 ^ 32) (sym c.self.view_is) c.requires.few in
    let old : InFlight =
    entering (fronted (entered_as c.args.place.family c.args.old.bytes) c.args.old.front) c.args.place c.args.choices.now in
    let new : InFlight =
    entering (fronted (entered_as c.args.place.family c.args.new.bytes) c.args.new.front) c.args.place c.args.choices.now in
    (late_enters inside.passed t c.self.invariant old new c.enter.new.self room behind c.enter.result c.enter.ensures).1

pub returns-then-self-len : goal.returns-then-self-len
returns-then-self-len c =
    let inside = c.self.inside in
    let t : Transition = transition_value inside.added.items inside.removed.items inside.done inside.early inside.packets in
    let behind : length inside.added.items < inside.done = omega (arith, c.if-self-len.true) in
    let room : length t.packets.packets + 1 < 2 ^ 32 =
    subst (λ (u : Transition). length u.packets.packets + 1 < 2 ^ 32) (sym c.self.view_is) c.requires.few in
    let old : InFlight =
    entering (fronted (entered_as c.args.place.family c.args.old.bytes) c.args.old.front) c.args.place c.args.choices.now in
    let new : InFlight =
    entering (fronted (entered_as c.args.place.family c.args.new.bytes) c.args.new.front) c.args.place c.args.choices.now in
    subst (λ (u : Transition). EntersAs u old new c.enter.result (record t { packets = c.enter.new.self })) c.self.view_is
    (late_enters inside.passed t c.self.invariant old new c.enter.new.self room behind c.enter.result c.enter.ensures).0

pub invariant_of-self-in-Ok : goal.invariant_of-self-in-Ok
invariant_of-self-in-Ok c =
    let inside = c.self.inside in
    let t : Transition = transition_value inside.added.items inside.removed.items inside.done inside.early inside.packets in
    let before : inside.done ≤ length inside.added.items = omega (arith, c.if-self-len.false) in
    let room : length t.packets.packets + 1 < 2 ^ 32 =
    subst (λ (u : Transition). length u.packets.packets + 1 < 2 ^ 32) (sym c.self.view_is) c.requires.few in
    let old : InFlight =
    entering (fronted (entered_as c.args.place.family c.args.old.bytes) c.args.old.front) c.args.place c.args.choices.now in
    let new : InFlight =
    entering (fronted (entered_as c.args.place.family c.args.new.bytes) c.args.new.front) c.args.place c.args.choices.now in
    (early_enters inside.passed t c.self.invariant old new c.enter-2.new.self room before c.in-Ok.number c.in-Ok.ensures).1

pub returns-in-Ok : goal.returns-in-Ok
returns-in-Ok c =
    let inside = c.self.inside in
    let t : Transition = transition_value inside.added.items inside.removed.items inside.done inside.early inside.packets in
    let before : inside.done ≤ length inside.added.items = omega (arith, c.if-self-len.false) in
    let room : length t.packets.packets + 1 < 2 ^ 32 =
    subst (λ (u : Transition). length u.packets.packets + 1 < 2 ^ 32) (sym c.self.view_is) c.requires.few in
    let old : InFlight =
    entering (fronted (entered_as c.args.place.family c.args.old.bytes) c.args.old.front) c.args.place c.args.choices.now in
    let new : InFlight =
    entering (fronted (entered_as c.args.place.family c.args.new.bytes) c.args.new.front) c.args.place c.args.choices.now in
    subst (λ (u : Transition). EntersAs u old new (Ok c.in-Ok.number)
    (record t { early = c.in-Ok.number; packets = c.enter-2.new.self })) c.self.view_is
    (early_enters inside.passed t c.self.invariant old new c.enter-2.new.self room before c.in-Ok.number c.in-Ok.ensures).0

pub invariant_of-self-in-Err : goal.invariant_of-self-in-Err
invariant_of-self-in-Err c =
    let inside = c.self.inside in
    let t : Transition = transition_value inside.added.items inside.removed.items inside.done inside.early inside.packets in
    let room : length t.packets.packets + 1 < 2 ^ 32 =
    subst (λ (u : Transition). length u.packets.packets + 1 < 2 ^ 32) (sym c.self.view_is) c.requires.few in
    let old : InFlight =
    entering (fronted (entered_as c.args.place.family c.args.old.bytes) c.args.old.front) c.args.place c.args.choices.now in
    let new : InFlight =
    entering (fronted (entered_as c.args.place.family c.args.new.bytes) c.args.new.front) c.args.place c.args.choices.now in
    (early_kept inside.passed t c.self.invariant old new c.enter-2.new.self room c.in-Err.why c.in-Err.ensures).1

pub returns : goal.returns
returns c =
    let inside = c.self.inside in
    let t : Transition = transition_value inside.added.items inside.removed.items inside.done inside.early inside.packets in
    let room : length t.packets.packets + 1 < 2 ^ 32 =
    subst (λ (u : Transition). length u.packets.packets + 1 < 2 ^ 32) (sym c.self.view_is) c.requires.few in
    let old : InFlight =
    entering (fronted (entered_as c.args.place.family c.args.old.bytes) c.args.old.front) c.args.place c.args.choices.now in
    let new : InFlight =
    entering (fronted (entered_as c.args.place.family c.args.new.bytes) c.args.new.front) c.args.place c.args.choices.now in
    subst (λ (u : Transition). record t { packets = c.enter-2.new.self } ≡ u) c.self.view_is
    (early_kept inside.passed t c.self.invariant old new c.enter-2.new.self room c.in-Err.why c.in-Err.ensures).0
