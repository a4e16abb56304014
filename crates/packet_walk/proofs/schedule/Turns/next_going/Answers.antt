use Rattle.std.proofs.Common.{◌+◌, arith}
use Rattle.packet_walk.specs.ScheduleTerms.{Progress, progress}
use Rattle.packet_walk.proofs.Due.{no_turn, going_next}
use Rattle.packet_walk.proofs.schedule.Turns.next_going.Goals as goal

pub returns-in-None : goal.returns-in-None
returns-in-None c =
    let t = c.packets.self-inside in
    let new : Progress = progress t.schedule.now t.numbers.now t.passed in
    let i = c.packets.invariant in
    let within = c.packets-test.true in
    let count = c.count.ensures in
    going_next c.args.flight.now c.args.self.now new i.later c.requires.behind i.numbers i.behind (t.passed + 1) (omega arith)
    (omega (arith, within, count)) c.in-None.ensures c.keeps_rules.ensures.packet

pub returns : goal.returns
returns c =
    let t = c.packets.self-inside in
    let new : Progress = progress t.schedule.now t.numbers.now t.passed in
    let i = c.packets.invariant in
    let over = c.packets-test.false in
    let count = c.count.ensures in
    no_turn c.args.flight.now c.args.self.now new i.later c.requires.behind i.numbers (omega (arith, over, count))
