use Rattle.std.proofs.Common.{◌≡◌, ◌-◌, length, slice_get, slice_set, Some, refl, sym, ap, ◌∙◌, subst, arith}
use Rattle.std.proofs.lemmas.List.{length-set}
use Rattle.std.proofs.lemmas.Option.{slice_get_read}
use Rattle.command_output.specs.CommandAnswers.{ending_of_step}
use Rattle.std.specs.Vec.{with_item}
use Rattle.pcap_io.specs.declared.frame.Body.{Body}
use Rattle.pcap_io.specs.declared.frame.Frame.{Frame}
use Rattle.update_driver.specs.declared.moving.Moving as code
use Rattle.update_driver.specs.declared.seat.Seat.{Seat}
use Rattle.update_driver.specs.declared.seat.Seat.TheVariants as seats
use Rattle.update_driver.specs.Going.{IsMoving, StandsOn, coming_in, moving_of}
use Rattle.update_driver.specs.Moving.{Sides, after_staying, first_member, sides_by}
use Rattle.update_driver.proofs.EventComing.{ok_both}
use Rattle.update_driver.proofs.EventPackets.{coming_on, coming_went, get_same, gone_on, gone_went, none_went}
use Rattle.update_driver.proofs.Seats.{gone_one, moving_stayed}
use Rattle.update_driver.proofs.moving.Moving.put_packet.Goals as goal

pub returns-then-at-len-clause-wrote : goal.returns-then-at-len-clause-wrote
returns-then-at-len-clause-wrote g c =
    let sides : Sides = sides_by (g.W.Enters.entry c.args.sides.now.old) (g.W.Enters.entry c.args.sides.now.new) in
    let past = c.if-at-len.true in
    let len = c.len.ensures in
    let ok = c.args.self.now.seats.ok in
    let n : c.len.result ≡ length c.args.self.now.seats.items = cc in
    none_went sides c.args.self.now c.args.number c.requires.number (omega (arith, past, n)) _

pub put_coming-requires-clause-going : goal.put_coming-requires-clause-going
put_coming-requires-clause-going g c =
    let sides : Sides = sides_by (g.W.Enters.entry c.args.sides.now.old) (g.W.Enters.entry c.args.sides.now.new) in
    subst (λ (s : Seat). IsMoving c.args.self.now.net.now sides
    (record (moving_of c.args.self.now) { seats = slice_set c.args.self.now.seats.items (c.args.number - 1) s })
    × (c.args.self.now.choices.now ≡ first_member)) (sym c.replace.ensures.after)
    (moving_stayed c.args.self.now.net.now sides (moving_of c.args.self.now) c.requires.going.0 (c.args.number - 1), c.requires.going.1)

pub put_coming-requires-clause-there : goal.put_coming-requires-clause-there
put_coming-requires-clause-there g c =
    let within = c.if-at-len.false in
    let len = c.len.ensures in
    let ok = c.args.self.now.seats.ok in
    let n : c.len.result ≡ length c.args.self.now.seats.items = cc in
    subst (λ (f : Frame). slice_get (slice_set c.args.self.now.seats.items (c.args.number - 1) c.replace.new.dest) (f.number - 1)
    ≡ Some seats.Gone) (sym c.new-frame.ensures)
    (get_same c.args.self.now.seats.items (c.args.number - 1) c.replace.new.dest (omega (arith, within, n))
    ∙ ap (λ (s : Seat). Some s) c.replace.ensures.after)

pub put_coming-requires-clause-few : goal.put_coming-requires-clause-few
put_coming-requires-clause-few g c =
    let len = c.len.ensures in
    let ok = c.args.self.now.seats.ok in
    let n : c.len.result ≡ length c.args.self.now.seats.items = cc in
    let there : slice_get c.args.self.now.seats.items (c.args.number - 1) ≡ Some c.index_mut.result.now =
    slice_get_read c.args.self.now.seats.items c.len.result (c.args.number - 1) c.index_mut.result.now n c.if-at-len.false
    c.index_mut.ensures.value in
    let one = gone_one c.args.self.now.seats.items (c.args.number - 1) 0 c.index_mut.result.now there
    (ap (λ (s : Seat). coming_in s) (sym (c.in-ToCome.ensures).value)) in
    let few = c.requires.going.0.few in
    rw c.replace.ensures.after (omega (arith, one, few))

pub returns-in-ToCome-clause-after : goal.returns-in-ToCome-clause-after
returns-in-ToCome-clause-after g c =
    let sides : Sides = sides_by (g.W.Enters.entry c.args.sides.now.old) (g.W.Enters.entry c.args.sides.now.new) in
    let len = c.len.ensures in
    let ok = c.args.self.now.seats.ok in
    let n : c.len.result ≡ length c.args.self.now.seats.items = cc in
    let there : slice_get c.args.self.now.seats.items (c.args.number - 1) ≡ Some c.index_mut.result.now =
    slice_get_read c.args.self.now.seats.items c.len.result (c.args.number - 1) c.index_mut.result.now n c.if-at-len.false
    c.index_mut.ensures.value in
    let mid : code.Moving = record {
      net = c.args.self.now.net;
      choices = c.args.self.now.choices;
      update = c.args.self.now.update;
      seats = with_item c.args.self.now.seats (c.args.number - 1) c.replace.new.dest;
      numbers = c.args.self.now.numbers;
      line = c.args.self.now.line;
    } in
    let same_number : c.new-frame.result.number ≡ c.args.number = ap (λ (f : Frame). f.number) c.new-frame.ensures in
    let same-body : c.new-frame.result.body ≡ c.in-ToCome.body = ap (λ (f : Frame). f.body) c.new-frame.ensures ∙ c.lent.ensures in
    let comes : slice_get c.args.self.now.seats.items (c.args.number - 1) ≡ Some (seats.ToCome c.new-frame.result.body) =
    there ∙ ap (λ (s : Seat). Some s) (sym (c.in-ToCome.ensures).value ∙ ap (λ (b : Body). seats.ToCome b) (sym same-body)) in
    let is : moving_of mid ≡ after_staying (c.args.number - 1) (moving_of c.args.self.now) =
    ap (λ (s : Seat). record (moving_of c.args.self.now) { seats = slice_set c.args.self.now.seats.items (c.args.number - 1) s })
    c.replace.ensures.after in
    let stands : StandsOn c.args.self.now mid = record {
      net = refl;
      choices = refl;
      seats = length-set c.args.self.now.seats.items (c.args.number - 1) c.replace.new.dest;
    } in
    ok_both c.put_coming.result _ _ _ (λ h u. coming_on sides c.args.self.now c.args.number c.requires.number mid c.put_coming.new.self
    c.new-frame.result.body c.new-frame.result.number same_number comes stands is h) c.put_coming.ensures.after c.put_coming.ensures.after

pub returns-in-ToCome-clause-wrote : goal.returns-in-ToCome-clause-wrote
returns-in-ToCome-clause-wrote g c =
    let sides : Sides = sides_by (g.W.Enters.entry c.args.sides.now.old) (g.W.Enters.entry c.args.sides.now.new) in
    let len = c.len.ensures in
    let ok = c.args.self.now.seats.ok in
    let n : c.len.result ≡ length c.args.self.now.seats.items = cc in
    let there : slice_get c.args.self.now.seats.items (c.args.number - 1) ≡ Some c.index_mut.result.now =
    slice_get_read c.args.self.now.seats.items c.len.result (c.args.number - 1) c.index_mut.result.now n c.if-at-len.false
    c.index_mut.ensures.value in
    let mid : code.Moving = record {
      net = c.args.self.now.net;
      choices = c.args.self.now.choices;
      update = c.args.self.now.update;
      seats = with_item c.args.self.now.seats (c.args.number - 1) c.replace.new.dest;
      numbers = c.args.self.now.numbers;
      line = c.args.self.now.line;
    } in
    let same_number : c.new-frame.result.number ≡ c.args.number = ap (λ (f : Frame). f.number) c.new-frame.ensures in
    let same-body : c.new-frame.result.body ≡ c.in-ToCome.body = ap (λ (f : Frame). f.body) c.new-frame.ensures ∙ c.lent.ensures in
    let comes : slice_get c.args.self.now.seats.items (c.args.number - 1) ≡ Some (seats.ToCome c.new-frame.result.body) =
    there ∙ ap (λ (s : Seat). Some s) (sym (c.in-ToCome.ensures).value ∙ ap (λ (b : Body). seats.ToCome b) (sym same-body)) in
    let is : moving_of mid ≡ after_staying (c.args.number - 1) (moving_of c.args.self.now) =
    ap (λ (s : Seat). record (moving_of c.args.self.now) { seats = slice_set c.args.self.now.seats.items (c.args.number - 1) s })
    c.replace.ensures.after in
    let stands : StandsOn c.args.self.now mid = record {
      net = refl;
      choices = refl;
      seats = length-set c.args.self.now.seats.items (c.args.number - 1) c.replace.new.dest;
    } in
    coming_went sides c.args.self.now c.args.number c.requires.number mid c.put_coming.new.self
    c.new-frame.result.body c.new-frame.result.number same_number comes stands is (ending_of_step c.put_coming.result) _ _
    c.put_coming.ensures.wrote

pub returns-in-Gone-clause-after : goal.returns-in-Gone-clause-after
returns-in-Gone-clause-after g c =
    let sides : Sides = sides_by (g.W.Enters.entry c.args.sides.now.old) (g.W.Enters.entry c.args.sides.now.new) in
    let len = c.len.ensures in
    let ok = c.args.self.now.seats.ok in
    let n : c.len.result ≡ length c.args.self.now.seats.items = cc in
    let there : slice_get c.args.self.now.seats.items (c.args.number - 1) ≡ Some c.index_mut.result.now =
    slice_get_read c.args.self.now.seats.items c.len.result (c.args.number - 1) c.index_mut.result.now n c.if-at-len.false
    c.index_mut.ensures.value in
    gone_on sides c.args.self.now c.args.number c.requires.number _
    (there ∙ ap (λ (s : Seat). Some s) (sym c.replace.ensures.value ∙ c.in-Gone.is))
    (record { net = refl; choices = refl; seats = length-set c.args.self.now.seats.items (c.args.number - 1) c.replace.new.dest })
    (ap (λ (s : Seat). record (moving_of c.args.self.now) { seats = slice_set c.args.self.now.seats.items (c.args.number - 1) s })
    c.replace.ensures.after) c.requires.going

pub returns-in-Gone-clause-wrote : goal.returns-in-Gone-clause-wrote
returns-in-Gone-clause-wrote g c =
    let sides : Sides = sides_by (g.W.Enters.entry c.args.sides.now.old) (g.W.Enters.entry c.args.sides.now.new) in
    let len = c.len.ensures in
    let ok = c.args.self.now.seats.ok in
    let n : c.len.result ≡ length c.args.self.now.seats.items = cc in
    let there : slice_get c.args.self.now.seats.items (c.args.number - 1) ≡ Some c.index_mut.result.now =
    slice_get_read c.args.self.now.seats.items c.len.result (c.args.number - 1) c.index_mut.result.now n c.if-at-len.false
    c.index_mut.ensures.value in
    gone_went sides c.args.self.now c.args.number c.requires.number c.args.self.now
    (there ∙ ap (λ (s : Seat). Some s) (sym c.replace.ensures.value ∙ c.in-Gone.is)) _
