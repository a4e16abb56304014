use Rattle.std.proofs.Common.{◌≡◌, ◌+◌, length, drop, Some, refl, sym, ap, ◌∙◌}
use Rattle.std.proofs.lemmas.Bool.{iff_false}
use Rattle.pcapng_io.specs.Taking.{NgSeen}
use Rattle.pcapng_io.specs.Passing.{place_of}
use Rattle.pcapng_io.proofs.NgPassed.{none_from, refused_met}
use Rattle.pcapng_io.proofs.reader.NgReader.take.Goals as goal

pub returns-else-is_want-clause-takes : goal.returns-else-is_want-clause-takes
returns-else-is_want-clause-takes c =
    let inside = c.self.inside in
    let input = inside.input.items in
    let value = c.as_slice.ensures.value in
    let last = c.next_frame-taken.new.cursor in
    let news = c.next_frame-taken.new.described.items in
    let seen : NgSeen = record {
      fed = inside.gone + length input;
      rest = drop inside.cursor.at input;
      place = place_of inside.cursor inside.described.items;
      fault = inside.fault;
    } in
    let new : NgSeen = record {
      fed = inside.gone + length input;
      rest = drop last.at input;
      place = place_of last news;
      fault = Some c.in-Err.fault;
    } in
    let view : c.args.self.now ≡ seen = cc in
    refused_met c.args.self.now new c.as_slice.result.now inside.cursor last inside.described.items news c.in-Err.fault
    (ap (λ (r : NgSeen). r.fault) view ∙ none_from inside.fault c.in_default.not-Some)
    (ap (λ (r : NgSeen). r.place) view)
    (ap (λ (r : NgSeen). r.rest) view ∙ ap (drop inside.cursor.at) (sym value))
    (sym (ap (λ (r : NgSeen). r.fed) view))
    refl
    (iff_false c.is_want.ensures c.if-is_want.false)
    c.in-Err.ensures.passed
