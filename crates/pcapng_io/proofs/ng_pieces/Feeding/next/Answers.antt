use Rattle.std.proofs.Common.{◌∙◌, sym, subst}
use Rattle.pcapng_io.specs.NgPieces.{GivesFrame, NgComing, coming_of}
use Rattle.pcapng_io.proofs.NgPieceLemmas.{all_fed, took_frame}
use Rattle.pcapng_io.proofs.ng_pieces.Feeding.next.Goals as goal

pub returns-in-Ok-Some-clause-next : goal.returns-in-Ok-Some-clause-next
returns-in-Ok-Some-clause-next c =
    let more = c.pieces.self.more.now in
    let takes = rw c.in-Ok-Some.field-0-is at c.in-Ok-Some.ensures.takes in
    subst (λ (start : NgComing). GivesFrame start c.in-Ok-Some.frame (coming_of c.take.new.self more)) (sym c.pieces.invariant.0)
    (took_frame c.pieces.self.reader c.take.new.self c.in-Ok-Some.frame more takes c.take.ensures.few)

pub returns-then-is_empty-clause-next : goal.returns-then-is_empty-clause-next
returns-then-is_empty-clause-next c =
    let takes = rw c.in-Ok-None.field-0-is at c.in-Ok-None.ensures.takes in
    all_fed c.args.self.now.reader c.pieces.self.reader c.take.new.self c.args.self.now.more.now c.pieces.self.more.now c.end_of.result
    c.pieces.invariant.0 takes (sym c.is_empty.ensures ∙ c.if-is_empty.true) c.end_of.ensures
