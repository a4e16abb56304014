use Rattle.list_encoder.proofs.SearchFronts.{none_left}
use Rattle.list_encoder.proofs.waiting.settle_first.Goals as goal

pub mark-requires : goal.mark-requires
mark-requires c = c.requires c.in-Some.next c.in-Some.ensures.member

pub returns-in-None : goal.returns-in-None
returns-in-None c = none_left c.args.queue.now.waiting c.in-None.ensures.variant.1

pub returns-in-Some : goal.returns-in-Some
returns-in-Some c = record {
  early = c.requires c.in-Some.next c.in-Some.ensures.member;
  first = c.in-Some.ensures.member;
  least = c.in-Some.ensures.least;
  update = c.in-Some.ensures.updates;
  marks = c.mark.ensures;
}
