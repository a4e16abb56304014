use Rattle.update_flight.proofs.Planned.{ends_new, passes_over, starts_old}
use Rattle.update_flight.proofs.laws.planned_tables_pass_over.Goals as goal

pub returns : goal.returns
returns c =
    record {
      pass = λ old new tables rules accepted shows. passes_over old new tables rules accepted shows;
      old = λ old new tables node table family a whole shows. starts_old old new tables node table family a whole shows;
      new = λ old new tables node table family a rules new_rules whole accepted shows.
          ends_new old new tables node table family a rules new_rules whole accepted shows;
    }
