use Rattle.net_model.proofs.EntryLemmas.{entry_means, entry_shown, entry_is_there}
use Rattle.net_model.proofs.laws.entries_are_its_own.Goals as goal

pub returns : goal.returns
returns c = λ net node table family e. (
  λ c. (entry_means net node table family e c, entry_shown net node table family e c),
  λ is. entry_is_there net node table family e.prefix e.hit is.0 is.1,
)
