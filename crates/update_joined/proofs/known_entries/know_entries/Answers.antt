use Rattle.std.proofs.Common.{All, ap, ◌∙◌, subst}
use Rattle.std.specs.List.{filter}
use Rattle.update_joined.specs.PrefixKeys.{is_titled, IsIndexed}
use Rattle.update_joined.proofs.known_entries.know_entries.Goals as goal

pub returns-clause-known : goal.returns-clause-known
returns-clause-known c = record {
  titled = c.in_ok-titled.ensures ∙ ap (filter is_titled) c.as_slice.ensures.value;
  indexed = subst (All (IsIndexed c.in_ok-index.index)) c.as_slice-2.ensures.value c.in_ok-index.ensures;
}
