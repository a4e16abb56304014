use Rattle.sid_list_theory.proofs.Alongs.{along_exposes, along_before, along_exposed_plain, along_plain, along_packed}
use Rattle.sid_list_theory.proofs.laws.packet_is_exposed_in_the_last_container.Goals as goal

pub returns : goal.returns
returns c = record {
  only = along_exposes;
  before = along_before;
  plain = along_exposed_plain;
  plain_either = along_plain;
  packed = along_packed;
}
