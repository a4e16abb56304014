use Rattle.std.proofs.Common.{sym, ap, ◌∙◌, length-append}
use Rattle.srv6_rules.proofs.PublicLaws.{length_spelling}
use Rattle.walk_rules.specs.Treatment.{mtu_of}
use Rattle.walk_rules.proofs.Judged.{step_fits, step_long, step_other}
use Rattle.walk_rules.proofs.laws.a_long_packet_is_not_sent.Goals as goal

pub returns : goal.returns
returns c =
    record {
      fits = step_fits;
      long = step_long;
      other = step_other;
      len6 = length_spelling;
      len4 = λ p ok. length-append p.header p.payload ∙ sym ok.total;
      mtu = λ net n l there. ap mtu_of there;
    }
