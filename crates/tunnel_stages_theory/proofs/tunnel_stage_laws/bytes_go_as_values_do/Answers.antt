use Rattle.tunnel_stages_theory.proofs.Values.{as_values}
use Rattle.tunnel_stages_theory.proofs.tunnel_stage_laws.bytes_go_as_values_do.Goals as goal

pub returns : goal.returns
returns c =
    record {
      gives = λ net place content below choice keeps layers ok further fits.
          (as_values net place content below choice keeps layers ok further fits).0;
      layers = λ net place content below choice keeps layers ok further fits.
          (as_values net place content below choice keeps layers ok further fits).1;
    }
