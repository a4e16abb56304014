use Rattle.tunnel_stages_theory.proofs.Alone.{alone_stage, alone_walk}
use Rattle.tunnel_stages_theory.proofs.tunnel_stage_laws.without_binding_sids_nothing_is_below.Goals as goal

pub returns : goal.returns
returns c = record { stage = alone_stage; walk = alone_walk }
