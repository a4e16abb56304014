use Rattle.tunnel_stages_theory.proofs.TunnelStageDepths.{depth_stage, depth_walk}
use Rattle.tunnel_stages_theory.proofs.tunnel_stage_laws.a_depth_is_the_packets_below.Goals as goal

pub returns : goal.returns
returns c = record { stage = depth_stage; walk = depth_walk }
