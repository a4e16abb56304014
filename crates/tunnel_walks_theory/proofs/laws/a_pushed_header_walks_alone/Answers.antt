use Rattle.tunnel_walks_theory.proofs.Tunnels.{behind}
use Rattle.tunnel_walks_theory.proofs.laws.a_pushed_header_walks_alone.Goals as goal

pub returns : goal.returns
returns g c = behind
