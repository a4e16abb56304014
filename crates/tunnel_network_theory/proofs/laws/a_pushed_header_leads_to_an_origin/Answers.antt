use Rattle.tunnel_network_theory.proofs.NetworkStarts.{policy_head, tunnel_origins}
use Rattle.tunnel_network_theory.proofs.laws.a_pushed_header_leads_to_an_origin.Goals as goal

pub returns-clause-origins : goal.returns-clause-origins
returns-clause-origins c net limit ts place new e keeps is_head is stands h =
    tunnel_origins net keeps limit ts place new e is_head is stands h

pub returns-clause-head : goal.returns-clause-head
returns-clause-head c = policy_head
