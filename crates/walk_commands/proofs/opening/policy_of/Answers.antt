use Rattle.std.proofs.Common.{List, ap, ◌∙◌}
use Rattle.v6_addr.specs.declared.address.Addr.{Addr}
use Rattle.list_pack.specs.SidLists.{list_values}
use Rattle.walk_commands.specs.WalkCommand.{policy_of}
use Rattle.walk_commands.proofs.WalkStarts.{addresses_of}
use Rattle.walk_commands.proofs.opening.policy_of.Goals as goal

pub returns : goal.returns
returns c =
    ap (λ (segments : List Addr). record (policy_of c.args.net.now c.args.intent.now c.args.compiled.now) { segments = segments })
    (c.new.ensures ∙ addresses_of (list_values c.args.net.now c.args.compiled.now.list)
    c.in_ok-segments.segments.items c.in_ok-segments.ensures)
