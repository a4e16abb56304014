use Rattle.srv6_rules.proofs.PacketContents.{entered_is_content, entered_back}
use Rattle.srv6_rules.proofs.packet_laws.what_enters_is_a_content.Goals as goal

pub returns-clause-content : goal.returns-clause-content
returns-clause-content c = entered_is_content

pub returns-clause-back : goal.returns-clause-back
returns-clause-back c = entered_back
