use Rattle.srv6_rules.proofs.AreaItems.{tlv_hmac, tlv_bad, tlv_pad1, tlv_skipped}
use Rattle.srv6_rules.proofs.area_laws.segment_routing_items_are_judged_by_type_and_length.Goals as goal

pub returns-clause-hmac : goal.returns-clause-hmac
returns-clause-hmac c = tlv_hmac

pub returns-clause-bad : goal.returns-clause-bad
returns-clause-bad c = tlv_bad

pub returns-clause-pad1 : goal.returns-clause-pad1
returns-clause-pad1 c = tlv_pad1

pub returns-clause-skipped : goal.returns-clause-skipped
returns-clause-skipped c = tlv_skipped
