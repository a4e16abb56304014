use Rattle.std.proofs.Common.{refl}
use Rattle.srv6_rules.proofs.Encapsulations.{length_outer}
use Rattle.srv6_rules.proofs.EncapsulationForms.{header_bytes_more, header_bytes_reduced, length_at_segment}
use Rattle.srv6_rules.proofs.encapsulation_laws.headers_have_their_bytes.Goals as goal

pub returns-clause-length : goal.returns-clause-length
returns-clause-length c = length_at_segment

pub returns-clause-payload : goal.returns-clause-payload
returns-clause-payload c = length_outer

pub returns-clause-full : goal.returns-clause-full
returns-clause-full c = λ n. refl

pub returns-clause-one : goal.returns-clause-one
returns-clause-one c = refl

pub returns-clause-reduced : goal.returns-clause-reduced
returns-clause-reduced c = header_bytes_reduced

pub returns-clause-more : goal.returns-clause-more
returns-clause-more c = header_bytes_more
