use Rattle.std.proofs.Common.{refl}
use Rattle.srv6_rules.proofs.Chains.{extension_kinds}
use Rattle.srv6_rules.proofs.chain_laws.extension_headers_have_their_values.Goals as goal

pub returns-clause-named : goal.returns-clause-named
returns-clause-named c = (refl, refl, refl, refl)

pub returns-clause-no_other : goal.returns-clause-no_other
returns-clause-no_other c = extension_kinds
