use Rattle.std.proofs.Common.{refl, sym}
use Rattle.srv6_rules.specs.Areas.{Fault}
use Rattle.srv6_rules.specs.Chain.{Header}
use Rattle.srv6_rules.proofs.PublicLaws.{options_passed, options_refused}
use Rattle.ip6_headers.specs.Items.{fault_of}
use Rattle.ip6_headers.specs.ChainStepping.{header_at}
use Rattle.endpoint_chain.proofs.passed_headers.header_fault.Goals as goal

pub returns-in-Ok : goal.returns-in-Ok
returns-in-Ok c =
    let h : Header = header_at c.args.place c.args.header.now in
    λ route. options_passed route h c.if-place-eq-DESTINATION_OPTIONS.true (sym (c.in-Ok.ensures h refl refl))

pub returns-in-Err : goal.returns-in-Err
returns-in-Err c =
    let h : Header = header_at c.args.place c.args.header.now in
    let fault : Fault = fault_of c.in-Err.fault in
    λ route rest. options_refused route h fault rest c.if-place-eq-DESTINATION_OPTIONS.true (sym (c.in-Err.ensures h refl refl))
