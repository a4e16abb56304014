use Rattle.std.proofs.Common.{◌∙◌, arith}
use Rattle.v6_addr.proofs.AddressReading.{prefix_without_slash, prefix_without_address, prefix_without_length, prefix_made}
use Rattle.v6_addr.proofs.text.read_prefix.Goals as goal

pub returns-in_err-slash : goal.returns-in_err-slash
returns-in_err-slash c = c.from_residual.ensures ∙ prefix_without_slash _ c.in_err-slash.ensures.value

pub returns-in_err-value : goal.returns-in_err-value
returns-in_err-value c =
    c.from_residual-in_err-value.ensures ∙ prefix_without_address _ _ _ c.in_ok-slash.ensures.value c.split_at.ensures.front
    c.in_err-value.ensures

pub returns-in_err-len : goal.returns-in_err-len
returns-in_err-len c =
    c.from_residual-in_err-len.ensures ∙ prefix_without_length _ _ _ c.in_ok-slash.ensures.value c.split_at-2.ensures.back
    c.in_err-len.ensures.value

pub returns : goal.returns
returns c =
    prefix_made _ _ _ _ _ _ c.new.result c.in_ok-slash.ensures.value c.split_at.ensures.front c.split_at-2.ensures.back
    c.in_ok-value.ensures c.in_ok-len.ensures.value
    c.new.ensures.is_prefix c.new.ensures.value (omega arith) c.in_ok-len.ensures.bound
