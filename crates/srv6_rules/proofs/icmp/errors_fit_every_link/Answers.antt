use Rattle.srv6_rules.proofs.ErrorLaws.{error_most, error_length, quote_short}
use Rattle.srv6_rules.proofs.icmp.errors_fit_every_link.Goals as goal

pub returns-clause-most : goal.returns-clause-most
returns-clause-most c = error_most

pub returns-clause-quote : goal.returns-clause-quote
returns-clause-quote c = error_length

pub returns-clause-short : goal.returns-clause-short
returns-clause-short c = quote_short
