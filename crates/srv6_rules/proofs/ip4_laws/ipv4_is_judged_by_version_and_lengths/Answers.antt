use Rattle.std.proofs.Common.{refl}
use Rattle.srv6_rules.proofs.Packets4.{read4_cut, read4_header, read4_short, read4_total, read4_version, read4_whole}
use Rattle.srv6_rules.proofs.ip4_laws.ipv4_is_judged_by_version_and_lengths.Goals as goal

pub returns-clause-none : goal.returns-clause-none
returns-clause-none c = refl

pub returns-clause-version : goal.returns-clause-version
returns-clause-version c = read4_version

pub returns-clause-short : goal.returns-clause-short
returns-clause-short c = read4_short

pub returns-clause-header : goal.returns-clause-header
returns-clause-header c = read4_header

pub returns-clause-total : goal.returns-clause-total
returns-clause-total c = read4_total

pub returns-clause-cut : goal.returns-clause-cut
returns-clause-cut c = read4_cut

pub returns-clause-whole : goal.returns-clause-whole
returns-clause-whole c = read4_whole
