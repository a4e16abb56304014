use Rattle.std.proofs.Common.{refl}
use Rattle.pcapng_theory.specs.NgEndings.{BadBlock, BadMagic, BadVersion, Cut, EndOfBytes, NoInterface, ObsoleteBlock, TooManyPackets}
use Rattle.pcapng_theory.proofs.Refusals.{told_so, told_at}
use Rattle.pcapng_theory.proofs.laws.refusals_are_those_of_the_grammar.Goals as goal

pub returns-clause-block : goal.returns-clause-block
returns-clause-block c = λ bytes n all. told_so bytes n BadBlock (λ b is. cc) all

pub returns-clause-magic : goal.returns-clause-magic
returns-clause-magic c = λ bytes n all. told_so bytes n BadMagic (λ b is. cc) all

pub returns-clause-version : goal.returns-clause-version
returns-clause-version c = λ bytes n all. told_so bytes n BadVersion (λ b is. cc) all

pub returns-clause-interface : goal.returns-clause-interface
returns-clause-interface c = λ bytes n all. told_so bytes n NoInterface (λ b is. cc) all

pub returns-clause-cut : goal.returns-clause-cut
returns-clause-cut c = λ bytes n all. told_so bytes n Cut (λ b is. cc) all

pub returns-clause-obsolete : goal.returns-clause-obsolete
returns-clause-obsolete c = λ bytes n all. told_so bytes n ObsoleteBlock (λ b is. cc) all

pub returns-clause-limit : goal.returns-clause-limit
returns-clause-limit c = λ bytes all. told_at bytes TooManyPackets (λ b. refl) all

pub returns-clause-whole : goal.returns-clause-whole
returns-clause-whole c = λ bytes all. told_at bytes EndOfBytes (λ b. refl) all
