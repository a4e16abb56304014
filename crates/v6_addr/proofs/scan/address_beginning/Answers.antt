use Rattle.std.proofs.Common.{refl, sym, arith}
use Rattle.v6_addr.specs.Scan.{walked}
use Rattle.v6_addr.specs.ScanTerms.{behind}
use Rattle.v6_addr.specs.AddressGrammar.{IsAddressText}
use Rattle.v6_addr.specs.AddressFaults.{Begins}
use Rattle.v6_addr.specs.declared.scan.Scanned.TheVariants.{Start}
use Rattle.v6_addr.proofs.AddressBeginnings.{addresses_reach}
use Rattle.v6_addr.proofs.AddressWalks.{stopped_at, walked_all, walked_more}
use Rattle.v6_addr.proofs.scan.address_beginning.Goals as goal

pub loop-i-init : goal.loop-i-init
unfolding walked
loop-i-init c = refl

pub returns-in-None : goal.returns-in-None
returns-in-None c =
    stopped_at (Begins IsAddressText) behind Start c.loop-i.place c.args.text.now c.loop-i.i addresses_reach (omega arith)
    c.loop-i.invariant
    (sym c.in-None.ensures)

pub loop-i-preserved : goal.loop-i-preserved
loop-i-preserved c =
    walked_more behind Start c.loop-i.place c.in-Some.after c.args.text.now c.loop-i.i (omega arith) c.loop-i.invariant
    (sym c.in-Some.ensures)

pub returns : goal.returns
returns c =
    walked_all (Begins IsAddressText) behind Start c.loop-i.place c.args.text.now c.loop-i.i addresses_reach (omega arith)
    c.loop-i.invariant
