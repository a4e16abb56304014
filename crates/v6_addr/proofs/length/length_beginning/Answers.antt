use Rattle.std.proofs.Common.{None, Some, refl, sym, ap, arith}
use Rattle.std.specs.Prelude.{option_map}
use Rattle.v6_addr.specs.AddressFaults.{Begins}
use Rattle.v6_addr.specs.LengthsTerms.{length_step, IsLengthOf}
use Rattle.v6_addr.specs.Scan.{walked}
use Rattle.v6_addr.proofs.LengthWalks.{lengths_reach}
use Rattle.v6_addr.proofs.AddressWalks.{stopped_at, walked_all, walked_more}
use Rattle.v6_addr.proofs.length.length_beginning.Goals as goal

pub loop-i-init : goal.loop-i-init
unfolding walked
loop-i-init c = record { here = refl; bound = tt }

pub returns-in-None : goal.returns-in-None
returns-in-None c =
    stopped_at (Begins (IsLengthOf c.args.limit c.args.value)) (length_step c.args.limit c.args.value) None c.loop-i.number c.args.text.now
    c.loop-i.i (lengths_reach c.args.limit c.args.value c.requires.limit c.requires.fits) (omega arith) c.loop-i.invariant.here
    (ap (option_map Some) (sym c.in-None.ensures.value))

pub loop-i-preserved : goal.loop-i-preserved
loop-i-preserved c = record {
  here = walked_more (length_step c.args.limit c.args.value) None c.loop-i.number (Some c.in-Some.n) c.args.text.now c.loop-i.i
      (omega arith) c.loop-i.invariant.here (ap (option_map Some) (sym c.in-Some.ensures.value));
  bound = c.in-Some.ensures.bound;
}

pub returns : goal.returns
returns c =
    walked_all (Begins (IsLengthOf c.args.limit c.args.value)) (length_step c.args.limit c.args.value) None c.loop-i.number
    c.args.text.now c.loop-i.i (lengths_reach c.args.limit c.args.value c.requires.limit c.requires.fits) (omega arith)
    c.loop-i.invariant.here
