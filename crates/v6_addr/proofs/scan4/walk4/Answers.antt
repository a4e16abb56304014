use Rattle.std.proofs.Common.{refl, sym, ◌∙◌, ap, arith, length}
use Rattle.std.proofs.lemmas.List.{take_all}
use Rattle.v6_addr.specs.AddressFaults.{Begins}
use Rattle.v6_addr.specs.Scan.{walked}
use Rattle.v6_addr.specs.Scan4.{start4, behind4}
use Rattle.v6_addr.specs.Text4Terms.{IsAddress4Text}
use Rattle.v6_addr.proofs.Places4.{addresses4_reach, start_valid, one_more4}
use Rattle.v6_addr.proofs.AddressWalks.{stopped_at, walked_all, walked_more}
use Rattle.v6_addr.proofs.scan4.walk4.Goals as goal

pub loop-i-init : goal.loop-i-init
unfolding walked
loop-i-init c = record { here = refl; valid = start_valid }

pub returns-in-None : goal.returns-in-None
returns-in-None c = record {
  place = c.loop-i.invariant.valid;
  walked = c.loop-i.invariant.here;
  longest = stopped_at (Begins IsAddress4Text) behind4 start4 c.loop-i.place c.args.text.now c.loop-i.i addresses4_reach (omega arith)
      c.loop-i.invariant.here (sym c.in-None.ensures);
}

pub loop-i-preserved : goal.loop-i-preserved
loop-i-preserved c = record {
  here = walked_more behind4 start4 c.loop-i.place c.in-Some.after c.args.text.now c.loop-i.i (omega arith) c.loop-i.invariant.here
      (sym c.in-Some.ensures);
  valid = (one_more4 c.loop-i.place c.in-Some.after _ c.loop-i.invariant.valid (sym c.in-Some.ensures)).0;
}

pub returns : goal.returns
returns c = record {
  place = c.loop-i.invariant.valid;
  walked = ap (walked behind4 start4) (take_all (length c.args.text.now) c.args.text.now (omega arith)
      ∙ sym (take_all c.loop-i.i c.args.text.now (omega arith))) ∙ c.loop-i.invariant.here;
  longest = walked_all (Begins IsAddress4Text) behind4 start4 c.loop-i.place c.args.text.now c.loop-i.i addresses4_reach (omega arith)
      c.loop-i.invariant.here;
}
