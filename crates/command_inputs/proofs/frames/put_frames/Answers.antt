use Rattle.std.proofs.Common.{refl, ◌∙◌}
use Rattle.std.proofs.lemmas.Result.{err_from_is_err_and}
use Rattle.command_inputs.proofs.FrameLoops.{none_put, put_one, put_cut, put_in_part}
use Rattle.command_inputs.proofs.frames.put_frames.Goals as goal

pub frames-init : goal.frames-init
frames-init g c = record {
  ready = c.requires;
  same = refl;
  put = none_put (g.P.Puts.pieces c.args.puts.now) (g.N.Frames.seen c.args.frames.now) _;
}

pub frames-preserved : goal.frames-preserved
frames-preserved g c = record {
  ready = c.in_ok-put_at_hand-in-Frame.ensures.ready;
  same = c.in_ok-put_at_hand-in-Frame.ensures.same ∙ c.frames.invariant.same;
  put = put_one (g.P.Puts.pieces c.args.puts.now) _ _ _ _ _ _ c.frames.invariant.put
      (rw c.in-Frame.is at c.in_ok-next.ensures) (rw c.frames.invariant.same at c.in_ok-put_at_hand-in-Frame.ensures.wrote);
}

pub returns-in_err-put_at_hand-in-Frame-clause-wrote : goal.returns-in_err-put_at_hand-in-Frame-clause-wrote
returns-in_err-put_at_hand-in-Frame-clause-wrote g c =
    let p = err_from_is_err_and c.from_residual-in_err-put_at_hand-in-Frame.result
    c.from_residual-in_err-put_at_hand-in-Frame.ensures.1 in
    rw (p.1, p.2) (put_cut (g.P.Puts.pieces c.args.puts.now) _ _ _ _ _ _ c.frames.invariant.put
    (rw c.in-Frame.is at c.in_ok-next.ensures) c.in_err-put_at_hand-in-Frame.field-0.0
    (rw c.frames.invariant.same at c.in_err-put_at_hand-in-Frame.ensures.wrote))

pub returns-in_err-next-clause-wrote : goal.returns-in_err-next-clause-wrote
returns-in_err-next-clause-wrote g c =
    let p = err_from_is_err_and c.from_residual.result c.from_residual.ensures.1 in
    rw (p.1, p.2) (put_in_part (g.P.Puts.pieces c.args.puts.now) _ _ _ _ c.frames.invariant.put)
