use Rattle.std.proofs.Common.{◌≡◌, length}
use Rattle.command_output.specs.GatheredTerms.{pooled}
use Rattle.command_inputs.proofs.FrameLoops.{FramesPut}
use Rattle.command_inputs.proofs.frames.put_frames.Given as goal

abbrev pub invariant-frames : goal.invariant-frames
invariant-frames g l = record {
  ready : g.P.Puts.ready l.puts;
  same : g.P.Puts.pieces l.puts ≡ g.P.Puts.pieces l.fn.puts;
  put : FramesPut (g.P.Puts.pieces l.fn.puts) (g.N.Frames.seen l.fn.frames) (g.N.Frames.seen l.frames)
      (pooled l.fn.pool (g.O.Sink.seen l.fn.out) (g.E.Sink.seen l.fn.err)) (pooled l.pool (g.O.Sink.seen l.out) (g.E.Sink.seen l.err));
}

abbrev pub decreases-frames : goal.decreases-frames
decreases-frames g l = length (g.N.Frames.seen l.frames).frames
