-- Need not be believed: helps proofs and other laws.
-- Terms beside those of `specs/Sources.antt`.
use Rattle.std.specs.Prelude.{◌≡◌, ℕ, ◌+◌, ◌<◌, ◌≤◌, length, IfSome, Result, Ok, Err}
use Rattle.std.specs.Global.{Vec}
use Rattle.srx_edge.specs.declared.input.Failed.{Failed}
use Rattle.srx_edge.specs.declared.input.DrawFault.{DrawFault}
use Rattle.srx_edge.specs.declared.input.DrawFault.TheVariants as draws
use Rattle.srx_edge.specs.Sources.{SourceSeen, failed, drained, taken, DrawnUpTo}

-- `draw` gives all that was left, or one read failed, and no call came after it, or there is more than the limit, and one
-- byte more was taken, or memory was wanting
abbrev pub Draws : ℕ → Result (Vec ℕ) DrawFault → SourceSeen → SourceSeen → Type 0
Draws limit (Ok bytes) old new = (length bytes.items ≤ limit) × IfSome old.left (λ input. bytes.items ≡ input) × (new ≡ drained old)
Draws limit (Err draws.Failed) old new = DrawnUpTo limit failed old new
Draws limit (Err (draws.TooBig most)) old new =
    (most ≡ limit) × IfSome old.left (λ input. limit < length input) × (new ≡ taken (limit + 1) old)
Draws limit (Err draws.NoMemory) old new = DrawnUpTo limit (λ source. source) old new
