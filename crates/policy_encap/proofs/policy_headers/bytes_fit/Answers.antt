use Rattle.std.proofs.Common.{◌^◌, ◌<◌, w8}
use Rattle.std.proofs.Math.Facts.{Fits-lt-pow}
use Rattle.std.proofs.lemmas.List.Elements.{All-from_get_or}
use Rattle.policy_encap.proofs.policy_headers.bytes_fit.Goals as goal

pub returns : goal.returns
returns c = All-from_get_or (λ b. b < 2 ^ 8) c.args.bytes.now 0 (λ k within. Fits-lt-pow {w = w8} (c.type_inv.bytes k))
