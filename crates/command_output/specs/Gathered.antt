-- What is written is gathered before it goes out: it waits in groups, and of each group what is for `out` goes out before what
-- is for `err`.
use Rattle.std.specs.Prelude.{◌≡◌, ◌≤◌, List, [], ◌∷◌, length}
use Rattle.std.specs.List.{All, flat_map}
use Rattle.command_output.specs.declared.limits.TheConstants.{MOST_WAITING}
use Rattle.command_output.specs.OutputPieces.{Piece, ForOut, ForErr, Sinks, Stop, bytes_in_order, bytes_for_out, bytes_for_err, Went}

-- a group of pieces as it goes out
abbrev pub gathered : List Piece → List Piece
gathered group = ForOut (bytes_for_out group) ∷ ForErr (bytes_for_err group) ∷ []

-- at most MOST_WAITING bytes of it are for each sink
pub record IsShort (group : List Piece) : Type 0 where
  pub for_out : length (bytes_for_out group) ≤ MOST_WAITING
  pub for_err : length (bytes_for_err group) ≤ MOST_WAITING

-- how far pieces went out in groups: these have the pieces' bytes in order, none of them is long, and they go out one after the
-- other up to where the call stopped
pub record InGroups (stop : Stop) (pieces : List Piece) (old new : Sinks) : Type 0 where
  pub groups : List (List Piece)
  pub same : flat_map bytes_in_order groups ≡ bytes_in_order pieces
  pub short : All IsShort groups
  pub went : Went stop (flat_map gathered groups) old new
