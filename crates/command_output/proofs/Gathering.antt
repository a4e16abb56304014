-- Pieces in groups: what goes out of them, and how one comes after others.
use Rattle.std.proofs.Common.{◌≡◌, ℕ, List, [], ◌∷◌, ◌++◌, map, Option, None, Some, refl, sym, ap, ◌∙◌, append-nil, arith, subst}
use Rattle.std.specs.List.{All, flat_map}
use Rattle.std.proofs.lemmas.Grind.{flat_map-append}
use Rattle.std.proofs.lemmas.List.Elements.{All-append, All-cons, All-nil}
use Rattle.srx_edge.specs.Sinks.{SinkSeen, sent}
use Rattle.srx_edge.specs.CallSteps.{Ending, Fault, Memory, How}
use Rattle.srx_edge.proofs.PublicLaws.{sent_sent}
use Rattle.command_output.specs.declared.halt.Failure.{Failure}
use Rattle.command_output.specs.declared.halt.Failure.TheVariants as failures
use Rattle.command_output.specs.CommandAnswers.{ending_of_failure}
use Rattle.command_output.specs.Gathered.{gathered, IsShort, InGroups}
use Rattle.command_output.specs.GatheredTerms.{StopsInGroups, WroteInGroups}
use Rattle.command_output.specs.OutputPieces.{Piece, ForOut, ForErr, Which, ToOut, ToErr, Sinks, Stop, Never, AtFiles, AtInput, At, Elsewhere, bytes_in_order, bytes_for_out, bytes_for_err, gone, Went}
use Rattle.command_output.specs.OutputPiecesTerms.{stop_at, StopsIn, WroteAll}
use Rattle.command_output.proofs.PieceBytes.{gone_bytes, gone_bytes_law, gone_same, went_same}
use Rattle.command_output.proofs.OutputPieceLemmas.{bytes_in_order_append, gone_append, piece_for}
use Rattle.command_output.proofs.PieceSteps.{went_behind, went_longer}

-- a group goes out as its pieces would

pub gone_parts : (group : List Piece) (sinks : Sinks) → gone (gathered group) sinks ≡ gone group sinks
gone_parts [] sinks = refl
gone_parts (ForOut bytes ∷ group) sinks =
    ap (λ (seen : SinkSeen). record { out = seen; err = sent (bytes_for_err group) sinks.err })
    (sym (sent_sent (bytes_for_out group) bytes sinks.out))
    ∙ gone_parts group (record sinks { out = sent bytes sinks.out })
gone_parts (ForErr bytes ∷ group) sinks =
    ap (λ (seen : SinkSeen). record { out = sent (bytes_for_out group) sinks.out; err = seen })
    (sym (sent_sent (bytes_for_err group) bytes sinks.err))
    ∙ gone_parts group (record sinks { err = sent bytes sinks.err })

gone_bytes_append : (first more : List (Which × ℕ)) (sinks : Sinks)
    → gone_bytes (first ++ more) sinks ≡ gone_bytes more (gone_bytes first sinks)
gone_bytes_append [] more sinks = refl
gone_bytes_append (b ∷ first) more sinks = gone_bytes_append first more _

gone_groups : (groups : List (List Piece)) (sinks : Sinks)
    → gone (flat_map gathered groups) sinks ≡ gone_bytes (flat_map bytes_in_order groups) sinks
gone_groups [] sinks = refl
gone_groups (group ∷ groups) sinks =
    gone_groups groups (gone (gathered group) sinks)
    ∙ (ap (gone_bytes (flat_map bytes_in_order groups)) (gone_parts group sinks ∙ gone_bytes_law group sinks)
    ∙ sym (gone_bytes_append (bytes_in_order group) (flat_map bytes_in_order groups) sinks))

-- so the groups of a call that ended whole went out as its pieces would
pub groups_whole : (pieces : List Piece) (old new : Sinks) → InGroups Never pieces old new → new ≡ gone pieces old
groups_whole pieces old new g = g.went
    ∙ (gone_groups g.groups old
    ∙ (ap (λ (bytes : List (Which × ℕ)). gone_bytes bytes old) g.same ∙ sym (gone_bytes_law pieces old)))

-- what is written piece by piece went out in groups, each of one byte

abbrev single : Which × ℕ → List Piece
single b = piece_for b.0 (b.1 ∷ []) ∷ []

abbrev singles : List (Which × ℕ) → List (List Piece)
singles bytes = map single bytes

single_gathered : (sink : Which) (byte : ℕ) → bytes_in_order (gathered (piece_for sink (byte ∷ []) ∷ [])) ≡ (sink, byte) ∷ []
single_gathered ToOut byte = refl
single_gathered ToErr byte = refl

single_same : (sink : Which) (byte : ℕ) → bytes_in_order (piece_for sink (byte ∷ []) ∷ []) ≡ (sink, byte) ∷ []
single_same ToOut byte = refl
single_same ToErr byte = refl

single_short : (sink : Which) (byte : ℕ) → IsShort (piece_for sink (byte ∷ []) ∷ [])
single_short ToOut byte = record { for_out = omega arith; for_err = omega arith }
single_short ToErr byte = record { for_out = omega arith; for_err = omega arith }

singles_gathered : (bytes : List (Which × ℕ)) → bytes_in_order (flat_map gathered (singles bytes)) ≡ bytes
singles_gathered [] = refl
singles_gathered (b ∷ more) =
    bytes_in_order_append (gathered (single b)) (flat_map gathered (singles more))
    ∙ (ap (λ (first : List (Which × ℕ)). first ++ bytes_in_order (flat_map gathered (singles more))) (single_gathered b.0 b.1)
    ∙ ap (λ (rest : List (Which × ℕ)). b ∷ rest) (singles_gathered more))

singles_same : (bytes : List (Which × ℕ)) → flat_map bytes_in_order (singles bytes) ≡ bytes
singles_same [] = refl
singles_same (b ∷ more) =
    ap (λ (first : List (Which × ℕ)). first ++ flat_map bytes_in_order (singles more)) (single_same b.0 b.1)
    ∙ ap (λ (rest : List (Which × ℕ)). b ∷ rest) (singles_same more)

singles_short : (bytes : List (Which × ℕ)) → All IsShort (singles bytes)
singles_short [] = All-nil IsShort
singles_short (b ∷ more) = All-cons IsShort (single b) (singles more) (single_short b.0 b.1) (singles_short more)

went_same_bytes : (stop : Stop) (one other : List Piece) (old new : Sinks) → bytes_in_order one ≡ bytes_in_order other
    → Went stop one old new → Went stop other old new
went_same_bytes Never one other old new same w = w ∙ gone_same one other old new same
went_same_bytes AtFiles one other old new same w = w
went_same_bytes AtInput one other old new same w = w
went_same_bytes (At sink how) one other old new same w = went_same one other old new same sink (Some how) w
went_same_bytes Elsewhere one other old new same w = went_same one other old new same ToOut None w

pub in_groups : (stop : Stop) (pieces : List Piece) (old new : Sinks) → Went stop pieces old new → InGroups stop pieces old new
in_groups stop pieces old new w = record {
  groups = singles (bytes_in_order pieces);
  same = singles_same (bytes_in_order pieces);
  short = singles_short (bytes_in_order pieces);
  went = went_same_bytes stop pieces (flat_map gathered (singles (bytes_in_order pieces))) old new
      (sym (singles_gathered (bytes_in_order pieces))) w;
}

pub groups_same : (stop : Stop) (one other : List Piece) (old new : Sinks) → bytes_in_order one ≡ bytes_in_order other
    → InGroups stop one old new → InGroups stop other old new
groups_same stop one other old new same g = record { groups = g.groups; same = g.same ∙ same; short = g.short; went = g.went }

-- one group
pub one_group : (stop : Stop) (group : List Piece) (old new : Sinks) → IsShort group → Went stop (gathered group) old new
    → InGroups stop group old new
one_group stop group old new short w = record {
  groups = group ∷ [];
  same = append-nil (bytes_in_order group);
  short = All-cons IsShort group [] short (All-nil IsShort);
  went = w;
}

-- groups after others

module _ (first more : List Piece) where
  grouped : (one next : List (List Piece)) → flat_map bytes_in_order one ≡ bytes_in_order first
      → flat_map bytes_in_order next ≡ bytes_in_order more → flat_map bytes_in_order (one ++ next) ≡ bytes_in_order (first ++ more)
  grouped one next same after =
      flat_map-append bytes_in_order one next
      ∙ (ap (λ (bytes : List (Which × ℕ)). bytes ++ flat_map bytes_in_order next) same
      ∙ (ap (λ (bytes : List (Which × ℕ)). bytes_in_order first ++ bytes) after ∙ sym (bytes_in_order_append first more)))

  pub groups_both : (old mid new : Sinks) → InGroups Never first old mid → InGroups Never more mid new
      → InGroups Never (first ++ more) old new
  groups_both old mid new g h = record {
    groups = g.groups ++ h.groups;
    same = grouped g.groups h.groups g.same h.same;
    short = All-append IsShort g.groups h.groups g.short h.short;
    went = h.went ∙ (ap (gone (flat_map gathered h.groups)) g.went
        ∙ (sym (gone_append (flat_map gathered g.groups) (flat_map gathered h.groups) old)
        ∙ ap (λ (pieces : List Piece). gone pieces old) (sym (flat_map-append gathered g.groups h.groups))));
  }

  groups_then : (sink : Which) (how : Option How) (old mid new : Sinks) → InGroups Never first old mid
      → InGroups (stop_at sink how) more mid new → InGroups (stop_at sink how) (first ++ more) old new
  groups_then sink how old mid new g h = record {
    groups = g.groups ++ h.groups;
    same = grouped g.groups h.groups g.same h.same;
    short = All-append IsShort g.groups h.groups g.short h.short;
    went = subst (λ (pieces : List Piece). Went (stop_at sink how) pieces old new)
        (sym (flat_map-append gathered g.groups h.groups))
        (went_behind sink how (flat_map gathered g.groups) (flat_map gathered h.groups) old mid new g.went h.went);
  }

  groups_longer : (sink : Which) (how : Option How) (old new : Sinks) → InGroups (stop_at sink how) first old new
      → InGroups (stop_at sink how) (first ++ more) old new
  groups_longer sink how old new g = record {
    groups = g.groups ++ singles (bytes_in_order more);
    same = grouped g.groups (singles (bytes_in_order more)) g.same (singles_same (bytes_in_order more));
    short = All-append IsShort g.groups (singles (bytes_in_order more)) g.short (singles_short (bytes_in_order more));
    went = subst (λ (pieces : List Piece). Went (stop_at sink how) pieces old new)
        (sym (flat_map-append gathered g.groups (singles (bytes_in_order more))))
        (went_longer sink how (flat_map gathered g.groups) (flat_map gathered (singles (bytes_in_order more))) old new g.went);
  }

  -- a step that wasn't done, once others were

  stops_then : (ending : Ending) (old mid new : Sinks) → InGroups Never first old mid → StopsInGroups ending more mid new
      → StopsInGroups ending (first ++ more) old new
  stops_then ending old mid new g s =
      record { sink = s.sink; how = s.how; ends = s.ends; went = groups_then s.sink s.how old mid new g s.went }

  stops_longer : (ending : Ending) (old new : Sinks) → StopsInGroups ending first old new → StopsInGroups ending (first ++ more) old new
  stops_longer ending old new s =
      record { sink = s.sink; how = s.how; ends = s.ends; went = groups_longer s.sink s.how old new s.went }

  pub stopped_then : (failure : Failure) (old mid new : Sinks) → InGroups Never first old mid
      → WroteInGroups (ending_of_failure failure) more mid new → WroteInGroups (ending_of_failure failure) (first ++ more) old new
  stopped_then failures.Fault old mid new g s = stops_then Fault old mid new g s
  stopped_then failures.NoMemory old mid new g s = stops_then Memory old mid new g s

  pub stopped_longer : (failure : Failure) (old new : Sinks) → WroteInGroups (ending_of_failure failure) first old new
      → WroteInGroups (ending_of_failure failure) (first ++ more) old new
  stopped_longer failures.Fault old new s = stops_longer Fault old new s
  stopped_longer failures.NoMemory old new s = stops_longer Memory old new s

-- memory was wanting elsewhere
pub groups_wanting : (pieces : List Piece) (old new : Sinks) → InGroups Never pieces old new → WroteInGroups Memory pieces old new
groups_wanting pieces old new g = record {
  sink = ToOut;
  how = None;
  ends = refl;
  went = record {
    groups = g.groups;
    same = g.same;
    short = g.short;
    went = record {
      first = flat_map gathered g.groups;
      rest = [];
      whole = append-nil (bytes_in_order (flat_map gathered g.groups));
      sinks = g.went;
    };
  };
}

-- the same bytes in order

stops_same : (ending : Ending) (one other : List Piece) (old new : Sinks) → bytes_in_order one ≡ bytes_in_order other
    → StopsInGroups ending one old new → StopsInGroups ending other old new
stops_same ending one other old new same s = record {
  sink = s.sink;
  how = s.how;
  ends = s.ends;
  went = groups_same (stop_at s.sink s.how) one other old new same s.went;
}

pub stopped_same : (failure : Failure) (one other : List Piece) (old new : Sinks) → bytes_in_order one ≡ bytes_in_order other
    → WroteInGroups (ending_of_failure failure) one old new → WroteInGroups (ending_of_failure failure) other old new
stopped_same failures.Fault one other old new same s = stops_same Fault one other old new same s
stopped_same failures.NoMemory one other old new same s = stops_same Memory one other old new same s

-- a group that goes out piece by piece

stops_group : (ending : Ending) (group : List Piece) (old new : Sinks) → IsShort group → StopsIn ending (gathered group) old new
    → StopsInGroups ending group old new
stops_group ending group old new short s =
    record { sink = s.sink; how = s.how; ends = s.ends; went = one_group (stop_at s.sink s.how) group old new short s.went }

pub stopped_group : (failure : Failure) (group : List Piece) (old new : Sinks) → IsShort group
    → WroteAll (ending_of_failure failure) (gathered group) old new → WroteInGroups (ending_of_failure failure) group old new
stopped_group failures.Fault group old new short s = stops_group Fault group old new short s
stopped_group failures.NoMemory group old new short s = stops_group Memory group old new short s

stops_each : (ending : Ending) (pieces : List Piece) (old new : Sinks) → StopsIn ending pieces old new → StopsInGroups ending pieces old new
stops_each ending pieces old new s =
    record { sink = s.sink; how = s.how; ends = s.ends; went = in_groups (stop_at s.sink s.how) pieces old new s.went }

pub stopped_each : (failure : Failure) (pieces : List Piece) (old new : Sinks)
    → WroteAll (ending_of_failure failure) pieces old new → WroteInGroups (ending_of_failure failure) pieces old new
stopped_each failures.Fault pieces old new s = stops_each Fault pieces old new s
stopped_each failures.NoMemory pieces old new s = stops_each Memory pieces old new s
