-- Steps that write by the pool, one after the other.
use Rattle.std.proofs.Common.{◌≡◌, ℕ, ◌+◌, ◌≤◌, true, List, [], ◌∷◌, ◌++◌, length, Ok, Err, refl, sym, ap, ◌∙◌, append-nil, append_assoc, length-append, arith, subst}
use Rattle.std.specs.Prelude.{OnOk, Result}
use Rattle.std.proofs.lemmas.List.{map-append}
use Rattle.pcap_io.specs.Capture.{written_frame_bytes}
use Rattle.pcap_io.specs.Frames.{numbers_of_frame}
use Rattle.pcap_io.specs.Numbers.{number_bytes}
use Rattle.srx_edge.specs.CallSteps.{Ending, Whole, Fault, Memory}
use Rattle.command_output.specs.declared.halt.Failure.{Failure}
use Rattle.command_output.specs.declared.halt.Failure.TheVariants as failures
use Rattle.command_output.specs.declared.limits.TheConstants.{MOST_WAITING}
use Rattle.command_output.specs.CommandAnswers.{ending_of_failure, ending_of_step}
use Rattle.command_output.specs.Gathered.{gathered, InGroups}
use Rattle.command_output.specs.GatheredTerms.{WroteInGroups, Waiting, none_waits, waiting_pieces, Pooled, Waits, Goes}
use Rattle.command_output.specs.OutputPieces.{Piece, ForOut, ForErr, Which, ToOut, Sinks, Never, bytes_in_order, bytes_for_out, bytes_for_err, gone}
use Rattle.command_output.specs.OutputPiecesTerms.{WroteAll}
use Rattle.command_output.proofs.OutputPieceLemmas.{bytes_in_order_append, marked}
use Rattle.command_output.proofs.Gathering.{in_groups, groups_same, one_group, groups_both, groups_whole, groups_wanting, stopped_then, stopped_longer, stopped_same, stopped_group, stopped_each}

-- a step that wasn't done, by its failure

pub goes_failing : (failure : Failure) (pieces : List Piece) (old new : Pooled)
    → ((start : Sinks) (before : List Piece) → Waits before start old
    → WroteInGroups (ending_of_failure failure) (before ++ pieces) start new.sinks) → Goes (ending_of_failure failure) pieces old new
goes_failing failures.Fault pieces old new f = record { after = f }
goes_failing failures.NoMemory pieces old new f = record { after = f }

pub goes_failed : (failure : Failure) (pieces : List Piece) (old new : Pooled) → Goes (ending_of_failure failure) pieces old new
    → (start : Sinks) (before : List Piece) → Waits before start old
    → WroteInGroups (ending_of_failure failure) (before ++ pieces) start new.sinks
goes_failed failures.Fault pieces old new goes = goes.after
goes_failed failures.NoMemory pieces old new goes = goes.after

-- steps one after the other

abbrev regroup : (before first more : List Piece) → (before ++ first) ++ more ≡ before ++ (first ++ more)
regroup before first more = append_assoc before first more

pub goes_both : (first more : List Piece) (old mid new : Pooled) → Goes Whole first old mid → Goes Whole more mid new
    → Goes Whole (first ++ more) old new
goes_both first more old mid new one next = record {
  after = λ start before w. subst (λ (pieces : List Piece). Waits pieces start new) (regroup before first more)
      (next.after start (before ++ first) (one.after start before w));
}

pub goes_behind : (failure : Failure) (first more : List Piece) (old mid new : Pooled) → Goes Whole first old mid
    → Goes (ending_of_failure failure) more mid new → Goes (ending_of_failure failure) (first ++ more) old new
goes_behind failure first more old mid new one next = goes_failing failure (first ++ more) old new (λ start before w.
    subst (λ (pieces : List Piece). WroteInGroups (ending_of_failure failure) pieces start new.sinks) (regroup before first more)
    (goes_failed failure more mid new next start (before ++ first) (one.after start before w)))

pub goes_then : (ending : Ending) (first more : List Piece) (old mid new : Pooled) → Goes Whole first old mid → Goes ending more mid new
    → Goes ending (first ++ more) old new
goes_then Whole first more old mid new one next = goes_both first more old mid new one next
goes_then Fault first more old mid new one next = goes_behind failures.Fault first more old mid new one next
goes_then Memory first more old mid new one next = goes_behind failures.NoMemory first more old mid new one next

pub goes_longer : (failure : Failure) (first more : List Piece) (old new : Pooled) → Goes (ending_of_failure failure) first old new
    → Goes (ending_of_failure failure) (first ++ more) old new
goes_longer failure first more old new one = goes_failing failure (first ++ more) old new (λ start before w.
    subst (λ (pieces : List Piece). WroteInGroups (ending_of_failure failure) pieces start new.sinks) (regroup before first more)
    (stopped_longer (before ++ first) more failure start new.sinks (goes_failed failure first old new one start before w)))

-- the pieces' bytes in order are all that counts

behind_same : (before one other : List Piece) → bytes_in_order one ≡ bytes_in_order other
    → bytes_in_order (before ++ one) ≡ bytes_in_order (before ++ other)
behind_same before one other same =
    bytes_in_order_append before one
    ∙ (ap (λ (bytes : List (Which × ℕ)). bytes_in_order before ++ bytes) same ∙ sym (bytes_in_order_append before other))

waits_same : (one other : List Piece) (start : Sinks) (now : Pooled) → bytes_in_order one ≡ bytes_in_order other → Waits one start now
    → Waits other start now
waits_same one other start now same w = record {
  first = w.first;
  last = w.last;
  same = w.same ∙ same;
  went = w.went;
  short = w.short;
  for_out = w.for_out;
  for_err = w.for_err;
}

failing_same : (failure : Failure) (one other : List Piece) (old new : Pooled) → bytes_in_order one ≡ bytes_in_order other
    → Goes (ending_of_failure failure) one old new → Goes (ending_of_failure failure) other old new
failing_same failure one other old new same goes = goes_failing failure other old new (λ start before w.
    stopped_same failure (before ++ one) (before ++ other) start new.sinks (behind_same before one other same)
    (goes_failed failure one old new goes start before w))

pub goes_same : (ending : Ending) (one other : List Piece) (old new : Pooled) → bytes_in_order one ≡ bytes_in_order other
    → Goes ending one old new → Goes ending other old new
goes_same Whole one other old new same goes = record {
  after = λ start before w.
      waits_same (before ++ one) (before ++ other) start new (behind_same before one other same) (goes.after start before w);
}
goes_same Fault one other old new same goes = failing_same failures.Fault one other old new same goes
goes_same Memory one other old new same goes = failing_same failures.NoMemory one other old new same goes

-- nothing was written yet
pub waits_none : (now : Pooled) → now.waiting ≡ none_waits → Waits [] now.sinks now
waits_none now none = record {
  first = [];
  last = [];
  same = refl;
  went = in_groups Never [] now.sinks now.sinks refl;
  short = record { for_out = omega arith; for_err = omega arith };
  for_out = ap (λ (waiting : Waiting). waiting.out) none;
  for_err = ap (λ (waiting : Waiting). waiting.err) none;
}

-- all that waits is poured

module _ (before : List Piece) (start : Sinks) (old : Pooled) (w : Waits before start old) where
  waiting_last : waiting_pieces old.waiting ≡ gathered w.last
  waiting_last =
      ap (λ (bytes : List ℕ). ForOut bytes ∷ ForErr old.waiting.err ∷ []) w.for_out
      ∙ ap (λ (bytes : List ℕ). ForOut (bytes_for_out w.last) ∷ ForErr bytes ∷ []) w.for_err

  poured_whole : (new : Sinks) → new ≡ gone (waiting_pieces old.waiting) old.sinks → InGroups Never before start new
  poured_whole new went =
      groups_same Never (w.first ++ w.last) before start new w.same (groups_both w.first w.last start old.sinks new w.went
      (one_group Never w.last old.sinks new w.short (went ∙ ap (λ (pieces : List Piece). gone pieces old.sinks) waiting_last)))

  poured_cut : (failure : Failure) (new : Sinks) → WroteAll (ending_of_failure failure) (waiting_pieces old.waiting) old.sinks new
      → WroteInGroups (ending_of_failure failure) before start new
  poured_cut failure new wrote =
      stopped_same failure (w.first ++ w.last) before start new w.same
      (stopped_then w.first w.last failure start old.sinks new w.went
      (stopped_group failure w.last old.sinks new w.short
      (subst (λ (pieces : List Piece). WroteAll (ending_of_failure failure) pieces old.sinks new) waiting_last wrote)))

  -- at the end
  pub poured_at_the_end : (ending : Ending) (new : Sinks) → WroteAll ending (waiting_pieces old.waiting) old.sinks new
      → WroteInGroups ending before start new
  poured_at_the_end Whole new wrote = groups_whole before start new (poured_whole new wrote)
  poured_at_the_end Fault new wrote = poured_cut failures.Fault new wrote
  poured_at_the_end Memory new wrote = poured_cut failures.NoMemory new wrote

  -- memory is wanting elsewhere
  all_wanting : (pieces : List Piece) → WroteInGroups Memory (before ++ pieces) start old.sinks
  all_wanting pieces = stopped_longer before pieces failures.NoMemory start old.sinks
      (stopped_same failures.NoMemory (w.first ++ w.last) before start old.sinks w.same
      (stopped_longer w.first w.last failures.NoMemory start old.sinks (groups_wanting w.first start old.sinks w.went)))

  -- in between: nothing waits afterwards
  none_waits_law : (new : Pooled) → new.sinks ≡ gone (waiting_pieces old.waiting) old.sinks → new.waiting ≡ none_waits
      → Waits (before ++ []) start new
  none_waits_law new went none = record {
    first = before ++ [];
    last = [];
    same = ap bytes_in_order (append-nil (before ++ []));
    went = groups_same Never before (before ++ []) start new.sinks (ap bytes_in_order (sym (append-nil before)))
        (poured_whole new.sinks went);
    short = record { for_out = omega arith; for_err = omega arith };
    for_out = ap (λ (waiting : Waiting). waiting.out) none;
    for_err = ap (λ (waiting : Waiting). waiting.err) none;
  }

pub goes_wanting : (pieces : List Piece) (old new : Pooled) → new.sinks ≡ old.sinks → Goes Memory pieces old new
goes_wanting pieces old new kept = record {
  after = λ start before w.
      subst (λ (sinks : Sinks). WroteInGroups Memory (before ++ pieces) start sinks) (sym kept) (all_wanting before start old w pieces);
}

pub goes_nowhere : (old : Pooled) → Goes Whole [] old old
goes_nowhere old =
    record { after = λ start before w. subst (λ (pieces : List Piece). Waits pieces start old) (sym (append-nil before)) w }

-- what waits was poured

pub goes_poured : (old new : Pooled) → new.sinks ≡ gone (waiting_pieces old.waiting) old.sinks → new.waiting ≡ none_waits
    → Goes Whole [] old new
goes_poured old new went none = record { after = λ start before w. none_waits_law before start old w new went none }

pub goes_unpoured : (failure : Failure) (old new : Pooled)
    → WroteAll (ending_of_failure failure) (waiting_pieces old.waiting) old.sinks new.sinks → Goes (ending_of_failure failure) [] old new
goes_unpoured failure old new wrote = goes_failing failure [] old new (λ start before w.
    stopped_longer before [] failure start new.sinks (poured_cut before start old w failure new.sinks wrote))

pub goes_if_poured : (result : Result (Unit {0}) Failure) (old new : Pooled)
    → WroteAll (ending_of_step result) (waiting_pieces old.waiting) old.sinks new.sinks → OnOk result (new.waiting ≡ none_waits)
    → Goes (ending_of_step result) [] old new
goes_if_poured (Ok unit) old new wrote none = goes_poured old new wrote none
goes_if_poured (Err failure) old new wrote none = goes_unpoured failure old new wrote

-- bytes wait beside those before them

pub for_out_append : (first more : List Piece) → bytes_for_out (first ++ more) ≡ bytes_for_out first ++ bytes_for_out more
for_out_append [] more = refl
for_out_append (ForOut bytes ∷ first) more =
    ap (λ (rest : List ℕ). bytes ++ rest) (for_out_append first more) ∙ sym (append_assoc bytes (bytes_for_out first) (bytes_for_out more))
for_out_append (ForErr bytes ∷ first) more = for_out_append first more

pub for_err_append : (first more : List Piece) → bytes_for_err (first ++ more) ≡ bytes_for_err first ++ bytes_for_err more
for_err_append [] more = refl
for_err_append (ForOut bytes ∷ first) more = for_err_append first more
for_err_append (ForErr bytes ∷ first) more =
    ap (λ (rest : List ℕ). bytes ++ rest) (for_err_append first more) ∙ sym (append_assoc bytes (bytes_for_err first) (bytes_for_err more))

module _ (pieces : List Piece) (old new : Pooled) (kept : new.sinks ≡ old.sinks)
    (out : new.waiting.out ≡ old.waiting.out ++ bytes_for_out pieces) (err : new.waiting.err ≡ old.waiting.err ++ bytes_for_err pieces)
    (short_out : length new.waiting.out ≤ MOST_WAITING) (short_err : length new.waiting.err ≤ MOST_WAITING) where
  module _ (start : Sinks) (before : List Piece) (w : Waits before start old) where
    out_last : new.waiting.out ≡ bytes_for_out (w.last ++ pieces)
    out_last = out ∙ (ap (λ (bytes : List ℕ). bytes ++ bytes_for_out pieces) w.for_out ∙ sym (for_out_append w.last pieces))

    err_last : new.waiting.err ≡ bytes_for_err (w.last ++ pieces)
    err_last = err ∙ (ap (λ (bytes : List ℕ). bytes ++ bytes_for_err pieces) w.for_err ∙ sym (for_err_append w.last pieces))

    waits_on : Waits (before ++ pieces) start new
    waits_on = record {
      first = w.first;
      last = w.last ++ pieces;
      same = ap bytes_in_order (sym (append_assoc w.first w.last pieces))
          ∙ (bytes_in_order_append (w.first ++ w.last) pieces
          ∙ (ap (λ (bytes : List (Which × ℕ)). bytes ++ bytes_in_order pieces) w.same ∙ sym (bytes_in_order_append before pieces)));
      went = subst (λ (sinks : Sinks). InGroups Never w.first start sinks) (sym kept) w.went;
      short = record {
        for_out = subst (λ (bytes : List ℕ). length bytes ≤ MOST_WAITING) out_last short_out;
        for_err = subst (λ (bytes : List ℕ). length bytes ≤ MOST_WAITING) err_last short_err;
      };
      for_out = out_last;
      for_err = err_last;
    }

  pub goes_waiting : Goes Whole pieces old new
  goes_waiting = record { after = waits_on }

module _ (bytes : List ℕ) (old new : Pooled) (kept : new.sinks ≡ old.sinks) where
  longer : (waiting : List ℕ) → length waiting + length bytes ≤ MOST_WAITING → length (waiting ++ bytes) ≤ MOST_WAITING
  longer waiting room = omega (arith, length-append waiting bytes, room)

  as_it_was : (waiting now : List ℕ) → now ≡ waiting → length waiting + 0 ≤ MOST_WAITING → length now ≤ MOST_WAITING
  as_it_was waiting now same room = subst (λ (w : List ℕ). length w ≤ MOST_WAITING) (sym same) (omega (arith, room))

  pub goes_out : new.waiting.out ≡ old.waiting.out ++ bytes → new.waiting.err ≡ old.waiting.err
      → length old.waiting.out + length bytes ≤ MOST_WAITING → length old.waiting.err + 0 ≤ MOST_WAITING
      → Goes Whole (ForOut bytes ∷ []) old new
  goes_out out err room_out room_err = goes_waiting (ForOut bytes ∷ []) old new kept
      (out ∙ ap (λ (b : List ℕ). old.waiting.out ++ b) (sym (append-nil bytes)))
      (err ∙ sym (append-nil old.waiting.err))
      (subst (λ (w : List ℕ). length w ≤ MOST_WAITING) (sym out) (longer old.waiting.out room_out))
      (as_it_was old.waiting.err new.waiting.err err room_err)

  pub goes_err : new.waiting.out ≡ old.waiting.out → new.waiting.err ≡ old.waiting.err ++ bytes
      → length old.waiting.out + 0 ≤ MOST_WAITING → length old.waiting.err + length bytes ≤ MOST_WAITING
      → Goes Whole (ForErr bytes ∷ []) old new
  goes_err out err room_out room_err = goes_waiting (ForErr bytes ∷ []) old new kept
      (out ∙ sym (append-nil old.waiting.out))
      (err ∙ ap (λ (b : List ℕ). old.waiting.err ++ b) (sym (append-nil bytes)))
      (as_it_was old.waiting.out new.waiting.out out room_out)
      (subst (λ (w : List ℕ). length w ≤ MOST_WAITING) (sym err) (longer old.waiting.err room_err))

-- the length of a frame that is written

numbers_length : (seconds fraction captured original : ℕ) → length (numbers_of_frame true seconds fraction captured original) ≡ 16
unfolding numbers_of_frame number_bytes
numbers_length seconds fraction captured original = refl

pub frame_length : (number micros : ℕ) (packet : List ℕ) → length (written_frame_bytes number micros packet) ≡ 16 + length packet
frame_length number micros packet =
    length-append (numbers_of_frame true number micros (length packet) (length packet)) packet
    ∙ ap (λ (n : ℕ). n + length packet) (numbers_length number micros (length packet) (length packet))

-- pieces go out by themselves where nothing waits

module _ (pieces : List Piece) (old new : Pooled) (none : old.waiting ≡ none_waits) (still : new.waiting ≡ none_waits) where
  module _ (start : Sinks) (before : List Piece) (w : Waits before start old) where
    went_before : InGroups Never before start old.sinks
    went_before = poured_whole before start old w old.sinks
        (sym (ap (λ (waiting : Waiting). gone (waiting_pieces waiting) old.sinks) none))

    direct_whole : new.sinks ≡ gone pieces old.sinks → Waits (before ++ pieces) start new
    direct_whole went = record {
      first = before ++ pieces;
      last = [];
      same = ap bytes_in_order (append-nil (before ++ pieces));
      went = groups_both before pieces start old.sinks new.sinks went_before (in_groups Never pieces old.sinks new.sinks went);
      short = record { for_out = omega arith; for_err = omega arith };
      for_out = ap (λ (waiting : Waiting). waiting.out) still;
      for_err = ap (λ (waiting : Waiting). waiting.err) still;
    }

    direct_cut : (failure : Failure) → WroteAll (ending_of_failure failure) pieces old.sinks new.sinks
        → WroteInGroups (ending_of_failure failure) (before ++ pieces) start new.sinks
    direct_cut failure wrote = stopped_then before pieces failure start old.sinks new.sinks went_before
        (stopped_each failure pieces old.sinks new.sinks wrote)

  pub goes_directly : (ending : Ending) → WroteAll ending pieces old.sinks new.sinks → Goes ending pieces old new
  goes_directly Whole wrote = record { after = λ start before w. direct_whole start before w wrote }
  goes_directly Fault wrote = record { after = λ start before w. direct_cut start before w failures.Fault wrote }
  goes_directly Memory wrote = record { after = λ start before w. direct_cut start before w failures.NoMemory wrote }

-- steps that write no bytes, and steps that write bytes for `out` one after the other

pub goes_kept : (pieces : List Piece) (now : Pooled) → Goes Memory pieces now now
goes_kept pieces now = goes_wanting pieces now now refl

pub goes_out_none : (now : Pooled) → Goes Whole (ForOut [] ∷ []) now now
goes_out_none now = goes_same Whole [] (ForOut [] ∷ []) now now refl (goes_nowhere now)

pub goes_err_none : (now : Pooled) → Goes Whole (ForErr [] ∷ []) now now
goes_err_none now = goes_same Whole [] (ForErr [] ∷ []) now now refl (goes_nowhere now)

two_out : (first more : List ℕ) → bytes_in_order (ForOut first ∷ ForOut more ∷ []) ≡ bytes_in_order (ForOut (first ++ more) ∷ [])
two_out first more =
    sym (append_assoc (marked ToOut first) (marked ToOut more) [])
    ∙ ap (λ (bytes : List (Which × ℕ)). bytes ++ []) (sym (map-append (λ byte. (ToOut, byte)) first more))

pub goes_out_both : (ending : Ending) (first more : List ℕ) (old mid new : Pooled) → Goes Whole (ForOut first ∷ []) old mid
    → Goes ending (ForOut more ∷ []) mid new → Goes ending (ForOut (first ++ more) ∷ []) old new
goes_out_both ending first more old mid new one next =
    goes_same ending (ForOut first ∷ ForOut more ∷ []) (ForOut (first ++ more) ∷ []) old new (two_out first more)
    (goes_then ending (ForOut first ∷ []) (ForOut more ∷ []) old mid new one next)

pub goes_out_longer : (failure : Failure) (first more : List ℕ) (old new : Pooled)
    → Goes (ending_of_failure failure) (ForOut first ∷ []) old new → Goes (ending_of_failure failure) (ForOut (first ++ more) ∷ []) old new
goes_out_longer failure first more old new one =
    goes_same (ending_of_failure failure) (ForOut first ∷ ForOut more ∷ []) (ForOut (first ++ more) ∷ []) old new (two_out first more)
    (goes_longer failure (ForOut first ∷ []) (ForOut more ∷ []) old new one)

pub ruleset going = (goes_kept, goes_nowhere, goes_out_none, goes_err_none)

-- a call that begins with none waiting, and pours at its end

pub none_went : (pieces : List Piece) (sinks : Sinks) → WroteInGroups Memory pieces sinks sinks
none_went pieces sinks = stopped_longer [] pieces failures.NoMemory sinks sinks
    (groups_wanting [] sinks sinks (in_groups Never [] sinks sinks refl))

pub cut_short : (failure : Failure) (first more : List Piece) (old new : Pooled) → old.waiting ≡ none_waits
    → Goes (ending_of_failure failure) first old new → WroteInGroups (ending_of_failure failure) (first ++ more) old.sinks new.sinks
cut_short failure first more old new none goes = stopped_longer first more failure old.sinks new.sinks
    (goes_failed failure first old new goes old.sinks [] (waits_none old none))

pub cut_then : (failure : Failure) (first more : List Piece) (old mid new : Pooled) → old.waiting ≡ none_waits
    → Goes Whole first old mid → Goes (ending_of_failure failure) more mid new
    → WroteInGroups (ending_of_failure failure) (first ++ more) old.sinks new.sinks
cut_then failure first more old mid new none one next =
    goes_failed failure (first ++ more) old new (goes_behind failure first more old mid new one next) old.sinks [] (waits_none old none)

pub unpoured_last : (failure : Failure) (pieces : List Piece) (old mid : Pooled) (new : Sinks) → old.waiting ≡ none_waits
    → Goes Whole pieces old mid → WroteAll (ending_of_failure failure) (waiting_pieces mid.waiting) mid.sinks new
    → WroteInGroups (ending_of_failure failure) pieces old.sinks new
unpoured_last failure pieces old mid new none goes wrote =
    poured_at_the_end pieces old.sinks mid (goes.after old.sinks [] (waits_none old none)) (ending_of_failure failure) new wrote

pub poured_last : (ending : Ending) (pieces : List Piece) (old mid : Pooled) (new : Sinks) → old.waiting ≡ none_waits
    → Goes Whole pieces old mid → WroteAll ending (waiting_pieces mid.waiting) mid.sinks new → WroteInGroups ending pieces old.sinks new
poured_last ending pieces old mid new none goes wrote =
    poured_at_the_end pieces old.sinks mid (goes.after old.sinks [] (waits_none old none)) ending new wrote
