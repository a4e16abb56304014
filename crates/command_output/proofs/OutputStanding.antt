-- What stands on the sinks of pieces that went out in groups.
use Rattle.std.proofs.Common.{◌≡◌, ◌⊎◌, inl, inr, ℕ, List, [], ◌∷◌, ◌++◌, refl, sym, ap, ap₂, ◌∙◌, append-nil, append_assoc}
use Rattle.std.specs.List.{flat_map}
use Rattle.std.proofs.lemmas.List.{map-append}
use Rattle.srx_edge.specs.Sinks.{sent}
use Rattle.srx_edge.specs.CallSteps.{How, Failing, Wanting}
use Rattle.command_output.specs.Gathered.{gathered, InGroups}
use Rattle.command_output.specs.GatheredTerms.{StandsInOrder}
use Rattle.command_output.specs.OutputPieces.{Piece, ForOut, ForErr, Which, ToOut, ToErr, Sinks, Stop, Never, AtFiles, AtInput, At, Elsewhere, bytes_in_order, bytes_for_out, bytes_for_err, gone, left_by}
use Rattle.command_output.proofs.Gathering.{gone_parts}
use Rattle.command_output.proofs.OutputPieceLemmas.{bytes_in_order_append, marked}
use Rattle.command_output.proofs.Pooling.{for_out_append, for_err_append}

-- those bytes that are for a sink

abbrev taken : Which → Which → ℕ → List ℕ → List ℕ
taken ToOut ToOut byte more = byte ∷ more
taken ToOut ToErr byte more = more
taken ToErr ToOut byte more = more
taken ToErr ToErr byte more = byte ∷ more

abbrev those : Which → List (Which × ℕ) → List ℕ
those sink [] = []
those sink (b ∷ more) = taken sink b.0 b.1 (those sink more)

taken_append : (sink has : Which) (byte : ℕ) (xs ys : List ℕ) → taken sink has byte (xs ++ ys) ≡ taken sink has byte xs ++ ys
taken_append ToOut ToOut byte xs ys = refl
taken_append ToOut ToErr byte xs ys = refl
taken_append ToErr ToOut byte xs ys = refl
taken_append ToErr ToErr byte xs ys = refl

those_append : (sink : Which) (first more : List (Which × ℕ)) → those sink (first ++ more) ≡ those sink first ++ those sink more
those_append sink [] more = refl
those_append sink (b ∷ first) more =
    ap (taken sink b.0 b.1) (those_append sink first more) ∙ taken_append sink b.0 b.1 (those sink first) (those sink more)

out_own : (bytes : List ℕ) → those ToOut (marked ToOut bytes) ≡ bytes
out_own [] = refl
out_own (b ∷ bytes) = ap (λ (rest : List ℕ). b ∷ rest) (out_own bytes)

err_own : (bytes : List ℕ) → those ToErr (marked ToErr bytes) ≡ bytes
err_own [] = refl
err_own (b ∷ bytes) = ap (λ (rest : List ℕ). b ∷ rest) (err_own bytes)

out_none : (bytes : List ℕ) → those ToOut (marked ToErr bytes) ≡ []
out_none [] = refl
out_none (b ∷ bytes) = out_none bytes

err_none : (bytes : List ℕ) → those ToErr (marked ToOut bytes) ≡ []
err_none [] = refl
err_none (b ∷ bytes) = err_none bytes

out_pieces : (pieces : List Piece) → those ToOut (bytes_in_order pieces) ≡ bytes_for_out pieces
out_pieces [] = refl
out_pieces (ForOut bytes ∷ more) = those_append ToOut (marked ToOut bytes) (bytes_in_order more)
    ∙ ap₂ (λ (a b : List ℕ). a ++ b) (out_own bytes) (out_pieces more)
out_pieces (ForErr bytes ∷ more) = those_append ToOut (marked ToErr bytes) (bytes_in_order more)
    ∙ ap₂ (λ (a b : List ℕ). a ++ b) (out_none bytes) (out_pieces more)

err_pieces : (pieces : List Piece) → those ToErr (bytes_in_order pieces) ≡ bytes_for_err pieces
err_pieces [] = refl
err_pieces (ForOut bytes ∷ more) = those_append ToErr (marked ToOut bytes) (bytes_in_order more)
    ∙ ap₂ (λ (a b : List ℕ). a ++ b) (err_none bytes) (err_pieces more)
err_pieces (ForErr bytes ∷ more) = those_append ToErr (marked ToErr bytes) (bytes_in_order more)
    ∙ ap₂ (λ (a b : List ℕ). a ++ b) (err_own bytes) (err_pieces more)

-- a front of two lists ends within the first, or past it

record Within {X : Type 0} (front rest first more : List X) : Type 0 where
  left : List X
  whole : front ++ left ≡ first
  behind : rest ≡ left ++ more

record Past {X : Type 0} (front rest first more : List X) : Type 0 where
  over : List X
  whole : front ≡ first ++ over
  behind : over ++ rest ≡ more

head_same : {X : Type 0} (x y : X) (xs ys : List X) → x ∷ xs ≡ y ∷ ys → x ≡ y
head_same x y xs ys e = cc

tail_same : {X : Type 0} (x y : X) (xs ys : List X) → x ∷ xs ≡ y ∷ ys → xs ≡ ys
tail_same x y xs ys e = cc

longer_within : {X : Type 0} (x y : X) (front rest first more : List X) → x ≡ y → Within front rest first more
    → Within (x ∷ front) rest (y ∷ first) more
longer_within {X} x y front rest first more e w =
    record { left = w.left; whole = ap₂ (λ (z : X) (zs : List X). z ∷ zs) e w.whole; behind = w.behind }

longer_past : {X : Type 0} (x y : X) (front rest first more : List X) → x ≡ y → Past front rest first more
    → Past (x ∷ front) rest (y ∷ first) more
longer_past {X} x y front rest first more e p =
    record { over = p.over; whole = ap₂ (λ (z : X) (zs : List X). z ∷ zs) e p.whole; behind = p.behind }

parts : {X : Type 0} (front rest first more : List X) → front ++ rest ≡ first ++ more
    → Within front rest first more ⊎ Past front rest first more
parts [] rest first more e = inl (record { left = first; whole = refl; behind = e })
parts (x ∷ front) rest [] more e = inr (record { over = x ∷ front; whole = refl; behind = e })
parts (x ∷ front) rest (y ∷ first) more e = elim (parts front rest first more (tail_same x y (front ++ rest) (first ++ more) e)) [
  | inl w ↦ inl (longer_within x y front rest first more (head_same x y (front ++ rest) (first ++ more) e) w)
  | inr p ↦ inr (longer_past x y front rest first more (head_same x y (front ++ rest) (first ++ more) e) p)
]

none_in_front : {X : Type 0} (front rest : List X) → front ++ rest ≡ [] → front ≡ []
none_in_front [] rest e = refl
none_in_front (x ∷ front) rest e = cc

-- pieces in two, where so many of their bytes for `err` are in the first part

record CutAtErr (front : List ℕ) (pieces : List Piece) : Type 0 where
  first : List Piece
  rest : List Piece
  same : bytes_in_order (first ++ rest) ≡ bytes_in_order pieces
  for_err : bytes_for_err first ≡ front

cut_after : (piece : Piece) (front more : List ℕ) (pieces : List Piece) → CutAtErr front pieces
    → bytes_for_err (piece ∷ []) ++ front ≡ more → CutAtErr more (piece ∷ pieces)
cut_after piece front more pieces c e = record {
  first = piece ∷ c.first;
  rest = c.rest;
  same = bytes_in_order_append (piece ∷ []) (c.first ++ c.rest)
      ∙ (ap (λ (bytes : List (Which × ℕ)). bytes_in_order (piece ∷ []) ++ bytes) c.same ∙ sym (bytes_in_order_append (piece ∷ []) pieces));
  for_err = for_err_append (piece ∷ []) c.first
      ∙ (ap (λ (bytes : List ℕ). bytes_for_err (piece ∷ []) ++ bytes) c.for_err ∙ e);
}

cut_within : (front rest bytes more : List ℕ) (pieces : List Piece) → Within front rest bytes more → CutAtErr front (ForErr bytes ∷ pieces)
cut_within front rest bytes more pieces w = record {
  first = ForErr front ∷ [];
  rest = ForErr w.left ∷ pieces;
  same = sym (append_assoc (marked ToErr front) (marked ToErr w.left) (bytes_in_order pieces))
      ∙ ap (λ (b : List (Which × ℕ)). b ++ bytes_in_order pieces)
      (sym (map-append (λ byte. (ToErr, byte)) front w.left) ∙ ap (marked ToErr) w.whole);
  for_err = append-nil front;
}

cut_at : (front rest : List ℕ) (pieces : List Piece) → front ++ rest ≡ bytes_for_err pieces → CutAtErr front pieces
cut_at front rest [] e = record { first = []; rest = []; same = refl; for_err = sym (none_in_front front rest e) }
cut_at front rest (ForOut bytes ∷ pieces) e = cut_after (ForOut bytes) front front pieces (cut_at front rest pieces e) refl
cut_at front rest (ForErr bytes ∷ pieces) e = elim (parts front rest bytes (bytes_for_err pieces) e) [
  | inl w ↦ cut_within front rest bytes (bytes_for_err pieces) pieces w
  | inr p ↦ cut_after (ForErr bytes) p.over front pieces (cut_at p.over rest pieces p.behind)
      (ap (λ (b : List ℕ). b ++ p.over) (append-nil bytes) ∙ sym p.whole)
]

-- a front of the groups as they go out

record Cuts (front : List (Which × ℕ)) (groups : List (List Piece)) : Type 0 where
  first : List Piece
  rest : List Piece
  same : bytes_in_order (first ++ rest) ≡ flat_map bytes_in_order groups
  ahead : List ℕ
  later : List ℕ
  of_rest : ahead ++ later ≡ bytes_for_out rest
  for_out : bytes_for_out first ++ ahead ≡ those ToOut front
  for_err : bytes_for_err first ≡ those ToErr front

abbrev flat : List (List Piece) → List Piece
flat groups = flat_map (λ (group : List Piece). group) groups

bytes_flat : (groups : List (List Piece)) → bytes_in_order (flat groups) ≡ flat_map bytes_in_order groups
bytes_flat [] = refl
bytes_flat (group ∷ groups) = bytes_in_order_append group (flat groups)
    ∙ ap (λ (bytes : List (Which × ℕ)). bytes_in_order group ++ bytes) (bytes_flat groups)

module _ (front rest : List (Which × ℕ)) (group : List Piece) (groups : List (List Piece)) where
  abbrev outs : List ℕ
  outs = bytes_for_out group

  abbrev errs : List ℕ
  errs = bytes_for_err group

  -- within what is for `out` of the first group
  cut_out : (more : List (Which × ℕ)) → Within front rest (marked ToOut outs) more → Cuts front (group ∷ groups)
  cut_out more w =
      let out : those ToOut front ++ those ToOut w.left ≡ outs =
      sym (those_append ToOut front w.left) ∙ (ap (those ToOut) w.whole ∙ out_own outs) in
      let err : those ToErr front ++ those ToErr w.left ≡ [] =
      sym (those_append ToErr front w.left) ∙ (ap (those ToErr) w.whole ∙ err_none outs) in
      record {
        first = [];
        rest = group ++ flat groups;
        same = bytes_flat (group ∷ groups);
        ahead = those ToOut front;
        later = those ToOut w.left ++ bytes_for_out (flat groups);
        of_rest = sym (append_assoc (those ToOut front) (those ToOut w.left) (bytes_for_out (flat groups)))
            ∙ (ap (λ (bytes : List ℕ). bytes ++ bytes_for_out (flat groups)) out ∙ sym (for_out_append group (flat groups)));
        for_out = refl;
        for_err = sym (none_in_front (those ToErr front) (those ToErr w.left) err);
      }

  module _ (over : List (Which × ℕ)) (past : front ≡ marked ToOut outs ++ over) where
    out_front : those ToOut front ≡ outs ++ those ToOut over
    out_front = ap (those ToOut) past ∙ (those_append ToOut (marked ToOut outs) over
        ∙ ap (λ (bytes : List ℕ). bytes ++ those ToOut over) (out_own outs))

    err_front : those ToErr front ≡ those ToErr over
    err_front = ap (those ToErr) past ∙ (those_append ToErr (marked ToOut outs) over
        ∙ ap (λ (bytes : List ℕ). bytes ++ those ToErr over) (err_none outs))

    -- within what is for `err` of it
    cut_err : (more : List (Which × ℕ)) → Within over rest (marked ToErr errs) more → Cuts front (group ∷ groups)
    cut_err more w =
        let err : those ToErr over ++ those ToErr w.left ≡ errs =
        sym (those_append ToErr over w.left) ∙ (ap (those ToErr) w.whole ∙ err_own errs) in
        let out : those ToOut over ++ those ToOut w.left ≡ [] =
        sym (those_append ToOut over w.left) ∙ (ap (those ToOut) w.whole ∙ out_none errs) in
        let c : CutAtErr (those ToErr over) group = cut_at (those ToErr over) (those ToErr w.left) group err in
        let all : bytes_for_out c.first ++ bytes_for_out c.rest ≡ outs =
        sym (for_out_append c.first c.rest) ∙ (sym (out_pieces (c.first ++ c.rest)) ∙ (ap (those ToOut) c.same ∙ out_pieces group)) in
        record {
          first = c.first;
          rest = c.rest ++ flat groups;
          same = ap bytes_in_order (sym (append_assoc c.first c.rest (flat groups)))
              ∙ (bytes_in_order_append (c.first ++ c.rest) (flat groups)
              ∙ ap₂ (λ (a b : List (Which × ℕ)). a ++ b) c.same (bytes_flat groups));
          ahead = bytes_for_out c.rest;
          later = bytes_for_out (flat groups);
          of_rest = sym (for_out_append c.rest (flat groups));
          for_out = all ∙ (sym (append-nil outs)
              ∙ (ap (λ (bytes : List ℕ). outs ++ bytes) (sym (none_in_front (those ToOut over) (those ToOut w.left) out)) ∙ sym out_front));
          for_err = c.for_err ∙ sym err_front;
        }

    -- past the first group
    cut_past : (beyond : List (Which × ℕ)) → over ≡ marked ToErr errs ++ beyond → Cuts beyond groups → Cuts front (group ∷ groups)
    cut_past beyond is c =
        let out : those ToOut over ≡ those ToOut beyond =
        ap (those ToOut) is ∙ (those_append ToOut (marked ToErr errs) beyond
        ∙ ap (λ (bytes : List ℕ). bytes ++ those ToOut beyond) (out_none errs)) in
        let err : those ToErr over ≡ errs ++ those ToErr beyond =
        ap (those ToErr) is ∙ (those_append ToErr (marked ToErr errs) beyond
        ∙ ap (λ (bytes : List ℕ). bytes ++ those ToErr beyond) (err_own errs)) in
        record {
          first = group ++ c.first;
          rest = c.rest;
          same = ap bytes_in_order (append_assoc group c.first c.rest)
              ∙ (bytes_in_order_append group (c.first ++ c.rest) ∙ ap (λ (bytes : List (Which × ℕ)). bytes_in_order group ++ bytes) c.same);
          ahead = c.ahead;
          later = c.later;
          of_rest = c.of_rest;
          for_out = ap (λ (bytes : List ℕ). bytes ++ c.ahead) (for_out_append group c.first)
              ∙ (append_assoc outs (bytes_for_out c.first) c.ahead
              ∙ (ap (λ (bytes : List ℕ). outs ++ bytes) (c.for_out ∙ sym out) ∙ sym out_front));
          for_err = for_err_append group c.first ∙ (ap (λ (bytes : List ℕ). errs ++ bytes) c.for_err ∙ (sym err ∙ sym err_front));
        }

cuts : (groups : List (List Piece)) (front rest : List (Which × ℕ)) → front ++ rest ≡ bytes_in_order (flat_map gathered groups)
    → Cuts front groups
cuts [] front rest e = record {
  first = [];
  rest = [];
  same = refl;
  ahead = [];
  later = [];
  of_rest = refl;
  for_out = ap (those ToOut) (sym (none_in_front front rest e));
  for_err = ap (those ToErr) (sym (none_in_front front rest e));
}
cuts (group ∷ groups) front rest e =
    let others : List (Which × ℕ) = bytes_in_order (flat_map gathered groups) in
    let behind : List (Which × ℕ) = marked ToErr (bytes_for_err group) ++ others in
    elim (parts front rest (marked ToOut (bytes_for_out group)) behind e) [
      | inl w ↦ cut_out front rest group groups behind w
      | inr p ↦ elim (parts p.over rest (marked ToErr (bytes_for_err group)) others p.behind) [
        | inl v ↦ cut_err front rest group groups p.over p.whole others v
        | inr q ↦ cut_past front rest group groups p.over p.whole q.over q.whole (cuts groups q.over rest q.behind)
      ]
    ]

-- what stands on the sinks of pieces

module _ (pieces : List Piece) (old new : Sinks) where
  stands : (groups : List (List Piece)) → flat_map bytes_in_order groups ≡ bytes_in_order pieces
      → (front : List Piece) (rest : List (Which × ℕ)) → bytes_in_order front ++ rest ≡ bytes_in_order (flat_map gathered groups)
      → new.out.held ≡ (gone front old).out.held → new.err.held ≡ (gone front old).err.held → StandsInOrder pieces old new
  stands groups same front rest whole out err =
      let c : Cuts (bytes_in_order front) groups = cuts groups (bytes_in_order front) rest whole in
      record {
        first = c.first;
        rest = c.rest;
        same = c.same ∙ same;
        ahead = c.ahead;
        later = c.later;
        of_rest = c.of_rest;
        on_out = out ∙ (ap (λ (s : Sinks). s.out.held) (sym (gone_parts front old))
            ∙ ap (λ (bytes : List ℕ). (sent bytes old.out).held) (sym (c.for_out ∙ out_pieces front)));
        on_err = err ∙ (ap (λ (s : Sinks). s.err.held) (sym (gone_parts front old))
            ∙ ap (λ (bytes : List ℕ). (sent bytes old.err).held) (sym (c.for_err ∙ err_pieces front)));
      }

  -- nothing went out
  stands_none : new ≡ old → StandsInOrder pieces old new
  stands_none same = record {
    first = [];
    rest = pieces;
    same = refl;
    ahead = [];
    later = bytes_for_out pieces;
    of_rest = refl;
    on_out = ap (λ (s : Sinks). s.out.held) same;
    on_err = ap (λ (s : Sinks). s.err.held) same;
  }

held_out : (sink : Which) (how : How) (sinks : Sinks) → (left_by sink how sinks).out.held ≡ sinks.out.held
held_out ToOut Failing sinks = refl
held_out ToOut Wanting sinks = refl
held_out ToErr how sinks = refl

held_err : (sink : Which) (how : How) (sinks : Sinks) → (left_by sink how sinks).err.held ≡ sinks.err.held
held_err ToOut how sinks = refl
held_err ToErr Failing sinks = refl
held_err ToErr Wanting sinks = refl

pub groups_stand : (stop : Stop) (pieces : List Piece) (old new : Sinks) → InGroups stop pieces old new → StandsInOrder pieces old new
groups_stand Never pieces old new g = stands pieces old new g.groups g.same (flat_map gathered g.groups) []
    (append-nil (bytes_in_order (flat_map gathered g.groups)))
    (ap (λ (s : Sinks). s.out.held) g.went) (ap (λ (s : Sinks). s.err.held) g.went)
groups_stand AtFiles pieces old new g = stands_none pieces old new g.went
groups_stand AtInput pieces old new g = stands_none pieces old new g.went
groups_stand (At sink how) pieces old new g = stands pieces old new g.groups g.same g.went.first g.went.rest g.went.whole
    (ap (λ (s : Sinks). s.out.held) g.went.sinks ∙ held_out sink how (gone g.went.first old))
    (ap (λ (s : Sinks). s.err.held) g.went.sinks ∙ held_err sink how (gone g.went.first old))
groups_stand Elsewhere pieces old new g = stands pieces old new g.groups g.same g.went.first g.went.rest g.went.whole
    (ap (λ (s : Sinks). s.out.held) g.went.sinks) (ap (λ (s : Sinks). s.err.held) g.went.sinks)
