-- Steps of a talk, one behind the other.
use Rattle.std.proofs.Common.{◌≡◌, ℕ, suc, ◌+◌, ◌<◌, List, [], ◌∷◌, ◌++◌, length, take, drop, Option, None, Some, option_map, Result, Ok, Err, OnOk, ◌⊎◌, inl, refl, sym, ap, subst, ◌∙◌, append_assoc, append-nil}
use Rattle.std.proofs.Math.Seq.{take-add}
use Rattle.std.proofs.lemmas.List.{take-append-drop}
use Rattle.srx_edge.specs.declared.input.Failed.{Failed}
use Rattle.line_talk.specs.Lines.{line_feed, whole_lines_from, last_line_from, line_unless_empty}
use Rattle.line_talk.specs.Replies.{Rules, RepliesTo, AllReply, text_of}
use Rattle.line_talk.specs.Talk.{Talk, heard_more, said_more, said_none}
use Rattle.line_talk.specs.TalkTerms.{Keeps, SaysAll, SaysOn, stopped_by, LeftBy, Goes, Stops, Steps, Turned}
use Rattle.line_talk.specs.declared.stop.Stop.{Stop}
use Rattle.line_talk.specs.declared.stop.Stop.TheVariants.{WriteFailed, NoMemory}
use Rattle.line_talk.specs.declared.desk.Turn.TheVariants as turns

-- ---- bytes that are said in parts

said_more_nil : (t : Talk) → said_more [] t ≡ t
said_more_nil t = ap (λ (s : List ℕ). record t { said = s }) (append-nil t.said)

pub said_none_of : (talk : Option Talk) → talk ≡ option_map (said_more []) talk
said_none_of None = refl
said_none_of (Some t) = ap Some (sym (said_more_nil t))

said_both : (bytes more : List ℕ) (talk : Option Talk) → option_map (said_more more) (option_map (said_more bytes) talk) ≡ option_map (said_more (bytes ++ more)) talk
said_both bytes more None = refl
said_both bytes more (Some t) = ap (λ (s : List ℕ). Some (record t { said = s })) (append_assoc t.said bytes more)

stopped_both : (stop : Stop) (bytes more : List ℕ) (talk : Option Talk)
    → option_map (λ t. stopped_by stop (said_more more t)) (option_map (said_more bytes) talk) ≡ option_map (λ t. stopped_by stop (said_more (bytes ++ more) t)) talk
stopped_both stop bytes more None = refl
stopped_both stop bytes more (Some t) = ap (λ (s : List ℕ). Some (stopped_by stop (record t { said = s }))) (append_assoc t.said bytes more)

told_both : (bytes more : List ℕ) (old mid new : Option Talk) → mid ≡ option_map (said_more bytes) old → new ≡ option_map (said_more more) mid
    → new ≡ option_map (said_more (bytes ++ more)) old
told_both bytes more old mid new first next = next ∙ ap (option_map (said_more more)) first ∙ said_both bytes more old

told_stopped : (stop : Stop) (bytes more : List ℕ) (old mid new : Option Talk) → mid ≡ option_map (said_more bytes) old
    → new ≡ option_map (λ t. stopped_by stop (said_more more t)) mid → new ≡ option_map (λ t. stopped_by stop (said_more (bytes ++ more) t)) old
told_stopped stop bytes more old mid new first next =
    next ∙ ap (option_map (λ t. stopped_by stop (said_more more t))) first ∙ stopped_both stop bytes more old

pub said_next : (n count : ℕ) (bytes : List ℕ) (old mid new : Option Talk) → mid ≡ option_map (said_more (take n bytes)) old
    → new ≡ option_map (said_more (take count (drop n bytes))) mid
    → new ≡ option_map (said_more (take (n + count) bytes)) old
said_next n count bytes old mid new first next =
    told_both (take n bytes) (take count (drop n bytes)) old mid new first next
    ∙ ap (λ (l : List ℕ). option_map (said_more l) old) (sym (take-add n count bytes))

-- the write that failed came behind the first bytes
pub failed_after : (bytes : List ℕ) (old mid new : Option Talk) → mid ≡ option_map (said_more bytes) old → new ≡ option_map said_none mid
    → new ≡ option_map (λ t. said_none (said_more bytes t)) old
failed_after bytes None mid new e failed = failed ∙ ap (option_map said_none) e
failed_after bytes (Some t) mid new e failed = failed ∙ ap (option_map said_none) e

-- ---- what waits

-- the out of two steps, and what waits behind them
joined : (out more waiting mid new bytes others : List ℕ) → out ++ mid ≡ waiting ++ bytes → more ++ new ≡ mid ++ others
    → (out ++ more) ++ new ≡ waiting ++ (bytes ++ others)
joined out more waiting mid new bytes others first next =
    append_assoc out more new
    ∙ ap (λ (l : List ℕ). out ++ l) next
    ∙ sym (append_assoc out mid others)
    ∙ ap (λ (l : List ℕ). l ++ others) first
    ∙ append_assoc waiting bytes others

pub says_both : (bytes others : List ℕ) (waiting mid new : List ℕ) (t0 t1 t2 : Option Talk) → SaysOn bytes (Ok tt) waiting mid t0 t1
    → SaysOn others (Ok tt) mid new t1 t2 → SaysOn (bytes ++ others) (Ok tt) waiting new t0 t2
says_both bytes others waiting mid new t0 t1 t2 first next =
    (first.0 ++ next.0, joined first.0 next.0 waiting mid new bytes others first.1 next.1, told_both first.0 next.0 t0 t1 t2 first.2 next.2)

pub says_stopped : (stop : Stop) (bytes others : List ℕ) (waiting mid new : List ℕ) (t0 t1 t2 : Option Talk) → SaysOn bytes (Ok tt) waiting mid t0 t1
    → SaysOn others (Err stop) mid new t1 t2 → SaysOn (bytes ++ others) (Err stop) waiting new t0 t2
says_stopped stop bytes others waiting mid new t0 t1 t2 first next =
    (first.0 ++ next.0, next.1, joined first.0 next.0 waiting mid next.1 bytes others first.1 next.2, told_stopped stop first.0 next.0 t0 t1 t2 first.2 next.3)

pub says_within : (stop : Stop) (bytes others : List ℕ) (waiting new : List ℕ) (t0 t1 : Option Talk) → SaysOn bytes (Err stop) waiting new t0 t1
    → SaysOn (bytes ++ others) (Err stop) waiting new t0 t1
says_within stop bytes others waiting new t0 t1 says = (
  says.0,
  says.1 ++ others,
  sym (append_assoc says.0 says.1 others) ∙ ap (λ (l : List ℕ). l ++ others) says.2 ∙ append_assoc waiting bytes others,
  says.3,
)

pub says_some : (fault : Failed) (waiting new : List ℕ) (t0 t1 : Option Talk) → SaysAll waiting (Err fault) t0 t1 → SaysOn [] (Err WriteFailed) waiting new t0 t1
says_some fault waiting new t0 t1 says =
    (take says.0 waiting, drop says.0 waiting, take-append-drop says.0 waiting ∙ sym (append-nil waiting), says.1)

-- not all the bytes are said, where nothing waited
pub says_some_alone : (fault : Failed) (bytes waiting new : List ℕ) (t0 t1 : Option Talk) → waiting ≡ [] → SaysAll bytes (Err fault) t0 t1
    → SaysOn bytes (Err WriteFailed) waiting new t0 t1
says_some_alone fault bytes waiting new t0 t1 none says =
    subst (λ (w : List ℕ). SaysOn bytes (Err WriteFailed) w new t0 t1) (sym none)
    (take says.0 bytes, drop says.0 bytes, take-append-drop says.0 bytes, says.1)

-- what is said by a step behind another
pub says_then : (result : Result (Unit {0}) Stop) (bytes others : List ℕ) (waiting mid new : List ℕ) (t0 t1 t2 : Option Talk)
    → SaysOn bytes (Ok tt) waiting mid t0 t1 → SaysOn others result mid new t1 t2 → SaysOn (bytes ++ others) result waiting new t0 t2
says_then (Ok unit) bytes others waiting mid new t0 t1 t2 first next = says_both bytes others waiting mid new t0 t1 t2 first next
says_then (Err stop) bytes others waiting mid new t0 t1 t2 first next = says_stopped stop bytes others waiting mid new t0 t1 t2 first next

-- ---- lines and their replies

pub all_reply_append : {State : Type 0} (rules : Rules State) (s0 s1 s2 : State) (xs ys rs qs : List (List ℕ)) → AllReply rules s0 xs rs s1
    → AllReply rules s1 ys qs s2 → AllReply rules s0 (xs ++ ys) (rs ++ qs) s2
all_reply_append rules s0 s1 s2 [] ys [] qs first next = subst (λ s. AllReply rules s ys qs s2) first next
all_reply_append rules s0 s1 s2 [] ys (r ∷ rs) qs first next = absurd first
all_reply_append rules s0 s1 s2 (x ∷ xs) ys [] qs first next = absurd first
all_reply_append rules s0 s1 s2 (x ∷ xs) ys (r ∷ rs) qs first next =
    (first.0, first.1, all_reply_append rules first.0 s1 s2 xs ys rs qs first.2 next)

pub all_reply_length : {State : Type 0} (rules : Rules State) (s0 s1 : State) (xs rs : List (List ℕ)) → AllReply rules s0 xs rs s1 → length rs ≡ length xs
all_reply_length rules s0 s1 [] [] all = refl
all_reply_length rules s0 s1 [] (r ∷ rs) all = absurd all
all_reply_length rules s0 s1 (x ∷ xs) [] all = absurd all
all_reply_length rules s0 s1 (x ∷ xs) (r ∷ rs) all = ap (λ n. suc n) (all_reply_length rules all.0 s1 xs rs all.2)

pub text_append : (rs qs : List (List ℕ)) → text_of (rs ++ qs) ≡ text_of rs ++ text_of qs
text_append [] qs = refl
text_append (r ∷ rs) qs =
    ap (λ (l : List ℕ). r ++ line_feed ∷ l) (text_append rs qs) ∙ sym (append_assoc r (line_feed ∷ text_of rs) (text_of qs))

-- ---- steps

pub goes_none : {State : Type 0} (rules : Rules State) (s : State) (waiting : List ℕ) (talk : Option Talk) → Goes rules [] s s waiting waiting talk talk
goes_none rules s waiting talk = record { replies = []; threaded = refl; out = []; split = sym (append-nil waiting); told = said_none_of talk }

pub goes_on : {State : Type 0} (rules : Rules State) (xs ys : List (List ℕ)) (s0 s1 s2 : State) (w0 w1 w2 : List ℕ) (t0 t1 t2 : Option Talk)
    → Goes rules xs s0 s1 w0 w1 t0 t1 → Goes rules ys s1 s2 w1 w2 t1 t2 → Goes rules (xs ++ ys) s0 s2 w0 w2 t0 t2
goes_on rules xs ys s0 s1 s2 w0 w1 w2 t0 t1 t2 g h = record {
  replies = g.replies ++ h.replies;
  threaded = all_reply_append rules s0 s1 s2 xs ys g.replies h.replies g.threaded h.threaded;
  out = g.out ++ h.out;
  split = joined g.out h.out w0 w1 w2 (text_of g.replies) (text_of h.replies) g.split h.split
      ∙ ap (λ (l : List ℕ). w0 ++ l) (sym (text_append g.replies h.replies));
  told = told_both g.out h.out t0 t1 t2 g.told h.told;
}

pub goes_stops : {State : Type 0} (rules : Rules State) (stop : Stop) (xs ys : List (List ℕ)) (s0 s1 s2 : State) (w0 w1 : List ℕ) (t0 t1 t2 : Option Talk)
    → Goes rules xs s0 s1 w0 w1 t0 t1 → Stops rules stop ys s1 s2 w1 t1 t2 → Stops rules stop (xs ++ ys) s0 s2 w0 t0 t2
goes_stops rules stop xs ys s0 s1 s2 w0 w1 t0 t1 t2 g h = record {
  answered = xs ++ h.answered;
  unanswered = h.unanswered;
  whole = append_assoc xs h.answered h.unanswered ∙ ap (λ (l : List (List ℕ)). xs ++ l) h.whole;
  replies = g.replies ++ h.replies;
  behind = h.behind;
  threaded = all_reply_append rules s0 s1 h.behind xs h.answered g.replies h.replies g.threaded h.threaded;
  out = g.out ++ h.out;
  unsaid = h.unsaid;
  split = joined g.out h.out w0 w1 h.unsaid (text_of g.replies) (text_of h.replies) g.split h.split
      ∙ ap (λ (l : List ℕ). w0 ++ l) (sym (text_append g.replies h.replies));
  told = told_stopped stop g.out h.out t0 t1 t2 g.told h.told;
  leaves = h.leaves;
}

pub stops_within : {State : Type 0} (rules : Rules State) (stop : Stop) (xs ys : List (List ℕ)) (s0 s1 : State) (w0 : List ℕ) (t0 t1 : Option Talk)
    → Stops rules stop xs s0 s1 w0 t0 t1 → Stops rules stop (xs ++ ys) s0 s1 w0 t0 t1
stops_within rules stop xs ys s0 s1 w0 t0 t1 h = record {
  answered = h.answered;
  unanswered = h.unanswered ++ ys;
  whole = sym (append_assoc h.answered h.unanswered ys) ∙ ap (λ (l : List (List ℕ)). l ++ ys) h.whole;
  replies = h.replies;
  behind = h.behind;
  threaded = h.threaded;
  out = h.out;
  unsaid = h.unsaid;
  split = h.split;
  told = h.told;
  leaves = h.leaves;
}

left_same : {State : Type 0} (rules : Rules State) (stop : Stop) (s : State) → LeftBy rules stop s s
left_same rules WriteFailed s = refl
left_same rules NoMemory s = inl refl

-- no line is answered, and nothing is said
pub stops_wanting : {State : Type 0} (rules : Rules State) (lines : List (List ℕ)) (s0 s1 : State) (waiting : List ℕ) (talk : Option Talk)
    → (s1 ≡ s0) ⊎ rules.Spares s0 s1 → Stops rules NoMemory lines s0 s1 waiting talk talk
stops_wanting rules lines s0 s1 waiting talk left = record {
  answered = [];
  unanswered = lines;
  whole = refl;
  replies = [];
  behind = s0;
  threaded = refl;
  out = [];
  unsaid = waiting;
  split = sym (append-nil waiting);
  told = said_none_of talk;
  leaves = left;
}

-- one line is answered
pub goes_line : {State : Type 0} (rules : Rules State) (line reply : List ℕ) (s0 s1 : State) (w0 w1 : List ℕ) (t0 t1 : Option Talk)
    → RepliesTo rules s0 line reply s1 → SaysOn (reply ++ line_feed ∷ []) (Ok tt) w0 w1 t0 t1 → Goes rules (line ∷ []) s0 s1 w0 w1 t0 t1
goes_line rules line reply s0 s1 w0 w1 t0 t1 replies says = record {
  replies = reply ∷ [];
  threaded = (s1, replies, refl);
  out = says.0;
  split = says.1;
  told = says.2;
}

pub stops_line : {State : Type 0} (rules : Rules State) (stop : Stop) (line reply : List ℕ) (s0 s1 : State) (w0 w1 : List ℕ) (t0 t1 : Option Talk)
    → RepliesTo rules s0 line reply s1 → SaysOn (reply ++ line_feed ∷ []) (Err stop) w0 w1 t0 t1 → Stops rules stop (line ∷ []) s0 s1 w0 t0 t1
stops_line rules stop line reply s0 s1 w0 w1 t0 t1 replies says = record {
  answered = line ∷ [];
  unanswered = [];
  whole = refl;
  replies = reply ∷ [];
  behind = s1;
  threaded = (s1, replies, refl);
  out = says.0;
  unsaid = says.1;
  split = says.2;
  told = says.3;
  leaves = left_same rules stop s1;
}

-- what waits is said, or not
pub goes_pour : {State : Type 0} (rules : Rules State) (s : State) (w0 w1 : List ℕ) (t0 t1 : Option Talk) → SaysOn [] (Ok tt) w0 w1 t0 t1
    → Goes rules [] s s w0 w1 t0 t1
goes_pour rules s w0 w1 t0 t1 says = record { replies = []; threaded = refl; out = says.0; split = says.1; told = says.2 }

pub stops_pour : {State : Type 0} (rules : Rules State) (stop : Stop) (s : State) (w0 w1 : List ℕ) (t0 t1 : Option Talk) → SaysOn [] (Err stop) w0 w1 t0 t1
    → Stops rules stop [] s s w0 t0 t1
stops_pour rules stop s w0 w1 t0 t1 says = record {
  answered = [];
  unanswered = [];
  whole = refl;
  replies = [];
  behind = s;
  threaded = refl;
  out = says.0;
  unsaid = says.1;
  split = says.2;
  told = says.3;
  leaves = left_same rules stop s;
}

pub steps_pour : {State : Type 0} (rules : Rules State) (result : Result (Unit {0}) Stop) (lines : List (List ℕ)) (s0 s1 : State) (w0 w1 w2 : List ℕ)
    (t0 t1 t2 : Option Talk) → Goes rules lines s0 s1 w0 w1 t0 t1 → SaysOn [] result w1 w2 t1 t2 → Steps rules result lines s0 s1 w0 w2 t0 t2
steps_pour rules (Ok unit) lines s0 s1 w0 w1 w2 t0 t1 t2 goes says =
    subst (λ (l : List (List ℕ)). Goes rules l s0 s1 w0 w2 t0 t2) (append-nil lines)
    (goes_on rules lines [] s0 s1 s1 w0 w1 w2 t0 t1 t2 goes (goes_pour rules s1 w1 w2 t1 t2 says))
steps_pour rules (Err stop) lines s0 s1 w0 w1 w2 t0 t1 t2 goes says =
    subst (λ (l : List (List ℕ)). Stops rules stop l s0 s1 w0 t0 t2) (append-nil lines)
    (goes_stops rules stop lines [] s0 s1 s1 w0 w1 t0 t1 t2 goes (stops_pour rules stop s1 w1 w2 t1 t2 says))

-- ---- whether a line is empty

pub some_line : (line : List ℕ) → (line ≡ [] → ⊥) → line_unless_empty line ≡ line ∷ []
some_line [] some = absurd (some refl)
some_line (byte ∷ line) some = refl

pub goes_empty : {State : Type 0} (rules : Rules State) (line : List ℕ) (s : State) (w : List ℕ) (t : Option Talk) → line ≡ []
    → Goes rules (line_unless_empty line) s s w w t t
goes_empty rules line s w t e = subst (λ (l : List ℕ). Goes rules (line_unless_empty l) s s w w t t) (sym e) (goes_none rules s w t)

pub on_ok_of : {A E P : Type 0} (result : Result A E) → P → OnOk result P
on_ok_of (Ok a) p = p
on_ok_of (Err e) p = tt

-- ---- a turn

pub turned_more : {State : Type 0} (rules : Rules State) (line piece : List ℕ) (kept : Option (List ℕ)) (s0 s1 : State) (w0 w1 : List ℕ) (t0 t1 t2 : Option Talk)
    → 0 < length piece → Keeps (last_line_from line piece) kept → w0 ≡ [] → w1 ≡ [] → t1 ≡ option_map (heard_more piece) t0
    → Goes rules (whole_lines_from line piece) s0 s1 w0 w1 t1 t2 → Turned rules turns.More line kept s0 s1 w1 t0 t2
turned_more rules line piece kept s0 s1 w0 w1 t0 t1 t2 some keeps first last heard goes =
    let g1 : Goes rules (whole_lines_from line piece) s0 s1 [] w1 t1 t2 =
    subst (λ (w : List ℕ). Goes rules (whole_lines_from line piece) s0 s1 w w1 t1 t2) first goes in
    let g2 : Goes rules (whole_lines_from line piece) s0 s1 [] [] t1 t2 =
    subst (λ (w : List ℕ). Goes rules (whole_lines_from line piece) s0 s1 [] w t1 t2) last g1 in
    let g3 : Goes rules (whole_lines_from line piece) s0 s1 [] [] (option_map (heard_more piece) t0) t2 =
    subst (λ (t : Option Talk). Goes rules (whole_lines_from line piece) s0 s1 [] [] t t2) heard g2 in
    (piece, some, keeps, last, g3)

pub turned_stopped : {State : Type 0} (rules : Rules State) (stop : Stop) (line piece : List ℕ) (kept : Option (List ℕ)) (s0 s1 : State) (w0 w1 : List ℕ) (t0 t1 t2 : Option Talk)
    → 0 < length piece → w0 ≡ [] → t1 ≡ option_map (heard_more piece) t0
    → Stops rules stop (whole_lines_from line piece) s0 s1 w0 t1 t2 → Turned rules (turns.Stopped stop) line kept s0 s1 w1 t0 t2
turned_stopped rules stop line piece kept s0 s1 w0 w1 t0 t1 t2 some first heard stops =
    let h1 : Stops rules stop (whole_lines_from line piece) s0 s1 [] t1 t2 =
    subst (λ (w : List ℕ). Stops rules stop (whole_lines_from line piece) s0 s1 w t1 t2) first stops in
    let h2 : Stops rules stop (whole_lines_from line piece) s0 s1 [] (option_map (heard_more piece) t0) t2 =
    subst (λ (t : Option Talk). Stops rules stop (whole_lines_from line piece) s0 s1 [] t t2) heard h1 in
    (piece, some, h2)
