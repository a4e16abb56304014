-- What holds between the turns of a talk, and at its end.
use Rattle.std.proofs.Common.{◌≡◌, ℕ, ◌+◌, ◌<◌, ◌≤◌, ◌-◌, ◌^◌, ◌==◌, Bool, false, if◌then◌else◌, List, [], ◌∷◌, ◌++◌, length, Option, Some, option_map, Err, inl, refl, sym, ap, subst, ◌∙◌, append_assoc, append-nil, arith, rules, length-append}
use Rattle.std.proofs.lemmas.List.{take-append-le, take_all}
use Rattle.std.specs.List.{AllByRecursion}
use Rattle.line_talk.specs.Lines.{whole_lines, last_line, whole_lines_from, line_unless_empty, lines}
use Rattle.line_talk.specs.Replies.{Rules, AllReply, text_of}
use Rattle.line_talk.specs.Talk.{Ask, Talk, begun, heard_more, heard_none, said_more}
use Rattle.line_talk.specs.Talked.{heard_lines, IsPrompt, Talked}
use Rattle.line_talk.specs.TalkTerms.{Keeps, Goes, Stops, Steps, Turned, LeftBy, stopped_by, status_by}
use Rattle.line_talk.specs.declared.stop.Stop.{Stop}
use Rattle.line_talk.specs.declared.stop.Stop.TheVariants.{WriteFailed, NoMemory}
use Rattle.line_talk.specs.declared.desk.Turn.TheVariants as turns
use Rattle.line_talk.specs.declared.serve.Status.{Status}
use Rattle.line_talk.specs.declared.serve.Status.TheVariants as statuses
use Rattle.line_talk.proofs.Ends.{whole_append, last_append}
use Rattle.line_talk.proofs.Steps.{all_reply_append, all_reply_length, text_append}

-- all that was heard is answered, as far as its lines are whole
pub record Stands {State : Type 0} (r : Rules State) (first : State) (count : ℕ) (kept : Option (List ℕ)) (waiting : List ℕ) (s : State) (t : Talk) : Type 0 where
  pub replies : List (List ℕ)
  pub threaded : AllReply r first (whole_lines t.heard) replies s
  pub said : t.said ≡ text_of replies
  pub prompt : AllByRecursion (IsPrompt replies) t.asks
  pub keeps : Keeps (last_line t.heard) kept
  pub poured : waiting ≡ []
  pub goes_on : t.ended ≡ false
  pub reads : t.read_failed ≡ false
  pub writes : t.write_failed ≡ false
  pub long : count ≤ length t.heard

abbrev pub Holds : {State : Type 0} → Rules State → State → ℕ → Option (List ℕ) → List ℕ → State → Option Talk → Option Talk → Type 0
Holds r first count kept waiting s old now = old ≡ Some begun → (t : Talk) × (now ≡ Some t) × Stands r first count kept waiting s t

abbrev pub Talks : {State : Type 0} → Rules State → State → Status → State → Option Talk → Option Talk → Type 0
Talks r first status left old now = old ≡ Some begun → (t : Talk) × (now ≡ Some t) × Talked r first status t left

pub holds_first : {State : Type 0} (r : Rules State) (s : State) (kept : Option (List ℕ)) (waiting : List ℕ) (old : Option Talk) → Keeps [] kept → waiting ≡ []
    → Holds r s 0 kept waiting s old old
holds_first r s kept waiting old keeps poured b = (
  begun,
  b,
  record {
    replies = [];
    threaded = refl;
    said = refl;
    prompt = tt;
    keeps = keeps;
    poured = poured;
    goes_on = refl;
    reads = refl;
    writes = refl;
    long = omega arith;
  },
)

-- before anything is asked for
pub talks_none : {State : Type 0} (r : Rules State) (s : State) (old : Option Talk) → Talks r s statuses.NoMemory s old old
talks_none r s old b = (
  begun,
  b,
  record {
    answered = [];
    unanswered = [];
    heard = refl;
    replies = [];
    behind = s;
    threaded = refl;
    unsaid = [];
    said = refl;
    prompt = tt;
    ended = (refl, refl, inl refl);
  },
)

-- ---- replies that are more answer the asks before

prompt_longer : (replies more : List (List ℕ)) (ask : Ask) → IsPrompt replies ask → IsPrompt (replies ++ more) ask
prompt_longer replies more ask p =
    let count = length (whole_lines ask.heard) in (
      omega (arith, p.0, length-append replies more),
      p.1 ∙ ap text_of (sym (take-append-le count replies more p.0)),
    )

prompts_longer : (replies more : List (List ℕ)) (asks : List Ask) → AllByRecursion (IsPrompt replies) asks → AllByRecursion (IsPrompt (replies ++ more)) asks
prompts_longer replies more [] all = tt
prompts_longer replies more (ask ∷ asks) all = (prompt_longer replies more ask all.0, prompts_longer replies more asks all.1)

all_snoc : (P : Ask → Type 0) (asks : List Ask) (ask : Ask) → AllByRecursion P asks → P ask → AllByRecursion P (asks ++ ask ∷ [])
all_snoc P [] ask all last = (last, tt)
all_snoc P (a ∷ asks) ask all last = (all.0, all_snoc P asks ask all.1 last)

ask_prompt : (heard said : List ℕ) (replies : List (List ℕ)) → length replies ≡ length (whole_lines heard) → said ≡ text_of replies
    → IsPrompt replies (record { heard = heard; said = said })
ask_prompt heard said replies size e =
    (omega (arith, size), e ∙ ap text_of (sym (take_all (length (whole_lines heard)) replies (omega (arith, size)))))

-- the next ask finds all answered, and so do those before, whatever replies come
asks_prompt : {State : Type 0} (r : Rules State) (first : State) (count : ℕ) (kept : Option (List ℕ)) (waiting : List ℕ) (s : State) (t : Talk) (more : List (List ℕ)) (piece : List ℕ)
    → (st : Stands r first count kept waiting s t) → AllByRecursion (IsPrompt (st.replies ++ more)) (heard_more piece t).asks
asks_prompt r first count kept waiting s t more piece st =
    prompts_longer st.replies more (t.asks ++ record { heard = t.heard; said = t.said } ∷ [])
    (all_snoc (IsPrompt st.replies) t.asks (record { heard = t.heard; said = t.said }) st.prompt
    (ask_prompt t.heard t.said st.replies (all_reply_length r first s (whole_lines t.heard) st.replies st.threaded) st.said))

-- ---- which lines were heard

not_end : (piece : List ℕ) → 0 < length piece → (length piece == 0) ≡ false
not_end [] some = absurd (omega (arith, some))
not_end (byte ∷ piece) some = search rules

heard_whole : (t : Talk) → t.ended ≡ false → heard_lines t ≡ whole_lines t.heard
heard_whole t e = ap (λ (b : Bool). if b then lines t.heard else whole_lines t.heard) e

heard_piece : (piece : List ℕ) (t : Talk) → 0 < length piece → heard_lines (heard_more piece t) ≡ whole_lines t.heard ++ whole_lines_from (last_line t.heard) piece
heard_piece piece t some = heard_whole (heard_more piece t) (not_end piece some) ∙ whole_append [] t.heard piece

heard_all : (t : Talk) → heard_lines (heard_more [] t) ≡ whole_lines t.heard ++ line_unless_empty (last_line t.heard)
heard_all t = ap lines (append-nil t.heard)

-- ---- what was said

said_two : (said out unsaid text more : List ℕ) → said ≡ text → out ++ unsaid ≡ [] ++ more → (said ++ out) ++ unsaid ≡ text ++ more
said_two said out unsaid text more e split =
    append_assoc said out unsaid ∙ ap (λ (l : List ℕ). said ++ l) split ∙ ap (λ (l : List ℕ). l ++ more) e

-- ---- the turns

pub holds_more : {State : Type 0} (r : Rules State) (first : State) (count : ℕ) (k1 k2 : Option (List ℕ)) (w1 w2 : List ℕ) (s1 s2 : State) (old mid new : Option Talk)
    → Holds r first count k1 w1 s1 old mid
    → ((line : List ℕ) → Keeps line k1 → w1 ≡ [] → Turned r turns.More line k2 s1 s2 w2 mid new)
    → Holds r first (count + 1) k2 w2 s2 old new
holds_more r first count k1 k2 w1 w2 s1 s2 old mid new holds turn b =
    let h = holds b in
    let t = h.0 in
    let st = h.2 in
    let turned = turn (last_line t.heard) st.keeps st.poured in
    let piece = turned.0 in
    let goes = turned.4 in (
      said_more goes.out (heard_more piece t),
      goes.told ∙ ap (λ (o : Option Talk). option_map (said_more goes.out) (option_map (heard_more piece) o)) h.1,
      record {
        replies = st.replies ++ goes.replies;
        threaded = subst (λ (l : List (List ℕ)). AllReply r first l (st.replies ++ goes.replies) s2) (sym (whole_append [] t.heard piece))
            (all_reply_append r first s1 s2 (whole_lines t.heard) (whole_lines_from (last_line t.heard) piece) st.replies goes.replies st.threaded goes.threaded);
        said = sym (append-nil (t.said ++ goes.out)) ∙ said_two t.said goes.out [] (text_of st.replies) (text_of goes.replies) st.said goes.split
            ∙ sym (text_append st.replies goes.replies);
        prompt = asks_prompt r first count k1 w1 s1 t goes.replies piece st;
        keeps = subst (λ (l : List ℕ). Keeps l k2) (sym (last_append [] t.heard piece)) turned.2;
        poured = turned.3;
        goes_on = not_end piece turned.1;
        reads = st.reads;
        writes = st.writes;
        long = omega (arith, st.long, turned.1, length-append t.heard piece);
      },
    )

pub talks_failed : {State : Type 0} (r : Rules State) (first : State) (count : ℕ) (k1 k2 : Option (List ℕ)) (w1 w2 : List ℕ) (s1 s2 : State) (old mid new : Option Talk)
    → Holds r first count k1 w1 s1 old mid
    → ((line : List ℕ) → Keeps line k1 → w1 ≡ [] → Turned r turns.ReadFailed line k2 s1 s2 w2 mid new)
    → Talks r first statuses.ReadFailed s2 old new
talks_failed r first count k1 k2 w1 w2 s1 s2 old mid new holds turn b =
    let h = holds b in
    let t = h.0 in
    let st = h.2 in
    let turned = turn (last_line t.heard) st.keeps st.poured in (
      heard_none t,
      turned.1 ∙ ap (option_map heard_none) h.1,
      record {
        answered = whole_lines t.heard;
        unanswered = [];
        heard = append-nil (whole_lines t.heard) ∙ sym (heard_whole (heard_none t) st.goes_on);
        replies = st.replies;
        behind = s1;
        threaded = st.threaded;
        unsaid = [];
        said = append-nil t.said ∙ st.said;
        prompt = st.prompt;
        ended = (st.goes_on, refl, st.writes, refl, refl, turned.0);
      },
    )

pub talks_endless : {State : Type 0} (r : Rules State) (first : State) (count : ℕ) (kept : Option (List ℕ)) (waiting : List ℕ) (s : State) (old now : Option Talk)
    → Holds r first count kept waiting s old now → 2 ^ 64 - 1 ≤ count → Talks r first statuses.Endless s old now
talks_endless r first count kept waiting s old now holds all b =
    let h = holds b in
    let t = h.0 in
    let st = h.2 in (
      t,
      h.1,
      record {
        answered = whole_lines t.heard;
        unanswered = [];
        heard = append-nil (whole_lines t.heard) ∙ sym (heard_whole t st.goes_on);
        replies = st.replies;
        behind = s;
        threaded = st.threaded;
        unsaid = [];
        said = append-nil t.said ∙ st.said;
        prompt = st.prompt;
        ended = (omega (arith, all, st.long), st.goes_on, st.reads, st.writes, refl, refl, refl);
      },
    )

-- a talk that stopped, behind what was heard of it
stopped_talk : {State : Type 0} (r : Rules State) (first behind left : State) (stop : Stop) (t : Talk) (answered unanswered replies : List (List ℕ)) (out unsaid : List ℕ)
    → answered ++ unanswered ≡ heard_lines t → AllReply r first answered replies behind → (t.said ++ out) ++ unsaid ≡ text_of replies
    → AllByRecursion (IsPrompt replies) t.asks → t.read_failed ≡ false → t.write_failed ≡ false → LeftBy r stop behind left
    → Talked r first (status_by stop) (stopped_by stop (said_more out t)) left
stopped_talk r first behind left WriteFailed t answered unanswered replies out unsaid heard threaded said prompt reads writes leaves = record {
  answered = answered;
  unanswered = unanswered;
  heard = heard;
  replies = replies;
  behind = behind;
  threaded = threaded;
  unsaid = unsaid;
  said = said;
  prompt = prompt;
  ended = (reads, refl, leaves);
}
stopped_talk r first behind left NoMemory t answered unanswered replies out unsaid heard threaded said prompt reads writes leaves = record {
  answered = answered;
  unanswered = unanswered;
  heard = heard;
  replies = replies;
  behind = behind;
  threaded = threaded;
  unsaid = unsaid;
  said = said;
  prompt = prompt;
  ended = (reads, writes, leaves);
}

stands_stops : {State : Type 0} (r : Rules State) (first : State) (count : ℕ) (kept : Option (List ℕ)) (waiting : List ℕ) (s left : State) (stop : Stop) (t : Talk)
    (piece : List ℕ) (ys : List (List ℕ)) (mid new : Option Talk)
    → Stands r first count kept waiting s t → mid ≡ Some t → heard_lines (heard_more piece t) ≡ whole_lines t.heard ++ ys
    → Stops r stop ys s left [] (option_map (heard_more piece) mid) new
    → (t1 : Talk) × (new ≡ Some t1) × Talked r first (status_by stop) t1 left
stands_stops r first count kept waiting s left stop t piece ys mid new st e all stops = (
  stopped_by stop (said_more stops.out (heard_more piece t)),
  stops.told ∙ ap (λ (o : Option Talk). option_map (λ t. stopped_by stop (said_more stops.out t)) (option_map (heard_more piece) o)) e,
  stopped_talk r first stops.behind left stop (heard_more piece t) (whole_lines t.heard ++ stops.answered) stops.unanswered (st.replies ++ stops.replies) stops.out stops.unsaid
      (append_assoc (whole_lines t.heard) stops.answered stops.unanswered ∙ ap (λ (l : List (List ℕ)). whole_lines t.heard ++ l) stops.whole ∙ sym all)
      (all_reply_append r first s stops.behind (whole_lines t.heard) stops.answered st.replies stops.replies st.threaded stops.threaded)
      (said_two t.said stops.out stops.unsaid (text_of st.replies) (text_of stops.replies) st.said stops.split ∙ sym (text_append st.replies stops.replies))
      (asks_prompt r first count kept waiting s t stops.replies piece st)
      st.reads
      st.writes
      stops.leaves,
)

pub talks_stopped : {State : Type 0} (r : Rules State) (first : State) (count : ℕ) (stop : Stop) (k1 k2 : Option (List ℕ)) (w1 w2 : List ℕ) (s1 s2 : State) (old mid new : Option Talk)
    → Holds r first count k1 w1 s1 old mid
    → ((line : List ℕ) → Keeps line k1 → w1 ≡ [] → Turned r (turns.Stopped stop) line k2 s1 s2 w2 mid new)
    → Talks r first (status_by stop) s2 old new
talks_stopped r first count stop k1 k2 w1 w2 s1 s2 old mid new holds turn b =
    let h = holds b in
    let t = h.0 in
    let turned = turn (last_line t.heard) h.2.keeps h.2.poured in
    stands_stops r first count k1 w1 s1 s2 stop t turned.0 (whole_lines_from (last_line t.heard) turned.0) mid new h.2 h.1 (heard_piece turned.0 t turned.1) turned.2

-- ---- the end

pub talks_last : {State : Type 0} (r : Rules State) (first : State) (count : ℕ) (stop : Stop) (k1 k2 : Option (List ℕ)) (w1 w2 w3 : List ℕ) (s1 s2 s3 : State)
    (old mid new last : Option Talk) → Holds r first count k1 w1 s1 old mid
    → ((line : List ℕ) → Keeps line k1 → w1 ≡ [] → Turned r turns.End line k2 s1 s2 w2 mid new)
    → ((line : List ℕ) → Keeps line k2 → Steps r (Err stop) (line_unless_empty line) s2 s3 w2 w3 new last)
    → Talks r first (status_by stop) s3 old last
talks_last {State} r first count stop k1 k2 w1 w2 w3 s1 s2 s3 old mid new last holds turn finish b =
    let h = holds b in
    let t = h.0 in
    let line = last_line t.heard in
    let turned = turn line h.2.keeps h.2.poured in
    let stops1 : Stops r stop (line_unless_empty line) s2 s3 [] new last =
    subst (λ (w : List ℕ). Stops r stop (line_unless_empty line) s2 s3 w new last) turned.1 (finish line turned.0) in
    let stops2 : Stops r stop (line_unless_empty line) s1 s3 [] new last =
    subst (λ (s : State). Stops r stop (line_unless_empty line) s s3 [] new last) turned.2 stops1 in
    let stops3 : Stops r stop (line_unless_empty line) s1 s3 [] (option_map (heard_more []) mid) last =
    subst (λ (o : Option Talk). Stops r stop (line_unless_empty line) s1 s3 [] o last) turned.3 stops2 in
    stands_stops r first count k1 w1 s1 s3 stop t [] (line_unless_empty line) mid last h.2 h.1 (heard_all t) stops3

pub talks_done : {State : Type 0} (r : Rules State) (first : State) (count : ℕ) (k1 k2 : Option (List ℕ)) (w1 w2 w3 : List ℕ) (s1 s2 s3 : State)
    (old mid new last : Option Talk) → Holds r first count k1 w1 s1 old mid
    → ((line : List ℕ) → Keeps line k1 → w1 ≡ [] → Turned r turns.End line k2 s1 s2 w2 mid new)
    → ((line : List ℕ) → Keeps line k2 → Goes r (line_unless_empty line) s2 s3 w2 w3 new last) → w3 ≡ []
    → Talks r first statuses.Done s3 old last
talks_done {State} r first count k1 k2 w1 w2 w3 s1 s2 s3 old mid new last holds turn finish poured b =
    let h = holds b in
    let t = h.0 in
    let st = h.2 in
    let line = last_line t.heard in
    let turned = turn line st.keeps st.poured in
    let goes = finish line turned.0 in
    let t1 : Talk = said_more goes.out (heard_more [] t) in
    let split : goes.out ++ [] ≡ [] ++ text_of goes.replies =
    ap (λ (l : List ℕ). goes.out ++ l) (sym poured) ∙ goes.split ∙ ap (λ (l : List ℕ). l ++ text_of goes.replies) turned.1 in
    let threaded : AllReply r s1 (line_unless_empty line) goes.replies s3 =
    subst (λ (s : State). AllReply r s (line_unless_empty line) goes.replies s3) turned.2 goes.threaded in (
      t1,
      goes.told ∙ ap (option_map (said_more goes.out)) (turned.3 ∙ ap (option_map (heard_more [])) h.1),
      record {
        answered = whole_lines t.heard ++ line_unless_empty line;
        unanswered = [];
        heard = append-nil (whole_lines t.heard ++ line_unless_empty line) ∙ sym (heard_all t);
        replies = st.replies ++ goes.replies;
        behind = s3;
        threaded = all_reply_append r first s1 s3 (whole_lines t.heard) (line_unless_empty line) st.replies goes.replies st.threaded threaded;
        unsaid = [];
        said = said_two t.said goes.out [] (text_of st.replies) (text_of goes.replies) st.said split ∙ sym (text_append st.replies goes.replies);
        prompt = asks_prompt r first count k1 w1 s1 t goes.replies [] st;
        ended = (refl, st.reads, st.writes, refl, refl, refl);
      },
    )
