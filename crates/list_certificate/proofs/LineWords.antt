-- A line that is printed is read back.
use Rattle.std.proofs.Common.{◌≡◌, ℕ, ◌-◌, ◌^◌, ◌<◌, ◌≤◌, Bool, true, false, cond, ◌==◌, not, List, [], ◌∷◌, ◌++◌, Option, Some, None, codes, bytes_eq, slice_index, option_and_then, refl, sym, ◌∙◌, ap, arith, append_assoc, div-le_self}
use Rattle.std.specs.Fmt.{decimal}
use Rattle.std.specs.List.{list_all}
use Rattle.std.proofs.lemmas.Bool.{and_from, eq-eqb, le-ltb, le-leb, cond-true, cond-false, false_from_ne_true, not-true}
use Rattle.std.proofs.lemmas.Fmt.{decimal_digit}
use Rattle.std.proofs.lemmas.List.Sums.{AllPass-from_list_all}
use Rattle.std.proofs.lemmas.Slice.Eq.{bytes_eq-Decides}
use Rattle.v6_addr.specs.Address.{PrefixValue}
use Rattle.v6_addr.specs.AddressTerms.{IsPrefix}
use Rattle.v6_addr.specs.Text.{prefix_text}
use Rattle.srv6_rules.specs.declared.sid.Csid.{Csid}
use Rattle.srv6_rules.specs.declared.sid.Csid.TheVariants.{Plain, Next, Replace}
use Rattle.net_model.specs.Network.{Network}
use Rattle.net_model.specs.NetworkRulesTerms.{IsNetwork}
use Rattle.list_pack.specs.declared.types.Cost.{Cost}
use Rattle.list_pack.specs.declared.types.State.{State}
use Rattle.list_pack.specs.declared.types.Shape.{Shape}
use Rattle.list_pack.specs.declared.types.PathStep.{PathStep}
use Rattle.list_pack.specs.declared.types.Potential.{Potential}
use Rattle.list_pack.specs.Paths.{cost_with}
use Rattle.list_pack.specs.LegsValue.{LegsValue}
use Rattle.list_pack.specs.LegsValueTerms.{KeepsLaws}
use Rattle.list_pack.specs.Rooms.{top_room_by, top_room}
use Rattle.list_pack.specs.Costs.{IsState, IsStateBy}
use Rattle.list_certificate.specs.declared.certificate_types.Form.{Form}
use Rattle.list_certificate.specs.declared.certificate_types.Form.TheVariants.{First, Second}
use Rattle.list_certificate.specs.declared.item.Item.TheVariants as items
use Rattle.list_certificate.specs.Spelling.{form_of, cost_text, sid_text, start_text, placed_text, state_text_by, potential_of_text, potential_text, stay_text, new_text, step_text, head_words}
use Rattle.list_certificate.specs.CertificateReading.{RowValue, first_cost_in, second_cost_in, cost_in, row_in, placed_in, state_in, potential_in, step_by, step_in, listed_item, step_item, item_by, item_in}
use Rattle.list_certificate.specs.CertificateReadingTerms.{IsNetworkOf}
use Rattle.list_certificate.proofs.Marks.{Lacks, IsWord, word_feed, word_space, decimal_word, number_read, cut_first, lacks_joined, lacks_mark}
use Rattle.list_certificate.proofs.PrefixWords.{prefix_word, prefix_read}
use Rattle.list_certificate.proofs.SidWords.{sid_lacks, sid_no_dash, sid_read}

-- a cost is read back as it is printed: its numbers have 32 bits, and it has no SIDs where the form has none
abbrev pub HasSids : Form → ℕ → Type 0
HasSids First sids = sids ≡ 0
HasSids Second sids = sids < 2 ^ 32

pub record HasNumbers (form : Form) (c : Cost) : Type 0 where
  pub containers : c.containers < 2 ^ 32
  pub sids : HasSids form c.sids
  pub hops : c.hops < 2 ^ 32

-- a text that computes has no mark where a test says so
pub plain_lacks : (mark : ℕ) (text : List ℕ) → list_all (λ b. not (b == mark)) text ≡ true → Lacks mark text
plain_lacks mark text h k d within = not-true _ (AllPass-from_list_all (λ b. not (b == mark)) text h k d within)

digits_lack : (mark n : ℕ) → n < 2 ^ 32 → ((text : List ℕ) → IsWord text → Lacks mark text) → Lacks mark (decimal n)
digits_lack mark n h lacks = lacks (decimal n) (decimal_word n (omega (arith, h)))

-- ---- a cost

cost_read : (form : Form) (c : Cost) → HasNumbers form c → cost_in form (cost_text form c) ≡ Some c
unfolding first_cost_in second_cost_in cost_text
cost_read First c few =
    let read : first_cost_in (decimal c.containers ++ 32 ∷ decimal c.hops) ≡ Some (cost_with c.containers 0 c.hops) =
    rw (
      cut_first 32 (decimal c.containers) (decimal c.hops) (digits_lack 32 c.containers few.containers word_space),
      number_read c.containers few.containers,
      number_read c.hops few.hops,
    ) in
    read ∙ ap (λ (x : ℕ). Some (cost_with c.containers x c.hops)) (sym few.sids)
cost_read Second c few =
    let two = decimal c.sids ++ 32 ∷ decimal c.hops in
    rw (
      cut_first 32 (decimal c.containers) two (digits_lack 32 c.containers few.containers word_space),
      cut_first 32 (decimal c.sids) (decimal c.hops) (digits_lack 32 c.sids few.sids word_space),
      number_read c.containers few.containers,
      number_read c.sids few.sids,
      number_read c.hops few.hops,
    )

cost_feed : (form : Form) (c : Cost) → HasNumbers form c → Lacks 10 (cost_text form c)
unfolding cost_text
cost_feed First c few =
    lacks_joined 10 (decimal c.containers) (32 ∷ decimal c.hops) (digits_lack 10 c.containers few.containers word_feed)
    (lacks_mark 10 32 (decimal c.hops) refl (digits_lack 10 c.hops few.hops word_feed))
cost_feed Second c few =
    let two = decimal c.sids ++ 32 ∷ decimal c.hops in
    lacks_joined 10 (decimal c.containers) (32 ∷ two) (digits_lack 10 c.containers few.containers word_feed)
    (lacks_mark 10 32 two refl
    (lacks_joined 10 (decimal c.sids) (32 ∷ decimal c.hops) (digits_lack 10 c.sids few.sids word_feed)
    (lacks_mark 10 32 (decimal c.hops) refl (digits_lack 10 c.hops few.hops word_feed))))

-- ---- the words of a line with a potential

abbrev pub row_text : ℕ → List ℕ → ℕ → List ℕ → List ℕ
row_text position sid room cost = decimal position ++ 32 ∷ (sid ++ 32 ∷ (decimal room ++ 32 ∷ cost))

pub row_read : (form : Form) (position room : ℕ) (sid : List ℕ) (c : Cost) → position < 2 ^ 32 → room < 2 ^ 32 → Lacks 32 sid
    → HasNumbers form c
    → row_in form (row_text position sid room (cost_text form c))
    ≡ Some (record { position = position; sid = sid; room = room; cost = c })
unfolding row_in
row_read form position room sid c a b none few =
    let four = cost_text form c in
    let three = decimal room ++ 32 ∷ four in
    let two = sid ++ 32 ∷ three in
    rw (
      cut_first 32 (decimal position) two (digits_lack 32 position a word_space),
      cut_first 32 sid three none,
      cut_first 32 (decimal room) four (digits_lack 32 room b word_space),
      number_read position a,
      number_read room b,
      cost_read form c few,
    )

pub row_feed : (position room : ℕ) (sid cost : List ℕ) → position < 2 ^ 32 → room < 2 ^ 32 → Lacks 10 sid → Lacks 10 cost
    → Lacks 10 (row_text position sid room cost)
row_feed position room sid cost a b none also =
    let three = decimal room ++ 32 ∷ cost in
    let two = sid ++ 32 ∷ three in
    lacks_joined 10 (decimal position) (32 ∷ two) (digits_lack 10 position a word_feed)
    (lacks_mark 10 32 two refl
    (lacks_joined 10 sid (32 ∷ three) none
    (lacks_mark 10 32 three refl
    (lacks_joined 10 (decimal room) (32 ∷ cost) (digits_lack 10 room b word_feed) (lacks_mark 10 32 cost refl also)))))

-- ---- states

top_by : (c : Csid) (s : Shape) → top_room_by c s ≤ 128
top_by Plain s = omega arith
top_by Next s = omega arith
top_by Replace s = omega (arith, div-le_self 128 (s.prefix.len - s.lbl))

pub room_few : (v : LegsValue) (position : ℕ) (via : Option ℕ) (room : ℕ) → IsStateBy v position via room → room ≤ 128
room_few v position None room is = omega (arith, is.1)
room_few v position (Some n) room is = let top : top_room (v.shape n) ≤ 128 =
    top_by (v.shape n).csid (v.shape n) in omega (arith, is.3, top)

pub position_few : (v : LegsValue) → KeepsLaws v → (position : ℕ) (via : Option ℕ) (room : ℕ) → IsStateBy v position via room
    → position ≤ 48
position_few v laws position None room is = omega (arith, is.0)
position_few v laws position (Some n) room is = omega (arith, is.0, laws.steps)

-- the word that names a state's SID
abbrev pub via_text : Network → Option ℕ → List ℕ
via_text net None = 45 ∷ []
via_text net (Some n) = sid_text net n

pub state_words : (net : Network) (v : LegsValue) (position : ℕ) (via : Option ℕ) (room : ℕ) → IsStateBy v position via room
    → state_text_by net position via room ≡ decimal position ++ 32 ∷ (via_text net via ++ 32 ∷ decimal room)
unfolding start_text placed_text
state_words net v position None room is =
    let zeros : start_text ≡ decimal 0 ++ 32 ∷ (45 ∷ (32 ∷ decimal 0)) =
    sym (ap (λ (ds : List ℕ). ds ++ 32 ∷ (45 ∷ (32 ∷ ds))) (decimal_digit 0 (omega arith))) in
    zeros ∙ ap (λ (x : ℕ). decimal x ++ 32 ∷ (45 ∷ (32 ∷ decimal 0))) (sym is.0)
    ∙ ap (λ (x : ℕ). decimal position ++ 32 ∷ (45 ∷ (32 ∷ decimal x))) (sym is.1)
state_words net v position (Some n) room is = refl

module _ (net : Network) (v : LegsValue) (rules : IsNetwork net) (laws : KeepsLaws v) (is_net : IsNetworkOf net v) where
  via_lacks : (mark position : ℕ) (via : Option ℕ) (room : ℕ) → IsStateBy v position via room → (64 == mark) ≡ false → (45 == mark) ≡ false
      → ((text : List ℕ) → IsWord text → Lacks mark text)
      → Lacks mark (via_text net via)
  via_lacks mark position None room is at dash lacks = lacks_mark mark 45 [] dash (plain_lacks mark [] refl)
  via_lacks mark position (Some n) room is at dash lacks = sid_lacks net v rules laws is_net mark n (position, is.0, is.1) at lacks

  state_read : (position : ℕ) (via : Option ℕ) (room : ℕ) (cost : Cost) → IsStateBy v position via room
      → state_in net v (record { position = position; sid = via_text net via; room = room; cost = cost })
      ≡ Some (record { position = position; via = via; room = room })
  unfolding state_in
  state_read position None room cost is =
      let first : (x : ℕ) → State = λ x. record { position = x; via = None; room = 0 } in
      let last : (x : ℕ) → State = λ x. record { position = position; via = None; room = x } in
      cond-true _ _ _ (and_from (position == 0) (room == 0) (eq-eqb position 0 is.0) (eq-eqb room 0 is.1))
      ∙ ap (λ (x : ℕ). Some (first x)) (sym is.0) ∙ ap (λ (x : ℕ). Some (last x)) (sym is.1)
  state_read position (Some n) room cost is =
      let row : RowValue = record { position = position; sid = sid_text net n; room = room; cost = cost } in
      let no_dash : bytes_eq (sid_text net n) (codes "-") ≡ false =
      false_from_ne_true (bytes_eq (sid_text net n) (codes "-")) (λ e.
      sid_no_dash net v rules laws is_net n (position, is.0, is.1) ((bytes_eq-Decides (sid_text net n) (codes "-")).0 e)) in
      cond-false _ _ _ no_dash
      ∙ cond-false _ _ _ (le-ltb v.steps position is.0)
      ∙ ap (option_and_then (placed_in v position room)) (sid_read net v rules laws is_net position n is.0 is.1 is.2)
      ∙ cond-true _ _ _ (le-leb room (top_room (v.shape n)) is.3)

  -- the words of a potential's line, after its first
  abbrev pub words_of : Potential → List ℕ
  words_of q = row_text q.state.position (via_text net q.state.via) q.state.room (cost_text (form_of v.sid_cost) q.cost)

  pub potential_read : (q : Potential) → IsState v q.state → HasNumbers (form_of v.sid_cost) q.cost
      → potential_in net v (words_of q) ≡ Some q
  unfolding potential_in
  potential_read q is few =
      let position = position_few v laws q.state.position q.state.via q.state.room is in
      let room = room_few v q.state.position q.state.via q.state.room is in
      let row =
      row_read (form_of v.sid_cost) q.state.position q.state.room (via_text net q.state.via) q.cost (omega (arith, position))
      (omega (arith, room)) (via_lacks 32 q.state.position q.state.via q.state.room is refl refl word_space) few in
      let state = state_read q.state.position q.state.via q.state.room q.cost is in
      rw (row, state)

  pub words_feed : (q : Potential) → IsState v q.state → HasNumbers (form_of v.sid_cost) q.cost → Lacks 10 (words_of q)
  words_feed q is few =
      let position = position_few v laws q.state.position q.state.via q.state.room is in
      let room = room_few v q.state.position q.state.via q.state.room is in
      row_feed q.state.position q.state.room (via_text net q.state.via) (cost_text (form_of v.sid_cost) q.cost) (omega (arith, position))
      (omega (arith, room)) (via_lacks 10 q.state.position q.state.via q.state.room is refl refl word_feed)
      (cost_feed (form_of v.sid_cost) q.cost few)

-- ---- the head of a form, and lines that are none

pub head_feed : (form : Form) → Lacks 10 (head_words form)
head_feed First = plain_lacks 10 (codes "srv6 certificate 1") refl
head_feed Second = plain_lacks 10 (codes "srv6 certificate 2") refl

pub head_hash : (form : Form) → (slice_index (head_words form) 0 == 35) ≡ false
head_hash First = refl
head_hash Second = refl

pub end_no_head : (form : Form) → bytes_eq (codes "end") (head_words form) ≡ false
end_no_head First = refl
end_no_head Second = refl

pub none_no_head : (form : Form) → bytes_eq (codes "none") (head_words form) ≡ false
none_no_head First = refl
none_no_head Second = refl

-- ---- lines

potential_no_head : (form : Form) (text : List ℕ) → bytes_eq (codes "potential" ++ 32 ∷ text) (head_words form) ≡ false
potential_no_head First text = refl
potential_no_head Second text = refl

pub item_potential : (net : Network) (v : LegsValue) (text : List ℕ) (q : Potential) → potential_in net v text ≡ Some q
    → item_in net v (codes "potential" ++ 32 ∷ text) ≡ items.Listed q
unfolding item_in
item_potential net v text q h =
    cond-false _ _ _ (potential_no_head (form_of v.sid_cost) text)
    ∙ ap (item_by net v) (cut_first 32 (codes "potential") text (plain_lacks 32 (codes "potential") refl)) ∙ ap listed_item h

step_in_law : (word : List ℕ) (p : PrefixValue) → Lacks 32 word → IsPrefix p → step_in (word ++ 32 ∷ prefix_text p) ≡ step_by word p
unfolding step_in
step_in_law word p none is = rw (cut_first 32 word (prefix_text p) none, prefix_read p is)

-- the words of a step's line, after its first
abbrev pub turn_text : Bool → List ℕ
turn_text true = codes "stay"
turn_text false = codes "new"

turn_lacks : (stays : Bool) → Lacks 32 (turn_text stays)
turn_lacks true = plain_lacks 32 (codes "stay") refl
turn_lacks false = plain_lacks 32 (codes "new") refl

turn_step : (stays : Bool) (p : PrefixValue) → step_by (turn_text stays) p ≡ Some (record { stays = stays; prefix = p })
turn_step true p = refl
turn_step false p = refl

pub step_read : (step : PathStep) → IsPrefix step.prefix → step_in (turn_text step.stays ++ 32 ∷ prefix_text step.prefix) ≡ Some step
step_read step is = step_in_law (turn_text step.stays) step.prefix (turn_lacks step.stays) is ∙ turn_step step.stays step.prefix

step_no_head : (form : Form) (text : List ℕ) → bytes_eq (codes "path" ++ 32 ∷ text) (head_words form) ≡ false
step_no_head First text = refl
step_no_head Second text = refl

pub item_step : (net : Network) (v : LegsValue) (text : List ℕ) (p : PathStep) → step_in text ≡ Some p
    → item_in net v (codes "path" ++ 32 ∷ text) ≡ items.Step p
unfolding item_in
item_step net v text p h =
    cond-false _ _ _ (step_no_head (form_of v.sid_cost) text)
    ∙ ap (item_by net v) (cut_first 32 (codes "path") text (plain_lacks 32 (codes "path") refl)) ∙ ap step_item h

-- ---- the printed text of a line

line_end : (a w r c rest : List ℕ)
    → ((a ++ 32 ∷ (w ++ 32 ∷ r)) ++ 32 ∷ (c ++ 10 ∷ [])) ++ rest ≡ (a ++ 32 ∷ (w ++ 32 ∷ (r ++ 32 ∷ c))) ++ 10 ∷ rest
line_end a w r c rest = simp append_assoc

pub potential_line : (net : Network) (v : LegsValue) (form : Form) (q : Potential) (rest : List ℕ) → IsState v q.state
    → potential_text net form q ++ rest
    ≡ (codes "potential" ++ 32 ∷ row_text q.state.position (via_text net q.state.via) q.state.room (cost_text form q.cost)) ++ 10 ∷ rest
unfolding potential_of_text
potential_line net v form q rest is =
    ap (λ (xs : List ℕ). potential_of_text xs (cost_text form q.cost) ++ rest)
    (state_words net v q.state.position q.state.via q.state.room is)
    ∙ ap (λ (xs : List ℕ). codes "potential " ++ xs)
    (line_end (decimal q.state.position) (via_text net q.state.via) (decimal q.state.room) (cost_text form q.cost) rest)

step_line_by : (stays : Bool) (p : PrefixValue) (rest : List ℕ)
    → cond stays (stay_text p) (new_text p) ++ rest ≡ (codes "path" ++ 32 ∷ (turn_text stays ++ 32 ∷ prefix_text p)) ++ 10 ∷ rest
unfolding stay_text new_text
step_line_by true p rest = ap (λ (xs : List ℕ). codes "path stay " ++ xs) (append_assoc (prefix_text p) (10 ∷ []) rest)
step_line_by false p rest = ap (λ (xs : List ℕ). codes "path new " ++ xs) (append_assoc (prefix_text p) (10 ∷ []) rest)

pub step_line : (step : PathStep) (rest : List ℕ)
    → step_text step ++ rest ≡ (codes "path" ++ 32 ∷ (turn_text step.stays ++ 32 ∷ prefix_text step.prefix)) ++ 10 ∷ rest
step_line step rest = step_line_by step.stays step.prefix rest

turn_feed : (stays : Bool) → Lacks 10 (turn_text stays)
turn_feed true = plain_lacks 10 (codes "stay") refl
turn_feed false = plain_lacks 10 (codes "new") refl

pub step_feed : (step : PathStep) → IsPrefix step.prefix
    → Lacks 10 (codes "path" ++ 32 ∷ (turn_text step.stays ++ 32 ∷ prefix_text step.prefix))
step_feed step is =
    lacks_joined 10 (codes "path") (32 ∷ (turn_text step.stays ++ 32 ∷ prefix_text step.prefix)) (plain_lacks 10 (codes "path") refl)
    (lacks_mark 10 32 (turn_text step.stays ++ 32 ∷ prefix_text step.prefix) refl
    (lacks_joined 10 (turn_text step.stays) (32 ∷ prefix_text step.prefix) (turn_feed step.stays)
    (lacks_mark 10 32 (prefix_text step.prefix) refl (word_feed (prefix_text step.prefix) (prefix_word step.prefix is)))))

pub potential_feed : (text : List ℕ) → Lacks 10 text → Lacks 10 (codes "potential" ++ 32 ∷ text)
potential_feed text none =
    lacks_joined 10 (codes "potential") (32 ∷ text) (plain_lacks 10 (codes "potential") refl) (lacks_mark 10 32 text refl none)
