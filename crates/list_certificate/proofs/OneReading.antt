-- What is read of a certificate is one: its states are in order, and its lines are cut at line feeds.
use Rattle.std.proofs.Common.{◌≡◌, ℕ, zero, suc, ◌+◌, ◌-◌, ◌<◌, ◌⊎◌, inl, inr, Bool, true, ◌==◌, List, [], ◌∷◌, ◌++◌, length, take, drop, get_or, Option, Some, None, Result, Ok, Err, slice_get, position, refl, sym, ◌∙◌, ap, subst, arith, nat_lt}
use Rattle.std.specs.Prelude.{IsSome, IfOk}
use Rattle.std.specs.List.{slice_split, position_or_len}
use Rattle.std.proofs.lemmas.Bool.{cases_lt, false≢true, ltb-true}
use Rattle.std.proofs.lemmas.Option.{none-some, same_Some, cond_some, slice_get_within, slice_get-get_or}
use Rattle.std.proofs.lemmas.List.Splits.{slice_split_none, slice_split_first, length-slice_split}
use Rattle.net_model.specs.Network.{Network}
use Rattle.net_model.proofs.NamedLemmas.{position_None}
use Rattle.list_pack.specs.declared.types.State.{State}
use Rattle.list_pack.specs.declared.types.Potential.{Potential}
use Rattle.list_pack.specs.LegsValue.{LegsValue}
use Rattle.list_pack.specs.Costs.{IsState}
use Rattle.list_pack.specs.Least.{IsBefore, state_key}
use Rattle.list_certificate.specs.declared.certificate_types.PotentialLine.{PotentialLine}
use Rattle.list_certificate.specs.declared.certificate_types.PathLine.{PathLine}
use Rattle.list_certificate.specs.declared.certificate_types.Cert.{Cert}
use Rattle.list_certificate.specs.declared.certificate_types.CertFault.{CertFault}
use Rattle.list_certificate.specs.declared.item.Item.{Item}
use Rattle.list_certificate.specs.declared.item.Item.TheVariants as items
use Rattle.list_certificate.specs.declared.draft.Progress.{Progress}
use Rattle.list_certificate.specs.declared.draft.Progress.TheVariants as stages
use Rattle.list_certificate.specs.CertsTerms.{IsWritten, IsCert}
use Rattle.list_certificate.specs.CertificateReading.{Cut, cut_by, cut_at, Read, nothing_read, is_behind, is_next, with_potential, with_step, before_head, after_head, in_path, before_end, with_line_at, with_line, item_in, cert_of, ended_by, ended, go_on, reads}
use Rattle.list_certificate.specs.CertificateReadingTerms.{IsItem, AreStates, GivesCertificate}
use Rattle.list_pack.proofs.ListOrders.{lex_trans}

-- ---- what was read so far

abbrev pub IsWay : Progress → Option ℕ → List PathLine → Type 0
IsWay stages.BeforeHead none path = (none ≡ None) × (path ≡ [])
IsWay stages.AfterHead none path = (none ≡ None) × (path ≡ [])
IsWay stages.InPath none path = (none ≡ None) × (0 < length path)
IsWay stages.BeforeEnd none path = (path ≡ []) × IsSome none
IsWay stages.AtEnd none path = IsWritten none path

pub record IsRead (v : LegsValue) (r : Read) : Type 0 where
  pub states : AreStates v r.potentials
  pub order : (i j : ℕ) (l m : PotentialLine) → slice_get r.potentials i ≡ Some l → slice_get r.potentials j ≡ Some m → i < j
      → IsBefore v l.potential.state m.potential.state
  pub way : IsWay r.stage r.none r.path

pub nothing_is_read : (v : LegsValue) → IsRead v nothing_read
nothing_is_read v =
    record { states = λ i l e. absurd (none-some l e); order = λ i j l m e f h. absurd (none-some l e); way = (refl, refl) }

-- an item of a list with one more at its end
item_of_more : {X : Type 0} (xs : List X) (x : X) (i : ℕ) (y : X) → slice_get (xs ++ x ∷ []) i ≡ Some y
    → (slice_get xs i ≡ Some y) ⊎ ((i ≡ length xs) × (x ≡ y))
item_of_more [] x zero y e = inr (refl, same_Some x y e)
item_of_more [] x (suc i) y e = absurd (none-some y e)
item_of_more (z ∷ zs) x zero y e = inl e
item_of_more (z ∷ zs) x (suc i) y e =
    elim (item_of_more zs x i y e) as (λ w. (slice_get (z ∷ zs) (suc i) ≡ Some y) ⊎ ((suc i ≡ length (z ∷ zs)) × (x ≡ y))) [
      | inl old ↦ inl old
      | inr new ↦ inr (omega (arith, new.0), new.1)
    ]

-- each line is before a state that is after the last
all_before : (v : LegsValue) (r : Read) (s : State) → IsRead v r → is_next v r.potentials s ≡ true → (i : ℕ) (l : PotentialLine)
    → slice_get r.potentials i ≡ Some l
    → IsBefore v l.potential.state s
all_before v r s is next i l e =
    let within = slice_get_within r.potentials i l e in
    let last = length r.potentials - 1 in
    let m = get_or r.potentials last l in
    let here : slice_get r.potentials last ≡ Some m = slice_get-get_or r.potentials last l (omega (arith, within)) in
    let before : IsBefore v m.potential.state s = sym (ap (λ (o : Option PotentialLine). is_behind v o s) here) ∙ next in
    elim (cases_lt i last) as (λ w. IsBefore v l.potential.state s) [
      | inl less ↦
          lex_trans (state_key v l.potential.state) (state_key v m.potential.state) (state_key v s) (is.order i last l m e here less) before
      | inr more ↦
          let same : i ≡ last = omega (arith, within, more) in
          let it : m ≡ l = same_Some m l (sym here ∙ ap (slice_get r.potentials) (sym same) ∙ e) in
          subst (λ (x : PotentialLine). IsBefore v x.potential.state s) it before
    ]

potential_read : (v : LegsValue) (r : Read) (line : ℕ) (q : Potential) → IsRead v r → IsState v q.state
    → is_next v r.potentials q.state ≡ true
    → IsRead v (with_potential r line q)
potential_read v r line q is is_state next =
    record {
      states = λ i l e.
          elim (item_of_more r.potentials new i l e) as (λ w. IsState v l.potential.state) [
            | inl old ↦ is.states i l old
            | inr it ↦ subst (λ (x : PotentialLine). IsState v x.potential.state) it.1 is_state
          ];
      order = λ i j l m e f h.
          elim (item_of_more r.potentials new j m f) as (λ w. IsBefore v l.potential.state m.potential.state) [
            | inl old ↦
                elim (item_of_more r.potentials new i l e) as (λ w. IsBefore v l.potential.state m.potential.state) [
                  | inl also ↦ is.order i j l m also old h
                  | inr it ↦
                      let within = slice_get_within r.potentials j m old in
                      absurd (omega (arith, within, it.0, h))
                ]
            | inr it ↦
                subst (λ (x : PotentialLine). IsBefore v l.potential.state x.potential.state) it.1
                (elim (item_of_more r.potentials new i l e) as (λ w. IsBefore v l.potential.state q.state) [
                  | inl also ↦ all_before v r q.state is next i l also
                  | inr that ↦ absurd (omega (arith, it.0, that.0, h))
                ])
          ];
      way = is.way;
    }
  where
    new : PotentialLine
    new = record { potential = q; line = line }

some_end : {X : Type 0} (xs : List X) (x : X) → 0 < length (xs ++ x ∷ [])
some_end [] x = omega arith
some_end (y ∷ ys) x = omega arith

written_path : (none : Option ℕ) (path : List PathLine) → none ≡ None → 0 < length path → IsWritten none path
written_path none path e h = subst (λ (o : Option ℕ). IsWritten o path) (sym e) h

written_none : (none : Option ℕ) (path : List PathLine) → path ≡ [] → IsSome none → IsWritten none path
written_none None path e h = absurd (false≢true h)
written_none (Some line) path e h = e

module _ (v : LegsValue) (r next : Read) (line : ℕ) (is : IsRead v r) where
  abbrev Way : Progress → Type 0
  Way stage = IsWay stage r.none r.path

  read_before : (item : Item) → Way stages.BeforeHead → before_head r line item ≡ Some next → IsRead v next
  read_before items.Comment way e = subst (IsRead v) (same_Some r next e) is
  read_before items.Head way e =
      subst (IsRead v) (same_Some (record r { stage = stages.AfterHead; head = line }) next e)
      (record { states = is.states; order = is.order; way = way })
  read_before items.End way e = absurd (none-some next e)
  read_before (items.Step p) way e = absurd (none-some next e)
  read_before (items.Listed q) way e = absurd (none-some next e)
  read_before items.NoPath way e = absurd (none-some next e)
  read_before items.Other way e = absurd (none-some next e)

  read_after : (item : Item) → r.stage ≡ stages.AfterHead → Way stages.AfterHead → IsItem v item → after_head v r line item ≡ Some next
      → IsRead v next
  read_after (items.Listed q) at way state e =
      let both = cond_some (is_next v r.potentials q.state) (with_potential r line q) next e in
      subst (IsRead v) both.1 (potential_read v r line q is state both.0)
  read_after (items.Step p) at way state e =
      subst (IsRead v) (same_Some (with_step r line p) next e)
      (record { states = is.states; order = is.order; way = (way.0, some_end r.path (record { step = p; line = line })) })
  read_after items.NoPath at way state e =
      subst (IsRead v) (same_Some (record r { stage = stages.BeforeEnd; none = Some line }) next e)
      (record { states = is.states; order = is.order; way = (way.1, refl) })
  read_after items.Comment at way state e = absurd (none-some next e)
  read_after items.Head at way state e = absurd (none-some next e)
  read_after items.End at way state e = absurd (none-some next e)
  read_after items.Other at way state e = absurd (none-some next e)

  read_path : (item : Item) → Way stages.InPath → in_path r line item ≡ Some next → IsRead v next
  read_path (items.Step p) way e =
      subst (IsRead v) (same_Some (with_step r line p) next e)
      (record { states = is.states; order = is.order; way = (way.0, some_end r.path (record { step = p; line = line })) })
  read_path items.End way e =
      subst (IsRead v) (same_Some (record r { stage = stages.AtEnd; end = line }) next e)
      (record { states = is.states; order = is.order; way = written_path r.none r.path way.0 way.1 })
  read_path (items.Listed q) way e = absurd (none-some next e)
  read_path items.NoPath way e = absurd (none-some next e)
  read_path items.Comment way e = absurd (none-some next e)
  read_path items.Head way e = absurd (none-some next e)
  read_path items.Other way e = absurd (none-some next e)

  read_end : (item : Item) → Way stages.BeforeEnd → before_end r line item ≡ Some next → IsRead v next
  read_end items.End way e =
      subst (IsRead v) (same_Some (record r { stage = stages.AtEnd; end = line }) next e)
      (record { states = is.states; order = is.order; way = written_none r.none r.path way.0 way.1 })
  read_end (items.Step p) way e = absurd (none-some next e)
  read_end (items.Listed q) way e = absurd (none-some next e)
  read_end items.NoPath way e = absurd (none-some next e)
  read_end items.Comment way e = absurd (none-some next e)
  read_end items.Head way e = absurd (none-some next e)
  read_end items.Other way e = absurd (none-some next e)

  read_at : (item : Item) (stage : Progress) → r.stage ≡ stage → IsItem v item → with_line_at v stage r line item ≡ Some next
      → IsRead v next
  read_at item stages.BeforeHead at state e = read_before item (subst Way at is.way) e
  read_at item stages.AfterHead at state e = read_after item at (subst Way at is.way) state e
  read_at item stages.InPath at state e = read_path item (subst Way at is.way) e
  read_at item stages.BeforeEnd at state e = read_end item (subst Way at is.way) e
  read_at item stages.AtEnd at state e = absurd (none-some next e)

  pub line_read : (item : Item) → IsItem v item → with_line v r line item ≡ Some next → IsRead v next
  unfolding with_line
  line_read item state e = read_at item r.stage refl state e

-- what was read to its end is a certificate
pub read_cert : (v : LegsValue) (r : Read) → IsRead v r → r.stage ≡ stages.AtEnd → IsCert v (cert_of r)
read_cert v r is at =
    record {
      states = λ k d h. is.states k (get_or r.potentials k d) (slice_get-get_or r.potentials k d h);
      order = λ i j d h k.
          is.order i j (get_or r.potentials i d) (get_or r.potentials j d) (slice_get-get_or r.potentials i d (omega (arith, h, k)))
          (slice_get-get_or r.potentials j d k) h;
      written = subst (λ (s : Progress). IsWay s r.none r.path) at is.way;
    }

err_ok : {A B : Type 0} (e : B) (a : A) → ◌≡◌ {A = Result A B} (Err e) (Ok a) → ⊥
err_ok e a h = cc

pub ended_cert : (v : LegsValue) (r : Read) (line : ℕ) (last : List ℕ) (cert : Cert) (stage : Progress) → IsRead v r → r.stage ≡ stage
    → ended_by stage r line last ≡ Ok cert
    → IsCert v cert
ended_cert v r line [] cert stages.AtEnd is at e =
    let same : cert_of r ≡ cert = cc in
    subst (IsCert v) same (read_cert v r is at)
ended_cert v r line (b ∷ bs) cert stages.AtEnd is at e = absurd (err_ok line cert e)
ended_cert v r line last cert stages.BeforeHead is at e = absurd (err_ok line cert e)
ended_cert v r line last cert stages.AfterHead is at e = absurd (err_ok line cert e)
ended_cert v r line last cert stages.InPath is at e = absurd (err_ok line cert e)
ended_cert v r line last cert stages.BeforeEnd is at e = absurd (err_ok line cert e)

pub given_cert : (v : LegsValue) (r : Read) (line : ℕ) (last : List ℕ) (result : Result Cert CertFault) → IsRead v r
    → GivesCertificate result (ended r line last)
    → IfOk result (IsCert v)
given_cert v r line last (Ok cert) is e = ended_cert v r line last cert r.stage is refl e
given_cert v r line last (Err fault) is e = tt

-- ---- lines

abbrev is_feed : ℕ → Bool
is_feed b = b == 10

cut_last_by : (text : List ℕ) (o : Option ℕ) → position is_feed text ≡ o → cut_by text o ≡ None → slice_split is_feed text ≡ text ∷ []
cut_last_by text None e h =
    slice_split_none is_feed text (λ k d within.
    position_None is_feed text e k (get_or text k d) (slice_get-get_or text k d within))
cut_last_by text (Some i) e h = absurd (none-some (record { front = take i text; rest = drop (i + 1) text }) (sym h))

cut_line_by : (text : List ℕ) (o : Option ℕ) (c : Cut) → position is_feed text ≡ o → cut_by text o ≡ Some c
    → slice_split is_feed text ≡ c.front ∷ slice_split is_feed c.rest
cut_line_by text None c e h = absurd (none-some c h)
cut_line_by text (Some i) c e h =
    let both = cond_some (nat_lt (position_or_len is_feed text) (length text)) (position_or_len is_feed text) i e in
    let within = ltb-true (position_or_len is_feed text) (length text) both.0 in
    let made : Cut = record { front = take i text; rest = drop (i + 1) text } in
    let is : made ≡ c = same_Some made c h in
    slice_split_first is_feed text 0 within
    ∙ ap (λ (n : ℕ). take n text ∷ slice_split is_feed (drop (n + 1) text)) both.1
    ∙ ap (λ (x : Cut). x.front ∷ slice_split is_feed x.rest) is

pub cut_last : (text : List ℕ) → cut_at 10 text ≡ None → slice_split is_feed text ≡ text ∷ []
unfolding cut_at
cut_last text h = cut_last_by text (position is_feed text) refl h

pub cut_line : (text : List ℕ) (c : Cut) → cut_at 10 text ≡ Some c → slice_split is_feed text ≡ c.front ∷ slice_split is_feed c.rest
unfolding cut_at
cut_line text c h = cut_line_by text (position is_feed text) c refl h

pub reads_go : (net : Network) (v : LegsValue) (bytes : List ℕ) (parts : List (List ℕ)) (line : ℕ) (r : Read) → 0 < length parts
    → reads net v (bytes ∷ parts) line r ≡ go_on (with_line v r line (item_in net v bytes)) line (reads net v parts (line + 1))
reads_go net v bytes [] line r h = absurd (omega (arith, h))
reads_go net v bytes (more ∷ parts) line r h = refl

module _ (net : Network) (v : LegsValue) (text : List ℕ) (line : ℕ) (r : Read) where
  pub reads_last : cut_at 10 text ≡ None → reads net v (slice_split is_feed text) line r ≡ ended r line text
  reads_last h = ap (λ (parts : List (List ℕ)). reads net v parts line r) (cut_last text h)

  pub reads_line : (c : Cut) (o : Option Read) → cut_at 10 text ≡ Some c → with_line v r line (item_in net v c.front) ≡ o
      → reads net v (slice_split is_feed text) line r ≡ go_on o line (reads net v (slice_split is_feed c.rest) (line + 1))
  reads_line c o h e =
      let size = length-slice_split is_feed c.rest in
      ap (λ (parts : List (List ℕ)). reads net v parts line r) (cut_line text c h)
      ∙ reads_go net v c.front (slice_split is_feed c.rest) line r (omega (arith, size))
      ∙ ap (λ (x : Option Read). go_on x line (reads net v (slice_split is_feed c.rest) (line + 1))) e
