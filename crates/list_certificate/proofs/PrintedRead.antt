-- The text of a solution's certificate, after comments, is read as that certificate.
use Rattle.std.proofs.Common.{◌≡◌, ℕ, zero, suc, ◌+◌, ◌-◌, ◌<◌, Bool, true, ◌==◌, List, [], ◌∷◌, ◌++◌, length, All, AllPairs, Contains, Option, Some, None, Ok, codes, get_or, slice_get, slice_index, flat_map, refl, sym, ◌∙◌, ap, subst, arith, append_assoc, append-nil, length-append}
use Rattle.std.specs.List.{slice_split}
use Rattle.std.proofs.lemmas.Bool.{eq-eqb, ne_eqb, cond-true, cond-false}
use Rattle.std.proofs.lemmas.List.Elements.{All-nil, All-cons, All-head, All-tail, All-map}
use Rattle.std.proofs.lemmas.List.Splits.{length-slice_split}
use Rattle.std.proofs.lemmas.Slice.Eq.{bytes_eq-Decides}
use Rattle.v6_addr.specs.AddressTerms.{IsPrefix}
use Rattle.v6_addr.specs.Text.{prefix_text}
use Rattle.net_model.specs.Network.{Network}
use Rattle.net_model.specs.NetworkRulesTerms.{IsNetwork}
use Rattle.list_pack.specs.declared.types.Cost.{Cost}
use Rattle.list_pack.specs.declared.types.State.{State}
use Rattle.list_pack.specs.declared.types.PathStep.{PathStep}
use Rattle.list_pack.specs.declared.types.Potential.{Potential}
use Rattle.list_pack.specs.declared.types.Solution.{Solution}
use Rattle.list_pack.specs.LegsValue.{LegsValue}
use Rattle.list_pack.specs.LegsValueTerms.{KeepsLaws, IsSid}
use Rattle.list_pack.specs.Costs.{Move, cost_of, start, IsState}
use Rattle.list_pack.specs.Least.{step_of, IsBefore, IsListing, IsPathOrNone, IsSolution}
use Rattle.list_pack.proofs.PublicLaws.{edge_parts, last_parts}
use Rattle.list_certificate.specs.declared.certificate_types.PotentialLine.{PotentialLine}
use Rattle.list_certificate.specs.declared.certificate_types.PathLine.{PathLine}
use Rattle.list_certificate.specs.declared.certificate_types.Cert.{Cert}
use Rattle.list_certificate.specs.declared.item.Item.{Item}
use Rattle.list_certificate.specs.declared.item.Item.TheVariants as items
use Rattle.list_certificate.specs.declared.draft.Progress.{Progress}
use Rattle.list_certificate.specs.declared.draft.Progress.TheVariants as stages
use Rattle.list_certificate.specs.CertsTerms.{potential_lines, path_lines, none_line, way_count, certificate_of}
use Rattle.list_certificate.specs.Spelling.{form_of, potential_text, step_text, none_text, way_text, head_words, head_text, end_text, spelled}
use Rattle.list_certificate.specs.CertificateReading.{Read, nothing_read, is_behind, is_next, with_line, item_in, go_on, reads, read_of, cert_of, ended_by}
use Rattle.list_certificate.specs.CertificateReadingTerms.{IsNetworkOf}
use Rattle.list_certificate.specs.CertificateLaws.{IsComment, lines_text}
use Rattle.list_certificate.proofs.Marks.{Lacks, split_line}
use Rattle.list_certificate.proofs.SidWords.{entry}
use Rattle.list_certificate.proofs.LineWords.{HasNumbers, plain_lacks, head_feed, head_hash, end_no_head, none_no_head, words_of, potential_read, words_feed, item_potential, turn_text, step_read, item_step, potential_line, step_line, step_feed, potential_feed}
use Rattle.list_certificate.proofs.OneVerdict.{onward}
use Rattle.list_certificate.proofs.Bounds.{containers_few, sids_shown, hops_few}
use Rattle.list_certificate.proofs.OneReading.{reads_go}

-- ---- one line more

abbrev is_feed : ℕ → Bool
is_feed b = b == 10

module _ (net : Network) (v : LegsValue) where
  reads_item : (line rest : List ℕ) (n : ℕ) (r next : Read) (item : Item) → Lacks 10 line → item_in net v line ≡ item
      → with_line v r n item ≡ Some next
      → reads net v (slice_split is_feed (line ++ 10 ∷ rest)) n r ≡ reads net v (slice_split is_feed rest) (n + 1) next
  reads_item line rest n r next item none is with_it =
      let size = length-slice_split is_feed rest in
      ap (λ (parts : List (List ℕ)). reads net v parts n r) (split_line line rest none)
      ∙ reads_go net v line (slice_split is_feed rest) n r (omega (arith, size))
      ∙ ap (λ (x : Item). go_on (with_line v r n x) n (reads net v (slice_split is_feed rest) (n + 1))) is
      ∙ ap (λ (o : Option Read). go_on o n (reads net v (slice_split is_feed rest) (n + 1))) with_it

  -- ---- comments and the head

  comment_item : (line : List ℕ) → IsComment line → item_in net v line ≡ items.Comment
  unfolding item_in
  comment_item line is = cond-true _ _ _ (eq-eqb (slice_index line 0) 35 is.hash)

  comment_feed : (line : List ℕ) → IsComment line → Lacks 10 line
  comment_feed line is k d h =
      ne_eqb (get_or line k d) 10 (λ e. is.one_line (k, h, sym (same_default line k d 10 h) ∙ e))
    where
      same_default : (xs : List ℕ) (i a b : ℕ) → i < length xs → get_or xs i a ≡ get_or xs i b
      same_default [] i a b h = absurd (omega (arith, h))
      same_default (x ∷ xs) zero a b h = refl
      same_default (x ∷ xs) (suc i) a b h = same_default xs i a b (omega (arith, h))

  with_comment : (n : ℕ) → with_line v nothing_read n items.Comment ≡ Some nothing_read
  unfolding with_line
  with_comment n = refl

  line_on : (xs ys zs : List ℕ) → ((xs ++ 10 ∷ []) ++ ys) ++ zs ≡ xs ++ 10 ∷ (ys ++ zs)
  line_on xs ys zs = simp append_assoc

  comments_read : (comments : List (List ℕ)) (rest : List ℕ) (n : ℕ) → All IsComment comments
      → reads net v (slice_split is_feed (lines_text comments ++ rest)) n nothing_read
      ≡ reads net v (slice_split is_feed rest) (n + length comments) nothing_read
  comments_read [] rest n all =
      let same : n ≡ n + 0 = omega arith in
      ap (λ (x : ℕ). reads net v (slice_split is_feed rest) x nothing_read) same
  comments_read (c ∷ cs) rest n all =
      let is = All-head IsComment c cs all in
      let same : n + 1 + length cs ≡ n + length (c ∷ cs) = omega arith in
      ap (λ (text : List ℕ). reads net v (slice_split is_feed text) n nothing_read) (line_on c (lines_text cs) rest)
      ∙ reads_item c (lines_text cs ++ rest) n nothing_read nothing_read items.Comment (comment_feed c is) (comment_item c is)
      (with_comment n)
      ∙ comments_read cs rest (n + 1) (All-tail IsComment c cs all)
      ∙ ap (λ (x : ℕ). reads net v (slice_split is_feed rest) x nothing_read) same

  -- what was read between the head and the end
  abbrev read_so : Progress → ℕ → List PotentialLine → List PathLine → Option ℕ → Read
  read_so stage head potentials path none =
      record { stage = stage; head = head; potentials = potentials; path = path; none = none; end = 0 }

  -- the head of the form that the legs ask for
  head_item : item_in net v (head_words (form_of v.sid_cost)) ≡ items.Head
  unfolding item_in
  head_item =
      let words = head_words (form_of v.sid_cost) in
      cond-false _ _ _ (head_hash (form_of v.sid_cost)) ∙ cond-true _ _ _ ((bytes_eq-Decides words words).1 refl)

  with_head : (n : ℕ) → with_line v nothing_read n items.Head ≡ Some (read_so stages.AfterHead n [] [] None)
  unfolding with_line
  with_head n = refl

  head_read : (rest : List ℕ) (n : ℕ)
      → reads net v (slice_split is_feed (head_text (form_of v.sid_cost) ++ rest)) n nothing_read
      ≡ reads net v (slice_split is_feed rest) (n + 1) (read_so stages.AfterHead n [] [] None)
  unfolding head_text
  head_read rest n =
      let words = head_words (form_of v.sid_cost) in
      ap (λ (text : List ℕ). reads net v (slice_split is_feed text) n nothing_read) (append_assoc words (10 ∷ []) rest)
      ∙ reads_item words rest n nothing_read (read_so stages.AfterHead n [] [] None) items.Head (head_feed (form_of v.sid_cost)) head_item
      (with_head n)

  -- ---- the path, and the end

  with_step_after : (head n : ℕ) (ls : List PotentialLine) (p : PathStep)
      → with_line v (read_so stages.AfterHead head ls [] None) n (items.Step p)
      ≡ Some (read_so stages.InPath head ls (record { step = p; line = n } ∷ []) None)
  unfolding with_line
  with_step_after head n ls p = refl

  with_step_in : (head n : ℕ) (ls : List PotentialLine) (path : List PathLine) (p : PathStep)
      → with_line v (read_so stages.InPath head ls path None) n (items.Step p)
      ≡ Some (read_so stages.InPath head ls (path ++ record { step = p; line = n } ∷ []) None)
  unfolding with_line
  with_step_in head n ls path p = refl

  steps_read : (ps : List PathStep) (rest : List ℕ) (head n : ℕ) (ls : List PotentialLine) (path : List PathLine)
      → All (λ (p : PathStep). IsPrefix p.prefix) ps
      → reads net v (slice_split is_feed (flat_map step_text ps ++ rest)) n (read_so stages.InPath head ls path None)
      ≡ reads net v (slice_split is_feed rest) (n + length ps) (read_so stages.InPath head ls (path ++ path_lines n ps) None)
  steps_read [] rest head n ls path all =
      let same : n ≡ n + 0 = omega arith in
      ap (λ (x : ℕ). reads net v (slice_split is_feed rest) x (read_so stages.InPath head ls path None)) same
      ∙ ap (λ (xs : List PathLine). reads net v (slice_split is_feed rest) (n + 0) (read_so stages.InPath head ls xs None))
      (sym (append-nil path))
  steps_read (p ∷ ps) rest head n ls path all =
      let is : IsPrefix p.prefix = All-head (λ (x : PathStep). IsPrefix x.prefix) p ps all in
      let more = flat_map step_text ps ++ rest in
      let now = read_so stages.InPath head ls path None in
      let line : PathLine = record { step = p; line = n } in
      let next = read_so stages.InPath head ls (path ++ line ∷ []) None in
      let words = turn_text p.stays ++ 32 ∷ prefix_text p.prefix in
      let same : n + 1 + length ps ≡ n + length (p ∷ ps) = omega arith in
      ap (λ (text : List ℕ). reads net v (slice_split is_feed text) n now)
      (append_assoc (step_text p) (flat_map step_text ps) rest ∙ step_line p more)
      ∙ reads_item (codes "path" ++ 32 ∷ words) more n now next (items.Step p) (step_feed p is) (item_step net v words p (step_read p is))
      (with_step_in head n ls path p)
      ∙ steps_read ps rest head (n + 1) ls (path ++ line ∷ []) (All-tail (λ (x : PathStep). IsPrefix x.prefix) p ps all)
      ∙ ap (λ (x : ℕ).
      reads net v (slice_split is_feed rest) x (read_so stages.InPath head ls ((path ++ line ∷ []) ++ path_lines (n + 1) ps) None)) same
      ∙ ap (λ (xs : List PathLine). reads net v (slice_split is_feed rest) (n + length (p ∷ ps)) (read_so stages.InPath head ls xs None))
      (append_assoc path (line ∷ []) (path_lines (n + 1) ps))

  ended_at : (r : Read) (n : ℕ) → r.stage ≡ stages.AtEnd → reads net v (slice_split is_feed []) n r ≡ Ok (cert_of r)
  ended_at r n at = ap (λ (s : Progress). ended_by s r n []) at

  with_end_in : (head n : ℕ) (ls : List PotentialLine) (path : List PathLine)
      → with_line v (read_so stages.InPath head ls path None) n items.End
      ≡ Some (record { stage = stages.AtEnd; head = head; potentials = ls; path = path; none = None; end = n })
  unfolding with_line
  with_end_in head n ls path = refl

  with_none : (head n : ℕ) (ls : List PotentialLine)
      → with_line v (read_so stages.AfterHead head ls [] None) n items.NoPath
      ≡ Some (read_so stages.BeforeEnd head ls [] (Some n))
  unfolding with_line
  with_none head n ls = refl

  with_end_none : (head n m : ℕ) (ls : List PotentialLine)
      → with_line v (read_so stages.BeforeEnd head ls [] (Some m)) n items.End
      ≡ Some (record { stage = stages.AtEnd; head = head; potentials = ls; path = []; none = Some m; end = n })
  unfolding with_line
  with_end_none head n m ls = refl

  end_item : item_in net v (codes "end") ≡ items.End
  unfolding item_in
  end_item = cond-false _ _ _ (end_no_head (form_of v.sid_cost))

  none_item : item_in net v (codes "none") ≡ items.NoPath
  unfolding item_in
  none_item = cond-false _ _ _ (none_no_head (form_of v.sid_cost))

  end_read : (n : ℕ) (r next : Read) → with_line v r n items.End ≡ Some next → next.stage ≡ stages.AtEnd
      → reads net v (slice_split is_feed end_text) n r ≡ Ok (cert_of next)
  unfolding end_text
  end_read n r next with_it at =
      reads_item (codes "end") [] n r next items.End (plain_lacks 10 (codes "end") refl) end_item with_it ∙ ended_at next (n + 1) at

  -- the lines after the potentials
  way_read : (path : List PathStep) (head n : ℕ) (ls : List PotentialLine) → All (λ (p : PathStep). IsPrefix p.prefix) path
      → reads net v (slice_split is_feed (way_text path ++ end_text)) n (read_so stages.AfterHead head ls [] None)
      ≡ Ok (record { head = head; potentials = ls; path = path_lines n path; none = none_line n path; end = n + way_count path })
  unfolding none_text
  way_read [] head n ls all =
      reads_item (codes "none") end_text n (read_so stages.AfterHead head ls [] None)
      (read_so stages.BeforeEnd head ls [] (Some n)) items.NoPath
      (plain_lacks 10 (codes "none") refl) none_item (with_none head n ls)
      ∙ end_read (n + 1) (read_so stages.BeforeEnd head ls [] (Some n))
      (record { stage = stages.AtEnd; head = head; potentials = ls; path = []; none = Some n; end = n + 1 })
      (with_end_none head (n + 1) n ls) refl
  way_read (p ∷ ps) head n ls all =
      let is : IsPrefix p.prefix = All-head (λ (x : PathStep). IsPrefix x.prefix) p ps all in
      let more = flat_map step_text ps ++ end_text in
      let now = read_so stages.AfterHead head ls [] None in
      let line : PathLine = record { step = p; line = n } in
      let next = read_so stages.InPath head ls (line ∷ []) None in
      let words = turn_text p.stays ++ 32 ∷ prefix_text p.prefix in
      let last : ℕ = n + 1 + length ps in
      let same : last ≡ n + length (p ∷ ps) = omega arith in
      let whole : List PathLine = line ∷ path_lines (n + 1) ps in
      let made : (x : ℕ) → Cert = λ x. record { head = head; potentials = ls; path = whole; none = None; end = x } in
      ap (λ (text : List ℕ). reads net v (slice_split is_feed text) n now)
      (append_assoc (step_text p) (flat_map step_text ps) end_text ∙ step_line p more)
      ∙ reads_item (codes "path" ++ 32 ∷ words) more n now next (items.Step p) (step_feed p is) (item_step net v words p (step_read p is))
      (with_step_after head n ls p)
      ∙ steps_read ps end_text head (n + 1) ls (line ∷ []) (All-tail (λ (x : PathStep). IsPrefix x.prefix) p ps all)
      ∙ end_read last (read_so stages.InPath head ls whole None)
      (record { stage = stages.AtEnd; head = head; potentials = ls; path = whole; none = None; end = last })
      (with_end_in head last ls whole) refl
      ∙ ap (λ (x : ℕ). Ok (made x)) same

-- ---- the potentials

-- each potential comes after the one before it
abbrev Rises : LegsValue → Potential → List Potential → Type 0
Rises v p [] = Unit {0}
Rises v p (q ∷ qs) = IsBefore v p.state q.state × Rises v q qs

abbrev Follow : LegsValue → List PotentialLine → List Potential → Type 0
Follow v ls [] = Unit {0}
Follow v ls (q ∷ qs) = (is_next v ls q.state ≡ true) × Rises v q qs

rises_from : (v : LegsValue) (p : Potential) (qs : List Potential)
    → AllPairs (λ (x y : Potential). IsBefore v x.state y.state) (p ∷ qs)
    → Rises v p qs
rises_from v p [] order = tt
rises_from v p (q ∷ qs) order = (
  order 0 1 q (omega arith) (omega arith),
  rises_from v q qs (λ i j d h k. order (suc i) (suc j) d (omega (arith, h)) (omega (arith, k))),
)

follow_from : (v : LegsValue) (qs : List Potential) → AllPairs (λ (x y : Potential). IsBefore v x.state y.state) qs → Follow v [] qs
follow_from v [] order = tt
follow_from v (q ∷ qs) order = (refl, rises_from v q qs order)

end_at : {X : Type 0} (xs : List X) (x : X) → slice_get (xs ++ x ∷ []) (length xs) ≡ Some x
end_at [] x = refl
end_at (y ∷ ys) x = end_at ys x

next_by : (v : LegsValue) (ls : List PotentialLine) (q : Potential) (n : ℕ) (qs : List Potential) → Rises v q qs
    → Follow v (ls ++ record { potential = q; line = n } ∷ []) qs
next_by v ls q n [] h = tt
next_by v ls q n (p ∷ ps) h =
    let line : PotentialLine = record { potential = q; line = n } in
    let all = ls ++ line ∷ [] in
    let last : length all - 1 ≡ length ls = omega (arith, length-append ls (line ∷ [])) in
    let here : slice_get all (length all - 1) ≡ Some line = ap (slice_get all) last ∙ end_at ls line in
    (ap (λ (o : Option PotentialLine). is_behind v o p.state) here ∙ h.0, h.1)

-- what is asked of a potential whose line is read back
record IsReadable (v : LegsValue) (q : Potential) : Type 0 where
  is_state : IsState v q.state
  few : HasNumbers (form_of v.sid_cost) q.cost

module _ (net : Network) (v : LegsValue) (rules : IsNetwork net) (laws : KeepsLaws v) (is_net : IsNetworkOf net v) where
  with_listed : (head n : ℕ) (ls : List PotentialLine) (q : Potential) → is_next v ls q.state ≡ true
      → with_line v (read_so net v stages.AfterHead head ls [] None) n (items.Listed q)
      ≡ Some (read_so net v stages.AfterHead head (ls ++ record { potential = q; line = n } ∷ []) [] None)
  unfolding with_line
  with_listed head n ls q next = cond-true _ _ _ next

  potentials_read : (qs : List Potential) (rest : List ℕ) (head n : ℕ) (ls : List PotentialLine) → All (IsReadable v) qs → Follow v ls qs
      → reads net v (slice_split is_feed (flat_map (potential_text net (form_of v.sid_cost)) qs ++ rest)) n
      (read_so net v stages.AfterHead head ls [] None)
      ≡ reads net v (slice_split is_feed rest) (n + length qs)
      (read_so net v stages.AfterHead head (ls ++ potential_lines n qs) [] None)
  potentials_read [] rest head n ls all follow =
      let same : n ≡ n + 0 = omega arith in
      ap (λ (x : ℕ). reads net v (slice_split is_feed rest) x (read_so net v stages.AfterHead head ls [] None)) same
      ∙ ap (λ (xs : List PotentialLine). reads net v (slice_split is_feed rest) (n + 0) (read_so net v stages.AfterHead head xs [] None))
      (sym (append-nil ls))
  potentials_read (q ∷ qs) rest head n ls all follow =
      let is : IsReadable v q = All-head (IsReadable v) q qs all in
      let form = form_of v.sid_cost in
      let more = flat_map (potential_text net form) qs ++ rest in
      let line : PotentialLine = record { potential = q; line = n } in
      let now = read_so net v stages.AfterHead head ls [] None in
      let next = read_so net v stages.AfterHead head (ls ++ line ∷ []) [] None in
      let words = words_of net v rules laws is_net q in
      let same : n + 1 + length qs ≡ n + length (q ∷ qs) = omega arith in
      ap (λ (text : List ℕ). reads net v (slice_split is_feed text) n now)
      (append_assoc (potential_text net form q) (flat_map (potential_text net form) qs) rest ∙ potential_line net v form q more is.is_state)
      ∙ reads_item net v (codes "potential" ++ 32 ∷ words) more n now next (items.Listed q)
      (potential_feed words (words_feed net v rules laws is_net q is.is_state is.few))
      (item_potential net v words q (potential_read net v rules laws is_net q is.is_state is.few))
      (with_listed head n ls q follow.0)
      ∙ potentials_read qs rest head (n + 1) (ls ++ line ∷ []) (All-tail (IsReadable v) q qs all) (next_by v ls q n qs follow.1)
      ∙ ap (λ (x : ℕ).
      reads net v (slice_split is_feed rest) x (read_so net v stages.AfterHead head ((ls ++ line ∷ []) ++ potential_lines (n + 1) qs)
      [] None)) same
      ∙ ap (λ (xs : List PotentialLine).
      reads net v (slice_split is_feed rest) (n + length (q ∷ qs)) (read_so net v stages.AfterHead head xs [] None))
      (append_assoc ls (line ∷ []) (potential_lines (n + 1) qs))

  -- ---- the prefixes of a path

  sid_prefix : (n : ℕ) → IsSid v n → IsPrefix (v.shape n).prefix
  sid_prefix n is = let e = entry net v rules laws is_net n is in subst IsPrefix (sym e.of.prefix) e.prefix

  moves_prefixes : (s : State) (ms : List Move) (c : Cost) → cost_of v s ms ≡ Some c
      → All (λ (m : Move). IsPrefix (v.shape m.sid).prefix) ms
  moves_prefixes s [] c h = All-nil (λ (m : Move). IsPrefix (v.shape m.sid).prefix)
  moves_prefixes s (m ∷ []) c h =
      let parts = last_parts v s m c h in
      let is = laws.finish s.position s.via m.sid parts.hops parts.finish_is in
      All-cons (λ (x : Move). IsPrefix (v.shape x.sid).prefix) m [] (sid_prefix m.sid (v.steps, omega arith, is.is_next))
      (All-nil (λ (x : Move). IsPrefix (v.shape x.sid).prefix))
  moves_prefixes s (m ∷ n ∷ more) c h =
      let on = onward v s m n more c h in
      let parts = edge_parts v s m on.to on.edge in
      let is = laws.leg s.position s.via m.sid parts.leg parts.leg_is in
      All-cons (λ (x : Move). IsPrefix (v.shape x.sid).prefix) m (n ∷ more) (sid_prefix m.sid (parts.leg.to, is.within, is.is_next))
      (moves_prefixes on.to.to (n ∷ more) on.left on.cost)

  path_prefixes : (path : List PathStep) → IsPathOrNone v path → All (λ (p : PathStep). IsPrefix p.prefix) path
  path_prefixes [] h = All-nil (λ (p : PathStep). IsPrefix p.prefix)
  path_prefixes (p ∷ ps) h =
      subst (All (λ (x : PathStep). IsPrefix x.prefix)) (sym h.is_path)
      (All-map (λ (x : PathStep). IsPrefix x.prefix) (step_of v) h.moves (moves_prefixes start h.moves h.cost h.first.cost))

  -- ---- the whole text

  four_parts : (a b c d : List ℕ) → ((a ++ b) ++ c) ++ d ≡ a ++ (b ++ (c ++ d))
  four_parts a b c d = simp append_assoc

  readable : (qs : List Potential) → IsListing v qs → All (IsReadable v) qs
  readable qs is k d h =
      let q : Potential = get_or qs k d in
      let among : Contains qs q = (k, h, same_default qs k q d h) in
      record {
        is_state = (is.exact q among).0;
        few =
            record {
              containers = containers_few v laws qs is q among;
              sids = sids_shown v laws qs is q among;
              hops = hops_few v laws qs is q among;
            };
      }
    where
      same_default : (xs : List Potential) (i : ℕ) (a b : Potential) → i < length xs → get_or xs i a ≡ get_or xs i b
      same_default [] i a b h = absurd (omega (arith, h))
      same_default (x ∷ xs) zero a b h = refl
      same_default (x ∷ xs) (suc i) a b h = same_default xs i a b (omega (arith, h))

  pub printed_read : (comments : List (List ℕ)) (s : Solution) → IsSolution v s → All IsComment comments
      → read_of net v (lines_text comments ++ spelled net v.sid_cost s) ≡ Ok (certificate_of (1 + length comments) s)
  unfolding read_of
  printed_read comments s is all =
      let head : ℕ = 1 + length comments in
      let first : ℕ = head + 1 in
      let way = way_text s.path ++ end_text in
      let form = form_of v.sid_cost in
      comments_read net v comments (spelled net v.sid_cost s) 1 all
      ∙ ap (λ (text : List ℕ). reads net v (slice_split is_feed text) head nothing_read)
      (four_parts (head_text form) (flat_map (potential_text net form) s.potentials) (way_text s.path) end_text)
      ∙ head_read net v (flat_map (potential_text net form) s.potentials ++ way) head
      ∙ potentials_read s.potentials way head first [] (readable s.potentials is.potentials)
      (follow_from v s.potentials is.potentials.order)
      ∙ way_read net v s.path head (first + length s.potentials) (potential_lines first s.potentials) (path_prefixes s.path is.path)

pub what_is_read : (net : Network) (v : LegsValue) (comments : List (List ℕ)) (s : Solution) → IsNetwork net → KeepsLaws v
    → IsNetworkOf net v
    → IsSolution v s
    → All IsComment comments
    → read_of net v (lines_text comments ++ spelled net v.sid_cost s) ≡ Ok (certificate_of (1 + length comments) s)
what_is_read net v comments s rules laws is_net is all = printed_read net v rules laws is_net comments s is all
