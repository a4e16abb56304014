-- A SID is read back from its text: the prefix alone where no other SID of the network has it, and else with its node's name.
use Rattle.std.proofs.Common.{◌≡◌, ℕ, zero, suc, ◌+◌, ◌<◌, ◌≤◌, inl, inr, Bool, true, false, cond, ◌==◌, nat_le, List, [], ◌∷◌, ◌++◌, length, Option, Some, None, slice_get, get_or, Contains, find, count_by, option_and_then, refl, sym, ◌∙◌, ap, subst, arith, append-nil}
use Rattle.std.specs.Prelude.{IsTrue}
use Rattle.std.specs.List.{list_all}
use Rattle.std.proofs.lemmas.Bool.{false≢true, and_parts, and_from, eq-eqb, eqb-true, ltb-false, cond-true, cond-false, cases_order}
use Rattle.std.proofs.lemmas.List.Sums.{sum_by-cons, AllPass-from_list_all}
use Rattle.std.proofs.lemmas.Option.{none-some, same_Some}
use Rattle.std.proofs.lemmas.Slice.Eq.{bytes_eq-Decides}
use Rattle.v6_addr.specs.Address.{PrefixValue}
use Rattle.v6_addr.specs.AddressTerms.{IsPrefix}
use Rattle.v6_addr.specs.Text.{prefix_text}
use Rattle.srv6_rules.specs.declared.sid.SidEntry.{SidEntry}
use Rattle.net_model.specs.declared.parts.Node.{Node}
use Rattle.net_model.specs.Network.{Network}
use Rattle.net_model.specs.NetworkRules.{is_name_byte, is_name, same_prefix}
use Rattle.net_model.specs.NetworkRulesTerms.{IsNetwork}
use Rattle.net_model.specs.NetworkKeeps.{Keeps}
use Rattle.net_model.proofs.PublicLaws.{keeps_from_network}
use Rattle.list_pack.specs.LegsValue.{LegsValue}
use Rattle.list_pack.specs.LegsValueTerms.{KeepsLaws, IsSid, sid_key}
use Rattle.list_certificate.specs.Spelling.{is_shared, name_by, sid_text_by, sid_text}
use Rattle.list_certificate.specs.CertificateReading.{cut_at, node_of, has_name, is_unnamed, is_named, sid_by, sid_in}
use Rattle.list_certificate.specs.CertificateReadingTerms.{IsSidOf, IsNetworkOf}
use Rattle.list_certificate.proofs.MovesPassing.{place_in, item_in}
use Rattle.list_certificate.proofs.States.{sid_same}
use Rattle.list_certificate.proofs.Marks.{IsWord, no_mark, Lacks, word_at, lacks_joined, lacks_mark, cut_first, cut_none}
use Rattle.list_certificate.proofs.PrefixWords.{prefix_word, prefix_read, prefix_no_dash}

-- ---- lists

-- the one item that passes is found
found_by : (p : ℕ → Bool) (x : ℕ) (xs : List ℕ) (n : ℕ) → (b : Bool) → p x ≡ b → (p x ≡ true → x ≡ n)
    → (p x ≡ false → find p xs ≡ Some n)
    → cond b (Some x) (find p xs) ≡ Some n
found_by p x xs n true e one rest = ap (λ (y : ℕ). Some y) (one e)
found_by p x xs n false e one rest = rest e

pub find_only : (p : ℕ → Bool) (xs : List ℕ) (i n : ℕ) → slice_get xs i ≡ Some n → p n ≡ true
    → ((j m : ℕ) → slice_get xs j ≡ Some m → p m ≡ true → m ≡ n) → find p xs ≡ Some n
find_only p [] i n e h only = absurd (none-some n e)
find_only p (x ∷ xs) zero n e h only =
    let same : x ≡ n = same_Some x n e in
    found_by p x xs n (p x) refl (λ yes. same) (λ no. absurd (false≢true (sym no ∙ ap p same ∙ h)))
find_only p (x ∷ xs) (suc i) n e h only =
    found_by p x xs n (p x) refl (only 0 x refl) (λ no. find_only p xs i n e h (λ j m f g. only (suc j) m f g))

count_cons : {X : Type 0} (p : X → Bool) (x : X) (xs : List X) → count_by p (x ∷ xs) ≡ cond (p x) 1 0 + count_by p xs
count_cons p x xs = sum_by-cons (λ y. cond (p y) 1 0) x xs

-- what counts one, and two
count_one : {X : Type 0} (p : X → Bool) (xs : List X) (i : ℕ) (x : X) → slice_get xs i ≡ Some x → p x ≡ true → 1 ≤ count_by p xs
count_one p [] i x e h = absurd (none-some x e)
count_one p (y ∷ ys) zero x e h =
    let here : cond (p y) 1 0 ≡ 1 = ap (λ b. cond {A = ℕ} b 1 0) (ap p (same_Some y x e) ∙ h) in
    let sum = count_cons p y ys in
    omega (arith, here, sum)
count_one p (y ∷ ys) (suc i) x e h =
    let rest = count_one p ys i x e h in
    let sum = count_cons p y ys in
    omega (arith, rest, sum)

count_two : {X : Type 0} (p : X → Bool) (xs : List X) (i j : ℕ) (x y : X) → i < j → slice_get xs i ≡ Some x → slice_get xs j ≡ Some y
    → p x ≡ true
    → p y ≡ true → 1 < count_by p xs
count_two p [] i j x y l e f h k = absurd (none-some x e)
count_two p (z ∷ zs) i zero x y l e f h k = absurd (omega (arith, l))
count_two p (z ∷ zs) zero (suc j) x y l e f h k =
    let here : cond (p z) 1 0 ≡ 1 = ap (λ b. cond {A = ℕ} b 1 0) (ap p (same_Some z x e) ∙ h) in
    let rest = count_one p zs j y f k in
    let sum = count_cons p z zs in
    omega (arith, here, rest, sum)
count_two p (z ∷ zs) (suc i) (suc j) x y l e f h k =
    let rest = count_two p zs i j x y (omega (arith, l)) e f h k in
    let sum = count_cons p z zs in
    omega (arith, rest, sum)

pub some_at : {X : Type 0} (xs : List X) (k : ℕ) → k < length xs → (x : X) × (slice_get xs k ≡ Some x)
some_at [] k h = absurd (omega (arith, h))
some_at (x ∷ xs) zero h = (x, refl)
some_at (x ∷ xs) (suc k) h = some_at xs k (omega (arith, h))

-- ---- prefixes and names

pub same_prefix_law : (p q : PrefixValue) → same_prefix p q ≡ true → p ≡ q
same_prefix_law p q h =
    let parts = and_parts (p.value == q.value) (p.len == q.len) h in
    let one : (x : ℕ) → PrefixValue = λ x. record { value = x; len = p.len } in
    let two : (x : ℕ) → PrefixValue = λ x. record { value = q.value; len = x } in
    ap one (eqb-true p.value q.value parts.0) ∙ ap two (eqb-true p.len q.len parts.1)

pub prefix_same : (p q : PrefixValue) → p ≡ q → same_prefix p q ≡ true
prefix_same p q e =
    and_from (p.value == q.value) (p.len == q.len) (eq-eqb p.value q.value (ap (λ (x : PrefixValue). x.value) e))
    (eq-eqb p.len q.len (ap (λ (x : PrefixValue). x.len) e))

name_byte : (mark b : ℕ) → is_name_byte b ≡ true → (is_name_byte mark ≡ false) → b ≡ mark → ⊥
name_byte mark b h not_one e = false≢true (sym not_one ∙ ap is_name_byte (sym e) ∙ h)

name_word : (name : List ℕ) → IsTrue (is_name name) → IsWord name
name_word name h k d within =
    let some = and_parts (nat_le 1 (length name)) _ h in
    let bytes = and_parts (nat_le (length name) _) (list_all is_name_byte name) some.1 in
    let b = get_or name k d in
    let is : is_name_byte b ≡ true = AllPass-from_list_all is_name_byte name bytes.1 k d within in
    no_mark b (name_byte 10 b is refl) (name_byte 32 b is refl) (name_byte 64 b is refl)

-- ---- the SIDs of legs in their network

module _ (net : Network) (v : LegsValue) (rules : IsNetwork net) (laws : KeepsLaws v) (is_net : IsNetworkOf net v) where
  keeps : Keeps net
  keeps = keeps_from_network net rules

  -- a SID's entry and node
  pub record Entry (n : ℕ) : Type 0 where
    pub of : IsSidOf net v n
    pub node : Node
    pub at : slice_get net.nodes of.sid.node ≡ Some node
    pub prefix : IsPrefix of.sid.prefix
    pub name : IsWord node.name

  pub entry : (n : ℕ) → IsSid v n → Entry n
  entry n is =
      let of = is_net n is in
      let keeps_sid = keeps.sid n of.sid of.here in
      let at = some_at net.nodes of.sid.node keeps_sid.node in
      record {
        of = of;
        node = at.0;
        at = at.1;
        prefix = keeps_sid.prefix;
        name = name_word at.0.name (keeps.node of.sid.node at.0 at.1).name;
      }

  named_text : (n : ℕ) (e : Entry n) → is_shared net e.of.sid.prefix ≡ true
      → sid_text net n ≡ prefix_text e.of.sid.prefix ++ 64 ∷ e.node.name
  named_text n e shared =
      ap (sid_text_by net) e.of.here ∙ cond-true _ _ _ shared
      ∙ ap (λ (o : Option Node). prefix_text e.of.sid.prefix ++ 64 ∷ name_by o) e.at

  plain_text : (n : ℕ) (e : Entry n) → is_shared net e.of.sid.prefix ≡ false → sid_text net n ≡ prefix_text e.of.sid.prefix
  plain_text n e single = ap (sid_text_by net) e.of.here ∙ cond-false _ _ _ single

  -- a SID's text has no line feed and no space, and is not the start's dash
  pub sid_lacks : (mark n : ℕ) → IsSid v n → (64 == mark) ≡ false → ((text : List ℕ) → IsWord text → Lacks mark text)
      → Lacks mark (sid_text net n)
  sid_lacks mark n is other lacks = by (is_shared net (entry n is).of.sid.prefix) refl
    where
      e : Entry n
      e = entry n is

      front : Lacks mark (prefix_text e.of.sid.prefix)
      front = lacks (prefix_text e.of.sid.prefix) (prefix_word e.of.sid.prefix e.prefix)

      by : (b : Bool) → is_shared net e.of.sid.prefix ≡ b → Lacks mark (sid_text net n)
      by true shared =
          subst (Lacks mark) (sym (named_text n e shared))
          (lacks_joined mark (prefix_text e.of.sid.prefix) (64 ∷ e.node.name) front
          (lacks_mark mark 64 e.node.name other (lacks e.node.name e.name)))
      by false single = subst (Lacks mark) (sym (plain_text n e single)) front

  pub sid_no_dash : (n : ℕ) → IsSid v n → sid_text net n ≡ 45 ∷ [] → ⊥
  sid_no_dash n is same = by (is_shared net (entry n is).of.sid.prefix) refl
    where
      e : Entry n
      e = entry n is

      by : (b : Bool) → is_shared net e.of.sid.prefix ≡ b → ⊥
      by true shared = prefix_no_dash e.of.sid.prefix (64 ∷ e.node.name) e.prefix (sym (named_text n e shared) ∙ same)
      by false single =
          prefix_no_dash e.of.sid.prefix [] e.prefix
          (append-nil (prefix_text e.of.sid.prefix) ∙ sym (plain_text n e single) ∙ same)

  -- a SID that is one of a position is the only one there that passes
  node_name_law : (n : ℕ) (e : Entry n) → node_of net (slice_get net.sids n) ≡ e.node.name
  node_name_law n e = ap (node_of net) e.of.here ∙ ap name_by e.at

  named_only : (position n m : ℕ) → position ≤ v.steps → Contains (v.sids_at position) n → Contains (v.sids_at position) m
      → (e : Entry n) → is_named net v e.of.sid.prefix e.node.name m ≡ true → m ≡ n
  named_only position n m within is_n is_m e h =
      let other = entry m (position, within, is_m) in
      let both = and_parts (is_unnamed v e.of.sid.prefix m) (has_name net e.node.name m) h in
      let prefix = and_parts (same_prefix (v.shape m).prefix e.of.sid.prefix) (v.shape m).middle both.0 in
      let prefixes : (v.shape m).prefix ≡ (v.shape n).prefix =
      same_prefix_law (v.shape m).prefix e.of.sid.prefix prefix.0 ∙ sym e.of.prefix in
      let names : other.node.name ≡ e.node.name =
      sym (node_name_law m other) ∙ (bytes_eq-Decides (node_of net (slice_get net.sids m)) e.node.name).0 both.1 in
      let nodes : other.of.sid.node ≡ e.of.sid.node =
      keeps.node_name other.of.sid.node e.of.sid.node other.node e.node other.at e.at names in
      let stands : v.node m ≡ v.node n = other.of.node ∙ nodes ∙ sym e.of.node in
      let keys : sid_key v m ≡ sid_key v n =
      ap (λ (p : PrefixValue). p.value ∷ p.len ∷ v.node m ∷ []) prefixes
      ∙ ap (λ (x : ℕ). (v.shape n).prefix.value ∷ (v.shape n).prefix.len ∷ x ∷ []) stands in
      sid_same v laws position m n within is_m is_n keys

  unnamed_only : (position n m : ℕ) → position ≤ v.steps → Contains (v.sids_at position) m → (e : Entry n)
      → is_shared net e.of.sid.prefix ≡ false
      → is_unnamed v e.of.sid.prefix m ≡ true → m ≡ n
  unnamed_only position n m within is_m e single h =
      let other = entry m (position, within, is_m) in
      let prefix = and_parts (same_prefix (v.shape m).prefix e.of.sid.prefix) (v.shape m).middle h in
      let prefixes : other.of.sid.prefix ≡ e.of.sid.prefix =
      sym other.of.prefix ∙ same_prefix_law (v.shape m).prefix e.of.sid.prefix prefix.0 in
      let test : SidEntry → Bool = λ s. same_prefix s.prefix e.of.sid.prefix in
      let one : test other.of.sid ≡ true = prefix_same other.of.sid.prefix e.of.sid.prefix prefixes in
      let two : test e.of.sid ≡ true = prefix_same e.of.sid.prefix e.of.sid.prefix refl in
      let few : count_by test net.sids ≤ 1 = ltb-false 1 (count_by test net.sids) single in
      elim (cases_order m n) as (λ w. m ≡ n) [
        | inl same ↦ same
        | inr o ↦
            elim o as (λ w. m ≡ n) [
              | inl less ↦
                  let many = count_two test net.sids m n other.of.sid e.of.sid less other.of.here e.of.here one two in
                  absurd (omega (arith, few, many))
              | inr more ↦
                  let many = count_two test net.sids n m e.of.sid other.of.sid more e.of.here other.of.here two one in
                  absurd (omega (arith, few, many))
            ]
      ]

  unnamed_itself : (n : ℕ) (e : Entry n) → IsTrue (v.shape n).middle → is_unnamed v e.of.sid.prefix n ≡ true
  unnamed_itself n e middle =
      and_from (same_prefix (v.shape n).prefix e.of.sid.prefix) (v.shape n).middle
      (prefix_same (v.shape n).prefix e.of.sid.prefix e.of.prefix) middle

  named_itself : (n : ℕ) (e : Entry n) → IsTrue (v.shape n).middle → is_named net v e.of.sid.prefix e.node.name n ≡ true
  named_itself n e middle =
      and_from (is_unnamed v e.of.sid.prefix n) (has_name net e.node.name n) (unnamed_itself n e middle)
      ((bytes_eq-Decides (node_of net (slice_get net.sids n)) e.node.name).1 (node_name_law n e))

  -- a middle SID of a position is read back
  pub sid_read : (position n : ℕ) → position ≤ v.steps → Contains (v.sids_at position) n → IsTrue (v.shape n).middle
      → sid_in net v position (sid_text net n) ≡ Some n
  unfolding sid_in
  sid_read position n within is_n middle = by (is_shared net e.of.sid.prefix) refl
    where
      e : Entry n
      e = entry n (position, within, is_n)

      place : (k : ℕ) × (k < length (v.sids_at position)) × (slice_get (v.sids_at position) k ≡ Some n)
      place = place_in (v.sids_at position) n is_n

      p : PrefixValue
      p = e.of.sid.prefix

      by : (b : Bool) → is_shared net e.of.sid.prefix ≡ b → sid_by net v position (sid_text net n) (cut_at 64 (sid_text net n)) ≡ Some n
      by true shared =
          ap (λ (text : List ℕ). sid_by net v position text (cut_at 64 text)) (named_text n e shared)
          ∙ ap (sid_by net v position (prefix_text p ++ 64 ∷ e.node.name))
          (cut_first 64 (prefix_text p) e.node.name (word_at (prefix_text p) (prefix_word p e.prefix)))
          ∙ ap (λ (o : Option PrefixValue).
          option_and_then (λ q. cond (is_shared net q) (find (is_named net v q e.node.name) (v.sids_at position)) None) o)
          (prefix_read p e.prefix)
          ∙ cond-true _ _ _ shared
          ∙ find_only (is_named net v p e.node.name) (v.sids_at position) place.0 n place.2 (named_itself n e middle)
          (λ j m at h. named_only position n m within is_n (item_in (v.sids_at position) j m at) e h)
      by false single =
          ap (λ (text : List ℕ). sid_by net v position text (cut_at 64 text)) (plain_text n e single)
          ∙ ap (sid_by net v position (prefix_text p)) (cut_none 64 (prefix_text p) (word_at (prefix_text p) (prefix_word p e.prefix)))
          ∙ ap (λ (o : Option PrefixValue).
          option_and_then (λ q. cond (is_shared net q) None (find (is_unnamed v q) (v.sids_at position))) o)
          (prefix_read p e.prefix)
          ∙ cond-false _ _ _ single
          ∙ find_only (is_unnamed v p) (v.sids_at position) place.0 n place.2 (unnamed_itself n e middle)
          (λ j m at h. unnamed_only position n m within (item_in (v.sids_at position) j m at) e single h)
