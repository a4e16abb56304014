-- The SIDs of legs in their network, and those that texts name.
use Rattle.std.proofs.Common.{◌≡◌, ℕ, suc, ◌<◌, ◌≤◌, Bool, true, false, cond, List, [], ◌∷◌, length, get_or, Option, Some, None, slice_get, Contains, find, refl, sym, ◌∙◌, ap, subst, arith}
use Rattle.std.specs.Prelude.{IsTrue}
use Rattle.std.specs.Option.{option_and_then}
use Rattle.std.proofs.lemmas.Bool.{and_parts}
use Rattle.std.proofs.lemmas.Option.{none-some, same_Some, slice_get_within, slice_get-get_or}
use Rattle.v6_addr.specs.Address.{PrefixValue}
use Rattle.v6_addr.specs.Text.{prefix_of_text}
use Rattle.srv6_rules.specs.declared.sid.SidEntry.{SidEntry}
use Rattle.net_model.specs.Network.{Network}
use Rattle.net_model.specs.NetworkRules.{same_prefix}
use Rattle.list_pack.specs.declared.types.State.{State}
use Rattle.list_pack.specs.LegsValue.{LegsValue}
use Rattle.list_pack.specs.LegsValueTerms.{IsSid}
use Rattle.list_pack.specs.Costs.{IsState, IsStateBy}
use Rattle.list_pack.specs.Least.{state_key_by}
use Rattle.list_certificate.specs.Spelling.{is_shared}
use Rattle.list_certificate.specs.CertificateReading.{Cut, cut_at, has_name, is_unnamed, is_named, sid_by, sid_in}
use Rattle.list_certificate.specs.CertificateReadingTerms.{IsSidOf}
use Rattle.list_certificate.proofs.MovesPassing.{item_in}

pub known : (net : Network) (v : LegsValue) (n : ℕ) → IsSidOf net v n → n < length net.sids
known net v n is = slice_get_within net.sids n is.sid is.here

pub sid_at : (v : LegsValue) (position : ℕ) (sids : List ℕ) (k : ℕ) → position ≤ v.steps → sids ≡ v.sids_at position → k < length sids
    → IsSid v (get_or sids k 0)
sid_at v position sids k h e within = (
  position,
  h,
  subst (λ (xs : List ℕ). Contains xs (get_or sids k 0)) e
      (item_in sids k (get_or sids k 0) (slice_get-get_or sids k 0 within)),
)

pub state_sid : (v : LegsValue) (s : State) (n : ℕ) → IsState v s → s.via ≡ Some n → IsSid v n
state_sid v s n is e =
    let is_by = subst (λ (o : Option ℕ). IsStateBy v s.position o s.room) e is in
    (s.position, is_by.0, is_by.1)

pub key_is : (v : LegsValue) (position room n value len node : ℕ) (via : Option ℕ) → via ≡ Some n → value ≡ (v.shape n).prefix.value
    → len ≡ (v.shape n).prefix.len
    → node ≡ v.node n → position ∷ value ∷ len ∷ node ∷ room ∷ [] ≡ state_key_by v position via room
key_is v position room n value len node via e f g h =
    ap (λ (x : ℕ). position ∷ x ∷ len ∷ node ∷ room ∷ []) f ∙ ap (λ (x : ℕ). position ∷ (v.shape n).prefix.value ∷ x ∷ node ∷ room ∷ []) g
    ∙ ap (λ (x : ℕ). position ∷ (v.shape n).prefix.value ∷ (v.shape n).prefix.len ∷ x ∷ room ∷ []) h
    ∙ ap (λ (o : Option ℕ). state_key_by v position o room) (sym e)

pub node_is : (net : Network) (v : LegsValue) (n : ℕ) (s : SidEntry) → IsSidOf net v n → slice_get net.sids n ≡ Some s → s.node ≡ v.node n
node_is net v n s is e = ap (λ (x : SidEntry). x.node) (same_Some s is.sid (sym e ∙ is.here)) ∙ sym is.node

-- what is found is an item that passes
pub record FoundIn (p : ℕ → Bool) (xs : List ℕ) (n : ℕ) : Type 0 where
  pub among : Contains xs n
  pub passes : p n ≡ true

later : (x : ℕ) (xs : List ℕ) (n : ℕ) → Contains xs n → Contains (x ∷ xs) n
later x xs n h = (suc h.0, omega (arith, h.1), h.2)

found_by : (p : ℕ → Bool) (x : ℕ) (xs : List ℕ) (n : ℕ) → (find p xs ≡ Some n → FoundIn p xs n) → (b : Bool) → p x ≡ b
    → cond b (Some x) (find p xs) ≡ Some n
    → FoundIn p (x ∷ xs) n
found_by p x xs n rest true e h =
    let same : x ≡ n = same_Some x n h in
    record { among = item_in (x ∷ xs) 0 n (ap (λ (y : ℕ). Some y) same); passes = subst (λ (y : ℕ). p y ≡ true) same e }
found_by p x xs n rest false e h =
    let more = rest h in
    record { among = later x xs n more.among; passes = more.passes }

pub found_in : (p : ℕ → Bool) (xs : List ℕ) (n : ℕ) → find p xs ≡ Some n → FoundIn p xs n
found_in p [] n h = absurd (none-some n h)
found_in p (x ∷ xs) n h = found_by p x xs n (found_in p xs n) (p x) refl h

-- the SID that a text names is a middle one of the position
pub record IsMiddleAt (v : LegsValue) (position n : ℕ) : Type 0 where
  pub among : Contains (v.sids_at position) n
  pub middle : IsTrue (v.shape n).middle

unnamed_middle : (v : LegsValue) (position n : ℕ) (prefix : PrefixValue) → find (is_unnamed v prefix) (v.sids_at position) ≡ Some n
    → IsMiddleAt v position n
unnamed_middle v position n prefix h =
    let f = found_in (is_unnamed v prefix) (v.sids_at position) n h in
    record { among = f.among; middle = (and_parts (same_prefix (v.shape n).prefix prefix) (v.shape n).middle f.passes).1 }

named_middle : (net : Network) (v : LegsValue) (position n : ℕ) (prefix : PrefixValue) (name : List ℕ)
    → find (is_named net v prefix name) (v.sids_at position) ≡ Some n
    → IsMiddleAt v position n
named_middle net v position n prefix name h =
    let f = found_in (is_named net v prefix name) (v.sids_at position) n h in
    let one = and_parts (is_unnamed v prefix n) (has_name net name n) f.passes in
    record { among = f.among; middle = (and_parts (same_prefix (v.shape n).prefix prefix) (v.shape n).middle one.0).1 }

shared_none : (v : LegsValue) (position n : ℕ) (prefix : PrefixValue) (b : Bool)
    → cond b None (find (is_unnamed v prefix) (v.sids_at position)) ≡ Some n
    → IsMiddleAt v position n
shared_none v position n prefix true h = absurd (none-some n h)
shared_none v position n prefix false h = unnamed_middle v position n prefix h

shared_some : (net : Network) (v : LegsValue) (position n : ℕ) (prefix : PrefixValue) (name : List ℕ) (b : Bool)
    → cond b (find (is_named net v prefix name) (v.sids_at position)) None ≡ Some n → IsMiddleAt v position n
shared_some net v position n prefix name true h = named_middle net v position n prefix name h
shared_some net v position n prefix name false h = absurd (none-some n h)

without_name : (net : Network) (v : LegsValue) (position n : ℕ) (o : Option PrefixValue)
    → option_and_then (λ (p : PrefixValue). cond (is_shared net p) None (find (is_unnamed v p) (v.sids_at position))) o ≡ Some n
    → IsMiddleAt v position n
without_name net v position n None h = absurd (none-some n h)
without_name net v position n (Some p) h = shared_none v position n p (is_shared net p) h

with_name : (net : Network) (v : LegsValue) (position n : ℕ) (name : List ℕ) (o : Option PrefixValue)
    → option_and_then (λ (p : PrefixValue). cond (is_shared net p) (find (is_named net v p name) (v.sids_at position)) None) o ≡ Some n
    → IsMiddleAt v position n
with_name net v position n name None h = absurd (none-some n h)
with_name net v position n name (Some p) h = shared_some net v position n p name (is_shared net p) h

sid_by_middle : (net : Network) (v : LegsValue) (position n : ℕ) (text : List ℕ) (o : Option Cut) → sid_by net v position text o ≡ Some n
    → IsMiddleAt v position n
sid_by_middle net v position n text None h = without_name net v position n (prefix_of_text text) h
sid_by_middle net v position n text (Some c) h = with_name net v position n c.rest (prefix_of_text c.front) h

pub sid_middle : (net : Network) (v : LegsValue) (position n : ℕ) (text : List ℕ) → sid_in net v position text ≡ Some n
    → IsMiddleAt v position n
unfolding sid_in
sid_middle net v position n text h = sid_by_middle net v position n text (cut_at 64 text) h
