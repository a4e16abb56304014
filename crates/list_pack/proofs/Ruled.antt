-- The tests of the rules of lists and what they mean.
use Rattle.std.proofs.Common.{◌≡◌, ℕ, zero, suc, ◌+◌, Bool, true, false, ◌==◌, ◌&&◌, ◌||◌, List, [], ◌∷◌, ◌++◌, length, map, All, Option, Some, None, refl, sym, ◌∙◌, ap, subst, nat_le}
use Rattle.std.specs.Prelude.{◌↔◌, IsTrue}
use Rattle.std.specs.List.{list_all, list_any, slice_get}
use Rattle.std.proofs.lemmas.Bool.{and_parts, and_from, leb-true, le-leb, eqb-true, eq-eqb}
use Rattle.std.proofs.lemmas.List.Elements.{All-nil, All-cons, All-head, All-tail}
use Rattle.v6_addr.specs.Address.{PrefixValue}
use Rattle.srv6_rules.specs.declared.sid.Csid.{Csid}
use Rattle.srv6_rules.specs.declared.sid.Csid.TheVariants.{Plain, Next, Replace}
use Rattle.srv6_rules.specs.declared.sid.SidEntry.{SidEntry}
use Rattle.net_model.specs.Network.{Network}
use Rattle.net_model.specs.NetworkRules.{same_prefix}
use Rattle.sid_list_spec.specs.SegmentLists as lists
use Rattle.sid_list_spec.specs.SegmentLists.{SidBlock, ListSid, Follow, IsLegal}
use Rattle.sid_list_theory.specs.SegmentListsTerms.{IsFlatSid, IsFlatContainer, IsFlatList}
use Rattle.list_pack.specs.declared.types.Container.{Container}
use Rattle.list_pack.specs.declared.types.Container.TheVariants.{Full, Packed}
use Rattle.list_pack.specs.SidLists.{list_sid, list_in, container_in, prefixes_of, prefixes_in, IsSidPrefix, KeepsNests, IsLegalList}
use Rattle.list_pack.specs.SidListsTerms.{is_named, AreListSids}
use Rattle.list_pack.specs.PathLists.{asked_after}
use Rattle.list_pack.specs.OpenContainers.{flavour, taken, first_taken, limit, StaysIn, Open, Opens, same_csid, same_sid_block, stays_test, open_test, opens_test, keeps_test, follow_test}
use Rattle.list_pack.proofs.ListContainers.{follow_made, Opened, opened_full, opened_packed, asked_end, asked_end_law}
use Rattle.list_pack.proofs.FlatSids.{same_self, same_is}

-- ---- flavours and blocks

csid_is : (a b : Csid) → same_csid a b ≡ true → a ≡ b
csid_is Plain Plain e = refl
csid_is Plain Next e = absurd (cc)
csid_is Plain Replace e = absurd (cc)
csid_is Next Plain e = absurd (cc)
csid_is Next Next e = refl
csid_is Next Replace e = absurd (cc)
csid_is Replace Plain e = absurd (cc)
csid_is Replace Next e = absurd (cc)
csid_is Replace Replace e = refl

csid_self : (a : Csid) → same_csid a a ≡ true
csid_self Plain = refl
csid_self Next = refl
csid_self Replace = refl

block_is : (a b : Option SidBlock) → same_sid_block a b ≡ true → a ≡ b
block_is None None e = refl
block_is None (Some b) e = absurd (cc)
block_is (Some a) None e = absurd (cc)
block_is (Some a) (Some b) e =
    let one = and_parts (same_prefix a.prefix b.prefix) (same_csid a.kind b.kind && (a.csid_len == b.csid_len)) e in
    let two = and_parts (same_csid a.kind b.kind) (a.csid_len == b.csid_len) one.1 in
    ap (λ (p : PrefixValue). Some (record { prefix = p; kind = a.kind; csid_len = a.csid_len })) (same_is a.prefix b.prefix one.0)
    ∙ ap (λ (k : Csid). Some (record { prefix = b.prefix; kind = k; csid_len = a.csid_len })) (csid_is a.kind b.kind two.0)
    ∙ ap (λ (n : ℕ). Some (record { prefix = b.prefix; kind = b.kind; csid_len = n })) (eqb-true a.csid_len b.csid_len two.1)

block_self : (a : Option SidBlock) → same_sid_block a a ≡ true
block_self None = refl
block_self (Some a) =
    and_from (same_prefix a.prefix a.prefix) (same_csid a.kind a.kind && (a.csid_len == a.csid_len)) (same_self a.prefix)
    (and_from (same_csid a.kind a.kind) (a.csid_len == a.csid_len) (csid_self a.kind) (eq-eqb a.csid_len a.csid_len refl))

block_from : (a b : Option SidBlock) → a ≡ b → same_sid_block a b ≡ true
block_from a b e = subst (λ (o : Option SidBlock). same_sid_block a o ≡ true) e (block_self a)

csid_from : (a b : Csid) → a ≡ b → same_csid a b ≡ true
csid_from a b e = subst (λ (c : Csid). same_csid a c ≡ true) e (csid_self a)

-- ---- one container

stays_is : (k : Option SidBlock) (u : ℕ) (s t : ListSid) → stays_test k u s t ≡ true → StaysIn k u s t
stays_is k u s t e =
    let one = and_parts (same_csid s.csid (flavour k)) (same_sid_block t.block s.block && nat_le (u + taken k t) (limit k)) e in
    let two = and_parts (same_sid_block t.block s.block) (nat_le (u + taken k t) (limit k)) one.1 in
    record {
      kind = csid_is s.csid (flavour k) one.0;
      block = block_is t.block s.block two.0;
      fits = leb-true (u + taken k t) (limit k) two.1;
    }

is_stays : (k : Option SidBlock) (u : ℕ) (s t : ListSid) → StaysIn k u s t → stays_test k u s t ≡ true
is_stays k u s t h =
    and_from (same_csid s.csid (flavour k)) (same_sid_block t.block s.block && nat_le (u + taken k t) (limit k))
    (csid_from s.csid (flavour k) h.kind)
    (and_from (same_sid_block t.block s.block) (nat_le (u + taken k t) (limit k)) (block_from t.block s.block h.block)
    (le-leb (u + taken k t) (limit k) h.fits))

open_is : (k : Option SidBlock) (u : ℕ) (s : ListSid) (ss : List ListSid) (cs : List lists.Container) → open_test k u s ss ≡ true
    → Follow (asked_end k u s ss) cs → Open k u s ss cs
open_is k u s [] cs e follow = follow
open_is k u s (t ∷ ts) cs e follow =
    let both = and_parts (stays_test k u s t) (open_test k (u + taken k t) t ts) e in
    (stays_is k u s t both.0, open_is k (u + taken k t) t ts cs both.1 follow)

is_open : (k : Option SidBlock) (u : ℕ) (s : ListSid) (ss : List ListSid) (cs : List lists.Container) → Open k u s ss cs
    → (open_test k u s ss ≡ true) × Follow (asked_end k u s ss) cs
is_open k u s [] cs h = (refl, h)
is_open k u s (t ∷ ts) cs h =
    let rest = is_open k (u + taken k t) t ts cs h.1 in
    (and_from (stays_test k u s t) (open_test k (u + taken k t) t ts) (is_stays k u s t h.0) rest.0, rest.1)

opens_is : (k : Option SidBlock) (s : ListSid) → opens_test k s ≡ true → Opens k s
opens_is None s e = leb-true s.prefix.len 128 e
opens_is (Some b) s e =
    let both = and_parts (same_sid_block s.block (Some b)) (nat_le 1 (limit (Some b))) e in
    (block_is s.block (Some b) both.0, leb-true 1 (limit (Some b)) both.1)

is_opens : (k : Option SidBlock) (s : ListSid) → Opens k s → opens_test k s ≡ true
is_opens None s h = le-leb s.prefix.len 128 h
is_opens (Some b) s h =
    and_from (same_sid_block s.block (Some b)) (nat_le 1 (limit (Some b))) (block_from s.block (Some b) h.0)
    (le-leb 1 (limit (Some b)) h.1)

-- ---- containers, one after the other

kept_follows : (k : Option SidBlock) (s : ListSid) (ss : List ListSid) (cs : List lists.Container) → keeps_test k s ss ≡ true
    → Follow (asked_after k s ss) cs → Opened k s ss cs
kept_follows k s ss cs e follow =
    let both = and_parts (opens_test k s) (open_test k (first_taken k s) s ss) e in
    record {
      first = opens_is k s both.0;
      open_here = open_is k (first_taken k s) s ss cs both.1
          (subst (λ (o : Option SidBlock). Follow o cs) (sym (asked_end_law k s ss)) follow);
    }

follows_kept : (k : Option SidBlock) (s : ListSid) (ss : List ListSid) (cs : List lists.Container) → Opened k s ss cs
    → (keeps_test k s ss ≡ true) × Follow (asked_after k s ss) cs
follows_kept k s ss cs h =
    let rest = is_open k (first_taken k s) s ss cs h.open_here in (
      and_from (opens_test k s) (open_test k (first_taken k s) s ss) (is_opens k s h.first) rest.0,
      subst (λ (o : Option SidBlock). Follow o cs) (asked_end_law k s ss) rest.1,
    )

follow_is : (net : Network) (k : Option SidBlock) (cs : List Container) → follow_test (list_sid net) k cs ≡ true
    → Follow k (list_in net cs)
follow_is net k [] e = tt
follow_is net None (Full p ps ∷ cs) e =
    let s = list_sid net p in
    let ss = map (list_sid net) ps in
    let both = and_parts (keeps_test None s ss) (follow_test (list_sid net) (asked_after None s ss) cs) e in
    let is = kept_follows None s ss (list_in net cs) both.0 (follow_is net (asked_after None s ss) cs both.1) in
    follow_made None s ss (list_in net cs) is.first is.open_here
follow_is net (Some b) (Full p ps ∷ cs) e = absurd (let one : false ≡ true = e in cc)
follow_is net None (Packed p ps ∷ cs) e = absurd (let one : false ≡ true = e in cc)
follow_is net (Some b) (Packed p ps ∷ cs) e =
    let s = list_sid net p in
    let ss = map (list_sid net) ps in
    let both = and_parts (keeps_test (Some b) s ss) (follow_test (list_sid net) (asked_after (Some b) s ss) cs) e in
    let is = kept_follows (Some b) s ss (list_in net cs) both.0 (follow_is net (asked_after (Some b) s ss) cs both.1) in
    follow_made (Some b) s ss (list_in net cs) is.first is.open_here

is_follow : (net : Network) (k : Option SidBlock) (cs : List Container) → Follow k (list_in net cs)
    → follow_test (list_sid net) k cs ≡ true
is_follow net k [] h = refl
is_follow net None (Full p ps ∷ cs) h =
    let s = list_sid net p in
    let ss = map (list_sid net) ps in
    let is = follows_kept None s ss (list_in net cs) (opened_full None s ss (list_in net cs) h) in
    and_from (keeps_test None s ss) (follow_test (list_sid net) (asked_after None s ss) cs) is.0
    (is_follow net (asked_after None s ss) cs is.1)
is_follow net (Some b) (Full p ps ∷ cs) h = absurd h
is_follow net None (Packed p ps ∷ cs) h = absurd h
is_follow net (Some b) (Packed p ps ∷ cs) h =
    let s = list_sid net p in
    let ss = map (list_sid net) ps in
    let is = follows_kept (Some b) s ss (list_in net cs) (opened_packed (Some b) s ss (list_in net cs) h) in
    and_from (keeps_test (Some b) s ss) (follow_test (list_sid net) (asked_after (Some b) s ss) cs) is.0
    (is_follow net (asked_after (Some b) s ss) cs is.1)

-- ---- named prefixes

some_is : (p : PrefixValue) (sids : List SidEntry) → list_any (λ s. same_prefix s.prefix p) sids ≡ true
    → (n : ℕ) × (s : SidEntry) × (slice_get sids n ≡ Some s) × (s.prefix ≡ p)
some_is p [] e = absurd (cc)
some_is p (s ∷ ss) e = by (λ f. some_is p ss f) (same_prefix s.prefix p) refl e
  where
    by : (list_any (λ s. same_prefix s.prefix p) ss ≡ true → (n : ℕ) × (t : SidEntry) × (slice_get ss n ≡ Some t) × (t.prefix ≡ p))
        → (b : Bool) → same_prefix s.prefix p ≡ b → (b || list_any (λ s. same_prefix s.prefix p) ss) ≡ true
        → (n : ℕ) × (t : SidEntry) × (slice_get (s ∷ ss) n ≡ Some t) × (t.prefix ≡ p)
    by rest true same f = (0, s, refl, same_is s.prefix p same)
    by rest false same f =
        let found = rest f in
        (suc found.0, found.1, found.2, found.3)

is_some_law : (p : PrefixValue) (sids : List SidEntry) (n : ℕ) (s : SidEntry) → slice_get sids n ≡ Some s → s.prefix ≡ p
    → list_any (λ s. same_prefix s.prefix p) sids ≡ true
is_some_law p [] n s at e = absurd (cc)
is_some_law p (x ∷ xs) zero s at e =
    let same : x ≡ s = cc in
    let own : same_prefix x.prefix p ≡ true =
    ap (λ (y : SidEntry). same_prefix y.prefix p) same ∙ ap (λ (q : PrefixValue). same_prefix q p) e ∙ same_self p in
    ap (λ (b : Bool). b || list_any (λ s. same_prefix s.prefix p) xs) own
is_some_law p (x ∷ xs) (suc n) s at e = by (is_some_law p xs n s at e) (same_prefix x.prefix p)
  where
    by : list_any (λ s. same_prefix s.prefix p) xs ≡ true → (b : Bool) → (b || list_any (λ s. same_prefix s.prefix p) xs) ≡ true
    by rest true = refl
    by rest false = rest

named_is : (net : Network) (ps : List PrefixValue) → list_all (is_named net) ps ≡ true → All (IsSidPrefix net) ps
named_is net [] e = All-nil (IsSidPrefix net)
named_is net (p ∷ ps) e =
    let both = and_parts (is_named net p) (list_all (is_named net) ps) e in
    All-cons (IsSidPrefix net) p ps (some_is p net.sids both.0) (named_is net ps both.1)

is_named_law : (net : Network) (ps : List PrefixValue) → All (IsSidPrefix net) ps → list_all (is_named net) ps ≡ true
is_named_law net [] all = refl
is_named_law net (p ∷ ps) all =
    let (n, s, at, e) = All-head (IsSidPrefix net) p ps all in
    and_from (is_named net p) (list_all (is_named net) ps) (is_some_law p net.sids n s at e)
    (is_named_law net ps (All-tail (IsSidPrefix net) p ps all))

-- ---- legal lists

follows_legal : (net : Network) (list : List Container) → IsLegal (list_in net list) → follow_test (list_sid net) None list ≡ true
follows_legal net [] legal = absurd legal
follows_legal net (c ∷ cs) legal = is_follow net None (c ∷ cs) legal

pub legal_breaks : (net : Network) (list : List Container) → follow_test (list_sid net) None list ≡ false
    → IsTrue false ↔ IsLegalList net list
legal_breaks net list e = (λ f. absurd (cc), λ legal. absurd (let one = follows_legal net list legal.rules in cc))

legal_is : (net : Network) (list : List Container) → (list ≡ [] → ⊥) → follow_test (list_sid net) None list ≡ true
    → IsLegal (list_in net list)
legal_is net [] some e = absurd (some refl)
legal_is net (c ∷ cs) some e = follow_is net None (c ∷ cs) e

pub legal_unnamed : (net : Network) (list : List Container) → list_all (is_named net) (prefixes_in list) ≡ false
    → IsTrue false ↔ IsLegalList net list
legal_unnamed net list e =
    (λ f. absurd (cc), λ legal. absurd (let one = is_named_law net (prefixes_in list) legal.named in cc))

pub legal_kept : (net : Network) (list : List Container) (b : Bool) → (length list == 0) ≡ false
    → follow_test (list_sid net) None list ≡ true → list_all (is_named net) (prefixes_in list) ≡ true
    → IsTrue b ↔ All (KeepsNests net) list → IsTrue b ↔ IsLegalList net list
legal_kept net list b some follows named keep =
    let not_empty : list ≡ [] → ⊥ = λ z. let empty : (length list == 0) ≡ true = ap (λ (cs : List Container). length cs == 0) z in cc in (
      λ h.
          record { rules = legal_is net list not_empty follows; named = named_is net (prefixes_in list) named; nests = keep.0 h },
      λ legal. keep.1 legal.nests,
    )

-- ---- in a flat network

all_left : {X : Type 0} (P : X → Type 0) (xs ys : List X) → All P (xs ++ ys) → All P xs
all_left P [] ys all = All-nil P
all_left P (x ∷ xs) ys all = All-cons P x xs (All-head P x (xs ++ ys) all) (all_left P xs ys (All-tail P x (xs ++ ys) all))

all_right : {X : Type 0} (P : X → Type 0) (xs ys : List X) → All P (xs ++ ys) → All P ys
all_right P [] ys all = all
all_right P (x ∷ xs) ys all = all_right P xs ys (All-tail P x (xs ++ ys) all)

flat_sids : (net : Network) (ps : List PrefixValue) → AreListSids net → All (IsSidPrefix net) ps → All IsFlatSid (map (list_sid net) ps)
flat_sids net [] sids all = All-nil IsFlatSid
flat_sids net (p ∷ ps) sids all =
    let (n, s, at, e) = All-head (IsSidPrefix net) p ps all in
    All-cons IsFlatSid (list_sid net p) (map (list_sid net) ps)
    (subst (λ (q : PrefixValue). IsFlatSid (list_sid net q)) e (sids.flat n s at))
    (flat_sids net ps sids (All-tail (IsSidPrefix net) p ps all))

flat_container : (net : Network) (c : Container) → AreListSids net → All (IsSidPrefix net) (prefixes_of c)
    → IsFlatContainer (container_in net c)
flat_container net (Full p ps) sids all = flat_sids net (p ∷ ps) sids all
flat_container net (Packed p ps) sids all = flat_sids net (p ∷ ps) sids all

flat_list : (net : Network) (cs : List Container) → AreListSids net → All (IsSidPrefix net) (prefixes_in cs) → IsFlatList (list_in net cs)
flat_list net [] sids all = All-nil IsFlatContainer
flat_list net (c ∷ cs) sids all =
    All-cons IsFlatContainer (container_in net c) (list_in net cs)
    (flat_container net c sids (all_left (IsSidPrefix net) (prefixes_of c) (prefixes_in cs) all))
    (flat_list net cs sids (all_right (IsSidPrefix net) (prefixes_of c) (prefixes_in cs) all))

-- a legal list of a flat network is of SIDs of a flat network
pub legal_flat : (net : Network) (list : List Container) → AreListSids net → IsLegalList net list → IsFlatList (list_in net list)
legal_flat net list sids legal = flat_list net list sids legal.named
