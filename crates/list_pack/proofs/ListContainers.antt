-- Containers that are open: what is taken in them, what may follow their last SID, and the legal lists that they make.
use Rattle.std.proofs.Common.{◌≡◌, ℕ, ◌+◌, ◌≤◌, List, [], ◌∷◌, length, All, Option, Some, None, refl, sym, ◌∙◌, ap, subst, arith}
use Rattle.std.proofs.lemmas.List.Elements.{All-nil, All-cons, All-head, All-tail}
use Rattle.srv6_rules.specs.declared.sid.Csid.TheVariants.{Next, Replace}
use Rattle.srv6_rules.specs.Compressed.{csid_count}
use Rattle.sid_list_spec.specs.SegmentLists.{SidBlock, ListSid, Container, Full, Packed, csid_len, csid_len_in, csid_bits, last_of, HaveButLast, IsFull, IsPacked, asked_behind, asked_behind_packed, Follow}
use Rattle.list_pack.specs.PathLists.{asked_after}
use Rattle.list_pack.specs.OpenContainers.{taken, first_taken, asked_at, Open, Opens}

abbrev pub made_as : Option SidBlock → ListSid → List ListSid → Container
made_as None s ss = Full s ss
made_as (Some b) s ss = Packed s ss

-- ---- full containers

abbrev InBlock : Option SidBlock → ListSid → Type 0
InBlock b t = t.block ≡ b

record FullFrom (b : Option SidBlock) (u : ℕ) (s : ListSid) (ss : List ListSid) (cs : List Container) : Type 0 where
  one : All (InBlock b) ss
  kind : HaveButLast Next (s ∷ ss)
  fits : u + csid_bits ss ≤ 128
  behind : Follow (asked_behind (last_of s ss)) cs

full_from : (b : Option SidBlock) (u : ℕ) (s : ListSid) (ss : List ListSid) (cs : List Container) → s.block ≡ b → u ≤ 128
    → Open None u s ss cs → FullFrom b u s ss cs
full_from b u s [] cs own within so = record { one = All-nil (InBlock b); kind = tt; fits = omega arith; behind = so }
full_from b u s (t ∷ ts) cs own within so =
    let block : t.block ≡ b = so.0.block ∙ own in
    let rest = full_from b (u + csid_len t) t ts cs block so.0.fits so.1 in
    record {
      one = All-cons (InBlock b) t ts block rest.one;
      kind = (so.0.kind, rest.kind);
      fits = omega (arith, rest.fits);
      behind = rest.behind;
    }

from_full : (b : Option SidBlock) (u : ℕ) (s : ListSid) (ss : List ListSid) (cs : List Container) → s.block ≡ b → FullFrom b u s ss cs
    → Open None u s ss cs
from_full b u s [] cs own is = is.behind
from_full b u s (t ∷ ts) cs own is =
    let block : t.block ≡ b = All-head (InBlock b) t ts is.one in
    let kind : (s.csid ≡ Next) × HaveButLast Next (t ∷ ts) = is.kind in
    let bits : u + (csid_len t + csid_bits ts) ≤ 128 = is.fits in
    let rest : FullFrom b (u + csid_len t) t ts cs =
    record { one = All-tail (InBlock b) t ts is.one; kind = kind.1; fits = omega (arith, bits); behind = is.behind } in
    (record { kind = kind.0; block = block ∙ sym own; fits = omega (arith, bits) }, from_full b (u + csid_len t) t ts cs block rest)

-- ---- REPLACE containers

abbrev room_for : SidBlock → ℕ
room_for b = csid_count (csid_len_in (Some b))

record PackedFrom (b : SidBlock) (u : ℕ) (s : ListSid) (ss : List ListSid) (cs : List Container) : Type 0 where
  one : All (InBlock (Some b)) ss
  kind : HaveButLast Replace (s ∷ ss)
  few : u + length ss ≤ room_for b
  behind : Follow (asked_behind_packed (Some b) (u + length ss) (last_of s ss)) cs

add_next : (u : ℕ) (t : ListSid) (ts : List ListSid) → u + 1 + length ts ≡ u + length (t ∷ ts)
add_next u t ts = omega arith

add_none : (u : ℕ) → u ≡ u + length {A = ListSid} []
add_none u = omega arith

packed_from : (b : SidBlock) (u : ℕ) (s : ListSid) (ss : List ListSid) (cs : List Container) → s.block ≡ Some b → u ≤ room_for b
    → Open (Some b) u s ss cs → PackedFrom b u s ss cs
packed_from b u s [] cs own within so =
    record {
      one = All-nil (InBlock (Some b));
      kind = tt;
      few = subst (λ (n : ℕ). n ≤ room_for b) (add_none u) within;
      behind = subst (λ (n : ℕ). Follow (asked_behind_packed (Some b) n s) cs) (add_none u) so;
    }
packed_from b u s (t ∷ ts) cs own within so =
    let block : t.block ≡ Some b = so.0.block ∙ own in
    let rest = packed_from b (u + 1) t ts cs block so.0.fits so.1 in
    record {
      one = All-cons (InBlock (Some b)) t ts block rest.one;
      kind = (so.0.kind, rest.kind);
      few = subst (λ (n : ℕ). n ≤ room_for b) (add_next u t ts) rest.few;
      behind = subst (λ (n : ℕ). Follow (asked_behind_packed (Some b) n (last_of t ts)) cs) (add_next u t ts) rest.behind;
    }

from_packed : (b : SidBlock) (u : ℕ) (s : ListSid) (ss : List ListSid) (cs : List Container) → s.block ≡ Some b
    → PackedFrom b u s ss cs → Open (Some b) u s ss cs
from_packed b u s [] cs own is =
    subst (λ (n : ℕ). Follow (asked_behind_packed (Some b) n s) cs) (sym (add_none u)) is.behind
from_packed b u s (t ∷ ts) cs own is =
    let block : t.block ≡ Some b = All-head (InBlock (Some b)) t ts is.one in
    let kind : (s.csid ≡ Replace) × HaveButLast Replace (t ∷ ts) = is.kind in
    let few : u + 1 + length ts ≤ room_for b = subst (λ (n : ℕ). n ≤ room_for b) (sym (add_next u t ts)) is.few in
    let rest : PackedFrom b (u + 1) t ts cs =
    record {
      one = All-tail (InBlock (Some b)) t ts is.one;
      kind = kind.1;
      few = few;
      behind = subst (λ (n : ℕ). Follow (asked_behind_packed (Some b) n (last_of t ts)) cs) (sym (add_next u t ts)) is.behind;
    } in
    (record { kind = kind.0; block = block ∙ sym own; fits = omega (arith, few) }, from_packed b (u + 1) t ts cs block rest)

-- ---- a container in a list

one_more : (s : ListSid) (ss : List ListSid) → 1 + length ss ≡ length (s ∷ ss)
one_more s ss = omega arith

pub follow_made : (k : Option SidBlock) (s : ListSid) (ss : List ListSid) (cs : List Container) → Opens k s
    → Open k (first_taken k s) s ss cs → Follow k (made_as k s ss ∷ cs)
follow_made None s ss cs first so =
    let is = full_from s.block s.prefix.len s ss cs refl first so in
    (record { one_block = is.one; next = is.kind; fits = is.fits }, is.behind)
follow_made (Some b) s ss cs first so =
    let is = packed_from b 1 s ss cs first.0 first.1 so in (
      record {
        one_block = All-cons (InBlock (Some b)) s ss first.0 is.one;
        replace = is.kind;
        few = subst (λ (n : ℕ). n ≤ room_for b) (one_more s ss) is.few;
      },
      subst (λ (n : ℕ). Follow (asked_behind_packed (Some b) n (last_of s ss)) cs) (one_more s ss) is.behind,
    )

-- a container of a legal list is open at its first SID
pub record Opened (k : Option SidBlock) (s : ListSid) (ss : List ListSid) (cs : List Container) : Type 0 where
  pub first : Opens k s
  pub open_here : Open k (first_taken k s) s ss cs

pub opened_full : (k : Option SidBlock) (s : ListSid) (ss : List ListSid) (cs : List Container) → Follow k (Full s ss ∷ cs)
    → Opened k s ss cs
opened_full None s ss cs follow =
    let is : IsFull s ss = follow.0 in
    let fits : s.prefix.len + csid_bits ss ≤ 128 = is.fits in
    let parts : FullFrom s.block s.prefix.len s ss cs =
    record { one = is.one_block; kind = is.next; fits = fits; behind = follow.1 } in
    record { first = omega (arith, fits); open_here = from_full s.block s.prefix.len s ss cs refl parts }
opened_full (Some b) s ss cs follow = absurd follow

pub opened_packed : (k : Option SidBlock) (s : ListSid) (ss : List ListSid) (cs : List Container) → Follow k (Packed s ss ∷ cs)
    → Opened k s ss cs
opened_packed None s ss cs follow = absurd follow
opened_packed (Some b) s ss cs follow =
    let is : IsPacked (Some b) (s ∷ ss) = follow.0 in
    let own : s.block ≡ Some b = All-head (InBlock (Some b)) s ss is.one_block in
    let few : 1 + length ss ≤ room_for b = subst (λ (n : ℕ). n ≤ room_for b) (sym (one_more s ss)) is.few in
    let parts : PackedFrom b 1 s ss cs =
    record {
      one = All-tail (InBlock (Some b)) s ss is.one_block;
      kind = is.replace;
      few = few;
      behind = subst (λ (n : ℕ). Follow (asked_behind_packed (Some b) n (last_of s ss)) cs) (sym (one_more s ss)) follow.1;
    } in
    record { first = (own, omega (arith, few)); open_here = from_packed b 1 s ss cs own parts }

-- ---- what is asked for after a whole container

abbrev pub asked_end : Option SidBlock → ℕ → ListSid → List ListSid → Option SidBlock
asked_end k u s [] = asked_at k u s
asked_end k u s (t ∷ ts) = asked_end k (u + taken k t) t ts

end_full : (u : ℕ) (s : ListSid) (ss : List ListSid) → asked_end None u s ss ≡ asked_behind (last_of s ss)
end_full u s [] = refl
end_full u s (t ∷ ts) = end_full (u + csid_len t) t ts

end_packed : (b : SidBlock) (u : ℕ) (s : ListSid) (ss : List ListSid)
    → asked_end (Some b) u s ss ≡ asked_behind_packed (Some b) (u + length ss) (last_of s ss)
end_packed b u s [] = ap (λ (n : ℕ). asked_behind_packed (Some b) n s) (add_none u)
end_packed b u s (t ∷ ts) =
    end_packed b (u + 1) t ts ∙ ap (λ (n : ℕ). asked_behind_packed (Some b) n (last_of t ts)) (add_next u t ts)

pub asked_end_law : (k : Option SidBlock) (s : ListSid) (ss : List ListSid) → asked_end k (first_taken k s) s ss ≡ asked_after k s ss
asked_end_law None s ss = end_full s.prefix.len s ss
asked_end_law (Some b) s ss = end_packed b 1 s ss ∙ ap (λ (n : ℕ). asked_behind_packed (Some b) n (last_of s ss)) (one_more s ss)
