-- What is found by names behind a change of what is held.
use Rattle.std.proofs.Common.{◌≡◌, ◌≢◌, ℕ, Bool, true, false, cond, List, [], ◌∷◌, Option, Some, None, Result, Ok, Err, refl, sym, ap, ◌∙◌, subst, inl, inr}
use Rattle.std.specs.Str.{bytes_eq}
use Rattle.std.proofs.lemmas.Bool.{cases_Bool, both_ways}
use Rattle.std.proofs.lemmas.Slice.Eq.{bytes_eq-Decides}
use Rattle.net_model.specs.Network.{Network}
use Rattle.pce_protocol.specs.declared.request.TextSource.{TextSource}
use Rattle.pce_protocol.specs.declared.request.TextSource.TheVariants as sources
use Rattle.pce_protocol.specs.declared.request.Load.{Load}
use Rattle.pce_protocol.specs.declared.request.Request.{Request}
use Rattle.pce_protocol.specs.declared.request.Request.TheVariants as requests
use Rattle.pce_protocol.specs.declared.reply.Answer.{Answer}
use Rattle.pce_protocol.specs.declared.reply.ReplyError.{ReplyError}
use Rattle.pce_engine.specs.EngineReplies.{PceState, is_named, network_named, with_network, without_network, Holds, Drops, Loads, Does}
use Rattle.pce_engine.specs.EngineTerms.{changed_name}
use Rattle.pce_engine.specs.declared.networks.Holding.{Holding}

same_name : (name : List ℕ) → bytes_eq name name ≡ true
same_name name = (bytes_eq-Decides name name).1 refl

other_name : (name other : List ℕ) → name ≢ other → bytes_eq name other ≡ false
other_name name other differ =
    elim (cases_Bool (bytes_eq name other)) [ inl t ↦ absurd (differ ((bytes_eq-Decides name other).0 t)) | inr f ↦ f ]

-- a network that has the one name has no other
not_other : (name other : List ℕ) (h : Holding) → name ≢ other → is_named name h ≡ true → is_named other h ≡ false
not_other name other h differ is =
    subst (λ (n : List ℕ). bytes_eq n other ≡ false) (sym ((bytes_eq-Decides h.name name).0 is)) (other_name name other differ)

-- a network that comes to be held is found
pub found_put : (name : List ℕ) (net : Network) (held : List Holding) → network_named name (with_network name net held) ≡ Some net
found_put name net [] = rw (same_name name) refl
found_put name net (h ∷ hs) =
    elim (cases_Bool (is_named name h)) [ inl t ↦ rw (t, same_name name) refl | inr f ↦ rw (f, f) (found_put name net hs) ]

-- one that is dropped isn't
pub none_left : (name : List ℕ) (held : List Holding) → network_named name (without_network name held) ≡ None
none_left name [] = refl
none_left name (h ∷ hs) =
    elim (cases_Bool (is_named name h)) [ inl t ↦ rw t (none_left name hs) | inr f ↦ rw (f, f) (none_left name hs) ]

-- by another name what was held is found
pub others_put : (name other : List ℕ) (net : Network) (held : List Holding) → name ≢ other
    → network_named other (with_network name net held) ≡ network_named other held
others_put name other net [] differ = rw (other_name name other differ) refl
others_put name other net (h ∷ hs) differ =
    elim (cases_Bool (is_named name h)) [
      | inl t ↦ rw (t, other_name name other differ, not_other name other h differ t) refl
      | inr f ↦ rw f (ap (λ rest. cond (is_named other h) (Some h.network) rest) (others_put name other net hs differ))
    ]

pub others_left : (name other : List ℕ) (held : List Holding) → name ≢ other
    → network_named other (without_network name held) ≡ network_named other held
others_left name other [] differ = refl
others_left name other (h ∷ hs) differ =
    elim (cases_Bool (is_named name h)) [
      | inl t ↦ rw (t, not_other name other h differ t) (others_left name other hs differ)
      | inr f ↦ rw f (ap (λ rest. cond (is_named other h) (Some h.network) rest) (others_left name other hs differ))
    ]

-- ---- by requests

holds_others : (name other : List ℕ) (made : Result Network ReplyError) (before : List Holding) (reply : Result Answer ReplyError) (behind : List Holding)
    → Holds name made before reply behind → name ≢ other → network_named other behind ≡ network_named other before
holds_others name other (Ok net) before reply behind h differ = ap (network_named other) h.1 ∙ others_put name other net before differ
holds_others name other (Err error) before reply behind h differ = ap (network_named other) h.1

drops_others : (name other : List ℕ) (there : Result Network ReplyError) (before : List Holding) (reply : Result Answer ReplyError) (behind : List Holding)
    → Drops name there before reply behind → name ≢ other → network_named other behind ≡ network_named other before
drops_others name other (Ok net) before reply behind h differ = ap (network_named other) h.1 ∙ others_left name other before differ
drops_others name other (Err error) before reply behind h differ = ap (network_named other) h.1

loads_others : (load : Load) (other : List ℕ) (plan : Option TextSource) (before behind : PceState) (reply : Result Answer ReplyError)
    → Loads load plan before reply behind → load.name ≢ other → network_named other behind.held ≡ network_named other before.held
loads_others load other None before behind reply h differ = holds_others load.name other _ before.held reply behind.held h.2 differ
loads_others load other (Some (sources.Here text)) before behind reply h differ = ap (λ (s : PceState). network_named other s.held) h.1
loads_others load other (Some (sources.File path)) before behind reply h differ = ap (λ (s : PceState). network_named other s.held) h.1

-- no request changes a network that it doesn't name
pub others_stay : (request : Request) (before behind : PceState) (reply : Result Answer ReplyError) (name : List ℕ)
    → Does request before reply behind → changed_name request ≢ Some name
    → network_named name behind.held ≡ network_named name before.held
others_stay requests.Version before behind reply name h differ = ap (λ (s : PceState). network_named name s.held) h.1
others_stay (requests.Load load) before behind reply name h differ =
    loads_others load name load.plan before behind reply h (λ same. differ (ap Some same))
others_stay (requests.Without without) before behind reply name h differ =
    holds_others without.name name _ before.held reply behind.held h.0 (λ same. differ (ap Some same))
others_stay (requests.Drop gone) before behind reply name h differ =
    drops_others gone name _ before.held reply behind.held h.0 (λ same. differ (ap Some same))
others_stay (requests.Compile compile) before behind reply name h differ = ap (λ (s : PceState). network_named name s.held) h.1
others_stay (requests.Judge judge) before behind reply name h differ = ap (λ (s : PceState). network_named name s.held) h.1
others_stay (requests.Trace trace) before behind reply name h differ = ap (λ (s : PceState). network_named name s.held) h.1
