-- What is left of a network, step by step.
use Rattle.std.proofs.Common.{◌≡◌, ℕ, List, Result, Ok, Err, refl, sym, ap, ◌∙◌, inl, inr}
use mathlib.Core.Logic.{◌⊎◌}
use Rattle.net_model.specs.Network.{Network}
use Rattle.net_model.specs.Named.{node_numbered, link_numbered}
use Rattle.net_without.specs.Without.{without_of}
use Rattle.pce_protocol.specs.declared.request.Without.{Without}
use Rattle.pce_protocol.specs.declared.reply.ReplyError.{ReplyError}
use Rattle.pce_protocol.specs.declared.reply.ReplyError.TheVariants as errors
use Rattle.pce_engine.specs.declared.networks.Holding.{Holding}
use Rattle.pce_engine.specs.EngineReplies.{◌>>=◌, held_as, numbers_of, room_for, kept, left}

bind_ok : {X Y : Type 0} (r : Result X ReplyError) (x : X) (next : X → Result Y ReplyError) → r ≡ Ok x → ◌>>=◌ r next ≡ next x
bind_ok r x next is = ap (λ s. ◌>>=◌ s next) is

bind_err : {X Y : Type 0} (r : Result X ReplyError) (error : ReplyError) (next : X → Result Y ReplyError) → r ≡ Err error → ◌>>=◌ r next ≡ Err error
bind_err r error next is = ap (λ s. ◌>>=◌ s next) is

-- the steps behind one another
abbrev at_room : Without → List Holding → Network → List ℕ → List ℕ → Result Network ReplyError
at_room without held net links nodes = ◌>>=◌ (room_for without.name held) (λ room. Ok (without_of net links nodes))

abbrev at_nodes : Without → List Holding → Network → List ℕ → Result Network ReplyError
at_nodes without held net links = ◌>>=◌ (numbers_of (λ name. node_numbered name net.nodes) without.nodes) (λ nodes. at_room without held net links nodes)

abbrev at_links : Without → List Holding → Network → Result Network ReplyError
at_links without held net = ◌>>=◌ (numbers_of (λ name. link_numbered name net.links) without.links) (λ links. at_nodes without held net links)

to_links : (without : Without) (held : List Holding) (net : Network) (fine : Unit {0})
    → held_as without.from held ≡ Ok net → kept without.routes ≡ Ok fine → left without held ≡ at_links without held net
to_links without held net fine there keeps =
    bind_ok (held_as without.from held) net (λ n. ◌>>=◌ (kept without.routes) (λ u. at_links without held n)) there
    ∙ bind_ok (kept without.routes) fine (λ u. at_links without held net) keeps

pub no_links : (without : Without) (held : List Holding) (net : Network) (fine : Unit {0}) (error : ReplyError)
    → held_as without.from held ≡ Ok net → kept without.routes ≡ Ok fine
    → (numbers_of (λ name. link_numbered name net.links) without.links ≡ Err error) ⊎ (error ≡ errors.NoMemory)
    → (left without held ≡ Err error) ⊎ (error ≡ errors.NoMemory)
no_links without held net fine error there keeps (inl is) =
    inl (to_links without held net fine there keeps
    ∙ bind_err (numbers_of (λ name. link_numbered name net.links) without.links) error (λ links. at_nodes without held net links) is)
no_links without held net fine error there keeps (inr wanting) = inr wanting

to_nodes : (without : Without) (held : List Holding) (net : Network) (fine : Unit {0}) (links : List ℕ)
    → held_as without.from held ≡ Ok net → kept without.routes ≡ Ok fine
    → numbers_of (λ name. link_numbered name net.links) without.links ≡ Ok links
    → left without held ≡ at_nodes without held net links
to_nodes without held net fine links there keeps first =
    to_links without held net fine there keeps
    ∙ bind_ok (numbers_of (λ name. link_numbered name net.links) without.links) links (λ ns. at_nodes without held net ns) first

pub no_nodes : (without : Without) (held : List Holding) (net : Network) (fine : Unit {0}) (links : List ℕ) (error : ReplyError)
    → held_as without.from held ≡ Ok net → kept without.routes ≡ Ok fine
    → numbers_of (λ name. link_numbered name net.links) without.links ≡ Ok links
    → (numbers_of (λ name. node_numbered name net.nodes) without.nodes ≡ Err error) ⊎ (error ≡ errors.NoMemory)
    → (left without held ≡ Err error) ⊎ (error ≡ errors.NoMemory)
no_nodes without held net fine links error there keeps first (inl is) =
    inl (to_nodes without held net fine links there keeps first
    ∙ bind_err (numbers_of (λ name. node_numbered name net.nodes) without.nodes) error (λ nodes. at_room without held net links nodes) is)
no_nodes without held net fine links error there keeps first (inr wanting) = inr wanting

pub all_left : (without : Without) (held : List Holding) (net : Network) (fine room : Unit {0}) (links nodes : List ℕ) (result : Network)
    → held_as without.from held ≡ Ok net → kept without.routes ≡ Ok fine
    → numbers_of (λ name. link_numbered name net.links) without.links ≡ Ok links
    → numbers_of (λ name. node_numbered name net.nodes) without.nodes ≡ Ok nodes
    → room_for without.name held ≡ Ok room → result ≡ without_of net links nodes
    → left without held ≡ Ok result
all_left without held net fine room links nodes result there keeps first second roomy is =
    to_nodes without held net fine links there keeps first
    ∙ bind_ok (numbers_of (λ name. node_numbered name net.nodes) without.nodes) nodes (λ ns. at_room without held net links ns) second
    ∙ bind_ok (room_for without.name held) room (λ u. Ok (without_of net links nodes)) roomy
    ∙ ap Ok (sym is)
