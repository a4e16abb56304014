-- A list is as good as the chosen one exactly where it has its numbers.
use Rattle.std.proofs.Common.{◌≡◌, ◌↔◌, ℕ, ◌*◌, Bool, List, length, refl, sym, ◌∙◌, ap, subst}
use Rattle.std.specs.Prelude.{IsTrue, IsOk, Result, Ok, Err}
use Rattle.net_model.specs.Network.{Network}
use Rattle.net_flatness.specs.declared.not_flat.NotFlat.{NotFlat}
use Rattle.net_flatness.specs.Flat.{flatness_of}
use Rattle.intent_reader.specs.declared.intent.Intent.{Intent}
use Rattle.intent_reader.specs.Preferences.{sid_cost_of}
use Rattle.list_pack.specs.declared.types.Container.{Container}
use Rattle.list_pack.specs.declared.types.Cost.{Cost}
use Rattle.list_pack.specs.declared.types.Solution.{Solution}
use Rattle.list_pack.specs.SidLists.{IsLegalList, prefixes_in}
use Rattle.list_pack.proofs.PublicLaws.{at_most_both}
use Rattle.path_compiler.specs.declared.compiled.Compiled.{Compiled}
use Rattle.path_compiler.specs.declared.compiled.CompileFault.{CompileFault}
use Rattle.path_compiler.specs.declared.compiled.CompileFault.TheVariants as faults
use Rattle.path_compiler.specs.Compiled.{AnswersOver, IsChosen, IsFound, IsNoList}
use Rattle.leg_table.specs.StrictTableTerms.{LegTable}
use Rattle.path_compiler.specs.ListCosts.{list_cost}
use Rattle.intent_compiler.specs.IntentLegs.{ListExecutesFor, ListRealizesFor, intent_legs_value}
use Rattle.intent_compiler.proofs.PublicLaws.{cost_for}
use Rattle.list_judge.specs.Judgements.{IsAsChosen}

module _ (net : Network) (intent : Intent) where
  abbrev sid_cost : ℕ
  sid_cost = sid_cost_of intent.prefer

  abbrev Chosen : List Container → ℕ → Type 0
  Chosen list need = IsChosen sid_cost net (ListRealizesFor net intent) (ListExecutesFor net intent) list need

  -- two chosen lists cost the same
  chosen_cost : (a b : List Container) (n m : ℕ) → Chosen a n → Chosen b m → list_cost sid_cost a n ≡ list_cost sid_cost b m
  chosen_cost a b n m is also =
      at_most_both (list_cost sid_cost a n) (list_cost sid_cost b m) (is.least b m also.whole.legal also.whole.realizes)
      (also.least a n is.whole.legal is.whole.realizes)

  -- the numbers of a chosen list are a list's
  abbrev AreNumbers : ℕ → ℕ → ℕ → ℕ → ℕ → ℕ → Type 0
  AreNumbers containers need sids own_containers own_need own_sids =
      (containers ≡ own_containers) × (need ≡ own_need) × (sid_cost * sids ≡ sid_cost * own_sids)

  pub as_found : (reduced : Bool) (c : Compiled) (list : List Container) (containers sids need : ℕ) (b : Bool)
      → IsFound (intent_legs_value net intent) net (ListRealizesFor net intent) (ListExecutesFor net intent) reduced c
      → containers ≡ length list → sids ≡ length (prefixes_in list)
      → (IsTrue b ↔ AreNumbers c.containers c.need c.sids containers need sids) → IsTrue b ↔ IsAsChosen net intent list need
  as_found reduced c list containers sids need b found is_containers is_sids test =
      let chosen : Chosen c.list c.need
      = subst (λ (n : ℕ). IsChosen n net (ListRealizesFor net intent) (ListExecutesFor net intent) c.list c.need) (cost_for net intent)
      found.chosen in (
        λ yes.
            let same = test.0 yes in
            record {
              chosen = c.list;
              is_chosen = subst (Chosen c.list) same.1 chosen;
              containers = sym found.containers ∙ same.0 ∙ is_containers;
              sids = ap (λ (n : ℕ). sid_cost * n) (sym found.sids) ∙ same.2 ∙ ap (λ (n : ℕ). sid_cost * n) is_sids;
            },
        λ other.
            let cost = chosen_cost c.list other.chosen c.need need chosen other.is_chosen in
            test.1 (
              found.containers ∙ ap (λ (x : Cost). x.containers) cost ∙ other.containers ∙ sym is_containers,
              ap (λ (x : Cost). x.hops) cost,
              ap (λ (n : ℕ). sid_cost * n) found.sids ∙ ap (λ (x : Cost). x.sids) cost ∙ other.sids
                  ∙ ap (λ (n : ℕ). sid_cost * n) (sym is_sids),
            ),
      )

-- what the search found over legs that are those of an intent
pub found_at : (t : LegTable) (net : Network) (intent : Intent) (reduced : Bool) (c : Compiled) → t ≡ record { net = net; intent = intent }
    → IsFound (intent_legs_value t.net t.intent) net (ListRealizesFor t.net t.intent) (ListExecutesFor t.net t.intent) reduced c
    → IsFound (intent_legs_value net intent) net (ListRealizesFor net intent) (ListExecutesFor net intent) reduced c
found_at t net intent reduced c e found =
    subst (λ (u : LegTable). IsFound (intent_legs_value u.net u.intent) net (ListRealizesFor u.net u.intent) (ListExecutesFor u.net u.intent)
    reduced c) e found

-- where it found none, no list realizes
pub none_at : (t : LegTable) (net : Network) (intent : Intent) (s : Solution) → t ≡ record { net = net; intent = intent }
    → IsNoList (intent_legs_value t.net t.intent) net (ListRealizesFor t.net t.intent) s → (list : List Container) (need : ℕ)
    → IsLegalList net list → ¬ ListRealizesFor net intent list need
none_at t net intent s e none list need legal =
    subst (λ (u : LegTable). ¬ ListRealizesFor u.net u.intent list need) e (none.none list need legal)

-- a flat network is refused for nothing
pub accepted : (r : Result (Unit {0}) NotFlat) → IsOk r → r ≡ Ok tt
accepted (Ok u) is = refl
accepted (Err why) is = absurd (cc)

never_refused : (r : Result (Unit {0}) NotFlat) (why : NotFlat) → r ≡ Ok tt → ¬ (r ≡ Err why)
never_refused r why e f = absurd (cc)

-- what a refusal over legs that are those of an intent tells
module _ (t : LegTable) (net : Network) (intent : Intent) (same : t ≡ record { net = net; intent = intent }) (fault : CompileFault)
    (told : AnswersOver (intent_legs_value t.net t.intent) net (ListRealizesFor t.net t.intent) (ListExecutesFor t.net t.intent) intent
    (Err fault)) where
  abbrev Told : CompileFault → Type 0
  Told f = AnswersOver (intent_legs_value t.net t.intent) net (ListRealizesFor t.net t.intent) (ListExecutesFor t.net t.intent) intent (Err f)

  abbrev Found : Compiled → Type 0
  Found c = IsFound (intent_legs_value net intent) net (ListRealizesFor net intent) (ListExecutesFor net intent) intent.reduced c

  pub too_long_found : (c : Compiled) → fault ≡ faults.TooLong c → Found c
  too_long_found c e = let is : Told (faults.TooLong c) = subst Told e told in found_at t net intent intent.reduced c same is.found

  pub hop_limit_found : (c : Compiled) → fault ≡ faults.HopLimit c → Found c
  hop_limit_found c e = let is : Told (faults.HopLimit c) = subst Told e told in found_at t net intent intent.reduced c same is.found

  pub no_list_none : (s : Solution) → fault ≡ faults.NoList s → (list : List Container) (need : ℕ) → IsLegalList net list
      → ¬ ListRealizesFor net intent list need
  no_list_none s e = let is : Told (faults.NoList s) = subst Told e told in none_at t net intent s same is

  pub not_flat_never : (why : NotFlat) → fault ≡ faults.NotFlat why → flatness_of net ≡ Ok tt → ⊥
  not_flat_never why e ok = let is : Told (faults.NotFlat why) = subst Told e told in never_refused (flatness_of net) why ok is
