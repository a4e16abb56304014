-- The stage with the MTU of the link that it takes, from the stage where no link has one.
use Rattle.std.proofs.Common.{◌≡◌, ◌≢◌, ℕ, ◌<◌, ◌≤◌, ◌⊎◌, inl, inr, Bool, true, false, nat_le, eqb, Option, Some, None, slice_get, Contains, refl, sym, ◌∙◌, ap, subst}
use Rattle.std.proofs.lemmas.Bool.Decides.{leb_tells, eqb_tells}
use borrow.Author.Tests.{le-leb, lt-leb}
use Rattle.srv6_rules.specs.declared.family.Family.{Family}
use Rattle.srv6_rules.specs.declared.reason.Reason.{Reason}
use Rattle.srv6_rules.specs.declared.reason.Reason.TheVariants as reasons
use Rattle.srv6_rules.specs.declared.sid.SidEntry.{SidEntry}
use Rattle.srv6_rules.specs.Behaviours.{behaviour_policy}
use Rattle.srv6_rules.specs.Packet.{Packet, Content, bytes_of, read_as}
use Rattle.srv6_rules.specs.PacketTerms.{IsContent}
use Rattle.net_model.specs.Network.{Network}
use Rattle.net_model.specs.NetworkKeeps.{Keeps}
use Rattle.walk_rules.specs.declared.place.How.{How}
use Rattle.walk_rules.specs.declared.place.Place.{Place}
use Rattle.walk_rules.specs.declared.place.Outcome.{Outcome}
use Rattle.walk_rules.specs.declared.place.Outcome.TheVariants as outcomes
use Rattle.walk_rules.specs.Treatment.{Gave, dropped, goes, member_of, own_len, mtu_at, over_link, judged_by, judged, exposed_from, onward_from, free_step_of, step_of}
use Rattle.walk_rules.specs.Relation.{GivesOutcome, IsFreeStage, DropsAtLink, IsStage}
use Rattle.walk_rules.specs.WalkLaws.{hops_at}
use Rattle.walk_rules.specs.WalkLawsTerms.{Executes, IsDeliveredBehindUsp, IsLoweredByOne, PushesOne, SendsApart, Takes, TakenApart, TellsOfError, family_after}
use Rattle.walk_rules.proofs.Sending.{given, drops_gave}
use Rattle.walk_rules.proofs.WalkStages.{free_choice}
use Rattle.walk_rules.proofs.WalkChoices.{free_unique, free_named}
use Rattle.walk_rules.proofs.OutcomeFacts.{free_member, free_each, free_names, free_drop, free_local, free_tells}
use Rattle.walk_rules.proofs.WalkExecutions.{free_again, free_hand, free_less, free_pushes}
use Rattle.walk_rules.proofs.WalkContents.{free_content, free_back}

-- ---- the function

module _ (net : Network) (node : ℕ) (content : Content) where
  -- what stands at a node dropped at a link
  abbrev pub at_link : ℕ → Gave
  at_link link = dropped net node reasons.MtuExceeded (mtu_at net link) content

  pub over_link_fits : (gave : Gave) (link : ℕ) → own_len content ≤ mtu_at net link → over_link net node content gave link ≡ gave
  over_link_fits gave link fits = rw (le-leb (own_len content) (mtu_at net link) fits) refl

  pub over_link_long : (gave : Gave) (link : ℕ) → mtu_at net link < own_len content
      → over_link net node content gave link ≡ at_link link
  over_link_long gave link long = rw (lt-leb (own_len content) (mtu_at net link) long) refl

  -- a packet goes over a link, or is too long for it
  abbrev Tells : ℕ → Type 0
  Tells link =
      ((nat_le (own_len content) (mtu_at net link) ≡ true) × (own_len content ≤ mtu_at net link))
      ⊎ ((nat_le (own_len content) (mtu_at net link) ≡ false) × (mtu_at net link < own_len content))

  tells : (link : ℕ) → Tells link
  tells link = leb_tells (own_len content) (mtu_at net link)

  -- what holds of what is given where no link has an MTU, and of each drop at a link, holds of what is given with them
  by_each : (P : Gave → Type 0) (gave : Gave) (o : Outcome) → P gave
      → ((link : ℕ) → o ≡ outcomes.Send link → mtu_at net link < own_len content → P (at_link link))
      → P (judged_by net node content gave o)
  by_each P gave (outcomes.Again n how) free long = free
  by_each P gave (outcomes.Hand n how family) free long = free
  by_each P gave (outcomes.Send link) free long = by_test (tells link)
    where
      by_test : Tells link → P (over_link net node content gave link)
      by_test (inl fits) = subst P (sym (over_link_fits gave link fits.1)) free
      by_test (inr too) = subst P (sym (over_link_long gave link too.1)) (long link refl too.1)
  by_each P gave outcomes.Local free long = free
  by_each P gave (outcomes.Drop reason told) free long = free

  pub judged_each : (P : Gave → Type 0) (gave : Gave) → P gave
      → ((link : ℕ) → gave.outcome ≡ outcomes.Send link → mtu_at net link < own_len content → P (at_link link))
      → P (judged net node content gave)
  judged_each P gave free long = by_each P gave gave.outcome free long

  judged_sent : (gave : Gave) (link : ℕ) → gave.outcome ≡ outcomes.Send link
      → judged net node content gave ≡ over_link net node content gave link
  judged_sent gave link e = ap (judged_by net node content gave) e

  pub judged_fits : (gave : Gave) (link : ℕ) → gave.outcome ≡ outcomes.Send link → own_len content ≤ mtu_at net link
      → judged net node content gave ≡ gave
  judged_fits gave link e fits = judged_sent gave link e ∙ over_link_fits gave link fits

  pub judged_long : (gave : Gave) (link : ℕ) → gave.outcome ≡ outcomes.Send link → mtu_at net link < own_len content
      → judged net node content gave ≡ at_link link
  judged_long gave link e long = judged_sent gave link e ∙ over_link_long gave link long

  by_other : (gave : Gave) (o : Outcome) → ((link : ℕ) → o ≢ outcomes.Send link) → judged_by net node content gave o ≡ gave
  by_other gave (outcomes.Again n how) h = refl
  by_other gave (outcomes.Hand n how family) h = refl
  by_other gave (outcomes.Send link) h = absurd (h link refl)
  by_other gave outcomes.Local h = refl
  by_other gave (outcomes.Drop reason told) h = refl

  pub judged_other : (gave : Gave) → ((link : ℕ) → gave.outcome ≢ outcomes.Send link) → judged net node content gave ≡ gave
  judged_other gave h = by_other gave gave.outcome h

module _ (net : Network) (place : Place) (content : Content) (choice : ℕ) where
  abbrev free_gave : Gave
  free_gave = free_step_of net place content choice

  pub step_each : (P : Gave → Type 0) → P (free_step_of net place content choice)
      → ((link : ℕ) → (free_step_of net place content choice).outcome ≡ outcomes.Send link → mtu_at net link < own_len content
      → P (dropped net place.node reasons.MtuExceeded (mtu_at net link) content))
      → P (step_of net place content choice)
  step_each P free long = judged_each net place.node content P free_gave free long

  pub step_fits : (link : ℕ) → (free_step_of net place content choice).outcome ≡ outcomes.Send link
      → own_len content ≤ mtu_at net link → step_of net place content choice ≡ free_step_of net place content choice
  step_fits = judged_fits net place.node content free_gave

  pub step_long : (link : ℕ) → (free_step_of net place content choice).outcome ≡ outcomes.Send link
      → mtu_at net link < own_len content
      → step_of net place content choice ≡ dropped net place.node reasons.MtuExceeded (mtu_at net link) content
  step_long = judged_long net place.node content free_gave

  pub step_other : ((link : ℕ) → (free_step_of net place content choice).outcome ≢ outcomes.Send link)
      → step_of net place content choice ≡ free_step_of net place content choice
  step_other = judged_other net place.node content free_gave

-- choices that name one member give one stage
pub step_named : (net : Network) (place : Place) (content : Content) (choice other : ℕ)
    → member_of (hops_at net place content) choice ≡ member_of (hops_at net place content) other
    → step_of net place content choice ≡ step_of net place content other
step_named net place content choice other same =
    ap (judged net place.node content) (free_named net place content choice other same)

-- ---- what holds of each outcome

pub step_member : (net : Network) (place : Place) (content : Content) (choice link : ℕ)
    → (step_of net place content choice).outcome ≡ outcomes.Send link → link ≡ member_of (hops_at net place content) choice
step_member net place content choice link =
    step_each net place content choice
    (λ gave. gave.outcome ≡ outcomes.Send link → link ≡ member_of (hops_at net place content) choice)
    (free_names net place content choice link) (λ other e long same. cc)

pub step_drop : (net : Network) (place : Place) (content : Content) (choice : ℕ) (reason : Reason) (error : Bool)
    → (step_of net place content choice).outcome ≡ outcomes.Drop reason error → (step_of net place content choice).after ≡ content
step_drop net place content choice reason error =
    step_each net place content choice (λ gave. gave.outcome ≡ outcomes.Drop reason error → gave.after ≡ content)
    (free_drop net place content choice reason error) (λ link e long same. refl)

pub step_local : (net : Network) (place : Place) (content : Content) (choice : ℕ)
    → let gave = step_of net place content choice in gave.outcome ≡ outcomes.Local
    → (gave.after ≡ content) ⊎ IsDeliveredBehindUsp net place content gave.after
step_local net place content choice =
    step_each net place content choice
    (λ gave. gave.outcome ≡ outcomes.Local → (gave.after ≡ content) ⊎ IsDeliveredBehindUsp net place content gave.after)
    (free_local net place content choice) (λ link e long same. cc)

pub step_tells : (net : Network) (place : Place) (content : Content) (choice : ℕ)
    → let gave = step_of net place content choice in TellsOfError gave.outcome gave.error
step_tells net place content choice =
    step_each net place content choice (λ gave. TellsOfError gave.outcome gave.error) (free_tells net place content choice)
    (λ link e long. refl)

pub step_again : (net : Network) (place : Place) (content : Content) (choice n : ℕ) (how : How)
    → (step_of net place content choice).outcome ≡ outcomes.Again n how
    → Executes onward_from net place content (step_of net place content choice) n how
step_again net place content choice n how =
    step_each net place content choice (λ gave. gave.outcome ≡ outcomes.Again n how → Executes onward_from net place content gave n how)
    (free_again net place content choice n how) (λ link e long same. cc)

pub step_hand : (net : Network) (place : Place) (content : Content) (choice n : ℕ) (how : How) (family : Family)
    → (step_of net place content choice).outcome ≡ outcomes.Hand n how family
    → Executes exposed_from net place content (step_of net place content choice) n how
step_hand net place content choice n how family =
    step_each net place content choice
    (λ gave. gave.outcome ≡ outcomes.Hand n how family → Executes exposed_from net place content gave n how)
    (free_hand net place content choice n how family) (λ link e long same. cc)

pub step_less : (net : Network) (place : Place) (content : Content) (choice n : ℕ) (how : How) (s : SidEntry)
    → slice_get net.sids n ≡ Some s → behaviour_policy s.behaviour ≡ None
    → (step_of net place content choice).outcome ≡ outcomes.Again n how
    → IsLoweredByOne content (step_of net place content choice).after
step_less net place content choice n how s there unbound =
    step_each net place content choice (λ gave. gave.outcome ≡ outcomes.Again n how → IsLoweredByOne content gave.after)
    (free_less net place content choice n how s there unbound) (λ link e long same. cc)

pub step_pushes : (net : Network) (place : Place) (content : Content) (choice n : ℕ) (how : How) (s : SidEntry) (number : ℕ)
    → slice_get net.sids n ≡ Some s → behaviour_policy s.behaviour ≡ Some number
    → (step_of net place content choice).outcome ≡ outcomes.Again n how
    → PushesOne net place content (step_of net place content choice).after n
step_pushes net place content choice n how s number there binds =
    step_each net place content choice (λ gave. gave.outcome ≡ outcomes.Again n how → PushesOne net place content gave.after n)
    (free_pushes net place content choice n how s number there binds) (λ link e long same. cc)

pub step_content : (net : Network) (place : Place) (content : Content) (choice : ℕ) → Keeps net → IsContent content
    → IsContent (step_of net place content choice).after
step_content net place content choice keeps is =
    step_each net place content choice (λ gave. IsContent gave.after) (free_content net place content choice keeps is)
    (λ link e long. is)

pub step_back : (net : Network) (place : Place) (content : Content) (choice : ℕ) → Keeps net → IsContent content
    → read_as place.family (bytes_of content) ≡ content
    → let gave = step_of net place content choice in read_as (family_after place gave.outcome) (bytes_of gave.after) ≡ gave.after
step_back net place content choice keeps is same =
    step_each net place content choice (λ gave. read_as (family_after place gave.outcome) (bytes_of gave.after) ≡ gave.after)
    (free_back net place content choice keeps is same) (λ link e long. same)

-- ---- the relation and the function

-- a Send sends no error
quiet : (net : Network) (place : Place) (content : Content) (link : ℕ) (after : Content) (error : Option Packet)
    → IsFreeStage net place content (outcomes.Send link) after error → error ≡ None
quiet net place content link after error h =
    let c = free_choice net place content (outcomes.Send link) after error h in
    subst (λ (gave : Gave). TellsOfError gave.outcome gave.error) c.1 (free_tells net place content c.0)

module _ (net : Network) (place : Place) (content : Content) where
  -- of what is given where no link has an MTU the relation has what is given with them
  abbrev JudgedIs : Gave → Type 0
  JudgedIs gave = IsStage net place content gave.outcome gave.after gave.error

  judged_is : (o : Outcome) (after : Content) (error : Option Packet) → IsFreeStage net place content o after error
      → JudgedIs (judged net place.node content (given o after error))
  judged_is (outcomes.Again n how) after error free = free
  judged_is (outcomes.Hand n how family) after error free = free
  judged_is (outcomes.Send link) after error free = by_test (tells net place.node content link)
    where
      sent : Gave
      sent = given (outcomes.Send link) after error

      by_test : Tells net place.node content link → JudgedIs (over_link net place.node content sent link)
      by_test (inl fits) = subst JudgedIs (sym (over_link_fits net place.node content sent link fits.1)) (free, fits.1)
      by_test (inr too) =
          let would : IsFreeStage net place content (outcomes.Send link) after None =
          subst (λ (e : Option Packet). IsFreeStage net place content (outcomes.Send link) after e)
          (quiet net place content link after error free) free in
          subst JudgedIs (sym (over_link_long net place.node content sent link too.1))
          (inr (record { link = link; left = after; would = would; long = too.1; drops = (refl, refl, refl) }))
  judged_is outcomes.Local after error free = free
  judged_is (outcomes.Drop reason told) after error free = inl free

  pub step_is : (choice : ℕ)
      → let free = free_step_of net place content choice in IsFreeStage net place content free.outcome free.after free.error
      → let gave = step_of net place content choice in IsStage net place content gave.outcome gave.after gave.error
  step_is choice free =
      let gave : Gave = free_step_of net place content choice in judged_is gave.outcome gave.after gave.error free

  -- each outcome that there is is given at some choice
  abbrev GivenAt : Outcome → Content → Option Packet → Type 0
  GivenAt outcome after error = (choice : ℕ) × (step_of net place content choice ≡ given outcome after error)

  by_choice : (outcome : Outcome) (after : Content) (error : Option Packet) (wanted : Gave)
      → IsFreeStage net place content outcome after error
      → judged net place.node content (given outcome after error) ≡ wanted
      → (choice : ℕ) × (step_of net place content choice ≡ wanted)
  by_choice outcome after error wanted free same =
      let c = free_choice net place content outcome after error free in
      (c.0, ap (judged net place.node content) c.1 ∙ same)

  pub stage_choice : (outcome : Outcome) (after : Content) (error : Option Packet) → IsStage net place content outcome after error
      → (choice : ℕ) × (step_of net place content choice ≡ given outcome after error)
  stage_choice (outcomes.Again n how) after error h = by_choice (outcomes.Again n how) after error _ h refl
  stage_choice (outcomes.Hand n how family) after error h = by_choice (outcomes.Hand n how family) after error _ h refl
  stage_choice (outcomes.Send link) after error h =
      by_choice (outcomes.Send link) after error _ h.0
      (over_link_fits net place.node content (given (outcomes.Send link) after error) link h.1)
  stage_choice outcomes.Local after error h = by_choice outcomes.Local after error _ h refl
  stage_choice (outcomes.Drop reason told) after error h = by_drop h
    where
      by_drop : IsFreeStage net place content (outcomes.Drop reason told) after error
          ⊎ DropsAtLink net place content (outcomes.Drop reason told) after error
          → GivenAt (outcomes.Drop reason told) after error
      by_drop (inl free) = by_choice (outcomes.Drop reason told) after error _ free refl
      by_drop (inr at) =
          by_choice (outcomes.Send at.link) at.left None _ at.would
          (over_link_long net place.node content (given (outcomes.Send at.link) at.left None) at.link at.long
          ∙ drops_gave net place.node reasons.MtuExceeded (mtu_at net at.link) content (outcomes.Drop reason told) after error at.drops)

  -- a stage sends on members of its set of equal next hops alone
  pub stage_member : (link : ℕ) (after : Content) (error : Option Packet) → IsStage net place content (outcomes.Send link) after error
      → Contains (hops_at net place content) link
  stage_member link after error h = free_member net place content link after error h.0

  -- of a set there is the outcome of each member
  pub stage_each : (link other : ℕ) (after : Content) (error : Option Packet)
      → IsFreeStage net place content (outcomes.Send link) after error → Contains (hops_at net place content) other
      → let gave = over_link net place.node content (goes (outcomes.Send other) after) other in
      IsStage net place content gave.outcome gave.after gave.error
  stage_each link other after error h there =
      let each = free_each net place content link other after error h there in
      let would : IsFreeStage net place content (outcomes.Send other) after None =
      subst (λ (e : Option Packet). IsFreeStage net place content (outcomes.Send other) after e)
      (quiet net place content other after error each) each in
      judged_is (outcomes.Send other) after None would

  -- ---- how outcomes differ

  -- an outcome takes no link, or a member's
  abbrev TakesOrNot : Outcome → Content → Option Packet → Type 0
  TakesOrNot outcome after error =
      (IsFreeStage net place content outcome after error × ((link : ℕ) → outcome ≢ outcomes.Send link))
      ⊎ ((link : ℕ) × Takes net place content link outcome after error)

  gives_judged : (gave : Gave) (outcome : Outcome) (after : Content) (error : Option Packet) → given outcome after error ≡ gave
      → GivesOutcome gave outcome after error
  gives_judged gave outcome after error e =
      (ap (λ (g : Gave). g.outcome) e, ap (λ (g : Gave). g.after) e, ap (λ (g : Gave). g.error) e)

  stage_takes : (outcome : Outcome) (after : Content) (error : Option Packet) → IsStage net place content outcome after error
      → TakesOrNot outcome after error
  stage_takes (outcomes.Again n how) after error h = inl (h, λ link e. cc)
  stage_takes (outcomes.Hand n how family) after error h = inl (h, λ link e. cc)
  stage_takes (outcomes.Send link) after error h =
      let none = quiet net place content link after error h.0 in
      let would : IsFreeStage net place content (outcomes.Send link) after None =
      subst (λ (e : Option Packet). IsFreeStage net place content (outcomes.Send link) after e) none h.0 in
      let sent : Gave = goes (outcomes.Send link) after in
      inr (
        link,
        record {
          left = after;
          would = would;
          gives = gives_judged (over_link net place.node content sent link) (outcomes.Send link) after error
              (ap (given (outcomes.Send link) after) none ∙ sym (over_link_fits net place.node content sent link h.1));
        },
      )
  stage_takes outcomes.Local after error h = inl (h, λ link e. cc)
  stage_takes (outcomes.Drop reason told) after error (inl free) = inl (free, λ link e. cc)
  stage_takes (outcomes.Drop reason told) after error (inr at) =
      let sent : Gave = goes (outcomes.Send at.link) at.left in
      inr (
        at.link,
        record {
          left = at.left;
          would = at.would;
          gives = gives_judged (over_link net place.node content sent at.link) (outcomes.Drop reason told) after error
              (sym (drops_gave net place.node reasons.MtuExceeded (mtu_at net at.link) content (outcomes.Drop reason told) after error
              at.drops)
              ∙ sym (over_link_long net place.node content sent at.link at.long));
        },
      )

  abbrev SameOrApart : Outcome → Content → Option Packet → Outcome → Content → Option Packet → Type 0
  SameOrApart one after error other later told =
      ((one ≡ other) × ((after ≡ later) × (error ≡ told))) ⊎ TakenApart net place content one after error other later told

  -- two outcomes of which one takes no link are one
  not_sent : (one : Outcome) (after : Content) (error : Option Packet) (other : Outcome) (later : Content) (told : Option Packet)
      → ((link : ℕ) → one ≢ outcomes.Send link) → IsFreeStage net place content one after error
      → IsFreeStage net place content other later told → (one ≡ other) × ((after ≡ later) × (error ≡ told))
  not_sent one after error other later told none h g = by_case u.2
    where
      u : (after ≡ later) × (error ≡ told) × ((one ≡ other) ⊎ SendsApart (hops_at net place content) one other)
      u = free_unique net place content one after error other later told h g

      by_case : ((one ≡ other) ⊎ SendsApart (hops_at net place content) one other) → (one ≡ other) × ((after ≡ later) × (error ≡ told))
      by_case (inl same) = (same, (u.0, u.1))
      by_case (inr apart) = absurd (none apart.one_link apart.one_sends)

  -- two members' outcomes
  same_taken : (k m : ℕ) (left other : Content) → k ≡ m → left ≡ other
      → over_link net place.node content (goes (outcomes.Send k) left) k ≡ over_link net place.node content (goes (outcomes.Send m) other) m
  same_taken k m left other e f = rw (e, f) refl

  both_taken : (one : Outcome) (after : Content) (error : Option Packet) (other : Outcome) (later : Content) (told : Option Packet)
      → (k m : ℕ) → Takes net place content k one after error → Takes net place content m other later told
      → SameOrApart one after error other later told
  both_taken one after error other later told k m a b = by_test (eqb_tells k m)
    where
      lefts : a.left ≡ b.left
      lefts =
          (free_unique net place content (outcomes.Send k) a.left None (outcomes.Send m) b.left None a.would b.would).0

      whole : (o p : Gave) → o ≡ p → GivesOutcome o one after error → GivesOutcome p other later told
          → (one ≡ other) × ((after ≡ later) × (error ≡ told))
      whole o p e h g = (
        h.0 ∙ ap (λ (x : Gave). x.outcome) e ∙ sym g.0,
        (h.1 ∙ ap (λ (x : Gave). x.after) e ∙ sym g.1, h.2 ∙ ap (λ (x : Gave). x.error) e ∙ sym g.2),
      )

      by_test : ((eqb k m ≡ true) × (k ≡ m)) ⊎ ((eqb k m ≡ false) × (k ≢ m)) → SameOrApart one after error other later told
      by_test (inl same) = inl (whole _ _ (same_taken k m a.left b.left same.1 lefts) a.gives b.gives)
      by_test (inr differ) =
          inr (record {
            one_link = k;
            other_link = m;
            one_member = free_member net place content k a.left None a.would;
            other_member = free_member net place content m b.left None b.would;
            apart = differ.1;
            one_taken = a;
            other_taken = b;
          })

  pub stage_unique : (one : Outcome) (after : Content) (error : Option Packet) (other : Outcome) (later : Content)
      → (told : Option Packet) → IsStage net place content one after error → IsStage net place content other later told
      → ((one ≡ other) × ((after ≡ later) × (error ≡ told))) ⊎ TakenApart net place content one after error other later told
  stage_unique one after error other later told h g = by_cases (stage_takes one after error h) (stage_takes other later told g)
    where
      by_cases : TakesOrNot one after error → TakesOrNot other later told → SameOrApart one after error other later told
      by_cases (inl a) (inl b) = inl (not_sent one after error other later told a.1 a.0 b.0)
      by_cases (inl a) (inr b) =
          absurd (a.1 b.0 (not_sent one after error (outcomes.Send b.0) b.1.left None a.1 a.0 b.1.would).0)
      by_cases (inr a) (inl b) =
          absurd (b.1 a.0 (not_sent other later told (outcomes.Send a.0) a.1.left None b.1 b.0 a.1.would).0)
      by_cases (inr a) (inr b) = both_taken one after error other later told a.0 b.0 a.1 b.1
