-- Two machines that runs of a fixed system reach: threads find the same at each address in both, and objects have the same kinds and
-- labels.
use Rattle.std.{specs.Prelude.{Ok, Some}, proofs.Common.{ℕ, ◌∙◌, ◌≡◌, ap, inl, inr, refl, sym, true}}
use Rattle.base.specs.declared.ids.ObjId.{ObjId}
use Rattle.machine.specs.{declared.object.{Object.Object, ObjectKind.ObjectKind}, Authority.label_of}
use Rattle.machine.specs.{Boot.IsBoot, Layout.Layout, Lookup.lookup_of, Machine.{Machine, object_of}}
use Rattle.machine.specs.{Refusing.◌>>=◌, Step.Find.{find, find_cap, of_kind}, WellFormed.{IsWellFormed, kind_of}}
use Rattle.{table.specs.Rules.IsLawful, policy.specs.{Change.ActorTest, Domain.EdgeTest, Sharp.UsesRise}}
use Rattle.integrity.{specs.{Acting.HoldsOfActors, Invariant.IsSound, Keeping.IsSharp, Safe.IsReached, Shrinks.IsSame}, proofs.Runs.IsKept}
use Rattle.noninterference.{specs.{Alike.IsAlikeTo, Fixed.{IsFixed, IsStill, StaysFixed}}, proofs.{Finds.IsFixedAt, Kept.kept_of}}
use Rattle.noninterference.proofs.{Kept.sound_of, Reaching.{fixed_at, labels_alike, stays_from, still_alike}, SameFinds.find_alike}
use Rattle.noninterference.proofs.SameFinds.{lookup_alike}
use Rattle.{reach.specs.{Extents.Limits, Reach.HasBootAuthority}, flows.specs.Seeing.WayToSee}

-- the edges and the labels that act, as limits
abbrev pub limits : EdgeTest → ActorTest → Limits
limits allowed acts = record { test = allowed; acts = acts }

pub record AreBoth (t : Layout) (allowed : EdgeTest) (acts : ActorTest) (a : ℕ) (m n : Machine) : Type 0 where
  pub one : IsSound t allowed m
  pub other : IsSound t allowed n
  pub rise : UsesRise allowed
  pub actor : acts a ≡ true
  pub actors : HoldsOfActors t allowed acts
  pub kept : IsKept t allowed m
  pub kept_too : IsKept t allowed n
  pub alike : IsAlikeTo t (limits allowed acts) a m n
  pub fixed : IsFixedAt m
  pub fixed_too : IsFixedAt n
  pub finds : (thread : ObjId) (address : ℕ) → find_cap n thread address ≡ find_cap m thread address
  pub labels : (id : ObjId) → label_of t n id ≡ label_of t m id
  pub kinds : (id : ObjId) → kind_of n id ≡ kind_of m id
  pub lookups : (thread : ObjId) (address : ℕ) → lookup_of n thread address ≡ lookup_of m thread address
  pub stills : (id : ObjId) (object : Object) → object_of m id ≡ Some object → IsStill object → object_of n id ≡ Some object

module _
    (t : Layout) (allowed : EdgeTest) (acts : ActorTest) (a : ℕ) (lawful : IsLawful t) (fixed : IsFixed t) (sharp : IsSharp t allowed)
    (boots : HasBootAuthority t allowed) (actors : HoldsOfActors t allowed acts)
    (formed : (boot : Machine) → IsLawful t → IsBoot t boot → IsWellFormed boot) where
  pub both_of :
      (m n : Machine) → IsReached t m → IsReached t n → acts a ≡ true → IsAlikeTo t (limits allowed acts) a m n
      → AreBoth t allowed acts a m n
  both_of m n one other actor alike = record {
    one = sound_of t allowed lawful sharp boots formed m one;
    other = sound_of t allowed lawful sharp boots formed n other;
    rise = sharp.uses_rise;
    actor = actor;
    actors = actors;
    kept = kept_of t allowed lawful sharp boots formed m one;
    kept_too = kept_of t allowed lawful sharp boots formed n other;
    alike = alike;
    fixed = fixed_at t lawful fixed formed m one;
    fixed_too = fixed_at t lawful fixed formed n other;
    finds = λ thread address. find_alike one.boot n stays_too thread address ∙ sym (find_alike one.boot m stays thread address);
    labels = labels_alike t lawful fixed formed m n one other;
    kinds = λ id. stays_too.kinds id ∙ sym (stays.kinds id);
    lookups = λ thread address.
        lookup_alike one.boot n stays_too thread address ∙ sym (lookup_alike one.boot m stays thread address);
    stills = still_alike one.boot m n stays stays_too;
  } where
    stays : StaysFixed one.boot m
    stays = stays_from t lawful fixed formed one.boot one.booted m one

    stays_too : StaysFixed one.boot n
    stays_too = stays_from t lawful fixed formed one.boot one.booted n other

module _ (t : Layout) (allowed : EdgeTest) (acts : ActorTest) (a : ℕ) (m n : Machine) (both : AreBoth t allowed acts a m n) where
  -- an address leads to the same in both, or is refused for the same cause
  pub same_find :
      (wanted : ObjectKind) (caller : ObjId) (address : ℕ) → find wanted n caller address ≡ find wanted m caller address
  unfolding find
  same_find wanted caller address =
      ap (λ r. ◌>>=◌ r (λ found. ◌>>=◌ (of_kind wanted found.1.detail) (λ _. Ok found))) (both.finds caller address)

  -- the label's own objects, and those that it sees, are the same in both

  pub own_same : (id : ObjId) → label_of t m id ≡ Some a → IsSame m n id
  own_same id mine = both.alike.seen id a mine (inl refl)

  pub seen_same : (id : ObjId) (l : ℕ) → label_of t m id ≡ Some l → WayToSee allowed acts a l → IsSame m n id
  seen_same id l labelled way = both.alike.seen id l labelled (inr (record { actor = both.actor; way = way }))
