-- A step of a label's thread ends alike in two machines that are alike to the label, whether the label acts or not.
use Rattle.std.proofs.Common.{ℕ, ◌≡◌, Bool, Some, false, refl, true}
use Rattle.machine.specs.{declared.call.{Event.Event, Outcome.Outcome}, Authority.label_of, Boot.IsBoot}
use Rattle.machine.specs.{Layout.Layout, Machine.Machine, Step.{Step, made_by}, WellFormed.IsWellFormed}
use Rattle.{table.specs.Rules.IsLawful, policy.specs.{Change.ActorTest, Domain.EdgeTest}}
use Rattle.{integrity.specs.{Acting.HoldsOfActors, Keeping.IsSharp, Safe.IsReached, Shrinks.IsSame}, reach.specs.Reach.HasBootAuthority}
use Rattle.noninterference.{specs.{Alike.{IsAlikeTo, KeepsAlike}, Fixed.IsFixed}, proofs.Both.{AreBoth, both_of, limits}}
use Rattle.noninterference.proofs.{Calls.call_alike, Ends.EndsAlike, Kept.{kept_of, sound_of}, Reaching.fixed_at, Steps.idle_alike}
use Rattle.noninterference.proofs.Steps.{made_alike, steps_alike}

pub looks_alike :
    (t : Layout) (allowed : EdgeTest) (acts : ActorTest) → IsLawful t → IsFixed t → IsSharp t allowed → HasBootAuthority t allowed
    → HoldsOfActors t allowed acts → ((boot : Machine) → IsLawful t → IsBoot t boot → IsWellFormed boot) → (a : ℕ) (m n : Machine)
    (event : Event) → IsReached t m → IsReached t n → label_of t m event.thread ≡ Some a
    → (acts a ≡ true → IsAlikeTo t (limits allowed acts) a m n) → IsSame m n event.thread → (outcome other : Outcome) (next after : Machine)
    → Step m event outcome next → Step n event other after → (other ≡ outcome) × KeepsAlike m n next after
looks_alike t allowed acts lawful fixed sharp boots actors formed a m n event one two mine alike same outcome other next after step again =
    let sound = sound_of t allowed lawful sharp boots formed in
    steps_alike m n event (sound m one).well_formed (sound n two).well_formed (fixed_at t lawful fixed formed m one)
    (fixed_at t lawful fixed formed n two) (by_acts (acts a) refl) outcome other next after step again
  where
    by_acts : (test : Bool) → acts a ≡ test → EndsAlike m n (made_by m event) (made_by n event)
    by_acts true actor =
        let both : AreBoth t allowed acts a m n =
        both_of t allowed acts a lawful fixed sharp boots actors formed m n one two actor (alike actor) in
        made_alike t allowed acts a m n both event.thread mine event.core event.call
        (λ is. call_alike t allowed acts a m n both event.thread mine is event.call)
    by_acts false idle =
        idle_alike t allowed acts a m n (sound_of t allowed lawful sharp boots formed m one)
        (kept_of t allowed lawful sharp boots formed m one) actors event.thread mine idle same event.core event.call
