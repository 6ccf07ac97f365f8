-- The labels that a label may change, and those that it may make smaller, as unions of sets of labels.
use Rattle.std.{specs.List.list_any, proofs.Common.{ℕ, ◌||◌, ◌≡◌, ◌⊎◌, Bool, inl, inr, not, refl, true}}
use Rattle.base.specs.declared.kind.Kind.{Kind, TheVariants.{Await, Call, Context, Control, Grant, Holds, Notify, Receive, Reply, Reset, Runs, Send}}
use Rattle.policy.specs.{declared.{change.TheConstants.CHANGING, narrow_take.TheConstants.{REMOVED, WAITING}}, Domain.EdgeTest}
use Rattle.policy.specs.Change.{ActorTest, MayAnswer, MayChangeContext, WayToChange, is_changing}
use Rattle.policy.specs.NarrowTake.{MayHalt, TakesByControl, WayToShrink, is_removed, is_waiting}
use Rattle.policy.specs.Change.WayToChange.{grants, links, modifies, notifies, own, receives, replies, sends, shares}
use Rattle.policy.specs.NarrowTake.{TakesByControl.{drops, releases, removes, wakes}, WayToShrink.{controls, ends, frees, halts, stops, unbinds}}
use Rattle.policy.proofs.{KindNumbers.{each_kind, is_kind}, Stepping.of_kind}

-- the kinds that pass a test are in the list of them

pub changing_listed : (kind : Kind) → is_changing kind ≡ true → list_any (is_kind kind) CHANGING ≡ true
changing_listed kind is = of_kind (is_changing kind) _ is (each_kind (λ k. not (is_changing k) || list_any (is_kind k) CHANGING) refl kind)

pub removed_listed : (kind : Kind) → is_removed kind ≡ true → list_any (is_kind kind) REMOVED ≡ true
removed_listed kind is = of_kind (is_removed kind) _ is (each_kind (λ k. not (is_removed k) || list_any (is_kind k) REMOVED) refl kind)

pub waiting_listed : (kind : Kind) → is_waiting kind ≡ true → list_any (is_kind kind) WAITING ≡ true
waiting_listed kind is = of_kind (is_waiting kind) _ is (each_kind (λ k. not (is_waiting k) || list_any (is_kind k) WAITING) refl kind)

module _ (test : EdgeTest) (acts : ActorTest) (a : ℕ) where
  abbrev pub OneOf : (Kind → Bool) → ℕ → ℕ → Type 0
  OneOf passes from to = (kind : Kind) × (passes kind ≡ true) × (test from kind to ≡ true)

  -- a label that acts and waits at an end to which a has an edge
  abbrev pub Meets : Kind → Kind → ℕ → Type 0
  Meets kind other l = (end : ℕ) × (test a kind end ≡ true) × (test l other end ≡ true) × (acts l ≡ true)

  -- a label that receives a's calls
  abbrev pub IsCallee : ℕ → Type 0
  IsCallee l = (end : ℕ) × ((test a Send end ≡ true) × (test a Call end ≡ true)) × (test l Receive end ≡ true) × (acts l ≡ true)

  module _ (l : ℕ) where
    abbrev pub ChangeParts : Type 0
    ChangeParts =
        ((((((((l ≡ a) ⊎ OneOf is_changing a l) ⊎ MayChangeContext test acts a l) ⊎ Meets Send Receive l) ⊎ Meets Receive Send l) ⊎ Meets Notify Await l)
        ⊎ ((receiver : ℕ) × IsCallee receiver × (test receiver Reply l ≡ true)))
        ⊎ ((receiver : ℕ) × Meets Grant Receive receiver × (test receiver Control l ≡ true)))
        ⊎ MayAnswer test acts a l

    pub change_to : ChangeParts → WayToChange test acts a l
    change_to (inr answer) = replies answer
    change_to (inl (inr w)) = grants w.1.0 w.0 w.1.1 w.1.2 w.1.3 w.2
    change_to (inl (inl (inr w))) = links w.1.0 w.0 w.1.1.0 w.1.1.1 w.1.2 w.1.3 w.2
    change_to (inl (inl (inl (inr w)))) = notifies w.0 w.1 w.2 w.3
    change_to (inl (inl (inl (inl (inr w))))) = receives w.0 w.1 w.2 w.3
    change_to (inl (inl (inl (inl (inl (inr w)))))) = sends w.0 w.1 w.2 w.3
    change_to (inl (inl (inl (inl (inl (inl (inr context))))))) = shares context
    change_to (inl (inl (inl (inl (inl (inl (inl (inr w)))))))) = modifies w.0 w.1 w.2
    change_to (inl (inl (inl (inl (inl (inl (inl (inl same)))))))) = own same

    pub change_from : WayToChange test acts a l → ChangeParts
    change_from (own same) = inl (inl (inl (inl (inl (inl (inl (inl same)))))))
    change_from (modifies kind is there) = inl (inl (inl (inl (inl (inl (inl (inr (kind, is, there))))))))
    change_from (shares context) = inl (inl (inl (inl (inl (inl (inr context))))))
    change_from (sends endpoint sent received waits) = inl (inl (inl (inl (inl (inr (endpoint, sent, received, waits))))))
    change_from (receives endpoint received sent waits) = inl (inl (inl (inl (inr (endpoint, received, sent, waits)))))
    change_from (notifies notification notified awaited waits) = inl (inl (inl (inr (notification, notified, awaited, waits))))
    change_from (links endpoint receiver sent called received waits named) =
        inl (inl (inr (receiver, (endpoint, (sent, called), received, waits), named)))
    change_from (grants endpoint receiver granted received waits controlled) =
        inl (inr (receiver, (endpoint, granted, received, waits), controlled))
    change_from (replies answer) = inr answer

    -- a label from which something vanishes as a controls a label
    abbrev pub IsDeleted : ℕ → Type 0
    IsDeleted end = (controlled : ℕ) × (test a Control controlled ≡ true) × (test controlled Reset end ≡ true)

    -- a label that receives there
    abbrev pub LosesEnd : ℕ → Type 0
    LosesEnd receiver = (end : ℕ) × IsDeleted end × (test receiver Receive end ≡ true) × (acts receiver ≡ true)

    abbrev pub ControlParts : Type 0
    ControlParts =
        ((((controlled : ℕ) × (test a Control controlled ≡ true) × OneOf is_removed controlled l)
        ⊎ ((caller : ℕ) × ((test a Control caller ≡ true) × (acts caller ≡ true)) × (test l Holds caller ≡ true)))
        ⊎ ((end : ℕ) × IsDeleted end × OneOf is_waiting l end × (acts l ≡ true)))
        ⊎ ((receiver : ℕ) × LosesEnd receiver × (test receiver Reply l ≡ true))

    pub control_to : ControlParts → TakesByControl test acts a l
    control_to (inr w) = drops w.1.1.0 w.1.0 w.0 w.1.1.1 w.1.1.2 w.1.2 w.1.3 w.2
    control_to (inl (inr w)) = wakes w.1.0 w.0 w.2.0 w.2.1 w.1.1 w.1.2 w.2.2 w.3
    control_to (inl (inl (inr w))) = releases w.0 w.1.0 w.1.1 w.2
    control_to (inl (inl (inl w))) = removes w.0 w.2.0 w.2.1 w.1 w.2.2

    pub control_from : TakesByControl test acts a l → ControlParts
    control_from (removes controlled kind is control there) = inl (inl (inl (controlled, control, (kind, is, there))))
    control_from (releases caller control waits held) = inl (inl (inr (caller, (control, waits), held)))
    control_from (wakes controlled end kind is control reset there waits) =
        inl (inr (end, (controlled, control, reset), (kind, is, there), waits))
    control_from (drops controlled endpoint receiver control reset received waits named) =
        inr (receiver, (endpoint, (controlled, control, reset), received, waits), named)

    abbrev pub ShrinkParts : Type 0
    ShrinkParts =
        (((((test a Context l ≡ true) ⊎ ((context : ℕ) × (test a Context context ≡ true) × (test l Runs context ≡ true))) ⊎ MayHalt test acts a l)
        ⊎ ((receiver : ℕ) × Meets Reply Reply receiver × (test receiver Receive l ≡ true)))
        ⊎ ((receiver : ℕ) × Meets Send Receive receiver × (test receiver Reply l ≡ true)))
        ⊎ TakesByControl test acts a l

    pub shrink_to : ShrinkParts → WayToShrink test acts a l
    shrink_to (inr taken) = controls taken
    shrink_to (inl (inr w)) = frees w.1.0 w.0 w.1.1 w.1.2 w.1.3 w.2
    shrink_to (inl (inl (inr w))) = ends w.1.0 w.0 w.1.1 w.1.2 w.1.3 w.2
    shrink_to (inl (inl (inl (inr halt)))) = halts halt
    shrink_to (inl (inl (inl (inl (inr w))))) = stops w.0 w.1 w.2
    shrink_to (inl (inl (inl (inl (inl uses))))) = unbinds uses

    pub shrink_from : WayToShrink test acts a l → ShrinkParts
    shrink_from (unbinds uses) = inl (inl (inl (inl (inl uses))))
    shrink_from (stops context uses ran) = inl (inl (inl (inl (inr (context, uses, ran)))))
    shrink_from (halts halt) = inl (inl (inl (inr halt)))
    shrink_from (ends reply receiver uses named waits received) = inl (inl (inr (receiver, (reply, uses, named, waits), received)))
    shrink_from (frees endpoint receiver sent received waits named) = inl (inr (receiver, (endpoint, sent, received, waits), named))
    shrink_from (controls taken) = inr taken
