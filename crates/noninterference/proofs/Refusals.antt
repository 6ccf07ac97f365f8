-- Calls that need a capability for a CNode or for a thread are refused for the same cause in two machines of a fixed system.
use Rattle.std.{specs.Prelude.{Err, None, Ok, Option, Result, Some, option_map}, proofs.Common.{ℕ, ◌∙◌, ◌≡◌, ◌≢◌, ap, refl, subst, sym}}
use Rattle.base.specs.declared.{ids.{ObjId.ObjId, SlotRef.SlotRef}, refusal.Cause.Cause}
use Rattle.machine.specs.declared.{call.{Call.{Call, Call as call}, Made.Made}, object.Object.{Object, Object as o}}
use Rattle.machine.specs.declared.{object.{ObjectKind.ObjectKind as kind, Untyped.Untyped}, slot_address.SlotAddress.SlotAddress}
use Rattle.machine.specs.{Capabilities.kind_of_detail, Layout.Layout, Lookup.{Level, level_at, lookup_of}}
use Rattle.machine.specs.{Machine.{Machine, object_of}, Memory.Source, Objects.kind_of_object, Refusing.◌>>=◌}
use Rattle.machine.specs.Step.{Bind.bind_of, Copy.copy_of, Delete.delete_of, Find.find, Mint.mint_of, Move.move_of}
use Rattle.machine.specs.Step.{Retype.{a_few, find_taker, find_untyped, memory_in, retype_of, sized, taker}, Revoke.revoke_of}
use Rattle.machine.specs.Step.{Space.{clear_space_of, set_space_of}, Suspend.{resume_of, suspend_of}, Target.{ends_of, target_of}, call_of}
use Rattle.{steps.proofs.Finding.{finds, found_kind}, policy.specs.{Change.ActorTest, Domain.EdgeTest}}
use Rattle.noninterference.{specs.Fixed.NeedsNodeOrThread, proofs.{Both.{AreBoth, same_find}, Ends.{EndsAlike, follows_same}}}
use Rattle.noninterference.proofs.Finds.{finds_no_taker, finds_no_thread, found_apart}

abbrev AreRefused : {A : Type 0} → Result A Cause → Result A Cause → Type 0
AreRefused {A} r s = (s ≡ r) × ((x : A) → r ≢ Ok x)

refused_on :
    {A B : Type 0} (r s : Result A Cause) (then_do do_too : A → Result B Cause) → s ≡ r
    → ((x : A) → r ≡ Ok x → AreRefused (then_do x) (do_too x)) → AreRefused (◌>>=◌ r then_do) (◌>>=◌ s do_too)
refused_on {A} {B} r s then_do do_too same rest =
    subst (λ (x : Result A Cause). AreRefused (◌>>=◌ r then_do) (◌>>=◌ x do_too)) (sym same) (by_result r rest)
  where
    by_result :
        (x : Result A Cause) → ((y : A) → x ≡ Ok y → AreRefused (then_do y) (do_too y)) → AreRefused (◌>>=◌ x then_do) (◌>>=◌ x do_too)
    by_result (Ok y) rest = rest y refl
    by_result (Err cause) rest = (refl, λ x is. cc)

refused_first :
    {A B : Type 0} (r s : Result A Cause) (then_do do_too : A → Result B Cause) → AreRefused r s
    → AreRefused (◌>>=◌ r then_do) (◌>>=◌ s do_too)
refused_first r s then_do do_too refused = refused_on r s then_do do_too refused.0 (λ x is. absurd (refused.1 x is))

refused_ends : (m n : Machine) (r s : Result (Made × Machine) Cause) → AreRefused r s → EndsAlike m n r s
refused_ends m n r s refused =
    subst (λ (x : Result (Made × Machine) Cause). EndsAlike m n r x) (sym refused.0) (by_result r refused.1)
  where
    by_result : (x : Result (Made × Machine) Cause) → ((y : Made × Machine) → x ≢ Ok y) → EndsAlike m n x x
    by_result (Ok y) none = absurd (none y refl)
    by_result (Err cause) none = refl

untyped_of_kind :
    (object : Option Object) → option_map kind_of_object object ≡ Some kind.Untyped → (memory : Untyped) × (object ≡ Some (o.Untyped memory))
untyped_of_kind (Some (o.Untyped memory)) e = (memory, refl)
untyped_of_kind _ e = cc

module _ (t : Layout) (allowed : EdgeTest) (acts : ActorTest) (a : ℕ) (m n : Machine) (both : AreBoth t allowed acts a m n) (caller : ObjId)
  where
    thread_refused : (address : ℕ) → AreRefused (find kind.Tcb m caller address) (find kind.Tcb n caller address)
    thread_refused address = (
      same_find t allowed acts a m n both kind.Tcb caller address,
      λ found e. finds_no_thread m both.fixed caller address found.1.object (finds kind.Tcb m caller address found e),
    )

    node_refused : (address : ℕ) → AreRefused (find kind.CNode m caller address) (find kind.CNode n caller address)
    node_refused address = (
      same_find t allowed acts a m n both kind.CNode caller address,
      λ found e.
          let there = finds kind.CNode m caller address found e in
          (found_apart m both.fixed caller address there.slot there.finds.left there.held there.finds.ends there.finds.holds).0
          (ap kind_of_detail there.detail),
    )

    target_refused : (address : SlotAddress) → AreRefused (target_of m caller address) (target_of n caller address)
    unfolding target_of
    target_refused address = refused_first _ _ _ _ (node_refused address.root)

    ends_refused : (to from : SlotAddress) → AreRefused (ends_of m caller to from) (ends_of n caller to from)
    unfolding ends_of
    ends_refused to from = refused_first _ _ _ _ (target_refused to)

    taker_refused : (address : ℕ) → AreRefused (find_taker m caller address) (find_taker n caller address)
    unfolding find_taker
    taker_refused address =
        refused_on _ _ _ _ (both.lookups caller address)
        (λ place ends. by_levels place (level_at m place.0) (level_at n place.0) refl refl ends)
      where
        by_levels :
            (place : SlotRef × ℕ) (one other : Option Level) → level_at m place.0 ≡ one → level_at n place.0 ≡ other
            → lookup_of m caller address ≡ Ok place → AreRefused (taker (level_at m place.0)) (taker (level_at n place.0))
        by_levels place (Some level) other is too ends =
            absurd (finds_no_taker m both.fixed caller address level (record { at = place.0; left = place.1; ends = ends; shows = is }))
        by_levels place None (Some level) is too ends =
            absurd
            (finds_no_taker n both.fixed_too caller address level
            (record { at = place.0; left = place.1; ends = both.lookups caller address ∙ ends; shows = too }))
        by_levels place None None is too ends = rw (is, too) (refl, λ x e. cc)

    untyped_same : (address : ℕ) → find_untyped n caller address ≡ find_untyped m caller address
    unfolding find_untyped
    untyped_same address =
        follows_same _ _ _ _ (same_find t allowed acts a m n both kind.Untyped caller address)
        (λ found e.
        let there = untyped_of_kind (object_of m found.1.object) (found_kind both.one.well_formed (finds kind.Untyped m caller address found e)) in
        let here = both.stills found.1.object (o.Untyped there.0) there.1 tt in
        let rest : Option Object → Result Source Cause = λ object. ◌>>=◌ (memory_in object) (λ memory. Ok (record {
          slot = found.0;
          id = found.1.object;
          memory = memory;
        })) in
        ap rest (here ∙ sym there.1))

    pub call_refused : (which : Call) → NeedsNodeOrThread which → EndsAlike m n (call_of m caller which) (call_of n caller which)
    unfolding copy_of mint_of move_of delete_of revoke_of retype_of set_space_of clear_space_of suspend_of resume_of bind_of
    call_refused (call.Copy to from rights) needs = refused_ends m n _ _ (refused_first _ _ _ _ (ends_refused to from))
    call_refused (call.Mint to from rights gift) needs = refused_ends m n _ _ (refused_first _ _ _ _ (ends_refused to from))
    call_refused (call.Move to from) needs = refused_ends m n _ _ (refused_first _ _ _ _ (ends_refused to from))
    call_refused (call.Delete slot) needs = refused_ends m n _ _ (refused_first _ _ _ _ (target_refused slot))
    call_refused (call.Revoke slot) needs = refused_ends m n _ _ (refused_first _ _ _ _ (target_refused slot))
    call_refused (call.Retype untyped of bits to offset count) needs =
        refused_ends m n _ _
        (refused_on _ _ _ _ (untyped_same untyped)
        (λ source e.
        refused_on (sized of bits) _ _ _ refl
        (λ u fits. refused_on (a_few count) _ _ _ refl (λ v few. refused_first _ _ _ _ (taker_refused to)))))
    call_refused (call.SetSpace thread space) needs = refused_ends m n _ _ (refused_first _ _ _ _ (thread_refused thread))
    call_refused (call.ClearSpace thread) needs = refused_ends m n _ _ (refused_first _ _ _ _ (thread_refused thread))
    call_refused (call.Suspend thread) needs = refused_ends m n _ _ (refused_first _ _ _ _ (thread_refused thread))
    call_refused (call.Resume thread) needs = refused_ends m n _ _ (refused_first _ _ _ _ (thread_refused thread))
    call_refused (call.Bind context thread) needs =
        refused_ends m n _ _
        (refused_on _ _ _ _ (same_find t allowed acts a m n both kind.Context caller context)
        (λ found e. refused_first _ _ _ _ (thread_refused thread)))
    call_refused _ needs = absurd needs
