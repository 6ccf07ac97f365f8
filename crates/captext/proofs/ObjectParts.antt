-- A kind's own words in the line of an object: what was read is an object at boot, and each such object is read back.
use Rattle.std.{specs.{Bool.{⊤, Decides}, List.AllByRecursion, Str.bytes_eq}, proofs.Common.{[], ℕ, ◌++◌, ◌<◌, ◌^◌, ◌∙◌, ◌∷◌, ◌≡◌, ◌≤◌}}
use Rattle.std.proofs.Common.{Bool, List, None, Ok, Option, Some, ap, arith, codes, cond, false, refl, subst, sym, true}
use Rattle.std.proofs.lemmas.{Bool.{and_from, and_parts, cond-false, cond-true, le-leb, leb-true, lt-ltb, ltb-true}, List.append-nil}
use Rattle.std.proofs.lemmas.{Option.cond_some, Slice.Eq.bytes_eq-Decides}
use Rattle.base.specs.declared.core_number.TheConstants.CoreNo as CoreNo
use Rattle.base.specs.declared.limits.TheConstants.{ADDRESS_END, MAX_PERIOD, MAX_RADIX}
use Rattle.machine.specs.declared.object.{Object.{Object, Object as o}, ObjectKind.ObjectKind, ReplyState.ReplyState as reply, Share.Share}
use Rattle.machine.specs.declared.object.ObjectKind.TheVariants as kind
use Rattle.machine.{specs.{declared.thread.RunState.RunState, Objects.{end_of, kind_of_object}}, proofs.KindWords.found_word}
use Rattle.machine.specs.declared.thread.RunState.TheVariants as run
use Rattle.words.specs.{Number.number_at, Parts.{IsPart, in_turn, read_as}, Reading.{bind, word_at}, Text.IsPlainWord}
use Rattle.words.proofs.{Parts.{both_parts, hex_part, number_part, read_as_again, takes_as, word_part}, WordLaws.{bind_ok, plain_bytes}}
use Rattle.table.specs.Rules.{IsAtRest, IsBlank, IsWithinLimits}
use Rattle.captext.specs.{TableText.{content_words, share_words, start_word}, Tables.{cnode_of, content_at, context_of, control_of}}
use Rattle.captext.specs.Tables.{endpoint_of, frame_of, is_limited, is_limited_share, limited, notification_of, reply_of, share_at}
use Rattle.captext.{specs.Tables.{share_of, start_at, start_of, thread_of, untyped_of}, proofs.{LineLaws.same_ok, SlotLaws.no_number}}

abbrev IsNumber : ℕ → Type 0
IsNumber n = n < 2 ^ 64

-- a run state

start_takes : (word : List ℕ) (state : RunState) → start_of word ≡ Some state → (word ≡ start_word state) × IsAtRest state
unfolding start_of
start_takes word state h = found_word start_word IsAtRest word (run.Ready ∷ run.Inactive ∷ []) state (tt, (tt, tt)) h

start_again : (state : RunState) → IsAtRest state → start_of (start_word state) ≡ Some state
unfolding start_of
start_again run.Ready rests = refl
start_again run.Inactive rests = refl
start_again _ rests = absurd rests

plain_start : (state : RunState) → IsAtRest state → IsPlainWord (start_word state)
plain_start run.Ready rests = plain_bytes (codes "ready") refl
plain_start run.Inactive rests = plain_bytes (codes "inactive") refl
plain_start _ rests = absurd rests

start_part : IsPart start_at (λ state. start_word state ∷ []) IsAtRest
unfolding start_at
start_part = word_part start_of start_word IsAtRest start_takes start_again plain_start

-- a share, or none

abbrev AreNumbers : ℕ × (ℕ × ℕ) → Type 0
AreNumbers told = IsNumber told.0 × (IsNumber told.1.0 × IsNumber told.1.1)

abbrev HasNumbers : Option Share → Type 0
HasNumbers None = ⊤
HasNumbers (Some share) = AreNumbers (share.core, (share.budget, share.period))

numbers_part : IsPart (in_turn number_at (in_turn number_at number_at)) (λ told. share_words (share_of told)) AreNumbers
numbers_part = both_parts number_part (both_parts number_part number_part)

share_part : IsPart share_at share_words HasNumbers
unfolding share_at bind word_at
share_part = record { takes = takes; again = again; plain = plain } where
  by : (word : List ℕ) (rest : List (List ℕ)) (taken : Option Share × List (List ℕ)) (none : Bool) → Decides none (word ≡ codes "-")
      → cond none (Ok (None, rest)) (read_as share_of (in_turn number_at (in_turn number_at number_at)) (word ∷ rest)) ≡ Ok taken
      → (word ∷ rest ≡ share_words taken.0 ++ taken.1) × HasNumbers taken.0
  by word rest taken true is h =
      let same : (None, rest) ≡ taken = same_ok _ _ h in
      subst (λ (t : Option Share × List (List ℕ)). (word ∷ rest ≡ share_words t.0 ++ t.1) × HasNumbers t.0) same
      (ap (λ w. w ∷ rest) (is.0 refl), tt)
  by word rest taken false is h = takes_as numbers_part share_of share_words HasNumbers (λ told. refl) (λ told is. is) (word ∷ rest) taken h

  takes : (words : List (List ℕ)) (taken : Option Share × List (List ℕ)) → share_at words ≡ Ok taken
      → (words ≡ share_words taken.0 ++ taken.1) × HasNumbers taken.0
  takes [] taken h = absurd (cc h)
  takes (word ∷ rest) taken h = by word rest taken (bytes_eq word (codes "-")) (bytes_eq-Decides word (codes "-")) h

  again : (share : Option Share) (rest : List (List ℕ)) → HasNumbers share → share_at (share_words share ++ rest) ≡ Ok (share, rest)
  again None rest is = refl
  again (Some share) rest is =
      cond-false _ _ _ (no_number share.core (codes "-") is.0 refl)
      ∙ read_as_again numbers_part share_of (share.core, (share.budget, share.period)) rest is

  plain : (share : Option Share) → HasNumbers share → AllByRecursion IsPlainWord (share_words share)
  plain None is = (plain_bytes (codes "-") refl, tt)
  plain (Some share) is = numbers_part.plain (share.core, (share.budget, share.period)) is

-- the words of every kind

abbrev AreTwo : ℕ × ℕ → Type 0
AreTwo told = IsNumber told.0 × IsNumber told.1

-- an object at boot whose words can be read, whatever the limits of its kind
abbrev IsTold : Object → Type 0
IsTold (o.Untyped memory) = AreTwo (memory.base, memory.bits) × (memory.watermark ≡ memory.base)
IsTold (o.CNode node) = AreTwo (node.address, node.radix)
IsTold (o.Tcb thread) = IsNumber thread.address × IsBlank (o.Tcb thread)
IsTold (o.Endpoint endpoint) = IsNumber endpoint.address
IsTold (o.Notification notification) = IsNumber notification.address × (notification.pending ≡ None)
IsTold (o.Reply answer) = IsNumber answer.address × (answer.state ≡ reply.Free)
IsTold (o.Context context) = IsNumber context.address × HasNumbers context.share × (context.thread ≡ None)
IsTold (o.Frame frame) = IsNumber frame.address
IsTold (o.Control control) = IsNumber control.core

abbrev IsOf : ObjectKind → Object → Type 0
IsOf kind object = (kind_of_object object ≡ kind) × IsTold object

content_takes : (kind : ObjectKind) (words : List (List ℕ)) (taken : Object × List (List ℕ)) → content_at kind words ≡ Ok taken
    → (words ≡ content_words taken.0 ++ taken.1) × IsOf kind taken.0
content_takes kind.Untyped =
    takes_as (both_parts hex_part number_part) untyped_of content_words (IsOf kind.Untyped) (λ told. refl) (λ told is. (refl, (is, refl)))
content_takes kind.CNode =
    takes_as (both_parts hex_part number_part) cnode_of content_words (IsOf kind.CNode) (λ told. refl) (λ told is. (refl, is))
content_takes kind.Tcb =
    takes_as (both_parts hex_part start_part) thread_of content_words (IsOf kind.Tcb) (λ told. refl)
    (λ told is. (refl, (is.0, (is.1, refl, refl))))
content_takes kind.Endpoint =
    takes_as hex_part endpoint_of content_words (IsOf kind.Endpoint) (λ told. refl) (λ told is. (refl, is))
content_takes kind.Notification =
    takes_as hex_part notification_of content_words (IsOf kind.Notification) (λ told. refl) (λ told is. (refl, (is, refl)))
content_takes kind.Reply = takes_as hex_part reply_of content_words (IsOf kind.Reply) (λ told. refl) (λ told is. (refl, (is, refl)))
content_takes kind.Context =
    takes_as (both_parts hex_part share_part) context_of content_words (IsOf kind.Context) (λ told. refl)
    (λ told is. (refl, (is.0, is.1, refl)))
content_takes kind.Frame = takes_as hex_part frame_of content_words (IsOf kind.Frame) (λ told. refl) (λ told is. (refl, is))
content_takes kind.Control = takes_as number_part control_of content_words (IsOf kind.Control) (λ told. refl) (λ told is. (refl, is))

content_again : (object : Object) (rest : List (List ℕ)) → IsTold object
    → content_at (kind_of_object object) (content_words object ++ rest) ≡ Ok (object, rest)
content_again (o.Untyped memory) rest is =
    read_as_again (both_parts hex_part number_part) untyped_of (memory.base, memory.bits) rest is.0
    ∙ (λ i. Ok (o.Untyped (record { base = memory.base; bits = memory.bits; watermark = sym is.1 i }), rest))
content_again (o.CNode node) rest is = read_as_again (both_parts hex_part number_part) cnode_of (node.address, node.radix) rest is
content_again (o.Tcb thread) rest is =
    read_as_again (both_parts hex_part start_part) thread_of (thread.address, thread.state) rest (is.0, is.1.0)
    ∙ (λ i. Ok (o.Tcb (record { address = thread.address; state = thread.state; inbox = sym is.1.1 i; context = sym is.1.2 i }), rest))
content_again (o.Endpoint endpoint) rest is = read_as_again hex_part endpoint_of endpoint.address rest is
content_again (o.Notification notification) rest is =
    read_as_again hex_part notification_of notification.address rest is.0
    ∙ (λ i. Ok (o.Notification (record { address = notification.address; pending = sym is.1 i }), rest))
content_again (o.Reply answer) rest is =
    read_as_again hex_part reply_of answer.address rest is.0
    ∙ (λ i. Ok (o.Reply (record { address = answer.address; state = sym is.1 i }), rest))
content_again (o.Context context) rest is =
    read_as_again (both_parts hex_part share_part) context_of (context.address, context.share) rest (is.0, is.1)
    ∙ (λ i. Ok (o.Context (record { address = context.address; share = context.share; thread = sym is.2 i }), rest))
content_again (o.Frame frame) rest is = read_as_again hex_part frame_of frame.address rest is
content_again (o.Control control) rest is = read_as_again number_part control_of control.core rest is

content_plain : (object : Object) → IsTold object → AllByRecursion IsPlainWord (content_words object)
content_plain (o.Untyped memory) is = (both_parts hex_part number_part).plain (memory.base, memory.bits) is.0
content_plain (o.CNode node) is = (both_parts hex_part number_part).plain (node.address, node.radix) is
content_plain (o.Tcb thread) is = (both_parts hex_part start_part).plain (thread.address, thread.state) (is.0, is.1.0)
content_plain (o.Endpoint endpoint) is = hex_part.plain endpoint.address is
content_plain (o.Notification notification) is = hex_part.plain notification.address is.0
content_plain (o.Reply answer) is = hex_part.plain answer.address is.0
content_plain (o.Context context) is = (both_parts hex_part share_part).plain (context.address, context.share) (is.0, is.1)
content_plain (o.Frame frame) is = hex_part.plain frame.address is
content_plain (o.Control control) is = number_part.plain control.core is

-- within the limits it is an object at boot

share_within : (share : Option Share) → is_limited_share share ≡ true → IsWithinLimits share
share_within None limit = tt
share_within (Some share) limit =
    let parts = and_parts _ _ limit in
    let times = and_parts _ _ parts.1 in
    let budgets = and_parts _ _ times.0 in (leb-true _ _ budgets.0, leb-true _ _ budgets.1, leb-true _ _ times.1, ltb-true _ _ parts.0)

at_boot : (object : Object) → IsTold object → is_limited object ≡ true → IsBlank object
at_boot (o.Untyped _) is limit = let parts = and_parts _ _ limit in (leb-true _ _ parts.0, leb-true _ _ parts.1, is.1)
at_boot (o.CNode _) is limit = let parts = and_parts _ _ limit in (leb-true _ _ parts.0, leb-true _ _ parts.1)
at_boot (o.Tcb _) is limit = is.1
at_boot (o.Endpoint _) is limit = tt
at_boot (o.Notification _) is limit = is.1
at_boot (o.Reply _) is limit = is.1
at_boot (o.Context context) is limit = (share_within context.share limit, is.2)
at_boot (o.Frame _) is limit = tt
at_boot (o.Control _) is limit = ltb-true _ _ limit

-- an object at boot is within the limits, and has such words

share_told : (share : Option Share) → IsWithinLimits share → HasNumbers share × (is_limited_share share ≡ true)
share_told None within = (tt, refl)
share_told (Some share) within = (
  (omega arith, (omega arith, omega arith)),
  and_from _ _ (lt-ltb share.core CoreNo.COUNT within.3)
      (and_from _ _ (and_from _ _ (le-leb 1 share.budget within.0) (le-leb share.budget share.period within.1))
      (le-leb share.period MAX_PERIOD within.2)),
)

told : (object : Object) → IsBlank object → end_of object ≤ ADDRESS_END → IsTold object × (is_limited object ≡ true)
told (o.Untyped memory) blank end =
    (((omega arith, omega arith), blank.2), and_from _ _ (le-leb 4 memory.bits blank.0) (le-leb memory.bits 47 blank.1))
told (o.CNode node) blank end =
    ((omega arith, omega arith), and_from _ _ (le-leb 1 node.radix blank.0) (le-leb node.radix MAX_RADIX blank.1))
told (o.Tcb _) blank end = ((omega arith, blank), refl)
told (o.Endpoint _) blank end = (omega arith, refl)
told (o.Notification _) blank end = ((omega arith, blank), refl)
told (o.Reply _) blank end = ((omega arith, blank), refl)
told (o.Context context) blank end = let share = share_told context.share blank.0 in ((omega arith, share.0, blank.1), share.1)
told (o.Frame _) blank end = (omega arith, refl)
told (o.Control control) blank end = (omega arith, lt-ltb control.core CoreNo.COUNT blank)

-- the words are read just where they are an object's at boot

pub object_takes : (kind : ObjectKind) (words : List (List ℕ)) (object : Object) (rest : List (List ℕ))
    → read_as limited (content_at kind) words ≡ Ok (Some object, rest)
    → (words ≡ content_words object ++ rest) × (kind_of_object object ≡ kind) × IsBlank object
unfolding read_as
object_takes kind words object rest h =
    let read = bind_ok (content_at kind words) _ (Some object, rest) h in
    let same : (limited read.0.0, read.0.1) ≡ (Some object, rest) = same_ok _ _ read.2 in
    let limit = cond_some _ _ _ (ap (λ (t : Option Object × List (List ℕ)). t.0) same) in
    let taken = content_takes kind words read.0 read.1 in (
      taken.0 ∙ (λ i. content_words (limit.1 i) ++ (same i).1),
      ap kind_of_object (sym limit.1) ∙ taken.1.0,
      subst IsBlank limit.1 (at_boot read.0.0 taken.1.1 limit.0),
    )

pub object_again : (object : Object) → IsBlank object → end_of object ≤ ADDRESS_END
    → read_as limited (content_at (kind_of_object object)) (content_words object) ≡ Ok (Some object, [])
unfolding read_as bind
object_again object blank end =
    let kind = kind_of_object object in
    let is = told object blank end in
    ap (λ words. read_as limited (content_at kind) words) (sym (append-nil (content_words object)))
    ∙ ap (λ r. bind r (λ read. Ok (limited read.0, read.1))) (content_again object [] is.0)
    ∙ ap (λ found. Ok (found, [])) (cond-true _ _ _ is.1)

-- which are plain
pub plain_content : (object : Object) → IsBlank object → end_of object ≤ ADDRESS_END
    → AllByRecursion IsPlainWord (content_words object)
plain_content object blank end = content_plain object (told object blank end).0
