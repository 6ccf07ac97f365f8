-- A seat that visits another: what becomes of both views when the host looks and the visitor leaves again.
use Rattle.std.{specs.Prelude.{Option, slice_get}, proofs.Common.{[], ℕ, ◌∙◌, ◌≡◌, List, None, Some, ap}}
use Rattle.atomic_table.specs.{Seated.TableId, Table.Me}
use Rattle.cores.specs.{declared.view.{About.About, Hand.Hand, Noted.Noted, View.View}, History.{IsExactFor, IsLegal}, Moves.{Sees, Shows}}
use Rattle.cores.specs.Moves.{guest_as_hand, hand_as_guest, seeing, with_guest, with_hand, with_seen, without_guest, without_hand}
use Rattle.cores.{specs.{Seats.{IsSeated, Known, about_in, hand_in, known, seat_view}, Tokens.Token}, proofs.Lists.if_is}

abbrev pub Knowing : Type 0
Knowing = Me (Unit {0}) View

-- the hand that sees this history
abbrev pub seen_by : List Noted → Hand → Hand
seen_by history hand = record { number = hand.number; seen = history; mine = hand.mine }

-- what contracts see of a seat with this view
abbrev pub known_as : TableId → About → Hand → ℕ → ℕ → ℕ → Known
known_as table start hand name number core =
    record { table = table; start = start; name = name; number = number; core = core; seen = hand.seen; mine = hand.mine }

pub known_is :
    (token : Token) (start : About) (hand : Hand) (name number core : ℕ) → token.me ≡ (seat_view start hand, [])
    → known token name number core ≡ known_as token.table_id start hand name number core
known_is token start hand name number core me =
    ap
    (λ (m : Knowing).
    record {
      table = token.table_id;
      start = about_in m.0;
      name = name;
      number = number;
      core = core;
      seen = (hand_in m.0).seen;
      mine = (hand_in m.0).mine;
    })
    me

pub seated_at :
    (token : Token) (start : About) (hand : Hand) (number core : ℕ) → token.me ≡ (seat_view start hand, []) → hand.number ≡ number
    → slice_get start.cores number ≡ Some core → IsLegal start.boot start.cores hand.seen → IsExactFor number hand.seen hand.mine
    → IsSeated token number core
seated_at token start hand number core me numbered on_core legal exact =
    record { start = start; hand = hand; me = me; numbered = numbered; on_core = on_core; legal = legal; exact = exact }

-- a visitor, once it has left its host
pub left_view :
    (start : About) (old hand : Hand) (seat gone back : Knowing) (host : View) → seat ≡ (seat_view start old, [])
    → gone ≡ (without_hand seat.0, []) → host.guest ≡ Some hand → back ≡ (with_hand gone.0 (guest_as_hand host), [])
    → back ≡ (seat_view start hand, [])
left_view start old hand seat gone back host is_seat is_gone is_guest is =
    let went : gone.0 ≡ without_hand (seat_view start old) = ap (λ (m : Knowing). m.0) is_gone ∙ ap (λ (m : Knowing). without_hand m.0) is_seat in
    let rest : View → Knowing = λ g. (with_hand g (guest_as_hand host), []) in
    let given : Option Hand → Knowing =
    λ h. (record { about = Some start; kept = None; hand = h; guest = None }, []) in
    is ∙ ap rest went ∙ ap given is_guest

-- what a host that is a seat knows once its visitor has left
pub host_left :
    (start : About) (hand : Hand) (history : List Noted) (host came saw alone : Knowing) (visitor : View)
    → host ≡ (seat_view start hand, []) → came ≡ (with_guest host.0 visitor, []) → saw.0 ≡ with_seen history came.0
    → alone ≡ (without_guest saw.0, []) → alone ≡ (seat_view start (seen_by history hand), [])
host_left start hand history host came saw alone visitor is_host is_came is_saw is =
    let comes : came.0 ≡ with_guest (seat_view start hand) visitor =
    ap (λ (m : Knowing). m.0) is_came ∙ ap (λ (m : Knowing). with_guest m.0 visitor) is_host in
    let saw_is : View → Knowing = λ v. (without_guest v, []) in
    is ∙ ap saw_is (is_saw ∙ ap (with_seen history) comes)

-- the guest of a host
pub guest_is :
    (start : About) (hand : Hand) (seat came : Knowing) (host : View) → seat ≡ (seat_view start hand, [])
    → came ≡ (with_guest host (hand_as_guest seat.0), []) → came.0.guest ≡ Some hand
guest_is start hand seat came host is_seat is =
    ap (λ (m : Knowing). m.0.guest) is ∙ ap (λ (m : Knowing). m.0.hand) is_seat

-- what the guest knows, once the host has looked
pub guest_saw : (history : List Noted) (hand : Hand) (came saw : View) → came.guest ≡ Some hand → saw ≡ with_seen history came
    → saw.guest ≡ Some (seen_by history hand)
guest_saw history hand came saw is_guest is = ap (λ (v : View). v.guest) is ∙ ap (seeing history) is_guest

-- the history that the host sees is legal, and exact for its guest
pub saw_legal :
    (a : About) (came saw : Knowing) (found : ℕ) (sees : Sees came found saw) → came.0.about ≡ Some a → IsLegal a.boot a.cores sees.0
saw_legal a came saw found sees told =
    if_is (λ (about : About). IsLegal about.boot about.cores sees.0) came.0.about a told sees.4

pub saw_guest : (hand : Hand) (came saw : Knowing) (found : ℕ) (sees : Sees came found saw) → came.0.guest ≡ Some hand → Shows sees.0 hand
saw_guest hand came saw found sees is = if_is (Shows sees.0) came.0.guest hand is sees.7

pub saw_hand : (hand : Hand) (came saw : Knowing) (found : ℕ) (sees : Sees came found saw) → came.0.hand ≡ Some hand → Shows sees.0 hand
saw_hand hand came saw found sees is = if_is (Shows sees.0) came.0.hand hand is sees.6
