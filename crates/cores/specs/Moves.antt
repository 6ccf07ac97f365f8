-- Steps on the word: what they do to the views of the seats, and what they tell (confine's own).
use mathlib.Core.List.{IsPrefix}
use Rattle.std.specs.Prelude.{[], ℕ, ◌++◌, ◌+◌, ◌∷◌, ◌≡◌, IfSome, List, None, Option, Some, length, option_map}
use Rattle.{atomic_table.specs.Table.Me, machine.specs.declared.call.{Call.TheVariants.Fetch, Outcome.TheVariants.Blocked}}
use Rattle.cores.specs.{declared.view.{Hand.Hand, Keeping.Keeping, Noted.Noted, View.View}, History.{IsExactFor, IsLegal}}

-- a seat that knows nothing
abbrev pub blank : View
blank = record { about = None; kept = None; hand = None; guest = None }

abbrev pub without_hand : View → View
without_hand view = record { about = view.about; kept = view.kept; hand = None; guest = view.guest }

abbrev pub without_guest : View → View
without_guest view = record { about = view.about; kept = view.kept; hand = view.hand; guest = None }

-- a seat's hand alone, as somebody's guest
abbrev pub hand_as_guest : View → View
hand_as_guest view = record { about = view.about; kept = None; hand = None; guest = view.hand }

-- a seat's guest alone, as a hand again
abbrev pub guest_as_hand : View → View
guest_as_hand view = record { about = view.about; kept = None; hand = view.guest; guest = None }

abbrev pub with_guest : View → View → View
with_guest view other = record { about = view.about; kept = view.kept; hand = view.hand; guest = other.guest }

abbrev pub with_hand : View → View → View
with_hand view other = record { about = view.about; kept = view.kept; hand = other.hand; guest = view.guest }

-- the keeper, after the seat of the next number was dealt
abbrev pub after_deal : View → View
after_deal view =
    record {
      about = view.about;
      kept = option_map (λ kept. record { history = kept.history; next = kept.next + 1 }) view.kept;
      hand = view.hand;
      guest = view.guest;
    }

-- a seat of the keeper's next number, which has seen nothing
abbrev pub newcomer : View → View
newcomer view =
    record {
      about = view.about;
      kept = None;
      hand = option_map (λ kept. record { number = kept.next; seen = []; mine = [] }) view.kept;
      guest = None;
    }

-- who knows this much sees the whole history
abbrev pub seeing : List Noted → Option Hand → Option Hand
seeing history = option_map (λ hand. record { number = hand.number; seen = history; mine = hand.mine })

abbrev pub with_seen : List Noted → View → View
with_seen history view =
    record { about = view.about; kept = view.kept; hand = seeing history view.hand; guest = seeing history view.guest }

-- the history has what the hand knows of it
abbrev pub Shows : List Noted → Hand → Type 0
Shows history hand = IsPrefix hand.seen history × IsExactFor hand.number history hand.mine

-- a load sees a legal history, as long as the number that was found
abbrev pub Sees : Me (Unit {0}) View → ℕ → Me (Unit {0}) View → Type 0
Sees before found after =
    (history : List Noted) × (length history ≡ found) × (after.1 ≡ before.1) × (after.0 ≡ with_seen history before.0)
    × IfSome before.0.about (λ about. IsLegal about.boot about.cores history) × IfSome before.0.kept (λ kept. kept.history ≡ history)
    × IfSome before.0.hand (Shows history) × IfSome before.0.guest (Shows history)

-- the hand, once its entry is added to the history
abbrev pub recorded : List Noted → Noted → Hand → Hand
recorded history noted hand =
    record { number = hand.number; seen = history ++ noted ∷ []; mine = hand.mine ++ noted ∷ [] }

-- the keeper with its guest, once the guest's entry is added to the history
abbrev pub after_record : View → Keeping → Noted → Hand → View
after_record view kept noted hand =
    record {
      about = view.about;
      kept = Some (record { history = kept.history ++ noted ∷ []; next = kept.next });
      hand = view.hand;
      guest = Some (recorded kept.history noted hand);
    }

-- the keeper's step adds the entry, and the guest had seen a beginning of the history before it
abbrev pub Records : Noted → Me (Unit {0}) View → Me (Unit {0}) View → Type 0
Records noted before after =
    (after.1 ≡ before.1)
    × ((kept : Keeping) (hand : Hand) → before.0.kept ≡ Some kept → before.0.guest ≡ Some hand
    → (after.0 ≡ after_record before.0 kept noted hand) × Shows kept.history hand)

-- an entry that nobody made
abbrev pub nothing_noted : Noted
nothing_noted =
    record { seat = 0; event = record { core = 0; thread = record { 0 = 0 }; call = Fetch }; outcome = Blocked }
