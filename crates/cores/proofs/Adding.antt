-- A call's way: the seat visits the keeper, its entry is recorded, and it leaves; the history stays legal, and exact for the seat.
use Rattle.std.{specs.Prelude.slice_get, proofs.Common.{[], ℕ, ◌++◌, ◌+◌, ◌<◌, ◌^◌, ◌∙◌, ◌∷◌, ◌≡◌, ◌≤◌, List, None, Some, ap, arith}}
use Rattle.std.proofs.{Common.{length, refl, subst, sym}, lemmas.List.{length_push, Elements.All-push}}
use Rattle.machine.specs.{declared.call.{Event.Event, Outcome.Outcome}, Machine.Machine, Step.Step, WellFormed.IsWellFormed}
use Rattle.kernel.{specs.Legal.{Entry, IsLogBetween}, proofs.LegalLemmas.led_further}
use Rattle.cores.specs.{declared.view.{About.About, Hand.Hand, Keeping.Keeping, Noted.Noted, View.View}, History.{IsExactFor, IsLegal}}
use Rattle.cores.specs.{History.{OnCores, log_of}, Moves.{Shows, after_record, hand_as_guest, recorded, with_guest, without_guest}}
use Rattle.cores.specs.{Rule.{about, keeper_view}, Seats.{Calls, InOrder, Known, Ticket, history_of, keeping_in, known, seat_view}}
use Rattle.cores.{specs.Tokens.{CanRecord, IsAt, Token}, proofs.{Lists.{log_grows, own_grows}, Visiting.{Knowing, known_as, known_is}}}

-- the keeper while a seat visits it
abbrev pub host_view : About → Keeping → Hand → View
host_view a kept hand = record { about = Some a; kept = Some kept; hand = None; guest = Some hand }

pub hosts_view :
    (a start : About) (kept : Keeping) (hand : Hand) (keeper : View) (seat came : Knowing) → keeper ≡ keeper_view a kept
    → seat ≡ (seat_view start hand, []) → came ≡ (with_guest keeper (hand_as_guest seat.0), []) → came.0 ≡ host_view a kept hand
hosts_view a start kept hand keeper seat came is_keeper is_seat is =
    ap (λ (m : Knowing). m.0) is ∙ ap (λ (k : View). with_guest k (hand_as_guest seat.0)) is_keeper
    ∙ ap (λ (s : Knowing). with_guest (keeper_view a kept) (hand_as_guest s.0)) is_seat

-- the keeper, once it has recorded the seat's entry
pub records_view :
    (a : About) (kept : Keeping) (hand : Hand) (noted : Noted) (before : View) (after : Knowing) → before ≡ host_view a kept hand
    → after ≡ (after_record before kept noted hand, [])
    → after.0 ≡ host_view a (record { history = kept.history ++ noted ∷ []; next = kept.next }) (recorded kept.history noted hand)
records_view a kept hand noted before after is_host is =
    ap (λ (m : Knowing). m.0) is ∙ ap (λ (v : View). after_record v kept noted hand) is_host

pub keeps_view :
    (a : About) (kept : Keeping) (hand : Hand) (before : View) (after : Knowing) → before ≡ host_view a kept hand
    → after ≡ (without_guest before, []) → after.0 ≡ keeper_view a kept
keeps_view a kept hand before after is_host is = ap (λ (m : Knowing). m.0) is ∙ ap without_guest is_host

pub can_record :
    (a : About) (kept : Keeping) (hand : Hand) (noted : Noted) (view : View) → view ≡ host_view a kept hand → noted.seat ≡ hand.number
    → IsLegal a.boot a.cores (kept.history ++ noted ∷ []) → length kept.history < 2 ^ 32 → CanRecord view noted
can_record a kept hand noted view is_host of legal room =
    subst (λ (v : View). CanRecord v noted) (sym is_host)
    (record { about = a; kept = kept; hand = hand; told = refl; keeps = refl; hosts = refl; of = of; legal = legal; room = room })

-- one step more, on the core of the seat that makes it

pub leads_more :
    (boot last next : Machine) (history : List Noted) (noted : Noted) → IsLogBetween boot (log_of history) last
    → Step last noted.event noted.outcome next → IsLogBetween boot (log_of (history ++ noted ∷ [])) next
leads_more boot last next history noted run step =
    subst (λ (entries : List Entry). IsLogBetween boot entries next) (sym (log_grows history noted))
    (led_further boot last next (log_of history) (noted.event, noted.outcome) run step)

pub legal_more :
    (boot last next : Machine) (cores : List ℕ) (history : List Noted) (noted : Noted) → IsLogBetween boot (log_of history) last
    → Step last noted.event noted.outcome next → OnCores cores history → slice_get cores noted.seat ≡ Some noted.event.core
    → IsLegal boot cores (history ++ noted ∷ [])
legal_more boot last next cores history noted run step on_cores here =
    record {
      last = next;
      run = leads_more boot last next history noted run step;
      on_cores = All-push (λ (n : Noted). slice_get cores n.seat ≡ Some n.event.core) history noted on_cores here;
    }

pub exact_more :
    (number : ℕ) (history mine : List Noted) (noted : Noted) → noted.seat ≡ number → IsExactFor number history mine
    → IsExactFor number (history ++ noted ∷ []) (mine ++ noted ∷ [])
exact_more number history mine noted of exact = own_grows number history noted of ∙ ap (λ (ns : List Noted). ns ++ noted ∷ []) exact

-- what lies under the lock, once the keeper has an entry more
pub in_order_more :
    (t : Ticket) (keeper next : Token) (log grown : List Entry) (capacity room : ℕ) (state after : Machine) (noted : Noted)
    (order : InOrder t keeper log capacity state) → length log < t.size → IsAt t.table next
    → next.me.0 ≡ keeper_view (about t.boot t.cores) (record { history = history_of keeper ++ noted ∷ []; next = order.next })
    → Step state noted.event noted.outcome after → IsWellFormed after → slice_get t.cores noted.seat ≡ Some noted.event.core
    → grown ≡ log ++ (noted.event, noted.outcome) ∷ [] → room ≡ capacity → InOrder t next grown room after
in_order_more t keeper next log grown capacity room state after noted order below at view step formed here items same =
    let more : List Noted = history_of keeper ++ noted ∷ [] in
    let is : history_of next ≡ more = ap (λ (v : View). (keeping_in v).history) view in
    let legal : IsLegal t.boot t.cores more = legal_more t.boot state after t.cores (history_of keeper) noted order.run step order.on_cores here in
    let given : List Noted → View = λ h. keeper_view (about t.boot t.cores) (record { history = h; next = order.next }) in
    let longer : length grown ≡ length log + 1 = ap length items ∙ length_push log (noted.event, noted.outcome) in
    record {
      at = at;
      next = order.next;
      view = view ∙ ap given (sym is);
      run =
          subst (λ (h : List Noted). IsLogBetween t.boot (log_of h) after) (sym is)
          (leads_more t.boot state after (history_of keeper) noted order.run step);
      formed = formed;
      on_cores = subst (OnCores t.cores) (sym is) legal.on_cores;
      logged =
          items ∙ ap (λ (l : List Entry). l ++ (noted.event, noted.outcome) ∷ []) order.logged ∙ sym (log_grows (history_of keeper) noted)
          ∙ ap log_of (sym is);
      room = subst (λ n. t.size ≤ n) (sym same) order.room;
      within = omega arith;
    }

-- a seat, once the history with its entry is what it has seen
pub calls_more :
    (token back : Token) (start : About) (hand : Hand) (name number core : ℕ) (history : List Noted) (event : Event) (outcome : Outcome)
    → token.me ≡ (seat_view start hand, [])
    → back.me ≡ (seat_view start (recorded history (record { seat = number; event = event; outcome = outcome }) hand), [])
    → back.table_id ≡ token.table_id → hand.number ≡ number → Shows history hand
    → IsLegal start.boot start.cores (history ++ record { seat = number; event = event; outcome = outcome } ∷ [])
    → Calls (known token name number core) event outcome (known back name number core)
calls_more token back start hand name number core history event outcome me back_me table numbered shows legal =
    let noted : Noted = record { seat = number; event = event; outcome = outcome } in
    let known_back = known_is back start (recorded history noted hand) name number core back_me in
    let before : Known = known_as token.table_id start hand name number core in
    let after : Known = known_as back.table_id start (recorded history noted hand) name number core in
    let done : Calls before event outcome after =
    record {
      same = record { table = table; start = refl; name = refl; number = refl; core = refl };
      history = history;
      begins = shows.0;
      ends = refl;
      legal = legal;
      exact = exact_more number history hand.mine noted refl (subst (λ n. IsExactFor n history hand.mine) numbered shows.1);
      grew = refl;
    } in
    subst (λ (k : Known). Calls k event outcome (known back name number core)) (sym (known_is token start hand name number core me))
    (subst (λ (k : Known). Calls before event outcome k) (sym known_back) done)
