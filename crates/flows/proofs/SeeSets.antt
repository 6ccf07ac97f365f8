-- The labels that a label sees, as a union of sets of labels; and that the labels of a set are few.
use Rattle.std.{specs.List.list_any, proofs.Common.{ℕ, ◌%◌, ◌/◌, ◌<◌, ◌||◌, ◌∙◌, ◌≡◌, ◌≤◌, ◌⊎◌, Bool, ap, arith, false, inl, inr, length, not}}
use Rattle.std.proofs.{Common.{refl, sym, true}, lemmas.{Bool.{cases_lt, false≢true}, List.get_or_past}}
use Rattle.base.{specs.{declared.labels.Labels.Labels, Labels.{is_in, is_in_part, no_part}}, proofs.LabelParts.in_no_part}
use Rattle.base.specs.declared.kind.Kind.{Kind, TheVariants.{Await, Call, Context, Control, Notify, Read, Receive, Reply, Runs, Send, Space}}
use Rattle.policy.{specs.{Change.{ActorTest, IsBeside, MayAnswer}, Domain.EdgeTest}, proofs.{KindNumbers.{each_kind, is_kind}, Stepping.of_kind}}
use Rattle.flows.specs.{declared.seeing.TheConstants.SEEN, Seeing.{IsContested, WayToSee}}
use Rattle.flows.specs.Seeing.WayToSee.{awaits, binds, bound, callers, finds, own, reads, receivers, receives, replies, runs, senders, sends, wakes}

-- the kinds whose use depends on the object itself
abbrev pub is_seen : Kind → Bool
is_seen Await = true
is_seen Read = true
is_seen Runs = true
is_seen Send = true
is_seen Receive = true
is_seen Reply = true
is_seen Space = true
is_seen _ = false

pub seen_listed : (kind : Kind) → is_seen kind ≡ true → list_any (is_kind kind) SEEN ≡ true
seen_listed kind is = of_kind (is_seen kind) _ is (each_kind (λ k. not (is_seen k) || list_any (is_kind k) SEEN) refl kind)

module _ (test : EdgeTest) (acts : ActorTest) (a l : ℕ) where
  -- a label that acts and waits where a has to do with it
  abbrev pub MeetsAt : Kind → Kind → Type 0
  MeetsAt kind other = (end : ℕ) × (test a kind end ≡ true) × (test l other end ≡ true) × (acts l ≡ true)

  abbrev pub SeeParts : Type 0
  SeeParts =
      (((((((l ≡ a) ⊎ ((kind : Kind) × (is_seen kind ≡ true) × (test a kind l ≡ true))) ⊎ MeetsAt Receive Send) ⊎ MeetsAt Call Receive)
      ⊎ MayAnswer test acts a l) ⊎ IsBeside test Context Control a l) ⊎ IsBeside test Control Context a l)
      ⊎ ((test a Notify l ≡ true) × IsContested test acts l)

  by_kind : (kind : Kind) → is_seen kind ≡ true → test a kind l ≡ true → WayToSee test acts a l
  by_kind Await is there = awaits there
  by_kind Read is there = reads there
  by_kind Runs is there = runs there
  by_kind Send is there = sends there
  by_kind Receive is there = receives there
  by_kind Reply is there = replies there
  by_kind Space is there = finds there
  by_kind _ is there = absurd (false≢true is)

  pub see_to : SeeParts → WayToSee test acts a l
  see_to (inr w) = wakes w.0 w.1
  see_to (inl (inr w)) = bound w.1.0 w.0 w.1.1
  see_to (inl (inl (inr w))) = binds w.1.0 w.0 w.1.1
  see_to (inl (inl (inl (inr answer)))) = callers answer
  see_to (inl (inl (inl (inl (inr w))))) = receivers w.0 w.1 w.2 w.3
  see_to (inl (inl (inl (inl (inl (inr w)))))) = senders w.0 w.1 w.2 w.3
  see_to (inl (inl (inl (inl (inl (inl (inr w))))))) = by_kind w.0 w.1 w.2
  see_to (inl (inl (inl (inl (inl (inl (inl same))))))) = own same

  of_use : (kind : Kind) → is_seen kind ≡ true → test a kind l ≡ true → SeeParts
  of_use kind is there = inl (inl (inl (inl (inl (inl (inr (kind, is, there)))))))

  pub see_from : WayToSee test acts a l → SeeParts
  see_from (own same) = inl (inl (inl (inl (inl (inl (inl same))))))
  see_from (awaits there) = of_use Await refl there
  see_from (reads there) = of_use Read refl there
  see_from (runs there) = of_use Runs refl there
  see_from (sends there) = of_use Send refl there
  see_from (receives there) = of_use Receive refl there
  see_from (replies there) = of_use Reply refl there
  see_from (finds there) = of_use Space refl there
  see_from (senders endpoint received sent waits) = inl (inl (inl (inl (inl (inr (endpoint, received, sent, waits))))))
  see_from (receivers endpoint called received waits) = inl (inl (inl (inl (inr (endpoint, called, received, waits)))))
  see_from (callers answer) = inl (inl (inl (inr answer)))
  see_from (binds thread used controlled) = inl (inl (inr (used, (thread, controlled))))
  see_from (bound context controlled used) = inl (inr (controlled, (context, used)))
  see_from (wakes notified contested) = inr (notified, contested)

-- no label of four parts of 64 is past 256
pub below_count : (labels : Labels) → length labels.parts ≡ 4 → (l : ℕ) → is_in labels l ≡ true → l < 256
unfolding is_in
below_count labels four l is = by (cases_lt l 256) where
  by : (l < 256) ⊎ (256 ≤ l) → l < 256
  by (inl below) = below
  by (inr above) =
      let past = get_or_past labels.parts (l / 64) no_part (omega arith) in
      absurd (false≢true (sym (ap (λ part. is_in_part part (l % 64)) past ∙ in_no_part (l % 64)) ∙ is))
