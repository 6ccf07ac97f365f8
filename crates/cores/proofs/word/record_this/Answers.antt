use Rattle.std.proofs.Common.{[], ◌∙◌, ◌≡◌, ap, rules, subst, sym}
use Rattle.cores.{specs.{declared.view.{Noted.Noted, View.View}, Moves.after_record, Tokens.CanRecord}, proofs.Keeps.records}
use Rattle.cores.proofs.word.record_this.Goals as goal

pub fetch_add-requires : goal.fetch_add-requires
fetch_add-requires g c =
    let may = subst (λ (noted : Noted). CanRecord c.args.keeper.now.me.0 noted) c.requires.entry c.requires.may in
    (search rules, search rules, records _ _ _ _ _ _ may)

pub returns-clause-added : goal.returns-clause-added
returns-clause-added g c kept hand kept_is hand_is =
    let before : View = c.args.keeper.now.me.0 in
    let told = c.fetch_add.ensures.2.1 kept hand kept_is hand_is in
    let view : c.fetch_add.new.seat.me.0 ≡ after_record before kept c.args._noted.now hand =
    told.0 ∙ ap (λ (noted : Noted). after_record before kept noted hand) (sym c.requires.entry) in
    let slots : c.fetch_add.new.seat.me.1 ≡ [] = c.fetch_add.ensures.2.0 ∙ c.requires.keeper.2 in
    (λ i. (view i, slots i), told.1)
