-- A hop ends where the guard and the radix leave it.
use Rattle.std.proofs.Common.{ℕ, ◌-◌, ◌/◌, ◌<◌, ◌^◌, ◌∙◌, ◌≡◌, Bool, List, Ok, Result, ap, arith, sym}
use Rattle.{base.specs.declared.{ids.SlotRef.SlotRef, refusal.LookupFailure.LookupFailure}, machine.specs.Bits.bits}
use Rattle.cspace.{specs.Strings.level_shown, proofs.BitLemmas.{number-bits, split-short, split-within}}
use Rattle.cspace.proofs.HopLemmas.{hop-apart, hop-deep, hop-slot}
use Rattle.cspace.proofs.level.Level.select.Goals as goal

pub returns-in_default-clause-value : goal.returns-in_default-clause-value
returns-in_default-clause-value c =
    sym (hop-apart (level_shown c.args.self) (bits c.args.left c.args.address) (sym c.in_default.ensures.value))

pub returns-then-radix-rest-clause-value : goal.returns-then-radix-rest-clause-value
returns-then-radix-rest-clause-value c =
    let deep : c.in-Some.rest < c.args.self.radix = omega (arith, c.bits.ensures.value) in
    sym
    (hop-deep (level_shown c.args.self) (bits c.args.left c.args.address) (bits c.in-Some.rest c.args.address)
    (sym c.in-Some.ensures.value)
    (split-short c.args.self.radix c.args.address c.in-Some.rest deep))

pub returns-clause-value : goal.returns-clause-value
returns-clause-value c =
    let rest = c.in-Some.rest in
    let radix = c.from-radix.result in
    let left = bits (rest - radix) c.args.address in
    let slot : ℕ → Result (SlotRef × List Bool) LookupFailure =
    λ index. Ok (record { holder = c.args.self.node; index = index }, left) in
    let same : radix ≡ c.args.self.radix = c.from-radix.ensures ∙ c.bits.ensures.value in
    let parts = split-within c.args.self.radix c.args.address rest radix same c.if-radix-rest.false in
    ap slot (c.field.ensures ∙ sym (number-bits radix (c.args.address / 2 ^ (rest - radix))))
    ∙ sym
    (hop-slot (level_shown c.args.self) (bits c.args.left c.args.address) (bits rest c.args.address) _
    (sym c.in-Some.ensures.value) parts)
