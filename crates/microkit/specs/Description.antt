-- Descriptions of systems, as values: regions, domains, virtual machines and channels, each with the line of its element.
use Rattle.std.specs.Prelude.{ℕ, Bool, List, Option}
use Rattle.microkit.specs.declared.description.{Channel.{Channel}, Id.{Id}, Interrupt.{Interrupt}, Map.{Map}, Page.{Page}, Port.{Port}}
use Rattle.microkit.specs.declared.description.{Processor.{Processor}, Schedule.{Schedule}, Variable.{Variable}}

pub record Region : Type 0 where
  pub name : List ℕ
  pub size : ℕ
  pub page : Page
  pub address : Option ℕ
  pub line : ℕ

pub record Domain : Type 0 where
  pub name : List ℕ
  pub parent : Option Id
  pub schedule : Schedule
  pub core : ℕ
  pub passive : Bool
  pub smc : Bool
  pub serves : Option Bool
  pub line : ℕ

pub record Machine : Type 0 where
  pub name : List ℕ
  pub domain : ℕ
  pub schedule : Schedule
  pub line : ℕ

pub record Description : Type 0 where
  pub regions : List Region
  pub domains : List Domain
  pub machines : List Machine
  pub processors : List Processor
  pub maps : List Map
  pub interrupts : List Interrupt
  pub ports : List Port
  pub variables : List Variable
  pub channels : List Channel
