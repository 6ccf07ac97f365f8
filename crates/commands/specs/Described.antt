-- A system description with the table that it becomes, without where it lies in memory (confine's own).
use Rattle.{microkit.specs.Description.Description, machine.specs.Layout.Layout}

pub record Described : Type 0 where
  pub description : Description
  pub table : Layout
