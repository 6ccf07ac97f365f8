-- The numbers of the versions of capability tables (confine's own).
use Rattle.{std.specs.Prelude.ℕ, machine.specs.declared.layout.Version.Version}
use Rattle.machine.specs.declared.layout.Version.TheVariants as version

abbrev pub version_number : Version → ℕ
version_number version.One = 1
version_number version.Two = 2
