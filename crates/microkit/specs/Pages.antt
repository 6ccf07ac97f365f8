-- Pages (seL4 manual, "Virtual Memory": sizes of frames).
use Rattle.{std.specs.Prelude.ℕ, microkit.specs.declared.description.Page.{Page, TheVariants.{Large, Small}}}

abbrev pub page_bytes : Page → ℕ
page_bytes Small = 4096
page_bytes Large = 2097152
