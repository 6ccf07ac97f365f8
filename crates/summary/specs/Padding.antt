-- Texts that are padded with spaces to a width, and texts that are there or not (confine's own).
use Rattle.std.specs.Prelude.{[], ℕ, ◌++◌, ◌-◌, Bool, List, false, length, replicate, true}

-- the spaces that a text lacks to a width
abbrev pub gap : ℕ → List ℕ → List ℕ
gap width text = replicate (width - length text) 32

-- the text ends at the width, if it isn't longer
abbrev pub pad_left : ℕ → List ℕ → List ℕ
pad_left width text = gap width text ++ text

-- the text has spaces after it up to the width
abbrev pub pad_right : ℕ → List ℕ → List ℕ
pad_right width text = text ++ gap width text

-- a text if a test passes, else none
abbrev pub given : Bool → List ℕ → List ℕ
given true text = text
given false text = []
