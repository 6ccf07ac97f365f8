use Rattle.{std.proofs.Common.{ℕ, Err, IfOk, List, Ok, Result}, words.specs.{declared.faults.Fault.Fault, Reading.Reads}}
use Rattle.microkit.{specs.{Reading.description_of_text, Sound.IsSound, View.description_of}, proofs.Sound.texts_are_sound}
use Rattle.microkit.proofs.reading.read_description.Goals as goal
use Rattle.microkit.specs.declared.description.Description as read

sound_of : (text : List ℕ) (r : Result read.Description Fault) → Reads description_of r (description_of_text text)
    → IfOk r (λ d. IsSound (description_of d))
sound_of text (Ok d) e = texts_are_sound text (description_of d) e
sound_of text (Err fault) e = tt

pub returns-clause-sound : goal.returns-clause-sound
returns-clause-sound c = sound_of c.args.text.now c.description_of_text.result c.description_of_text.ensures
