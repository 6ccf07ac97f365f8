use Rattle.std.{specs.List.zip, proofs.Common.{◌++◌, ◌≡◌, map, string_bytes, take}}
use Rattle.{words.specs.Text.text_of, captext.specs.TableText.object_words}
use Rattle.captext.proofs.write.write_objects.Given as goal

-- the lines of the objects so far are written
abbrev pub invariant-loop-id : goal.invariant-loop-id
invariant-loop-id l =
    string_bytes l.text ≡ string_bytes l.fn.text
    ++ text_of (map (λ named. object_words l.table named.0 named.1) (take l.id (zip l.table.names l.table.objects)))
