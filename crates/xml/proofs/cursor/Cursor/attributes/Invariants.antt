-- The attributes that were found, and those that are left, are those that the whole tag has.
use Rattle.std.proofs.Common.{[], ◌+◌, ◌-◌, ◌≡◌, ◌≤◌, vec_len}
use Rattle.xml.specs.{Tag.{attributes_at}, View.{pairs_of}, declared.tags.TheConstants.{MAX_ATTRIBUTES}}
use Rattle.xml.proofs.cursor.Cursor.attributes.Given as goal

abbrev pub invariant-loop-alloc : goal.invariant-loop-alloc
invariant-loop-alloc l =
    record {
      whole : attributes_at (MAX_ATTRIBUTES + 1 - vec_len l.found) (pairs_of l.found.items) l.self ≡ attributes_at (MAX_ATTRIBUTES + 1) [] l.fn.self;
      few : vec_len l.found ≤ MAX_ATTRIBUTES;
    }

abbrev pub decreases-loop-alloc : goal.decreases-loop-alloc
decreases-loop-alloc l = MAX_ATTRIBUTES + 1 - vec_len l.found
