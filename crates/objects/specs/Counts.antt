-- Counts of objects, slots and threads in a state.
use Rattle.std.specs.Prelude.{ℕ, ◌*◌, ◌+◌, ◌-◌, ◌^◌, ◌≤◌}
use Rattle.base.specs.declared.limits.TheConstants.{MAX_RADIX}
use Rattle.machine.specs.{declared.object.Object.Object, Counts.{objects_in, slots_in, threads_in}, Machine.Machine}
use Rattle.{machine.specs.Objects.{slot_count, thread_count}, objects.specs.declared.counts.Counts.Counts}

-- the counts with one more object
abbrev pub one_more : Counts → Object → Counts
one_more counts object =
    record {
      objects = counts.objects + 1;
      slots = counts.slots + slot_count object;
      threads = counts.threads + thread_count object;
    }

-- the counts with one object less
abbrev pub one_less : Counts → Object → Counts
one_less counts object =
    record {
      objects = counts.objects - 1;
      slots = counts.slots - slot_count object;
      threads = counts.threads - thread_count object;
    }

abbrev pub counts_in : Machine → Counts
counts_in m = record { objects = objects_in m; slots = slots_in m; threads = threads_in m }

-- the counts are no more than objects with these numbers can have
pub record AreOfNumbers (counts : Counts) (numbers : ℕ) : Type 0 where
  pub objects : counts.objects ≤ numbers
  pub slots : counts.slots ≤ numbers * 2 ^ MAX_RADIX
  pub threads : counts.threads ≤ numbers
