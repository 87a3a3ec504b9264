use Rattle.std.proofs.Common.{refl}
use Rattle.filters.specs.Tuples.{tuple_number}
use Rattle.filters.specs.Examples.{Examples}
use Rattle.filters.proofs.examples.changed_codes.Goals as goal

-- each comes out by computation
examples : Examples
unfolding tuple_number
examples =
    record {
      two_codes = refl;
      three_codes = refl;
      later_codes = refl;
      all_changed = refl;
      continuous_changed = refl;
      gapped_changed = refl;
      near_changed = refl;
      continuous_shifted = refl;
      gapped_shifted = refl;
      near_shifted = refl;
    }

pub returns : goal.returns
returns c = record { codes = refl; examples = examples; continuous = refl; gapped = refl }
