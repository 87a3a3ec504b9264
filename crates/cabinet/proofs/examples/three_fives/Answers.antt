use Rattle.std.proofs.Common.{refl}
use Rattle.filters.specs.Tuples.{tuple_number}
use Rattle.cabinet.specs.Examples.{Examples}
use Rattle.cabinet.proofs.examples.three_fives.Goals as goal

-- each comes out by computation
examples : Examples
unfolding tuple_number
examples =
    record {
      of_files = record { plain = refl; padded = refl; too_long = refl; empty = refl; one_stroke = refl; its_code = refl; out_of_range = refl };
      of_filters = record { two_codes = refl; three_codes = refl; later_codes = refl; all_changed = refl; continuous_changed = refl; gapped_changed = refl; near_changed = refl; continuous_shifted = refl; gapped_shifted = refl; near_shifted = refl };
      of_lists = record { in_changed = refl; in_shifted = refl; in_fives = refl };
      six_pairs = refl;
      too_short = refl;
    }

pub returns : goal.returns
returns c = record { bytes = refl; examples = examples }
