-- The worked examples. Assumes nothing.
use Rattle.std.proofs.Common.{ℕ, ◌<◌, List, [], ◌∷◌, ◌++◌, refl, arith}
use Rattle.std.specs.Fmt.{digits}
use Rattle.trace.specs.Spelling.{Begins}
use Rattle.findings.specs.Examples.{asks, changed, padded, query_file, changed_file, both, Examples}
use Rattle.findings.specs.Sessions.{Holds, answered}

-- a number in one byte
short : (v : ℕ) (rest : List ℕ) → v < 128 → Begins v (v ∷ rest) rest
short v rest small = record { groups = v ∷ []; sized = record { some = omega arith; few = omega arith; each = (small, tt) }; value = omega arith; is = refl }

-- the number 9 in three bytes
long_nine : (rest : List ℕ) → Begins 9 (0x89 ∷ 0x80 ∷ 0x00 ∷ rest) rest
long_nine rest = record { groups = 9 ∷ 0 ∷ 0 ∷ []; sized = record { some = omega arith; few = omega arith; each = (omega arith, (omega arith, (omega arith, tt))) }; value = refl; is = refl }

held_parts : Holds (asks ++ (padded ++ changed)) both
held_parts =
    record {
      rest = padded ++ changed;
      question = record {
        short = omega arith;
        behind_m = 1 ∷ 9 ∷ query_file ++ (padded ++ changed);
        behind_k = 9 ∷ query_file ++ (padded ++ changed);
        m = short 6 _ (omega arith);
        k = short 1 _ (omega arith);
        query = record { behind = query_file ++ (padded ++ changed); size = short 9 _ (omega arith); is = refl };
      };
      traces = (
        changed,
        record { behind = query_file ++ changed; size = long_nine _; is = refl },
        ([], record { behind = changed_file ++ []; size = short 11 _ (omega arith); is = refl }, refl),
      );
    }

pub examples : Examples
unfolding answered digits
examples = record { one = refl; two = refl; held = held_parts; no_trace = refl; cut_off = refl; empty = refl }
