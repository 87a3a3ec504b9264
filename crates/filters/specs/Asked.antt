-- A question as it is brought to a call. Assumes nothing.
use Rattle.filters.specs.Matching.{Question}
use Rattle.filters.specs.declared.question.Question.{Question as Brought}

abbrev pub asked : Brought → Question
asked q = record { codes = q.codes.now; m = q.m; k = q.k }
