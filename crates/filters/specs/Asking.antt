-- The question that is held. Assumes nothing.
use Rattle.filters.specs.declared.held.Held.{Held}
use Rattle.filters.specs.Matching.{Question}
use Rattle.filters.specs.Questions.{question}

abbrev pub question_of : Held → Question
question_of h = question h.codes h.q h.m h.k
