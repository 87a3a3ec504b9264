-- Two scans find all that there is to find. Assumes nothing.
use Rattle.std.proofs.Common.{◌≡◌, List, [], length, Ok, vec_items, Result, sym, ◌∙◌, subst, arith}
use Rattle.filters.specs.Filters.{Rule, Reach, Pattern, StandsFor}
use Rattle.search.specs.declared.matches.Match.{Match}
use Rattle.search.specs.declared.matches.Found.{Found}
use Rattle.search.specs.declared.refusal.Refusal.{Refusal}
use Rattle.search.specs.Listing.{match_list}
use Rattle.search.specs.Scans.{Scanned, WholeAnswer}
use Rattle.search.specs.Words.{Whole}
use Rattle.search.proofs.Scanning.{list_counted, exact_room}
use Rattle.trace.specs.Kinds.{pulse}
use Rattle.probe.specs.declared.answer.Answer.{Answer}
use Rattle.probe.specs.Answers.{Finds}
use Rattle.probe.specs.Tasks.{Task}

module _ (rule : Rule) (reach : Reach) (p : Pattern) (x : Task) (a : Answer) (none before after : List Match) (f : Found) (r s : Result Found Refusal) where
  -- the first scan counts, and the second writes into a list of that length
  pub finds : StandsFor rule reach p x.question → r ≡ Ok a.found → WholeAnswer rule reach pulse.agree x.question x.trace 1 [] none r → s ≡ Ok f → WholeAnswer rule reach pulse.agree x.question x.trace 1 before after s →
      length before ≡ a.found.pairs → a.samples ≡ length x.trace → a.reach ≡ p.span → vec_items a.matches ≡ after → Finds rule reach x a
  finds stands counted first listed second room samples far items =
      let counts : Scanned rule reach pulse.agree x.question x.trace 1 [] none a.found = subst (WholeAnswer rule reach pulse.agree x.question x.trace 1 [] none) counted first in
      let lists : Scanned rule reach pulse.agree x.question x.trace 1 before after f = subst (WholeAnswer rule reach pulse.agree x.question x.trace 1 before after) listed second in
      let fit : length before ≡ length (match_list 1 pulse.agree x.question x.trace) = omega (arith, counts.pairs, list_counted 1 pulse.agree x.question x.trace) in
      let span = far ∙ stands.span in
      let all = items ∙ lists.listed ∙ exact_room before (match_list 1 pulse.agree x.question x.trace) fit in
      record {
        is = λ i. record { samples = samples i; pairs = counts.pairs i; places = counts.places i; reach = span i; matches = all i };
        whole = subst (λ l. Whole pulse.agree x.question x.trace 1 l) (sym items) (lists.whole (omega (arith, room, counts.pairs, lists.pairs)));
      }
