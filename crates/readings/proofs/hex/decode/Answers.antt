use Rattle.std.proofs.Common.{drop, sym, ap, ◌∙◌}
use Rattle.std.proofs.lemmas.List.{take_rest}
use Rattle.readings.specs.Hex.{hex_bytes}
use Rattle.readings.proofs.Spelling.{onto, goes_on}
use Rattle.readings.proofs.hex.decode.Goals as goal

pub loop-rest-preserved : goal.loop-rest-preserved
loop-rest-preserved c =
    let rest = c.loop-rest.rest.now in
    c.loop-rest.invariant ∙ goes_on c.loop-rest.bytes.items rest c.in-Some.next c.in-len2-up.len_at_least (sym c.in-Some.ensures)
    ∙ ap (λ bs. onto bs (hex_bytes (drop 2 rest))) (sym c.in_ok-push.ensures.items)
    ∙ ap (λ xs. onto c.push.new.self.items (hex_bytes xs)) (sym (take_rest rest 2))
