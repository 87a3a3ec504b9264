-- What a match with few mismatches is sure to share.
use Rattle.std.specs.Prelude.{◌≡◌, ℕ, suc, ◌+◌, ◌-◌, ◌*◌, ◌<◌, ◌≤◌, Bool, true, false, List, length, nat_lt}
use Rattle.std.proofs.Common.{sym, ap, subst, ◌∙◌, arith, add_comm, mul-one, add-one}
use Rattle.std.proofs.Math.Arith.{digits_lt}
use Rattle.std.proofs.lemmas.Bool.{and_from, lt-ltb}
use Rattle.filters.specs.Filters.{Necessary}
use Rattle.filters.specs.Questions.{share, same, misses}
use Rattle.filters.specs.Counting.{decides_every}
use Rattle.filters.specs.Pigeons.{comb, run}
use Rattle.filters.specs.Sharing.{share_fits, share_some, same_later, misses_same}
use Rattle.filters.specs.Tuples.{same_digit, same_tuple}
use Rattle.filters.specs.Rules.{tuple_rule, tuple_reach}

pub tuple_at : (l g : ℕ) (xs ys : List ℕ) (i j s : ℕ) → i + s + (l - 1) * g < length xs → j + s + (l - 1) * g < length ys → ((x : ℕ) → x < l → same xs ys i j (s + x * g) ≡ true) →
    same_tuple l g xs ys (i + s) (j + s) ≡ true
tuple_at l g xs ys i j s a b h =
    and_from (nat_lt (i + s + (l - 1) * g) (length xs)) _ (lt-ltb _ _ a)
    (and_from (nat_lt (j + s + (l - 1) * g) (length ys)) _ (lt-ltb _ _ b)
    ((decides_every (same_digit g xs ys (i + s) (j + s)) l).1 (λ x lt. same_later xs ys i j s (x * g) ∙ h x lt)))

pub continuous_necessary : Necessary (tuple_rule false) (tuple_reach false)
continuous_necessary a t i j d km w =
    let hi = w.in_query in
    let hj = w.in_trace in
    let hd : misses (same a.codes t i j) a.m ≤ a.k = omega (arith, misses_same a.codes t i j a.m, w.counted, w.few) in
    let l : ℕ = share a.m a.k in
    let r = run (same a.codes t i j) a.m a.k l (share_fits a.m a.k) hd in
    let s : ℕ = r.0 in
    let sl : s + l ≤ a.m = r.1 in
    let l0 : 0 < l = share_some a.m a.k km in
    let one : (l - 1) * 1 ≡ l - 1 = mul-one (l - 1) in (
      s,
      omega arith,
      tuple_at l 1 a.codes t i j s (omega arith) (omega arith)
          (λ x lt. ap (λ z. same a.codes t i j (s + z)) (mul-one x) ∙ r.2 x lt),
    )

pub gapped_necessary : Necessary (tuple_rule true) (tuple_reach true)
gapped_necessary a t i j d km w =
    let hi = w.in_query in
    let hj = w.in_trace in
    let hd : misses (same a.codes t i j) a.m ≤ a.k = omega (arith, misses_same a.codes t i j a.m, w.counted, w.few) in
    let l : ℕ = share a.m a.k in
    let g : ℕ = a.k + 1 in
    let r = comb (same a.codes t i j) a.m a.k l (share_fits a.m a.k) hd in
    let s : ℕ = r.0 in
    let sk : s ≤ a.k = r.1 in
    let l0 : 0 < l = share_some a.m a.k km in
    let ll : l - 1 < l = omega arith in
    let sg : s < suc a.k = omega arith in
    let far : (l - 1) * suc a.k + s < a.m = omega (arith, digits_lt ll sg, share_fits a.m a.k) in
    let far' : (l - 1) * g + s < a.m = subst (λ (z : ℕ). (l - 1) * z + s < a.m) (sym (add-one a.k)) far in (
      s,
      sk,
      tuple_at l g a.codes t i j s (omega arith) (omega arith)
          (λ x lt. ap (λ z. same a.codes t i j z) (add_comm s (x * g)) ∙
          (ap (λ z. same a.codes t i j (x * z + s)) (add-one a.k) ∙ r.2 x lt)),
    )

-- both of them, by how far apart the codes of a tuple lie
pub tuples_necessary : (wide : Bool) → Necessary (tuple_rule wide) (tuple_reach wide)
tuples_necessary true = gapped_necessary
tuples_necessary false = continuous_necessary
