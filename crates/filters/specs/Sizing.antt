-- A question's tuples have sizes that their numbers and their index take.
use Rattle.std.specs.Prelude.{◌≡◌, ℕ, zero, suc, ◌+◌, ◌-◌, ◌*◌, ◌<◌, ◌≤◌, Bool, true, false, cond, List, length, take, Ok, Err, Result, nat_lt, refl}
use Rattle.std.proofs.Common.{sym, ap, subst, ◌∙◌, arith, mul-suc, mul-one, add-one, length-take-le}
use Rattle.std.proofs.Math.Arith.{digits_lt}
use Rattle.filters.specs.Matching.{Question}
use Rattle.filters.specs.Questions.{question, Sizes, share}
use Rattle.filters.specs.Filters.{verdict, Fair, Below, StandsFor, Rule, Reach, pattern_of, Rowed}
use Rattle.filters.specs.declared.refusal.Refusal.{Refusal}
use Rattle.filters.specs.declared.refusal.Refusal.TheVariants.{QueryTooLong, BadLength}
use Rattle.filters.specs.Sharing.{share_fits, share_some}
use Rattle.filters.specs.Tuples.{Sized, tuple_number, starts}
use Rattle.filters.specs.Chains.{Heads, Links, Chained}
use Rattle.filters.specs.Rules.{gap, numbers, tuples, tuple_rule, tuple_reach}

-- the span of the wider tuples is below m
pub wide_span : (m k : ℕ) → k < m → (share m k - 1) * (k + 1) < m
wide_span m k h =
    let l : ℕ = share m k in
    let f : l * suc k ≤ m = share_fits m k in
    let s : 0 < l = share_some m k h in
    let lt : l - 1 < l = omega arith in
    let z : 0 < suc k = omega arith in
    let d : (l - 1) * suc k + 0 < m = omega (arith, digits_lt lt z, f) in
    subst (λ (y : ℕ). (l - 1) * y < m) (sym (add-one k)) (let w : (l - 1) * suc k < m = omega arith in w)

pub share_le : (m k : ℕ) → share m k ≤ m
share_le m k =
    let f = share_fits m k in
    let g = mul-suc (share m k) k in
    omega arith

pub sized_of : (wide : Bool) (q m k : ℕ) → Sizes q m k → 0 < q → Sized (share m k) (gap wide k) q
sized_of true q m k s some =
    let km : k < m = s.4 some in
    record { some = share_some m k km; short = omega (arith, share_le m k, s.1); apart = omega arith; near = omega (arith, s.3); fits = omega (arith, wide_span m k km, s.2) }
sized_of false q m k s some =
    let km : k < m = s.4 some in
    let l0 = share_some m k km in
    record { some = l0; short = omega (arith, share_le m k, s.1); apart = omega arith; near = omega arith; fits = omega (arith, share_le m k, s.2, mul-one (share m k - 1)) }

no_window : (b : Bool) → ◌≡◌ {A = Result (Unit {0}) Refusal} (Ok tt) (cond b (Err QueryTooLong) (Err BadLength)) → ⊥
no_window true e = let z : ◌≡◌ {A = ℕ} 0 1 = cc in omega arith
no_window false e = let z : ◌≡◌ {A = ℕ} 0 1 = cc in omega arith

pub verdict_some : (q m k : ℕ) → Ok tt ≡ verdict q m k → 0 < m
verdict_some q zero k e = absurd (no_window (nat_lt 1024 q) e)
verdict_some q (suc m) k e = omega arith

pub fair_sizes : (a : Question) → Fair a → Sizes (length a.codes) a.m a.k
fair_sizes a f = (f.few, f.short, f.room, f.slack, f.asks)

-- the sizes as a filter hands them on
pub sized_at : (wide : Bool) (a : Question) (l g : ℕ) (xs : List ℕ) → Fair a → 0 < length a.codes → xs ≡ a.codes → l ≡ share a.m a.k → g ≡ gap wide a.k → Sized l g (length xs)
sized_at wide a l g xs f some ex el eg = rw (ex, el, eg) (sized_of wide (length a.codes) a.m a.k (fair_sizes a f) some)

pub long_at : (codes : List ℕ) (q m k : ℕ) (xs : List ℕ) → Sizes q m k → length codes ≡ 1024 → xs ≡ take q codes → length xs ≡ q
long_at codes q m k xs z full ex =
    let q4 : q ≤ length codes = omega (arith, z.0, full) in
    ap length ex ∙ length-take-le q codes q4

pub chained_at : (wide : Bool) (a : Question) (l g : ℕ) (xs heads links : List ℕ) → length heads ≡ 1021 → length links ≡ 1024 →
    Heads (numbers wide a) (tuples wide a) heads → Links (numbers wide a) (tuples wide a) links →
    xs ≡ a.codes → l ≡ share a.m a.k → g ≡ gap wide a.k → Chained (tuple_number l g xs) (starts l g (length xs)) heads links
chained_at wide a l g xs heads links full long head link ex el eg = rw (ex, el, eg) (record { wide = full; long = long; head = head; link = link })

pub rowed_kind : (w v : Bool) (a : Question) (t : List ℕ) (j : ℕ) (b b' : List ℕ) (r : Result ℕ Refusal) → w ≡ v → Rowed (pattern_of (tuple_rule w) (tuple_reach w) a) t j b b' r → Rowed (pattern_of (tuple_rule v) (tuple_reach v) a) t j b b' r
rowed_kind w v a t j b b' r e h = subst (λ (z : Bool). Rowed (pattern_of (tuple_rule z) (tuple_reach z) a) t j b b' r) e h

pub share_short : (q m k : ℕ) → Sizes q m k → m - share m k < 512
share_short zero m k s = omega (arith, s.2)
share_short (suc q) m k s = let km : k < m = s.4 (omega arith) in omega (arith, share_some m k km, s.1)

pub reach_short : (wide : Bool) (a : Question) → Fair a → tuple_reach wide a.m a.k < 512
reach_short true a f = omega (arith, f.slack)
reach_short false a f = share_short (length a.codes) a.m a.k (fair_sizes a f)

pub reach_below : (wide : Bool) → Below (tuple_reach wide)
reach_below true m k h = h
reach_below false m k h = omega (arith, share_some m k h)

pub reach_unasked : (wide : Bool) → tuple_reach wide 0 0 ≡ 0
reach_unasked true = refl
reach_unasked false = refl

pub fair_of : (codes : List ℕ) (q m k : ℕ) → Sizes q m k → length codes ≡ 1024 → Fair (question codes q m k)
fair_of codes q m k s full =
    let q4 : q ≤ length codes = omega (arith, s.0) in
    let e : length (take q codes) ≡ q = length-take-le q codes q4 in
    record { few = omega (arith, s.0); short = s.1; room = omega (arith, s.2); slack = s.3; asks = λ h. s.4 (omega arith) }

pub stands_of : (rule : Rule) (reach : Reach) (b a : Question) → b ≡ a → Fair b → StandsFor rule reach (pattern_of rule reach b) a
stands_of rule reach b a e f = subst (λ (z : Question). StandsFor rule reach (pattern_of rule reach b) z) e (record { fair = f; size = refl; span = refl; marks = λ t i j. refl })
