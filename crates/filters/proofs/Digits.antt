-- Digits to the base 640, the first the highest, and their sum with powers.
use Rattle.std.proofs.Common.{◌≡◌, ℕ, zero, suc, ◌+◌, ◌-◌, ◌*◌, ◌/◌, ◌%◌, ◌^◌, ◌<◌, ◌≤◌, List, get_or, sym, refl, ap, ◌∙◌, mul-le-mul_right, mul_assoc, suc-mul, mul_comm, add-mul, pow-suc, mul-add, add-one, arith}
use native.Mathlib.Nat.{pow-zero, div-add-mod, mul-add-mod_self_left, add-mul-mod_self_left}
use Rattle.filters.specs.Matching.{sum}
use Rattle.filters.specs.Tuples.{tuple_number}

-- the digits d 0, d 1, .. d (n - 1) as one number
abbrev pub digits : (ℕ → ℕ) → ℕ → ℕ
digits d zero = 0
digits d (suc n) = digits d n * 640 + d n

pub sum_ext : (n : ℕ) (e f : ℕ → ℕ) → ((x : ℕ) → x < n → e x ≡ f x) → sum n e ≡ sum n f
sum_ext zero e f h = refl
sum_ext (suc n) e f h =
    let a = sum_ext n e f (λ x l. h x (omega arith)) in
    let b = h n (omega arith) in
    omega arith

pub sum_times : (n k : ℕ) (f : ℕ → ℕ) → sum n (λ x. f x * k) ≡ sum n f * k
sum_times zero k f = omega arith
sum_times (suc n) k f =
    let a = sum_times n k f in
    let b = add-mul (sum n f) (f n) k in
    omega arith

pub digits_sum : (d : ℕ → ℕ) (n : ℕ) → sum n (λ x. d x * 640 ^ (n - 1 - x)) ≡ digits d n
digits_sum d zero = refl
digits_sum d (suc n) =
    let inner = sum_ext n (λ x. d x * 640 ^ (suc n - 1 - x)) (λ x. d x * 640 ^ (n - 1 - x) * 640)
    (λ x l.
    let e : suc n - 1 - x ≡ suc (n - 1 - x) = omega arith in
    ap (λ z. d x * 640 ^ z) e ∙ (ap (λ z. d x * z) (pow-suc 640 (n - 1 - x)) ∙ sym (mul_assoc (d x) (640 ^ (n - 1 - x)) 640))) in
    let outer = sum_times n 640 (λ x. d x * 640 ^ (n - 1 - x)) in
    let ih = digits_sum d n in
    let e : suc n - 1 - n ≡ 0 = omega arith in
    let one : d n * 640 ^ (suc n - 1 - n) ≡ d n = ap (λ z. d n * 640 ^ z) e ∙ (omega arith) in
    omega arith

-- the first digit taken off
pub digits_first : (d : ℕ → ℕ) (n : ℕ) → digits d (suc n) ≡ d 0 * 640 ^ n + digits (λ x. d (suc x)) n
digits_first d zero = omega (arith, pow-zero 640)
digits_first d (suc n) =
    let ih = digits_first d n in
    let p = pow-suc 640 n in
    let q = mul_assoc (d 0) (640 ^ n) 640 in
    let r = ap (λ z. d 0 * z) p in
    omega arith

pub mul_mod : (a b m : ℕ) → a * (b % m) % m ≡ a * b % m
mul_mod a b m =
    let e = div-add-mod b m in
    let f : a * b ≡ m * (a * (b / m)) + a * (b % m) =
    ap (λ z. a * z) (sym e) ∙ (mul-add a (m * (b / m)) (b % m) ∙
    ap (λ z. z + a * (b % m)) (sym (mul_assoc a m (b / m)) ∙ (ap (λ z. z * (b / m)) (mul_comm a m) ∙ mul_assoc m a (b / m)))) in
    sym (ap (λ z. z % m) f ∙ mul-add-mod_self_left m (a * (b / m)) (a * (b % m)))

pub digits_more : (d : ℕ → ℕ) (n : ℕ) → digits d (n + 1) ≡ digits d n * 640 + d n
digits_more d n = rw (add-one n)

-- the digits of the tuple from i
abbrev pub digit : List ℕ → ℕ → ℕ → ℕ → ℕ
digit xs g i x = get_or xs (i + x * g) 0

pub number_digits : (l g : ℕ) (xs : List ℕ) (i : ℕ) → tuple_number l g xs i ≡ digits (digit xs g i) l % 1021
unfolding tuple_number
number_digits l g xs i = ap (λ z. z % 1021) (digits_sum (digit xs g i) l)

pub digits_ext : (n : ℕ) (e f : ℕ → ℕ) → ((x : ℕ) → x < n → e x ≡ f x) → digits e n ≡ digits f n
digits_ext zero e f h = refl
digits_ext (suc n) e f h =
    let a = digits_ext n e f (λ x l. h x (omega arith)) in
    let b = h n (omega arith) in
    omega arith

pub number_small : (l g : ℕ) (xs : List ℕ) (i : ℕ) → tuple_number l g xs i < 1021
number_small l g xs i = let e = number_digits l g xs i in omega arith

pub out_in : (a b c v d : ℕ) → v ≡ (a + b) % 1021 → d ≡ a % 1021 → ((v + 1021 - d) * 640 + c) % 1021 ≡ (b * 640 + c) % 1021
out_in a b c v d e f =
    let q : ℕ = (a + b) / 1021 in
    let r : ℕ = a / 1021 in
    let eq : 1021 * q + v ≡ a + b = ap (λ z. 1021 * q + z) e ∙ div-add-mod (a + b) 1021 in
    let er : 1021 * r + d ≡ a = ap (λ z. 1021 * r + z) f ∙ div-add-mod a 1021 in
    let small : d < 1021 = omega arith in
    let both : (v + 1021 - d) * 640 + c + 1021 * (640 * q) ≡ b * 640 + c + 1021 * (640 * (1 + r)) = omega (arith, eq, er, small) in
    sym (add-mul-mod_self_left ((v + 1021 - d) * 640 + c) 1021 (640 * q)) ∙ (ap (λ z. z % 1021) both ∙
    add-mul-mod_self_left (b * 640 + c) 1021 (640 * (1 + r)))

-- the number of the tuple from i + g, from that of the tuple from i
pub rolls : (l g : ℕ) (xs : List ℕ) (i p : ℕ) → p ≡ 640 ^ l % 1021 →
    ((tuple_number (suc l) g xs i + 1021 - get_or xs i 0 * p % 1021) * 640 + get_or xs (i + g + l * g) 0) % 1021 ≡ tuple_number (suc l) g xs (i + g)
rolls l g xs i p e =
    let n : tuple_number (suc l) g xs i ≡ (get_or xs i 0 * 640 ^ l + digits (λ x. digit xs g i (suc x)) l) % 1021 =
    number_digits (suc l) g xs i ∙ (ap (λ z. z % 1021) (digits_first (digit xs g i) l) ∙
    ap (λ z. (get_or xs z 0 * 640 ^ l + digits (λ x. digit xs g i (suc x)) l) % 1021) (omega arith)) in
    let d : get_or xs i 0 * p % 1021 ≡ get_or xs i 0 * 640 ^ l % 1021 = ap (λ z. get_or xs i 0 * z % 1021) e ∙ mul_mod (get_or xs i 0) (640 ^ l) 1021 in
    let s : digits (λ x. digit xs g i (suc x)) l ≡ digits (digit xs g (i + g)) l =
    digits_ext l (λ x. digit xs g i (suc x)) (digit xs g (i + g))
    (λ x h. ap (λ z. get_or xs z 0) (let w : i + suc x * g ≡ i + g + x * g = omega (arith, suc-mul x g) in w)) in
    out_in (get_or xs i 0 * 640 ^ l) (digits (λ x. digit xs g i (suc x)) l) (get_or xs (i + g + l * g) 0) (tuple_number (suc l) g xs i) (get_or xs i 0 * p % 1021) n d
    ∙ (ap (λ z. (z * 640 + get_or xs (i + g + l * g) 0) % 1021) s ∙ sym (number_digits (suc l) g xs (i + g)))

pub spot : (x l g : ℕ) → x < l → x * g ≤ (l - 1) * g
spot x l g h = mul-le-mul_right g (let y : x ≤ l - 1 = omega arith in y)

pub digits_step : (d : ℕ → ℕ) (n v : ℕ) → v ≡ digits d n % 1021 → (v * 640 + d n) % 1021 ≡ digits d (n + 1) % 1021
digits_step d n v e =
    let m = digits_more d n in
    let q : ℕ = digits d n / 1021 in
    let f : 1021 * q + v ≡ digits d n = ap (λ z. 1021 * q + z) e ∙ div-add-mod (digits d n) 1021 in
    let both : v * 640 + d n + 1021 * (640 * q) ≡ digits d (n + 1) = omega (arith, f, m) in
    sym (add-mul-mod_self_left (v * 640 + d n) 1021 (640 * q)) ∙ ap (λ z. z % 1021) both
