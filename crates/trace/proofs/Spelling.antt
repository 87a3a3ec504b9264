-- A file that spells the numbers of a trace is read as that trace. Assumes nothing.
use Rattle.std.proofs.Common.{◌≡◌, ℕ, suc, ◌+◌, ◌≤◌, List, [], ◌∷◌, ◌++◌, length, drop, Ok, Result, sym, refl, ap, ◌∙◌, subst, append_assoc, append-nil, arith, length-append, length-drop}
use Rattle.std.proofs.lemmas.List.{drop-drop, drop_at}
use Rattle.std.proofs.lemmas.Bool.{cond-true, and_from, le-leb}
use Rattle.trace.specs.Told.{Told}
use Rattle.trace.specs.Kinds.{kinds, Within}
use Rattle.trace.specs.Numbers.{found, number, spelled}
use Rattle.trace.specs.Files.{Read, Trace, ranged, number_at, fields_at, samples_at, head_of, trace_file}
use Rattle.trace.specs.Spelling.{Begins, Spells, flat, AllWithin, Machine, Count, Fair, numbers, Holds}
use Rattle.trace.proofs.Digits.{number_spelled}
use Rattle.trace.proofs.Chains.{then_ok, head_whole, whole}

pub spelled_length : (gs : List ℕ) → length (spelled gs) ≡ length gs
spelled_length [] = refl
spelled_length (g ∷ []) = refl
spelled_length (g ∷ h ∷ gs) = ap suc (spelled_length (h ∷ gs))

-- a number that the bytes begin with is found there
pub begins_found : (v : ℕ) (bytes rest : List ℕ) (b : Begins v bytes rest) → number 3 bytes ≡ found v (length b.groups)
begins_found v bytes rest b =
    ap (number 3) b.is ∙ number_spelled 3 b.groups rest b.sized.some b.sized.few b.sized.each ∙ ap (λ x. found x (length b.groups)) b.value

-- and the rest stands behind it
pub begins_rest : (v : ℕ) (bytes rest : List ℕ) (b : Begins v bytes rest) → drop (length b.groups) bytes ≡ rest
begins_rest v bytes rest b = ap (drop (length b.groups)) b.is ∙ drop_at (spelled b.groups) rest (length b.groups) (spelled_length b.groups)

-- it takes one byte or more, and no more than there are
pub begins_lies : (v : ℕ) (bytes rest : List ℕ) (b : Begins v bytes rest) → (1 ≤ length b.groups) × (length b.groups ≤ length bytes)
begins_lies v bytes rest b =
    (b.sized.some, omega (arith, spelled_length b.groups, simp length-append at (ap length b.is)))

-- what is read at a place of the file, with what is left behind it
pub record Gives {A : Type 0} (file : List ℕ) (r : Result (Read A) Told) (value : A) (rest : List ℕ) : Type 0 where
  pub next : ℕ
  pub is : r ≡ Ok (record { value = value; next = next })
  pub lies : next ≤ length file
  pub left : drop next file ≡ rest

module _ (file : List ℕ) where
  -- a number that is spelled at a place is read there
  pub number_gives : (low high f at v : ℕ) (rest : List ℕ) → Begins v (drop at file) rest → low ≤ v → v ≤ high → Gives file (number_at low high f file at) v rest
  number_gives low high f at v rest b above below =
      record {
        next = at + length b.groups;
        is = ap (ranged low high f at) (begins_found v (drop at file) rest b) ∙ cond-true _ _ _ (and_from _ _ (le-leb low v above) (le-leb v high below));
        lies = let l = begins_lies v (drop at file) rest b in omega (arith, l.0, l.1, length-drop at file);
        left = sym (drop-drop (length b.groups) at file) ∙ begins_rest v (drop at file) rest b;
      }

  -- fields that are spelled at a place are read there, and those behind them go on from there
  pub fields_give : (tops more so xs : List ℕ) (at : ℕ) (rest : List ℕ) → at ≤ length file → Within xs tops → Spells xs (drop at file) rest → (next : ℕ) × (fields_at (tops ++ more) so file at ≡ fields_at more (so ++ xs) file next) × (next ≤ length file) × (drop next file ≡ rest)
  fields_give [] more so [] at rest l w s = (at, ap (λ ys. fields_at more ys file at) (sym (append-nil so)), l, s)
  fields_give [] more so (x ∷ xs) at rest l w s = absurd w
  fields_give (t ∷ ts) more so [] at rest l w s = absurd w
  fields_give (t ∷ ts) more so (x ∷ xs) at rest l w s =
      let a = number_gives 0 t 3 at x s.0 s.1 (omega arith) w.0 in
      let b = fields_give ts more (so ++ (x ∷ [])) xs a.next rest a.lies w.1 (subst (λ ys. Spells xs ys rest) (sym a.left) s.2) in (
        b.0,
        then_ok (λ r. fields_at (ts ++ more) (so ++ (r.value ∷ [])) file r.next) a.is ∙ b.1 ∙ ap (λ ys. fields_at more ys file b.0) (append_assoc so (x ∷ []) xs),
        b.2,
        b.3,
      )

-- numbers that stand behind one another can be taken apart
pub spells_split : (xs ys bytes rest : List ℕ) → Spells (xs ++ ys) bytes rest → (mid : List ℕ) × Spells xs bytes mid × Spells ys mid rest
spells_split [] ys bytes rest s = (bytes, refl, s)
spells_split (x ∷ xs) ys bytes rest s = let p = spells_split xs ys s.0 rest s.2 in (p.0, (s.0, s.1, p.1), p.2)

module _ (file tops : List ℕ) where
  -- samples that are spelled at a place are read there, and those behind them go on from there
  pub samples_give : (n : ℕ) (so xs : List (List ℕ)) (at : ℕ) (rest : List ℕ) → at ≤ length file → AllWithin tops xs → Spells (flat xs) (drop at file) rest → (next : ℕ) × (samples_at tops (length xs + n) so file at ≡ samples_at tops n (so ++ xs) file next) × (next ≤ length file) × (drop next file ≡ rest)
  samples_give n so [] at rest l w s =
      (at, ap (λ k. samples_at tops k so file at) {x = length {A = List ℕ} [] + n} {y = n} (omega arith) ∙ ap (λ ys. samples_at tops n ys file at) (sym (append-nil so)), l, s)
  samples_give n so (x ∷ xs) at rest l w s =
      let p = spells_split x (flat xs) (drop at file) rest s in
      let a = fields_give file tops [] [] x at p.0 l w.0 p.1 in
      let one : fields_at tops [] file at ≡ Ok (record { value = x; next = a.0 }) = ap (λ ts. fields_at ts [] file at) (sym (append-nil tops)) ∙ a.1 in
      let b = samples_give n (so ++ (x ∷ [])) xs a.0 rest a.2 w.1 (subst (λ ys. Spells (flat xs) ys rest) (sym a.3) p.2) in (
        b.0,
        ap (λ k. samples_at tops k so file at) {x = length (x ∷ xs) + n} {y = suc (length xs + n)} (omega arith)
            ∙ then_ok (λ r. samples_at tops (length xs + n) (so ++ (r.value ∷ [])) file r.next) one ∙ b.1 ∙ ap (λ ys. samples_at tops n ys file b.0) (append_assoc so (x ∷ []) xs),
        b.2,
        b.3,
      )

-- the head that is spelled at the front of a file is read
pub head_gives : (kind machine count : ℕ) (file rest : List ℕ) → 1 ≤ kind → kind ≤ kinds → Machine machine → Count count → Spells (kind ∷ machine ∷ count ∷ []) file rest → Gives file (head_of kind file) (record { machine = machine; count = count }) rest
head_gives kind machine count file rest k1 k2 m c s =
    let a = number_gives file 1 kinds 0 0 kind s.0 s.1 k1 k2 in
    let t = subst (λ l. Spells (machine ∷ count ∷ []) l rest) (sym a.left) s.2 in
    let b = number_gives file 1 65535 1 a.next machine t.0 t.1 m.0 m.1 in
    let u = subst (λ l. Spells (count ∷ []) l rest) (sym b.left) t.2 in
    let d = number_gives file 1 4096 2 b.next count u.0 u.1 c.0 c.1 in
    record { next = d.next; is = head_whole kind file _ a.is refl _ _ b.is d.is; lies = d.lies; left = d.left ∙ u.2 }

-- a file that begins with the numbers of a trace is read up to their end
pub record Upto (kind : ℕ) (tops file : List ℕ) (t : Trace) (rest : List ℕ) : Type 0 where
  pub first : ℕ
  pub next : ℕ
  pub head : head_of kind file ≡ Ok (record { value = record { machine = t.machine; count = length t.samples }; next = first })
  pub body : samples_at tops (length t.samples) [] file first ≡ Ok (record { value = t.samples; next = next })
  pub lies : next ≤ length file
  pub left : drop next file ≡ rest

pub upto : (kind : ℕ) (tops file : List ℕ) (t : Trace) (rest : List ℕ) → 1 ≤ kind → kind ≤ kinds → Fair tops t → Spells (numbers kind t) file rest → Upto kind tops file t rest
upto kind tops file t rest k1 k2 fair s =
    let n = length t.samples in
    let p = spells_split (kind ∷ t.machine ∷ n ∷ []) (flat t.samples) file rest s in
    let h = head_gives kind t.machine n file p.0 k1 k2 fair.machine fair.count p.1 in
    let b = samples_give file tops 0 [] t.samples h.next rest h.lies fair.fields (subst (λ l. Spells (flat t.samples) l rest) (sym h.left) p.2) in
    record {
      first = h.next;
      next = b.0;
      head = h.is;
      body = ap (λ k. samples_at tops k [] file h.next) {x = n} {y = n + 0} (omega arith) ∙ b.1;
      lies = b.2;
      left = b.3;
    }

-- a file that holds a trace is read as that trace
pub held : (kind : ℕ) (tops file : List ℕ) (t : Trace) → 1 ≤ kind → kind ≤ kinds → Holds kind tops file t → trace_file kind tops file ≡ Ok t
held kind tops file t k1 k2 h =
    let u = upto kind tops file t [] k1 k2 h.fair h.spells in
    whole kind tops file _ u.head _ u.body (omega (arith, length-drop u.next file, ap length u.left))
