-- What reading a file answers is what the file holds, or its first fault. Assumes nothing.
use Rattle.std.proofs.Common.{◌≡◌, ℕ, zero, suc, ◌+◌, ◌-◌, ◌*◌, ◌<◌, ◌≤◌, ◌&&◌, eqb, ltb, leb, ◌⊎◌, List, [], ◌∷◌, ◌++◌, length, get_or, take, drop, Ok, Err, Result, sym, refl, ap, ◌∙◌, subst, inl, inr, ⊎_elim, append_assoc, append-nil, not-suc-le-zero, arith, length-append, length-drop, get_or-drop}
use Rattle.std.proofs.lemmas.List.{drop-drop, drop_all}
use Rattle.std.proofs.lemmas.Bool.{cond_both, and_parts, and_cases, leb-true, leb-false, ltb-true, ltb-false, eqb-true, eqb-false}
use Rattle.trace.specs.Told.{Told, fault}
use Rattle.trace.specs.Kinds.{kinds, Within}
use Rattle.trace.specs.Numbers.{Number, found, none, number, scaled, spelled, value_of, SevenBits}
use Rattle.trace.specs.Files.{Read, Head, Trace, and_then, ranged, number_at, fields_at, samples_at, headed, counted, of_kind, head_of, ended, bodied, trace_file}
use Rattle.trace.specs.Spelling.{Begins, Spells, flat, AllWithin, Machine, Count, Fair, numbers, Holds, Due, due_kind, due_machine, due_count, due_field, Follow, Wrong, cut, long, range, FirstFault, wrong, other, left, Meant, ReadOrRefused}
use Rattle.trace.proofs.Spelling.{spelled_length, begins_found, begins_rest, begins_lies, held}
use Rattle.trace.proofs.Faults.{faulty}

-- each is a byte
abbrev pub Bytes : List ℕ → Type 0
Bytes bytes = (i : ℕ) → get_or bytes i 0 < 256

bytes_drop : (file : List ℕ) (at : ℕ) → Bytes file → Bytes (drop at file)
bytes_drop file at h i = subst (λ b. b < 256) (sym (get_or-drop at file i 0)) (h (at + i))

-- the groups of a number of at most n bytes that takes k
record Spelt (n : ℕ) (bytes : List ℕ) (v k : ℕ) : Type 0 where
  groups : List ℕ
  some : 1 ≤ length groups
  few : length groups ≤ n
  each : SevenBits groups
  value : value_of groups ≡ v
  size : length groups ≡ k
  is : bytes ≡ spelled groups ++ drop k bytes

-- what is found at the front of the bytes stands there
abbrev Numbered : ℕ → List ℕ → Number → Type 0
Numbered n bytes (found v k) = Spelt n bytes v k
Numbered n bytes (none e) = ((e ≡ 4) × (length bytes < n) × Follow bytes) ⊎ ((e ≡ 5) × (n ≤ length bytes) × Follow (take n bytes))

spelled_more : (g : ℕ) (gs : List ℕ) → 1 ≤ length gs → spelled (g ∷ gs) ≡ (g + 128) ∷ spelled gs
spelled_more g [] h = absurd (not-suc-le-zero h)
spelled_more g (h ∷ gs) l = refl

-- a byte in front that says that another follows
numbered_more : (n b : ℕ) (bs : List ℕ) (r : Number) → 128 ≤ b → b < 256 → Numbered n bs r → Numbered (suc n) (b ∷ bs) (scaled (b - 128) r)
numbered_more n b bs (found v k) h l w =
    let low : b - 128 + 128 ≡ b = omega arith in
    record {
      groups = (b - 128) ∷ w.groups;
      some = omega arith;
      few = omega (arith, w.few);
      each = (omega arith, w.each);
      value = ap (λ x. b - 128 + 128 * x) w.value;
      size = ap suc w.size;
      is = ap (λ xs. b ∷ xs) w.is ∙ ap (λ x. x ∷ (spelled w.groups ++ drop k bs)) (sym low) ∙ ap (λ xs. xs ++ drop k bs) (sym (spelled_more (b - 128) w.groups w.some));
    }
numbered_more n b bs (none e) h l (inl w) = inl (w.0, omega (arith, w.1), (h, w.2))
numbered_more n b bs (none e) h l (inr w) = inr (w.0, omega (arith, w.1), (h, w.2))

numbered : (n : ℕ) (bytes : List ℕ) → Bytes bytes → Numbered n bytes (number n bytes)
numbered zero bytes h = inr (refl, omega arith, tt)
numbered (suc n) [] h = inl (refl, omega arith, tt)
numbered (suc n) (b ∷ bs) h =
    cond_both (ltb b 128) _ _ (Numbered (suc n) (b ∷ bs))
    (λ t. record { groups = b ∷ []; some = omega arith; few = omega arith; each = (ltb-true b 128 t, tt); value = omega arith; size = refl; is = refl })
    (λ t. numbered_more n b bs (number n bs) (ltb-false b 128 t) (h 0) (numbered n bs (λ i. h (suc i))))

-- a number at a place: it stands there, in its range, or it is wrong
abbrev NumberMeant : ℕ → ℕ → ℕ → List ℕ → ℕ → Result (Read ℕ) Told → Type 0
NumberMeant low high f file at (Ok x) = Begins x.value (drop at file) (drop x.next file) × (low ≤ x.value) × (x.value ≤ high) × (x.next ≤ length file)
NumberMeant low high f file at (Err e) = (cause : ℕ) × (e ≡ fault cause at f) × Wrong low high (drop at file) cause

module _ (low high f : ℕ) (file : List ℕ) (at : ℕ) (la : at ≤ length file) where
  ranged_meant : (r : Number) → Numbered 3 (drop at file) r → NumberMeant low high f file at (ranged low high f at r)
  ranged_meant (found v k) w =
      let begins : Begins v (drop at file) (drop (at + k) file) =
      record { groups = w.groups; sized = record { some = w.some; few = w.few; each = w.each }; value = w.value; is = w.is ∙ ap (λ xs. spelled w.groups ++ xs) (drop-drop k at file) } in
      let lies : at + k ≤ length file = omega (arith, w.size, spelled_length w.groups, length-drop at file, simp length-append at (ap length w.is)) in
      cond_both (leb low v && leb v high) _ _ (NumberMeant low high f file at)
      (λ t. let p = and_parts _ _ t in (begins, leb-true low v p.0, leb-true v high p.1, lies))
      (λ t. (6, refl, range v _ begins (⊎_elim (λ e. inl (leb-false low v e)) (λ e. inr (leb-false v high e)) (and_cases _ _ t))))
  ranged_meant (none e) (inl w) = (4, ap (λ c. fault c at f) w.0, cut w.1 w.2)
  ranged_meant (none e) (inr w) = (5, ap (λ c. fault c at f) w.0, long w.1 w.2)

  number_meant : Bytes file → NumberMeant low high f file at (number_at low high f file at)
  number_meant h = ranged_meant (number 3 (drop at file)) (numbered 3 (drop at file) (bytes_drop file at h))

-- a sample's fields that are read stand there, within their largest values
record Fields-read (tops so file : List ℕ) (at : ℕ) (x : Read (List ℕ)) : Type 0 where
  xs : List ℕ
  is : x.value ≡ so ++ xs
  within : Within xs tops
  spells : Spells xs (drop at file) (drop x.next file)
  lies : x.next ≤ length file

-- or one of them is wrong, and those before it are as they should be
record FieldWrong (tops file : List ℕ) (at : ℕ) (e : Told) : Type 0 where
  part : List ℕ
  before : List ℕ
  top : ℕ
  later : List ℕ
  place : ℕ
  cause : ℕ
  is : e ≡ fault cause place 3
  tops_are : tops ≡ before ++ (top ∷ later)
  within : Within part before
  lies : place ≤ length file
  spells : Spells part (drop at file) (drop place file)
  fault_is : Wrong 0 top (drop place file) cause

abbrev FieldsMeant : List ℕ → List ℕ → List ℕ → ℕ → Result (Read (List ℕ)) Told → Type 0
FieldsMeant tops so file at (Ok x) = Fields-read tops so file at x
FieldsMeant tops so file at (Err e) = FieldWrong tops file at e

module _ (file : List ℕ) (h : Bytes file) where
  -- one field more in front
  field_before : (t : ℕ) (ts so : List ℕ) (at : ℕ) (x : Read ℕ) → NumberMeant 0 t 3 file at (Ok x) → (r : Result (Read (List ℕ)) Told) → FieldsMeant ts (so ++ (x.value ∷ [])) file x.next r → FieldsMeant (t ∷ ts) so file at r
  field_before t ts so at x m (Ok y) w =
      record { xs = x.value ∷ w.xs; is = w.is ∙ append_assoc so (x.value ∷ []) w.xs; within = (m.2, w.within); spells = (drop x.next file, m.0, w.spells); lies = w.lies }
  field_before t ts so at x m (Err e) w =
      record {
        part = x.value ∷ w.part;
        before = t ∷ w.before;
        top = w.top;
        later = w.later;
        place = w.place;
        cause = w.cause;
        is = w.is;
        tops_are = ap (λ l. t ∷ l) w.tops_are;
        within = (m.2, w.within);
        lies = w.lies;
        spells = (drop x.next file, m.0, w.spells);
        fault_is = w.fault_is;
      }

  -- the fields behind the first are meant
  abbrev Behind : List ℕ → Type 0
  Behind ts = (so : List ℕ) (at : ℕ) → at ≤ length file → FieldsMeant ts so file at (fields_at ts so file at)

  fields_then : (t : ℕ) (ts so : List ℕ) (at : ℕ) → at ≤ length file → Behind ts → (r : Result (Read ℕ) Told) → NumberMeant 0 t 3 file at r → FieldsMeant (t ∷ ts) so file at (and_then r (λ x. fields_at ts (so ++ (x.value ∷ [])) file x.next))
  fields_then t ts so at la behind (Ok x) m = field_before t ts so at x m _ (behind (so ++ (x.value ∷ [])) x.next m.3)
  fields_then t ts so at la behind (Err e) m =
      record {
        part = [];
        before = [];
        top = t;
        later = ts;
        place = at;
        cause = m.0;
        is = m.1;
        tops_are = refl;
        within = tt;
        lies = la;
        spells = refl;
        fault_is = m.2;
      }

  fields_meant : (tops : List ℕ) → Behind tops
  fields_meant [] so at la = record { xs = []; is = sym (append-nil so); within = tt; spells = refl; lies = la }
  fields_meant (t ∷ ts) so at la = fields_then t ts so at la (fields_meant ts) (number_at 0 t 3 file at) (number_meant 0 t 3 file at la h)

-- numbers that stand behind one another, put together
spells_join : (xs ys bytes mid rest : List ℕ) → Spells xs bytes mid → Spells ys mid rest → Spells (xs ++ ys) bytes rest
spells_join [] ys bytes mid rest s t = subst (λ l. Spells ys l rest) (sym s) t
spells_join (x ∷ xs) ys bytes mid rest s t = (s.0, s.1, spells_join xs ys s.0 mid rest s.2 t)

-- n samples that are read stand there
record Samples-read (tops : List ℕ) (n : ℕ) (so : List (List ℕ)) (file : List ℕ) (at : ℕ) (x : Read (List (List ℕ))) : Type 0 where
  xs : List (List ℕ)
  is : x.value ≡ so ++ xs
  many : length xs ≡ n
  within : AllWithin tops xs
  spells : Spells (flat xs) (drop at file) (drop x.next file)
  lies : x.next ≤ length file

-- or a field of one of them is wrong, and all before it is as it should be
record SampleWrong (tops : List ℕ) (n : ℕ) (file : List ℕ) (at : ℕ) (e : Told) : Type 0 where
  xs : List (List ℕ)
  some : length xs < n
  within : AllWithin tops xs
  mid : ℕ
  spells : Spells (flat xs) (drop at file) (drop mid file)
  field : FieldWrong tops file mid e

abbrev SamplesMeant : List ℕ → ℕ → List (List ℕ) → List ℕ → ℕ → Result (Read (List (List ℕ))) Told → Type 0
SamplesMeant tops n so file at (Ok x) = Samples-read tops n so file at x
SamplesMeant tops n so file at (Err e) = SampleWrong tops n file at e

module _ (tops file : List ℕ) (h : Bytes file) where
  -- one sample more in front
  sample_before : (n : ℕ) (so : List (List ℕ)) (at : ℕ) (x : Read (List ℕ)) → Fields-read tops [] file at x → (r : Result (Read (List (List ℕ))) Told) → SamplesMeant tops n (so ++ (x.value ∷ [])) file x.next r → SamplesMeant tops (suc n) so file at r
  sample_before n so at x f (Ok y) w =
      record {
        xs = x.value ∷ w.xs;
        is = w.is ∙ append_assoc so (x.value ∷ []) w.xs;
        many = ap suc w.many;
        within = (subst (λ l. Within l tops) (sym f.is) f.within, w.within);
        spells = spells_join x.value (flat w.xs) (drop at file) (drop x.next file) (drop y.next file) (subst (λ l. Spells l (drop at file) (drop x.next file)) (sym f.is) f.spells) w.spells;
        lies = w.lies;
      }
  sample_before n so at x f (Err e) w =
      record {
        xs = x.value ∷ w.xs;
        some = omega (arith, w.some);
        within = (subst (λ l. Within l tops) (sym f.is) f.within, w.within);
        mid = w.mid;
        spells = spells_join x.value (flat w.xs) (drop at file) (drop x.next file) (drop w.mid file) (subst (λ l. Spells l (drop at file) (drop x.next file)) (sym f.is) f.spells) w.spells;
        field = w.field;
      }

  abbrev Later : ℕ → Type 0
  Later n = (so : List (List ℕ)) (at : ℕ) → at ≤ length file → SamplesMeant tops n so file at (samples_at tops n so file at)

  samples_then : (n : ℕ) (so : List (List ℕ)) (at : ℕ) → Later n → (r : Result (Read (List ℕ)) Told) → FieldsMeant tops [] file at r → SamplesMeant tops (suc n) so file at (and_then r (λ x. samples_at tops n (so ++ (x.value ∷ [])) file x.next))
  samples_then n so at later (Ok x) f = sample_before n so at x f _ (later (so ++ (x.value ∷ [])) x.next f.lies)
  samples_then n so at later (Err e) f = record { xs = []; some = omega arith; within = tt; mid = at; spells = refl; field = f }

  samples_meant : (n : ℕ) → Later n
  samples_meant zero so at la = record { xs = []; is = sym (append-nil so); many = refl; within = tt; spells = refl; lies = la }
  samples_meant (suc n) so at la = samples_then n so at (samples_meant n) (fields_at tops [] file at) (fields_meant file h tops [] at la)

-- the head of a file of this kind stands at its front, or the file's first fault lies there
record HeadRead (kind : ℕ) (file : List ℕ) (x : Read Head) : Type 0 where
  machine : Machine x.value.machine
  count : Count x.value.count
  spells : Spells (kind ∷ x.value.machine ∷ x.value.count ∷ []) file (drop x.next file)
  lies : x.next ≤ length file

abbrev HeadMeant : ℕ → List ℕ → List ℕ → Result (Read Head) Told → Type 0
HeadMeant kind tops file (Ok x) = HeadRead kind file x
HeadMeant kind tops file (Err e) = FirstFault kind tops file e

module _ (kind : ℕ) (tops file : List ℕ) (h : Bytes file) where
  -- a wrong number where one is due is the first fault
  number_wrong : (before : List ℕ) (f low high at : ℕ) (e : Told) → at ≤ length file → Due kind tops before f low high → Spells before file (drop at file) → NumberMeant low high f file at (Err e) → FirstFault kind tops file e
  number_wrong before f low high at e la due s m = subst (FirstFault kind tops file) (sym m.1) (wrong before f low high at m.0 due la s m.2)

  module _ (k : Read ℕ) (begins : Begins kind file (drop k.next file)) where
    count_meant : (m : Read ℕ) → Machine m.value → Begins m.value (drop k.next file) (drop m.next file) → m.next ≤ length file → (r : Result (Read ℕ) Told) → NumberMeant 1 4096 2 file m.next r → HeadMeant kind tops file (and_then r (headed m))
    count_meant m fair b lm (Ok c) w =
        record { machine = fair; count = (w.1, w.2); spells = (drop k.next file, begins, (drop m.next file, b, (drop c.next file, w.0, refl))); lies = w.3 }
    count_meant m fair b lm (Err e) w =
        number_wrong (kind ∷ m.value ∷ []) 2 1 4096 m.next e lm (due_count m.value fair) (drop k.next file, begins, (drop m.next file, b, refl)) w

    machine_meant : k.next ≤ length file → (r : Result (Read ℕ) Told) → NumberMeant 1 65535 1 file k.next r → HeadMeant kind tops file (and_then r (counted file))
    machine_meant lk (Ok m) w = count_meant m (w.1, w.2) w.0 w.3 (number_at 1 4096 2 file m.next) (number_meant 1 4096 2 file m.next w.3 h)
    machine_meant lk (Err e) w = number_wrong (kind ∷ []) 1 1 65535 k.next e lk due_machine (drop k.next file, begins, refl) w

  kind_meant : (r : Result (Read ℕ) Told) → NumberMeant 1 kinds 0 file 0 r → HeadMeant kind tops file (and_then r (of_kind kind file))
  kind_meant (Ok k) w =
      cond_both (eqb k.value kind) _ _ (HeadMeant kind tops file)
      (λ t. machine_meant k (subst (λ v. Begins v file (drop k.next file)) (eqb-true k.value kind t) w.0) w.3 (number_at 1 65535 1 file k.next) (number_meant 1 65535 1 file k.next w.3 h))
      (λ t. other k.value (drop k.next file) w.0 w.1 w.2 (eqb-false k.value kind t))
  kind_meant (Err e) w = number_wrong [] 0 1 kinds 0 e (omega arith) due_kind refl w

  head_meant : HeadMeant kind tops file (head_of kind file)
  head_meant = kind_meant (number_at 1 kinds 0 file 0) (number_meant 1 kinds 0 file 0 (omega arith) h)

  module _ (x : Read Head) (w : HeadRead kind file x) where
    body_meant : (r : Result (Read (List (List ℕ))) Told) → SamplesMeant tops x.value.count [] file x.next r → Meant kind tops file (and_then r (ended file x.value.machine))
    body_meant (Ok y) b =
        let t : Trace = record { machine = x.value.machine; samples = y.value } in
        let count : length y.value ≡ x.value.count = ap length b.is ∙ b.many in
        let fair : Fair tops t = record { machine = w.machine; count = subst Count (sym count) w.count; fields = subst (AllWithin tops) (sym b.is) b.within } in
        let spells : Spells (numbers kind t) file (drop y.next file) =
        spells_join (kind ∷ x.value.machine ∷ length y.value ∷ []) (flat y.value) file (drop x.next file) (drop y.next file)
        (subst (λ n. Spells (kind ∷ x.value.machine ∷ n ∷ []) file (drop x.next file)) (sym count) w.spells) (subst (λ xs. Spells (flat xs) (drop x.next file) (drop y.next file)) (sym b.is) b.spells) in
        cond_both (leb (length file) y.next) _ _ (Meant kind tops file)
        (λ e. record { fair = fair; spells = subst (Spells (numbers kind t) file) (drop_all y.next file (leb-true _ _ e)) spells })
        (λ e. left t y.next fair (leb-false _ _ e) spells)
    body_meant (Err e) b =
        let f = b.field in
        let s = spells_join (flat b.xs) f.part (drop x.next file) (drop b.mid file) (drop f.place file) b.spells f.spells in
        number_wrong (kind ∷ x.value.machine ∷ x.value.count ∷ (flat b.xs ++ f.part)) 3 0 f.top f.place e f.lies
        (due_field x.value.machine x.value.count b.xs f.part f.before f.top f.later w.machine w.count b.within b.some f.within f.tops_are)
        (spells_join (kind ∷ x.value.machine ∷ x.value.count ∷ []) (flat b.xs ++ f.part) file (drop x.next file) (drop f.place file) w.spells s)
        (f.cause, f.is, f.fault_is)

  head_then : (r : Result (Read Head) Told) → HeadMeant kind tops file r → Meant kind tops file (and_then r (bodied tops file))
  head_then (Ok x) w = body_meant x w (samples_at tops x.value.count [] file x.next) (samples_meant tops file h x.value.count [] x.next w.lies)
  head_then (Err e) w = w

  -- what comes of reading a file is what it means
  pub meant : Meant kind tops file (trace_file kind tops file)
  meant = head_then (head_of kind file) head_meant

-- bytes begin with one number only
begins_same : (v w : ℕ) (bytes behind rest : List ℕ) → Begins v bytes behind → Begins w bytes rest → (v ≡ w) × (behind ≡ rest)
begins_same v w bytes behind rest a b =
    let p = begins_found v bytes behind a in
    let q = begins_found w bytes rest b in
    let value : v ≡ w = cc in
    let size : length a.groups ≡ length b.groups = cc in
    (value, sym (begins_rest v bytes behind a) ∙ ap (λ n. drop n bytes) size ∙ begins_rest w bytes rest b)

begins_none : (v : ℕ) (bytes rest : List ℕ) → Begins v bytes rest → bytes ≡ [] → ⊥
begins_none v bytes rest b e = let l = begins_lies v bytes rest b in omega (arith, l.0, l.1, ap length e)

-- bytes spell one list of numbers only
spells_same : (ns ms bytes : List ℕ) → Spells ns bytes [] → Spells ms bytes [] → ns ≡ ms
spells_same [] [] bytes s t = refl
spells_same [] (m ∷ ms) bytes s t = absurd (begins_none m bytes t.0 t.1 s)
spells_same (n ∷ ns) [] bytes s t = absurd (begins_none n bytes s.0 s.1 t)
spells_same (n ∷ ns) (m ∷ ms) bytes s t =
    let p = begins_same n m bytes s.0 t.0 s.1 t.1 in
    let rest = spells_same ns ms t.0 (subst (λ l. Spells ns l []) p.1 s.2) t.2 in
    ap (λ x. x ∷ ns) p.0 ∙ ap (λ l. m ∷ l) rest

pub read_or_refused : (kind : ℕ) (tops file : List ℕ) → 1 ≤ kind → kind ≤ kinds → Bytes file → ReadOrRefused kind tops file
read_or_refused kind tops file k1 k2 h =
    record {
      means = meant kind tops file h;
      held = λ t w. held kind tops file t k1 k2 w;
      faulty = faulty kind tops file k1 k2;
      padded = λ file' ns t s s' e.
          let w : Holds kind tops file t = subst (Meant kind tops file) e (meant kind tops file h) in
          held kind tops file' t k1 k2 (record { fair = w.fair; spells = subst (λ l. Spells l file' []) (spells_same ns (numbers kind t) file s w.spells) s' });
    }
