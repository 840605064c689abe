-- Round trips of stored reports: reading what was written, writing again what was read, converting there and back. Assumes nothing.
use Rattle.std.specs.Prelude.{Result, Ok, Err}
use Rattle.de9im.specs.Matrix.{Matrix}
use Rattle.de9im.specs.declared.refusal.Refusal.{Refusal}
use Prim.Native.Nat.{ℕ, suc, ◌+◌, ◌/◌, ◌%◌, ◌^◌, ◌≤◌, ◌<◌}
use mathlib.Core.Path.{◌≡◌, refl, sym, ap, subst, ◌∙◌}
use mathlib.Core.Bool.{true, false, ◌||◌}
use mathlib.Core.List.{List, [], ◌∷◌, ◌++◌, map}
use native.Mathlib.Omega.{arith}
use borrow.Author.Tests.{eqb-true, leb-false}
use lib.Dec.{eqb, leb}
use lib.ListN.{length, take, drop}
use Rattle.de9im.specs.declared.refusal.Refusal.TheVariants.{TopBits}
use Rattle.de9im.specs.Cells.{cells_of, matrix_of}
use Rattle.de9im.specs.EighteenBits.{packed_of, unpacked_of}
use Rattle.de9im.specs.Text as T
use Rattle.de9im.proofs.LawsDimension.{dim_back}
use Rattle.de9im.proofs.LawsBool.{told}
use Rattle.de9im.proofs.LawsEighteen.{packed-cells, packed-small, packed-back, unpacked-read}
use Rattle.de9im.proofs.LawsRoundTrip.{read-own, written_read}
use Rattle.frame.specs.Read.{Read, good, bad, ◌>>=◌}
use Rattle.frame.specs.Words.{byte_at, AreBytes, promised, three_bytes, three_bytes_at}
use Rattle.frame.proofs.LawsRead.{bad-good, passed}
use Rattle.report.specs.Report.{long_bytes, short_bytes, letters_of, cells_as, bits_of, cells_said, report_said, report_as, read_report}
use Rattle.report.specs.declared.reading.Report.{Report}
use Rattle.report.specs.Converting.{other_form, other_bytes}
use Rattle.report.proofs.LawsAccepted.{steps, accepted}
use Rattle.report.proofs.LawsConverting.{from_long, from-short}
use Rattle.report.proofs.LawsReport.{by-cells, top_clear}

-- ---- reading what was written, whatever follows it

abbrev Cells : List ℕ → List ℕ
Cells ns = cells_of (matrix_of ns)

-- the numbers of a matrix are as a matrix has them
cells-same : (m : Matrix) → Cells (cells_of m) ≡ cells_of m
cells-same m = simp dim_back

long_said : (ns rest : List ℕ) → cells_said (long_bytes ns ++ rest) ≡ good (Cells ns)
unfolding long_bytes cells_said letters_of
long_said ns rest = rw (read-own (matrix_of ns)) (ap good (cells-same (matrix_of ns)))

three_back : (n : ℕ) → n < 16777216 → three_bytes (n / 65536) (n / 256 % 256) (n % 256) ≡ n
three_back n h = omega arith

short-said : (ns rest : List ℕ) → cells_said (short_bytes ns ++ rest) ≡ good (Cells ns)
unfolding short_bytes cells_said
short-said ns rest =
    let small = packed-small ns in
    let back : three_bytes (packed_of ns / 65536) (packed_of ns / 256 % 256) (packed_of ns % 256) ≡ packed_of ns =
    three_back (packed_of ns) (omega (arith, small)) in
    ap bits_of back ∙ top_clear (packed_of ns) (omega (arith, small)) ∙ ap good (packed-cells ns)

pub long_read_written : (ns rest : List ℕ) → read_report (long_bytes ns ++ rest) ≡ Ok (record { cells = Cells ns; used = 12 })
unfolding long_bytes
long_read_written ns rest =
    by-cells (long_bytes ns ++ rest) (omega arith) (omega arith) refl refl refl ∙ ap (report_as 12) (long_said ns rest)

pub short_read_written : (ns rest : List ℕ) → read_report (short_bytes ns ++ rest) ≡ Ok (record { cells = Cells ns; used = 6 })
unfolding short_bytes
short_read_written ns rest =
    by-cells (short_bytes ns ++ rest) (omega arith) (omega arith) refl refl refl ∙ ap (report_as 6) (short-said ns rest)

pub six : (ns : List ℕ) → length (short_bytes ns) ≡ 6
unfolding short_bytes
six ns = refl

pub twelve : (ns : List ℕ) → length (long_bytes ns) ≡ 12
unfolding long_bytes
twelve ns = refl

-- ---- writing again what was read

letters-by : (x : Result Matrix Refusal) (ns : List ℕ) → cells_as x ≡ good ns → (m : Matrix) × (x ≡ Ok m) × (cells_of m ≡ ns)
letters-by (Ok m) ns e =
    let f : cells_of m ≡ ns = cc in
    (m, refl, f)
letters-by (Err r) ns e = bad-good e

letters-read : (t ns : List ℕ) → letters_of t ≡ good ns → (m : Matrix) × (T.read_of t ≡ Ok m) × (cells_of m ≡ ns)
unfolding letters_of
letters-read t ns e = letters-by (T.read_of t) ns e

good_same : {x y : List ℕ} → good x ≡ good y → x ≡ y
good_same e = cc

version-two : (v : ℕ) → (eqb v 1 || eqb v 2) ≡ true → eqb v 1 ≡ false → v ≡ 2
version-two v h f = eqb-true v 2 (sym (rw f refl) ∙ h)

first_three : (s : List ℕ) (n : ℕ) → 3 ≤ length s → byte_at s 0 ∷ byte_at s 1 ∷ byte_at s 2 ∷ take n (drop 3 s) ≡ take (suc (suc (suc n))) s
first_three [] n h = absurd (omega arith)
first_three (a ∷ []) n h = absurd (omega arith)
first_three (a ∷ b ∷ []) n h = absurd (omega arith)
first_three (a ∷ b ∷ c ∷ s) n h = refl

three-more : (s : List ℕ) → 6 ≤ length s → byte_at s 3 ∷ byte_at s 4 ∷ byte_at s 5 ∷ [] ≡ take 3 (drop 3 s)
three-more [] h = absurd (omega arith)
three-more (a ∷ []) h = absurd (omega arith)
three-more (a ∷ b ∷ []) h = absurd (omega arith)
three-more (a ∷ b ∷ c ∷ []) h = absurd (omega arith)
three-more (a ∷ b ∷ c ∷ d ∷ []) h = absurd (omega arith)
three-more (a ∷ b ∷ c ∷ d ∷ e ∷ []) h = absurd (omega arith)
three-more (a ∷ b ∷ c ∷ d ∷ e ∷ f ∷ s) h = refl

module _ (s ns : List ℕ) (e : report_said s ≡ good ns) where
  module _ (v : eqb (byte_at s 2) 1 ≡ true) where
    letters-here : letters_of (take 9 (drop 3 s)) ≡ good ns
    unfolding cells_said
    letters-here = sym (rw v refl) ∙ (steps s ns e).said

    -- letters are read as a matrix has them
    long-cells : Cells ns ≡ ns
    long-cells =
        let r = letters-read _ ns letters-here in
        ap Cells (sym r.2) ∙ cells-same r.0 ∙ r.2

    text-here : T.text_of (matrix_of ns) ≡ take 9 (drop 3 s)
    text-here =
        let r = letters-read _ ns letters-here in
        ap (map T.byte_of) (long-cells ∙ sym r.2) ∙ written_read (take 9 (drop 3 s)) r.0 r.1

    pub long-again : long_bytes ns ≡ take 12 s
    unfolding long_bytes
    long-again =
        let p = steps s ns e in
        let ten : promised s ≡ 10 = p.pair ∙ rw v refl in
        let b₀ : byte_at s 0 ≡ 0 = omega arith in
        let b₁ : byte_at s 1 ≡ 10 = omega arith in
        let b₂ : byte_at s 2 ≡ 1 = eqb-true _ _ v in
        let l = text-here in
        let f : byte_at s 0 ∷ byte_at s 1 ∷ byte_at s 2 ∷ take 9 (drop 3 s) ≡ take 12 s = first_three s 9 (omega (arith, p.whole)) in
        cc

  module _ (v : eqb (byte_at s 2) 1 ≡ false) where
    bits-here : bits_of (three_bytes_at s 3) ≡ good ns
    unfolding cells_said
    bits-here = sym (rw v refl) ∙ (steps s ns e).said

    clear : (three_bytes_at s 3 < 2 ^ 18) × (unpacked_of (three_bytes_at s 3) ≡ ns)
    unfolding bits_of
    clear =
        let n = three_bytes_at s 3 in
        let p = passed (leb (2 ^ 18) n) TopBits (good (unpacked_of n)) ns bits-here in
        let q : unpacked_of n ≡ ns = good_same p.1 in
        (leb-false (2 ^ 18) n p.0, q)

    short-cells : Cells ns ≡ ns
    short-cells =
        let q = clear.1 in
        ap Cells (sym q) ∙ sym (unpacked-read (three_bytes_at s 3)) ∙ q

    pub short-again : AreBytes s → short_bytes ns ≡ take 6 s
    unfolding short_bytes
    short-again small =
        let p = steps s ns e in
        let four : promised s ≡ 4 = p.pair ∙ rw v refl in
        let n = three_bytes_at s 3 in
        let is : packed_of ns ≡ n = ap packed_of (sym clear.1) ∙ packed-back n clear.0 in
        let b₀ : byte_at s 0 ≡ 0 = omega arith in
        let b₁ : byte_at s 1 ≡ 4 = omega arith in
        let b₂ : byte_at s 2 ≡ 2 = version-two (byte_at s 2) p.versed v in
        let b₃ : packed_of ns / 65536 ≡ byte_at s 3 = omega (arith, is, small 3, small 4, small 5) in
        let b₄ : packed_of ns / 256 % 256 ≡ byte_at s 4 = omega (arith, is, small 3, small 4, small 5) in
        let b₅ : packed_of ns % 256 ≡ byte_at s 5 = omega (arith, is, small 3, small 4, small 5) in
        let g = three-more s (omega (arith, p.whole)) in
        let f : byte_at s 0 ∷ byte_at s 1 ∷ byte_at s 2 ∷ take 3 (drop 3 s) ≡ take 6 s = first_three s 3 (omega (arith, p.whole)) in
        rw (b₃, b₄, b₅) (cc)

-- ---- converting

-- either form, read: the numbers are as a matrix has them
pub cells-read : (s ns : List ℕ) → report_said s ≡ good ns → Cells ns ≡ ns
cells-read s ns e = told (eqb (byte_at s 2) 1) (long-cells s ns e) (short-cells s ns e)

-- a report that says ns, converted, is read with the same numbers
module _ (s ns bs rest : List ℕ) (e : report_said s ≡ good ns) (o : other_bytes s ≡ good bs) where
  short-bytes : eqb (byte_at s 2) 1 ≡ true → short_bytes ns ≡ bs
  short-bytes v = good_same (sym (from_long s ns e v) ∙ o)

  long-bytes : eqb (byte_at s 2) 1 ≡ false → long_bytes ns ≡ bs
  long-bytes v = good_same (sym (from-short s ns e v) ∙ o)

  abbrev Says : List ℕ → Type 0
  Says x = read_report (x ++ rest) ≡ Ok (record { cells = ns; used = length x })

  says : (n : ℕ) (x : List ℕ) → read_report (x ++ rest) ≡ Ok (record { cells = Cells ns; used = n }) → length x ≡ n → Says x
  says n x r h = r ∙ rw (cells-read s ns e, h) refl

  pub same-cells : read_report (bs ++ rest) ≡ Ok (record { cells = ns; used = length bs })
  same-cells = told (eqb (byte_at s 2) 1)
      (λ v. subst Says (short-bytes v) (says 6 (short_bytes ns) (short_read_written ns rest) (six ns)))
      (λ v. subst Says (long-bytes v) (says 12 (long_bytes ns) (long_read_written ns rest) (twelve ns)))

-- the numbers that were said, if any were
abbrev sayings : Read (List ℕ) → List ℕ
sayings (good ns) = ns
sayings (bad r) = []

-- there and back gives the first bytes again, whatever follows
module _ (s ns rest : List ℕ) (small : AreBytes s) (e : report_said s ≡ good ns) where
  read_back : (x : List ℕ) (n : ℕ) → read_report x ≡ Ok (record { cells = Cells ns; used = n }) → report_said x ≡ good ns
  read_back x n r = (accepted x _ r).1 ∙ ap good (cells-read s ns e)

  back_long : eqb (byte_at s 2) 1 ≡ true → other_bytes (short_bytes ns ++ rest) ≡ good (take (2 + promised s) s)
  unfolding short_bytes
  back_long v =
      let x = short_bytes ns ++ rest in
      let n : promised s ≡ 10 = (steps s ns e).pair ∙ rw v refl in
      from-short x ns (read_back x 6 (short_read_written ns rest)) refl ∙ ap good (long-again s ns e v ∙ rw n refl)

  back-short : eqb (byte_at s 2) 1 ≡ false → other_bytes (long_bytes ns ++ rest) ≡ good (take (2 + promised s) s)
  unfolding long_bytes
  back-short v =
      let x = long_bytes ns ++ rest in
      let n : promised s ≡ 4 = (steps s ns e).pair ∙ rw v refl in
      from_long x ns (read_back x 12 (long_read_written ns rest)) refl ∙ ap good (short-again s ns e v small ∙ rw n refl)

-- what a report says that is converted
said-by : (f : List ℕ → List ℕ) (x : Read (List ℕ)) (bs : List ℕ) → (x >>= λ ns. good (f ns)) ≡ good bs → x ≡ good (sayings x)
said-by f (good ns) bs e = refl
said-by f (bad r) bs e = bad-good e

converted_said : (s bs : List ℕ) → other_bytes s ≡ good bs → report_said s ≡ good (sayings (report_said s))
unfolding other_bytes
converted_said s bs o = said-by (other_form s) (report_said s) bs o

pub there_and_back : (s bs rest : List ℕ) → AreBytes s → other_bytes s ≡ good bs → other_bytes (bs ++ rest) ≡ good (take (2 + promised s) s)
there_and_back s bs rest small o =
    let ns = sayings (report_said s) in
    let e = converted_said s bs o in
    told (eqb (byte_at s 2) 1)
    (λ v. ap (λ (x : List ℕ). other_bytes (x ++ rest)) (sym (short-bytes s ns bs rest e o v)) ∙ back_long s ns rest small e v)
    (λ v. ap (λ (x : List ℕ). other_bytes (x ++ rest)) (sym (long-bytes s ns bs rest e o v)) ∙ back-short s ns rest small e v)

-- and a converted report is read as the first one is, which is accepted
pub same-matrix : (s bs rest : List ℕ) → other_bytes s ≡ good bs
    → (a : Report) × (read_report s ≡ Ok a) × (read_report (bs ++ rest) ≡ Ok (record { cells = a.cells; used = length bs }))
unfolding read_report
same-matrix s bs rest o =
    let ns = sayings (report_said s) in
    let e = converted_said s bs o in
    (record { cells = ns; used = 2 + promised s }, ap (report_as (2 + promised s)) e, same-cells s ns bs rest e o)
